use Rattle.std.proofs.Common.{◌+◌, length, arith, ap, length-drop}
use Rattle.std.proofs.lemmas.List.{take_rest}
use Rattle.std.proofs.lemmas.Grind.{common_steps}
use Rattle.std.proofs.KnownBytes.{Appends-kept}
use Rattle.program_io.proofs.FrontSteps.{front_at, written_more}
use Rattle.program_io.proofs.write.write_text.Goals as goal

pub returns-in-Ok-eq0-clause-front : goal.returns-in-Ok-eq0-clause-front
returns-in-Ok-eq0-clause-front g c =
    front_at _ _ c.args.text.now (c.loop-at.at + c.in-Ok-eq0.field-0)
    (written_more _ _ _ c.args.text.now c.loop-at.at c.in-Ok-eq0.field-0 c.loop-at.invariant.written c.in-Ok-eq0.ensures.bytes)

pub loop-at-preserved-in-Ok : goal.loop-at-preserved-in-Ok
loop-at-preserved-in-Ok g c = record {
  written = written_more _ _ _ c.args.text.now c.loop-at.at c.in-Ok.count c.loop-at.invariant.written c.in-Ok.ensures.bytes;
  within = omega (arith, c.in-Ok.ensures.bound, ap length (take_rest c.args.text.now c.loop-at.at), length-drop c.loop-at.at c.args.text.now);
  fine = grind (arith, common_steps);
  patient = grind (arith, common_steps);
  fresh = grind (arith, common_steps);
}

pub returns-then-notes-clause-front : goal.returns-then-notes-clause-front
returns-then-notes-clause-front g c =
    front_at _ _ c.args.text.now c.loop-at.at (Appends-kept _ _ _ _ c.loop-at.invariant.written c.in-Err.ensures.bytes)
