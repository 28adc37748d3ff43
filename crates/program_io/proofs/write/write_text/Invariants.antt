use Rattle.std.proofs.Common.{◌≡◌, ◌<◌, ◌≤◌, ◌+◌, ◌-◌, ◌*◌, false, take, length}
use Rattle.std.specs.Io.KnownBytes.{Appends}
use Rattle.program_io.specs.Faults.{patience}
use Rattle.program_io.specs.Notes.{Cleared}
use Rattle.program_io.proofs.write.write_text.Given as goal

abbrev pub invariant-loop-at : goal.invariant-loop-at
invariant-loop-at g l = record {
  written : Appends (g.W.Write.contents l.fn.writer.end) (g.W.Write.contents l.writer.end) (take l.at l.text);
  within : l.at ≤ length l.text;
  fine : l.writer.notes.failed ≡ false;
  patient : l.writer.notes.interrupted < patience;
  fresh : Cleared l.fn.writer.resets l.writer.resets;
}

-- each write moves a byte, or adds one to the interrupted writes in a row
abbrev pub decreases-loop-at : goal.decreases-loop-at
decreases-loop-at g l = (length l.text - l.at) * 1048577 + (1048576 - l.writer.notes.interrupted)
