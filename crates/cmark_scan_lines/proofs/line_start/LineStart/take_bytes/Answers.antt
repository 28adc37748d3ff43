use Rattle.std.proofs.Common.{◌+◌, arith, length-drop}
use Rattle.cmark_scan_lines.proofs.PlaceSteps.{plain-following, plain-aligned}
use Rattle.cmark_scan_lines.proofs.LineStartSteps.{row-on}
use Rattle.cmark_scan_lines.proofs.line_start.LineStart.take_bytes.Goals as goal

pub invariant_of-self : goal.invariant_of-self
invariant_of-self c =
    let line = c.args.self.now in
    let rest = length-drop line.taken line.bytes.now in
    let within = c.requires.within in
    let whole = c.requires.whole in
    record {
      plain = line.plain;
      inside = let i = line.inside in omega arith;
      following = let b = line.following in omega arith;
      aligned = plain-aligned line.bytes.now line.taken c.args.n line.after_tab within c.requires.plain line.following line.aligned;
      stop = line.stop;
      cut = λ h. absurd (omega arith);
    }

pub returns-clause-rest : goal.returns-clause-rest
returns-clause-rest c at line_end =
    let line = c.args.self.now in
    row-on at line_end c.args.n line (line.taken + c.args.n) line.pending (let e = plain-following line.bytes.now line.taken c.args.n c.requires.within c.requires.plain in let w = c.requires.whole in omega arith)
