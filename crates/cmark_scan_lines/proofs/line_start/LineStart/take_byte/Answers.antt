use Rattle.std.proofs.Common.{arith}
use Rattle.cmark_scan_lines.proofs.PlaceSteps.{aligned-tab}
use Rattle.cmark_scan_lines.proofs.FootnoteColumns.{aligned-other}
use Rattle.cmark_scan_lines.proofs.line_start.LineStart.take_byte.Goals as goal

pub invariant_of-self : goal.invariant_of-self
invariant_of-self c =
    let line = c.args.self.now in
    let within = c.requires.within in
    let whole = c.requires.whole in
    record {
      plain = line.plain;
      inside = omega arith;
      following = omega arith;
      aligned = aligned-tab line.bytes.now line.taken line.after_tab within c.if-is_tab.true line.aligned;
      stop = line.stop;
      cut = λ h. absurd (omega arith);
    }

pub invariant_of-self-else-is_tab : goal.invariant_of-self-else-is_tab
invariant_of-self-else-is_tab c =
    let line = c.args.self.now in
    let within = c.requires.within in
    let whole = c.requires.whole in
    record {
      plain = line.plain;
      inside = omega arith;
      following = let b = line.following in omega arith;
      aligned = aligned-other line.bytes.now line.taken line.after_tab within line.following c.if-is_tab.false line.aligned;
      stop = line.stop;
      cut = λ h. absurd (omega arith);
    }
