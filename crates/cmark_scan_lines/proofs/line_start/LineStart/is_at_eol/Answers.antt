use Rattle.std.proofs.Common.{◌&&◌, nat_eq, length, sym, ap, ◌∙◌, eq-eqb, ne_eqb}
use Rattle.cmark_scan_lines.proofs.PlaceSteps.{left-bare}
use Rattle.cmark_scan_lines.proofs.line_start.LineStart.is_at_eol.Goals as goal

pub returns-then-self-eq0 : goal.returns-then-self-eq0
returns-then-self-eq0 c at =
    let line = c.args.self.now in
    sym (ap (λ t. t && nat_eq line.taken (length line.bytes.now)) (eq-eqb line.pending 0 c.if-self-eq0.true)) ∙ left-bare at line.bytes.now line.taken line.pending line.inside line.cut

pub returns-else-self-eq0 : goal.returns-else-self-eq0
returns-else-self-eq0 c at =
    let line = c.args.self.now in
    let off = ne_eqb line.pending 0 c.if-self-eq0.false in
    off ∙ sym (ap (λ t. t && nat_eq line.taken (length line.bytes.now)) off) ∙ left-bare at line.bytes.now line.taken line.pending line.inside line.cut
