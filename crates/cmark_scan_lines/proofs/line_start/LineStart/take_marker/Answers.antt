use Rattle.std.proofs.Common.{◌≡◌, ◌+◌, arith}
use Rattle.std.proofs.lemmas.Grind.{common_steps}
use Rattle.cmark_grammar.specs.Footnotes.{columns_over}
use Rattle.cmark_scan_lines.specs.LineStart.{columns_from}
use Rattle.cmark_scan_lines.proofs.LineStartSteps.{row-further}
use Rattle.cmark_scan_lines.proofs.FootnoteColumns.{marker-taken}
use Rattle.cmark_scan_lines.proofs.line_start.LineStart.take_marker.Goals as goal

pub returns-clause-rest : goal.returns-clause-rest
returns-clause-rest c at line_end =
    let line = c.args.self.now in
    let n = c.args.n in
    let inv = c.loop-self.invariant in
    let further : c.loop-self.self.taken ≡ line.taken + n = let w = inv.within in let t = c.loop-self-test.false in omega (arith, w, t) in
    row-further at line_end (columns_over n (columns_from at line)) line c.loop-self.self inv.line inv.held
    (marker-taken at n line c.loop-self.self c.requires.whole inv.whole inv.line further c.requires.some c.requires.within c.requires.last)

pub take_byte-requires-clause-within : goal.take_byte-requires-clause-within
take_byte-requires-clause-within c = grind (arith, common_steps)
