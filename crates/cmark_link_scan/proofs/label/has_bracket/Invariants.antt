use Rattle.std.proofs.Common.{◌≡◌, false, length}
use Rattle.cmark_grammar.specs.LinkTails.{has_bracket}
use Rattle.cmark_link_scan.proofs.label.has_bracket.Given as goal

abbrev pub invariant-loop-first : goal.invariant-loop-first
invariant-loop-first l = has_bracket l.escaped l.rest ≡ has_bracket false l.bytes

abbrev pub decreases-loop-first : goal.decreases-loop-first
decreases-loop-first l = length l.rest
