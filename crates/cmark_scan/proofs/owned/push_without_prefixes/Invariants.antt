use Rattle.std.proofs.Common.{◌≡◌, ◌++◌, ◌-◌, length}
use Rattle.cmark_grammar.specs.InlineHtml.{without_prefixes}
use Rattle.cmark_scan_bytes.specs.Handled.{ForAnswers}
use Rattle.cmark_scan.proofs.owned.push_without_prefixes.Given as goal

abbrev pub invariant-loop-first : goal.invariant-loop-first
invariant-loop-first g l =
    ForAnswers g.H.Fn l.handler (λ prefix.
    l.buffer.items ++ without_prefixes prefix (length l.rest - l.following) 0 l.rest ≡ l.initial.buffer.items ++ without_prefixes prefix (length l.initial.rest - l.following) 0 l.initial.rest)

abbrev pub decreases-loop-first : goal.decreases-loop-first
decreases-loop-first g l = length l.rest
