use Rattle.std.proofs.Common.{◌≡◌, ◌-◌, List, ℕ, Some, length, drop, sym, ap, subst, ◌∙◌}
use Rattle.cmark_grammar.specs.LinkDefinitions.{Defined}
use Rattle.cmark_link_scan.specs.Rests.{IsRest}
use Rattle.cmark_link_definitions.specs.Shown.{shown_read}
use Rattle.cmark_link_scan.proofs.RestSteps.{rest_at, rest_starts}
use Rattle.cmark_link_definitions.proofs.definition.scan_definition.Goals as goal

pub returns-clause-ends : goal.returns-clause-ends
returns-clause-ends c = rest_starts c.args.paragraph.now c.following.result.now c.following.utf8 (subst (IsRest c.args.paragraph.now) (sym c.following.ensures) c.in_ok-read.ensures.rest)

pub returns-clause-value : goal.returns-clause-value
returns-clause-value c =
    let paragraph : List ℕ = c.args.paragraph.now in
    let there : IsRest paragraph c.following.result.now = subst (IsRest paragraph) (sym c.following.ensures) c.in_ok-read.ensures.rest in
    let is : drop (length paragraph - length c.following.result.now) paragraph ≡ c.in_ok-read.read.following.now = rest_at paragraph c.following.result.now there ∙ c.following.ensures in
    ap (λ l. let d : Defined = record { definition = (shown_read c.in_ok-read.read).definition; following = l } in Some d) is ∙ c.in_ok-read.ensures.value
