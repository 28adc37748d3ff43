use Rattle.std.proofs.Common.{ap, subst, option_map, ◌∙◌}
use Rattle.cmark_values.specs.Labelled.{link_key}
use Rattle.cmark_references.specs.Definitions.{first_of, reference_at, shown_entry}
use Rattle.cmark_references.proofs.CopySteps.{AreAllOf, copied}
use Rattle.cmark_references.proofs.SpellingSteps.{at, no_entry}
use Rattle.cmark_references.proofs.definitions.RefDefs.clone.Goals as goal

pub loop-label-init : goal.loop-label-init
loop-label-init c folded =
    ap (λ found. first_of (option_map shown_entry found) (reference_at c.iter-entries.result folded)) (no_entry (at link_key folded) c.new-copy.result (c.new-copy.ensures folded))
    ∙ ap (λ table. reference_at table folded) (c.iter-entries.ensures.rest ∙ c.self.view_is)

pub loop-label-preserved : goal.loop-label-preserved
loop-label-preserved c =
    copied c.loop-label.copy c.insert.new.self c.next.new.self c.args.self.now c.in-Some.label.now c.in_ok-label.label c.in-Some.def.now c.in_ok-def.def
    (subst (λ rest. AreAllOf c.loop-label.copy rest c.args.self.now) c.in-Some.ensures.steps c.loop-label.invariant)
    c.in_ok-label.ensures.text c.in_ok-label.ensures.key c.in_ok-def.ensures c.in_ok-insert.ensures.spelled
