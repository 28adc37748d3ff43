use Rattle.std.proofs.lemmas.Result.{on_ok_weaker}
use Rattle.std.proofs.Common.{◌≡◌, ◌++◌, ◌∷◌, [], Some, option_map, refl, sym, ap, subst, ◌∙◌}
use Rattle.cmark_grammar.specs.Labels.{fold}
use Rattle.cmark_grammar.specs.References.{first_with}
use Rattle.cmark_grammar.specs.Derivation.{reference_of}
use Rattle.cmark_references.specs.Definitions.{definition, entry_of, first_of, at_label, shown_entry}
use Rattle.cmark_references.proofs.EntrySteps.{looked_up}
use Rattle.cmark_references.proofs.SpellingSteps.{at}
use Rattle.cmark_references.specs.declared.definitions.LinkDef.{LinkDef}
use Rattle.cmark_values.specs.Labelled.{link_key}
use Rattle.cmark_values.specs.declared.label.LinkLabel.{LinkLabel}
use Rattle.cmark_link_definitions.specs.Shown.{written}
use Rattle.cmark_blocks.specs.Runs.{Runs, state_of}
use Rattle.cmark_blocks.proofs.DefinitionSteps.{runs-references}
use Rattle.cmark_stream_model.proofs.FoldedLabels.{fold-again}
use Rattle.cmark_blocks.proofs.ReferenceSteps.{shown-first, with-more, with-known, known-some, known-reference}
use Rattle.cmark_blocks.proofs.state.Pass.keep_definition.Goals as goal

pub returns-clause-runs : goal.returns-clause-runs
returns-clause-runs g c =
    on_ok_weaker c.keep_first.result
    (λ stays. λ text options lookup m runs.
    let replacement = g.E.EntityLookup.replacement in
    let before = c.args.self.now in
    let opened = subst (Runs replacement text options lookup m) (sym c.self.view_is) runs in
    let found = written c.args.definition.now in
    let reference = reference_of lookup found c.args.span.start c.args.span.end in
    let kept : LinkLabel × LinkDef = (c.in_ok-label.label, c.in_ok-label.kept) in
    let made = c.in_ok-label.ensures in
    runs-references replacement text options lookup m (state_of before) c.keep_first.new.tables (m.references ++ reference ∷ []) runs c.keep_first.ensures.others
    (λ folded.
    ap (option_map shown_entry) (stays folded)
    ∙ shown-first shown_entry _ (link_key kept.0) kept folded
    ∙ ap (λ before. first_of before (at_label (link_key kept.0) (shown_entry kept) folded)) (runs.references folded)
    ∙ ap (λ key. first_of (first_with fold folded m.references) (at_label key (shown_entry kept) folded)) (made.key ∙ sym (fold-again found.label))
    ∙ ap (λ r. first_of (first_with fold folded m.references) (at_label (fold reference.label) r folded))
    (made.value ∙ ap (λ k. reference_of k found c.args.span.start c.args.span.end) opened.lookup_is)
    ∙ with-more folded m.references reference))
    c.keep_first.ensures.spelled

pub returns-then-is_some-clause-runs : goal.returns-then-is_some-clause-runs
returns-then-is_some-clause-runs g c text options lookup m runs =
    let replacement = g.E.EntityLookup.replacement in
    let before = c.args.self.now in
    let found = written c.args.definition.now in
    let reference = reference_of lookup found c.args.span.start c.args.span.end in
    let table = before.builder.allocations.references in
    let there_is = ap (λ pass. definition pass.builder.allocations.references (fold found.label)) c.self.view_is in
    let there = known-some c.in_ok-known.known (definition table (fold found.label)) (sym c.is_some.ensures ∙ c.if-is_some.true) (c.in_ok-known.ensures ∙ there_is) in
    let known =
    known-reference (definition table (fold found.label)) there.0 (entry_of table (fold found.label)) (first_with fold (fold found.label) m.references) there.1
    (looked_up (at link_key (fold found.label)) table) (runs.references (fold found.label)) in
    let same : first_with fold (fold reference.label) m.references ≡ Some known.0 = ap (λ key. first_with fold key m.references) (fold-again found.label) ∙ known.1 in
    runs-references replacement text options lookup m (state_of before) before.builder.allocations (m.references ++ reference ∷ []) runs refl
    (λ folded. runs.references folded ∙ sym (with-known folded m.references reference known.0 same))
