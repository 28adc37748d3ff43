use Rattle.std.proofs.Common.{false, Some, option_map, sym, ap, ◌∙◌, subst}
use Rattle.cmark_grammar.specs.BlockDocument.{DefinitionList, DefinitionListTitle}
use Rattle.cmark_block_model.specs.Drawing.{retitled, enclosed}
use Rattle.cmark_builder.proofs.DrawnSteps.{draws-titled, draws-enclosed}
use Rattle.cmark_blocks.specs.Shown.{shown_list}
use Rattle.cmark_blocks.specs.Titles.{with_title}
use Rattle.cmark_blocks.specs.Runs.{state_of, RunsIn}
use Rattle.cmark_blocks.proofs.RunSteps.{runs-builder, runs-inner}
use Rattle.cmark_blocks.proofs.TitleSteps.{made-none, made-some, shown-some}
use Rattle.cmark_items.specs.Tables.{defined}
use Rattle.cmark_blocks.proofs.state.Pass.make_title.Goals as goal

pub returns-then-is_some-clause-runs : goal.returns-then-is_some-clause-runs
returns-then-is_some-clause-runs g c text options lookup m runs =
    let replacement = g.E.EntityLookup.replacement in
    let o = option_map shown_list c.args.title.list in
    let parted = c.args.title.parted in
    let some = shown-some shown_list c.args.title.list ∙ sym c.is_some.ensures ∙ c.if-is_some.true in
    let draws = draws-titled text c.args.self.now.builder c.title_last.new.self m.drawing c.title_last.ensures.turned c.title_last.ensures.none c.title_last.ensures.tables runs.drawing in
    subst (λ p. RunsIn replacement text options lookup p (record (state_of c.args.self.now) { builder = c.title_last.new.self; inner = c.after_title-self.result })) (sym (made-some o parted c.args.start m some))
    (runs-inner replacement text options lookup _ _ c.after_title-self.result (with_title o parted c.args.start m.inner)
    (runs-builder replacement text options lookup m (state_of c.args.self.now) c.title_last.new.self (retitled DefinitionListTitle m.drawing) runs draws (ap defined c.title_last.ensures.tables))
    (c.after_title-self.ensures ∙ ap (with_title o parted c.args.start) runs.inner))

pub returns-clause-runs : goal.returns-clause-runs
returns-clause-runs g c text options lookup m runs =
    let replacement = g.E.EntityLookup.replacement in
    let o = option_map shown_list c.args.title.list in
    let parted = c.args.title.parted in
    let none = shown-some shown_list c.args.title.list ∙ sym c.is_some.ensures ∙ c.if-is_some.false in
    let draws = draws-enclosed text c.args.self.now.builder c.enclose_title.new.self _ (DefinitionList false) m.drawing c.in_ok-enclose_title.ensures.ok c.in_ok-enclose_title.ensures.none c.in_ok-enclose_title.ensures.tables (ap (λ t. Some (DefinitionList t)) c.list_flags.ensures) runs.drawing in
    subst (λ p. RunsIn replacement text options lookup p (record (state_of c.args.self.now) { builder = c.enclose_title.new.self; inner = c.after_title-self-2.result })) (sym (made-none o parted c.args.start m none))
    (runs-inner replacement text options lookup _ _ c.after_title-self-2.result (with_title o parted c.args.start m.inner)
    (runs-builder replacement text options lookup m (state_of c.args.self.now) c.enclose_title.new.self (enclosed (DefinitionList false) DefinitionListTitle m.drawing) runs draws (ap defined c.in_ok-enclose_title.ensures.tables))
    (c.after_title-self-2.ensures ∙ ap (with_title o parted c.args.start) runs.inner))
