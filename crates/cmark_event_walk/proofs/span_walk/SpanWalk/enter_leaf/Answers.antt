use Rattle.std.proofs.Common.{ℕ, ◌≤◌, ◌*◌, List, [], length, true≢false, refl, sym, ap, subst, ◌∙◌}
use Rattle.cmark_inline.specs.Counted.{total}
use Rattle.cmark_inline.specs.Resolved.{ResolvesAs}
use Rattle.cmark_inline.proofs.ReadingFrom.{nothing-stops}
use Rattle.cmark_inline_model.specs.TextPlaces.{place_in}
use Rattle.cmark_leaf_text.specs.Reads.{text_of}
use Rattle.cmark_leaf_text.specs.Stretches.{leaf_bytes}
use Rattle.cmark_slots.specs.Slots.{AreSlots}
use Rattle.cmark_values.specs.Shown.{shown_options}
use Rattle.cmark_block_walk.specs.Walking.{AreLinesOf}
use Rattle.cmark_event_walk.specs.Walking.{source_of}
use Rattle.cmark_event_walk.proofs.LeafCounts.{extent-within, text-within}
use Rattle.cmark_event_walk.proofs.LeafReads.{leaf-same, place-same, read-places, text-same}
use Rattle.cmark_event_walk.proofs.Readings.{asked-up-to}
use Rattle.cmark_event_walk.proofs.Walks.{enters, leaf-counted}
use Rattle.cmark_event_walk.proofs.span_walk.SpanWalk.enter_leaf.Goals as goal

pub returns-clause-enters : goal.returns-clause-enters
returns-clause-enters g c =
    let walk = c.args.self.now in
    let leaf = c.read.new.self in
    let lines = c.as_slice.result.now in
    let begun = c.begin_leaf.ensures in
    let text = c.in-Ok.ensures.text in
    λ one others before.
    let are = subst (AreLinesOf (source_of walk) one) (sym c.as_slice.ensures.value) before.lines in
    enters walk leaf _ c.begin_leaf.new.self c.resolve.new.footnotes c.resolve.new.callback c.args.is_cell c.in-Ok.ensures.read c.in-Ok.ensures.source
    (subst (λ slots. AreSlots (text_of leaf) (length (text_of leaf)) slots) (sym (ap (λ v. v.items) begun.slots)) c.in-Ok-resolve.ensures.laid_out.slots) begun.opened (begun.left leaf c.in-Ok-resolve.ensures.laid_out.left)
    c.resolve.ensures.counts c.in-Ok-resolve.ensures.fails.live one others before (extent-within (source_of walk) one lines are leaf text c.in-Ok.ensures.places) (text-within (source_of walk) one lines are leaf text)

pub returns-in_default-resolve-clause-keeps : goal.returns-in_default-resolve-clause-keeps
returns-in_default-resolve-clause-keeps g c =
    let walk = c.args.self.now in
    let leaf = c.read.new.self in
    let lines = c.as_slice.result.now in
    let before = c.requires.before.2 in
    let text = c.in-Ok.ensures.text in
    let are = subst (AreLinesOf (source_of walk) c.requires.before.0) (sym c.as_slice.ensures.value) before.lines in
    record {
      counted = subst (λ (s : List ℕ). total c.resolve.new.self.steps ≤ 128 * length s) (sym c.in-Ok.ensures.source) (leaf-counted walk.inline c.resolve.new.self (source_of walk) c.requires.before.0 c.requires.before.1 leaf before.able c.resolve.ensures.counts (extent-within (source_of walk) c.requires.before.0 lines are leaf text c.in-Ok.ensures.places) (text-within (source_of walk) c.requires.before.0 lines are leaf text));
      definitions = refl;
      footnotes = c.resolve.ensures.within.footnotes;
      source = c.in-Ok.ensures.source;
    }

pub returns-clause-keeps : goal.returns-clause-keeps
returns-clause-keeps g c =
    let walk = c.args.self.now in
    let leaf = c.read.new.self in
    let lines = c.as_slice.result.now in
    let before = c.requires.before.2 in
    let text = c.in-Ok.ensures.text in
    let are = subst (AreLinesOf (source_of walk) c.requires.before.0) (sym c.as_slice.ensures.value) before.lines in
    record {
      counted = subst (λ (s : List ℕ). total c.resolve.new.self.steps ≤ 128 * length s) (sym c.in-Ok.ensures.source) (leaf-counted walk.inline c.resolve.new.self (source_of walk) c.requires.before.0 c.requires.before.1 leaf before.able c.resolve.ensures.counts (extent-within (source_of walk) c.requires.before.0 lines are leaf text c.in-Ok.ensures.places) (text-within (source_of walk) c.requires.before.0 lines are leaf text));
      definitions = refl;
      footnotes = c.resolve.ensures.within.footnotes;
      source = c.in-Ok.ensures.source;
    }

pub returns-clause-reads : goal.returns-clause-reads
returns-clause-reads g c = λ reader leaf others before placed same.
    let walk = c.args.self.now in
    let read = c.read.new.self in
    let e = c.in-Ok.ensures in
    let source = same.source ∙ sym e.source in
    let text = text-same reader leaf placed.placed read walk.lines.items (sym source) before.lines.are (e.text ∙ ap (leaf_bytes walk.leaf.source.now) c.as_slice.ensures.value ∙ ap (λ s. leaf_bytes s walk.lines.items) (sym e.source)) in
    let stand = place-same reader leaf placed.placed read c.as_slice.result.now (c.as_slice.ensures.value ∙ before.lines.are) text e.places in
    let places = read-places reader leaf placed.placed read placed.pipes text (sym before.cell ∙ sym e.cell) stand in
    record {
      resolves =
          subst (λ events. ResolvesAs g.F.BrokenLinkCallback.answers reader leaf c.args.self.now.inline.expansion_left events c.resolve.new.self.expansion_left c.args.self.now.callback c.resolve.new.callback) (sym (c.begin_leaf.ensures.events read))
          ((c.in-Ok-resolve.ensures.reads before.blocks.special).reads reader leaf (place_in reader leaf)
          (leaf-same (shown_options walk.options) (g.E.EntityLookup.replacement walk.entities.now) c.definitions.result.now _ walk.footnotes reader leaf read source same.options_are same.lookup_is same.definitions c.definitions.ensures same.footnotes_are
          same.callback places)
          places);
      same = record {
        source = source;
        options_are = same.options_are;
        lookup_is = same.lookup_is;
        definitions = same.definitions;
        footnotes_are = λ folded. same.footnotes_are folded ∙ sym (c.resolve.ensures.within.footnotes folded);
        callback = same.callback;
      };
    }

pub returns-in_default-clause-lines : goal.returns-in_default-clause-lines
returns-in_default-clause-lines g c = (λ none. true≢false (sym (c.in_default.ensures.none (c.as_slice.ensures.value ∙ none))))

pub returns-in_default-resolve-clause-lines : goal.returns-in_default-resolve-clause-lines
returns-in_default-resolve-clause-lines g c = (λ none.
    true≢false (sym (c.in_default-resolve.ensures.fails.succeeds c.requires.before.2.able.live (c.in-Ok.ensures.text ∙ ap (leaf_bytes c.args.self.now.leaf.source.now) (c.as_slice.ensures.value ∙ none)))))

pub returns-in_default-clause-asked : goal.returns-in_default-clause-asked
returns-in_default-clause-asked g c = ([], refl)

pub returns-in_default-resolve-clause-asked : goal.returns-in_default-resolve-clause-asked
returns-in_default-resolve-clause-asked g c = asked-up-to g.F.BrokenLinkCallback.answers _ c.args.self.now.callback c.resolve.new.callback c.in_default-resolve.ensures.within.asks

pub returns-clause-asked : goal.returns-clause-asked
returns-clause-asked g c = asked-up-to g.F.BrokenLinkCallback.answers _ c.args.self.now.callback c.resolve.new.callback c.in-Ok-resolve.ensures.within.asks

pub returns-in_default-clause-stops : goal.returns-in_default-clause-stops
returns-in_default-clause-stops g c = λ reader leaf others before placed same.
    nothing-stops g.F.BrokenLinkCallback.answers reader leaf (length reader.source) placed.placed.turn c.args.self.now.inline.expansion_left c.args.self.now.callback

pub returns-in_default-resolve-clause-stops : goal.returns-in_default-resolve-clause-stops
returns-in_default-resolve-clause-stops g c = λ reader leaf others before placed same.
    let walk = c.args.self.now in
    let read = c.read.new.self in
    let e = c.in-Ok.ensures in
    let source = same.source ∙ sym e.source in
    let text = text-same reader leaf placed.placed read walk.lines.items (sym source) before.lines.are (e.text ∙ ap (leaf_bytes walk.leaf.source.now) c.as_slice.ensures.value ∙ ap (λ s. leaf_bytes s walk.lines.items) (sym e.source)) in
    let stand = place-same reader leaf placed.placed read c.as_slice.result.now (c.as_slice.ensures.value ∙ before.lines.are) text e.places in
    let places = read-places reader leaf placed.placed read placed.pipes text (sym before.cell ∙ sym e.cell) stand in
    c.in_default-resolve.ensures.stops before.blocks.special reader leaf (place_in reader leaf)
    (leaf-same (shown_options walk.options) (g.E.EntityLookup.replacement walk.entities.now) c.definitions.result.now _ walk.footnotes reader leaf read source same.options_are same.lookup_is same.definitions c.definitions.ensures same.footnotes_are
    same.callback places)
    places
