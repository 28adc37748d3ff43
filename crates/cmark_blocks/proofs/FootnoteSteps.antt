-- Footnote definitions that begin.
use Rattle.std.proofs.Common.{◌≡◌, ℕ, Bool, true, false, ◌||◌, List, ◌∷◌, [], ◌++◌, length, Option, Some, None, option_map, refl, sym, ap, ◌∙◌}
use Rattle.std.specs.Prelude.{bytes_eq, if◌then◌else◌}
use Rattle.cmark_tree.specs.Forest as forest
use Rattle.cmark_tree.specs.Forest.{Forest}
use Rattle.cmark_tree.specs.Building.{Opened, Is}
use Rattle.cmark_items.specs.declared.allocations.Allocations.{Allocations}
use Rattle.cmark_items.specs.declared.allocations.CowIndex.{CowIndex}
use Rattle.cmark_items.specs.declared.item.Item.{Item}
use Rattle.cmark_items.specs.declared.item.ItemBody.TheVariants as body
use Rattle.cmark_references.specs.Definitions.{first_of, reference_at}
use Rattle.cmark_references.specs.Footnotes.{footnote}
use Rattle.cmark_references.specs.declared.footnotes.FootnoteDef.{FootnoteDef}
use Rattle.cmark_references.specs.declared.footnotes.FootnoteDefs.{FootnoteDefs}
use Rattle.cmark_items.specs.ItemNodes.{ranged, text_at}
use Rattle.cmark_grammar.specs.Answers.{Lookup}
use Rattle.cmark_grammar.specs.BlockDocument.{FootnoteDefinition}
use Rattle.cmark_grammar.specs.Labels.{fold, normal_form}
use Rattle.cmark_grammar.specs.Options.{Options}
use Rattle.cmark_grammar.specs.SpanDocuments.{has_label}
use Rattle.cmark_block_model.specs.OpenBlocks as model
use Rattle.cmark_block_model.specs.Drawing.{Drawing, opened}
use Rattle.cmark_builder.specs.declared.builder.Builder.{Builder}
use Rattle.cmark_builder.specs.Drawn.{Draws}
use Rattle.cmark_builder.specs.Ended.{item_at}
use Rattle.cmark_builder.proofs.DrawnSteps.{draws-open, draws-text}
use Rattle.cmark_leaf_nodes.proofs.WordSteps.{last-text}
use Rattle.cmark_blocks.specs.Footnotes.{KeepsText, Notes, HasLabels, unused_if}
use Rattle.cmark_blocks.specs.Runs.{Runs}
use Rattle.cmark_blocks.specs.declared.state.Pass.{Pass}
use Rattle.cmark_stream_model.proofs.FoldedLabels.{fold-again}
use Rattle.cmark_blocks.proofs.ReferenceSteps.{eq-sym}

-- a label was kept, and a node of the footnote's definition was opened with it
pub draws-footnote : (text : List ℕ) (old new : Builder) (kept : Allocations) (index : CowIndex) (start : ℕ) (bytes : List ℕ) (d : Drawing) →
    index.0 ≡ length old.allocations.texts → KeepsText bytes old.allocations kept →
    ((here : Forest Item) (up : List (Opened Item)) → Is old.tree here up → Is new.tree forest.Nil (record { left = here; item = item_at start start (body.FootnoteDefinition index) } ∷ up)) →
    new.allocations ≡ kept → Draws text old d → Draws text new (opened start (FootnoteDefinition bytes) d)
draws-footnote text old new kept index start bytes d at keeps step same draws =
    let name = keeps.0 in
    let mid : Builder = record old { allocations = kept } in
    let texts : kept.texts ≡ old.allocations.texts ++ name ∷ [] = keeps.2 in
    draws-open text mid new start (body.FootnoteDefinition index) (FootnoteDefinition bytes) d step same
    (ap (λ o. option_map (ranged start start) (option_map FootnoteDefinition o)) (
    ap (λ t. text_at t index.0) texts ∙ ap (text_at (old.allocations.texts ++ name ∷ [])) at ∙ last-text old.allocations.texts name ∙ ap Some keeps.1))
    (draws-text text old mid name d refl texts draws)

-- another label after the others
more-labels : (folded label : List ℕ) (labels : List (List ℕ)) → has_label folded (labels ++ label ∷ []) ≡ (has_label folded labels || bytes_eq (fold label) folded)
more-labels folded label [] = or-false (bytes_eq (fold label) folded)
  where
    or-false : (b : Bool) → (b || false) ≡ b
    or-false true = refl
    or-false false = refl
more-labels folded label (other ∷ labels) = or-assoc (bytes_eq (fold other) folded) (has_label folded labels) (bytes_eq (fold label) folded) (more-labels folded label labels)
  where
    or-assoc : (a b c : Bool) {d : Bool} → d ≡ (b || c) → (a || d) ≡ ((a || b) || c)
    or-assoc true b c e = refl
    or-assoc false b c e = e

noted-first : (found : Option FootnoteDef) (known new : Bool) → found ≡ unused_if known → first_of found (if new then Some (record { use_count = 0 }) else None) ≡ unused_if (known || new)
noted-first found true new e = ap (λ f. first_of f (if new then Some (record { use_count = 0 }) else None)) e
noted-first found false new e = ap (λ f. first_of f (if new then Some (record { use_count = 0 }) else None)) e

-- a label was recorded after others
pub labels-noted : (label : List ℕ) (labels : List (List ℕ)) (old new : FootnoteDefs) → HasLabels labels old → Notes label old new → HasLabels (labels ++ normal_form label ∷ []) new
labels-noted label labels old new has notes folded =
    notes folded
    ∙ noted-first (footnote old folded) (has_label folded labels) (bytes_eq folded (fold label)) (has folded)
    ∙ ap (λ b. unused_if (has_label folded labels || b)) (eq-sym folded (fold label) ∙ ap (λ l. bytes_eq l folded) (sym (fold-again label)))
    ∙ ap unused_if (sym (more-labels folded (normal_form label) labels))

module _ {E : Type 0} (replacement : E → Lookup) (text : List ℕ) (options : Options) (lookup : Lookup) (m : model.Pass) (pass : Pass E) where
  -- something was drawn, and a footnote's label was noted
  pub runs-footnote : (label : List ℕ) (b : Builder) (d : Drawing) → Runs replacement text options lookup m pass → Draws text b d → b.allocations.references ≡ pass.builder.allocations.references →
      Notes label pass.builder.allocations.footnotes b.allocations.footnotes →
      Runs replacement text options lookup (record m { drawing = d; footnotes = m.footnotes ++ normal_form label ∷ [] }) (record pass { builder = b })
  runs-footnote label b d runs draws same notes = record {
    text_is = runs.text_is;
    options_is = runs.options_is;
    lookup_is = runs.lookup_is;
    drawing = draws;
    inner = runs.inner;
    outer = runs.outer;
    bare = runs.bare;
    leaf = runs.leaf;
    line_end = runs.line_end;
    references = λ folded. ap (λ r. reference_at r folded) same ∙ runs.references folded;
    footnotes = labels-noted label m.footnotes pass.builder.allocations.footnotes b.allocations.footnotes runs.footnotes notes;
  }
