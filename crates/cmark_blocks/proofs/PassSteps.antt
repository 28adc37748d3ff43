-- The pass over a whole text, and over the rest of one.
use Rattle.std.proofs.Common.{◌≡◌, ℕ, List, [], ◌∷◌, ◌++◌, false, map, refl, sym, ap, subst, ◌∙◌}
use Rattle.cmark_tree.specs.Building.{Is}
use Rattle.cmark_block_model.proofs.BlocksSound.{blocks-body}
use Rattle.cmark_grammar.specs.Answers.{Lookup}
use Rattle.cmark_grammar.specs.BlockDocument.{Reference}
use Rattle.cmark_block_model.specs.BlocksModel.{blocks}
use Rattle.cmark_block_model.specs.DrawnDocument.{settled, without_definitions}
use Rattle.cmark_grammar.specs.Labels.{fold}
use Rattle.cmark_grammar.specs.Options.{Options}
use Rattle.cmark_grammar.specs.References.{first_with, references}
use Rattle.cmark_grammar.specs.SpanDocuments.{footnote_labels, has_label}
use Rattle.cmark_items.specs.ItemNodes.{shown_forest}
use Rattle.cmark_references.specs.Definitions.{reference_at}
use Rattle.cmark_references.specs.Footnotes.{footnote}
use Rattle.cmark_builder.specs.Drawn.{shown_open, open_node}
use Rattle.cmark_block_model.specs.BlockPass.{pass_over, all_closed, lines_fed}
use Rattle.cmark_block_model.specs.OpenBlocks as model
use Rattle.cmark_block_model.specs.OpenBlocks.{at_start}
use Rattle.cmark_block_model.specs.Tails.{document_after, pass_after, starting_at}
use Rattle.cmark_block_model.proofs.Theorem.{pass-draws, rest-draws}
use Rattle.cmark_blocks.proofs.CountSteps.{drawn-few, drawn-within}
use Rattle.cmark_blocks.specs.Ahead.{lines_at}
use Rattle.cmark_blocks.specs.FirstPass.{Leaves}
use Rattle.cmark_blocks.specs.Tails.{LeavesRest}
use Rattle.cmark_blocks.specs.Footnotes.{unused_if}
use Rattle.cmark_blocks.specs.declared.first_pass.FirstPass.{FirstPass}
use Rattle.cmark_blocks.specs.declared.state.Pass.{Pass}
use Rattle.cmark_blocks.specs.Runs.{Runs}

none-mapped : {A B C : Type 0} (f : A → C) (g : B → C) (xs : List A) (ys : List B) → map f xs ≡ map g ys → ys ≡ [] → xs ≡ []
none-mapped f g [] ys e none = refl
none-mapped f g (x ∷ xs) ys e none = absurd (let q : f x ∷ map f xs ≡ [] = e ∙ ap (map g) none in cc)

over-is : (text : List ℕ) (options : Options) (lookup : Lookup) → pass_over text options lookup ≡ all_closed text options lookup (lines_fed text options lookup (lines_at text 0) at_start)
unfolding pass_over
over-is text options lookup = refl

module _ {E : Type 0} (replacement : E → Lookup) (text : List ℕ) (options : Options) (lookup : Lookup) (pass : Pass E) (left : FirstPass) where
  pub leaves : Runs replacement text options lookup (all_closed text options lookup (lines_fed text options lookup (lines_at text 0) at_start)) pass →
      left.tree ≡ pass.builder.tree → left.allocations ≡ pass.builder.allocations → Leaves text options lookup left
  leaves there tree allocations = record {
    forest = runs.drawing.here;
    tree_is = subst (λ t. Is t runs.drawing.here []) (sym tree) (subst (λ up. Is pass.builder.tree runs.drawing.here up) none runs.drawing.is);
    drawn = ap (λ a. shown_forest text a.texts runs.drawing.here) allocations ∙ runs.drawing.here_is;
    derived = (blocks options text, blocks-body options text, refl);
    settles = (pass-draws text options lookup).0;
    few = drawn-few text options lookup pass.builder.allocations.texts runs.drawing.here runs.drawing.here_is;
    references = λ folded.
        ap (λ a. reference_at a.references folded) allocations
        ∙ runs.references folded
        ∙ ap (first_with fold folded) (pass-draws text options lookup).2;
    footnotes = λ folded.
        ap (λ a. footnote a.footnotes folded) allocations
        ∙ runs.footnotes folded
        ∙ ap (λ labels. unused_if (has_label folded labels)) (pass-draws text options lookup).3;
  }
    where
      runs : Runs replacement text options lookup (pass_over text options lookup) pass
      runs = subst (λ p. Runs replacement text options lookup p pass) (sym (over-is text options lookup)) there

      none : runs.drawing.up ≡ []
      none = none-mapped (shown_open text pass.builder.allocations.texts) open_node runs.drawing.up (pass_over text options lookup).drawing.up runs.drawing.up_is (pass-draws text options lookup).1

-- ## The rest of a text

after-is : (text : List ℕ) (options : Options) (lookup : Lookup) (from : ℕ) (earlier : List Reference) (labels : List (List ℕ))
    → pass_after text options lookup from earlier labels ≡ all_closed text options lookup (lines_fed text options lookup (lines_at text from) (starting_at from earlier labels))
unfolding pass_after
after-is text options lookup from earlier labels = refl

module _ {E : Type 0} (replacement : E → Lookup) (text : List ℕ) (options : Options) (lookup : Lookup) (from : ℕ) (earlier : List Reference) (labels : List (List ℕ)) (pass : Pass E) (left : FirstPass) where
  pub leaves-rest : Runs replacement text options lookup (all_closed text options lookup (lines_fed text options lookup (lines_at text from) (starting_at from earlier labels))) pass →
      left.tree ≡ pass.builder.tree → left.allocations ≡ pass.builder.allocations → LeavesRest text from options lookup earlier labels left
  leaves-rest there tree allocations = record {
    forest = runs.drawing.here;
    tree_is = subst (λ t. Is t runs.drawing.here []) (sym tree) (subst (λ up. Is pass.builder.tree runs.drawing.here up) none runs.drawing.is);
    drawn = ap (λ a. shown_forest text a.texts runs.drawing.here) allocations ∙ runs.drawing.here_is;
    settles = draws.0;
    few = drawn-within text pass.builder.allocations.texts runs.drawing.here after.drawing.here (document_after text options lookup from) runs.drawing.here_is draws.0;
    references = λ folded. ap (λ a. reference_at a.references folded) allocations ∙ runs.references folded ∙ ap (first_with fold folded) draws.2;
    footnotes = λ folded. ap (λ a. footnote a.footnotes folded) allocations ∙ runs.footnotes folded ∙ ap (λ all. unused_if (has_label folded all)) draws.3;
  }
    where
      after : model.Pass
      after = pass_after text options lookup from earlier labels

      draws : (settled false after.drawing.here ≡ without_definitions (document_after text options lookup from)) × (after.drawing.up ≡ [])
          × (after.references ≡ earlier ++ references (document_after text options lookup from)) × (after.footnotes ≡ labels ++ footnote_labels (document_after text options lookup from))
      draws = rest-draws text options lookup from earlier labels

      runs : Runs replacement text options lookup after pass
      runs = subst (λ p. Runs replacement text options lookup p pass) (sym (after-is text options lookup from earlier labels)) there

      none : runs.drawing.up ≡ []
      none = none-mapped (shown_open text pass.builder.allocations.texts) open_node runs.drawing.up after.drawing.up runs.drawing.up_is draws.1
