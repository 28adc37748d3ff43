-- Leaves that are closed.
use Rattle.std.proofs.Common.{◌≡◌, ℕ, List, [], Option, refl, sym, ap, ◌∙◌}
use Rattle.cmark_grammar.specs.Answers.{Lookup}
use Rattle.cmark_grammar.specs.Options.{Options}
use Rattle.cmark_grammar.specs.BlockDocument.{BlockDocument, Nil, Node, join}
use Rattle.cmark_line_rules.specs.declared.line_rest.LineRest.{LineRest}
use Rattle.cmark_leaf_nodes.specs.declared.stretch.Stretch.{Stretch}
use Rattle.cmark_leaf_nodes.specs.Stretches.{shown_waits}
use Rattle.cmark_block_model.specs.BlockPass.{close_leaf}
use Rattle.cmark_block_model.specs.CodeLines.{texts_of, rest_of}
use Rattle.cmark_block_model.specs.Drawing.{Drawing, drawn, closed_at}
use Rattle.cmark_block_model.specs.OpenBlocks as model
use Rattle.cmark_blocks.specs.declared.state.OpenLeaf.{OpenLeaf}
use Rattle.cmark_blocks.specs.declared.state.OpenLeaf.TheVariants as leaf
use Rattle.cmark_blocks.specs.Runs.{ShowsLeaf, IsVerbatim}

-- nothing drawn is no change
drawn-nothing : (d : Drawing) → drawn Nil d ≡ d
drawn-nothing d = ap (λ h. record d { here = h }) (join-nil d.here)
  where
    join-nil : (a : BlockDocument) → join a Nil ≡ a
    join-nil Nil = refl
    join-nil (Node n i a) = ap (Node n i) (join-nil a)

-- fenced code, HTML, metadata and tables: the stretch that waits is drawn, and the node is closed at the end of the last line
pub verbatim-closes : (text : List ℕ) (options : Options) (lookup : Lookup) (l : OpenLeaf) (waits : Option Stretch) (blanks : List LineRest) (o : model.OpenLeaf) (m : model.Pass) →
    IsVerbatim l waits → ShowsLeaf text l blanks o →
    (blanks ≡ []) × (close_leaf text options lookup o m ≡ record m { drawing = closed_at m.line_end (drawn (texts_of (rest_of (shown_waits text waits))) m.drawing); leaf = model.Closed })
verbatim-closes text options lookup (leaf.Table columns left has_delimiter) waits blanks o m v s = (
  s.1,
  ap (λ x. close_leaf text options lookup x m) s.0
      ∙ ap {A = Drawing} {B = model.Pass} (λ d. record m { drawing = closed_at m.line_end d; leaf = model.Closed }) (sym (drawn-nothing m.drawing))
      ∙ ap {A = Option Stretch} {B = model.Pass} (λ w. record m { drawing = closed_at m.line_end (drawn (texts_of (rest_of (shown_waits text w))) m.drawing); leaf = model.Closed }) (sym v),
)
verbatim-closes text options lookup (leaf.Fenced delimiter run_length indent others) waits blanks o m v s = (
  s.3,
  ap (λ x. close_leaf text options lookup x m) s.2
      ∙ ap {A = Option Stretch} {B = model.Pass} (λ w. record m { drawing = closed_at m.line_end (drawn (texts_of (rest_of (shown_waits text w))) m.drawing); leaf = model.Closed }) (sym v),
)
verbatim-closes text options lookup (leaf.Html kind) waits blanks o m v s = (
  s.1,
  ap (λ x. close_leaf text options lookup x m) s.0
      ∙ ap {A = Drawing} {B = model.Pass} (λ d. record m { drawing = closed_at m.line_end d; leaf = model.Closed }) (sym (drawn-nothing m.drawing))
      ∙ ap {A = Option Stretch} {B = model.Pass} (λ w. record m { drawing = closed_at m.line_end (drawn (texts_of (rest_of (shown_waits text w))) m.drawing); leaf = model.Closed }) (sym v),
)
verbatim-closes text options lookup (leaf.Metadata kind others) waits blanks o m v s = (
  s.1,
  ap (λ x. close_leaf text options lookup x m) s.0
      ∙ ap {A = Option Stretch} {B = model.Pass} (λ w. record m { drawing = closed_at m.line_end (drawn (texts_of (rest_of (shown_waits text w))) m.drawing); leaf = model.Closed }) (sym v),
)
verbatim-closes text options lookup _ waits blanks o m v s = absurd v
