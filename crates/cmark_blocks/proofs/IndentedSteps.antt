-- Lines of indented code, one after the other.
use Rattle.std.proofs.Common.{◌≡◌, ℕ, ◌<◌, ◌+◌, List, [], ◌∷◌, ◌++◌, length, map, take, get_or, Option, ◌⊎◌, ⊎_elim, refl, sym, ap, ◌∙◌, subst}
use Rattle.std.proofs.lemmas.List.{map-append}
use Rattle.std.proofs.lemmas.Grind.{take_at_read}
use Rattle.cmark_grammar.specs.Answers.{Lookup}
use Rattle.cmark_grammar.specs.Leaves as grammar
use Rattle.cmark_grammar.specs.Leaves.{code_continuation}
use Rattle.cmark_grammar.specs.Options.{Options}
use Rattle.cmark_grammar.specs.Rows.{Row}
use Rattle.cmark_grammar.specs.Tokens.{Piece}
use Rattle.cmark_line_rules.specs.Rests.{row_of}
use Rattle.cmark_line_rules.specs.declared.line_rest.LineRest.{LineRest}
use Rattle.cmark_leaf_nodes.specs.Stretches.{shown_waits}
use Rattle.cmark_leaf_nodes.specs.declared.stretch.Stretch.{Stretch}
use Rattle.cmark_line_rules.specs.Continuations.{shown_continuation}
use Rattle.cmark_line_rules.specs.declared.continuation.Continuation.{Continuation}
use Rattle.cmark_line_rules.specs.declared.continuation.Continuation.TheVariants.{Closes, Stops}
use Rattle.cmark_block_model.specs.BlockPass.{leaf_fed, leaf_closed, indented_lines, indented_continuation, begin}
use Rattle.cmark_block_model.specs.CodeLines.{code_line, texts_of}
use Rattle.cmark_block_model.specs.Drawing.{Drawing, drawn}
use Rattle.cmark_block_model.specs.OpenBlocks as model
use Rattle.cmark_builder.specs.declared.builder.Builder.{Builder}
use Rattle.cmark_builder.specs.Drawn.{Draws}
use Rattle.cmark_blocks.specs.declared.state.Pass.{Pass}
use Rattle.cmark_blocks.specs.IndentedLines.{lines_drawn, waits_after, DrawsLines}

module _ (text : List ℕ) (r : Row) where
  -- one line more
  lines_drawn-more : (rs : List Row) (waits : Option Piece) (d : Drawing) → lines_drawn text (rs ++ r ∷ []) waits d ≡ drawn (texts_of (code_line text 4 r (waits_after text rs waits)).done) (lines_drawn text rs waits d)
  lines_drawn-more [] waits d = refl
  lines_drawn-more (s ∷ rs) waits d = lines_drawn-more rs (code_line text 4 s waits).waits (drawn (texts_of (code_line text 4 s waits).done) d)

  waits_after-more : (rs : List Row) (waits : Option Piece) → waits_after text (rs ++ r ∷ []) waits ≡ (code_line text 4 r (waits_after text rs waits)).waits
  waits_after-more [] waits = refl
  waits_after-more (s ∷ rs) waits = waits_after-more rs (code_line text 4 s waits).waits

  pub draws-line : (old mid new : Builder) (rs : List Row) (waits left next : Option Stretch) → DrawsLines text old mid rs waits left →
      ((d : Drawing) → Draws text mid d → Draws text new (drawn (texts_of (code_line text 4 r (shown_waits text left)).done) d)) →
      shown_waits text next ≡ (code_line text 4 r (shown_waits text left)).waits → DrawsLines text old new (rs ++ r ∷ []) waits next
  draws-line old mid new rs waits left next lines step is = record {
    left_is = is ∙ ap (λ w. (code_line text 4 r w).waits) lines.left_is ∙ sym (waits_after-more rs (shown_waits text waits));
    draws = λ d draws.
        subst (Draws text new) (sym (lines_drawn-more rs (shown_waits text waits) d))
        (subst (λ w. Draws text new (drawn (texts_of (code_line text 4 r w).done) (lines_drawn text rs (shown_waits text waits) d))) lines.left_is
        (step (lines_drawn text rs (shown_waits text waits) d) (lines.draws d draws)));
  }

-- the rows of one line more
pub rows-more : (lines : List LineRest) (i : ℕ) (line : LineRest) → i < length lines → line ≡ get_or lines i line → map row_of (take i lines) ++ row_of line ∷ [] ≡ map row_of (take (i + 1) lines)
rows-more lines i line within is =
    ap (λ x. map row_of (take i lines) ++ row_of x ∷ []) is
    ∙ sym (map-append row_of (take i lines) (get_or lines i line ∷ []))
    ∙ ap (map row_of) (sym (take_at_read lines i line within).1)

module _ (text : List ℕ) (options : Options) (lookup : Lookup) where
  -- lines of indented code are drawn, and no line waits
  lines-fed : (r : Row) (rs : List Row) (waits : Option Piece) (end : ℕ) (m : model.Pass) → indented_lines text options lookup (rs ++ r ∷ []) waits end m
      ≡ record m { drawing = lines_drawn text (rs ++ r ∷ []) waits m.drawing; leaf = model.InIndented (waits_after text (rs ++ r ∷ []) waits) r.line_end [] }
  lines-fed r [] waits end m = refl
  lines-fed r (s ∷ rs) waits end m = lines-fed r rs (code_line text 4 s waits).waits s.line_end (record m { drawing = drawn (texts_of (code_line text 4 s waits).done) m.drawing })

  -- a further line of indented code
  module _ (r : Row) (next : List Row) (m : model.Pass) (waits : Option Piece) (end : ℕ) (blank : List Row) (is : m.leaf ≡ model.InIndented waits end blank) where
    continuation-fed : (f : grammar.Continuation) → code_continuation r ≡ f → leaf_fed text options lookup m.leaf r next m ≡ indented_continuation text options lookup f waits end blank r next m
    continuation-fed f e = ap (λ l. leaf_fed text options lookup l r next m) is ∙ ap (λ x. indented_continuation text options lookup x waits end blank r next m) e

    pub indented-goes-on : code_continuation r ≡ grammar.GoesOn → leaf_fed text options lookup m.leaf r next m
        ≡ record m { drawing = lines_drawn text (blank ++ r ∷ []) waits m.drawing; leaf = model.InIndented (waits_after text (blank ++ r ∷ []) waits) r.line_end [] }
    indented-goes-on e = continuation-fed grammar.GoesOn e ∙ lines-fed r blank waits end m

    pub indented-waits : code_continuation r ≡ grammar.Waits → leaf_fed text options lookup m.leaf r next m ≡ record m { leaf = model.InIndented waits end (blank ++ r ∷ []) }
    indented-waits e = continuation-fed grammar.Waits e

    pub indented-stops : (x : Continuation) → shown_continuation x ≡ code_continuation r → (x ≡ Closes) ⊎ (x ≡ Stops) → leaf_fed text options lookup m.leaf r next m ≡ begin text options lookup r next (leaf_closed text options lookup m)
    indented-stops x continuation = ⊎_elim (λ e. continuation-fed grammar.Closes (sym continuation ∙ ap shown_continuation e)) (λ e. continuation-fed grammar.Stops (sym continuation ∙ ap shown_continuation e))
