-- The pass draws the document of the text, or of the rest of a text.
use Rattle.std.proofs.Common.{◌≡◌, ℕ, Bool, false, List, [], ◌∷◌, ◌++◌, ◌+◌, length, drop, refl, ap, ◌∙◌, sym, subst, None}
use Rattle.cmark_grammar.specs.Answers.{Lookup}
use Rattle.cmark_grammar.specs.Options.{Options}
use Rattle.cmark_grammar.specs.Rows.{Row, rows_from, shown, show_as}
use Rattle.cmark_grammar.specs.Blocks.{Blocks, Nil as NoBlocks}
use Rattle.cmark_block_model.specs.BlocksModel.{blocks}
use Rattle.cmark_block_model.specs.BlocksByLine.{OpenLines, Between, close_lines, lines_feed, lines_feed_all, blocks_by_line}
use Rattle.cmark_grammar.specs.Derivation.{document_of}
use Rattle.cmark_block_model.specs.DocumentModel.{document}
use Rattle.cmark_block_model.specs.DrawnDocument.{settled, without_definitions}
use Rattle.cmark_grammar.specs.References.{references}
use Rattle.cmark_grammar.specs.SpanDocuments.{footnote_labels}
use Rattle.cmark_grammar.specs.BlockDocument as document
use Rattle.cmark_grammar.specs.BlockDocument.{node, Reference}
use Rattle.cmark_grammar.specs.Lines.{lines}
use Rattle.cmark_block_model.proofs.BlocksSound.{AreWhole}
use Rattle.cmark_block_model.proofs.BlocksByLine.{by_line-same}
use Rattle.cmark_block_model.specs.Drawing.{nothing_drawn}
use Rattle.cmark_block_model.specs.OpenBlocks.{Closed, no_siblings, Pass}
use Rattle.cmark_block_model.specs.BlockPass.{ended, containers_closed, line_fed, lines_fed, all_closed, pass_over}
use Rattle.cmark_block_model.specs.Tails.{rows_after, blocks_after, document_after, starting_at, pass_after}
use Rattle.cmark_block_model.proofs.Replay.{Noted, Level, replay}
use Rattle.cmark_block_model.proofs.Standing.{First}
use Rattle.cmark_block_model.proofs.Split.{split}
use Rattle.cmark_block_model.proofs.Draws.{finished, draws}
use Rattle.cmark_block_model.proofs.Settles.{settles}
use Rattle.cmark_block_model.proofs.Defines.{defines}
use Rattle.cmark_block_model.proofs.FootnoteLabels.{labels}
use Rattle.cmark_block_model.proofs.Mirror.{pass_with, Fits, containers_at, bare_at, pass_at}
use Rattle.cmark_block_model.proofs.Closing.{leaf-closes, containers-close}
use Rattle.cmark_block_model.proofs.Keeping.{feed-fits}
use Rattle.cmark_block_model.proofs.Simulation.{simulates}
use Rattle.cmark_block_model.proofs.DefinitionDelimiters.{OpenUnmarked, feed-unmarked}

-- the level at the beginning, after definitions of earlier lines
abbrev pub bottom_after : Noted → Level
bottom_after noted = record { drawing = nothing_drawn; inner = no_siblings; noted = noted }

-- the end of the last of these lines
abbrev pub following_end : ℕ → List Row → ℕ
following_end n [] = n
following_end n (r ∷ rs) = following_end r.line_end rs

module _ (text : List ℕ) (options : Options) (lookup : Lookup) (noted : Noted) where
  abbrev bottom : Level
  bottom = bottom_after noted

  shown-whole : (rs : List Row) → AreWhole options rs → shown rs ≡ rs
  shown-whole [] h = refl
  shown-whole (r ∷ rs) h = ap (λ z. show_as z r (shown rs)) h.0 ∙ ap (λ x. r ∷ x) (shown-whole rs h.1)

  shown-first : (r : Row) (rs : List Row) → r.lazy ≡ false → shown (r ∷ rs) ≡ r ∷ shown rs
  shown-first r rs e = ap (λ z. show_as z r (shown rs)) e

  one-fed : (r : Row) (rs : List Row) (o : OpenLines) (n : ℕ) → AreWhole options (r ∷ rs) → OpenUnmarked o → Fits options false o (shown (r ∷ rs)) n
      → line_fed text options lookup r rs (pass_at text options lookup o (shown (r ∷ rs)) bottom [] false n) ≡ pass_at text options lookup (lines_feed options o r (shown rs)) (shown rs) bottom [] false r.line_end
  one-fed r rs o n h u f =
      ap (λ x. line_fed text options lookup r rs (pass_at text options lookup o x bottom [] false n)) (shown-first r rs h.0)
      ∙ ap {A = Pass} {B = Pass} (λ q. record q { line_end = r.line_end }) (simulates text options lookup o false r rs (shown rs) bottom [] n refl u h.0 (sym (shown-whole rs h.1)) (subst (λ x. Fits options false o x n) (shown-first r rs h.0) f))

  next-fits : (r : Row) (rs : List Row) (o : OpenLines) (n : ℕ) → AreWhole options (r ∷ rs) → Fits options false o (shown (r ∷ rs)) n → Fits options false (lines_feed options o r (shown rs)) (shown rs) r.line_end
  next-fits r rs o n h f = feed-fits text options lookup o false r (shown rs) n h.0 (subst (λ x. Fits options false o x n) (shown-first r rs h.0) f)

  all-fed : (rs : List Row) (o : OpenLines) (n : ℕ) → AreWhole options rs → OpenUnmarked o → Fits options false o (shown rs) n
      → lines_fed text options lookup rs (pass_at text options lookup o (shown rs) bottom [] false n) ≡ pass_at text options lookup (lines_feed_all options o rs) [] bottom [] false (following_end n rs)
  all-fed [] o n h u f = refl
  all-fed (r ∷ rs) o n h u f =
      ap (lines_fed text options lookup rs) (one-fed r rs o n h u f) ∙ all-fed rs (lines_feed options o r (shown rs)) r.line_end h.1 (feed-unmarked options o r (shown rs) u) (next-fits r rs o n h f)

  all-fit : (rs : List Row) (o : OpenLines) (n : ℕ) → AreWhole options rs → Fits options false o (shown rs) n → Fits options false (lines_feed_all options o rs) [] (following_end n rs)
  all-fit [] o n h f = f
  all-fit (r ∷ rs) o n h f = all-fit rs (lines_feed options o r (shown rs)) r.line_end h.1 (next-fits r rs o n h f)

  abbrev pub done : Level → Bool → ℕ → Pass
  done l bare n = let q = pass_with l [] bare Closed n in record q { drawing = ended q.inner q.drawing }

  all-closes : (o : OpenLines) (n : ℕ) → Fits options false o [] n → all_closed text options lookup (pass_at text options lookup o [] bottom [] false n) ≡ done (replay text options lookup (close_lines o) bottom) (bare_at false o) n
  all-closes o n f =
      ap (λ p. let q = containers_closed text options lookup [] (containers_at text options lookup o bottom) p in record q { drawing = ended q.inner q.drawing })
      (leaf-closes text options lookup o false n bottom (containers_at text options lookup o bottom) (bare_at false o) f)
      ∙ ap {A = Pass} {B = Pass} (λ q. record q { drawing = ended q.inner q.drawing }) (containers-close text options lookup o false n bottom [] (bare_at false o) f)

  -- the pass is the state after the blocks of the lines
  lines-done : (from : ℕ) (rs : List Row) → AreWhole options rs
      → (bare : Bool) × (n : ℕ)
      × (all_closed text options lookup (lines_fed text options lookup rs (starting_at from noted.references noted.footnotes)) ≡ done (replay text options lookup (close_lines (lines_feed_all options (Between NoBlocks) rs)) bottom) bare n)
  lines-done from rs h =
      let o = lines_feed_all options (Between NoBlocks) rs in
      let n = following_end from rs in (
        bare_at false o,
        n,
        ap (all_closed text options lookup) (all-fed rs (Between NoBlocks) from h tt tt) ∙ all-closes o n (all-fit rs (Between NoBlocks) from h tt),
      )

  drawn-all : (b : Blocks) → finished (replay text options lookup b bottom) ≡ record { here = (split text options lookup None b).after; up = [] }
  drawn-all b = draws text options lookup b First (record { left = document.Nil; node = node document.Paragraph 0 0 }) document.Nil [] false false noted

-- ## The rest of a text

whole-rows : (options : Options) (at : ℕ) (ls : List (List ℕ)) → AreWhole options (rows_from at ls)
whole-rows options at [] = tt
whole-rows options at (l ∷ ls) = (refl, whole-rows options (at + length l) ls)

module _ (text : List ℕ) (options : Options) (lookup : Lookup) (from : ℕ) (earlier : List Reference) (labelled : List (List ℕ)) where
  abbrev noted_before : Noted
  noted_before = record { references = earlier; footnotes = labelled }

  abbrev rest : Pass
  rest = pass_after text options lookup from earlier labelled

  abbrev b : Blocks
  b = blocks_after options text from

  rest-done : (bare : Bool) × (n : ℕ) × (rest ≡ done text options lookup noted_before (replay text options lookup b (bottom_after noted_before)) bare n)
  unfolding pass_after
  rest-done = lines-done text options lookup noted_before from (rows_after text from) (whole-rows options from (lines (drop from text)))

  pub rest-draws :
      (settled false rest.drawing.here ≡ without_definitions (document_after text options lookup from))
      × (rest.drawing.up ≡ [])
      × (rest.references ≡ earlier ++ references (document_after text options lookup from))
      × (rest.footnotes ≡ labelled ++ footnote_labels (document_after text options lookup from))
  rest-draws =
      let p = rest-done in
      let drawn = drawn-all text options lookup noted_before b in (
        ap (λ x. settled false x.drawing.here) p.2 ∙ ap (λ d. settled false d.here) drawn ∙ settles text options lookup b false None,
        ap (λ x. x.drawing.up) p.2 ∙ ap (λ d. d.up) drawn,
        ap (λ x. x.references) p.2 ∙ defines text options lookup b false None (bottom_after noted_before),
        ap (λ x. x.footnotes) p.2 ∙ labels text options lookup b false None (bottom_after noted_before),
      )

-- ## A whole text

module _ (text : List ℕ) (options : Options) (lookup : Lookup) where
  -- the blocks from the beginning on are those of the text
  pub blocks-whole : blocks_after options text 0 ≡ blocks options text
  unfolding blocks_by_line
  blocks-whole = by_line-same options text

  pub document-whole : document_after text options lookup 0 ≡ document text options lookup
  document-whole = ap (document_of text options lookup false None) blocks-whole

  pub pass-whole : pass_over text options lookup ≡ pass_after text options lookup 0 [] []
  unfolding pass_over pass_after
  pass-whole = refl

  pub pass-draws :
      (settled false (pass_over text options lookup).drawing.here ≡ without_definitions (document text options lookup))
      × ((pass_over text options lookup).drawing.up ≡ [])
      × ((pass_over text options lookup).references ≡ references (document text options lookup))
      × ((pass_over text options lookup).footnotes ≡ footnote_labels (document text options lookup))
  pass-draws =
      let p = rest-draws text options lookup 0 [] [] in
      let same = document-whole in (
        ap (λ x. settled false x.drawing.here) pass-whole ∙ p.0 ∙ ap without_definitions same,
        ap (λ x. x.drawing.up) pass-whole ∙ p.1,
        ap (λ x. x.references) pass-whole ∙ p.2 ∙ ap references same,
        ap (λ x. x.footnotes) pass-whole ∙ p.3 ∙ ap footnote_labels same,
      )
