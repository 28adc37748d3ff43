-- The state of the pass between two lines, by the open blocks of the model.
use Rattle.std.proofs.Common.{◌≡◌, ℕ, suc, arith, ◌==◌, Bool, false, ◌&&◌, List, [], ◌∷◌, length, ◌+◌, refl, sym, ap, subst, ◌∙◌}
use Rattle.std.proofs.lemmas.Bool.{ne_eqb}
use Rattle.cmark_grammar.specs.Answers.{Lookup}
use Rattle.cmark_grammar.specs.Options.{Options}
use Rattle.cmark_grammar.specs.Rows.{Row, rows_from, shown, show_as}
use Rattle.cmark_grammar.specs.Containers.{is_bare_start, bare_after}
use Rattle.cmark_grammar.specs.Openings.{Leaf, Table}
use Rattle.cmark_grammar.specs.Blocks.{after_leaf}
use Rattle.cmark_grammar.specs.Places.{allows_lazy}
use Rattle.cmark_block_model.specs.BlocksByLine.{Verbatim, Indented, Fenced, HtmlLines, Metadata, OpenLines, Between, AfterTag, InParagraph, InLeaf, InVerbatim, InContainer, lines_take_lazy, lines_feed}
use Rattle.cmark_block_model.proofs.BlocksSound.{AreWhole}
use Rattle.cmark_block_model.specs.BlockPass.{is_last, line_fed}
use Rattle.cmark_block_model.specs.OpenBlocks as model
use Rattle.cmark_block_model.specs.OpenBlocks.{takes_lazy}
use Rattle.cmark_block_model.proofs.DefinitionDelimiters.{OpenUnmarked}
use Rattle.cmark_block_model.proofs.Flags.{and-true, and-false}
use Rattle.cmark_block_model.proofs.Keeping.{feed-fits}
use Rattle.cmark_block_model.proofs.Mirror.{Fits, table_leaf, leaf_left, verbatim_leaf, leaf_at, containers_at, pass_at, bare_at}
use Rattle.cmark_block_model.proofs.Replay.{Noted, Level}
use Rattle.cmark_block_model.proofs.Simulation.{simulates}
use Rattle.cmark_block_model.proofs.Theorem.{bottom_after}
use Rattle.cmark_blocks.specs.Shown.{ShowsContainers}
use Rattle.cmark_blocks.specs.declared.state.OpenContainer.{OpenContainer}

module _ (text : List ℕ) (options : Options) (lookup : Lookup) where
  pub takes-lazy : (o : OpenLines) → takes_lazy (leaf_at text options lookup o) ≡ lines_take_lazy o
  takes-lazy (Between closed) = refl
  takes-lazy AfterTag = refl
  takes-lazy (InParagraph closed first more) = refl
  takes-lazy (InLeaf closed leaf first had left) = go leaf
    where
      table : (columns : ℕ) (rs : List Row) → takes_lazy (table_leaf columns rs) ≡ false
      table columns [] = refl
      table columns (r ∷ rs) = refl

      go : (leaf : Leaf) → takes_lazy (leaf_left leaf had left) ≡ allows_lazy (after_leaf leaf)
      go (Table alignments) = table (length alignments) had
      go _ = refl
  takes-lazy (InVerbatim closed verbatim first had waiting) = go verbatim
    where
      go : (v : Verbatim) → takes_lazy (verbatim_leaf text options lookup v first had waiting) ≡ false
      go Indented = refl
      go (Fenced fence) = refl
      go (HtmlLines kind) = refl
      go (Metadata kind) = refl
  takes-lazy (InContainer closed k first more inside) = takes-lazy inside

  -- only the innermost container is bare
  pub bare-flag : (o : OpenLines) (b : Bool) (ahead : List Row) (n : ℕ) (l : Level) → Fits options b o ahead n → (bare_at b o && is_last text options lookup (containers_at text options lookup o l)) ≡ b
  bare-flag (Between closed) b ahead n l f = and-true b
  bare-flag AfterTag b ahead n l f = sym f
  bare-flag (InContainer closed k first more inside) b ahead n l f = and-false (bare_at (bare_after (is_bare_start k first) more) inside) ∙ sym f.0
  bare-flag _ b ahead n l f = sym f.0

  -- whether the outermost container is the only one
  pub only-one : (c : OpenContainer) (cs : List OpenContainer) (m : model.OpenContainer) (ms : List model.OpenContainer) → ShowsContainers (c ∷ cs) (m ∷ ms) → (1 == length (c ∷ cs)) ≡ is_last text options lookup ms
  only-one c [] m [] s = refl
  only-one c [] m (n ∷ ms) s = absurd s.1
  only-one c (d ∷ cs) m [] s = absurd s.1
  only-one c (d ∷ cs) m (n ∷ ms) s = ne_eqb 1 (suc (suc (length cs))) (λ e. omega (arith, e))

  pub shown-whole : (rs : List Row) → AreWhole options rs → shown rs ≡ rs
  shown-whole [] h = refl
  shown-whole (r ∷ rs) h = ap (λ z. show_as z r (shown rs)) h.0 ∙ ap (λ x. r ∷ x) (shown-whole rs h.1)

  shown-first : (r : Row) (rs : List Row) → r.lazy ≡ false → shown (r ∷ rs) ≡ r ∷ shown rs
  shown-first r rs e = ap (λ z. show_as z r (shown rs)) e

  -- the pass after another line
  pub one-fed : (noted : Noted) (r : Row) (rs : List Row) (o : OpenLines) (n : ℕ) → AreWhole options (r ∷ rs) → OpenUnmarked o → Fits options false o (shown (r ∷ rs)) n
      → line_fed text options lookup r rs (pass_at text options lookup o (shown (r ∷ rs)) (bottom_after noted) [] false n)
      ≡ pass_at text options lookup (lines_feed options o r (shown rs)) (shown rs) (bottom_after noted) [] false r.line_end
  one-fed noted r rs o n h u f =
      ap (λ x. line_fed text options lookup r rs (pass_at text options lookup o x (bottom_after noted) [] false n)) (shown-first r rs h.0)
      ∙ ap {A = model.Pass} {B = model.Pass} (λ q. record q { line_end = r.line_end }) (simulates text options lookup o false r rs (shown rs) (bottom_after noted) [] n refl u h.0 (sym (shown-whole rs h.1)) (subst (λ x. Fits options false o x n) (shown-first r rs h.0) f))

  pub next-fits : (r : Row) (rs : List Row) (o : OpenLines) (n : ℕ) → AreWhole options (r ∷ rs) → Fits options false o (shown (r ∷ rs)) n → Fits options false (lines_feed options o r (shown rs)) (shown rs) r.line_end
  next-fits r rs o n h f = feed-fits text options lookup o false r (shown rs) n h.0 (subst (λ x. Fits options false o x n) (shown-first r rs h.0) f)

pub whole-rows : (options : Options) (at : ℕ) (ls : List (List ℕ)) → AreWhole options (rows_from at ls)
whole-rows options at [] = tt
whole-rows options at (l ∷ ls) = (refl, whole-rows options (at + length l) ls)
