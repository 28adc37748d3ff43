-- The invariant of the open blocks is kept, line by line.
use Rattle.std.proofs.Common.{◌≡◌, ℕ, zero, suc, ◌≤◌, ◌&&◌, Bool, true, false, List, [], ◌∷◌, ◌++◌, length, refl, ap, ◌∙◌, sym, subst, Option, Some, None, arith, true≢false, rules}
use Rattle.cmark_grammar.specs.Answers.{Lookup}
use Rattle.cmark_grammar.specs.Options.{Options}
use Rattle.cmark_grammar.specs.Places.{AfterLazy}
use Rattle.cmark_grammar.specs.Rows.{Row, lazy_row, show_as}
use Rattle.cmark_grammar.specs.Containers.{Container, keeps, strip, is_bare_start, bare_after}
use Rattle.cmark_grammar.specs.Openings.{Leaf, lazily}
use Rattle.cmark_grammar.specs.Blocks.{Blocks, Nil as NoBlocks, LeafBlock, ContainerBlock, join as join_blocks}
use Rattle.cmark_block_model.specs.BlocksModel.{within}
use Rattle.cmark_block_model.specs.BlocksByLine.{Verbatim, continuation_in, continuation_if, OpenLines, Between, AfterTag, InParagraph, InLeaf, InVerbatim, InContainer, close_lines, lines_take_lazy, lines_kept_or, verbatim_line, lines_begin, lines_feed}
use Rattle.cmark_block_model.proofs.BlockLaws.{strip_lazy, strip_whole}
use Rattle.cmark_block_model.proofs.BlocksSound.{bare_push, is_both}
use Rattle.cmark_block_model.proofs.RowPlaces.{strip-line_end}
use Rattle.cmark_block_model.proofs.Mirror.{line_end_push, cells_left, left-push, row-taken, AreBefore, FitsLeaf, FitsVerbatim, Fits}
use Rattle.cmark_block_model.proofs.Beginning.{starts-fit, starts-fit-at}
use Rattle.cmark_block_model.proofs.LazyLines.{lazy-begins-at, lazy-begins, lazy-paragraph, lazy-container}
use Rattle.cmark_block_model.proofs.VerbatimLines.{had-more, never-waits}

before-push : (closes : Row → Bool) (rs : List Row) (r : Row) → AreBefore closes rs → closes r ≡ false → AreBefore closes (rs ++ r ∷ [])
before-push closes [] r h e = (e, tt)
before-push closes (s ∷ rs) r h e = (h.0, before-push closes rs r h.1 e)

-- the lines ahead inside a container, if the line has the prefix, and if it lacks it
pub kept-ahead : (options : Options) (k : Container) (b : Bool) (r s : Row) (ahead : List Row) → r.lazy ≡ false → keeps k b r ≡ Some s → within k b (r ∷ ahead) ≡ strip k b r ∷ within k false ahead
kept-ahead options k b r s ahead e q = ap (λ z. show_as z (strip k b r) (within k false ahead)) (strip_whole options k b r s q)

pub off-ahead : (options : Options) (k : Container) (b : Bool) (r : Row) (ahead : List Row) → keeps k b r ≡ None → within k b (r ∷ ahead) ≡ []
off-ahead options k b r ahead q = ap (λ s. show_as s.lazy s (within k false ahead)) (strip_lazy options k b r q)

module _ (text : List ℕ) (options : Options) (lookup : Lookup) where
  container-fits : (closed : Blocks) (k : Container) (first : Row) (more : List Row) (s : Row) (i : OpenLines) (ahead : List Row) (n : ℕ) → s.line_end ≡ n → Fits options false i (within k false ahead) n → Fits options false (InContainer closed k first (more ++ s ∷ []) i) ahead n
  container-fits closed k first more s i ahead n e f =
      (refl, line_end_push first more s ∙ e, subst (λ z. Fits options z i (within k z ahead) n) (sym (bare_push options (is_bare_start k first) more s)) f)

  lazy-fits : (o : OpenLines) (b : Bool) (r : Row) (ahead x : List Row) (j : Container) (n : ℕ) → Fits options b o [] n → lines_take_lazy o ≡ true → lazily options j r x ≡ true → Fits options false (lines_feed options o (lazy_row r) ahead) ahead r.line_end
  lazy-fits AfterTag b r ahead x j n f t z = subst (λ o. Fits options false o ahead r.line_end) (sym (lazy-begins-at options AfterLazy NoBlocks r ahead)) (refl, refl)
  lazy-fits (InParagraph closed first more) b r ahead x j n f t z =
      subst (λ o. Fits options false o ahead r.line_end) (sym (lazy-paragraph options closed first more r ahead x j z)) (refl, line_end_push first more (lazy_row r))
  lazy-fits (InLeaf closed leaf first had zero) b r ahead x j n f t z =
      subst (λ o. Fits options false o ahead r.line_end) (sym (lazy-begins options (join_blocks closed (LeafBlock leaf first had NoBlocks)) r ahead)) (refl, refl)
  lazy-fits (InLeaf closed leaf first had (suc left)) b r ahead x j n f t z = absurd (let le : suc left ≤ 0 = f.1 in omega (arith, le))
  lazy-fits (InContainer closed k first more inside) b r ahead x j n f t z =
      subst (λ o. Fits options false o ahead r.line_end) (sym (lazy-container options closed k first more inside r ahead x j z t))
      (container-fits closed k first more (lazy_row r) (lines_feed options inside (lazy_row r) (within k false ahead)) ahead r.line_end refl (lazy-fits inside (bare_after (is_bare_start k first) more) r (within k false ahead) x j n f.2 t z))
  lazy-fits _ b r ahead x j n f t z = absurd (true≢false (sym t))

  verbatim-fits : (v : Verbatim) (closed : Blocks) (first : Row) (had waiting : List Row) (r : Row) (ahead : List Row) (b : Bool) (n : ℕ) → r.lazy ≡ false → FitsVerbatim v first had waiting n
      → Fits options false (verbatim_line (continuation_in v r) closed v first had waiting r (lines_begin options (close_lines (InVerbatim closed v first had waiting)) r ahead)) ahead r.line_end
  verbatim-fits v closed first had waiting r ahead b n e f = search (rules, starts-fit, line_end_push, had-more, before-push, never-waits)

  -- a line of a leaf leaves one line fewer to come
  leaf-fits : (leaf : Leaf) (first : Row) (had : List Row) (left : ℕ) (r : Row) (ahead : List Row) (n : ℕ) → FitsLeaf options leaf first had (suc left) (r ∷ ahead) n → FitsLeaf options leaf first (had ++ r ∷ []) left ahead r.line_end
  leaf-fits leaf first had left r ahead n f = grind (arith, line_end_push, row-taken, cells_left, left-push)

  pub feed-fits : (o : OpenLines) (b : Bool) (r : Row) (ahead : List Row) (n : ℕ) → r.lazy ≡ false → Fits options b o (r ∷ ahead) n → Fits options false (lines_feed options o r ahead) ahead r.line_end
  feed-fits (Between closed) b r ahead n e f = starts-fit text options lookup closed r ahead e
  feed-fits AfterTag b r ahead n e f = starts-fit-at text options lookup AfterLazy NoBlocks r ahead e
  feed-fits (InParagraph closed first more) b r ahead n e f = grind (arith, line_end_push, starts-fit)
  feed-fits (InLeaf closed leaf first had zero) b r ahead n e f = starts-fit text options lookup (join_blocks closed (LeafBlock leaf first had NoBlocks)) r ahead e
  feed-fits (InLeaf closed leaf first had (suc left)) b r ahead n e f =
      let le : suc left ≤ suc (length ahead) = f.1 in (refl, omega (arith, le), λ z. let q : suc left ≡ 0 = f.2 z in absurd (omega (arith, q)), leaf-fits leaf first had left r ahead n f.3)
  feed-fits (InVerbatim closed v first had waiting) b r ahead n e f =
      subst (λ z. Fits options false (verbatim_line (continuation_if z v r) closed v first had waiting r (lines_begin options (close_lines (InVerbatim closed v first had waiting)) r ahead)) ahead r.line_end) (sym e) (verbatim-fits v closed first had waiting r ahead b n e f.1)
  feed-fits (InContainer closed k first more inside) b r ahead n e f =
      go (keeps k bare r) refl (lazily options k r ahead && lines_take_lazy inside) refl (λ s q. feed-fits inside bare (strip k bare r) (within k false ahead) n (strip_whole options k bare r s q) (subst (λ a. Fits options bare inside a n) (kept-ahead options k bare r s ahead e q) inner))
    where
      bare : Bool
      bare = bare_after (is_bare_start k first) more

      inner : Fits options (bare_after (is_bare_start k first) more) inside (within k (bare_after (is_bare_start k first) more) (r ∷ ahead)) n
      inner = f.2

      on : Fits options false (lines_feed options inside (strip k bare r) (within k false ahead)) (within k false ahead) r.line_end → Fits options false (InContainer closed k first (more ++ r ∷ []) (lines_feed options inside (strip k bare r) (within k false ahead))) ahead r.line_end
      on i = container-fits closed k first more r (lines_feed options inside (strip k bare r) (within k false ahead)) ahead r.line_end refl i

      go : (o : Option Row) → keeps k bare r ≡ o → (z : Bool) → (lazily options k r ahead && lines_take_lazy inside) ≡ z
          → ((s : Row) → keeps k bare r ≡ Some s → Fits options false (lines_feed options inside (strip k bare r) (within k false ahead)) (within k false ahead) (strip k bare r).line_end)
          → Fits options false (lines_kept_or o z (InContainer closed k first (more ++ r ∷ []) (lines_feed options inside (strip k bare r) (within k false ahead))) (lines_begin options (join_blocks closed (ContainerBlock k first more (close_lines inside) NoBlocks)) r ahead)) ahead r.line_end
      go (Some s) q z t ih = on (subst (λ m. Fits options false (lines_feed options inside (strip k bare r) (within k false ahead)) (within k false ahead) m) (strip-line_end k bare r) (ih s q))
      go None q true t ih =
          let p = is_both options (lazily options k r ahead) (lines_take_lazy inside) t in
          on (subst (λ s. Fits options false (lines_feed options inside s (within k false ahead)) (within k false ahead) r.line_end) (sym (strip_lazy options k bare r q))
          (lazy-fits inside bare r (within k false ahead) ahead k n (subst (λ a. Fits options bare inside a n) (off-ahead options k bare r ahead q) inner) p.1 p.0))
      go None q false t ih = starts-fit text options lookup (join_blocks closed (ContainerBlock k first more (close_lines inside) NoBlocks)) r ahead e
