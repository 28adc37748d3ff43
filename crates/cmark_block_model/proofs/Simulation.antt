-- After another line the pass and the model are in corresponding states.
use Rattle.std.proofs.Common.{◌≡◌, ℕ, ◌&&◌, Bool, true, false, List, [], ◌∷◌, ◌++◌, refl, ap, ◌∙◌, sym, subst, append_assoc, append-nil, Option, Some, None, arith}
use Rattle.std.specs.Prelude.{if◌then◌else◌}
use Rattle.cmark_grammar.specs.Answers.{Lookup}
use Rattle.cmark_grammar.specs.Options.{Options}
use Rattle.cmark_grammar.specs.Rows.{Row}
use Rattle.cmark_grammar.specs.Containers.{keeps, strip, strip_as, is_bare_start, bare_after}
use Rattle.cmark_grammar.specs.Openings.{lazily}
use Rattle.cmark_grammar.specs.Blocks.{Nil as NoBlocks, ContainerBlock, join as join_blocks}
use Rattle.cmark_block_model.specs.BlocksModel.{within}
use Rattle.cmark_block_model.specs.BlocksByLine.{OpenLines, Between, AfterTag, InParagraph, InLeaf, InVerbatim, InContainer, close_lines, lines_take_lazy, lines_kept_or, lines_begin, lines_feed}
use Rattle.cmark_block_model.proofs.BlockLaws.{strip_lazy, strip_whole}
use Rattle.cmark_block_model.proofs.BlocksSound.{is_both}
use Rattle.cmark_block_model.specs.OpenBlocks.{OpenContainer, Closed, takes_lazy, Pass}
use Rattle.cmark_block_model.specs.BlockPass.{ahead_in, begin, leaf_closed, lazy_fed, containers_closed, LineKeepers, is_last, kept_if, kept_by, line_with}
use Rattle.cmark_block_model.proofs.Replay.{Level, entered, replay}
use Rattle.cmark_block_model.proofs.Mirror.{pass_with, table_leaf, leaf_left, verbatim_leaf, Fits, inner_at, leaf_at, container_at, containers_at, pass_at, bare_at}
use Rattle.cmark_block_model.proofs.Flags.{and-true, and-false}
use Rattle.cmark_block_model.proofs.Closing.{leaf-closes, containers-close}
use Rattle.cmark_block_model.proofs.Beginning.{ahead-inside, IsFresh, starts, starts-following-tag}
use Rattle.cmark_block_model.proofs.Feeding.{paragraph-feeds, leaf-feeds}
use Rattle.cmark_block_model.proofs.VerbatimLines.{verbatim-feeds}
use Rattle.cmark_block_model.proofs.LazyLines.{container-goes, lazy-feeds}
use Rattle.cmark_block_model.proofs.Keeping.{kept-ahead, off-ahead}
use Rattle.cmark_block_model.proofs.ListDelimiters.{unmarked-join}
use Rattle.cmark_block_model.proofs.DefinitionDelimiters.{OpenUnmarked}

module _ (text : List ℕ) (options : Options) (lookup : Lookup) where
  takes-lazy : (o : OpenLines) → takes_lazy (leaf_at text options lookup o) ≡ lines_take_lazy o
  takes-lazy (Between closed) = refl
  takes-lazy AfterTag = refl
  takes-lazy (InParagraph closed first more) = refl
  takes-lazy (InLeaf closed leaf first had left) = grind (arith, table_leaf, leaf_left)
  takes-lazy (InVerbatim closed verbatim first had waiting) = grind (arith, verbatim_leaf)
  takes-lazy (InContainer closed k first more inside) = takes-lazy inside

  -- only the innermost container is bare
  bare-flag : (o : OpenLines) (b : Bool) (ahead : List Row) (n : ℕ) (l : Level) → Fits options b o ahead n → (bare_at b o && is_last text options lookup (containers_at text options lookup o l)) ≡ b
  bare-flag (Between closed) b ahead n l f = and-true b
  bare-flag AfterTag b ahead n l f = sym f
  bare-flag (InContainer closed k first more inside) b ahead n l f = and-false (bare_at (bare_after (is_bare_start k first) more) inside) ∙ sym f.0
  bare-flag _ b ahead n l f = sym f.0

  abbrev pub fed : LineKeepers text options lookup → List Row → Pass → Pass
  fed w next p = line_with text options lookup w.missed w.kept w.left next p

  pub simulates : (o : OpenLines) (b : Bool) (r : Row) (next ahead : List Row) (l : Level) (outer : List OpenContainer) (n : ℕ) → IsFresh text options lookup l → OpenUnmarked o → r.lazy ≡ false → ahead_in text options lookup outer next ≡ ahead → Fits options b o (r ∷ ahead) n
      → fed (kept_by text options lookup outer (containers_at text options lookup o l) (bare_at b o) r) next (pass_with (inner_at text options lookup o (r ∷ ahead) l) (outer ++ containers_at text options lookup o l) false (leaf_at text options lookup o) n)
      ≡ pass_at text options lookup (lines_feed options o r ahead) ahead l outer false n
  simulates (Between closed) b r next ahead l outer n h u e a f =
      ap (λ o. begin text options lookup r next (pass_with (replay text options lookup closed l) o false Closed n)) (append-nil outer) ∙ starts text options lookup closed r next ahead l outer n h u e a
  simulates AfterTag b r next ahead l outer n h u e a f =
      ap (λ o. begin text options lookup r next (pass_with l o false Closed n)) (append-nil outer) ∙ starts-following-tag text options lookup r next ahead l outer n h e a
  simulates (InParagraph closed first more) b r next ahead l outer n h u e a f = cc (append-nil outer, paragraph-feeds text options lookup closed first more r next ahead l outer b n e a h u f)
  simulates (InLeaf closed leaf first had left) b r next ahead l outer n h u e a f = cc (append-nil outer, leaf-feeds text options lookup closed leaf first had left r next ahead l outer b n e a h u f)
  simulates (InVerbatim closed v first had waiting) b r next ahead l outer n h u e a f = cc (append-nil outer, verbatim-feeds text options lookup v closed first had waiting r next ahead l outer b n e a h u f)
  simulates (InContainer closed k first more inside) b r next ahead l outer n h u e a f =
      ap (λ z. fed (kept_if text options lookup (keeps k z r) (λ s. kept_by text options lookup (outer ++ v ∷ []) cs (bare_at bare inside) s) (record { kept = outer; missed = v ∷ cs; left = r })) next p)
      (bare-flag inside bare (within k bare (r ∷ ahead)) n (entered k first c) f.2)
      ∙ go (keeps k bare r) refl (λ s q. simulates inside bare (strip k bare r) next (within k false ahead) (entered k first c) (outer ++ v ∷ []) n refl u.2 (strip_whole options k bare r s q)
      (ahead-inside text options lookup outer v next ∙ ap (within k false) a) (subst (λ x. Fits options bare inside x n) (kept-ahead options k bare r s ahead e q) inner))
    where
      bare : Bool
      bare = bare_after (is_bare_start k first) more

      inner : Fits options (bare_after (is_bare_start k first) more) inside (within k (bare_after (is_bare_start k first) more) (r ∷ ahead)) n
      inner = f.2

      c : Level
      c = replay text options lookup closed l

      v : OpenContainer
      v = container_at text options lookup k first (replay text options lookup closed l)

      cs : List OpenContainer
      cs = containers_at text options lookup inside (entered k first (replay text options lookup closed l))

      p : Pass
      p = pass_with (inner_at text options lookup inside (within k (bare_after (is_bare_start k first) more) (r ∷ ahead)) (entered k first (replay text options lookup closed l))) (outer ++ v ∷ cs) false (leaf_at text options lookup inside) n

      -- the pass, if these lines are ahead inside
      seen : List Row → Pass
      seen x = pass_with (inner_at text options lookup inside x (entered k first (replay text options lookup closed l))) (outer ++ v ∷ cs) false (leaf_at text options lookup inside) n

      on : OpenLines
      on = InContainer closed k first (more ++ r ∷ []) (lines_feed options inside (strip k bare r) (within k false ahead))

      off : OpenLines
      off = lines_begin options (join_blocks closed (ContainerBlock k first more (close_lines inside) NoBlocks)) r ahead

      missed : keeps k bare r ≡ None → (z : Bool) → (lazily options k r ahead && lines_take_lazy inside) ≡ z
          → (if z then lazy_fed text options lookup (leaf_at text options lookup inside) r p else begin text options lookup r next (containers_closed text options lookup outer (v ∷ cs) (leaf_closed text options lookup p)))
          ≡ pass_at text options lookup (lines_kept_or None z on off) ahead l outer false n
      missed q true t =
          let y = is_both options (lazily options k r ahead) (lines_take_lazy inside) t in
          let g : Fits options bare inside [] n = subst (λ x. Fits options bare inside x n) (off-ahead options k bare r ahead q) inner in
          ap (λ x. lazy_fed text options lookup (leaf_at text options lookup inside) r (seen x)) (off-ahead options k bare r ahead q)
          ∙ ap (λ o. lazy_fed text options lookup (leaf_at text options lookup inside) r (pass_with (inner_at text options lookup inside [] (entered k first c)) o false (leaf_at text options lookup inside) n)) (sym (append_assoc outer (v ∷ []) cs))
          ∙ lazy-feeds text options lookup inside bare r (within k false ahead) ahead k (entered k first c) (outer ++ v ∷ []) n e g y.1 y.0
          ∙ ap (λ s. pass_at text options lookup (lines_feed options inside s (within k false ahead)) (within k false ahead) (entered k first c) (outer ++ v ∷ []) false n) (sym (strip_lazy options k bare r q))
          ∙ container-goes text options lookup closed k first more r (lines_feed options inside (strip k bare r) (within k false ahead)) ahead l outer false n
      missed q false t =
          let g : Fits options bare inside [] n = subst (λ x. Fits options bare inside x n) (off-ahead options k bare r ahead q) inner in
          ap (λ x. begin text options lookup r next (containers_closed text options lookup outer (v ∷ cs) (leaf_closed text options lookup (seen x)))) (off-ahead options k bare r ahead q)
          ∙ ap (λ x. begin text options lookup r next (containers_closed text options lookup outer (v ∷ cs) x)) (leaf-closes text options lookup inside bare n (entered k first c) (outer ++ v ∷ cs) false g)
          ∙ ap (begin text options lookup r next) (containers-close text options lookup (InContainer closed k first more inside) b n l outer false (f.0, f.1, g))
          ∙ starts text options lookup (join_blocks closed (ContainerBlock k first more (close_lines inside) NoBlocks)) r next ahead l outer n h (unmarked-join closed (ContainerBlock k first more (close_lines inside) NoBlocks) u.0 (u.1, tt)) e a

      go : (o : Option Row) → keeps k bare r ≡ o
          → ((s : Row) → keeps k bare r ≡ Some s → fed (kept_by text options lookup (outer ++ v ∷ []) cs (bare_at bare inside) (strip k bare r)) next (pass_with (inner_at text options lookup inside (strip k bare r ∷ within k false ahead) (entered k first (replay text options lookup closed l))) ((outer ++ v ∷ []) ++ cs) false (leaf_at text options lookup inside) n)
          ≡ pass_at text options lookup (lines_feed options inside (strip k bare r) (within k false ahead)) (within k false ahead) (entered k first (replay text options lookup closed l)) (outer ++ v ∷ []) false n)
          → fed (kept_if text options lookup o (λ s. kept_by text options lookup (outer ++ v ∷ []) cs (bare_at bare inside) s) (record { kept = outer; missed = v ∷ cs; left = r })) next p
          ≡ pass_at text options lookup (lines_kept_or o (lazily options k r ahead && lines_take_lazy inside) on off) ahead l outer false n
      go (Some s) q ih =
          ap (λ x. fed (kept_by text options lookup (outer ++ v ∷ []) cs (bare_at bare inside) x) next p) (sym (ap (λ o. strip_as o r) q))
          ∙ ap (λ x. fed (kept_by text options lookup (outer ++ v ∷ []) cs (bare_at bare inside) (strip k bare r)) next (seen x)) (kept-ahead options k bare r s ahead e q)
          ∙ ap (λ o. fed (kept_by text options lookup (outer ++ v ∷ []) cs (bare_at bare inside) (strip k bare r)) next (pass_with (inner_at text options lookup inside (strip k bare r ∷ within k false ahead) (entered k first c)) o false (leaf_at text options lookup inside) n)) (sym (append_assoc outer (v ∷ []) cs))
          ∙ ih s q
          ∙ container-goes text options lookup closed k first more r (lines_feed options inside (strip k bare r) (within k false ahead)) ahead l outer false n
      go None q ih = grind (arith, leaf_at, p, v, cs, takes-lazy, missed)
