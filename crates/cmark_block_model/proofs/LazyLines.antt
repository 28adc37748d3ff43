-- A lazy line continues the open paragraph, or begins one after a definition.
use Rattle.std.proofs.Common.{◌≡◌, ℕ, zero, suc, ◌≤◌, Bool, true, false, List, [], ◌∷◌, ◌++◌, length, refl, ap, ◌∙◌, sym, append_assoc, append-nil, arith, true≢false}
use Rattle.cmark_grammar.specs.Answers.{Lookup}
use Rattle.cmark_grammar.specs.Options.{Options}
use Rattle.cmark_grammar.specs.Rows.{Row, start_of, lazy_row}
use Rattle.cmark_grammar.specs.Containers.{Container, enter, is_bare_start, bare_after}
use Rattle.cmark_grammar.specs.Openings.{Leaf, ThematicBreak, AtxHeading, IndentedCode, FencedCode, HtmlBlock, LinkDefinition, lazily, MetadataBlock, Table}
use Rattle.cmark_grammar.specs.Blocks.{Blocks, Nil as NoBlocks, LeafBlock, join as join_blocks, after_leaf, place_in}
use Rattle.cmark_grammar.specs.Places.{Place, Apart, AfterLazy, allows_lazy}
use Rattle.cmark_block_model.specs.BlocksModel.{within, place_after}
use Rattle.cmark_block_model.specs.BlocksByLine.{OpenLines, Between, AfterTag, InParagraph, InLeaf, InVerbatim, InContainer, lines_take_lazy, lines_begin_as, lines_begin_in, lines_begin_at, lines_begin, lines_feed}
use Rattle.cmark_block_model.proofs.BlockLaws.{at-lazy, underlines-lazy, keeps-lazy, strip_lazy, lazily-texts, texts-lazily}
use Rattle.cmark_block_model.proofs.BlocksSound.{bare_push}
use Rattle.cmark_block_model.specs.OpenBlocks.{OpenContainer, InParagraph as InParagraphLeaf}
use Rattle.cmark_block_model.specs.BlockPass.{lazy_fed}
use Rattle.cmark_block_model.proofs.Replay.{Level, entered, leaf_level, replay, replay-join}
use Rattle.cmark_block_model.proofs.Mirror.{whole-same, pass_with, Fits, paragraph_open, paragraph_leaf, inner_at, leaf_at, container_at, containers_at, pass_at, bare_at}
use Rattle.cmark_block_model.proofs.Feeding.{paragraph-goes}

module _ (options : Options) where
  lazily-still : (k j : Container) (r : Row) (x y : List Row) → lazily options k r x ≡ true → lazily options j (lazy_row r) y ≡ true
  lazily-still k j r x y e = texts-lazily options j (lazy_row r) y refl (lazily-texts options k r x [] e)

  pub lazy-begins-at : (place : Place) (b : Blocks) (r : Row) (ahead : List Row) → lines_begin_at options place b (lazy_row r) ahead ≡ InParagraph b (lazy_row r) []
  lazy-begins-at place b r ahead =
      ap (λ o. lines_begin_as o (λ k. lines_begin_in options (length r.columns) (place_in k) NoBlocks (enter k (lazy_row r)) (within k (is_bare_start k (lazy_row r)) ahead)) b (lazy_row r)) (at-lazy options place (lazy_row r) ahead refl)

  pub lazy-begins : (b : Blocks) (r : Row) (ahead : List Row) → lines_begin options b (lazy_row r) ahead ≡ InParagraph b (lazy_row r) []
  unfolding lines_begin
  lazy-begins b r ahead = lazy-begins-at (place_after Apart b) b r ahead

  pub lazy-paragraph : (closed : Blocks) (first : Row) (more : List Row) (r : Row) (ahead x : List Row) (j : Container) → lazily options j r x ≡ true → lines_feed options (InParagraph closed first more) (lazy_row r) ahead ≡ InParagraph closed first (more ++ lazy_row r ∷ [])
  lazy-paragraph closed first more r ahead x j e = cc (underlines-lazy options (lazy_row r) refl, lazily-texts options j r x ahead e)

  pub lazy-container : (closed : Blocks) (k : Container) (first : Row) (more : List Row) (inside : OpenLines) (r : Row) (ahead x : List Row) (j : Container) → lazily options j r x ≡ true → lines_take_lazy inside ≡ true
      → lines_feed options (InContainer closed k first more inside) (lazy_row r) ahead ≡ InContainer closed k first (more ++ lazy_row r ∷ []) (lines_feed options inside (lazy_row r) (within k false ahead))
  lazy-container closed k first more inside r ahead x j e t = grind (arith, keeps-lazy, lazily-still, strip_lazy)

module _ (text : List ℕ) (options : Options) (lookup : Lookup) where
  -- a container continues
  pub container-goes : (closed : Blocks) (k : Container) (first : Row) (more : List Row) (s : Row) (i : OpenLines) (ahead : List Row) (l : Level) (outer : List OpenContainer) (b : Bool) (n : ℕ)
      → pass_at text options lookup i (within k false ahead) (entered k first (replay text options lookup closed l)) (outer ++ container_at text options lookup k first (replay text options lookup closed l) ∷ []) false n
      ≡ pass_at text options lookup (InContainer closed k first (more ++ s ∷ []) i) ahead l outer b n
  container-goes closed k first more s i ahead l outer b n =
      let c = replay text options lookup closed l in
      let v = container_at text options lookup k first c in
      let cs = containers_at text options lookup i (entered k first c) in
      ap (λ o. pass_with (inner_at text options lookup i (within k false ahead) (entered k first c)) o (bare_at false i) (leaf_at text options lookup i) n) (append_assoc outer (v ∷ []) cs)
      ∙ ap (λ z. pass_with (inner_at text options lookup i (within k z ahead) (entered k first c)) (outer ++ v ∷ cs) (bare_at z i) (leaf_at text options lookup i) n) (sym (bare_push options (is_bare_start k first) more s))

  pub lazy-feeds : (o : OpenLines) (b : Bool) (r : Row) (ahead x : List Row) (j : Container) (l : Level) (outer : List OpenContainer) (n : ℕ) → r.lazy ≡ false → Fits options b o [] n → lines_take_lazy o ≡ true → lazily options j r x ≡ true
      → lazy_fed text options lookup (leaf_at text options lookup o) r (pass_with (inner_at text options lookup o [] l) (outer ++ containers_at text options lookup o l) false (leaf_at text options lookup o) n)
      ≡ pass_at text options lookup (lines_feed options o (lazy_row r) ahead) ahead l outer false n
  lazy-feeds (Between closed) b r ahead x j l outer n e f t z = absurd (true≢false (sym t))
  lazy-feeds AfterTag b r ahead x j l outer n e f t z =
      ap (λ q. pass_with (paragraph_open text options lookup r [] l) (outer ++ []) false (InParagraphLeaf [] (start_of q) q) n) (sym (whole-same r e))
      ∙ ap (λ o. pass_at text options lookup o ahead l outer false n) (sym (lazy-begins-at options AfterLazy NoBlocks r ahead))
  lazy-feeds (InParagraph closed first more) b r ahead x j l outer n e f t z =
      paragraph-goes text options lookup first more r (lazy_row r) (replay text options lookup closed l) (outer ++ []) (paragraph_leaf text options lookup first more) n (whole-same r e)
      ∙ ap (λ o. pass_at text options lookup o ahead l outer false n) (sym (lazy-paragraph options closed first more r ahead x j z))
  lazy-feeds (InLeaf closed leaf first had zero) b r ahead x j l outer n e f t z = go leaf t
    where
      go : (leaf : Leaf) → allows_lazy (after_leaf leaf) ≡ true → lazy_fed text options lookup (leaf_at text options lookup (InLeaf closed leaf first had zero)) r (pass_with (inner_at text options lookup (InLeaf closed leaf first had zero) [] l) (outer ++ []) false (leaf_at text options lookup (InLeaf closed leaf first had zero)) n)
          ≡ pass_at text options lookup (lines_begin options (join_blocks closed (LeafBlock leaf first had NoBlocks)) (lazy_row r) ahead) ahead l outer false n
      go ThematicBreak y = absurd (true≢false (sym y))
      go (AtxHeading level) y = absurd (true≢false (sym y))
      go IndentedCode y = absurd (true≢false (sym y))
      go (FencedCode fence) y = absurd (true≢false (sym y))
      go (HtmlBlock kind) y = absurd (true≢false (sym y))
      go (MetadataBlock kind) y = absurd (true≢false (sym y))
      go (Table alignments) y = absurd (true≢false (sym y))
      go (LinkDefinition definition) y =
          let d = LinkDefinition definition in
          ap (λ h. pass_with (paragraph_open text options lookup r [] (leaf_level text options lookup d first h (replay text options lookup closed l))) (outer ++ []) false (InParagraphLeaf [] (start_of r) r) n) (append-nil had)
          ∙ ap (λ q. pass_with (paragraph_open text options lookup r [] q) (outer ++ []) false (InParagraphLeaf [] (start_of r) r) n) (sym (replay-join text options lookup closed (LeafBlock d first had NoBlocks) l))
          ∙ ap (λ q. pass_with (paragraph_open text options lookup r [] (replay text options lookup (join_blocks closed (LeafBlock d first had NoBlocks)) l)) (outer ++ []) false (InParagraphLeaf [] (start_of q) q) n) (sym (whole-same r e))
          ∙ ap (λ o. pass_at text options lookup o ahead l outer false n) (sym (lazy-begins options (join_blocks closed (LeafBlock d first had NoBlocks)) r ahead))
  lazy-feeds (InLeaf closed leaf first had (suc left)) b r ahead x j l outer n e f t z = absurd (let le : suc left ≤ 0 = f.1 in omega (arith, le))
  lazy-feeds (InVerbatim closed verbatim first had waiting) b r ahead x j l outer n e f t z = absurd (true≢false (sym t))
  lazy-feeds (InContainer closed k first more inside) b r ahead x j l outer n e f t z =
      let c = replay text options lookup closed l in
      let v = container_at text options lookup k first c in
      let cs = containers_at text options lookup inside (entered k first c) in
      ap (λ o. lazy_fed text options lookup (leaf_at text options lookup inside) r (pass_with (inner_at text options lookup inside [] (entered k first c)) o false (leaf_at text options lookup inside) n)) (sym (append_assoc outer (v ∷ []) cs))
      ∙ lazy-feeds inside (bare_after (is_bare_start k first) more) r (within k false ahead) x j (entered k first c) (outer ++ v ∷ []) n e f.2 t z
      ∙ container-goes closed k first more (lazy_row r) (lines_feed options inside (lazy_row r) (within k false ahead)) ahead l outer false n
      ∙ ap (λ o. pass_at text options lookup o ahead l outer false n) (sym (lazy-container options closed k first more inside r ahead x j z t))
