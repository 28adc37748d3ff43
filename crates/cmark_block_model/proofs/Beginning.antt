-- The opening of a line: the pass begins the same blocks as the model.
use Rattle.std.proofs.Common.{◌≡◌, ℕ, zero, suc, ◌≤◌, ◌<◌, Bool, true, false, List, [], ◌∷◌, ◌++◌, length, refl, ap, ◌∙◌, sym, append_assoc, append-nil, arith, true≢false}
use Rattle.cmark_grammar.specs.Answers.{Lookup}
use Rattle.cmark_grammar.specs.Options.{Options}
use Rattle.cmark_grammar.specs.Rows.{Row, is_blank_line, shown}
use Rattle.cmark_grammar.specs.Containers.{Container, BlockQuote, Item, Footnote, ListDefinition, is_alert, enter, strips, is_bare_start}
use Rattle.cmark_grammar.specs.Openings.{Leaf, Opening, Blank, Nests, Takes, Plain, opens, opens_at}
use Rattle.cmark_grammar.specs.Blocks.{Blocks, Nil as NoBlocks, BlankLine, Paragraph, SetextHeading, LeafBlock, ContainerBlock, after_leaf, after_container, place_in}
use Rattle.cmark_grammar.specs.Places.{Place, Apart, AfterLazy, AfterTitle, is_after_task, over_blank, is_after_title}
use Rattle.cmark_block_model.specs.BlocksModel.{within, place_after}
use Rattle.cmark_block_model.specs.BlocksByLine.{OpenLines, Between, InContainer, html_begun as html_lines_begun, leaf_begun as leaf_lines_begun, lines_inside_begun, lines_begin_as, lines_begin_in, lines_begin_at, lines_begin}
use Rattle.cmark_block_model.proofs.BlockLaws.{no_metadata, enter-lazy, at-enter, at-len, blank-at, at-same}
use Rattle.cmark_block_model.specs.OpenBlocks.{OpenContainer, Closed, AfterTag as AfterTagLeaf, Pass, no_siblings, Siblings}
use Rattle.cmark_block_model.specs.BlockPass.{inside_begun as inside_or_tag, container_begun, is_item, ahead_in, html_begun, leaf_begun, begin_as, begin_in, begin, place_of}
use Rattle.cmark_block_model.proofs.Replay.{Level, marked, begun, item_if, item_level, level_opened, entered, leaf_level, replay, replay-join, title_level, definition_level}
use Rattle.cmark_block_model.proofs.Tells.{Tells, tells-at}
use Rattle.cmark_block_model.proofs.Mirror.{whole, whole-same, pass_with, bare_at, Fits, inner_at, leaf_at, container_at, containers_at, pass_at, paragraph_open}
use Rattle.cmark_block_model.proofs.ListDelimiters.{Unmarked}
use Rattle.cmark_block_model.proofs.Places.{place-replay}
use Rattle.cmark_block_model.proofs.TableCounts.{table-lines}

module _ (text : List ℕ) (options : Options) (lookup : Lookup) where
  -- the lines ahead inside another container
  pub ahead-inside : (outer : List OpenContainer) (c : OpenContainer) (next : List Row) → ahead_in text options lookup (outer ++ c ∷ []) next ≡ within c.container false (ahead_in text options lookup outer next)
  ahead-inside [] c next = refl
  ahead-inside (o ∷ outer) c next = ahead-inside outer c (shown (strips o.container false next))

  container-begins : (k : Container) (r : Row) (l : Level) (outer : List OpenContainer) (n : ℕ) → container_begun k r (pass_with l outer false Closed n) ≡ pass_with (entered k r l) (outer ++ container_at text options lookup k r l ∷ []) false Closed n
  container-begins (BlockQuote alert) r l outer n = refl
  container-begins (Footnote label old size) r l outer n = refl
  container-begins (Item delimiter number width task) r l outer n = grind (arith, marked, pass_with, level_opened, item_if, item_level)
  container-begins (ListDefinition width) r l outer n = grind (arith, pass_with, level_opened, item_if, item_level, title_level, definition_level)

  -- a blank line begins nothing, whatever is ahead
  opens-blank : (r : Row) (ahead : List Row) → r.lazy ≡ false → is_blank_line r ≡ true → opens options r ahead ≡ Blank
  unfolding opens
  opens-blank r ahead l b = rw (l, no_metadata options r b, b) refl

  at-blank : (place : Place) (r : Row) (ahead : List Row) → r.lazy ≡ false → is_blank_line r ≡ true → opens_at options place r ahead ≡ Blank
  at-blank place r ahead l b = blank-at options place r ahead (opens-blank r ahead l b) b

  bare-start : (k : Container) (r : Row) → is_bare_start k r ≡ true → is_blank_line (enter k r) ≡ true
  bare-start k r e = grind arith

  bare-item : (k : Container) (r : Row) → is_bare_start k r ≡ true → is_item k ≡ true
  bare-item k r e = grind arith

  bare-none : (k : Container) (r : Row) → is_bare_start k r ≡ false → is_blank_line (enter k r) ≡ true → is_item k ≡ false
  bare-none k r e b = grind arith

  pub enter-line_end : (k : Container) (r : Row) → (enter k r).line_end ≡ r.line_end
  unfolding enter
  enter-line_end k r = refl

  -- a leaf that begins
  html-begins : (z : Bool) (kind : ℕ) (closed : Blocks) (r : Row) (ahead : List Row) (l : Level) (outer : List OpenContainer) (b : Bool) (n : ℕ)
      → html_begun text options lookup z kind r.line_end (pass_with (record (replay text options lookup closed l) { drawing = (inner_at text options lookup (html_lines_begun false closed kind r) ahead l).drawing; inner = (begun (replay text options lookup closed l)).inner }) outer false Closed n)
      ≡ pass_with (inner_at text options lookup (html_lines_begun z closed kind r) ahead l) outer (bare_at b (html_lines_begun z closed kind r)) (leaf_at text options lookup (html_lines_begun z closed kind r)) n
  html-begins true kind closed r ahead l outer b n = refl
  html-begins false kind closed r ahead l outer b n = refl

  leaf-begins : (leaf : Leaf) (more : ℕ) (closed : Blocks) (r : Row) (ahead : List Row) (l : Level) (outer : List OpenContainer) (b : Bool) (n : ℕ) → Tells r (Takes leaf more)
      → leaf_begun text options lookup leaf more r ahead (pass_with (replay text options lookup closed l) outer false Closed n)
      ≡ pass_with (inner_at text options lookup (leaf_lines_begun leaf more closed r) ahead l) outer (bare_at b (leaf_lines_begun leaf more closed r)) (leaf_at text options lookup (leaf_lines_begun leaf more closed r)) n
  leaf-begins leaf more closed r ahead l outer b n t = grind (arith, pass_with, leaf_level, replay, html-begins)

  leaf-alone : (leaf : Leaf) (more : ℕ) (closed : Blocks) (r : Row) (l : Level) → containers_at text options lookup (leaf_lines_begun leaf more closed r) l ≡ []
  leaf-alone leaf more closed r l = grind (arith, containers_at)

  leaf-bare : (leaf : Leaf) (more : ℕ) (closed : Blocks) (r : Row) (a b : Bool) → bare_at a (leaf_lines_begun leaf more closed r) ≡ bare_at b (leaf_lines_begun leaf more closed r)
  leaf-bare leaf more closed r a b = grind (arith, bare_at)

  -- the open blocks after the first line inside a container
  abbrev pub inside_begun : ℕ → Container → Row → List Row → OpenLines
  inside_begun m k r ahead = lines_begin_in options m (place_in k) NoBlocks (enter k r) ahead

  blank-begins : (m : ℕ) (k : Container) (r : Row) (ahead : List Row) → r.lazy ≡ false → is_blank_line (enter k r) ≡ true → inside_begun (suc m) k r ahead ≡ Between (BlankLine (enter k r) NoBlocks)
  blank-begins m k r ahead l b = cc (at-blank (place_in k) (enter k r) ahead (enter-lazy options k r ∙ l) b)

  -- an alert's first line is not blank after the marker
  alert-whole : (k : Container) (r : Row) → is_alert k ≡ true → is_bare_start k r ≡ false
  alert-whole k r e = grind arith

  bare-begins : (m : ℕ) (k : Container) (r : Row) (ahead : List Row) → is_bare_start k r ≡ false → bare_at (is_item k) (inside_begun (suc m) k r ahead) ≡ bare_at false (inside_begun (suc m) k r ahead)
  bare-begins m k r ahead e = grind (arith, tells-at, bare_at, bare-none, leaf-bare)

  inside-same : (m : ℕ) (k : Container) (r : Row) (ahead : List Row) (l : Level) (outer : List OpenContainer) (n : ℕ) → r.lazy ≡ false → length (enter k r).columns < m
      → pass_at text options lookup (inside_begun m k r (within k false ahead)) (within k false ahead) l outer (is_item k) n
      ≡ pass_at text options lookup (inside_begun m k r (within k (is_bare_start k r) ahead)) (within k (is_bare_start k r) ahead) l outer (is_bare_start k r) n
  inside-same zero k r ahead l outer n e f = absurd (omega (arith, f))
  inside-same (suc m) k r ahead l outer n e f = go (is_bare_start k r) refl
    where
      go : (z : Bool) → is_bare_start k r ≡ z → pass_at text options lookup (inside_begun (suc m) k r (within k false ahead)) (within k false ahead) l outer (is_item k) n
          ≡ pass_at text options lookup (inside_begun (suc m) k r (within k (is_bare_start k r) ahead)) (within k (is_bare_start k r) ahead) l outer (is_bare_start k r) n
      go true b = grind (arith, pass_at, blank-begins, bare-start, bare-item)
      go false b = cc (bare-begins m k r (within k false ahead) b)

  pub begins : (m : ℕ) (at place : Place) (closed : Blocks) (r : Row) (next ahead : List Row) (l : Level) (outer : List OpenContainer) (b : Bool) (n : ℕ) → is_after_task at ≡ is_after_task place → is_after_title at ≡ is_after_title place → r.lazy ≡ false → length r.columns < m → ahead_in text options lookup outer next ≡ ahead
      → begin_in text options lookup m at r next b (pass_with (replay text options lookup closed l) outer false Closed n) ≡ pass_at text options lookup (lines_begin_in options m place closed r ahead) ahead l outer b n
  begins zero at place closed r next ahead l outer b n s s1 e f a = absurd (omega (arith, f))
  begins (suc m) at place closed r next ahead l outer b n s s1 e f a =
      ap (λ x. begin_as text options lookup (opens_at options at r x) (λ k. inside_or_tag (is_alert k) (container_begun k r p) (begin_in text options lookup m (place_in k) (enter k r) next (is_item k) (container_begun k r p))) r x b p) a
      ∙ ap (λ o. begin_as text options lookup o (λ k. inside_or_tag (is_alert k) (container_begun k r p) (begin_in text options lookup m (place_in k) (enter k r) next (is_item k) (container_begun k r p))) r ahead b p) (at-same options at place r ahead s s1)
      ∙ go (opens_at options place r ahead) refl (tells-at options place r ahead)
      (λ k o. let le : length (enter k r).columns < length r.columns = at-enter options place k r ahead o in
      begins m (place_in k) (place_in k) NoBlocks (enter k r) next (within k false ahead) (entered k r c) (outer ++ container_at text options lookup k r c ∷ []) (is_item k) n refl refl (enter-lazy options k r ∙ e) (omega (arith, f, le))
      (ahead-inside outer (container_at text options lookup k r c) next ∙ ap (within k false) a))
    where
      c : Level
      c = replay text options lookup closed l

      p : Pass
      p = pass_with (replay text options lookup closed l) outer false Closed n

      Inside : Container → Type 0
      Inside k = begin_in text options lookup m (place_in k) (enter k r) next (is_item k) (pass_with (entered k r (replay text options lookup closed l)) (outer ++ container_at text options lookup k r (replay text options lookup closed l) ∷ []) false Closed n)
          ≡ pass_at text options lookup (inside_begun m k r (within k false ahead)) (within k false ahead) (entered k r (replay text options lookup closed l)) (outer ++ container_at text options lookup k r (replay text options lookup closed l) ∷ []) (is_item k) n

      after_tag : Pass → Pass
      after_tag q = record q { leaf = AfterTagLeaf }

      -- after an alert's tag no block is begun
      tagged : (k : Container) (is_tag : Bool)
          → begin_in text options lookup m (place_in k) (enter k r) next (is_item k) (container_begun k r (pass_with (replay text options lookup closed l) outer false Closed n)) ≡ pass_at text options lookup (InContainer closed k r [] (lines_begin_in options m (place_in k) NoBlocks (enter k r) (within k (is_bare_start k r) ahead))) ahead l outer b n
          → inside_or_tag is_tag (container_begun k r (pass_with (replay text options lookup closed l) outer false Closed n)) (begin_in text options lookup m (place_in k) (enter k r) next (is_item k) (container_begun k r (pass_with (replay text options lookup closed l) outer false Closed n)))
          ≡ pass_at text options lookup (InContainer closed k r [] (lines_inside_begun is_tag (lines_begin_in options m (place_in k) NoBlocks (enter k r) (within k (is_bare_start k r) ahead)))) ahead l outer b n
      tagged k true same = ap after_tag (container-begins k r c outer n)
      tagged k false same = same

      go : (o : Opening) → opens_at options place r ahead ≡ o → Tells r o → ((k : Container) → opens_at options place r ahead ≡ Nests k → Inside k)
          → begin_as text options lookup o (λ k. inside_or_tag (is_alert k) (container_begun k r (pass_with (replay text options lookup closed l) outer false Closed n)) (begin_in text options lookup m (place_in k) (enter k r) next (is_item k) (container_begun k r (pass_with (replay text options lookup closed l) outer false Closed n)))) r ahead b (pass_with (replay text options lookup closed l) outer false Closed n)
          ≡ pass_at text options lookup (lines_begin_as o (λ k. lines_begin_in options m (place_in k) NoBlocks (enter k r) (within k (is_bare_start k r) ahead)) closed r) ahead l outer b n
      go Blank q t ih = grind (arith, pass_with, replay-join, replay, append-nil)
      go (Nests k) q t ih =
          let v = container_at text options lookup k r c in
          let i = inside_begun m k r (within k (is_bare_start k r) ahead) in
          let le : length (enter k r).columns < length r.columns = at-enter options place k r ahead q in
          tagged k (is_alert k) (
          ap (begin_in text options lookup m (place_in k) (enter k r) next (is_item k)) (container-begins k r c outer n)
          ∙ ih k q
          ∙ inside-same m k r ahead (entered k r c) (outer ++ v ∷ []) n e (omega (arith, f, le))
          ∙ ap (λ o. pass_with (inner_at text options lookup i (within k (is_bare_start k r) ahead) (entered k r c)) o (bare_at (is_bare_start k r) i) (leaf_at text options lookup i) n) (append_assoc outer (v ∷ []) (containers_at text options lookup i (entered k r c)))
          )
      go (Takes leaf more) q t ih = cc (leaf-begins leaf more closed r ahead l outer b n t, leaf-alone leaf more closed r l, append-nil outer)
      go Plain q t ih = grind (arith, pass_with, paragraph_open, replay, whole-same, whole, append-nil)

  -- if only a blank line may begin, a bare line begins nothing else
  not-bare : (place : Place) (b : Bool) (r : Row) (ahead : List Row) → r.lazy ≡ false → (b ≡ true → is_blank_line r ≡ true) → (opens_at options place r ahead ≡ Blank → ⊥) → b ≡ false
  not-bare place false r ahead e h ne = refl
  not-bare place true r ahead e h ne = absurd (ne (at-blank place r ahead e (h refl)))

  -- the open blocks after the opening of a line fit
  pub begins-fit : (m : ℕ) (place : Place) (closed : Blocks) (r : Row) (ahead : List Row) (b : Bool) (n : ℕ) → r.lazy ≡ false → length r.columns < m → (b ≡ true → is_blank_line r ≡ true) → r.line_end ≡ n
      → Fits options b (lines_begin_in options m place closed r ahead) ahead n
  begins-fit zero place closed r ahead b n e f h q = absurd (omega (arith, f))
  begins-fit (suc m) place closed r ahead b n e f h q =
      go (opens_at options place r ahead) refl (tells-at options place r ahead)
      (λ k o. let le : length (enter k r).columns < length r.columns = at-enter options place k r ahead o in
      begins-fit m (place_in k) NoBlocks (enter k r) (within k (is_bare_start k r) ahead) (is_bare_start k r) n (enter-lazy options k r ∙ e) (omega (arith, f, le)) (bare-start k r) (enter-line_end k r ∙ q))
    where
      html : (z : Bool) (kind : ℕ) → b ≡ false → Fits options b (html_lines_begun z closed kind r) ahead n
      html true kind nb = (nb, omega arith, λ never. refl, tt)
      html false kind nb = (nb, (refl, q))

      leaf-fits : (leaf : Leaf) (more : ℕ) → b ≡ false → more ≤ length ahead → Tells r (Takes leaf more) → opens_at options place r ahead ≡ Takes leaf more → Fits options b (leaf_lines_begun leaf more closed r) ahead n
      leaf-fits leaf more nb le t o = grind (arith, html, table-lines)

      tagged : (k : Container) (is_tag : Bool) → is_alert k ≡ is_tag → Fits options (is_bare_start k r) (inside_begun m k r (within k (is_bare_start k r) ahead)) (within k (is_bare_start k r) ahead) n
          → Fits options (is_bare_start k r) (lines_inside_begun is_tag (inside_begun m k r (within k (is_bare_start k r) ahead))) (within k (is_bare_start k r) ahead) n
      tagged k true y fits = alert-whole k r y
      tagged k false y fits = fits

      go : (o : Opening) → opens_at options place r ahead ≡ o → Tells r o → ((k : Container) → opens_at options place r ahead ≡ Nests k → Fits options (is_bare_start k r) (inside_begun m k r (within k (is_bare_start k r) ahead)) (within k (is_bare_start k r) ahead) n)
          → Fits options b (lines_begin_as o (λ k. lines_begin_in options m (place_in k) NoBlocks (enter k r) (within k (is_bare_start k r) ahead)) closed r) ahead n
      go Blank o t ih = tt
      go (Nests k) o t ih = (not-bare place b r ahead e h (λ x. let y : Nests k ≡ Blank = sym o ∙ x in cc), q, tagged k (is_alert k) refl (ih k o))
      go (Takes leaf more) o t ih = leaf-fits leaf more (not-bare place b r ahead e h (λ x. let y : Takes leaf more ≡ Blank = sym o ∙ x in cc)) (at-len options place r ahead leaf more o) t o
      go Plain o t ih = (not-bare place b r ahead e h (λ x. let y : Plain ≡ Blank = sym o ∙ x in cc), q)

  -- the place after closed blocks is not after a task marker, unless the place without blocks is
  not-task : (place : Place) (closed : Blocks) → is_after_task place ≡ false → is_after_task (place_after place closed) ≡ false
  not-task place NoBlocks e = e
  not-task place (BlankLine line after) e = not-task (over_blank place) after (over place)
    where
      over : (place : Place) → is_after_task (over_blank place) ≡ false
      over place = grind arith
  not-task place (Paragraph first more after) e = not-task AfterTitle after refl
  not-task place (SetextHeading level first more underline after) e = not-task Apart after refl
  not-task place (LeafBlock leaf first more after) e = not-task (after_leaf leaf) after (following leaf)
    where
      following : (leaf : Leaf) → is_after_task (after_leaf leaf) ≡ false
      following leaf = grind arith
  not-task place (ContainerBlock k first more inside after) e = not-task (after_container k) after (following k)
    where
      following : (k : Container) → is_after_task (after_container k) ≡ false
      following k = grind arith

  not-task-with : (s : Siblings) → is_after_task (place_of s) ≡ false
  not-task-with s = grind arith

  -- a level with no siblings yet
  abbrev pub IsFresh : Level → Type 0
  IsFresh l = l.inner ≡ no_siblings

  -- at a place after closed blocks
  starts-at : (place : Place) (closed : Blocks) (r : Row) (next ahead : List Row) (l : Level) (outer : List OpenContainer) (n : ℕ) → is_after_task place ≡ false → is_after_title (place_of (replay text options lookup closed l).inner) ≡ is_after_title place → r.lazy ≡ false → ahead_in text options lookup outer next ≡ ahead
      → begin text options lookup r next (pass_with (replay text options lookup closed l) outer false Closed n) ≡ pass_at text options lookup (lines_begin_at options place closed r ahead) ahead l outer false n
  starts-at place closed r next ahead l outer n s t e a =
      begins (suc (length r.columns)) (place_of (replay text options lookup closed l).inner) place closed r next ahead l outer false n (not-task-with (replay text options lookup closed l).inner ∙ sym s) t e (omega arith) a

  pub starts : (closed : Blocks) (r : Row) (next ahead : List Row) (l : Level) (outer : List OpenContainer) (n : ℕ) → IsFresh l → Unmarked closed → r.lazy ≡ false → ahead_in text options lookup outer next ≡ ahead
      → begin text options lookup r next (pass_with (replay text options lookup closed l) outer false Closed n) ≡ pass_at text options lookup (lines_begin options closed r ahead) ahead l outer false n
  unfolding lines_begin
  starts closed r next ahead l outer n h u e a = grind (arith, starts-at, not-task, place-replay)

  -- directly after an alert's tag
  pub starts-following-tag : (r : Row) (next ahead : List Row) (l : Level) (outer : List OpenContainer) (n : ℕ) → IsFresh l → r.lazy ≡ false → ahead_in text options lookup outer next ≡ ahead
      → begin text options lookup r next (pass_with l outer false Closed n) ≡ pass_at text options lookup (lines_begin_at options AfterLazy NoBlocks r ahead) ahead l outer false n
  starts-following-tag r next ahead l outer n h e a = starts-at AfterLazy NoBlocks r next ahead l outer n refl (ap (λ s. is_after_title (place_of s)) h) e a

  pub starts-fit-at : (place : Place) (closed : Blocks) (r : Row) (ahead : List Row) → r.lazy ≡ false → Fits options false (lines_begin_at options place closed r ahead) ahead r.line_end
  starts-fit-at place closed r ahead e = begins-fit (suc (length r.columns)) place closed r ahead false r.line_end e (omega arith) (λ never. absurd (true≢false (sym never))) refl

  pub starts-fit : (closed : Blocks) (r : Row) (ahead : List Row) → r.lazy ≡ false → Fits options false (lines_begin options closed r ahead) ahead r.line_end
  unfolding lines_begin
  starts-fit closed r ahead e = starts-fit-at (place_after Apart closed) closed r ahead e
