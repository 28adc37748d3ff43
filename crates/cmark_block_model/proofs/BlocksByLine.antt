-- The blocks found line by line are the same.
use Rattle.std.proofs.Common.{◌≡◌, ℕ, zero, suc, Bool, true, false, ◌&&◌, List, [], ◌∷◌, ◌++◌, length, refl, sym, ap, ◌∙◌, append_assoc, append-nil, Option, Some, None, true≢false, arith, rules}
use Rattle.std.specs.Prelude.{if◌then◌else◌, nat_le}
use Rattle.cmark_grammar.specs.Options.{Options}
use Rattle.cmark_grammar.specs.Places.{Place, Apart, AfterLazy, allows_lazy}
use Rattle.cmark_grammar.specs.Alignment.{Alignment}
use Rattle.cmark_grammar.specs.Rows.{Row, rows, shown, show_as, words_of, is_blank_line, indent_of}
use Rattle.cmark_grammar.specs.Leaves.{Fence, Continuation, GoesOn, Closes, Waits, Stops, count_more, counted, code_continuation, fence_continuation}
use Rattle.cmark_grammar.specs.HtmlBlocks.{holds_end, html_continuation}
use Rattle.cmark_grammar.specs.LinkDefinitions.{Defined}
use Rattle.cmark_grammar.specs.Metadata.{metadata_kind, metadata_continuation}
use Rattle.cmark_grammar.specs.MetadataBlockKind.{MetadataBlockKind}
use Rattle.cmark_grammar.specs.Containers.{Container, enter, keeps, strip, is_bare_start, bare_after, container_of}
use Rattle.cmark_grammar.specs.Openings.{Leaf, ThematicBreak, AtxHeading, IndentedCode, FencedCode, HtmlBlock, LinkDefinition, MetadataBlock, Opening, Blank, Takes, Plain, or_else, nests_if, fenced_if, metadata_begun, html_if, break_if, heading_if, defined_if, leaf_of, whole_opens, opens, opens_at, lazily, Table, table_if, text_of}
use Rattle.cmark_grammar.specs.Blocks.{Blocks, Nil, BlankLine, LeafBlock, ContainerBlock, join, place_in, after_leaf}
use Rattle.cmark_block_model.specs.BlocksModel.{Open, Between as IsBetween, AfterTag as IsAfterTag, InParagraph as IsInParagraph, InLeaf as IsInLeaf, InContainer as IsInContainer, close, takes_lazy, within, inside_begun, begin_as, begin_in, begin_at, begin, place_after, kept_or, feed, feed_all, blocks}
use Rattle.cmark_block_model.specs.BlocksByLine.{Verbatim, leaf_in, continuation_in, continuation_if, OpenLines, Between, AfterTag, InParagraph, InLeaf, InVerbatim, InContainer, blank_lines, close_lines, lines_take_lazy, html_begun, leaf_begun, lines_inside_begun, lines_begin_as, lines_kept_or, verbatim_line, lines_begin_in, lines_begin_at, lines_begin, lines_feed, lines_feed_all, blocks_by_line}
use Rattle.cmark_block_model.proofs.BlocksSound.{join_assoc, join-Nil, within_row, bare_push}
use Rattle.cmark_block_model.proofs.BlockLaws.{no_metadata, strip_lazy, at-either, blank-at}

-- the open block after a leaf's waiting lines, if `n` more of the lines ahead belong to it
abbrev pub waited : Blocks → Leaf → Row → (had waiting : List Row) → ℕ → Open
waited closed leaf first had [] n = IsInLeaf closed leaf first had n
waited closed leaf first had (r ∷ waiting) zero = IsBetween (join (join closed (LeafBlock leaf first had Nil)) (blank_lines (r ∷ waiting)))
waited closed leaf first had (r ∷ waiting) (suc n) = IsInLeaf closed leaf first (had ++ (r ∷ waiting)) (suc n)

-- the open block of the model, with these lines ahead
abbrev pub seen : OpenLines → List Row → Open
seen (Between closed) ahead = IsBetween closed
seen AfterTag ahead = IsAfterTag
seen (InParagraph closed first more) ahead = IsInParagraph closed first more
seen (InLeaf closed leaf first had left) ahead = IsInLeaf closed leaf first had left
seen (InVerbatim closed verbatim first had waiting) ahead = waited closed (leaf_in verbatim) first had waiting (counted (continuation_in verbatim) ahead)
seen (InContainer closed k first more inside) ahead = IsInContainer closed k first more (seen inside (within k (bare_after (is_bare_start k first) more) ahead))

never_lazy : (verbatim : Verbatim) → allows_lazy (after_leaf (leaf_in verbatim)) ≡ false
never_lazy verbatim = grind arith

seen_lazy : (o : OpenLines) (ahead : List Row) → takes_lazy (seen o ahead) ≡ lines_take_lazy o
seen_lazy (Between closed) ahead = refl
seen_lazy AfterTag ahead = refl
seen_lazy (InParagraph closed first more) ahead = refl
seen_lazy (InLeaf closed leaf first had left) ahead = refl
seen_lazy (InVerbatim closed verbatim first had waiting) ahead = grind (arith, never_lazy)
seen_lazy (InContainer closed k first more inside) ahead = seen_lazy inside (within k (bare_after (is_bare_start k first) more) ahead)

close_seen : (options : Options) (o : OpenLines) → close (seen o []) ≡ close_lines o
close_seen options (InVerbatim closed verbatim first had []) = sym (join-Nil options (join closed (LeafBlock (leaf_in verbatim) first had Nil)))
close_seen options (InVerbatim closed verbatim first had (r ∷ waiting)) = refl
close_seen options (InContainer closed k first more inside) = ap (λ i. join closed (ContainerBlock k first more i Nil)) (close_seen options inside)
close_seen options _ = refl

blank_lines_push : (ws : List Row) (r : Row) → blank_lines (ws ++ r ∷ []) ≡ join (blank_lines ws) (BlankLine r Nil)
blank_lines_push [] r = refl
blank_lines_push (w ∷ ws) r = ap (BlankLine w) (blank_lines_push ws r)

counted_row : (verbatim : Verbatim) (r : Row) (ahead : List Row) → counted (continuation_in verbatim) (show_as r.lazy r ahead) ≡ count_more (continuation_if r.lazy verbatim r) (counted (continuation_in verbatim) ahead)
counted_row verbatim r ahead = grind arith

no : {A : Type 0} → true ≡ false → A
no e = absurd (true≢false e)

-- how many lines a leaf takes: those that are judged to belong to it
abbrev pub Counts : Row → List Row → Opening → Type 0
Counts r ahead (Takes ThematicBreak n) = Unit {0}
Counts r ahead (Takes (AtxHeading level) n) = Unit {0}
Counts r ahead (Takes IndentedCode n) = n ≡ counted code_continuation ahead
Counts r ahead (Takes (FencedCode fence) n) = n ≡ counted (fence_continuation fence) ahead
Counts r ahead (Takes (HtmlBlock kind) n) = n ≡ (if nat_le kind 5 && holds_end kind (words_of r) then 0 else counted (html_continuation kind) ahead)
Counts r ahead (Takes (LinkDefinition definition) n) = Unit {0}
Counts r ahead (Takes (MetadataBlock kind) n) = n ≡ counted (metadata_continuation kind) ahead
Counts r ahead (Takes (Table alignments) n) = Unit {0}
Counts r ahead _ = Unit {0}

counts_if : (r : Row) (ahead : List Row) (b : Bool) (x y : Opening) → Counts r ahead x → Counts r ahead y → Counts r ahead (if b then x else y)
counts_if r ahead true x y p q = p
counts_if r ahead false x y p q = q

counts_or : (r : Row) (ahead : List Row) (x y : Opening) → Counts r ahead x → Counts r ahead y → Counts r ahead (or_else x y)
counts_or r ahead Plain y p q = q
counts_or r ahead _ y p q = p

counts_nests : (r : Row) (ahead : List Row) (o : Option Container) → Counts r ahead (nests_if o)
counts_nests r ahead (Some k) = tt
counts_nests r ahead None = tt

counts_html : (r : Row) (ahead : List Row) (o : Option ℕ) → Counts r ahead (html_if r ahead o)
counts_html r ahead (Some kind) = refl
counts_html r ahead None = tt

counts_break : (r : Row) (ahead : List Row) (z : Bool) → Counts r ahead (break_if z)
counts_break r ahead true = tt
counts_break r ahead false = tt

counts_heading : (r : Row) (ahead : List Row) (z : Bool) (level : ℕ) → Counts r ahead (heading_if z level)
counts_heading r ahead true level = tt
counts_heading r ahead false level = tt

counts_fenced : (r : Row) (ahead : List Row) (o : Option Fence) → Counts r ahead (fenced_if o ahead)
counts_fenced r ahead (Some fence) = refl
counts_fenced r ahead None = tt

counts_defined : (r : Row) (ahead : List Row) (lines : ℕ) (o : Option Defined) → Counts r ahead (defined_if lines o)
counts_defined r ahead lines (Some found) = tt
counts_defined r ahead lines None = tt

counts_metadata : (r : Row) (ahead : List Row) (o : Option MetadataBlockKind) → Counts r ahead (metadata_begun o ahead)
counts_metadata r ahead o = grind arith

module _ (options : Options) where
  counts_table : (r : Row) (ahead : List Row) (o : Option (List Alignment)) → Counts r ahead (table_if options o ahead)
  counts_table r ahead (Some alignments) = tt
  counts_table r ahead None = tt

  counts_text : (r : Row) (ahead : List Row) → Counts r ahead (text_of options r ahead)
  counts_text r ahead = search (rules, counts_or, counts_if, counts_defined, counts_table)

  counts_leaf : (r : Row) (ahead : List Row) → Counts r ahead (leaf_of options r ahead)
  counts_leaf r ahead = search (rules, counts_or, counts_html, counts_break, counts_heading, counts_fenced, counts_text)

  counts_opens : (r : Row) (ahead : List Row) → Counts r ahead (opens options r ahead)
  unfolding opens
  counts_opens r ahead =
      counts_if r ahead r.lazy Plain _ tt
      (counts_or r ahead (metadata_begun (metadata_kind options r) ahead) (whole_opens options r ahead) (counts_metadata r ahead (metadata_kind options r))
      (counts_if r ahead (is_blank_line r) Blank _ tt
      (counts_if r ahead (nat_le 4 (indent_of r)) (Takes IndentedCode (counted code_continuation ahead)) _ refl
      (counts_or r ahead (nests_if (container_of options r)) (leaf_of options r ahead) (counts_nests r ahead (container_of options r)) (counts_leaf r ahead)))))

  counts_at : (place : Place) (r : Row) (ahead : List Row) → Counts r ahead (opens_at options place r ahead)
  counts_at place r ahead = search (rules, at-either, counts_opens)

  -- a line that waits is blank
  waits_blank : (place : Place) (verbatim : Verbatim) (r : Row) (ahead : List Row) → continuation_if r.lazy verbatim r ≡ Waits → opens_at options place r ahead ≡ Blank
  unfolding opens
  waits_blank place verbatim r ahead e = let w = whole r.lazy e in blank-at options place r ahead (go r.lazy refl e) (blank verbatim w)
    where
      whole : (z : Bool) → continuation_if z verbatim r ≡ Waits → continuation_in verbatim r ≡ Waits
      whole true f = cc
      whole false f = f

      indented : (z : Bool) → is_blank_line r ≡ z → (if z then Waits else if nat_le 4 (indent_of r) then GoesOn else Stops) ≡ Waits → is_blank_line r ≡ true
      indented z b f = grind arith

      fenced : (y : Bool) → (if y then Closes else GoesOn) ≡ Waits → is_blank_line r ≡ true
      fenced true f = cc
      fenced false f = cc

      html : (a b c : Bool) → (if a then if b then Stops else GoesOn else if c then Closes else GoesOn) ≡ Waits → is_blank_line r ≡ true
      html a b c f = grind arith

      blank : (v : Verbatim) → continuation_in v r ≡ Waits → is_blank_line r ≡ true
      blank v f = grind (arith, indented, fenced, html)

      go : (z : Bool) → r.lazy ≡ z → continuation_if z verbatim r ≡ Waits → (if r.lazy then Plain else or_else (metadata_begun (metadata_kind options r) ahead) (whole_opens options r ahead)) ≡ Blank
      go true l f = cc
      go false l f = rw (l, no_metadata options r (blank verbatim f), blank verbatim f) refl

  begin_blank : (closed : Blocks) (r : Row) (ahead : List Row) → opens_at options (place_after Apart closed) r ahead ≡ Blank → begin options closed r ahead ≡ IsBetween (join closed (BlankLine r Nil))
  unfolding begin
  begin_blank closed r ahead e = rw e refl

  inside_seen : (is_tag : Bool) (o : OpenLines) (same : Open) (ahead : List Row) → seen o ahead ≡ same → seen (lines_inside_begun is_tag o) ahead ≡ inside_begun is_tag same
  inside_seen true o same ahead e = refl
  inside_seen false o same ahead e = e

  begin_in_seen : (n : ℕ) (place : Place) (closed : Blocks) (r : Row) (ahead : List Row) → seen (lines_begin_in options n place closed r ahead) ahead ≡ begin_in options n place closed r ahead
  begin_in_seen zero place closed r ahead = refl
  begin_in_seen (suc n) place closed r ahead = go (opens_at options place r ahead) (counts_at place r ahead) (λ k. begin_in_seen n (place_in k) Nil (enter k r) (within k (is_bare_start k r) ahead))
    where
      html : (kind : ℕ) (z : Bool) → seen (html_begun z closed kind r) ahead ≡ IsInLeaf closed (HtmlBlock kind) r [] (if z then 0 else counted (html_continuation kind) ahead)
      html kind true = refl
      html kind false = refl

      leaf : (l : Leaf) (m : ℕ) → Counts r ahead (Takes l m) → seen (leaf_begun l m closed r) ahead ≡ IsInLeaf closed l r [] m
      leaf l m c = grind (arith, html)

      go : (o : Opening) → Counts r ahead o → ((k : Container) → seen (lines_begin_in options n (place_in k) Nil (enter k r) (within k (is_bare_start k r) ahead)) (within k (is_bare_start k r) ahead) ≡ begin_in options n (place_in k) Nil (enter k r) (within k (is_bare_start k r) ahead)) → seen (lines_begin_as o (λ k. lines_begin_in options n (place_in k) Nil (enter k r) (within k (is_bare_start k r) ahead)) closed r) ahead ≡ begin_as o (λ k. begin_in options n (place_in k) Nil (enter k r) (within k (is_bare_start k r) ahead)) closed r
      go o c ih = grind (arith, inside_seen, leaf)

  begin_at_seen : (place : Place) (closed : Blocks) (r : Row) (ahead : List Row) → seen (lines_begin_at options place closed r ahead) ahead ≡ begin_at options place closed r ahead
  begin_at_seen place closed r ahead = begin_in_seen (suc (length r.columns)) place closed r ahead

  begin_seen : (closed : Blocks) (r : Row) (ahead : List Row) → seen (lines_begin options closed r ahead) ahead ≡ begin options closed r ahead
  unfolding lines_begin begin
  begin_seen closed r ahead = begin_at_seen (place_after Apart closed) closed r ahead

  -- another line leads to the same open block
  feed_seen : (o : OpenLines) (r : Row) (ahead : List Row) → seen (lines_feed options o r ahead) ahead ≡ feed options (seen o (show_as r.lazy r ahead)) r ahead
  feed_seen (Between closed) r ahead = begin_seen closed r ahead
  feed_seen AfterTag r ahead = begin_at_seen AfterLazy Nil r ahead
  feed_seen (InParagraph closed first more) r ahead = grind (arith, begin_seen)
  feed_seen (InLeaf closed leaf first had zero) r ahead = begin_seen (join closed (LeafBlock leaf first had Nil)) r ahead
  feed_seen (InLeaf closed leaf first had (suc left)) r ahead = refl
  feed_seen (InVerbatim closed verbatim first had waiting) r ahead = cc (go (continuation_if r.lazy verbatim r) refl waiting (counted (continuation_in verbatim) ahead) refl, counted_row verbatim r ahead)
    where
      block : Blocks
      block = join closed (LeafBlock (leaf_in verbatim) first had Nil)

      go : (f : Continuation) → continuation_if r.lazy verbatim r ≡ f → (w : List Row) (n : ℕ) → counted (continuation_in verbatim) ahead ≡ n → seen (verbatim_line f closed verbatim first had w r (lines_begin options (join (join closed (LeafBlock (leaf_in verbatim) first had Nil)) (blank_lines w)) r ahead)) ahead ≡ feed options (waited closed (leaf_in verbatim) first had w (count_more f (counted (continuation_in verbatim) ahead))) r ahead
      go GoesOn e [] n c = ap (λ h. IsInLeaf closed (leaf_in verbatim) first (h ++ r ∷ []) (counted (continuation_in verbatim) ahead)) (append-nil had)
      go GoesOn e (s ∷ w) n c = refl
      go Closes e [] n c = ap (λ h. IsInLeaf closed (leaf_in verbatim) first (h ++ r ∷ []) 0) (append-nil had)
      go Closes e (s ∷ w) n c = refl
      go Stops e [] n c = begin_seen (join block Nil) r ahead ∙ ap (λ b. begin options b r ahead) (join-Nil options block)
      go Stops e (s ∷ w) n c = begin_seen (join block (blank_lines (s ∷ w))) r ahead
      go Waits e [] zero c = rw c (sym (begin_blank block r ahead (waits_blank _ verbatim r ahead e)))
      go Waits e (s ∷ w) zero c = grind (arith, block, blank_lines_push, join_assoc, begin_blank, waits_blank)
      go Waits e [] (suc n) c = rw c refl
      go Waits e (s ∷ w) (suc n) c = rw c (ap (λ h. IsInLeaf closed (leaf_in verbatim) first h (suc n)) (sym (append_assoc had (s ∷ w) (r ∷ []))))
  feed_seen (InContainer closed k first more inside) r ahead =
      go (keeps k bare r) refl (lazily options k r ahead && lines_take_lazy inside) (feed_seen inside (strip k bare r) (within k false ahead)) ∙ ap (λ z. kept_or (keeps k bare r) (lazily options k r ahead && z) (IsInContainer closed k first (more ++ r ∷ []) (feed options (seen inside (within k bare (show_as r.lazy r ahead))) (strip k bare r) (within k false ahead))) (begin options (join closed (ContainerBlock k first more (close (seen inside (within k bare (show_as r.lazy r ahead)))) Nil)) r ahead)) (sym (seen_lazy inside (within k bare (show_as r.lazy r ahead))))
    where
      bare : Bool
      bare = bare_after (is_bare_start k first) more

      ih : (seen (lines_feed options inside (strip k bare r) (within k false ahead)) (within k false ahead) ≡ feed options (seen inside (show_as (strip k bare r).lazy (strip k bare r) (within k false ahead))) (strip k bare r) (within k false ahead)) → seen (lines_feed options inside (strip k bare r) (within k false ahead)) (within k false ahead) ≡ feed options (seen inside (within k bare (show_as r.lazy r ahead))) (strip k bare r) (within k false ahead)
      ih h = h ∙ ap (λ a. feed options (seen inside a) (strip k bare r) (within k false ahead)) (sym (within_row options k bare r ahead))

      on : (seen (lines_feed options inside (strip k bare r) (within k false ahead)) (within k false ahead) ≡ feed options (seen inside (show_as (strip k bare r).lazy (strip k bare r) (within k false ahead))) (strip k bare r) (within k false ahead)) → IsInContainer closed k first (more ++ r ∷ []) (seen (lines_feed options inside (strip k bare r) (within k false ahead)) (within k (bare_after (is_bare_start k first) (more ++ r ∷ [])) ahead)) ≡ IsInContainer closed k first (more ++ r ∷ []) (feed options (seen inside (within k bare (show_as r.lazy r ahead))) (strip k bare r) (within k false ahead))
      on h = ap (IsInContainer closed k first (more ++ r ∷ [])) (ap (λ z. seen (lines_feed options inside (strip k bare r) (within k false ahead)) (within k z ahead)) (bare_push options (is_bare_start k first) more r) ∙ ih h)

      off : keeps k bare r ≡ None → seen (lines_begin options (join closed (ContainerBlock k first more (close_lines inside) Nil)) r ahead) ahead ≡ begin options (join closed (ContainerBlock k first more (close (seen inside (within k bare (show_as r.lazy r ahead)))) Nil)) r ahead
      off e = grind (arith, begin_seen, close_seen, bare, within_row, strip_lazy)

      go : (o : Option Row) → keeps k bare r ≡ o → (z : Bool) → (seen (lines_feed options inside (strip k bare r) (within k false ahead)) (within k false ahead) ≡ feed options (seen inside (show_as (strip k bare r).lazy (strip k bare r) (within k false ahead))) (strip k bare r) (within k false ahead)) → seen (lines_kept_or o z (InContainer closed k first (more ++ r ∷ []) (lines_feed options inside (strip k bare r) (within k false ahead))) (lines_begin options (join closed (ContainerBlock k first more (close_lines inside) Nil)) r ahead)) ahead ≡ kept_or o z (IsInContainer closed k first (more ++ r ∷ []) (feed options (seen inside (within k bare (show_as r.lazy r ahead))) (strip k bare r) (within k false ahead))) (begin options (join closed (ContainerBlock k first more (close (seen inside (within k bare (show_as r.lazy r ahead)))) Nil)) r ahead)
      go o e z h = grind (arith, on, off)

  feed_all_seen : (o : OpenLines) (rs : List Row) → seen (lines_feed_all options o rs) [] ≡ feed_all options (seen o (shown rs)) rs
  feed_all_seen o [] = refl
  feed_all_seen o (r ∷ rs) = feed_all_seen (lines_feed options o r (shown rs)) rs ∙ ap (λ s. feed_all options s rs) (feed_seen o r (shown rs))

  pub lines-same : (rs : List Row) → close_lines (lines_feed_all options (Between Nil) rs) ≡ close (feed_all options (IsBetween Nil) rs)
  lines-same rs = sym (close_seen options (lines_feed_all options (Between Nil) rs)) ∙ ap close (feed_all_seen (Between Nil) rs)

  pub by_line-same : (text : List ℕ) → blocks_by_line options text ≡ blocks options text
  unfolding blocks_by_line blocks
  by_line-same text = sym (close_seen options (lines_feed_all options (Between Nil) (rows text))) ∙ ap close (feed_all_seen (Between Nil) (rows text))
