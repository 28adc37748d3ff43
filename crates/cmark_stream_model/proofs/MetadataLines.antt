-- Metadata begins only on whole lines: a line inside a container has lost a column, is held, or lacks a prefix.
use Rattle.std.proofs.Common.{◌≡◌, ◌⊎◌, inl, inr, ⊎_elim, ℕ, zero, suc, ◌+◌, ◌-◌, ◌<◌, Bool, true, false, ◌==◌, ◌&&◌, ◌||◌, not, List, [], ◌∷◌, ◌++◌, length, drop, refl, ap, ◌∙◌, subst, Option, Some, None, arith, ne_eqb, rules}
use Rattle.std.specs.Prelude.{if◌then◌else◌, nat_le}
use Rattle.cmark_grammar.specs.Characters.{tab}
use Rattle.cmark_grammar.specs.Columns.{Column, expand, tab_columns, to_tab_stop, bytes_of}
use Rattle.cmark_grammar.specs.Lines.{content}
use Rattle.cmark_grammar.specs.MetadataBlockKind.{MetadataBlockKind}
use Rattle.cmark_grammar.specs.Metadata.{metadata_of, metadata_if, metadata_kind}
use Rattle.cmark_grammar.specs.Options.{Options}
use Rattle.cmark_grammar.specs.Places.{Place, Apart, AfterLazy}
use Rattle.cmark_grammar.specs.Rows.{Row, row_at, without, hold, place, first_place, begin_of, is_blank_line, is_whole_line, indent_of, rows_from, words_of}
use Rattle.cmark_grammar.specs.HtmlBlocks.{holds_end}
use Rattle.cmark_grammar.specs.Containers.{Container, BlockQuote, Item, Footnote, ListDefinition, is_block_quote, block_quote_width, marker_width, width_of, enter, keep_as, keeps, strip_as, strip, is_bare_start, bare_after}
use Rattle.cmark_grammar.specs.Openings.{Leaf, HtmlBlock, Opening, Nests, opens_at}
use Rattle.cmark_grammar.specs.Blocks.{Blocks, Nil, LeafBlock, join, place_in}
use Rattle.cmark_block_model.specs.BlocksModel.{within, place_after}
use Rattle.cmark_block_model.specs.BlocksByLine.{OpenLines, Between, AfterTag, InParagraph, InLeaf, InVerbatim, InContainer, html_begun, leaf_begun, lines_begin_as, lines_begin_in, lines_begin, lines_feed}
use Rattle.cmark_block_model.proofs.BlockLaws.{IsWide, at-wide, marker-within}
use Rattle.cmark_block_model.proofs.RowPlaces.{Runs, drop-Runs, expand-Runs}

and-off : (a : Bool) → (a && false) ≡ false
and-off true = refl
and-off false = refl

-- columns from which others were taken before
drop-further : (n m : ℕ) (cs : List Column) → (k : ℕ) × (drop (suc n) (drop m cs) ≡ drop (suc k) cs)
drop-further n zero cs = (n, refl)
drop-further n (suc m) [] = (zero, refl)
drop-further n (suc m) (c ∷ cs) = let ih = drop-further n m cs in (suc ih.0, ih.1)

-- the first column of a line is at its beginning, and each further one is after that place
expand-further : (n at : ℕ) (bs : List ℕ) → ((drop (suc n) (expand 0 at bs)) ≡ []) ⊎ (at < first_place (at + length bs) (drop (suc n) (expand 0 at bs)))
expand-further n at [] = inl refl
expand-further n at (b ∷ bs) = go (b == tab) (expand-Runs 0 at (b ∷ bs))
  where
    further : (cs : List Column) → Runs (suc at) cs (at + length (b ∷ bs)) → at < first_place (at + length (b ∷ bs)) (drop n cs)
    further cs runs = let l = (drop-Runs n (suc at) cs (at + length (b ∷ bs)) runs).1 in omega (arith, l)

    go : (z : Bool)
        → Runs at (if z then tab_columns at 0 (to_tab_stop 0) ++ expand (0 + to_tab_stop 0) (suc at) bs else record { byte = b; at = at; part = 0 } ∷ expand 1 (suc at) bs) (at + length (b ∷ bs))
        → (drop (suc n) (if z then tab_columns at 0 (to_tab_stop 0) ++ expand (0 + to_tab_stop 0) (suc at) bs else record { byte = b; at = at; part = 0 } ∷ expand 1 (suc at) bs) ≡ [])
        ⊎ (at < first_place (at + length (b ∷ bs)) (drop (suc n) (if z then tab_columns at 0 (to_tab_stop 0) ++ expand (0 + to_tab_stop 0) (suc at) bs else record { byte = b; at = at; part = 0 } ∷ expand 1 (suc at) bs)))
    go true runs = inr (further (tab_columns at 1 (to_tab_stop 0 - 1) ++ expand (0 + to_tab_stop 0) (suc at) bs) runs.1)
    go false runs = inr (further (expand 1 (suc at) bs) runs.1)

-- each container but a footnote definition of the old kind takes a column
abbrev HasPrefix : Container → Type 0
HasPrefix (Item delimiter number width task) = 0 < width
HasPrefix (ListDefinition width) = 0 < width
HasPrefix _ = Unit {0}

-- all open containers take columns
abbrev pub ArePrefixed : OpenLines → Type 0
ArePrefixed (InContainer closed k first more inside) = HasPrefix k × ArePrefixed inside
ArePrefixed _ = Unit {0}

module _ (options : Options) where
  -- no metadata begins on what is left of a line if a column is taken
  abbrev pub IsWholly : Row → Type 0
  IsWholly r = (n : ℕ) → metadata_kind options (without (suc n) r) ≡ None

  -- nor on what is left of this line
  abbrev IsInside : Row → Type 0
  IsInside r = (metadata_kind options r ≡ None) × IsWholly r

  none-if : (z : Bool) (o : Option MetadataBlockKind) → o ≡ None → (if z then o else None) ≡ None
  none-if true o e = e
  none-if false o e = refl

  bare-none : (r : Row) → r.columns ≡ [] → metadata_kind options r ≡ None
  bare-none r e = none-if (is_whole_line r) (metadata_if options (metadata_of (bytes_of r.columns))) (ap (λ cs. metadata_if options (metadata_of (bytes_of cs))) e)

  further-none : (r : Row) → r.at < begin_of r → metadata_kind options r ≡ None
  further-none r lt = ap (λ z. if z && not r.held then metadata_if options (metadata_of (bytes_of r.columns)) else None) (ne_eqb (begin_of r) r.at (omega (arith, lt)))

  held-none : (r : Row) → metadata_kind options (hold r) ≡ None
  held-none r = ap (λ z. if z then metadata_if options (metadata_of (bytes_of r.columns)) else None) (and-off (begin_of r == r.at))

  -- lines of a text
  pub line-wholly : (at : ℕ) (line : List ℕ) → IsWholly (row_at at line)
  line-wholly at line n = ⊎_elim (λ e. bare-none (without (suc n) (row_at at line)) e) (λ lt. further-none (without (suc n) (row_at at line)) lt) (expand-further n at (content line))

  -- what is left of them
  without-wholly : (m : ℕ) (r : Row) → IsWholly r → IsWholly (without m r)
  without-wholly m r h n = let d = drop-further n m r.columns in ap (λ cs. metadata_kind options (record r { columns = cs })) d.1 ∙ h d.0

  without-inside : (m : ℕ) (r : Row) → 0 < m → IsWholly r → IsInside (without m r)
  without-inside zero r lt h = absurd (omega (arith, lt))
  without-inside (suc m) r lt h = (h m, without-wholly (suc m) r h)

  hold-inside : (r : Row) → IsInside (hold r)
  hold-inside r = (held-none r, λ n. held-none (without (suc n) r))

  wide-inside : (width : ℕ) (r s : Row) → 0 < width → IsWholly r → (if is_blank_line r || nat_le width (indent_of r) then Some (without width r) else None) ≡ Some s → IsInside s
  wide-inside width r s lt h e = go _ e
    where
      go : (z : Bool) → (if z then Some (without width r) else None) ≡ Some s → IsInside s
      go true q = let p : without width r ≡ s = cc in subst IsInside p (without-inside width r lt h)
      go false q = absurd (let p : None ≡ Some s = q in cc)

  kept_as-inside : (k : Container) (r s : Row) → HasPrefix k → IsWholly r → keep_as k r ≡ Some s → IsInside s
  kept_as-inside (BlockQuote alert) r s w h e = go (is_block_quote r) e
    where
      go : (z : Bool) → (if z then Some (without (block_quote_width r) r) else None) ≡ Some s → IsInside s
      go true q = let p : without (block_quote_width r) r ≡ s = cc in subst IsInside p (without-inside (block_quote_width r) r (omega arith) h)
      go false q = absurd (let p : None ≡ Some s = q in cc)
  kept_as-inside (Footnote label true size) r s w h e = search (rules, hold-inside)
  kept_as-inside (Footnote label false size) r s w h e = wide-inside 4 r s (omega arith) h e
  kept_as-inside (Item delimiter number width task) r s w h e = wide-inside width r s w h e
  kept_as-inside (ListDefinition width) r s w h e = wide-inside width r s w h e

  -- a line that has the prefix of a container
  kept-inside : (k : Container) (bare : Bool) (r s : Row) → HasPrefix k → IsWholly r → keeps k bare r ≡ Some s → IsInside s
  unfolding keeps
  kept-inside k bare r s w h e = go _ e
    where
      go : (z : Bool) → (if z then None else keep_as k r) ≡ Some s → IsInside s
      go true q = absurd (let p : None ≡ Some s = q in cc)
      go false q = kept_as-inside k r s w h q

  pub strip-wholly : (k : Container) (bare : Bool) (r : Row) → HasPrefix k → IsWholly r → IsWholly (strip k bare r)
  strip-wholly k bare r w h = go (keeps k bare r) refl
    where
      go : (o : Option Row) → keeps k bare r ≡ o → IsWholly (strip_as o r)
      go None e = h
      go (Some s) e = (kept-inside k bare r s w h e).1

  -- a line in a container is lazy, or begins no metadata
  pub strip-told : (k : Container) (bare : Bool) (r : Row) → HasPrefix k → IsWholly r → ((strip k bare r).lazy ≡ true) ⊎ (metadata_kind options (strip k bare r) ≡ None)
  strip-told k bare r w h = grind (arith, kept-inside)

  -- the first line of a container, inside of it
  pub enter-wholly : (k : Container) (r : Row) → IsWholly r → IsWholly (enter k r)
  unfolding enter
  enter-wholly k r h = without-wholly (width_of k r) r h

  opened-prefix : (k : Container) (r : Row) → indent_of r < marker_width k r → HasPrefix k
  opened-prefix k r lt = grind arith

  pub enter-none : (k : Container) (place : Place) (r : Row) (ahead : List Row) → opens_at options place r ahead ≡ Nests k → IsWholly r → metadata_kind options (enter k r) ≡ None
  unfolding enter
  enter-none k place r ahead e h = grind (arith, at-wide, marker-within, without-inside)

  -- ## The open containers take columns

  html-prefixed : (z : Bool) (closed : Blocks) (kind : ℕ) (r : Row) → ArePrefixed (html_begun z closed kind r)
  html-prefixed true closed kind r = tt
  html-prefixed false closed kind r = tt

  leaf-prefixed : (leaf : Leaf) (n : ℕ) (closed : Blocks) (r : Row) → ArePrefixed (leaf_begun leaf n closed r)
  leaf-prefixed (HtmlBlock kind) n closed r = html-prefixed (nat_le kind 5 && holds_end kind (words_of r)) closed kind r
  leaf-prefixed _ n closed r = tt

  begun-prefixed : (o : Opening) (inside : Container → OpenLines) (closed : Blocks) (r : Row) → IsWide options r o → ((k : Container) → ArePrefixed (inside k)) → ArePrefixed (lines_begin_as o inside closed r)
  begun-prefixed o inside closed r w h = grind (arith, opened-prefix, leaf-prefixed)

  begin_in-prefixed : (n : ℕ) (place : Place) (closed : Blocks) (r : Row) (ahead : List Row) → ArePrefixed (lines_begin_in options n place closed r ahead)
  begin_in-prefixed zero place closed r ahead = tt
  begin_in-prefixed (suc n) place closed r ahead =
      begun-prefixed (opens_at options place r ahead) (λ k. lines_begin_in options n (place_in k) Nil (enter k r) (within k (is_bare_start k r) ahead)) closed r (at-wide options place r ahead)
      (λ k. begin_in-prefixed n (place_in k) Nil (enter k r) (within k (is_bare_start k r) ahead))

  begin-prefixed : (closed : Blocks) (r : Row) (ahead : List Row) → ArePrefixed (lines_begin options closed r ahead)
  unfolding lines_begin
  begin-prefixed closed r ahead = begin_in-prefixed (suc (length r.columns)) (place_after Apart closed) closed r ahead

  pub feed-prefixed : (o : OpenLines) (r : Row) (ahead : List Row) → ArePrefixed o → ArePrefixed (lines_feed options o r ahead)
  feed-prefixed (Between closed) r ahead h = begin-prefixed closed r ahead
  feed-prefixed AfterTag r ahead h = begin_in-prefixed (suc (length r.columns)) AfterLazy Nil r ahead
  feed-prefixed (InParagraph closed first more) r ahead h = grind (arith, begin-prefixed)
  feed-prefixed (InLeaf closed leaf first had zero) r ahead h = begin-prefixed (join closed (LeafBlock leaf first had Nil)) r ahead
  feed-prefixed (InLeaf closed leaf first had (suc left)) r ahead h = tt
  feed-prefixed (InVerbatim closed verbatim first had waiting) r ahead h = grind (arith, begin-prefixed)
  feed-prefixed (InContainer closed k first more inside) r ahead h = search (rules, begin-prefixed, feed-prefixed inside (strip k (bare_after (is_bare_start k first) more) r) (within k false ahead) h.1)

  -- ## Lines of a text

  -- what is known of the lines of a text, whatever lines they are
  abbrev pub AreLines : List Row → Type 0
  AreLines [] = Unit {0}
  AreLines (r ∷ rs) = ((r.lazy ≡ false) × IsWholly r) × AreLines rs

  pub lines-front : (a b : List Row) → AreLines (a ++ b) → AreLines a
  lines-front [] b h = tt
  lines-front (r ∷ a) b h = (h.0, lines-front a b h.1)

  pub are-lines : (at : ℕ) (ls : List (List ℕ)) → AreLines (rows_from at ls)
  are-lines at [] = tt
  are-lines at (line ∷ ls) = ((refl, line-wholly at line), are-lines (at + length line) ls)
