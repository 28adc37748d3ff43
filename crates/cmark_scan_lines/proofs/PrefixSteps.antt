-- The calls on the beginning of a line, in the order of containers' prefixes: up to three columns of blanks and a marker, or an item's
-- width of blanks.
use Rattle.std.proofs.Common.{◌≡◌, ℕ, zero, suc, ◌+◌, ◌-◌, ◌<◌, ◌≤◌, min, Bool, true, false, ◌&&◌, ◌||◌, not, List, [], ◌∷◌, drop, Option, Some, None, refl, sym, ap, ◌∙◌, arith, eq-eqb, ne_eqb, true≢false}
use Rattle.std.specs.Prelude.{if◌then◌else◌, nat_le, ◌^◌}
use Rattle.std.proofs.lemmas.Bool.{leb-true, leb-false}
use Rattle.std.proofs.lemmas.List.{drop-drop}
use Rattle.cmark_grammar.specs.Columns.{Column, without_indent, bytes_of}
use Rattle.cmark_grammar.specs.Rows.{Row, without, indent_of, words_of, is_bare, is_blank_line}
use Rattle.cmark_grammar.specs.Leaves.{is_parted, is_thematic_break}
use Rattle.cmark_grammar.specs.BlockQuoteKind.{BlockQuoteKind}
use Rattle.cmark_grammar.specs.Containers.{Container, BlockQuote, Item, Footnote, ListDefinition, Marker, marker_of, padding, width_with, item_with, item_of, begins_with, is_block_quote, one_blank, block_quote_width, enter, keep_as, keeps}
use Rattle.cmark_scan_lines.specs.LineMarkers.{is_flush, begins_block_quote, after_block_quote, item_in, item_numbers, entered}
use Rattle.cmark_scan_lines.proofs.PlaceSteps.{indent-drop}

-- the row after up to three columns of blanks
abbrev pub shallow : Row → Row
shallow r = without (min 3 (indent_of r)) r

module _ (r : Row) (le : indent_of r ≤ 3) where
  pub taken-all : min 3 (indent_of r) ≡ indent_of r
  taken-all = omega arith

  pub flat : indent_of (shallow r) ≡ 0
  flat = let e = indent-drop (min 3 (indent_of r)) r.columns (omega arith) in omega (arith, e, taken-all)

  pub same-words : words_of (shallow r) ≡ words_of r
  same-words = ap (λ n. bytes_of (drop n (drop (min 3 (indent_of r)) r.columns))) flat ∙ ap (λ n. bytes_of (drop n r.columns)) taken-all

pub deep : (r : Row) → 3 < indent_of r → is_flush (shallow r) ≡ false
deep r lt = ne_eqb (indent_of (shallow r)) 0 (λ e. let d = indent-drop (min 3 (indent_of r)) r.columns (omega arith) in absurd (omega (arith, d, e, lt)))

-- a block quote's marker after up to three columns is the one that the grammar finds on the whole row
pub block_quote-seen : (r : Row) → begins_block_quote (shallow r) ≡ is_block_quote r
block_quote-seen r = go (nat_le (indent_of r) 3) refl
  where
    go : (z : Bool) → nat_le (indent_of r) 3 ≡ z → begins_block_quote (shallow r) ≡ is_block_quote r
    go true e =
        let le = leb-true (indent_of r) 3 e in
        ap (λ t. t && is_block_quote (shallow r)) (eq-eqb _ 0 (flat r le)) ∙ ap (λ n. nat_le n 3 && begins_with 62 (words_of (shallow r))) (flat r le)
        ∙ ap (begins_with 62) (same-words r le) ∙ ap (λ t. t && begins_with 62 (words_of r)) (sym e)
    go false e = ap (λ t. t && is_block_quote (shallow r)) (deep r (leb-false (indent_of r) 3 e)) ∙ ap (λ t. t && begins_with 62 (words_of r)) (sym e)

block_quote-shallow : (r : Row) → is_block_quote r ≡ true → indent_of r ≤ 3
block_quote-shallow r e = go (nat_le (indent_of r) 3) refl e
  where
    go : (z : Bool) → nat_le (indent_of r) 3 ≡ z → (z && begins_with 62 (words_of r)) ≡ true → indent_of r ≤ 3
    go true f e = leb-true (indent_of r) 3 f
    go false f e = absurd (true≢false (sym e))

block_quote-left : (r : Row) → is_block_quote r ≡ true → after_block_quote (shallow r) ≡ without (block_quote_width r) r
block_quote-left r e =
    let le = block_quote-shallow r e in
    let k : ℕ = indent_of r in
    ap (λ t. if t then without (block_quote_width (shallow r)) (shallow r) else shallow r) (block_quote-seen r ∙ e)
    ∙ ap (λ n. without (suc (n + one_blank (drop (suc n) (shallow r).columns))) (shallow r)) (flat r le)
    ∙ ap (λ n. record r { columns = drop (suc (0 + one_blank (drop 1 (drop n r.columns)))) (drop n r.columns) }) (taken-all r le)
    ∙ ap (λ cs. record r { columns = cs }) (drop-drop (suc (0 + one_blank (drop 1 (drop k r.columns)))) k r.columns)
    ∙ ap (λ cs. without (k + suc (0 + one_blank cs)) r) (drop-drop 1 k r.columns)
    ∙ ap (λ n. without (k + suc (0 + one_blank (drop n r.columns))) r) (let s : k + 1 ≡ suc k = omega arith in s)
    ∙ ap (λ n. without n r) (let s : k + suc (0 + one_blank (drop (suc k) r.columns)) ≡ suc (k + one_blank (drop (suc k) r.columns)) = omega arith in s)

-- a later line of a block quote: after up to three columns and the marker, the rest is the one that the grammar keeps
pub block_quote-kept : (alert : Option BlockQuoteKind) (r : Row) → r.lazy ≡ false → keeps (BlockQuote alert) false r ≡ (if begins_block_quote (shallow r) then Some (after_block_quote (shallow r)) else None)
unfolding keeps
block_quote-kept alert r whole =
    ap (λ t. if t || (false && is_blank_line r) then None else keep_as (BlockQuote alert) r) whole
    ∙ go (is_block_quote r) refl ∙ ap (λ t. if t then Some (after_block_quote (shallow r)) else None) (sym (block_quote-seen r))
  where
    go : (z : Bool) → is_block_quote r ≡ z → (if z then Some (without (block_quote_width r) r) else None) ≡ (if z then Some (after_block_quote (shallow r)) else None)
    go true e = ap Some (sym (block_quote-left r e))
    go false e = refl

-- the first line of a block quote
pub block_quote-entered : (r : Row) → is_block_quote r ≡ true → after_block_quote (shallow r) ≡ without (block_quote_width r) r
block_quote-entered r e = block_quote-left r e

-- a list item, with its width from the row's beginning on
abbrev pub widened : ℕ → Option Container → Option Container
widened k None = None
widened k (Some (BlockQuote alert)) = Some (BlockQuote alert)
widened k (Some (Footnote label old size)) = Some (Footnote label old size)
widened k (Some (ListDefinition width)) = Some (ListDefinition width)
widened k (Some (Item delimiter number width task)) = Some (Item delimiter number (k + width) task)

module _ (r : Row) (le : indent_of r ≤ 3) where
  pub width-widened : (size : ℕ) → width_with size r ≡ indent_of r + width_with size (shallow r)
  width-widened size =
      let k : ℕ = indent_of r in
      ap (λ cs. k + (size + padding cs)) (sym (drop-drop size k r.columns)) ∙ ap (λ n. k + (size + padding (drop size (drop n r.columns)))) (sym (taken-all r le))
      ∙ ap (λ n. k + n) ((let s : size + padding (drop size (shallow r).columns) ≡ 0 + (size + padding (drop size (shallow r).columns)) = omega arith in s)
      ∙ ap (λ n. 0 + (size + padding (drop n (shallow r).columns))) (let s : size ≡ 0 + size = omega arith in s)
      ∙ ap (λ n. n + (size + padding (drop (n + size) (shallow r).columns))) (sym (flat r le)))

  item-widened : item_of r ≡ widened (indent_of r) (item_in (shallow r))
  item-widened =
      by (marker_of (words_of r)) ∙ ap (λ o. widened (indent_of r) (item_with (shallow r) o)) (ap marker_of (sym (same-words r le)))
      ∙ ap (λ t. widened (indent_of r) (if t then item_of (shallow r) else None)) (sym (eq-eqb _ 0 (flat r le)))
    where
      by : (o : Option Marker) → item_with r o ≡ widened (indent_of r) (item_with (shallow r) o)
      by None = refl
      by (Some m) =
          ap (λ w. if is_parted (drop m.size (words_of r)) && not (is_thematic_break (words_of r)) then Some (Item m.delimiter m.number w None) else None) (width-widened m.size)
          ∙ ap (λ l. if is_parted (drop m.size l) && not (is_thematic_break l) then Some (Item m.delimiter m.number (indent_of r + width_with m.size (shallow r)) None) else None) (sym (same-words r le))
          ∙ test (is_parted (drop m.size (words_of (shallow r))) && not (is_thematic_break (words_of (shallow r))))
        where
          test : (z : Bool) → (if z then Some (Item m.delimiter m.number (indent_of r + width_with m.size (shallow r)) None) else None) ≡ widened (indent_of r) (if z then Some (Item m.delimiter m.number (width_with m.size (shallow r)) None) else None)
          test true = refl
          test false = refl

  -- the result of the call after this many columns is that of the grammar for the whole row
  pub item-seen : item_numbers (min 3 (indent_of r)) (item_in (shallow r)) ≡ item_numbers 0 (item_of r)
  item-seen = ap (λ n. item_numbers n (item_in (shallow r))) (taken-all r le) ∙ by (item_in (shallow r)) ∙ ap (item_numbers 0) (sym item-widened)
    where
      by : (o : Option Container) → item_numbers (indent_of r) o ≡ item_numbers 0 (widened (indent_of r) o)
      by None = refl
      by (Some (BlockQuote alert)) = refl
      by (Some (Footnote label old size)) = refl
      by (Some (ListDefinition width)) = refl
      by (Some (Item delimiter number width task)) = ap (λ n. Some (delimiter, number, min n (2 ^ 64 - 1))) (let s : indent_of r + width ≡ 0 + (indent_of r + width) = omega arith in s)

  no_quote_item : (alert : Option BlockQuoteKind) → item_in (shallow r) ≡ Some (BlockQuote alert) → ⊥
  no_quote_item alert e = go (is_flush (shallow r)) (marker_of (words_of (shallow r))) e
    where
      test : (z : Bool) (delimiter : ℕ) (number : Option ℕ) (width : ℕ) → (if z then Some (Item delimiter number width None) else None) ≡ Some (BlockQuote alert) → ⊥
      test true delimiter number width q = cc
      test false delimiter number width q = cc

      go : (z : Bool) (o : Option Marker) → (if z then item_with (shallow r) o else None) ≡ Some (BlockQuote alert) → ⊥
      go true None q = cc
      go true (Some m) q = test (is_parted (drop m.size (words_of (shallow r))) && not (is_thematic_break (words_of (shallow r)))) m.delimiter m.number (width_with m.size (shallow r)) q
      go false o q = cc

  no_footnote_item : (label : List ℕ) (old : Bool) (size : ℕ) → item_in (shallow r) ≡ Some (Footnote label old size) → ⊥
  no_footnote_item label old size e = go (is_flush (shallow r)) (marker_of (words_of (shallow r))) e
    where
      test : (z : Bool) (delimiter : ℕ) (number : Option ℕ) (width : ℕ) → (if z then Some (Item delimiter number width None) else None) ≡ Some (Footnote label old size) → ⊥
      test true delimiter number width q = cc
      test false delimiter number width q = cc

      go : (z : Bool) (o : Option Marker) → (if z then item_with (shallow r) o else None) ≡ Some (Footnote label old size) → ⊥
      go true None q = cc
      go true (Some m) q = test (is_parted (drop m.size (words_of (shallow r))) && not (is_thematic_break (words_of (shallow r)))) m.delimiter m.number (width_with m.size (shallow r)) q
      go false o q = cc

  no_definition_item : (width : ℕ) → item_in (shallow r) ≡ Some (ListDefinition width) → ⊥
  no_definition_item width e = go (is_flush (shallow r)) (marker_of (words_of (shallow r))) e
    where
      test : (z : Bool) (delimiter : ℕ) (number : Option ℕ) (w : ℕ) → (if z then Some (Item delimiter number w None) else None) ≡ Some (ListDefinition width) → ⊥
      test true delimiter number w q = cc
      test false delimiter number w q = cc

      go : (z : Bool) (o : Option Marker) → (if z then item_with (shallow r) o else None) ≡ Some (ListDefinition width) → ⊥
      go true None q = cc
      go true (Some m) q = test (is_parted (drop m.size (words_of (shallow r))) && not (is_thematic_break (words_of (shallow r)))) m.delimiter m.number (width_with m.size (shallow r)) q
      go false o q = cc

  -- and its rest is the item's first line
  pub item-entered : (k : Container) → item_of r ≡ Some k → entered (item_in (shallow r)) (shallow r) ≡ enter k r
  unfolding enter
  item-entered k is = by (item_in (shallow r)) refl (sym item-widened ∙ is)
    where
      by : (o : Option Container) → item_in (shallow r) ≡ o → widened (indent_of r) o ≡ Some k → entered o (shallow r) ≡ enter k r
      by None e q = let z : None ≡ Some k = q in absurd (cc)
      by (Some (BlockQuote alert)) e q = absurd (no_quote_item alert e)
      by (Some (Footnote label old size)) e q = absurd (no_footnote_item label old size e)
      by (Some (ListDefinition width)) e q = absurd (no_definition_item width e)
      by (Some (Item delimiter number width None)) e q =
          let z : Item delimiter number (indent_of r + width) None ≡ k = cc in
          ap (λ cs. record r { columns = cs }) (drop-drop width (min 3 (indent_of r)) r.columns) ∙ ap (λ n. without (n + width) r) (taken-all r le) ∙ ap (λ c. enter c r) z
      by (Some (Item delimiter number width (Some is_checked))) e q =
          let z : Item delimiter number (indent_of r + width) (Some is_checked) ≡ k = cc in
          ap (λ cs. record r { columns = cs }) (drop-drop (width + 3) (min 3 (indent_of r)) r.columns) ∙ ap (λ n. without (n + (width + 3)) r) (taken-all r le)
          ∙ ap (λ n. without n r) (let s : indent_of r + (width + 3) ≡ indent_of r + width + 3 = omega arith in s) ∙ ap (λ c. enter c r) z

-- if four or more blank columns come first, no item is found
pub item-unseen : (r : Row) → 3 < indent_of r → item_in (shallow r) ≡ None
item-unseen r lt = ap (λ t. if t then item_of (shallow r) else None) (deep r lt)

-- a later line of an item: its width of blanks, or nothing after fewer
pub item-kept : (r : Row) (delimiter : ℕ) (number : Option ℕ) (width : ℕ) (task : Option Bool) → r.lazy ≡ false
    → keeps (Item delimiter number width task) false r
    ≡ (if nat_le width (indent_of r) || is_bare (without (min width (indent_of r)) r).columns then Some (without (min width (indent_of r)) r) else None)
unfolding keeps
item-kept r delimiter number width task whole =
    ap (λ t. if t || (false && is_blank_line r) then None else keep_as (Item delimiter number width task) r) whole ∙ go (nat_le width (indent_of r)) refl
  where
    go : (z : Bool) → nat_le width (indent_of r) ≡ z → (if is_blank_line r || nat_le width (indent_of r) then Some (without width r) else None) ≡ (if nat_le width (indent_of r) || is_bare (without (min width (indent_of r)) r).columns then Some (without (min width (indent_of r)) r) else None)
    go true e =
        ap (λ t. if is_blank_line r || t then Some (without width r) else None) e ∙ or-true (is_blank_line r)
        ∙ ap (λ n. Some (without n r)) (let le = leb-true width (indent_of r) e in let s : width ≡ min width (indent_of r) = omega arith in s)
        ∙ ap (λ t. if t || is_bare (without (min width (indent_of r)) r).columns then Some (without (min width (indent_of r)) r) else None) (sym e)
      where
        or-true : (z : Bool) → (if z || true then Some (without width r) else None) ≡ Some (without width r)
        or-true true = refl
        or-true false = refl
    go false e =
        ap (λ t. if is_blank_line r || t then Some (without width r) else None) e ∙ by (without_indent r.columns) refl
        ∙ ap (λ n. if false || is_bare (without n r).columns then Some (without n r) else None) (let lt = leb-false width (indent_of r) e in let s : indent_of r ≡ min width (indent_of r) = omega arith in s)
        ∙ ap (λ t. if t || is_bare (without (min width (indent_of r)) r).columns then Some (without (min width (indent_of r)) r) else None) (sym e)
      where
        line_end : (cs : List Column) → without_indent r.columns ≡ cs → is_bare cs ≡ true → drop width r.columns ≡ cs
        line_end [] f b =
            ap (λ n. drop n r.columns) (let lt = leb-false width (indent_of r) e in let s : width ≡ indent_of r + (width - indent_of r) = omega arith in s)
            ∙ sym (drop-drop (width - indent_of r) (indent_of r) r.columns) ∙ ap (drop (width - indent_of r)) f ∙ none (width - indent_of r)
          where
            none : (n : ℕ) → drop {A = Column} n [] ≡ []
            none zero = refl
            none (suc n) = refl
        line_end (c ∷ cs) f b = absurd (true≢false (sym b))

        by : (cs : List Column) → without_indent r.columns ≡ cs → (if is_blank_line r || false then Some (without width r) else None) ≡ (if false || is_bare (without_indent r.columns) then Some (record r { columns = without_indent r.columns }) else None)
        by [] f =
            ap (λ l. if is_bare l || false then Some (without width r) else None) f ∙ ap (λ l. Some (record r { columns = l })) (line_end [] f refl ∙ sym f)
            ∙ ap (λ l. if false || is_bare l then Some (record r { columns = without_indent r.columns }) else None) (sym f)
        by (c ∷ cs) f = ap (λ l. if is_bare l || false then Some (without width r) else None) f ∙ ap (λ l. if false || is_bare l then Some (record r { columns = without_indent r.columns }) else None) (sym f)
