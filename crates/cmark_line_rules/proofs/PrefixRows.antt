-- The prefixes of containers, as the calls on the beginning of a line find them.
use Rattle.std.proofs.Common.{◌≡◌, ℕ, suc, ◌+◌, ◌-◌, ◌≤◌, min, Bool, true, false, ◌&&◌, ◌||◌, not, List, [], ◌∷◌, length, drop, Option, Some, None, refl, sym, ap, ◌∙◌, arith}
use Rattle.std.specs.Prelude.{if◌then◌else◌, nat_le, nat_lt, ◌^◌}
use Rattle.std.proofs.lemmas.Bool.{leb-true, leb-false}
use Rattle.cmark_grammar.specs.Columns.{Column, indent, without_indent}
use Rattle.cmark_grammar.specs.Rows.{Row, without, indent_of, words_of, is_bare}
use Rattle.cmark_grammar.specs.Leaves.{is_parted, is_thematic_break}
use Rattle.cmark_grammar.specs.Containers.{Container, BlockQuote, Item, Footnote, ListDefinition, Marker, is_bullet, is_delimiter, digits, number_of, delimited, marker_of, after_marker, padding, width_with, item_with, item_of, block_quote_width, enter, keeps}
use Rattle.cmark_scan_lines.specs.LineMarkers.{begins_block_quote, after_block_quote, item_in, item_numbers, entered}
use Rattle.cmark_scan_lines.proofs.PrefixSteps.{shallow, block_quote-seen, block_quote-entered, item-seen, item-entered, item-unseen, item-kept}
use Rattle.cmark_line_rules.specs.Starts.{block_quote_entered, begun_item}

-- the rest after up to three columns, if this many were taken
pub shallow-is : (r s : Row) (n : ℕ) → n ≡ min 3 (indent_of r) → s ≡ without n r → s ≡ shallow r
shallow-is r s n count is = is ∙ ap (λ m. without m r) count

pub block_quote-none : (r : Row) → false ≡ begins_block_quote (shallow r) → None ≡ block_quote_entered r
block_quote-none r e = ap (λ z. if z then Some (without (block_quote_width r) r) else None) (e ∙ block_quote-seen r)

pub block_quote-some : (r s : Row) → true ≡ begins_block_quote (shallow r) → s ≡ after_block_quote (shallow r) → Some s ≡ block_quote_entered r
block_quote-some r s e is =
    ap Some (is ∙ block_quote-entered r (sym (e ∙ block_quote-seen r))) ∙ ap (λ z. if z then Some (without (block_quote_width r) r) else None) (e ∙ block_quote-seen r)

-- a marker is short
abbrev pub IsShort : Option Marker → Type 0
IsShort None = Unit {0}
IsShort (Some m) = m.size ≤ 10

delimited-short : (ds : List ℕ) (rest : List ℕ) → IsShort (delimited ds rest)
delimited-short ds [] = tt
delimited-short ds (b ∷ bs) = go (nat_lt 0 (length ds)) (nat_le (length ds) 9) (is_delimiter b) refl
  where
    go : (x y z : Bool) → nat_le (length ds) 9 ≡ y → IsShort (if x && (y && z) then Some (record { delimiter = b; number = Some (number_of ds); size = suc (length ds) }) else None)
    go true true true ey = let le = leb-true (length ds) 9 ey in omega (arith, le)
    go true true false ey = tt
    go true false z ey = tt
    go false y z ey = tt

pub marker-short : (bs : List ℕ) → IsShort (marker_of bs)
marker-short [] = tt
marker-short (b ∷ bs) = go (is_bullet b)
  where
    go : (z : Bool) → IsShort (if z then Some (record { delimiter = b; number = None; size = 1 }) else delimited (digits (b ∷ bs)) (drop (length (digits (b ∷ bs))) (b ∷ bs)))
    go true = omega arith
    go false = delimited-short (digits (b ∷ bs)) (drop (length (digits (b ∷ bs))) (b ∷ bs))

pub padding-few : (cs : List Column) → padding cs ≤ 4
padding-few cs = go (is_bare (without_indent cs)) (nat_le 5 (indent cs)) refl
  where
    go : (x y : Bool) → nat_le 5 (indent cs) ≡ y → (if x || y then 1 else indent cs) ≤ 4
    go true y e = omega arith
    go false true e = omega arith
    go false false e = let lt = leb-false 5 (indent cs) e in omega (arith, lt)

triple : (a x : ℕ) (b y : Option ℕ) (c z : ℕ) → ◌≡◌ {A = Option (ℕ × Option ℕ × ℕ)} (Some (a, b, c)) (Some (x, y, z)) → (a ≡ x) × (b ≡ y) × (c ≡ z)
triple a x b y c z e = (ap (λ o. (all o).0) e, ap (λ o. (all o).1) e, ap (λ o. (all o).2) e)
  where
    all : Option (ℕ × Option ℕ × ℕ) → ℕ × Option ℕ × ℕ
    all None = (a, b, c)
    all (Some t) = t

-- the result of the call determines the item
item-read : (r : Row) → indent_of r ≤ 3 → (delimiter : ℕ) (number : Option ℕ) (width : ℕ) → Some (delimiter, number, width) ≡ item_numbers 0 (item_of r) → item_of r ≡ Some (Item delimiter number width None)
item-read r le delimiter number width is = go (marker_of (words_of r)) (marker-short (words_of r)) is
  where
    go : (o : Option Marker) → IsShort o → Some (delimiter, number, width) ≡ item_numbers 0 (item_with r o) → item_with r o ≡ Some (Item delimiter number width None)
    go None short e = absurd (let q : Some (delimiter, number, width) ≡ None = e in cc)
    go (Some m) short e = test (is_parted (drop m.size (words_of r)) && not (is_thematic_break (words_of r))) e
      where
        test : (z : Bool) → Some (delimiter, number, width) ≡ item_numbers 0 (if z then Some (Item m.delimiter m.number (width_with m.size r) None) else None) → (if z then Some (Item m.delimiter m.number (width_with m.size r) None) else None) ≡ Some (Item delimiter number width None)
        test false q = absurd (let p : Some (delimiter, number, width) ≡ None = q in cc)
        test true q =
            let p = triple delimiter m.delimiter number m.number width (min (0 + width_with m.size r) (2 ^ 64 - 1)) q in
            let w : width ≡ min (0 + width_with m.size r) (2 ^ 64 - 1) = p.2 in
            let few = padding-few (after_marker m.size r) in
            let s : width_with m.size r ≡ width = omega (arith, w, few, le, short) in
            ap (λ x. Some (Item x m.number (width_with m.size r) None)) (sym p.0) ∙ ap (λ n. Some (Item delimiter n (width_with m.size r) None)) (sym p.1) ∙ ap (λ n. Some (Item delimiter number n None)) s

pub numbers-is : (r s : Row) (n : ℕ) → n ≡ min 3 (indent_of r) → s ≡ without n r → item_numbers n (item_in s) ≡ item_numbers (min 3 (indent_of r)) (item_in (shallow r))
numbers-is r s n count is = ap (λ x. item_numbers n (item_in x)) (shallow-is r s n count is) ∙ ap (λ m. item_numbers m (item_in (shallow r))) count

pub item-found : (r : Row) (delimiter : ℕ) (number : Option ℕ) (width : ℕ) → Some (delimiter, number, width) ≡ item_numbers (min 3 (indent_of r)) (item_in (shallow r)) → (indent_of r ≤ 3) × (item_of r ≡ Some (Item delimiter number width None))
item-found r delimiter number width is = go (nat_le (indent_of r) 3) refl
  where
    go : (z : Bool) → nat_le (indent_of r) 3 ≡ z → (indent_of r ≤ 3) × (item_of r ≡ Some (Item delimiter number width None))
    go true e = let le = leb-true (indent_of r) 3 e in (le, item-read r le delimiter number width (is ∙ item-seen r le))
    go false e = absurd (let p : Some (delimiter, number, width) ≡ None = is ∙ ap (item_numbers (min 3 (indent_of r))) (item-unseen r (leb-false (indent_of r) 3 e)) in cc)

begun-all : (r : Row) → indent_of r ≤ 3 → begun_item r ≡ item_of r
begun-all r le = ap (λ z. if z then item_of r else None) (test (indent_of r) le)
  where
    test : (n : ℕ) → n ≤ 3 → nat_le n 3 ≡ true
    test n le = grind (arith)

pub item-some : (r : Row) (delimiter : ℕ) (number : Option ℕ) (width : ℕ) → Some (delimiter, number, width) ≡ item_numbers (min 3 (indent_of r)) (item_in (shallow r)) → Some (Item delimiter number width None) ≡ begun_item r
item-some r delimiter number width is = let h = item-found r delimiter number width is in sym (begun-all r h.0 ∙ h.1)

pub item-inside : (r s : Row) (delimiter : ℕ) (number : Option ℕ) (width : ℕ) → Some (delimiter, number, width) ≡ item_numbers (min 3 (indent_of r)) (item_in (shallow r)) → s ≡ entered (item_in (shallow r)) (shallow r) → s ≡ without width r
unfolding enter
item-inside r s delimiter number width is e = let h = item-found r delimiter number width is in e ∙ item-entered r h.0 (Item delimiter number width None) h.1

pub item-none : (r : Row) → None ≡ item_numbers (min 3 (indent_of r)) (item_in (shallow r)) → None ≡ begun_item r
item-none r is = go (nat_le (indent_of r) 3) refl
  where
    by : (o : Option Container) → o ≡ item_of r → None ≡ item_numbers 0 o → None ≡ item_of r
    by None q e = q
    by (Some (BlockQuote alert)) q e = absurd (never q)
      where
        never : Some (BlockQuote alert) ≡ item_of r → ⊥
        never p = quote_item (marker_of (words_of r)) p
          where
            quote_item : (m : Option Marker) → Some (BlockQuote alert) ≡ item_with r m → ⊥
            quote_item None x = cc
            quote_item (Some m) x = test (is_parted (drop m.size (words_of r)) && not (is_thematic_break (words_of r))) x
              where
                test : (z : Bool) → Some (BlockQuote alert) ≡ (if z then Some (Item m.delimiter m.number (width_with m.size r) None) else None) → ⊥
                test true y = cc
                test false y = cc
    by (Some (Footnote label old size)) q e = absurd (never q)
      where
        never : Some (Footnote label old size) ≡ item_of r → ⊥
        never p = footnote_item (marker_of (words_of r)) p
          where
            footnote_item : (m : Option Marker) → Some (Footnote label old size) ≡ item_with r m → ⊥
            footnote_item None x = cc
            footnote_item (Some m) x = test (is_parted (drop m.size (words_of r)) && not (is_thematic_break (words_of r))) x
              where
                test : (z : Bool) → Some (Footnote label old size) ≡ (if z then Some (Item m.delimiter m.number (width_with m.size r) None) else None) → ⊥
                test true y = cc
                test false y = cc
    by (Some (ListDefinition width)) q e = absurd (never q)
      where
        never : Some (ListDefinition width) ≡ item_of r → ⊥
        never p = definition_item (marker_of (words_of r)) p
          where
            definition_item : (m : Option Marker) → Some (ListDefinition width) ≡ item_with r m → ⊥
            definition_item None x = cc
            definition_item (Some m) x = test (is_parted (drop m.size (words_of r)) && not (is_thematic_break (words_of r))) x
              where
                test : (z : Bool) → Some (ListDefinition width) ≡ (if z then Some (Item m.delimiter m.number (width_with m.size r) None) else None) → ⊥
                test true y = cc
                test false y = cc
    by (Some (Item delimiter number width task)) q e = absurd (let p : None ≡ Some (delimiter, number, min (0 + width) (2 ^ 64 - 1)) = e in cc)

    go : (z : Bool) → nat_le (indent_of r) 3 ≡ z → None ≡ (if z then item_of r else None)
    go true e = by (item_of r) refl (is ∙ item-seen r (leb-true (indent_of r) 3 e))
    go false e = refl

pub content_end_entered : (r : Row) → (entered (item_in r) r).content_end ≡ r.content_end
unfolding enter
content_end_entered r = go (item_in r)
  where
    go : (o : Option Container) → (entered o r).content_end ≡ r.content_end
    go None = refl
    go (Some k) = refl

-- an item keeps a line that has its width of blanks, or nothing after fewer
module _ (r s : Row) (width : ℕ) (whole : r.lazy ≡ false) (is : s ≡ without (min width (indent_of r)) r) where
  abbrev kept_if : Bool → Option Row
  kept_if z = if z then Some (without (min width (indent_of r)) r) else None

  tested : (z : Bool) → (nat_le width (indent_of r) || is_bare s.columns) ≡ z → (nat_le width (indent_of r) || is_bare (without (min width (indent_of r)) r).columns) ≡ z
  tested z e = ap (λ x. nat_le width (indent_of r) || is_bare x.columns) (sym is) ∙ e

  pub width-kept : (nat_le width (indent_of r) || is_bare s.columns) ≡ true → (delimiter : ℕ) (number : Option ℕ) (task : Option Bool) → Some s ≡ keeps (Item delimiter number width task) false r
  width-kept e delimiter number task = ap Some is ∙ ap kept_if (sym (tested true e)) ∙ sym (item-kept r delimiter number width task whole)

  pub width-lacked : (nat_le width (indent_of r) || is_bare s.columns) ≡ false → (delimiter : ℕ) (number : Option ℕ) (task : Option Bool) → None ≡ keeps (Item delimiter number width task) false r
  width-lacked e delimiter number task = ap kept_if (sym (tested false e)) ∙ sym (item-kept r delimiter number width task whole)
