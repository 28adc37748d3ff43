-- The places of lines' columns in the text.
use Rattle.std.proofs.Common.{◌≡◌, ℕ, zero, suc, ◌+◌, ◌≤◌, ◌<◌, Bool, true, false, ◌==◌, ◌||◌, nat_le, if◌then◌else◌, List, [], ◌∷◌, ◌++◌, length, drop, take, refl, sym, ap, ◌∙◌, subst, arith, Option, Some, None, ne_eqb, rules}
use Rattle.std.specs.Prelude.{if◌then◌else◌}
use Rattle.cmark_grammar.specs.Characters.{tab}
use Rattle.cmark_grammar.specs.Lines.{lines, onto, content}
use Rattle.cmark_grammar.specs.Columns.{Column, expand, tab_columns, to_tab_stop, indent, without_indent}
use Rattle.cmark_grammar.specs.Rows.{Row, rows, rows_from, row_at, without, is_blank_line, indent_of, place, first_place, begin_of, start_of, last_line_end}
use Rattle.cmark_grammar.specs.Containers.{Container, BlockQuote, Item, Footnote, ListDefinition, keeps, keep_as, strip_as, strip, strips, is_block_quote, block_quote_width}

-- these columns are consecutive, from one place to another
abbrev pub Runs : ℕ → List Column → ℕ → Type 0
Runs from [] to = from ≡ to
Runs from (c ∷ cs) to = (place c ≡ from) × Runs (suc c.at) cs to

pub place-le : (c : Column) → place c ≤ suc c.at
place-le c = grind arith

pub Runs-le : (from : ℕ) (cs : List Column) (to : ℕ) → Runs from cs to → from ≤ to
Runs-le from [] to h = omega (arith, h)
Runs-le from (c ∷ cs) to h = search (rules, place-le, Runs-le (suc c.at) cs to h.1)

pub first_place-Runs : (from : ℕ) (cs : List Column) (to : ℕ) → Runs from cs to → first_place to cs ≡ from
first_place-Runs from [] to h = sym h
first_place-Runs from (c ∷ cs) to h = h.0

pub drop-Runs : (n from : ℕ) (cs : List Column) (to : ℕ) → Runs from cs to → Runs (first_place to (drop n cs)) (drop n cs) to × (from ≤ first_place to (drop n cs))
drop-Runs zero from cs to h = grind (arith, first_place-Runs)
drop-Runs (suc n) from [] to h = let e : from ≡ to = h in (refl, omega (arith, e))
drop-Runs (suc n) from (c ∷ cs) to h = search (rules, place-le, drop-Runs n (suc c.at) cs to h.1)

-- if more columns are dropped, the rest begins later
pub drop-mono : (m n from : ℕ) (cs : List Column) (to : ℕ) → m ≤ n → Runs from cs to → first_place to (drop m cs) ≤ first_place to (drop n cs)
drop-mono zero n from cs to le h =
    let e : first_place to cs ≡ from = first_place-Runs from cs to h in
    let l : from ≤ first_place to (drop n cs) = (drop-Runs n from cs to h).1 in
    omega (arith, e, l)
drop-mono (suc m) zero from cs to le h = absurd (omega (arith, le))
drop-mono (suc m) (suc n) from [] to le h = omega arith
drop-mono (suc m) (suc n) from (c ∷ cs) to le h = drop-mono m n (suc c.at) cs to (omega (arith, le)) h.1

-- a line that begins at this place or later
abbrev pub Lies : ℕ → Row → Type 0
Lies from r = (from ≤ begin_of r) × Runs (begin_of r) r.columns r.content_end × (r.content_end ≤ r.line_end)

pub begin-content_end : (from : ℕ) (r : Row) → Lies from r → begin_of r ≤ r.content_end
begin-content_end from r h = Runs-le (begin_of r) r.columns r.content_end h.1

pub begin-start : (from : ℕ) (r : Row) → Lies from r → begin_of r ≤ start_of r
begin-start from r h = (drop-Runs (indent r.columns) (begin_of r) r.columns r.content_end h.1).1

pub start-Runs : (from : ℕ) (r : Row) → Lies from r → Runs (start_of r) (without_indent r.columns) r.content_end
start-Runs from r h = (drop-Runs (indent r.columns) (begin_of r) r.columns r.content_end h.1).0

pub start-content_end : (from : ℕ) (r : Row) → Lies from r → start_of r ≤ r.content_end
start-content_end from r h = Runs-le (start_of r) (without_indent r.columns) r.content_end (start-Runs from r h)

pub Lies-without : (n from : ℕ) (r : Row) → Lies from r → Lies (begin_of r) (without n r)
Lies-without n from r h = let d = drop-Runs n (begin_of r) r.columns r.content_end h.1 in (d.1, d.0, h.2)

pub Lies-lower : (a b : ℕ) (r : Row) → a ≤ b → Lies b r → Lies a r
Lies-lower a b r le h = let p : b ≤ begin_of r = h.0 in (omega (arith, le, p), h.1, h.2)

-- lines in order, without gaps
abbrev pub Along : ℕ → List Row → ℕ → Type 0
Along from [] to = from ≤ to
Along from (r ∷ rs) to = Lies from r × Along r.line_end rs to

pub Along-split : (first : Row) (more rest : List Row) (to : ℕ) → Along first.line_end (more ++ rest) to → Along first.line_end more (last_line_end first more) × Along (last_line_end first more) rest to
Along-split first [] rest to h = (omega arith, h)
Along-split first (r ∷ more) rest to h = let s = Along-split r more rest to h.1 in ((h.0, s.0), s.1)

pub Along-le : (from : ℕ) (rs : List Row) (to : ℕ) → Along from rs to → from ≤ to
Along-le from [] to h = h
Along-le from (r ∷ rs) to h =
    let a : from ≤ begin_of r = h.0.0 in
    let b : begin_of r ≤ r.content_end = begin-content_end from r h.0 in
    let c : r.content_end ≤ r.line_end = h.0.2 in
    let d : r.line_end ≤ to = Along-le r.line_end rs to h.1 in
    omega (arith, a, b, c, d)

-- without their prefixes the lines are still in order
wide-without : (width : ℕ) (r s : Row) → (if is_blank_line r || nat_le width (indent_of r) then Some (without width r) else None) ≡ Some s → without width r ≡ s
wide-without width r s e = grind arith

-- a line without some columns at the beginning, held or not
abbrev pub after_prefix : ℕ → (held : Bool) → Row → Row
after_prefix n held r = record (without n r) { held = held }

kept_as-following : (k : Container) (r s : Row) → keep_as k r ≡ Some s → (n : ℕ) × ((held : Bool) × (after_prefix n held r ≡ s))
kept_as-following (BlockQuote alert) r s e = (block_quote_width r, (r.held, go (is_block_quote r) e))
  where
    go : (z : Bool) → (if z then Some (without (block_quote_width r) r) else None) ≡ Some s → without (block_quote_width r) r ≡ s
    go true q = cc
    go false q = cc
kept_as-following (Footnote label true size) r s e = grind arith
kept_as-following (Footnote label false size) r s e = (4, (r.held, wide-without 4 r s e))
kept_as-following (Item delimiter number width task) r s e = (width, (r.held, wide-without width r s e))
kept_as-following (ListDefinition width) r s e = (width, (r.held, wide-without width r s e))

pub kept-following : (k : Container) (bare : Bool) (r s : Row) → keeps k bare r ≡ Some s → (n : ℕ) × ((held : Bool) × (after_prefix n held r ≡ s))
unfolding keeps
kept-following k bare r s e = go _ e
  where
    go : (z : Bool) → (if z then None else keep_as k r) ≡ Some s → (n : ℕ) × ((held : Bool) × (after_prefix n held r ≡ s))
    go true q = cc
    go false q = kept_as-following k r s q

pub strip-Lies : (k : Container) (bare : Bool) (from : ℕ) (r : Row) → Lies from r → Lies from (strip k bare r)
strip-Lies k bare from r h = go (keeps k bare r) refl
  where
    go : (o : Option Row) → keeps k bare r ≡ o → Lies from (strip_as o r)
    go None e = h
    go (Some s) e =
        let w = kept-following k bare r s e in
        let n : ℕ = w.0 in
        subst (Lies from) w.1.1 (Lies-lower from (begin_of r) (without n r) h.0 (Lies-without n from r h))

pub strip-line_end : (k : Container) (bare : Bool) (r : Row) → (strip k bare r).line_end ≡ r.line_end
strip-line_end k bare r = grind (arith, kept-following)

pub strips-Along : (k : Container) (bare : Bool) (from : ℕ) (rs : List Row) (to : ℕ) → Along from rs to → Along from (strips k bare rs) to
strips-Along k bare from [] to h = h
strips-Along k bare from (r ∷ rs) to h =
    (strip-Lies k bare from r h.0, subst (λ p. Along p (strips k false rs) to) (sym (strip-line_end k bare r)) (strips-Along k false r.line_end rs to h.1))

-- the lines of a text are in order, without gaps
tab-Runs : (at part n : ℕ) (rest : List Column) (to : ℕ) → Runs (suc at) rest to → Runs (suc at) (tab_columns at (suc part) n ++ rest) to
tab-Runs at part zero rest to h = h
tab-Runs at part (suc n) rest to h = (ap (λ z. if z then at else suc at) (ne_eqb (suc part) 0 (omega arith)), tab-Runs at (suc part) n rest to h)

pub expand-Runs : (column at : ℕ) (bs : List ℕ) → Runs at (expand column at bs) (at + length bs)
expand-Runs column at [] = omega arith
expand-Runs column at (b ∷ bs) =
    go (b == tab) (to_tab_stop column) some (expand-Runs (column + to_tab_stop column) (suc at) bs) (expand-Runs (suc column) (suc at) bs)
  where
    some : 0 < to_tab_stop column
    some = omega arith

    to : suc at + length bs ≡ at + length (b ∷ bs)
    to = omega arith

    go : (z : Bool) (n : ℕ) → 0 < n → Runs (suc at) (expand (column + n) (suc at) bs) (suc at + length bs) → Runs (suc at) (expand (suc column) (suc at) bs) (suc at + length bs) → Runs at (if z then tab_columns at 0 n ++ expand (column + n) (suc at) bs else record { byte = b; at = at; part = 0 } ∷ expand (suc column) (suc at) bs) (at + length (b ∷ bs))
    go z n lt p q = grind (arith, tab-Runs, to)

abbrev pub total : List (List ℕ) → ℕ
total [] = 0
total (l ∷ ls) = length l + total ls

onto-total : (b : ℕ) (ls : List (List ℕ)) → total (onto b ls) ≡ suc (total ls)
onto-total b [] = omega arith
onto-total b (l ∷ ls) = omega arith

pub lines-total : (bs : List ℕ) → total (lines bs) ≡ length bs
lines-total [] = refl
lines-total (b ∷ bs) = search (rules, onto-total, lines-total bs)

take-len : (n : ℕ) (bs : List ℕ) → length (take n bs) ≤ length bs
take-len zero bs = omega arith
take-len (suc n) [] = omega arith
take-len (suc n) (b ∷ bs) = let ih = take-len n bs in omega (arith, ih)

content-len : (line : List ℕ) → length (content line) ≤ length line
content-len line = take-len _ line

pub rows-Along : (at : ℕ) (ls : List (List ℕ)) → Along at (rows_from at ls) (at + total ls)
rows-Along at [] = omega arith
rows-Along at (l ∷ ls) =
    let runs : Runs at (expand 0 at (content l)) (at + length (content l)) = expand-Runs 0 at (content l) in
    let e : begin_of (row_at at l) ≡ at = first_place-Runs at (expand 0 at (content l)) (at + length (content l)) runs in
    let c : length (content l) ≤ length l = content-len l in
    let p : (at + length l) + total ls ≡ at + (length l + total ls) = omega arith in (
      (omega (arith, e), subst (λ f. Runs f (expand 0 at (content l)) (at + length (content l))) (sym e) runs, omega (arith, c)),
      subst (Along (at + length l) (rows_from (at + length l) ls)) p (rows-Along (at + length l) ls),
    )

pub text-Along : (text : List ℕ) → Along 0 (rows text) (length text)
text-Along text = subst (Along 0 (rows text)) (let z : 0 + total (lines text) ≡ total (lines text) = omega arith in z ∙ lines-total text) (rows-Along 0 (lines text))
