-- The cells of a row, one after the other.
use Rattle.std.proofs.Common.{◌≡◌, ℕ, zero, suc, ◌+◌, ◌<◌, ◌≤◌, Bool, true, false, ◌==◌, ◌&&◌, not, List, [], ◌∷◌, ◌++◌, length, take, drop, get_or, Option, Some, None, option_map, refl, sym, ap, ◌∙◌, subst, arith, append-nil, append_assoc}
use Rattle.std.proofs.lemmas.Bool.{eqb-true, ne_eqb}
use Rattle.std.proofs.lemmas.List.{get_or-drop, length-drop}
use Rattle.std.specs.Prelude.{if◌then◌else◌, nat_lt, ◌-◌}
use Rattle.memchr.specs.Find.{IsFirstByte, is_byte}
use Rattle.cmark_grammar.specs.Lines.{onto}
use Rattle.cmark_grammar.specs.Alignment as grammar
use Rattle.cmark_grammar.specs.Tables.{alignment_of, put_first, alignments, cells}
use Rattle.cmark_grammar.specs.Leaves.{trimmed}
use Rattle.cmark_grammar.specs.TableRows.{parts, without_blank_end, holds_pipe}
use Rattle.cmark_scan_lines.proofs.FirstSteps.{none-before, first-within, first-is, none-at-all}
use Rattle.cmark_scan_lines.proofs.TableSteps.{cells-alone, cells-more}
use Rattle.cmark_scan_lines.specs.TableCells.{cells_after, parts_at}

-- bytes before the first of these parts
abbrev pub glue : List ℕ → List (List ℕ) → List (List ℕ)
glue front [] = front ∷ []
glue front (part ∷ more) = (front ++ part) ∷ more

glue-onto : (front : List ℕ) (b : ℕ) (ps : List (List ℕ)) → glue front (onto b ps) ≡ glue (front ++ b ∷ []) ps
glue-onto front b [] = refl
glue-onto front b (p ∷ ps) = ap (λ l. l ∷ ps) (sym (append_assoc front (b ∷ []) p))

drop-at : (n : ℕ) (bs : List ℕ) → n < length bs → drop n bs ≡ get_or bs n 0 ∷ drop (suc n) bs
drop-at n [] lt = absurd (omega (arith, lt))
drop-at zero (b ∷ bs) lt = refl
drop-at (suc n) (b ∷ bs) lt = drop-at n bs (omega (arith, lt))

take-more : (n : ℕ) (bs : List ℕ) → n < length bs → take (suc n) bs ≡ take n bs ++ get_or bs n 0 ∷ []
take-more n [] lt = absurd (omega (arith, lt))
take-more zero (b ∷ bs) lt = refl
take-more (suc n) (b ∷ bs) lt = ap (λ l. b ∷ l) (take-more n bs (omega (arith, lt)))

-- some bytes were passed
abbrev pub Passed : (bytes : List ℕ) → (at : ℕ) → (escaped : Bool) → Type 0
Passed bytes at escaped = parts false bytes ≡ glue (take at bytes) (parts escaped (drop at bytes))

pub passed-none : (bytes : List ℕ) → Passed bytes 0 false
passed-none bytes = go (parts false bytes) refl
  where
    some_onto : (b : ℕ) (ps : List (List ℕ)) → onto b ps ≡ [] → ⊥
    some_onto b [] e = cc
    some_onto b (p ∷ ps) e = cc

    some_parts : (bs : List ℕ) → parts false bs ≡ [] → ⊥
    some_parts [] e = cc
    some_parts (b ∷ bs) e = by ((b == 124) && true) e
      where
        by : (z : Bool) → (if z then [] ∷ parts false bs else onto b (parts (b == 92) bs)) ≡ [] → ⊥
        by true f = cc
        by false f = some_onto b (parts (b == 92) bs) f

    go : (ps : List (List ℕ)) → parts false bytes ≡ ps → ps ≡ glue [] ps
    go [] e = absurd (some_parts bytes e)
    go (p ∷ ps) e = refl

module _ (bytes : List ℕ) (at : ℕ) (escaped : Bool) (so : Passed bytes at escaped) where
  module _ (lt : at < length bytes) where
    b : ℕ
    b = get_or bytes at 0

    next : (z : Bool) → ((get_or bytes at 0 == 124) && not escaped) ≡ z → parts false bytes ≡ glue (take at bytes) (if z then [] ∷ parts false (drop (suc at) bytes) else onto (get_or bytes at 0) (parts (get_or bytes at 0 == 92) (drop (suc at) bytes)))
    next z e =
        so ∙ ap (λ l. glue (take at bytes) (parts escaped l)) (drop-at at bytes lt)
        ∙ ap (λ y. glue (take at bytes) (if y then [] ∷ parts false (drop (suc at) bytes) else onto (get_or bytes at 0) (parts (get_or bytes at 0 == 92) (drop (suc at) bytes)))) e

    pub passed-found : ((get_or bytes at 0 == 124) && not escaped) ≡ true → parts false bytes ≡ parts_at bytes (Some at)
    passed-found e = next true e ∙ ap (λ l. l ∷ parts false (drop (suc at) bytes)) (append-nil (take at bytes))

    pub passed-more : ((get_or bytes at 0 == 124) && not escaped) ≡ false → (now : ℕ) → now ≡ at + 1 → (escapes : Bool) → escapes ≡ (get_or bytes at 0 == 92) → Passed bytes now escapes
    passed-more e now is escapes so_is =
        let z : now ≡ suc at = omega (arith, is) in
        subst (λ n. Passed bytes n escapes) (sym z)
        (next false e ∙ glue-onto (take at bytes) (get_or bytes at 0) (parts (get_or bytes at 0 == 92) (drop (suc at) bytes))
        ∙ ap (λ l. glue l (parts (get_or bytes at 0 == 92) (drop (suc at) bytes))) (sym (take-more at bytes lt))
        ∙ ap (λ y. glue (take (suc at) bytes) (parts y (drop (suc at) bytes))) (sym so_is))

  pub passed-all : length bytes ≤ at → parts false bytes ≡ parts_at bytes None
  passed-all le =
      so ∙ ap (λ l. glue (take at bytes) (parts escaped l)) (drop-all at bytes le) ∙ ap (λ l. l ∷ []) (append-nil (take at bytes) ∙ take-all at bytes le)
    where
      drop-all : (n : ℕ) (xs : List ℕ) → length xs ≤ n → drop n xs ≡ []
      drop-all zero [] l = refl
      drop-all (suc n) [] l = refl
      drop-all zero (x ∷ xs) l = absurd (omega (arith, l))
      drop-all (suc n) (x ∷ xs) l = drop-all n xs (omega (arith, l))

      take-all : (n : ℕ) (xs : List ℕ) → length xs ≤ n → take n xs ≡ xs
      take-all zero [] l = refl
      take-all (suc n) [] l = refl
      take-all zero (x ∷ xs) l = absurd (omega (arith, l))
      take-all (suc n) (x ∷ xs) l = ap (λ t. x ∷ t) (take-all n xs (omega (arith, l)))

-- whether the byte that is this many places after `from` is escaped, if that at `from` is not
abbrev pub escaped_after : (bytes : List ℕ) → (from : ℕ) → ℕ → Bool
escaped_after bytes from zero = false
escaped_after bytes from (suc n) = get_or bytes (from + n) 0 == 92

pub plain-first : (bytes : List ℕ) (from n : ℕ) → n ≡ 0 → escaped_after bytes from n ≡ false
plain-first bytes from n is = ap (escaped_after bytes from) is

pub plain-following : (bytes : List ℕ) (from n : ℕ) → (get_or bytes (from + n - 1) 0 ≡ 92 → ⊥) → escaped_after bytes from n ≡ false
plain-following bytes from zero other = refl
plain-following bytes from (suc n) other =
    let z : from + n ≡ from + suc n - 1 = omega arith in
    ne_eqb (get_or bytes (from + n) 0) 92 (λ e. other (ap (λ m. get_or bytes m 0) (sym z) ∙ e))

pub escaped-there : (bytes : List ℕ) (from n : ℕ) → (n ≡ 0 → ⊥) → get_or bytes (from + n - 1) 0 ≡ 92 → escaped_after bytes from n ≡ true
escaped-there bytes from zero some is = absurd (some refl)
escaped-there bytes from (suc n) some is =
    let z : from + n ≡ from + suc n - 1 = omega arith in
    ap (λ b. b == 92) (ap (λ m. get_or bytes m 0) z ∙ is)

and-false : (y z : Bool) → y ≡ false → (y && z) ≡ false
and-false y z e = ap (λ x. x && z) e

-- a search continues at a place that is not escaped
module _ (bytes : List ℕ) (from : ℕ) (so : Passed bytes from false) where
  -- and passes bytes that are no pipe
  walked : (n : ℕ) → from + n ≤ length bytes → ((k : ℕ) → k < n → (get_or bytes (from + k) 0 == 124) ≡ false) → Passed bytes (from + n) (escaped_after bytes from n)
  walked zero le none = let z : from ≡ from + 0 = omega arith in subst (λ m. Passed bytes m false) z so
  walked (suc n) le none =
      passed-more bytes (from + n) (escaped_after bytes from n) (walked n (omega (arith, le)) (λ k lt. none k (omega (arith, lt)))) (omega (arith, le))
      (and-false (get_or bytes (from + n) 0 == 124) (not (escaped_after bytes from n)) (none n (omega arith))) (from + suc n) (omega arith) (get_or bytes (from + n) 0 == 92) refl

  module _ (n : ℕ) (rest : List ℕ) (is : rest ≡ drop from bytes) (first : IsFirstByte (is_byte 124) rest (Some n)) (le : from ≤ length bytes) where
    at-rest : (k : ℕ) → get_or rest k 0 ≡ get_or bytes (from + k) 0
    at-rest k = ap (λ l. get_or l k 0) is ∙ get_or-drop from bytes k 0

    pub pipe-within : from + n < length bytes
    pipe-within = omega (arith, first-within 124 rest n first, ap length is, length-drop from bytes, le)

    to-pipe : Passed bytes (from + n) (escaped_after bytes from n)
    to-pipe = walked n (omega (arith, pipe-within)) (λ k lt. ap (λ b. b == 124) (sym (at-rest k)) ∙ none-before 124 rest n first k lt)

    pub is-pipe : (get_or bytes (from + n) 0 == 124) ≡ true
    is-pipe = ap (λ b. b == 124) (sym (at-rest n)) ∙ first-is 124 rest n first

    -- up to a pipe that separates cells
    pub pipe-found : escaped_after bytes from n ≡ false → parts false bytes ≡ parts_at bytes (Some (from + n))
    pipe-found plain = passed-found bytes (from + n) (escaped_after bytes from n) to-pipe pipe-within (ap (λ b. b && not (escaped_after bytes from n)) is-pipe ∙ ap not plain)

    -- and past a pipe that does not
    pub pipe-passed : escaped_after bytes from n ≡ true → (now : ℕ) → now ≡ from + n + 1 → Passed bytes now false
    pipe-passed escaped now at =
        passed-more bytes (from + n) (escaped_after bytes from n) to-pipe pipe-within (ap (λ b. b && not (escaped_after bytes from n)) is-pipe ∙ ap not escaped) now at false (no-backslash (get_or bytes (from + n) 0) is-pipe)
      where
        no-backslash : (b : ℕ) → (b == 124) ≡ true → false ≡ (b == 92)
        no-backslash b e = ap (λ n. n == 92) (sym (eqb-true b 124 e))

  pub none-ahead : (rest : List ℕ) → rest ≡ drop from bytes → IsFirstByte (is_byte 124) rest None → from ≤ length bytes → parts false bytes ≡ parts_at bytes None
  none-ahead rest is none le =
      let n = length bytes - from in
      let all : from + n ≡ length bytes = omega (arith, le) in
      passed-all bytes (from + n) (escaped_after bytes from n)
      (walked n (omega (arith, le)) (λ k lt. ap (λ b. b == 124) (sym (ap (λ l. get_or l k 0) is ∙ get_or-drop from bytes k 0)) ∙ none-at-all 124 rest none k (omega (arith, ap length is, length-drop from bytes, lt)))) (omega (arith, all))

-- there is at least one part
pub some-parts : (escaped : Bool) (bs : List ℕ) → 0 < length (parts escaped bs)
some-parts escaped [] = omega arith
some-parts escaped (b ∷ bs) = go ((b == 124) && not escaped)
  where
    some_onto : (ps : List (List ℕ)) → 0 < length (onto b ps)
    some_onto [] = omega arith
    some_onto (p ∷ ps) = omega arith

    go : (z : Bool) → 0 < length (if z then [] ∷ parts false bs else onto b (parts (b == 92) bs))
    go true = omega arith
    go false = some_onto (parts (b == 92) bs)

-- a part with others after it is a cell
pub cell-first : (cell : List ℕ) (ps : List (List ℕ)) → 0 < length ps → without_blank_end (cell ∷ ps) ≡ cell ∷ without_blank_end ps
cell-first cell [] lt = absurd (omega (arith, lt))
cell-first cell (p ∷ ps) lt = refl

module _ (bytes : List ℕ) (at : ℕ) (found : parts false bytes ≡ parts_at bytes (Some at)) where
  pub found-cells : cells_after bytes ≡ take at bytes ∷ cells_after (drop (suc at) bytes)
  found-cells = ap without_blank_end found ∙ cell-first (take at bytes) (parts false (drop (suc at) bytes)) (some-parts false (drop (suc at) bytes))

  pub found-pipe : holds_pipe bytes ≡ true
  found-pipe = ap (λ ps. nat_lt 1 (length ps)) found ∙ more (length (parts false (drop (suc at) bytes))) (some-parts false (drop (suc at) bytes))
    where
      more : (n : ℕ) → 0 < n → nat_lt 1 (suc n) ≡ true
      more n lt = grind (arith)

module _ (bytes : List ℕ) (none : parts false bytes ≡ parts_at bytes None) where
  pub no-pipe : holds_pipe bytes ≡ false
  no-pipe = ap (λ ps. nat_lt 1 (length ps)) none

-- ## The columns of a delimiter row

abbrev pub counted : ℕ → Option (List grammar.Alignment) → Option ℕ
counted count more = option_map (λ l. count + length l) more

pub counted-none : (o : Option (List grammar.Alignment)) → counted 0 o ≡ option_map length o
counted-none None = refl
counted-none (Some l) = ap Some (let z : 0 + length l ≡ length l = omega arith in z)

counted-first : (count now : ℕ) (a : grammar.Alignment) (more : Option (List grammar.Alignment)) → now ≡ count + 1 → counted now more ≡ counted count (put_first (Some a) more)
counted-first count now a None is = refl
counted-first count now a (Some l) is = ap Some (let z : now + length l ≡ count + suc (length l) = omega (arith, is) in z)

module _ (row rest : List ℕ) (count : ℕ) (so : counted count (alignments (cells rest)) ≡ option_map length (alignments (cells row))) where
  module _ (n : ℕ) (first : IsFirstByte (is_byte 124) rest (Some n)) where
    cut : cells rest ≡ take n rest ∷ cells (drop (suc n) rest)
    cut = cells-more rest n (first-within 124 rest n first) (none-before 124 rest n first) (first-is 124 rest n first)

    pub next-counted : (now : ℕ) (a : grammar.Alignment) (following : List ℕ) → Some a ≡ alignment_of (trimmed (take n rest)) → now ≡ count + 1 → following ≡ drop (suc n) rest → counted now (alignments (cells following)) ≡ option_map length (alignments (cells row))
    next-counted now a following cell is at =
        ap (λ l. counted now (alignments (cells l))) at ∙ counted-first count now a (alignments (cells (drop (suc n) rest))) is
        ∙ ap (λ c. counted count (put_first c (alignments (cells (drop (suc n) rest))))) cell ∙ ap (λ l. counted count (alignments l)) (sym cut) ∙ so

    pub none-counted : None ≡ alignment_of (trimmed (take n rest)) → None ≡ option_map length (alignments (cells row))
    none-counted cell = ap (λ c. counted count (put_first c (alignments (cells (drop (suc n) rest))))) cell ∙ ap (λ l. counted count (alignments l)) (sym cut) ∙ so

  module _ (none : IsFirstByte (is_byte 124) rest None) where
    alone : cells rest ≡ rest ∷ []
    alone = cells-alone rest (none-at-all 124 rest none)

    pub last-counted : (now : ℕ) (a : grammar.Alignment) → Some a ≡ alignment_of (trimmed rest) → now ≡ count + 1 → Some now ≡ option_map length (alignments (cells row))
    last-counted now a cell is =
        ap Some (let z : now ≡ now + 0 = omega arith in z) ∙ counted-first count now a (Some []) is ∙ ap (λ c. counted count (put_first c (Some []))) cell ∙ ap (λ l. counted count (alignments l)) (sym alone) ∙ so

    pub none-last : None ≡ alignment_of (trimmed rest) → None ≡ option_map length (alignments (cells row))
    none-last cell = ap (λ c. counted count (put_first c (Some []))) cell ∙ ap (λ l. counted count (alignments l)) (sym alone) ∙ so
