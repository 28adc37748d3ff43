-- The info string of a code fence begins and ends at character boundaries: beside it are ASCII bytes, or the line's end.
use Rattle.std.proofs.Common.{◌≡◌, ⊎_elim, ℕ, zero, suc, ◌+◌, ◌<◌, ◌≤◌, Bool, true, false, ◌==◌, ◌&&◌, List, [], ◌∷◌, length, drop, take_while, get_or, Some, None, refl, sym, ap, ◌∙◌, subst, arith, length-drop}
use Rattle.std.proofs.Math.Nat.{eq-or-lt_of_le}
use Rattle.std.proofs.lemmas.List.{get_or-drop}
use Rattle.std.proofs.lemmas.List.Folds.{length-prefix_len}
use Rattle.std.proofs.lemmas.List.Sums.{prefix_len-le-length}
use Rattle.std.specs.Prelude.{if◌then◌else◌, nat_le, count_by}
use Rattle.std.specs.Str.{IsCharBoundary}
use Rattle.cmark_grammar.specs.Columns.{Column, indent, without_indent, is_blank_byte, put_before, drop_end, bytes_of}
use Rattle.cmark_grammar.specs.Rows.{Row, words_of, begin_of, start_of}
use Rattle.cmark_grammar.specs.Leaves.{run, trimmed, fence_with, fence_of}
use Rattle.cmark_block_model.proofs.RowPlaces.{Runs, drop-Runs}
use Rattle.cmark_block_model.proofs.RowEdges.{AreGood, Front, front-add, prefix-front, IsAsciiByte, run-front, blank-ascii, drop-good, start-E}
use Rattle.cmark_scan_lines.specs.LeafLines.{shown_fence, HasPlace}
use Rattle.cmark_scan_lines.specs.declared.leaf.CodeFence.{CodeFence}
use Rattle.cmark_line_rules.specs.Rests.{CutsNoCharacter}
use Rattle.cmark_line_rules.specs.Opened.{InfoStands}
use Rattle.cmark_line_rules.proofs.RestSteps.{runs-bytes}

-- the bytes that are dropped at an end pass the test
drop_end-stops : (p : ℕ → Bool) (bs : List ℕ) → (length (drop_end p bs) ≤ length bs) × (length (drop_end p bs) < length bs → p (get_or bs (length (drop_end p bs)) 0) ≡ true)
drop_end-stops p [] = (omega arith, λ lt. absurd (omega (arith, lt)))
drop_end-stops p (b ∷ bs) = go (drop_end p bs) (p b) refl (drop_end-stops p bs)
  where
    go : (ds : List ℕ) (z : Bool) → p b ≡ z → (length ds ≤ length bs) × (length ds < length bs → p (get_or bs (length ds) 0) ≡ true)
        → (length (put_before z b ds) ≤ length (b ∷ bs)) × (length (put_before z b ds) < length (b ∷ bs) → p (get_or (b ∷ bs) (length (put_before z b ds)) 0) ≡ true)
    go [] true e h = (omega arith, λ lt. e)
    go [] false e h = (omega arith, λ lt. h.1 (omega (arith, lt)))
    go (d ∷ ds) z e h = (omega (arith, h.0), λ lt. h.1 (omega (arith, lt)))

module _ (E : ℕ → Type 0) where
  -- both sides of an ASCII byte are character boundaries
  following-edge : (k from : ℕ) (cs : List Column) (to : ℕ) → Runs from cs to → AreGood E cs → k ≤ length (bytes_of cs) → Front IsAsciiByte k (bytes_of cs) → E from → E (from + k)
  following-edge k from [] to h g le f e = subst E (let s : from ≡ from + k = omega (arith, le) in s) e
  following-edge k from (c ∷ cs) to h g le f e = go (c.part == 0) refl k le f (λ m. following-edge m (suc c.at) cs to h.1 g.1)
    where
      go : (z : Bool) → (c.part == 0) ≡ z → (k : ℕ) → k ≤ length (if z then c.byte ∷ bytes_of cs else bytes_of cs) → Front IsAsciiByte k (if z then c.byte ∷ bytes_of cs else bytes_of cs)
          → ((m : ℕ) → m ≤ length (bytes_of cs) → Front IsAsciiByte m (bytes_of cs) → E (suc c.at) → E (suc c.at + m)) → E (from + k)
      go true q zero le f ih = subst E (let s : from ≡ from + 0 = omega arith in s) e
      go true q (suc m) le f ih =
          let p : c.at ≡ from = sym (ap (λ z. if z then c.at else suc c.at) q) ∙ h.0 in
          subst E (let s : suc c.at + m ≡ from + suc m = omega (arith, p) in s) (ih m (omega (arith, le)) f.1 (g.0.1 f.0).1)
      go false q k le f ih =
          let p : suc c.at ≡ from = sym (ap (λ z. if z then c.at else suc c.at) q) ∙ h.0 in
          subst (λ n. E (n + k)) p (ih k le f (subst E (sym p) e))

  before-edge : (k from : ℕ) (cs : List Column) (to : ℕ) → Runs from cs to → AreGood E cs → k < length (bytes_of cs) → get_or (bytes_of cs) k 0 < 128 → E (from + k)
  before-edge k from [] to h g lt ascii = absurd (omega (arith, lt))
  before-edge k from (c ∷ cs) to h g lt ascii = go (c.part == 0) refl k lt ascii (λ m. before-edge m (suc c.at) cs to h.1 g.1)
    where
      go : (z : Bool) → (c.part == 0) ≡ z → (k : ℕ) → k < length (if z then c.byte ∷ bytes_of cs else bytes_of cs) → get_or (if z then c.byte ∷ bytes_of cs else bytes_of cs) k 0 < 128
          → ((m : ℕ) → m < length (bytes_of cs) → get_or (bytes_of cs) m 0 < 128 → E (suc c.at + m)) → E (from + k)
      go true q zero lt ascii ih =
          let p : c.at ≡ from = sym (ap (λ z. if z then c.at else suc c.at) q) ∙ h.0 in
          subst E (let s : c.at ≡ from + 0 = omega (arith, p) in s) (g.0.1 ascii).0
      go true q (suc m) lt ascii ih =
          let p : c.at ≡ from = sym (ap (λ z. if z then c.at else suc c.at) q) ∙ h.0 in
          subst E (let s : suc c.at + m ≡ from + suc m = omega (arith, p) in s) (ih m (omega (arith, lt)) ascii)
      go false q k lt ascii ih =
          let p : suc c.at ≡ from = sym (ap (λ z. if z then c.at else suc c.at) q) ∙ h.0 in
          subst (λ n. E (n + k)) p (ih k lt ascii)

-- a fence is a run of an ASCII byte
fence-run : (indented : ℕ) (bs : List ℕ) (fence : CodeFence) → Some (shown_fence indented bs fence) ≡ fence_of indented bs → (fence.delimiter < 128) × (fence.run_length ≡ run fence.delimiter bs)
fence-run indented bs fence is = go (nat_le 3 (run 96 bs) && (count_by (λ c. c == 96) (drop (run 96 bs) bs) == 0)) (nat_le 3 (run 126 bs)) is
  where
    of : (b : ℕ) → b < 128 → shown_fence indented bs fence ≡ fence_with indented b bs → (fence.delimiter < 128) × (fence.run_length ≡ run fence.delimiter bs)
    of b lt e = let m : fence.delimiter ≡ b = ap (λ f. f.delimiter) e in (omega (arith, m, lt), ap (λ f. f.run_length) e ∙ ap (λ x. run x bs) (sym m))

    go : (x y : Bool) → Some (shown_fence indented bs fence) ≡ (if x then Some (fence_with indented 96 bs) else if y then Some (fence_with indented 126 bs) else None) → (fence.delimiter < 128) × (fence.run_length ≡ run fence.delimiter bs)
    go true y e = of 96 (omega arith) (let q : shown_fence indented bs fence ≡ fence_with indented 96 bs = cc in q)
    go false true e = of 126 (omega arith) (let q : shown_fence indented bs fence ≡ fence_with indented 126 bs = cc in q)
    go false false e = absurd (let q : Some (shown_fence indented bs fence) ≡ None = e in cc)

-- the info string of a line of a text is part of the text
pub info-stands : (text : List ℕ) (indented : ℕ) (bs : List ℕ) (r : Row) (fence : CodeFence) → words_of r ≡ bs → Some (shown_fence indented bs fence) ≡ fence_of indented bs → HasPlace bs fence → CutsNoCharacter text r → InfoStands text r fence
info-stands text indented bs r fence words is place g = (
  omega (arith, end),
  omega (arith, whole, ends, same),
  following-edge E fence.info_start (start_of r) cs r.content_end runs good (omega (arith, ends, same, end)) (subst (λ l. Front IsAsciiByte fence.info_start l) (sym words) front) (start-E E r g),
  ⊎_elim at_end before_end (eq-or-lt_of_le ends),
)
  where
    E : ℕ → Type 0
    E = IsCharBoundary text

    cs : List Column
    cs = without_indent r.columns

    ds : List ℕ
    ds = drop fence.run_length bs

    blanks : ℕ
    blanks = length (take_while is_blank_byte (drop fence.run_length bs))

    es : List ℕ
    es = drop (length (take_while is_blank_byte (drop fence.run_length bs))) (drop fence.run_length bs)

    runs : Runs (start_of r) (without_indent r.columns) r.content_end
    runs = (drop-Runs (indent r.columns) (begin_of r) r.columns r.content_end g.runs).0

    good : AreGood E (without_indent r.columns)
    good = drop-good E (indent r.columns) r.columns g.good

    whole : start_of r + length (bytes_of (without_indent r.columns)) ≡ r.content_end
    whole = runs-bytes (start_of r) (without_indent r.columns) r.content_end runs

    same : length (bytes_of (without_indent r.columns)) ≡ length bs
    same = ap length words

    start : fence.run_length + length (take_while is_blank_byte (drop fence.run_length bs)) ≡ fence.info_start
    start = ap (λ n. fence.run_length + n) (length-prefix_len is_blank_byte (drop fence.run_length bs)) ∙ sym place.0

    end : fence.info_end ≡ fence.info_start + length (trimmed (drop fence.run_length bs))
    end = place.1

    marks : (fence.delimiter < 128) × (fence.run_length ≡ run fence.delimiter bs)
    marks = fence-run indented bs fence is

    front : Front IsAsciiByte fence.info_start bs
    front =
        subst (λ n. Front IsAsciiByte n bs) start
        (front-add IsAsciiByte fence.run_length blanks bs (subst (λ n. Front IsAsciiByte n bs) (sym marks.1) (run-front fence.delimiter bs marks.0)) (prefix-front is_blank_byte IsAsciiByte blank-ascii (drop fence.run_length bs)))

    stops : (length (trimmed (drop fence.run_length bs)) ≤ length es) × (length (trimmed (drop fence.run_length bs)) < length es → is_blank_byte (get_or es (length (trimmed (drop fence.run_length bs))) 0) ≡ true)
    stops = drop_end-stops is_blank_byte es

    left : fence.info_start + length es ≡ length bs
    left =
        let a = length-drop fence.run_length bs in
        let b = length-drop blanks (drop fence.run_length bs) in
        let c = length-prefix_len (λ x. x == fence.delimiter) bs in
        let d = prefix_len-le-length (λ x. x == fence.delimiter) bs in
        let e = length-prefix_len is_blank_byte (drop fence.run_length bs) in
        let f = prefix_len-le-length is_blank_byte (drop fence.run_length bs) in
        omega (arith, a, b, c, d, e, f, start, marks.1)

    ends : fence.info_end ≤ length bs
    ends = omega (arith, end, stops.0, left)

    at_end : fence.info_end ≡ length bs → E (start_of r + fence.info_end)
    at_end e = subst E (let s : r.content_end ≡ start_of r + fence.info_end = omega (arith, whole, same, e) in s) g.content_end

    before_end : fence.info_end < length bs → E (start_of r + fence.info_end)
    before_end lt =
        let n : ℕ = length (trimmed (drop fence.run_length bs)) in
        let blank = stops.1 (omega (arith, lt, end, left)) in
        let at : get_or es n 0 ≡ get_or bs fence.info_end 0 =
        get_or-drop blanks (drop fence.run_length bs) n 0 ∙ get_or-drop fence.run_length bs (blanks + n) 0 ∙ ap (λ k. get_or bs k 0) (let s : fence.run_length + (blanks + n) ≡ fence.info_end = omega (arith, start, end) in s)
        in
        let ascii : get_or bs fence.info_end 0 < 128 = subst (λ b. b < 128) at (blank-ascii (get_or es n 0) blank) in
        before-edge E fence.info_end (start_of r) (without_indent r.columns) r.content_end runs good (omega (arith, lt, same)) (subst (λ l. get_or l fence.info_end 0 < 128) (sym words) ascii)
