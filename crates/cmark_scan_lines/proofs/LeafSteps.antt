-- Thematic breaks and fences, as they are looked for.
use Rattle.std.proofs.Common.{◌≡◌, ◌≢◌, ℕ, zero, suc, ◌+◌, ◌-◌, ◌<◌, ◌≤◌, Bool, true, false, cond, ◌==◌, ◌&&◌, ◌||◌, nat_le, nat_lt, List, [], ◌∷◌, length, take, drop, get_or, Option, Some, None, refl, sym, ap, ◌∙◌, arith, eqb-true, eq-eqb, ne_eqb, true≢false, not, length-drop}
use Rattle.std.specs.Prelude.{count_by, is_some, if◌then◌else◌, slice_range}
use Rattle.std.proofs.lemmas.Bool.{le-leb, ltb-false}
use Rattle.std.proofs.lemmas.List.{drop-drop, get_or-drop}
use Rattle.std.proofs.lemmas.List.Quantifiers.{position-Some}
use Rattle.std.proofs.lemmas.List.Folds.{length-prefix_len}
use Rattle.std.specs.List.{prefix_len, position, position_or_len}
use Rattle.std.proofs.lemmas.List.Sums.{sum_by-cons, fails_before_first}
use Rattle.memchr.specs.Find.{IsFirstByte, is_byte}
use Rattle.cmark_grammar.specs.Columns.{is_blank_byte, put_before, drop_end}
use Rattle.cmark_grammar.specs.Leaves.{all_pass, run, trimmed, fence_with, is_break_of, is_thematic_break}
use Rattle.cmark_scan_lines.specs.LeafLines.{is_break_character, stops_break, long_fence, backtick_fence}

pub all_pass-each : (p : ℕ → Bool) (bs : List ℕ) → ((k : ℕ) → k < length bs → p (get_or bs k 0) ≡ true) → all_pass p bs ≡ true
all_pass-each p [] each = refl
all_pass-each p (b ∷ bs) each = rw (each 0 (omega arith)) (all_pass-each p bs (λ k lt. each (suc k) (omega arith)))

pub all_pass-fails : (p : ℕ → Bool) (bs : List ℕ) (k : ℕ) → k < length bs → p (get_or bs k 0) ≡ false → all_pass p bs ≡ false
all_pass-fails p [] k lt e = absurd (omega arith)
all_pass-fails p (b ∷ bs) zero lt e = rw e refl
all_pass-fails p (b ∷ bs) (suc k) lt e = rw (all_pass-fails p bs k (omega arith) e) (off (p b))
  where
    off : (z : Bool) → (z && false) ≡ false
    off true = refl
    off false = refl

and-false : (z : Bool) → (z && false) ≡ false
and-false true = refl
and-false false = refl

pub break-fails : (character : ℕ) (bs : List ℕ) (k : ℕ) → k < length bs → ((get_or bs k 0 == character) || is_blank_byte (get_or bs k 0)) ≡ false → false ≡ is_break_of character bs
break-fails character bs k lt e = sym (ap (λ t. nat_le 3 (count_by (λ c. c == character) bs) && t) (all_pass-fails (λ c. (c == character) || is_blank_byte c) bs k lt e) ∙ and-false _)

pub break-passes : (character : ℕ) (bs : List ℕ) (n : ℕ) → n ≡ count_by (λ c. c == character) bs → ((k : ℕ) → k < length bs → ((get_or bs k 0 == character) || is_blank_byte (get_or bs k 0)) ≡ true) → nat_le 3 n ≡ is_break_of character bs
break-passes character bs n is each =
    ap (nat_le 3) is ∙ and-true _ ∙ ap (λ t. nat_le 3 (count_by (λ c. c == character) bs) && t) (sym (all_pass-each (λ c. (c == character) || is_blank_byte c) bs each))
  where
    and-true : (z : Bool) → z ≡ (z && true)
    and-true true = refl
    and-true false = refl

count_by-cons : (p : ℕ → Bool) (b : ℕ) (bs : List ℕ) → count_by p (b ∷ bs) ≡ cond (p b) 1 0 + count_by p bs
count_by-cons p b bs = sum_by-cons (λ x. cond (p x) 1 0) b bs

-- blanks at the beginning change nothing
break-blank : (character b : ℕ) (bs : List ℕ) → is_blank_byte character ≡ false → is_blank_byte b ≡ true → is_break_of character (b ∷ bs) ≡ is_break_of character bs
break-blank character b bs no_blank blank =
    let other : (b == character) ≡ false = ne_eqb b character (λ same. true≢false (sym blank ∙ ap is_blank_byte same ∙ no_blank)) in
    ap (λ n. nat_le 3 n && (((b == character) || is_blank_byte b) && all_pass (λ c. (c == character) || is_blank_byte c) bs)) (count_by-cons (λ c. c == character) b bs)
    ∙ ap (λ t. nat_le 3 (cond t 1 0 + count_by (λ c. c == character) bs) && ((t || is_blank_byte b) && all_pass (λ c. (c == character) || is_blank_byte c) bs)) other
    ∙ ap (λ t. nat_le 3 (0 + count_by (λ c. c == character) bs) && (t && all_pass (λ c. (c == character) || is_blank_byte c) bs)) blank
    ∙ ap (λ n. nat_le 3 n && all_pass (λ c. (c == character) || is_blank_byte c) bs) (let e : 0 + count_by (λ c. c == character) bs ≡ count_by (λ c. c == character) bs = omega arith in e)

break-following : (character : ℕ) (bs : List ℕ) → is_blank_byte character ≡ false → is_break_of character bs ≡ is_break_of character (drop (prefix_len is_blank_byte bs) bs)
break-following character [] no_blank = refl
break-following character (b ∷ bs) no_blank = go (is_blank_byte b) refl (break-following character bs no_blank)
  where
    go : (z : Bool) → is_blank_byte b ≡ z → is_break_of character bs ≡ is_break_of character (drop (prefix_len is_blank_byte bs) bs) → is_break_of character (b ∷ bs) ≡ is_break_of character (drop (cond z (1 + prefix_len is_blank_byte bs) 0) (b ∷ bs))
    go true e ih = break-blank character b bs no_blank e ∙ ih ∙ ap (λ n. is_break_of character (drop n (b ∷ bs))) (let s : suc (prefix_len is_blank_byte bs) ≡ 1 + prefix_len is_blank_byte bs = omega arith in s)
    go false e ih = refl

break-rest : (bs rest : List ℕ) → rest ≡ drop (prefix_len is_blank_byte bs) bs → is_thematic_break bs ≡ is_thematic_break rest
break-rest bs rest is =
    ap (λ t. t || (is_break_of 45 bs || is_break_of 95 bs)) (break-following 42 bs refl) ∙ ap (λ t. is_break_of 42 (drop (prefix_len is_blank_byte bs) bs) || (t || is_break_of 95 bs)) (break-following 45 bs refl)
    ∙ ap (λ t. is_break_of 42 (drop (prefix_len is_blank_byte bs) bs) || (is_break_of 45 (drop (prefix_len is_blank_byte bs) bs) || t)) (break-following 95 bs refl)
    ∙ ap is_thematic_break (sym is)

break-other : (character b : ℕ) (bs : List ℕ) → is_blank_byte b ≡ false → b ≢ character → is_break_of character (b ∷ bs) ≡ false
break-other character b bs no_blank ne = sym (break-fails character (b ∷ bs) 0 (omega arith) (rw (ne_eqb b character ne) no_blank))

-- the first byte tells which of them it can be
break-first : (b : ℕ) (bs : List ℕ) → is_blank_byte b ≡ false → (is_break_character b && is_break_of b (b ∷ bs)) ≡ is_thematic_break (b ∷ bs)
break-first b bs no_blank = go (b == 42) refl (b == 45) refl (b == 95) refl
  where
    or-false : (z : Bool) → z ≡ (z || false)
    or-false true = refl
    or-false false = refl

    apart : (b k : ℕ) → (b == k) ≡ false → b ≢ k
    apart b k e same = true≢false (sym (eq-eqb b k same) ∙ e)

    go : (x : Bool) → (b == 42) ≡ x → (y : Bool) → (b == 45) ≡ y → (z : Bool) → (b == 95) ≡ z → ((x || (y || z)) && is_break_of b (b ∷ bs)) ≡ is_thematic_break (b ∷ bs)
    go true e y f z g =
        let is = eqb-true b 42 e in
        ap (λ m. is_break_of m (b ∷ bs)) is ∙ or-false _
        ∙ ap (λ t. is_break_of 42 (b ∷ bs) || t) (sym (ap (λ t. t || is_break_of 95 (b ∷ bs)) (break-other 45 b bs no_blank (λ q. absurd (omega arith))) ∙ break-other 95 b bs no_blank (λ q. absurd (omega arith))))
    go false e true f z g =
        let is = eqb-true b 45 f in
        ap (λ m. is_break_of m (b ∷ bs)) is ∙ or-false _
        ∙ ap (λ t. is_break_of 45 (b ∷ bs) || t) (sym (break-other 95 b bs no_blank (λ q. absurd (omega arith))))
        ∙ sym (ap (λ t. t || (is_break_of 45 (b ∷ bs) || is_break_of 95 (b ∷ bs))) (break-other 42 b bs no_blank (apart b 42 e)))
    go false e false f true g =
        let is = eqb-true b 95 g in
        ap (λ m. is_break_of m (b ∷ bs)) is
        ∙ sym (ap (λ t. t || (is_break_of 45 (b ∷ bs) || is_break_of 95 (b ∷ bs))) (break-other 42 b bs no_blank (apart b 42 e)) ∙ ap (λ t. t || is_break_of 95 (b ∷ bs)) (break-other 45 b bs no_blank (apart b 45 f)))
    go false e false f false g =
        sym (ap (λ t. t || (is_break_of 45 (b ∷ bs) || is_break_of 95 (b ∷ bs))) (break-other 42 b bs no_blank (apart b 42 e)) ∙ ap (λ t. t || is_break_of 95 (b ∷ bs)) (break-other 45 b bs no_blank (apart b 45 f)) ∙ break-other 95 b bs no_blank (apart b 95 g))

-- after the blanks at the beginning comes no blank
no_blank-following : (bs : List ℕ) (b : ℕ) (cs : List ℕ) → drop (prefix_len is_blank_byte bs) bs ≡ b ∷ cs → is_blank_byte b ≡ false
no_blank-following [] b cs e = let q : [] ≡ b ∷ cs = e in absurd (cc)
no_blank-following (a ∷ bs) b cs e = go (is_blank_byte a) refl e (no_blank-following bs b cs)
  where
    go : (z : Bool) → is_blank_byte a ≡ z → drop (cond z (1 + prefix_len is_blank_byte bs) 0) (a ∷ bs) ≡ b ∷ cs → (drop (prefix_len is_blank_byte bs) bs ≡ b ∷ cs → is_blank_byte b ≡ false) → is_blank_byte b ≡ false
    go true f e ih = ih (ap (λ n. drop n (a ∷ bs)) (let s : suc (prefix_len is_blank_byte bs) ≡ 1 + prefix_len is_blank_byte bs = omega arith in s) ∙ e)
    go false f e ih = let q : a ≡ b = cc in ap is_blank_byte (sym q) ∙ f

pub break-none : (bs rest : List ℕ) → rest ≡ drop (prefix_len is_blank_byte bs) bs → length rest < 1 → false ≡ is_thematic_break bs
break-none bs [] is lt = sym (break-rest bs [] is)
break-none bs (b ∷ rest) is lt = absurd (omega arith)

break-some : (bs rest : List ℕ) → rest ≡ drop (prefix_len is_blank_byte bs) bs → 1 ≤ length rest → (is_break_character (get_or rest 0 0) && is_break_of (get_or rest 0 0) rest) ≡ is_thematic_break bs
break-some bs [] is some = absurd (omega arith)
break-some bs (b ∷ rest) is some = break-first b rest (no_blank-following bs b rest (sym is)) ∙ sym (break-rest bs (b ∷ rest) is)

pub break-yes : (bs rest : List ℕ) → rest ≡ drop (prefix_len is_blank_byte bs) bs → 1 ≤ length rest → true ≡ is_break_character (get_or rest 0 0) → is_break_of (get_or rest 0 0) rest ≡ is_thematic_break bs
break-yes bs rest is some holds = ap (λ t. t && is_break_of (get_or rest 0 0) rest) holds ∙ break-some bs rest is some

pub break-no : (bs rest : List ℕ) → rest ≡ drop (prefix_len is_blank_byte bs) bs → 1 ≤ length rest → false ≡ is_break_character (get_or rest 0 0) → false ≡ is_thematic_break bs
break-no bs rest is some fails = ap (λ t. t && is_break_of (get_or rest 0 0) rest) fails ∙ break-some bs rest is some

-- a byte that is not found does not occur
count-none : (p : ℕ → Bool) (bs : List ℕ) → ((k : ℕ) → k < length bs → p (get_or bs k 0) ≡ true → ⊥) → count_by p bs ≡ 0
count-none p [] none = refl
count-none p (b ∷ bs) none = count_by-cons p b bs ∙ go (p b) refl (count-none p bs (λ k lt e. none (suc k) (omega arith) e))
  where
    go : (z : Bool) → p b ≡ z → count_by p bs ≡ 0 → cond z 1 0 + count_by p bs ≡ 0
    go true e ih = absurd (none 0 (omega arith) e)
    go false e ih = omega arith

count-some : (p : ℕ → Bool) (bs : List ℕ) (k : ℕ) → k < length bs → p (get_or bs k 0) ≡ true → 0 < count_by p bs
count-some p [] k lt e = absurd (omega arith)
count-some p (b ∷ bs) zero lt e = let s = count_by-cons p b bs in let c : ◌≡◌ {A = ℕ} (cond {A = ℕ} (p b) 1 0) 1 = ap (λ t. cond {A = ℕ} t 1 0) e in omega arith
count-some p (b ∷ bs) (suc k) lt e = let s = count_by-cons p b bs in let ih = count-some p bs k (omega arith) e in omega arith

pub count-found : (character : ℕ) (bs : List ℕ) (found : Option ℕ) → IsFirstByte (is_byte character) bs found → (count_by (λ c. c == character) bs == 0) ≡ cond (is_some found) false true
count-found character bs None none = eq-eqb _ 0 (count-none (λ c. c == character) bs (λ k lt e. none k (omega arith) lt e))
count-found character bs (Some n) some = ne_eqb _ 0 (λ z. let h = count-some (λ c. c == character) bs n (let q = some.0.high in omega arith) some.1 in absurd (omega arith))

-- a fence, and its info string by its place
range-is : (bs cs : List ℕ) (size blanks : ℕ) → cs ≡ drop size bs → blanks ≡ prefix_len is_blank_byte cs → slice_range bs (size + blanks) (size + blanks + length (trimmed cs)) ≡ trimmed cs
range-is bs cs size blanks is blank =
    ap (λ n. take n (drop (size + blanks) bs)) (let e : size + blanks + length (trimmed cs) - (size + blanks) ≡ length (trimmed cs) = omega arith in e)
    ∙ ap (take (length (trimmed cs))) (sym (drop-drop blanks size bs) ∙ ap (drop blanks) (sym is) ∙ ap (λ n. drop n cs) (blank ∙ sym (length-prefix_len is_blank_byte cs)))
    ∙ front-of-drop_end is_blank_byte (drop (length (take (prefix_len is_blank_byte cs) cs)) cs)
  where
    put-front : (q : ℕ → Bool) (x : ℕ) (xs ys : List ℕ) → take (length ys) xs ≡ ys → take (length (put_before (q x) x ys)) (x ∷ xs) ≡ put_before (q x) x ys
    put-front q x xs [] e = go (q x)
      where
        go : (z : Bool) → take (length (put_before z x [])) (x ∷ xs) ≡ put_before z x []
        go true = refl
        go false = refl
    put-front q x xs (y ∷ ys) e = ap (λ l. x ∷ l) e

    front-of-drop_end : (q : ℕ → Bool) (xs : List ℕ) → take (length (drop_end q xs)) xs ≡ drop_end q xs
    front-of-drop_end q [] = refl
    front-of-drop_end q (x ∷ xs) = put-front q x xs (drop_end q xs) (front-of-drop_end q xs)

pub fence-found : (indent delimiter size blanks : ℕ) (bs cs ds : List ℕ) → size ≡ run delimiter bs → 3 ≤ size → cs ≡ drop size bs → blanks ≡ prefix_len is_blank_byte cs → ds ≡ trimmed cs
    → Some (record { indented = indent; delimiter = delimiter; run_length = size; info = slice_range bs (size + blanks) (size + blanks + length ds) }) ≡ long_fence indent delimiter bs
fence-found indent delimiter size blanks bs cs ds is many rest blank info =
    ap (λ l. Some (record { indented = indent; delimiter = delimiter; run_length = size; info = l }))
    (ap (λ l. slice_range bs (size + blanks) (size + blanks + length l)) info ∙ range-is bs cs size blanks rest blank ∙ ap trimmed rest)
    ∙ ap (λ n. Some (record { indented = indent; delimiter = delimiter; run_length = n; info = trimmed (drop n bs) })) is
    ∙ sym (ap (λ t. if t then Some (fence_with indent delimiter bs) else None) (le-leb 3 (run delimiter bs) (omega arith)))

pub backticks-found : (indent : ℕ) (bs : List ℕ) (size : ℕ) (cs : List ℕ) (found : Option ℕ) → size ≡ run 96 bs → cs ≡ drop size bs → IsFirstByte (is_byte 96) cs found → is_some found ≡ false → long_fence indent 96 bs ≡ backtick_fence indent bs
backticks-found indent bs size cs found is rest first none =
    ap (λ t. if t then Some (fence_with indent 96 bs) else None)
    (and-true (nat_le 3 (run 96 bs)) ∙ ap (λ t. nat_le 3 (run 96 bs) && t) (sym (ap (λ l. count_by (λ c. c == 96) l == 0) (sym (rest ∙ ap (λ n. drop n bs) is)) ∙ count-found 96 cs found first ∙ ap (λ t. cond t false true) none)))
  where
    and-true : (z : Bool) → z ≡ (z && true)
    and-true true = refl
    and-true false = refl

-- a byte that is neither a break's nor a blank stops it
pub stop-known : (character : ℕ) (bs : List ℕ) (taken stop : ℕ) → taken ≤ stop → stop < length bs → (get_or bs stop 0 == character) ≡ false → is_blank_byte (get_or bs stop 0) ≡ false → is_break_of character (drop taken bs) ≡ false
stop-known character bs taken stop le lt other no_blank =
    let at : get_or (drop taken bs) (stop - taken) 0 ≡ get_or bs stop 0 = get_or-drop taken bs (stop - taken) 0 ∙ ap (λ n. get_or bs n 0) (let e : taken + (stop - taken) ≡ stop = omega arith in e) in
    sym (break-fails character (drop taken bs) (stop - taken) (let l = length-drop taken bs in omega arith)
    (ap (λ t. t || is_blank_byte (get_or (drop taken bs) (stop - taken) 0)) (ap (λ b. b == character) at ∙ other) ∙ ap is_blank_byte at ∙ no_blank))

pub stop-found : (character : ℕ) (bs : List ℕ) (n : ℕ) → Some n ≡ position (stops_break character) bs → (n < length bs) × (is_blank_byte (get_or bs n 0) ≡ false) × ((get_or bs n 0 == character) ≡ false)
stop-found character bs n is =
    let found = position-Some (stops_break character) bs n 0 (sym is) in
    let apart = neither (get_or bs n 0 == character) (is_blank_byte (get_or bs n 0)) found.1 in
    (found.0, apart.1, apart.0)
  where
    neither : (x y : Bool) → not (x || y) ≡ true → (x ≡ false) × (y ≡ false)
    neither true y e = absurd (true≢false (sym e))
    neither false true e = absurd (true≢false (sym e))
    neither false false e = (refl, refl)

-- after some bytes, if no blank comes first
pub break-here : (bs : List ℕ) (taken character : ℕ) → taken < length bs → character ≡ get_or bs taken 0 → is_blank_byte (get_or (drop taken bs) 0 0) ≡ false → (is_break_character character && is_break_of character (drop taken bs)) ≡ is_thematic_break (drop taken bs)
break-here bs taken character lt is no_blank =
    first (drop taken bs) (let l = length-drop taken bs in omega arith) (is ∙ sym (get_or-drop taken bs 0 0 ∙ ap (λ n. get_or bs n 0) (let e : taken + 0 ≡ taken = omega arith in e))) no_blank
  where
    first : (cs : List ℕ) → 0 < length cs → character ≡ get_or cs 0 0 → is_blank_byte (get_or cs 0 0) ≡ false → (is_break_character character && is_break_of character cs) ≡ is_thematic_break cs
    first [] some is no_blank = absurd (omega arith)
    first (c ∷ cs) some is no_blank = ap (λ m. is_break_character m && is_break_of m (c ∷ cs)) is ∙ break-first c cs no_blank

cond-none : (b : Bool) (n : ℕ) → cond b (Some n) None ≡ None → b ≡ false
cond-none true n e = cc
cond-none false n e = refl

none-passes : (p : ℕ → Bool) (bs : List ℕ) → None ≡ position p bs → (k : ℕ) → k < length bs → p (get_or bs k 0) ≡ false
none-passes p bs is k below =
    let line_end : length bs ≤ position_or_len p bs = ltb-false (position_or_len p bs) (length bs) (cond-none (nat_lt (position_or_len p bs) (length bs)) (position_or_len p bs) (sym is)) in
    fails_before_first p bs k 0 (omega arith)

-- if there is no stop, all bytes are the character or blanks
pub no-stop : (character : ℕ) (bs : List ℕ) → None ≡ position (stops_break character) bs → all_pass (λ c. (c == character) || is_blank_byte c) bs ≡ true
no-stop character bs is = all_pass-each (λ c. (c == character) || is_blank_byte c) bs (λ k lt. on _ (none-passes (stops_break character) bs is k lt))
  where
    on : (z : Bool) → not z ≡ false → z ≡ true
    on true e = refl
    on false e = absurd (true≢false e)

-- and one that was found is known from then on
pub stop-learned : (bs : List ℕ) (taken size character : ℕ) → size < length (drop taken bs) → (get_or (drop taken bs) size 0 == character) ≡ false → (nat_le taken (taken + size) && (nat_lt (taken + size) (length bs) && not (get_or bs (taken + size) 0 == character))) ≡ true
stop-learned bs taken size character lt other =
    ap (λ t. t && (nat_lt (taken + size) (length bs) && not (get_or bs (taken + size) 0 == character))) (le-leb taken (taken + size) (omega arith))
    ∙ ap (λ t. t && not (get_or bs (taken + size) 0 == character)) (le-leb (suc (taken + size)) (length bs) (let l = length-drop taken bs in omega arith))
    ∙ ap not (ap (λ b. b == character) (sym (get_or-drop taken bs size 0)) ∙ other)

pub character-here : (bs : List ℕ) (taken b character : ℕ) → b ≡ get_or bs taken 0 → get_or (drop taken bs) 0 0 ≡ character → b ≡ character
character-here bs taken b character is e = is ∙ ap (λ n. get_or bs n 0) (let s : taken ≡ taken + 0 = omega arith in s) ∙ sym (get_or-drop taken bs 0 0) ∙ e
