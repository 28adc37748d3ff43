-- The first line of some bytes.
use Rattle.std.proofs.Common.{◌≡◌, ℕ, suc, ◌+◌, ◌<◌, ◌≤◌, Bool, true, false, ◌==◌, ◌&&◌, ◌||◌, not, cond, List, [], ◌∷◌, length, take, drop, refl, sym, ap, ◌∙◌, subst, arith, eqb-true, length-take, length-drop, drop-drop}
use Rattle.std.specs.Prelude.{if◌then◌else◌}
use Rattle.std.specs.List.{prefix_len}
use Rattle.std.proofs.lemmas.List.Sums.{take_while-cons, prefix_len-le-length}
use Rattle.std.proofs.lemmas.List.Folds.{length-prefix_len}
use Rattle.cmark_grammar.specs.Lines.{lines, onto, ends_line, begins_with_line_feed, is_content, content, ending_len}
use Rattle.cmark_grammar.specs.Columns.{expand}
use Rattle.cmark_grammar.specs.Rows.{rows_from}

-- how many bytes the first line has without its line ending, and with it
abbrev pub content_len : List ℕ → ℕ
content_len bs = prefix_len is_content bs

abbrev pub line_len : List ℕ → ℕ
line_len bs = content_len bs + ending_len (drop (content_len bs) bs)

-- a byte goes onto the line, or ends it
data Role (b : ℕ) : Type 0 where
  inside : is_content b ≡ true → ((bs : List ℕ) → ends_line b bs ≡ false) → Role b
  feed : b ≡ 10 → Role b
  return : b ≡ 13 → Role b

role : (b : ℕ) → Role b
role b = go (b == 10) refl (b == 13) refl
  where
    go : (p : Bool) → (b == 10) ≡ p → (q : Bool) → (b == 13) ≡ q → Role b
    go true e q f = feed (eqb-true b 10 e)
    go false e true f = return (eqb-true b 13 f)
    go false e false f = inside (rw (e, f) refl) (λ bs. rw (e, f) refl)

one_more : (k e : ℕ) → (1 + k) + e ≡ suc (k + e)
one_more k e = omega arith

line_len-inside : (b : ℕ) (bs : List ℕ) → is_content b ≡ true → line_len (b ∷ bs) ≡ suc (line_len bs)
line_len-inside b bs e =
    ap (λ t. cond t (1 + content_len bs) 0 + ending_len (drop (cond t (1 + content_len bs) 0) (b ∷ bs))) e
    ∙ ap (λ k. (1 + content_len bs) + ending_len (drop k (b ∷ bs))) (let s : 1 + content_len bs ≡ suc (content_len bs) = omega arith in s)
    ∙ one_more (content_len bs) (ending_len (drop (content_len bs) bs))

abbrev FirstOf : List ℕ → Type 0
FirstOf bs = lines bs ≡ take (line_len bs) bs ∷ lines (drop (line_len bs) bs)

first_inside : (b : ℕ) (bs : List ℕ) → is_content b ≡ true → ends_line b bs ≡ false → onto b (lines bs) ≡ (b ∷ take (line_len bs) bs) ∷ lines (drop (line_len bs) bs) → FirstOf (b ∷ bs)
first_inside b bs e f h =
    ap (λ p. if p then (b ∷ []) ∷ lines bs else onto b (lines bs)) f ∙ h ∙ ap (λ n. take n (b ∷ bs) ∷ lines (drop n (b ∷ bs))) (sym (line_len-inside b bs e))

-- the first line, and the lines after it
lines-first : (b : ℕ) (bs : List ℕ) → FirstOf (b ∷ bs)
lines-first b [] = go (role b)
  where
    go : Role b → FirstOf (b ∷ [])
    go (inside e f) = first_inside b [] e (f []) refl
    go (feed e) = subst (λ x. FirstOf (x ∷ [])) (sym e) refl
    go (return e) = subst (λ x. FirstOf (x ∷ [])) (sym e) refl
lines-first b (c ∷ cs) = go (role b) (lines-first c cs)
  where
    pair : (p : Bool) → (c == 10) ≡ p → FirstOf (13 ∷ (c ∷ cs))
    pair true e = subst (λ x. FirstOf (13 ∷ (x ∷ cs))) (sym (eqb-true c 10 e)) refl
    pair false e =
        ap (λ p. if (false || (true && not p)) then (13 ∷ []) ∷ lines (c ∷ cs) else onto 13 (lines (c ∷ cs))) e
        ∙ ap (λ p. take (0 + (if true && p then 2 else 1)) (13 ∷ (c ∷ cs)) ∷ lines (drop (0 + (if true && p then 2 else 1)) (13 ∷ (c ∷ cs)))) (sym e)

    go : Role b → FirstOf (c ∷ cs) → FirstOf (b ∷ (c ∷ cs))
    go (inside e f) ih = first_inside b (c ∷ cs) e (f (c ∷ cs)) (ap (onto b) ih)
    go (feed e) ih = subst (λ x. FirstOf (x ∷ (c ∷ cs))) (sym e) refl
    go (return e) ih = subst (λ x. FirstOf (x ∷ (c ∷ cs))) (sym e) (pair (c == 10) refl)

content-cons : (b : ℕ) (bs : List ℕ) → is_content b ≡ true → content (b ∷ bs) ≡ b ∷ content bs
content-cons b bs e = take_while-cons is_content b bs ∙ ap (λ p. cond p (b ∷ content bs) []) e

content-line : (bs : List ℕ) → content (take (line_len bs) bs) ≡ content bs
content-line [] = refl
content-line (b ∷ bs) = go (role b) (content-line bs)
  where
    go : Role b → content (take (line_len bs) bs) ≡ content bs → content (take (line_len (b ∷ bs)) (b ∷ bs)) ≡ content (b ∷ bs)
    go (inside e f) ih =
        ap (λ n. content (take n (b ∷ bs))) (line_len-inside b bs e) ∙ content-cons b (take (line_len bs) bs) e ∙ ap (λ l. b ∷ l) ih ∙ sym (content-cons b bs e)
    go (feed e) ih = subst (λ x. content (take (line_len (x ∷ bs)) (x ∷ bs)) ≡ content (x ∷ bs)) (sym e) refl
    go (return e) ih = subst (λ x. content (take (line_len (x ∷ bs)) (x ∷ bs)) ≡ content (x ∷ bs)) (sym e) (two (begins_with_line_feed bs))
      where
        two : (p : Bool) → content (take (0 + (if p then 2 else 1)) (13 ∷ bs)) ≡ content (13 ∷ bs)
        two true = refl
        two false = refl

ending_len_le : (bs : List ℕ) → ending_len bs ≤ length bs
ending_len_le [] = omega arith
ending_len_le (b ∷ []) = go (b == 13)
  where
    go : (p : Bool) → (if p && false then 2 else 1) ≤ 1
    go true = omega arith
    go false = omega arith
ending_len_le (b ∷ c ∷ cs) = go ((b == 13) && (c == 10))
  where
    go : (p : Bool) → (if p then 2 else 1) ≤ suc (suc (length cs))
    go true = omega arith
    go false = omega arith

line_len_le : (bs : List ℕ) → line_len bs ≤ length bs
line_len_le bs =
    let k = prefix_len-le-length is_content bs in
    let e = ending_len_le (drop (content_len bs) bs) in
    let l = length-drop (content_len bs) bs in
    omega arith

length-content : (bs : List ℕ) → length (content bs) ≡ content_len bs
length-content bs = length-prefix_len is_content bs

rows_at : (b : ℕ) (bs rest : List ℕ) (at k e : ℕ) → k ≡ content_len (b ∷ bs) → e ≡ ending_len (drop k (b ∷ bs)) → rest ≡ drop (k + e) (b ∷ bs)
    → rows_from at (lines (b ∷ bs)) ≡ record { columns = expand 0 at (take k (b ∷ bs)); at = at; content_end = at + k; line_end = at + k + e; lazy = false; held = false } ∷ rows_from (at + k + e) (lines rest)
rows_at b bs rest at k e is_k is_e is_rest =
    ap (rows_from at) (lines-first b bs)
    ∙ ap (λ l. record { columns = expand 0 at l; at = at; content_end = at + length l; line_end = at + length (take (line_len (b ∷ bs)) (b ∷ bs)); lazy = false; held = false } ∷ rows_from (at + length (take (line_len (b ∷ bs)) (b ∷ bs))) (lines (drop (line_len (b ∷ bs)) (b ∷ bs)))) (content-line (b ∷ bs))
    ∙ ap (λ n. record { columns = expand 0 at (content (b ∷ bs)); at = at; content_end = at + n; line_end = at + length (take (line_len (b ∷ bs)) (b ∷ bs)); lazy = false; held = false } ∷ rows_from (at + length (take (line_len (b ∷ bs)) (b ∷ bs))) (lines (drop (line_len (b ∷ bs)) (b ∷ bs)))) (length-content (b ∷ bs) ∙ sym is_k)
    ∙ ap (λ n. record { columns = expand 0 at (take n (b ∷ bs)); at = at; content_end = at + k; line_end = at + length (take (line_len (b ∷ bs)) (b ∷ bs)); lazy = false; held = false } ∷ rows_from (at + length (take (line_len (b ∷ bs)) (b ∷ bs))) (lines (drop (line_len (b ∷ bs)) (b ∷ bs)))) (sym is_k)
    ∙ ap (λ n. record { columns = expand 0 at (take k (b ∷ bs)); at = at; content_end = at + k; line_end = n; lazy = false; held = false } ∷ rows_from n (lines (drop (line_len (b ∷ bs)) (b ∷ bs)))) line_end
    ∙ ap (λ l. record { columns = expand 0 at (take k (b ∷ bs)); at = at; content_end = at + k; line_end = at + k + e; lazy = false; held = false } ∷ rows_from (at + k + e) (lines l)) (ap (λ n. drop n (b ∷ bs)) whole ∙ sym is_rest)
  where
    whole : line_len (b ∷ bs) ≡ k + e
    whole = ap (λ n. n + ending_len (drop n (b ∷ bs))) (sym is_k) ∙ ap (λ n. k + n) (sym is_e)

    line_end : at + length (take (line_len (b ∷ bs)) (b ∷ bs)) ≡ at + k + e
    line_end = let l : length (take (line_len (b ∷ bs)) (b ∷ bs)) ≡ line_len (b ∷ bs) = simp length-take (let le = line_len_le (b ∷ bs) in omega arith) in omega (arith, l, whole)

-- the rows of the lines from a place on, by the lengths of the first line's content and of its line ending
pub rows-first : (text : List ℕ) (at k e : ℕ) → at < length text → k ≡ content_len (drop at text) → e ≡ ending_len (drop k (drop at text))
    → rows_from at (lines (drop at text)) ≡ record { columns = expand 0 at (take k (drop at text)); at = at; content_end = at + k; line_end = at + k + e; lazy = false; held = false } ∷ rows_from (at + k + e) (lines (drop (at + k + e) text))
rows-first text at k e lt is_k is_e = go (drop at text) refl is_k is_e
  where
    go : (bs : List ℕ) → drop at text ≡ bs → k ≡ content_len bs → e ≡ ending_len (drop k bs) → rows_from at (lines bs) ≡ record { columns = expand 0 at (take k bs); at = at; content_end = at + k; line_end = at + k + e; lazy = false; held = false } ∷ rows_from (at + k + e) (lines (drop (at + k + e) text))
    go [] is _ _ = absurd (let l = ap length is in omega (arith, l, length-drop at text))
    go (b ∷ bs) is is_k is_e =
        rows_at b bs (drop (at + k + e) text) at k e is_k is_e
        (ap (λ n. drop n text) (let s : at + k + e ≡ at + (k + e) = omega arith in s) ∙ sym (drop-drop (k + e) at text) ∙ ap (drop (k + e)) is)
