-- Bytes without those at their end that pass.
use Rattle.std.proofs.Common.{◌≡◌, ℕ, zero, suc, ◌+◌, ◌-◌, ◌<◌, ◌≤◌, Bool, true, false, List, [], ◌∷◌, ◌++◌, length, take, get_or, refl, sym, ap, ◌∙◌, arith}
use Rattle.std.proofs.lemmas.Bool.{cases_lt}
use Rattle.std.proofs.lemmas.List.{take_all, take_more}
use Rattle.cmark_grammar.specs.Columns.{put_before, drop_end}

-- a list without those elements at its end that pass
drop_end-push_passing : (q : ℕ → Bool) (xs : List ℕ) (y : ℕ) → q y ≡ true → drop_end q (xs ++ y ∷ []) ≡ drop_end q xs
drop_end-push_passing q [] y e = rw e refl
drop_end-push_passing q (x ∷ xs) y e = ap (put_before (q x) x) (drop_end-push_passing q xs y e)

put_before-end : (t : Bool) (x y : ℕ) (xs : List ℕ) → put_before t x (xs ++ y ∷ []) ≡ x ∷ (xs ++ y ∷ [])
put_before-end t x y [] = refl
put_before-end t x y (z ∷ zs) = refl

drop_end-push_failing : (q : ℕ → Bool) (xs : List ℕ) (y : ℕ) → q y ≡ false → drop_end q (xs ++ y ∷ []) ≡ xs ++ y ∷ []
drop_end-push_failing q [] y e = rw e refl
drop_end-push_failing q (x ∷ xs) y e = ap (put_before (q x) x) (drop_end-push_failing q xs y e) ∙ put_before-end (q x) x y xs

-- one byte less at the end
drop_end-less : (q : ℕ → Bool) (bs : List ℕ) (len : ℕ) → 0 < len → len ≤ length bs → q (get_or bs (len - 1) 0) ≡ true → drop_end q (take len bs) ≡ drop_end q (take (len - 1) bs)
drop_end-less q bs len some within e =
    ap (λ n. drop_end q (take n bs)) (let s : len ≡ len - 1 + 1 = omega arith in s)
    ∙ ap (drop_end q) (take_more bs (len - 1) 0 (omega arith)) ∙ drop_end-push_passing q (take (len - 1) bs) (get_or bs (len - 1) 0) e

drop_end-stays : (q : ℕ → Bool) (bs : List ℕ) (len : ℕ) → 0 < len → len ≤ length bs → q (get_or bs (len - 1) 0) ≡ false → drop_end q (take len bs) ≡ take len bs
drop_end-stays q bs len some within e =
    let cut : take len bs ≡ take (len - 1) bs ++ get_or bs (len - 1) 0 ∷ [] = ap (λ n. take n bs) (let s : len ≡ len - 1 + 1 = omega arith in s) ∙ take_more bs (len - 1) 0 (omega arith) in
    ap (drop_end q) cut ∙ drop_end-push_failing q (take (len - 1) bs) (get_or bs (len - 1) 0) e ∙ sym cut

drop_end-none : (q : ℕ → Bool) (bs : List ℕ) (len : ℕ) → len ≤ 0 → drop_end q (take len bs) ≡ take len bs
drop_end-none q bs zero le = refl
drop_end-none q bs (suc len) le = absurd (omega arith)

-- the bytes but for those at the end that pass
drop_end-passing : (q : ℕ → Bool) (bs : List ℕ) (n : ℕ) → n ≤ length bs → ((k : ℕ) → length bs - n ≤ k → k < length bs → q (get_or bs k 0) ≡ true) → drop_end q (take (length bs - n) bs) ≡ drop_end q bs
drop_end-passing q bs zero within passed = ap (drop_end q) (take_all (length bs - 0) bs (omega arith))
drop_end-passing q bs (suc n) within passed =
    ap (λ m. drop_end q (take m bs)) (let s : length bs - suc n ≡ length bs - n - 1 = omega arith in s)
    ∙ sym (drop_end-less q bs (length bs - n) (omega (arith, within)) (omega arith) (passed (length bs - n - 1) (omega arith) (omega (arith, within))))
    ∙ drop_end-passing q bs n (omega (arith, within)) (λ k from to. passed k (omega (arith, from)) to)

-- this many elements at the end pass, and the one before them, if there is one, does not
pub drop_end-cut : (q : ℕ → Bool) (bs : List ℕ) (n : ℕ) → n ≤ length bs
    → ((k : ℕ) → length bs - n ≤ k → k < length bs → q (get_or bs k 0) ≡ true)
    → (n < length bs → q (get_or bs (length bs - n - 1) 0) ≡ false)
    → take (length bs - n) bs ≡ drop_end q bs
drop_end-cut q bs n within passed stopped = grind (arith, drop_end-passing, cases_lt, drop_end-stays, drop_end-none)
