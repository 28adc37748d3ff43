-- Tests of bytes.
use Rattle.std.proofs.Common.{◌≡◌, ◌≢◌, ℕ, zero, suc, ◌+◌, ◌<◌, Bool, true, false, cond, ◌&&◌, nat_eq, List, [], ◌∷◌, ◌++◌, length, take, get_or, map, refl, sym, ap, ◌∙◌, arith, ne_eqb}
use Rattle.std.specs.List.{prefix_len}
use Rattle.std.proofs.lemmas.List.{take_more, get_or-map}
use Rattle.std.proofs.lemmas.Slice.Eq.{bytes_eq-Decides}
use Rattle.cmark_grammar.specs.Leaves.{all_pass}
use Rattle.cmark_grammar.specs.HtmlBlocks.{starts}

-- all bytes pass if as many pass at the beginning
pub all_pass-prefix : (p : ℕ → Bool) (bs : List ℕ) → nat_eq (prefix_len p bs) (length bs) ≡ all_pass p bs
all_pass-prefix p [] = refl
all_pass-prefix p (b ∷ bs) = go (p b) (all_pass-prefix p bs)
  where
    go : (z : Bool) → nat_eq (prefix_len p bs) (length bs) ≡ all_pass p bs → nat_eq (cond z (1 + prefix_len p bs) 0) (suc (length bs)) ≡ (z && all_pass p bs)
    go true ih = same (prefix_len p bs) (length bs) ∙ ih
      where
        same : (m n : ℕ) → nat_eq (1 + m) (suc n) ≡ nat_eq m n
        same m n = grind (arith)
    go false ih = ne_eqb 0 (suc (length bs)) (omega arith)

-- one further byte is equal
pub same_more : (f : ℕ → ℕ) (bs cs : List ℕ) (n : ℕ) → n < length bs → n < length cs → f (get_or bs n 0) ≡ get_or cs n 0 → take n (map f bs) ≡ take n cs → take (n + 1) (map f bs) ≡ take (n + 1) cs
same_more f bs cs n lt lt' same h =
    let l = length-map f bs in
    take_more (map f bs) n 0 (omega arith) ∙ ap (λ x. take n (map f bs) ++ x ∷ []) (get_or-map f bs n 0 0 lt ∙ same) ∙ ap (λ l. l ++ get_or cs n 0 ∷ []) h ∙ sym (take_more cs n 0 lt')
  where
    length-map : (f : ℕ → ℕ) (bs : List ℕ) → length (map f bs) ≡ length bs
    length-map f [] = refl
    length-map f (b ∷ bs) = ap suc (length-map f bs)

take-length : (cs : List ℕ) → take (length cs) cs ≡ cs
take-length [] = refl
take-length (c ∷ cs) = ap (λ l. c ∷ l) (take-length cs)

pub starts-same : (f : ℕ → ℕ) (bs cs : List ℕ) (n : ℕ) → n ≡ length cs → take n (map f bs) ≡ take n cs → true ≡ starts cs (map f bs)
starts-same f bs cs n is same = sym ((bytes_eq-Decides (take (length cs) (map f bs)) cs).1 (ap (λ m. take m (map f bs)) (sym is) ∙ same ∙ ap (λ m. take m cs) is ∙ take-length cs))

pub get_or-take : (bs : List ℕ) (n k : ℕ) → k < n → get_or (take n bs) k 0 ≡ get_or bs k 0
get_or-take [] zero k lt = absurd (omega arith)
get_or-take [] (suc n) k lt = refl
get_or-take (b ∷ bs) zero k lt = absurd (omega arith)
get_or-take (b ∷ bs) (suc n) zero lt = refl
get_or-take (b ∷ bs) (suc n) (suc k) lt = get_or-take bs n k (omega arith)

pub starts-other : (f : ℕ → ℕ) (bs cs : List ℕ) (n : ℕ) → n < length bs → n < length cs → f (get_or bs n 0) ≢ get_or cs n 0 → false ≡ starts cs (map f bs)
starts-other f bs cs n lt lt' other = go (starts cs (map f bs)) refl
  where
    go : (z : Bool) → starts cs (map f bs) ≡ z → false ≡ z
    go true e = absurd (other (sym (get_or-map f bs n 0 0 lt) ∙ sym (get_or-take (map f bs) (length cs) n lt') ∙ ap (λ l. get_or l n 0) ((bytes_eq-Decides (take (length cs) (map f bs)) cs).0 e)))
    go false e = refl

pub take-less : (bs : List ℕ) (n k : ℕ) → k < length (take n bs) → k < n
take-less [] zero k lt = absurd (omega arith)
take-less [] (suc n) k lt = absurd (omega arith)
take-less (b ∷ bs) zero k lt = absurd (omega arith)
take-less (b ∷ bs) (suc n) zero lt = omega arith
take-less (b ∷ bs) (suc n) (suc k) lt = let h = take-less bs n k (omega arith) in omega arith
