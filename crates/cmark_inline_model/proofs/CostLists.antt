-- Lists of costs, each of which begins below a limit, and lists with fewer costs in the same order.
use Rattle.std.specs.Prelude.{◌-◌, sum}
use Rattle.std.proofs.Common.{◌≡◌, ℕ, ◌+◌, ◌<◌, ◌≤◌, List, [], ◌∷◌, ◌++◌, refl, arith, subst, rules}
use Rattle.std.proofs.lemmas.List.Sums.{sum_by-cons}
use Rattle.cmark_inline_model.specs.ReferenceExpansion.{Spends}

abbrev pub total : List ℕ → ℕ
total [] = 0
total (c ∷ cs) = c + total cs

pub sum-total : (cs : List ℕ) → sum cs ≡ total cs
sum-total [] = refl
sum-total (c ∷ cs) = let i = sum-total cs in let e : sum (c ∷ cs) ≡ c + sum cs = sum_by-cons (λ n. n) c cs in omega arith

-- before each cost, the sum of the earlier costs and of the amount spent before is less than the limit
abbrev pub Within : (limit spent : ℕ) → List ℕ → Type 0
Within limit spent [] = Unit {0}
Within limit spent (c ∷ cs) = (spent < limit) × Within limit (spent + c) cs

pub total-append : (a b : List ℕ) → total (a ++ b) ≡ total a + total b
total-append [] b = omega arith
total-append (c ∷ a) b = let i = total-append a b in omega arith

pub within-less : (limit : ℕ) (cs : List ℕ) (less more : ℕ) → less ≤ more → Within limit more cs → Within limit less cs
within-less limit [] less more e h = tt
within-less limit (c ∷ cs) less more e h = (let x = h.0 in omega arith, within-less limit cs (less + c) (more + c) (omega arith) h.1)

pub within-front : (limit spent : ℕ) (a b : List ℕ) → Within limit spent (a ++ b) → Within limit spent a
within-front limit spent [] b h = tt
within-front limit spent (c ∷ a) b h = (h.0, within-front limit (spent + c) a b h.1)

pub within-rest : (limit spent : ℕ) (a b : List ℕ) → Within limit spent (a ++ b) → Within limit (spent + total a) b
within-rest limit spent [] b h = let e : spent ≡ spent + 0 = omega arith in subst (λ n. Within limit n b) e h
within-rest limit spent (c ∷ a) b h = let e : (spent + c) + total a ≡ spent + (c + total a) = omega arith in subst (λ n. Within limit n b) e (within-rest limit (spent + c) a b h.1)

pub within-both : (limit spent : ℕ) (a b : List ℕ) → Within limit spent a → Within limit (spent + total a) b → Within limit spent (a ++ b)
within-both limit spent [] b h k = let e : spent + 0 ≡ spent = omega arith in subst (λ n. Within limit n b) e k
within-both limit spent (c ∷ a) b h k =
    let e : spent + (c + total a) ≡ (spent + c) + total a = omega arith in (h.0, within-both limit (spent + c) a b h.1 (subst (λ n. Within limit n b) e k))

-- the sum of all costs but the last is less than the limit
pub within-last : (limit spent : ℕ) (front : List ℕ) (last : ℕ) → Within limit spent (front ++ (last ∷ [])) → spent + sum front < limit
within-last limit spent [] last h = let e : sum [] ≡ 0 = refl in let x = h.0 in omega arith
within-last limit spent (c ∷ front) last h =
    let i = within-last limit (spent + c) front last h.1 in let e : sum (c ∷ front) ≡ c + sum front = sum_by-cons (λ n. n) c front in omega arith

-- the costs that are subtracted from the rest of the limit stay within the limit
pub record Spent (limit spent after : ℕ) (cs : List ℕ) : Type 0 where
  pub within : Within limit spent cs
  pub left : after ≡ limit - (spent + total cs)

pub spends-within : (limit spent : ℕ) (cs : List ℕ) (before after : ℕ) → before ≡ limit - spent → Spends before cs after → Spent limit spent after cs
spends-within limit spent [] before after e h = record { within = tt; left = omega (arith, e, h) }
spends-within limit spent (c ∷ cs) before after e h = search (rules, spends-within limit (spent + c) cs (before - c) after (omega arith) h.1)

-- ## Fewer costs

pub record Fewer (few many : List ℕ) : Type 0 where
  pub less : total few ≤ total many
  pub within : (limit spent : ℕ) → Within limit spent many → Within limit spent few

pub fewer-same : (cs : List ℕ) → Fewer cs cs
fewer-same cs = record { less = omega arith; within = λ limit spent h. h }

pub fewer-then : (a b c : List ℕ) → Fewer a b → Fewer b c → Fewer a c
fewer-then a b c h k = record { less = (let x = h.less in let y = k.less in omega arith); within = λ limit spent w. h.within limit spent (k.within limit spent w) }

pub fewer-following : (front a b : List ℕ) → Fewer a b → Fewer a (front ++ b)
fewer-following front a b h = grind (arith, total-append, within-less, within-rest)

pub fewer-both : (a b c d : List ℕ) → Fewer a b → Fewer c d → Fewer (a ++ c) (b ++ d)
fewer-both a b c d h k = grind (arith, total-append, within-both, within-front, within-less, within-rest)
