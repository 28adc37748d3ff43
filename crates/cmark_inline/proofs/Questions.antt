-- Questions that are counted while a text is read.
use Rattle.std.proofs.Common.{◌≡◌, ℕ, zero, suc, ◌+◌, ◌-◌, ◌≤◌, ◌<◌, inl, inr, List, length, take, get_or, refl, sym, subst, arith, eq-eqb}
use Rattle.std.specs.Prelude.{Option, cond}
use Rattle.std.proofs.lemmas.List.{take-take}
use Rattle.std.proofs.lemmas.List.Sums.{count_by_more_yes, sum_by-take-le}
use Rattle.cmark_values.specs.declared.text.CowStr.{CowStr}
use Rattle.cmark_inline.specs.Asking.{AsksUpTo, AsksBetween, closing_brackets, is_closing_bracket}
use Rattle.cmark_inline.specs.declared.callback.BrokenLink.{BrokenLink}

pub all-bytes : (a : ℕ) (text : List ℕ) → closing_brackets (take a text) ≤ closing_brackets text
all-bytes a text = sum_by-take-le (λ (b : ℕ). cond (is_closing_bracket b) 1 0) text a

pub more-bytes : (a b : ℕ) (text : List ℕ) → a ≤ b → closing_brackets (take a text) ≤ closing_brackets (take b text)
more-bytes a b text le = subst (λ (l : List ℕ). closing_brackets l ≤ closing_brackets (take b text)) (take-take a b text le) (all-bytes a (take b text))

pub one-more : (a k b : ℕ) (text : List ℕ) → a ≤ k → k < b → k < length text → get_or text k 0 ≡ 93 → closing_brackets (take a text) + 1 ≤ closing_brackets (take b text)
one-more a k b text le lt within is =
    let l = more-bytes a k text le in
    let m = count_by_more_yes is_closing_bracket text k 0 within (eq-eqb (get_or text k 0) 93 is) in
    let n = more-bytes (k + 1) b text (let q : k + 1 ≤ b = omega (arith, lt) in q) in
    omega (arith, l, m, n)

module _ {F : Type 0} (R : F → BrokenLink → Option (CowStr × CowStr) → F → Type 0) where
  -- at most `m` questions are at most `n`
  up-to-by : (d m n : ℕ) (x y : F) → n ≡ d + m → AsksUpTo R m x y → AsksUpTo R n x y
  up-to-by zero m n x y e h = subst (λ (k : ℕ). AsksUpTo R k x y) (let q : m ≡ n = omega (arith, e) in q) h
  up-to-by (suc d) m zero x y e h = absurd (omega (arith, e))
  up-to-by (suc d) m (suc n) x y e h = (y, up-to-by d m n x y (let q : n ≡ d + m = omega (arith, e) in q) h, inl refl)

  pub up-to : (m n : ℕ) (x y : F) → m ≤ n → AsksUpTo R m x y → AsksUpTo R n x y
  up-to m n x y le h = up-to-by (n - m) m n x y (let q : n ≡ (n - m) + m = omega (arith, le) in q) h

  pub asks-on : (text : List ℕ) (a b : ℕ) (x y z : F) → AsksUpTo R (closing_brackets (take a text)) x y → a ≤ b → AsksBetween R text a b y z → AsksUpTo R (closing_brackets (take b text)) x z
  asks-on text a b x y z h le (inl same) = up-to (closing_brackets (take a text)) (closing_brackets (take b text)) x z (more-bytes a b text le) (subst (AsksUpTo R (closing_brackets (take a text)) x) (sym same) h)
  asks-on text a b x y z h le (inr asked) =
      up-to (suc (closing_brackets (take a text))) (closing_brackets (take b text)) x z
      (let t = asked.1 in let m = one-more a t.0 b text t.1 t.2 t.3 t.4 in let q : suc (closing_brackets (take a text)) ≤ closing_brackets (take b text) = omega (arith, m) in q)
      (y, h, asked.0)

  pub asks-all : (text : List ℕ) (a : ℕ) (x y : F) → AsksUpTo R (closing_brackets (take a text)) x y → AsksUpTo R (closing_brackets text) x y
  asks-all text a x y h = up-to (closing_brackets (take a text)) (closing_brackets text) x y (all-bytes a text) h
