-- Common properties of an open run and a closing run that agrees with it.
use Rattle.std.proofs.Common.{◌≡◌, ◌⊎◌, inl, inr, ℕ, ◌+◌, ◌%◌, ◌<◌, Bool, true, false, ◌&&◌, ◌||◌, ◌==◌, not, nat_lt, if◌then◌else◌, Some, None, refl, sym, ap, ◌∙◌, arith, true≢false, eqb-true}
use Rattle.std.proofs.lemmas.Bool.{and_parts, ltb-true}
use Rattle.cmark_grammar.specs.Emphasis.{Run, agrees, can_both, has_same_delimiter, is_tilde_or_caret, is_tilde_or_equals, keeps_rule_of_three}
use Rattle.cmark_emphasis.specs.Classes.{IsClosing, is_emphasis_delimiter}
use Rattle.cmark_emphasis.specs.Bottoms.{class_of, rank}
use Rattle.cmark_emphasis.proofs.Alike.{alike, equals_alike}

pub mark_same : (o c : Run) → agrees o c ≡ true → o.delimiter ≡ c.delimiter
unfolding agrees
mark_same o c e =
    let both = and_parts (nat_lt 0 c.left) (has_same_delimiter o c && keeps_rule_of_three o c) (and_parts c.closes _ e).1 in
    let same = and_parts (has_same_delimiter o c) (keeps_rule_of_three o c) both.1 in
    eqb-true o.delimiter c.delimiter (and_parts (o.delimiter == c.delimiter) (not (is_tilde_or_equals c.delimiter) || (o.run_length == c.run_length)) same.0).0

pub closing : (o c : Run) → agrees o c ≡ true → IsClosing c
unfolding agrees
closing o c e =
    let parts = and_parts c.closes (nat_lt 0 c.left && (has_same_delimiter o c && keeps_rule_of_three o c)) e in
    record { closes = parts.0; left = ltb-true 0 c.left (and_parts (nat_lt 0 c.left) (has_same_delimiter o c && keeps_rule_of_three o c) parts.1).0 }

some_same : {A : Type 0} (a b : A) → Some a ≡ Some b → a ≡ b
some_same a b e = cc

none_some : (n : ℕ) → None ≡ Some n → ⊥
none_some n e = cc

-- the runs of each class: `*`, `_`, or two `=`
abbrev OfClass : Run → ℕ → Type 0
OfClass run class =
    (run.delimiter ≡ 42) × (class ≡ rank run) ⊎ ((run.delimiter ≡ 95) × (class ≡ 6 + rank run) ⊎ (run.delimiter ≡ 61) × (run.run_length ≡ 2) × (class ≡ 12))

classed : (run : Run) (class : ℕ) → class_of run ≡ Some class → OfClass run class
classed run class e = go (run.delimiter == 42) refl (run.delimiter == 95) refl (run.delimiter == 61) refl (run.run_length == 2) refl e
  where
    go : (a : Bool) → (run.delimiter == 42) ≡ a → (b : Bool) → (run.delimiter == 95) ≡ b → (c : Bool) → (run.delimiter == 61) ≡ c → (d : Bool) → (run.run_length == 2) ≡ d
        → (if a then Some (rank run) else if b then Some (6 + rank run) else if c && d then Some 12 else None) ≡ Some class → OfClass run class
    go true p b q c r d s h = inl (eqb-true run.delimiter 42 p, sym (some_same (rank run) class h))
    go false p true q c r d s h = inr (inl (eqb-true run.delimiter 95 q, sym (some_same (6 + rank run) class h)))
    go false p false q true r true s h = inr (inr (eqb-true run.delimiter 61 r, eqb-true run.run_length 2 s, sym (some_same 12 class h)))
    go false p false q true r false s h = absurd (none_some class h)
    go false p false q false r d s h = absurd (none_some class h)

ranks : (c d : Run) → rank c ≡ rank d → (d.run_length % 3 ≡ c.run_length % 3) × (can_both d ≡ can_both c)
ranks c d e = go (can_both c) (can_both d) e
  where
    go : (a b : Bool) → (if a then 3 else 0) + c.run_length % 3 ≡ (if b then 3 else 0) + d.run_length % 3 → (d.run_length % 3 ≡ c.run_length % 3) × (b ≡ a)
    go true true h = (omega (arith, h), refl)
    go true false h = absurd (omega (arith, h))
    go false true h = absurd (omega (arith, h))
    go false false h = (omega (arith, h), refl)

rank_low : (c : Run) → rank c < 6
rank_low c = go (can_both c)
  where
    go : (a : Bool) → (if a then 3 else 0) + c.run_length % 3 < 6
    go true = omega arith
    go false = omega arith

-- closing runs of one class agree with the same open runs
class_alike : (o c d : Run) (class : ℕ) → OfClass c class → OfClass d class → IsClosing c → IsClosing d → agrees o d ≡ agrees o c
class_alike o c d class e f h k = go e f
  where
    like : is_emphasis_delimiter c.delimiter ≡ true → d.delimiter ≡ c.delimiter → rank c ≡ rank d → agrees o d ≡ agrees o c
    like t m r = let same = ranks c d r in alike o c d (record { emphasis = t; delimiter = m; run_length = same.0; both = same.1 }) h k

    go : OfClass c class → OfClass d class → agrees o d ≡ agrees o c
    go (inl x) (inl y) = like (ap is_emphasis_delimiter x.0) (y.0 ∙ sym x.0) (sym x.1 ∙ y.1)
    go (inl x) (inr (inl y)) = absurd (omega (arith, x.1, y.1, rank_low c))
    go (inl x) (inr (inr y)) = absurd (omega (arith, x.1, y.2, rank_low c))
    go (inr (inl x)) (inl y) = absurd (omega (arith, x.1, y.1, rank_low d))
    go (inr (inl x)) (inr (inl y)) = like (ap is_emphasis_delimiter x.0) (y.0 ∙ sym x.0) (let z : 6 + rank c ≡ 6 + rank d = sym x.1 ∙ y.1 in omega (arith, z))
    go (inr (inl x)) (inr (inr y)) = absurd (omega (arith, x.1, y.2, rank_low c))
    go (inr (inr x)) (inl y) = absurd (omega (arith, x.2, y.1, rank_low d))
    go (inr (inr x)) (inr (inl y)) = absurd (omega (arith, x.2, y.1, rank_low d))
    go (inr (inr x)) (inr (inr y)) = equals_alike o c d h x.0 x.1 k y.0 y.1

-- all runs of one class have one delimiter
pub class-delimiter : (c d : Run) (class : ℕ) → class_of c ≡ Some class → class_of d ≡ Some class → d.delimiter ≡ c.delimiter
class-delimiter c d class e f = go (classed c class e) (classed d class f)
  where
    go : OfClass c class → OfClass d class → d.delimiter ≡ c.delimiter
    go (inl x) (inl y) = y.0 ∙ sym x.0
    go (inl x) (inr (inl y)) = absurd (omega (arith, x.1, y.1, rank_low c))
    go (inl x) (inr (inr y)) = absurd (omega (arith, x.1, y.2, rank_low c))
    go (inr (inl x)) (inl y) = absurd (omega (arith, x.1, y.1, rank_low d))
    go (inr (inl x)) (inr (inl y)) = y.0 ∙ sym x.0
    go (inr (inl x)) (inr (inr y)) = absurd (omega (arith, x.1, y.2, rank_low c))
    go (inr (inr x)) (inl y) = absurd (omega (arith, x.2, y.1, rank_low d))
    go (inr (inr x)) (inr (inl y)) = absurd (omega (arith, x.2, y.1, rank_low d))
    go (inr (inr x)) (inr (inr y)) = y.0 ∙ sym x.0

-- an open run that a closing run of a class has passed agrees with no run of the class
pub class_misses : (o c d : Run) (class : ℕ) → class_of c ≡ Some class → class_of d ≡ Some class → IsClosing c → agrees o c ≡ false → agrees o d ≡ false
class_misses o c d class e f h miss = go (agrees o d) refl
  where
    go : (b : Bool) → agrees o d ≡ b → agrees o d ≡ false
    go true p = absurd (true≢false (sym p ∙ class_alike o c d class (classed c class e) (classed d class f) h (closing o d p) ∙ miss))
    go false p = p

pub class_low : (run : Run) (class : ℕ) → class_of run ≡ Some class → class < 13
class_low run class e = go (classed run class e)
  where
    go : OfClass run class → class < 13
    go (inl h) = omega (arith, h.1, rank_low run)
    go (inr (inl h)) = omega (arith, h.1, rank_low run)
    go (inr (inr h)) = omega (arith, h.2)

pub class_no_tilde : (run : Run) (class : ℕ) → class_of run ≡ Some class → is_tilde_or_caret run.delimiter ≡ false
class_no_tilde run class e = go (classed run class e)
  where
    go : OfClass run class → is_tilde_or_caret run.delimiter ≡ false
    go (inl h) = ap is_tilde_or_caret h.0
    go (inr (inl h)) = ap is_tilde_or_caret h.0
    go (inr (inr h)) = ap is_tilde_or_caret h.0

-- a run of another delimiter does not agree
pub other_kind : (o c : Run) (b : Bool) → is_tilde_or_caret o.delimiter ≡ not b → is_tilde_or_caret c.delimiter ≡ b → agrees o c ≡ false
other_kind o c b e f = go (agrees o c) refl
  where
    different : (a : Bool) → a ≡ not a → ⊥
    different true h = true≢false h
    different false h = true≢false (sym h)

    go : (a : Bool) → agrees o c ≡ a → agrees o c ≡ false
    go true p = absurd (different b (sym f ∙ sym (ap is_tilde_or_caret (mark_same o c p)) ∙ e))
    go false p = p
