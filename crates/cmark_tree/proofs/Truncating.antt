-- The rest of an item, and of siblings, at the end of their text.
use Rattle.std.proofs.Common.{◌≡◌, ◌≢◌, ℕ, ◌-◌, ◌<◌, ◌≤◌, true, false, nat_lt, ◌==◌, Some, None, refl, arith}
use Rattle.std.proofs.lemmas.Bool.{eq-eqb, eqb-true, lt-ltb, ltb-true}
use Rattle.cmark_tree.specs.Truncating.{Spans, shortened}

pub eq_false : (a b : ℕ) → a ≢ b → (a == b) ≡ false
eq_false a b ne = grind (arith, eqb-true)

pub lt_false : (a b : ℕ) → b ≤ a → nat_lt a b ≡ false
lt_false a b le = grind (arith, nat_lt, ltb-true)

module _ {T : Type 0} (s : Spans T) where
  pub shortened-ends : (to : ℕ) (x : T) → s.end x ≡ to → shortened s to x ≡ Some x
  unfolding shortened
  shortened-ends to x e = rw (eq-eqb (s.end x) to e) refl

  pub shortened-front : (to : ℕ) (x : T) → s.end x ≢ to → s.start x < to → shortened s to x ≡ Some (s.ranged x (s.start x) to)
  unfolding shortened
  shortened-front to x ne lt = rw (eq_false (s.end x) to ne, lt-ltb (s.start x) to lt) refl

  pub shortened-escaped : (to : ℕ) (x : T) → s.end x ≢ to → s.start x ≡ to → s.escaped x ≡ true → shortened s to x ≡ Some (s.ranged x (to - 1) to)
  unfolding shortened
  shortened-escaped to x ne e esc = rw (eq_false (s.end x) to ne, lt_false (s.start x) to (omega (arith, e)), eq-eqb (s.start x) to e, esc) refl

  pub shortened-plain : (to : ℕ) (x : T) → s.end x ≢ to → s.start x ≡ to → s.escaped x ≡ false → shortened s to x ≡ None
  unfolding shortened
  shortened-plain to x ne e esc = rw (eq_false (s.end x) to ne, lt_false (s.start x) to (omega (arith, e)), eq-eqb (s.start x) to e, esc) refl

  pub shortened-later : (to : ℕ) (x : T) → s.end x ≢ to → to ≤ s.start x → s.start x ≢ to → shortened s to x ≡ None
  unfolding shortened
  shortened-later to x ne le e = rw (eq_false (s.end x) to ne, lt_false (s.start x) to le, eq_false (s.start x) to e) refl
