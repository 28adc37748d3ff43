-- A value under a box's own vtable, which a call changed through a reference with an equal vtable.
use Rattle.std.specs.Prelude.{◌≡◌}
use Rattle.std.specs.DynBox.{dyn_box_with}
use Rattle.std.specs.declared.dyn_box.DynBox.{DynBox}
use Rattle.std.proofs.Math.Path.{refl, sym, subst}

module _ {X Z : Type 0} {F : X → Type 0} (Says : (k : X) → (before after : F k) → Type 0) (d : DynBox X Z F) where
  -- a fact about a change under one vtable, as a fact under the other
  abbrev SaidUnder : (j : X) (y : F j) → (k : X) × F k → Type 0
  SaidUnder j y q = (after : F q.0) → Says q.0 q.1 after → (next : F j) × Says j y next × (dyn_box_with d q.0 after ≡ dyn_box_with d j next)

  pub said_at_home : {i j : X} {x : F i} {y : F j} → ◌≡◌ {A = (k : X) × F k} (i, x) (j, y) → SaidUnder j y (i, x)
  said_at_home {i} {j} {x} {y} same = subst (SaidUnder j y) (sym same) (λ after said. (after, said, refl))
