-- The siblings that are left if a line of text ends before its spans do.
use Rattle.std.specs.Prelude.{◌≡◌, ℕ, ◌-◌, ◌<◌, ◌≤◌, Bool, true, ◌==◌, nat_lt, List, Option, Some, None, if◌then◌else◌}
use Rattle.cmark_tree.specs.Forest.{Forest, Nil, Node, join, one}
use Rattle.cmark_tree.specs.Arena.{Placed, first}
use Rattle.cmark_tree.specs.Zip.{Level, Zip, siblings}

module _ {A : Type 0} where
  -- all trees but the last, and the last
  abbrev pub but_last : Forest A → Forest A
  but_last Nil = Nil
  but_last (Node x inside Nil) = Nil
  but_last (Node x inside (Node y i a)) = Node x inside (but_last (Node y i a))

  abbrev pub last_tree : Forest A → Forest A
  last_tree Nil = Nil
  last_tree (Node x inside Nil) = Node x inside Nil
  last_tree (Node x inside (Node y i a)) = last_tree (Node y i a)

module _ {T : Type 0} where
  -- the place of the last tree, or 0
  abbrev pub last_place : Forest (Placed T) → ℕ
  last_place Nil = 0
  last_place (Node p inside Nil) = p.ix
  last_place (Node p inside (Node q i a)) = last_place (Node q i a)

  -- at the last of these siblings
  abbrev pub at_last : Forest (Placed T) → List (Level T) → Zip T
  at_last f up = record { left = but_last f; right = last_tree f; up = up }

-- items with a range, and whether their first byte was escaped by a backslash before it
pub record Spans (T : Type 0) : Type 0 where
  pub start : T → ℕ
  pub end : T → ℕ
  pub escaped : T → Bool
  pub ranged : T → ℕ → ℕ → T

module _ {T : Type 0} (s : Spans T) where
  -- The rest of an item that does not end before `to`. It is the whole item if that ends there, and its beginning if it begins before. An
  -- item that begins there leaves the backslash before it, if that escapes it, and else nothing. A later item leaves nothing.
  unfoldable pub shortened : ℕ → T → Option T
  shortened to x =
      if s.end x == to then Some x
      else if nat_lt (s.start x) to then Some (s.ranged x (s.start x) to)
      else if s.start x == to then (if s.escaped x then Some (s.ranged x (to - 1) to) else None)
      else None

  abbrev pub kept : Placed T → Forest (Placed T) → Option T → Forest (Placed T)
  kept p inside None = Nil
  kept p inside (Some x) = one (record p { item = x }) inside

  -- the siblings up to the first that does not end before `to`, and the rest of that one
  abbrev pub truncated : ℕ → Forest (Placed T) → Forest (Placed T)
  truncated to Nil = Nil
  truncated to (Node p inside after) =
      if nat_lt (s.end p.item) to then Node p inside (truncated to after) else kept p inside (shortened to p.item)

  -- the last remaining sibling is the focus
  abbrev pub siblings_truncated : ℕ → Zip T → Zip T
  siblings_truncated to z = at_last (truncated to (siblings z)) z.up

  -- all these siblings end before `to`
  abbrev pub AllEndBefore : ℕ → Forest (Placed T) → Type 0
  AllEndBefore to Nil = Unit {0}
  AllEndBefore to (Node p inside after) = (s.end p.item < to) × AllEndBefore to after

  -- the first of these siblings, if there is one, does not end before `to`
  abbrev pub FirstReaches : ℕ → Forest (Placed T) → Type 0
  FirstReaches to Nil = Unit {0}
  FirstReaches to (Node p inside after) = to ≤ s.end p.item

  -- the siblings that end before `to`, and the others: `kept` is the last of the former, and `at` the first of the latter
  pub record IsCut (to : ℕ) (f : Forest (Placed T)) (kept at : ℕ) : Type 0 where
    pub done : Forest (Placed T)
    pub rest : Forest (Placed T)
    pub split : f ≡ join done rest
    pub before : AllEndBefore to done
    pub kept_is : kept ≡ last_place done
    pub at_is : at ≡ first rest
    pub reaches : FirstReaches to rest

  -- no escaped item begins at byte 0
  abbrev pub NoEscapedAtZero : Forest (Placed T) → Type 0
  NoEscapedAtZero Nil = Unit {0}
  NoEscapedAtZero (Node p inside after) =
      (s.start p.item ≡ 0 → s.escaped p.item ≡ true → ⊥) × NoEscapedAtZero after
