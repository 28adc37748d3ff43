-- How an iterator is read: the items that it gave, up to its None, after which it is not called again.
use Rattle.std.specs.Prelude.{◌≡◌, ◌+◌, Bool, true, false, List, [], Option, None, MatchBool}
use Rattle.std.specs.Iterator.{Count, IsFinite, Yields, count_map, count_unless}
use Rattle.std.specs.Option.{option_len}

-- the state of a reader ahead of its iterator: the iterator, an item that it gave and that is not passed on yet, and whether it is not
-- called any more
pub record Ahead (S X : Type 0) : Type 0 where
  pub iter : S
  pub held : Option X
  pub is_over : Bool

-- calls led from s to t and gave the items xs, and then None if is_over; if the iterator was over at the start, there was no call
abbrev pub ReadsTo : {S X : Type 0} → (S → Option X → S → Type 0) → (was_over : Bool) → S → List X → (is_over : Bool) → S → Type 0
ReadsTo steps true s xs is_over t = (xs ≡ []) × (is_over ≡ true) × (t ≡ s)
ReadsTo {S} steps false s xs is_over t = (u : S) × Yields steps s xs u × MatchBool is_over (steps u None t) (u ≡ t)

module _ {S X : Type 0} where
  abbrev pub Reads : (S → Option X → S → Type 0) → Ahead S X → List X → Ahead S X → Type 0
  Reads steps old xs new = ReadsTo steps old.is_over old.iter xs new.is_over new.iter

  -- unless the iterator is over, it may be called, and it ends
  abbrev pub CanGo : (S → Type 0) → (S → Count) → Ahead S X → Type 0
  CanGo can remaining s = s.is_over ≡ false → can s.iter × IsFinite (remaining s.iter)

  -- an upper bound of the number of items left
  abbrev pub items_left : (S → Count) → Ahead S X → Count
  items_left remaining s = count_map (λ n. n + option_len s.held) (count_unless s.is_over (remaining s.iter))
