-- The items that a stream of merged texts still has to give, and the effect of one call.
use Rattle.std.specs.Prelude.{◌≡◌, ◌⊎◌, ◌&&◌, Bool, true, false, List, [], ◌∷◌, ◌++◌, map, is_some, option_map, option_to_list, IfNone, IfSome, MatchBool, Option, Some, None, Result, Ok, Err}
use Rattle.std.specs.declared.alloc.AllocError.{AllocError}
use Rattle.std.specs.Iterator.{Yields}
use Rattle.cmark_merge.specs.Merge.{TextAt, merge, text_of_ok}
use Rattle.cmark_merge.specs.Reading.{Ahead, Reads}

-- a given item, then the others; after None there are no others
abbrev pub then_given : {A : Type 0} → Option A → List A → List A
then_given None others = []
then_given (Some x) others = x ∷ others

abbrev pub last_of : {A : Type 0} → A → List A → A
last_of x [] = x
last_of x (y ∷ ys) = last_of y ys

-- two items or more
abbrev pub AreSeveral : {A : Type 0} → List A → Type 0
AreSeveral [] = ⊥
AreSeveral (x ∷ []) = ⊥
AreSeveral (x ∷ y ∷ more) = Unit {0}

-- an iterator gives values, each of which shows an event, or error items
abbrev pub shown_item : {Y B : Type 0} → (Y → B) → Result Y AllocError → Result B AllocError
shown_item shown (Ok y) = Ok (shown y)
shown_item shown (Err e) = Err e

-- a value is owned if IsOwned holds of it; an error item is never owned
abbrev pub IsOwnedItem : {Y : Type 0} → (Y → Type 0) → Result Y AllocError → Type 0
IsOwnedItem IsOwned (Ok y) = IsOwned y
IsOwnedItem IsOwned (Err e) = ⊥

module _ {Y B : Type 0} (text_of : B → Option TextAt) (shown : Y → B) where
  abbrev pub is_text : Result Y AllocError → Bool
  is_text x = is_some (text_of_ok text_of (shown_item shown x))

  abbrev pub AreTexts : List (Result Y AllocError) → Type 0
  AreTexts [] = Unit {0}
  AreTexts (x ∷ xs) = (is_text x ≡ true) × AreTexts xs

  -- the value that is given for the items that were read: the first item as it is, unless two texts begin the list. Two texts or more
  -- become one owned text. If that would be empty, the item after them is given as it is
  abbrev pub HandsOn : (Y → Type 0) → List (Result Y AllocError) → Result Y AllocError → Type 0
  HandsOn IsOwned [] item = ⊥
  HandsOn IsOwned (x ∷ []) item = item ≡ x
  HandsOn IsOwned (x ∷ y ∷ more) item =
      MatchBool (is_text x && is_text y) (MatchBool (is_text item) (IsOwnedItem IsOwned item) (item ≡ last_of y more)) (item ≡ x)

module _ {Y B : Type 0} (text_of : B → Option TextAt) (item_of : TextAt → B) (shown : Y → B) where
  -- the merged form of these items
  abbrev pub merged : List (Result Y AllocError) → List (Result B AllocError)
  merged xs = merge (text_of_ok text_of) (λ t. Ok (item_of t)) (map (shown_item shown) xs)

  -- the items that the stream still gives, if its iterator still gives rest
  abbrev pub left : {S : Type 0} → Ahead S (Result Y AllocError) → List (Result Y AllocError) → List (Result B AllocError)
  left s rest = merged (option_to_list s.held ++ rest)

-- the first of the remaining items is given, and the items after it remain
pub record GivesFirst {S Y B : Type 0} (steps : S → Option (Result Y AllocError) → S → Type 0) (text_of : B → Option TextAt) (item_of : TextAt → B) (shown : Y → B) (IsOwned : Y → Type 0) (old : Ahead S (Result Y AllocError)) (given : Option (Result Y AllocError)) (new : Ahead S (Result Y AllocError)) : Type 0 where
  pub read : List (Result Y AllocError)
  pub reads : Reads steps old read new
  pub gives : (rest : List (Result Y AllocError)) → (new.is_over ≡ true → rest ≡ [])
      → left text_of item_of shown old (read ++ rest) ≡ then_given (option_map (shown_item shown) given) (left text_of item_of shown new rest)
  pub hands_on : IfSome given (HandsOn text_of shown IsOwned (option_to_list old.held ++ read))
  pub ends : IfNone given ((new.is_over ≡ true) × (new.held ≡ None))

-- memory was refused for the text that two texts or more are merged into: the error is the last item, and the iterator is not called again
pub record Refuses {S Y B : Type 0} (steps : S → Option (Result Y AllocError) → S → Type 0) (text_of : B → Option TextAt) (shown : Y → B) (old : Ahead S (Result Y AllocError)) (given : Option (Result Y AllocError)) (new : Ahead S (Result Y AllocError)) : Type 0 where
  pub error : AllocError
  pub is : given ≡ Some (Err error)
  pub read : List (Result Y AllocError)
  pub was_open : old.is_over ≡ false
  pub reads : Yields steps old.iter read new.iter
  pub several : AreSeveral (option_to_list old.held ++ read)
  pub texts : AreTexts text_of shown (option_to_list old.held ++ read)
  pub is_over : new.is_over ≡ true
  pub nothing_held : new.held ≡ None

-- the effect of one call
abbrev pub GivesMerged : {S Y B : Type 0} → (S → Option (Result Y AllocError) → S → Type 0) → (B → Option TextAt) → (TextAt → B) → (Y → B) → (Y → Type 0) → Ahead S (Result Y AllocError) → Option (Result Y AllocError) → Ahead S (Result Y AllocError) → Type 0
GivesMerged steps text_of item_of shown IsOwned old given new = GivesFirst steps text_of item_of shown IsOwned old given new ⊎ Refuses steps text_of shown old given new
