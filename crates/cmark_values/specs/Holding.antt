-- How a text is held in a value that is made of another value.
use Rattle.std.specs.declared.borrow.CowStr as cow
use Rattle.std.specs.declared.borrow.CowStr.TheVariants as held
use Rattle.cmark_values.specs.Lending.{IsBorrowed}
use Rattle.cmark_values.specs.Shown.{IsBoxed}
use Rattle.cmark_values.specs.declared.text.CowStr.{CowStr}
use Rattle.cmark_values.specs.declared.text.CowStr.TheVariants.{Boxed, Borrowed, Inlined}

-- a borrowed text stays borrowed
abbrev pub StaysBorrowed : (old new : CowStr) → Type 0
StaysBorrowed (Boxed text) new = Unit {0}
StaysBorrowed (Borrowed text) new = IsBorrowed new
StaysBorrowed (Inlined text) new = Unit {0}

-- a borrowed text of std's stays borrowed, and an owned one keeps its memory
abbrev pub ComesFromCow : {A : Type 0} → cow.CowStr A → CowStr → Type 0
ComesFromCow (held.Borrowed text) new = IsBorrowed new
ComesFromCow (held.Owned text) new = IsBoxed new

abbrev pub IsBorrowedCow : {A : Type 0} → cow.CowStr A → Type 0
IsBorrowedCow (held.Borrowed text) = Unit {0}
IsBorrowedCow (held.Owned text) = ⊥

-- a borrowed text stays borrowed in std's type, and any other becomes owned
abbrev pub BecomesCow : {A : Type 0} → CowStr → cow.CowStr A → Type 0
BecomesCow (Boxed text) new = ¬ (IsBorrowedCow new)
BecomesCow (Borrowed text) new = IsBorrowedCow new
BecomesCow (Inlined text) new = ¬ (IsBorrowedCow new)
