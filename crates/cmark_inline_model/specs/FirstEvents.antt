-- Whether events begin with the end of an element.
use Rattle.std.specs.Prelude.{List, [], ◌∷◌}
use Rattle.cmark_grammar.specs.Event.{Event, End, Ranged}

-- the event is the end of an element
abbrev pub IsEnd : Event → Type 0
IsEnd (End tag) = Unit {0}
IsEnd _ = ⊥

-- the first of these events is the end of an element
abbrev pub BeginWithEnd : List Ranged → Type 0
BeginWithEnd [] = ⊥
BeginWithEnd (first ∷ others) = IsEnd first.event

-- there is a first one, and it is not the end of an element
abbrev pub BeginWithoutEnd : List Ranged → Type 0
BeginWithoutEnd [] = ⊥
BeginWithoutEnd (first ∷ others) = ¬ IsEnd first.event
