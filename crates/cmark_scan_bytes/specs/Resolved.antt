-- Escapes and entities in a text.
use Rattle.std.specs.Prelude.{ℕ, ◌≡◌, ◌<◌, true, false, List, [], ◌∷◌, ◌++◌, drop, take, Option, None, Some, is_some}
use Rattle.std.specs.Str.{IsCharBoundary}
use Rattle.cmark_grammar.specs.Answers.{Lookup}
use Rattle.cmark_grammar.specs.Tokens.{Entity, Does, Stands, EscapesNext, Begins, does, resolved}

-- the text of a byte and those after it, if the byte is not literal
abbrev pub part_of : Does → List ℕ → Option Entity
part_of Stands bs = None
part_of EscapesNext bs = Some (record { bytes = take 1 bs; size = 2 })
part_of (Begins entity) bs = Some entity

-- the text of the escape or entity at the beginning, if there is one
abbrev pub resolved_front : Lookup → List ℕ → Option Entity
resolved_front lookup [] = None
resolved_front lookup (b ∷ bs) = part_of (does lookup false b bs) bs

-- the text contains no escape and no entity
abbrev pub HasNoEscapes : Lookup → List ℕ → Type 0
HasNoEscapes lookup text = (at : ℕ) → resolved_front lookup (drop at text) ≡ None

-- the bytes up to the first place are literal; those from there to the second are an escape or an entity, whose text is this part
pub record Resolves (lookup : Lookup) (text : List ℕ) (start end : ℕ) (part : List ℕ) : Type 0 where
  pub low : start < end
  pub here : is_some (resolved_front lookup (drop start text)) ≡ true
  pub starts : IsCharBoundary text start
  pub ends : IsCharBoundary text end
  pub same : resolved lookup text ≡ take start text ++ (part ++ resolved lookup (drop end text))
