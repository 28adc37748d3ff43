-- The state of reading a leaf's text (CommonMark 6.3): the place reached, the opening brackets before it, and the possible results of a
-- closing bracket.
use Rattle.std.specs.Prelude.{ℕ, true, false, Bool, List, ◌∷◌, Option}
use Rattle.cmark_grammar.specs.Answers.{Destination}
use Rattle.cmark_grammar.specs.Items.{Bracket}
use Rattle.cmark_grammar.specs.Parts.{Formed}
use Rattle.cmark_grammar.specs.Questions.{Question, Exchange}

-- an opening bracket that is a text. Stands: no closing bracket used it up (CommonMark 6.3), and no footnote reference dropped it. Doubles:
-- no wikilink tried it as the first of two brackets (both this profile's own). Is_inactive: a link was formed after it, since a link
-- contains no link
pub record Opener : Type 0 where
  pub bracket : Bracket
  pub stands : Bool
  pub doubles : Bool
  pub is_inactive : Bool

-- the state of reading a leaf: the place reached, and the rest of the reference expansion limit. Label_close: the closing bracket of a full
-- reference's label, if any; it closes no shortcut or collapsed reference. Asked: the questions so far, with their answers. Openers: the
-- opening brackets that are texts in the list being read, the nearest first
pub record State : Type 0 where
  pub at : ℕ
  pub expansion_left : ℕ
  pub label_close : Option ℕ
  pub asked : List Exchange
  pub openers : List Opener

-- the text is read up to a place
abbrev pub moved : ℕ → State → State
moved resume s = record { at = resume; expansion_left = s.expansion_left; label_close = s.label_close; asked = s.asked; openers = s.openers }

abbrev pub new_opener : Bracket → Opener
new_opener bracket = record { bracket = bracket; stands = true; doubles = true; is_inactive = false }

-- an opening bracket is a text until a closing one forms something with it
abbrev pub opened : Bracket → State → State
opened bracket s = record { at = bracket.end; expansion_left = s.expansion_left; label_close = s.label_close; asked = s.asked; openers = new_opener bracket ∷ s.openers }

-- a closing bracket is a text, or it forms this with an opening bracket, after which there are `nearer` other opening brackets
pub data Result : Type 0 where
  StaysText : Result
  Forms : (nearer : ℕ) → (formed : Formed) → Result

-- the result of a closing bracket, and the place at which reading resumes
pub record Outcome : Type 0 where
  pub result : Result
  pub after : State

-- the decision is settled, or it depends on the answer to a question
pub data Decision : Type 0 where
  Settled : (outcome : Outcome) → Decision
  Asks : (question : Question) → (answered : Option Destination → Outcome) → Decision
