-- Readings by the list of the answers to their questions.
use Rattle.std.specs.Prelude.{List, [], ◌∷◌, Option}
use Rattle.cmark_grammar.specs.Answers.{Destination}
use Rattle.cmark_grammar.specs.Questions.{Exchange}

-- the answers, in order
abbrev pub answers_of : List Exchange → List (Option Destination)
answers_of [] = []
answers_of (x ∷ xs) = x.answer ∷ answers_of xs
