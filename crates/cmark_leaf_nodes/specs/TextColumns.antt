-- Columns whose bytes are in a text.
use Rattle.std.specs.Prelude.{◌≡◌, ℕ, suc, ◌==◌, true, List, [], ◌∷◌, drop}
use Rattle.cmark_grammar.specs.Columns.{Column}
use Rattle.cmark_line_rules.specs.Rests.{row_of, IsIn}
use Rattle.cmark_line_rules.specs.declared.line_rest.LineRest.{LineRest}

-- the byte that begins in the column is in the text, at the column's place
abbrev pub StandsInText : List ℕ → Column → Type 0
StandsInText text c = (c.part == 0) ≡ true → drop c.at text ≡ c.byte ∷ drop (suc c.at) text

abbrev pub StandInText : List ℕ → List Column → Type 0
StandInText text [] = Unit {0}
StandInText text (c ∷ cs) = StandsInText text c × StandInText text cs

-- the line is part of the text, and so are the bytes of its columns
pub record IsRead (text : List ℕ) (rest : LineRest) : Type 0 where
  pub placed : IsIn text rest
  pub in_text : StandInText text (row_of rest).columns
