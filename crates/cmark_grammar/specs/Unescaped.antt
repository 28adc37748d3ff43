-- Texts without their escapes and entities (CommonMark 2.4 and 2.5; tables: GFM 4.10). Example: `\*&amp;` becomes `*&`.
use Rattle.std.specs.Prelude.{ℕ, Bool, if◌then◌else◌, List, [], ◌∷◌}
use Rattle.cmark_grammar.specs.Characters.{backslash, pipe}
use Rattle.cmark_grammar.specs.Answers.{Lookup}
use Rattle.cmark_grammar.specs.Letters.{starts}
use Rattle.cmark_grammar.specs.Tokens.{resolved}

-- an escaped backslash and a pipe, which are a literal pipe in a table cell (this profile's own)
abbrev pub escaped_pipe : List ℕ
escaped_pipe = backslash ∷ backslash ∷ pipe ∷ []

-- without the backslash directly before an escaped pipe
abbrev pub with_escaped_pipes : List ℕ → List ℕ
with_escaped_pipes [] = []
with_escaped_pipes (b ∷ bs) = if starts escaped_pipe (b ∷ bs) then with_escaped_pipes bs else b ∷ with_escaped_pipes bs

-- a backslash before ASCII punctuation is removed, and an entity becomes its text; in a table cell `\\|` becomes `\|`
abbrev pub unescaped : Lookup → (is_in_table : Bool) → List ℕ → List ℕ
unescaped lookup is_in_table bs = resolved lookup (if is_in_table then with_escaped_pipes bs else bs)
