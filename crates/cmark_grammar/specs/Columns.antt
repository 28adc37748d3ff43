-- The columns of a line (CommonMark 2.2: a tab is as wide as the spaces up to the next tab stop; tab stops are four columns apart).
-- Example: after two columns a tab is two columns wide.
use Rattle.std.specs.Prelude.{ℕ, zero, suc, ◌+◌, ◌-◌, ◌%◌, Bool, ◌==◌, ◌||◌, if◌then◌else◌, List, [], ◌∷◌, ◌++◌, length, drop, take_while}
use Rattle.cmark_grammar.specs.Characters.{space, tab}

-- a column of a line: its byte, and the place of that byte in the text. Part: the number of columns of the same byte before it, which is
-- zero except in a tab
pub record Column : Type 0 where
  pub byte : ℕ
  pub at : ℕ
  pub part : ℕ

-- `n` columns of a tab, from column `part` of the tab on
abbrev pub tab_columns : ℕ → ℕ → ℕ → List Column
tab_columns at part zero = []
tab_columns at part (suc n) = record { byte = tab; at = at; part = part } ∷ tab_columns at (suc part) n

-- the number of columns from this one to the next tab stop
abbrev pub to_tab_stop : ℕ → ℕ
to_tab_stop column = 4 - column % 4

-- the columns of these bytes, if the first byte is in this column and at this place of the text
abbrev pub expand : ℕ → ℕ → List ℕ → List Column
expand column at [] = []
expand column at (b ∷ bs) =
    if b == tab then tab_columns at 0 (to_tab_stop column) ++ expand (column + to_tab_stop column) (suc at) bs
    else record { byte = b; at = at; part = 0 } ∷ expand (suc column) (suc at) bs

-- spaces and tabs are the blanks
abbrev pub is_blank_byte : ℕ → Bool
is_blank_byte b = (b == space) || (b == tab)

abbrev pub is_blank : Column → Bool
is_blank c = is_blank_byte c.byte

-- the number of blank columns at the beginning
abbrev pub indent : List Column → ℕ
indent cs = length (take_while is_blank cs)

abbrev pub without_indent : List Column → List Column
without_indent cs = drop (indent cs) cs

-- the element before a list; if the list is empty, only if it is kept
abbrev pub put_before : {A : Type 0} → (dropped : Bool) → A → List A → List A
put_before dropped x [] = if dropped then [] else x ∷ []
put_before dropped x (y ∷ ys) = x ∷ (y ∷ ys)

-- the list without the elements at its end that pass the test
abbrev pub drop_end : {A : Type 0} → (A → Bool) → List A → List A
drop_end p [] = []
drop_end p (x ∷ xs) = put_before (p x) x (drop_end p xs)

abbrev pub without_trailing_blanks : List Column → List Column
without_trailing_blanks cs = drop_end is_blank cs

-- the bytes that begin in these columns
abbrev pub bytes_of : List Column → List ℕ
bytes_of [] = []
bytes_of (c ∷ cs) = if c.part == 0 then c.byte ∷ bytes_of cs else bytes_of cs
