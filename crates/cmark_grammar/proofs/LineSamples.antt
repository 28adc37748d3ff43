-- Lines, by computation: where they end, and their columns (CommonMark 2.1 and 2.2).
use Rattle.std.specs.Prelude.{◌≡◌, [], ◌∷◌, codes, map}
use Rattle.std.proofs.Common.{refl}
use Rattle.cmark_grammar.specs.Lines.{lines, content}
use Rattle.cmark_grammar.specs.Rows.{row_at, rows, without, indent_of, words_of, begin_of, start_of}

-- a line ends with a line feed, a carriage return, or both
endings : lines (codes "a\nb\rc\r\nd") ≡ codes "a\n" ∷ codes "b\r" ∷ codes "c\r\n" ∷ codes "d" ∷ []
endings = refl

blank_lines : lines (codes "\n\r\r\n") ≡ codes "\n" ∷ codes "\r" ∷ codes "\r\n" ∷ []
blank_lines = refl

no_line : lines [] ≡ []
no_line = refl

contents : map content (lines (codes "a\nb\r\n\n")) ≡ codes "a" ∷ codes "b" ∷ [] ∷ []
contents = refl

-- the place of each line, and of its first byte after the indent
places : map begin_of (rows (codes "a\r\n\tb\n c")) ≡ 0 ∷ 3 ∷ 6 ∷ []
places = refl

starts : map start_of (rows (codes "a\r\n\tb\n c")) ≡ 0 ∷ 4 ∷ 7 ∷ []
starts = refl

-- a tab goes to the next multiple of four columns
tab : indent_of (row_at 0 (codes "  \tfoo")) ≡ 4
tab = refl

tabs : indent_of (row_at 0 (codes "\t\tfoo")) ≡ 8
tabs = refl

words : words_of (row_at 0 (codes " \tfoo\tbaz")) ≡ codes "foo\tbaz"
words = refl

-- example 6: two of the three columns of the tab are left after the prefix
rest_of_a_tab : indent_of (without 2 (row_at 0 (codes ">\t\tfoo"))) ≡ 6
rest_of_a_tab = refl
