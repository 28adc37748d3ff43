-- The labels of links and footnotes, and when two labels are equal (CommonMark 4.7). Example: ` Foo  BAR ` and `foo bar` are equal.
use Rattle.std.specs.Prelude.{ℕ, Bool, nat_lt, List, length, filter, chars, encode_utf8_all}
use Rattle.std.specs.Char.{is_ascii_whitespace}
use Rattle.std.specs.List.{slice_split, join_with_byte}
use Rattle.cmark_grammar.specs.Characters.{space}
use Rattle.caseless.specs.Caseless.{default_case_fold}

abbrev pub is_nonempty : List ℕ → Bool
is_nonempty bytes = nat_lt 0 (length bytes)

-- the parts of a text between its bytes of ASCII white space (tab, line feed, form feed, carriage return, space),
-- without the empty ones
abbrev pub words : List ℕ → List (List ℕ)
words text = filter is_nonempty (slice_split is_ascii_whitespace text)

-- a label without white space at both ends, and with one space for each run of it inside
abbrev pub normal_form : List ℕ → List ℕ
normal_form label = join_with_byte space (words label)

-- the text with Unicode's full case folding
abbrev pub case_folded : List ℕ → List ℕ
case_folded text = encode_utf8_all (default_case_fold (chars text))

-- two labels are equal if their folded forms are
abbrev pub fold : List ℕ → List ℕ
fold label = case_folded (normal_form label)
