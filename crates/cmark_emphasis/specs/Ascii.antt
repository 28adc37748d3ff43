-- Characters of ASCII.
use Rattle.std.specs.Prelude.{ℕ, Bool, ◌==◌, ◌||◌}
use Rattle.cmark_grammar.specs.Characters.{carriage_return, form_feed, line_feed, space, tab}

-- white space in ASCII (CommonMark 2.1)
abbrev pub is_ascii_white_space : ℕ → Bool
is_ascii_white_space c = (c == space) || ((c == tab) || ((c == line_feed) || ((c == form_feed) || (c == carriage_return))))
