-- The destinations of links (CommonMark 6.3).
use Rattle.std.specs.Prelude.{ℕ, ◌==◌, false, if◌then◌else◌, List, drop, Option}
use Rattle.cmark_grammar.specs.Characters.{greater_than_sign, less_than_sign}
use Rattle.cmark_grammar.specs.Letters.{first_is}
use Rattle.cmark_grammar.specs.LinkDefinitions.{Parsed, up_to, bare_in}

-- in angle brackets on one line, or bare; either may be empty. Examples: `<a b>`, `/url`
abbrev pub link_destination_in : List ℕ → Option Parsed
link_destination_in bs = if first_is (λ b. b == less_than_sign) bs then up_to false greater_than_sign less_than_sign false (drop 1 bs) else bare_in false 0 bs
