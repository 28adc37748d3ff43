-- The part of a link after its closing bracket (CommonMark 6.3): a destination and a title in parentheses, or a label.
use Rattle.std.specs.Prelude.{ℕ, Bool, false, ◌==◌, ◌&&◌, ◌||◌, not, List, [], ◌∷◌, codes, Option, Some, None, option_map}
use Rattle.cmark_grammar.specs.Characters.{left_bracket, left_parenthesis, right_bracket, right_parenthesis}
use Rattle.cmark_grammar.specs.Destinations.{link_destination_in}
use Rattle.cmark_grammar.specs.Letters.{after_if, after_start_of, and_then}
use Rattle.cmark_grammar.specs.LinkDefinitions.{Parsed, escapes_next, is_label, label_in, title_in, after_separator}

-- the destination and the title of an inline link, as written, and the bytes after its closing parenthesis
pub record LinkTail : Type 0 where
  pub destination : List ℕ
  pub title : Option (List ℕ)
  pub following : List ℕ

-- a closing parenthesis follows the destination and the title
abbrev pub closed_tail : (destination : List ℕ) → (title : Option (List ℕ)) → List ℕ → Option LinkTail
closed_tail destination title bs = option_map (λ following. record { destination = destination; title = title; following = following }) (after_if (λ b. b == right_parenthesis) (after_separator bs))

-- a title may follow its destination without a space (this profile's own)
abbrev pub with_title : (destination title : Option Parsed) → Option LinkTail
with_title None title = None
with_title (Some destination) None = closed_tail destination.bytes None destination.following
with_title (Some destination) (Some title) = closed_tail destination.bytes (Some title.bytes) title.following

abbrev pub title_after : Option Parsed → Option Parsed
title_after None = None
title_after (Some destination) = title_in (after_separator destination.following)

-- the content of the parentheses, after the opening one
abbrev pub tail_inside : List ℕ → Option LinkTail
tail_inside bs = with_title (link_destination_in (after_separator bs)) (title_after (link_destination_in (after_separator bs)))

-- the parentheses after the bracket (CommonMark 6.3): a destination, which may be empty, and a title, if there is one. Example: `(/url
-- "title")`
abbrev pub link_tail_in : List ℕ → Option LinkTail
link_tail_in bs = and_then (after_if (λ b. b == left_parenthesis) bs) tail_inside

-- the label of a full reference, after the bracket (CommonMark 6.3). Example: `[label]`
abbrev pub reference_label_in : List ℕ → Option Parsed
reference_label_in bs = and_then (after_if (λ b. b == left_bracket) bs) label_in

-- the bytes after the brackets of a collapsed reference
abbrev pub after_collapsed : List ℕ → Option (List ℕ)
after_collapsed bs = after_start_of (codes "[]") bs

-- the bytes contain an unescaped bracket
abbrev pub has_bracket : (escaped : Bool) → List ℕ → Bool
has_bracket escaped [] = false
has_bracket escaped (b ∷ bs) = (not escaped && ((b == left_bracket) || (b == right_bracket))) || has_bracket (escapes_next escaped b) bs

-- the text between two brackets is a label: 1 to 999 characters, not only white space, and no unescaped bracket
abbrev pub is_bracketed_label : List ℕ → Bool
is_bracketed_label bs = not (has_bracket false bs) && is_label bs
