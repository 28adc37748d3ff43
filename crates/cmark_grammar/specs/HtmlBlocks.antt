-- HTML blocks: their seven kinds of start and end (CommonMark 4.6). Examples: `<div>` begins a block of kind 6, and `<!-- a` one of kind 2.
use Rattle.std.specs.Prelude.{ℕ, Bool, false, ◌==◌, ◌&&◌, ◌||◌, not, nat_le, if◌then◌else◌, List, [], ◌∷◌, length, drop, take_while, map, codes, bytes_eq, Option, Some, None}
use Rattle.cmark_grammar.specs.Characters.{greater_than_sign, less_than_sign, slash}
use Rattle.cmark_grammar.specs.Columns.{bytes_of}
use Rattle.cmark_grammar.specs.Rows.{Row, is_blank_line, words_of}
use Rattle.cmark_grammar.specs.Leaves.{Continuation, GoesOn, Closes, Stops, counted, are_blank, is_parted}
use Rattle.cmark_grammar.specs.Tags.{is_name_byte, after_tag_start, no_prefix}
pub use Rattle.cmark_grammar.specs.Letters.{lower, is_letter, is_number, is_alphanumeric, starts, first_is}

abbrev pub holds : (word bs : List ℕ) → Bool
holds word [] = starts word []
holds word (b ∷ bs) = starts word (b ∷ bs) || holds word bs

abbrev pub is_among : List ℕ → List (List ℕ) → Bool
is_among word [] = false
is_among word (w ∷ words) = bytes_eq word w || is_among word words

-- the names of kind 1 (CommonMark 4.6)
abbrev pub raw_names : List (List ℕ)
raw_names = codes "pre" ∷ codes "script" ∷ codes "style" ∷ codes "textarea" ∷ []

-- the names of kind 6 (CommonMark 4.6)
abbrev pub block_names : List (List ℕ)
block_names =
    codes "address" ∷ codes "article" ∷ codes "aside" ∷ codes "base" ∷ codes "basefont" ∷ codes "blockquote" ∷ codes "body" ∷ codes "caption" ∷ codes "center"
    ∷ codes "col" ∷ codes "colgroup" ∷ codes "dd" ∷ codes "details" ∷ codes "dialog" ∷ codes "dir" ∷ codes "div" ∷ codes "dl" ∷ codes "dt" ∷ codes "fieldset"
    ∷ codes "figcaption" ∷ codes "figure" ∷ codes "footer" ∷ codes "form" ∷ codes "frame" ∷ codes "frameset" ∷ codes "h1" ∷ codes "h2" ∷ codes "h3" ∷ codes "h4"
    ∷ codes "h5" ∷ codes "h6" ∷ codes "head" ∷ codes "header" ∷ codes "hr" ∷ codes "html" ∷ codes "iframe" ∷ codes "legend" ∷ codes "li" ∷ codes "link"
    ∷ codes "main" ∷ codes "menu" ∷ codes "menuitem" ∷ codes "nav" ∷ codes "noframes" ∷ codes "ol" ∷ codes "optgroup" ∷ codes "option" ∷ codes "p" ∷ codes "param"
    ∷ codes "search" ∷ codes "section" ∷ codes "summary" ∷ codes "table" ∷ codes "tbody" ∷ codes "td" ∷ codes "tfoot" ∷ codes "th" ∷ codes "thead"
    ∷ codes "title" ∷ codes "tr" ∷ codes "track" ∷ codes "ul" ∷ []

-- the bytes of a tag after `<` or `</`
abbrev pub after_slash : List ℕ → List ℕ
after_slash [] = []
after_slash (b ∷ bs) = if b == slash then bs else b ∷ bs

abbrev pub name_in : List ℕ → List ℕ
name_in bs = take_while is_alphanumeric bs

abbrev pub after_name : List ℕ → List ℕ
after_name bs = drop (length (name_in bs)) bs

-- kind 1: the beginning of an opening tag whose content is taken literally, such as `<script`
abbrev pub begins_raw : List ℕ → Bool
begins_raw bs = is_among (name_in bs) raw_names && (is_parted (after_name bs) || first_is (λ b. b == greater_than_sign) (after_name bs))

-- kind 6: the beginning of a tag with a block's name, such as `<div`
abbrev pub begins_block : List ℕ → Bool
begins_block bs = is_among (name_in bs) block_names && (is_parted (after_name bs) || (first_is (λ b. b == greater_than_sign) (after_name bs) || starts (codes "/>") (after_name bs)))

-- only spaces and tabs after a part that was read
abbrev pub ends_in_blanks : Option (List ℕ) → Bool
ends_in_blanks None = false
ends_in_blanks (Some rest) = are_blank rest

-- kind 7: one complete opening or closing tag and then only blanks; its name is not a name of kind 1
abbrev pub is_lone_tag : List ℕ → Bool
is_lone_tag bs = ends_in_blanks (after_tag_start no_prefix bs) && not (is_among (map lower (take_while is_name_byte (after_slash bs))) raw_names)

-- the kind of an HTML block that begins with `<` and these bytes
abbrev pub kind_after : List ℕ → Option ℕ
kind_after bs =
    if begins_raw (map lower bs) then Some 1
    else if starts (codes "!--") bs then Some 2
    else if starts (codes "?") bs then Some 3
    else if starts (codes "![CDATA[") bs then Some 5
    else if starts (codes "!") bs && first_is is_letter (drop 1 bs) then Some 4
    else if begins_block (map lower (after_slash bs)) then Some 6
    else if is_lone_tag bs then Some 7
    else None

-- the kind of the HTML block that a line begins, if it begins one (CommonMark 4.6)
abbrev pub html_kind : List ℕ → Option ℕ
html_kind [] = None
html_kind (b ∷ bs) = if b == less_than_sign then kind_after bs else None

-- kinds 1 to 5 end with a line that contains their end
abbrev pub holds_end : ℕ → List ℕ → Bool
holds_end kind bs =
    if kind == 1 then holds (codes "</pre>") (map lower bs) || (holds (codes "</script>") (map lower bs) || (holds (codes "</style>") (map lower bs) || holds (codes "</textarea>") (map lower bs)))
    else if kind == 2 then holds (codes "-->") bs
    else if kind == 3 then holds (codes "?>") bs
    else if kind == 4 then holds (codes ">") bs
    else holds (codes "]]>") bs

-- kinds 6 and 7 end before a blank line
abbrev pub html_continuation : ℕ → Row → Continuation
html_continuation kind r =
    if nat_le 6 kind then (if is_blank_line r then Stops else GoesOn)
    else if holds_end kind (bytes_of r.columns) then Closes else GoesOn

-- the number of lines ahead that belong to an HTML block which begins on this line
abbrev pub html_lines : ℕ → Row → List Row → ℕ
html_lines kind r ahead = if nat_le kind 5 && holds_end kind (words_of r) then 0 else counted (html_continuation kind) ahead
