-- Tokens of texts, and the results of closing brackets, computed.
use Rattle.std.specs.Prelude.{◌≡◌, ℕ, zero, suc, Bool, true, false, List, [], ◌∷◌, ◌++◌, codes, bytes_eq, if◌then◌else◌, length, map, Option, Some, None}
use Rattle.std.specs.Str.{chars}
use Rattle.std.proofs.Common.{refl}
use lib.Utf8.{encode}
use Rattle.caseless.proofs.Computing.{caseless}
use Rattle.ucd_category.proofs.Computing.{ucd_category}
use Rattle.cmark_grammar.specs.BlockDocument.{Reference as Definition}
use Rattle.cmark_grammar.specs.BracketDecisions.{decide}
use Rattle.cmark_grammar.specs.BracketStates.{Opener, State, Result, StaysText, Forms, Decision, Settled, Asks}
use Rattle.cmark_grammar.specs.Entities.{basic_entity}
use Rattle.cmark_grammar.specs.Flanking.{is_unicode_white_space, is_unicode_punctuation}
use Rattle.cmark_grammar.specs.Formulas.{no_braces, context_of, braces_after, inline_in}
use Rattle.cmark_grammar.specs.InlineTokens.{token}
use Rattle.cmark_grammar.specs.Items.{ItemKind, Plain, Own, Code, InlineMath, DisplayMath, Autolink, Html, OwnedHtml, SoftBreak, HardBreak, Bracket, Token, Stands}
use Rattle.cmark_grammar.specs.LeafText.{Stretch, Leaf}
use Rattle.cmark_grammar.specs.Options.{Options, no_options}
use Rattle.cmark_grammar.specs.Parts.{Linking, Footnote, Wiki}
use Rattle.cmark_grammar.specs.Readers.{Reader}

abbrev math : Options
math = record no_options { math = true }

abbrev footnotes : Options
footnotes = record no_options { footnotes = true }

abbrev wikilinks : Options
wikilinks = record no_options { wikilinks = true }

-- the definition is `[x]: /u`, the footnote `1`
abbrev x_is_u : List ℕ → Option Definition
x_is_u label = if bytes_eq label (codes "x") then Some (record { label = codes "x"; destination = codes "/u"; title = None; start = 0; end = 0 }) else None

abbrev pub reading : Options → List ℕ → Reader
reading options text = record { source = text; options = options; lookup = basic_entity; definition = x_is_u; has_footnote = λ label. bytes_eq label (codes "1"); has_callback = false }

abbrev stretch : (start end : ℕ) → Stretch
stretch start end = record { start = start; end = end }

abbrev paragraph : List Stretch → Leaf
paragraph stretches = record { stretches = stretches; is_cell = false }

abbrev cell : (start end : ℕ) → Leaf
cell start end = record { stretches = stretch start end ∷ []; is_cell = true }

abbrev pub whole : List ℕ → Leaf
whole text = paragraph (stretch 0 (length text) ∷ [])

-- ## Tokens

abbrev pub stands : ItemKind → (start end resume : ℕ) → Token
stands kind start end resume = Stands (record { kind = kind; start = start; end = end }) resume

-- adjacent literal bytes are one text
plain_text : token (reading no_options (codes "ab c*")) (whole (codes "ab c*")) 0 ≡ stands Plain 0 4 4
unfolding encode chars token ucd_category is_unicode_white_space is_unicode_punctuation
plain_text = refl

-- a text begins after a backslash that is removed
after_backslash : token (reading no_options (codes "\\*a")) (whole (codes "\\*a")) 0 ≡ stands Plain 1 3 3
unfolding encode chars token ucd_category is_unicode_white_space is_unicode_punctuation
after_backslash = refl

-- a line break removes the blanks after it, and its range is the line ending
soft_break : token (reading no_options (codes "a \n  b")) (whole (codes "a \n  b")) 1 ≡ stands SoftBreak 2 3 5
unfolding encode chars token ucd_category is_unicode_white_space is_unicode_punctuation
soft_break = refl

-- after two spaces it is hard, and begins with the blanks
hard_break : token (reading no_options (codes "a   \n b")) (whole (codes "a   \n b")) 1 ≡ stands HardBreak 1 5 6
unfolding encode chars token ucd_category is_unicode_white_space is_unicode_punctuation
hard_break = refl

-- a code span keeps the blanks at the beginning of its lines
code_with_blanks : token (reading no_options (codes "`a\n  b`")) (whole (codes "`a\n  b`")) 0 ≡ stands (Code (codes "a   b")) 0 7 7
unfolding encode chars token ucd_category is_unicode_white_space is_unicode_punctuation
code_with_blanks = refl

-- and leaves the prefixes out
code_over_prefix : token (reading no_options (codes "`a\n> b`")) (paragraph (stretch 0 3 ∷ (stretch 5 7 ∷ []))) 0 ≡ stands (Code (codes "a b")) 0 7 7
unfolding encode chars token ucd_category is_unicode_white_space is_unicode_punctuation
code_over_prefix = refl

-- a comment is sought in the source
comment_over_prefix : token (reading no_options (codes "<!-- a\n> -->")) (paragraph (stretch 0 7 ∷ (stretch 9 12 ∷ []))) 0 ≡ stands Html 0 12 12
unfolding encode chars token ucd_category is_unicode_white_space is_unicode_punctuation
comment_over_prefix = refl

-- the marker of a block quote closes a declaration, and the text continues after the prefix
declaration_at_marker : token (reading no_options (codes "<!A\n>  b")) (paragraph (stretch 0 4 ∷ (stretch 6 8 ∷ []))) 0 ≡ stands Html 0 5 7
unfolding encode chars token ucd_category is_unicode_white_space is_unicode_punctuation
declaration_at_marker = refl

-- a tag over lines owns its bytes without the prefixes
tag_over_lines : token (reading no_options (codes "<a\n> b>")) (paragraph (stretch 0 3 ∷ (stretch 5 7 ∷ []))) 0 ≡ stands (OwnedHtml (codes "<a\nb>")) 0 7 7
unfolding encode chars token ucd_category is_unicode_white_space is_unicode_punctuation
tag_over_lines = refl

-- an autolink comes before a tag
autolink_first : token (reading no_options (codes "<ab:c>")) (whole (codes "<ab:c>")) 0 ≡ stands (Autolink (codes "ab:c")) 0 6 6
unfolding encode chars token ucd_category is_unicode_white_space is_unicode_punctuation
autolink_first = refl

-- an escaped run of backticks that opens nothing is one text
escaped_run : token (reading no_options (codes "\\``a")) (whole (codes "\\``a")) 0 ≡ stands Own 1 3 3
unfolding encode chars token ucd_category is_unicode_white_space is_unicode_punctuation
escaped_run = refl

-- a dollar sign in another context of braces decides nothing
other_context : token (reading math (codes "$a{$}b$")) (whole (codes "$a{$}b$")) 0 ≡ stands (InlineMath (codes "a{$}b")) 0 7 7
unfolding encode chars token ucd_category is_unicode_white_space is_unicode_punctuation
other_context = refl

-- the first dollar sign of the same context decides
first_dollar_decides : token (reading math (codes "$a $b$")) (whole (codes "$a $b$")) 0 ≡ stands Own 0 1 1
unfolding encode chars token ucd_category is_unicode_white_space is_unicode_punctuation
first_dollar_decides = refl

-- two open a display
display : token (reading math (codes "$$a$$")) (whole (codes "$$a$$")) 0 ≡ stands (DisplayMath (codes "a")) 0 5 5
unfolding encode chars token ucd_category is_unicode_white_space is_unicode_punctuation
display = refl

-- which is no empty formula in the line
no_empty_formula : token (reading math (codes "$$a")) (whole (codes "$$a")) 0 ≡ stands Own 0 1 1
unfolding encode chars token ucd_category is_unicode_white_space is_unicode_punctuation
no_empty_formula = refl

-- 256 opening braces come back to the number of the outermost context, which is 255, and 255 do not; escaped ones do not count
copies : ℕ → ℕ → List ℕ
copies zero b = []
copies (suc n) b = b ∷ copies n b

context_after : List ℕ → ℕ
context_after bs = context_of (braces_after false bs no_braces)

contexts_of_256_braces : context_after (copies 256 123) ≡ 255
unfolding copies context_after
contexts_of_256_braces = refl

contexts_of_255_braces : context_after (copies 255 123) ≡ 254
unfolding copies context_after
contexts_of_255_braces = refl

-- so the dollar sign after 256 braces closes, and the one after 255 does not
formula_of_256_braces : inline_in no_braces (97 ∷ (copies 256 123 ++ codes "b$c")) ≡ Some (record { bytes = 97 ∷ (copies 256 123 ++ codes "b"); following = codes "c" })
unfolding copies
formula_of_256_braces = refl

no_formula_of_255_braces : inline_in no_braces (97 ∷ (copies 255 123 ++ codes "b$c")) ≡ None
unfolding copies
no_formula_of_255_braces = refl

-- a closing brace outside of all begins a context
outside_brace : context_after (codes "}") ≡ 0
unfolding context_after
outside_brace = refl

escaped_braces : context_after (codes "\\{\\\\{") ≡ 0
unfolding context_after
escaped_braces = refl

-- a display may be empty
empty_display : token (reading math (codes "$$$$")) (whole (codes "$$$$")) 0 ≡ stands (DisplayMath []) 0 4 4
unfolding encode chars token ucd_category is_unicode_white_space is_unicode_punctuation
empty_display = refl

-- a single dollar sign does not close a display formula
display_closed_by_two : token (reading math (codes "$$a$b$$")) (whole (codes "$$a$b$$")) 0 ≡ stands Own 0 1 1
unfolding encode chars token ucd_category is_unicode_white_space is_unicode_punctuation
display_closed_by_two = refl

-- without the option a dollar sign is a byte as any other
no_math : token (reading no_options (codes "$a$")) (whole (codes "$a$")) 0 ≡ stands Plain 0 3 3
unfolding encode chars token ucd_category is_unicode_white_space is_unicode_punctuation
no_math = refl

-- in a cell the backslash of a pipe is left out of code
pipe_in_cell : token (reading no_options (codes "`a\\|b`")) (cell 0 6) 0 ≡ stands (Code (codes "a|b")) 0 6 6
unfolding encode chars token ucd_category is_unicode_white_space is_unicode_punctuation
pipe_in_cell = refl

-- and two backslashes before a pipe are dropped
two_backslashes_in_cell : token (reading no_options (codes "\\\\|a")) (cell 0 4) 0 ≡ stands Plain 2 4 4
unfolding encode chars token ucd_category is_unicode_white_space is_unicode_punctuation
two_backslashes_in_cell = refl

-- ## Closing brackets

abbrev bracket_at : (is_image : Bool) → (start end : ℕ) → Opener
bracket_at is_image start end = record { bracket = record { is_image = is_image; start = start; end = end }; stands = true; doubles = true; is_inactive = false }

abbrev fresh : (start : ℕ) → Opener
fresh start = bracket_at false start (suc start)

abbrev used : (start : ℕ) → Opener
used start = record (fresh start) { stands = false }

abbrev inactive : (start : ℕ) → Opener
inactive start = record (fresh start) { is_inactive = true }

abbrev closing : (start : ℕ) → Bracket
closing start = record { is_image = false; start = start; end = suc start }

abbrev state_at : (at expansion_left : ℕ) → List Opener → State
state_at at expansion_left openers = record { at = at; expansion_left = expansion_left; label_close = None; asked = []; openers = openers }

-- the result of a closing bracket: nothing; or the number of nearer opening brackets, the place at which reading resumes, and the brackets
-- that are then neither used up nor dropped, doubled and inactive
pub data Came : Type 0 where
  ToNothing : Came
  ToLink : (nearer : ℕ) → (destination : List ℕ) → (resume : ℕ) → Came
  ToFootnote : (nearer : ℕ) → (label : List ℕ) → Came
  ToWikilink : (nearer : ℕ) → (name : List ℕ) → (display : Option ℕ) → (resume : ℕ) → Came
  ToQuestion : Came

abbrev result_as : Result → (resume : ℕ) → Came
result_as StaysText resume = ToNothing
result_as (Forms nearer (Linking target)) resume = ToLink nearer target.linked.destination resume
result_as (Forms nearer (Footnote label end)) resume = ToFootnote nearer label
result_as (Forms nearer (Wiki name display end)) resume = ToWikilink nearer name display resume

abbrev comes_as : Decision → Came
comes_as (Settled outcome) = result_as outcome.result outcome.after.at
comes_as (Asks question answered) = ToQuestion

abbrev left : Decision → List Opener
left (Settled outcome) = outcome.after.openers
left (Asks question answered) = []

abbrev decided : Options → (text : List ℕ) → (close expansion_left : ℕ) → List Opener → Decision
decided options text close expansion_left openers = decide (reading options text) (whole text) (state_at close expansion_left openers) (closing close)

-- a closing bracket takes the nearest opening one that is not used up
nearest_that_stands : comes_as (decided no_options (codes "[[a] b](u)") 6 100 (used 1 ∷ fresh 0 ∷ [])) ≡ ToLink 1 (codes "u") 10
unfolding caseless encode chars decide ucd_category
nearest_that_stands = refl

-- an inactive one forms nothing
inactive_bracket : comes_as (decided no_options (codes "[a](u)") 2 100 (inactive 0 ∷ [])) ≡ ToNothing
unfolding caseless encode chars decide ucd_category
inactive_bracket = refl

-- and is used up
used_up : map Opener.stands (left (decided no_options (codes "[a](u)") 2 100 (inactive 0 ∷ []))) ≡ false ∷ []
unfolding caseless encode chars decide ucd_category
used_up = refl

-- a link makes those before it inactive that open no image
link_makes_inactive : map Opener.is_inactive (left (decided no_options (codes "[![[a](u)") 5 100 (fresh 3 ∷ bracket_at true 1 3 ∷ fresh 0 ∷ []))) ≡ false ∷ (true ∷ [])
unfolding caseless encode chars decide ucd_category
link_makes_inactive = refl

-- an image makes no bracket inactive
image_makes_none : map Opener.is_inactive (left (decided no_options (codes "[![a](u)") 4 100 (bracket_at true 1 3 ∷ fresh 0 ∷ []))) ≡ false ∷ []
unfolding caseless encode chars decide ucd_category
image_makes_none = refl

-- a shortcut reference
shortcut : comes_as (decided no_options (codes "[x] a") 2 100 (fresh 0 ∷ [])) ≡ ToLink 0 (codes "/u") 3
unfolding caseless encode chars decide ucd_category
shortcut = refl

-- a collapsed reference includes the brackets after it
collapsed : comes_as (decided no_options (codes "[x][]") 2 100 (fresh 0 ∷ [])) ≡ ToLink 0 (codes "/u") 5
unfolding caseless encode chars decide ucd_category
collapsed = refl

-- a full reference
full : comes_as (decided no_options (codes "[a][x]") 2 100 (fresh 0 ∷ [])) ≡ ToLink 0 (codes "/u") 6
unfolding caseless encode chars decide ucd_category
full = refl

-- if its label has no definition, the text between the brackets is not tried
full_without_definition : comes_as (decided no_options (codes "[x][a]") 2 100 (fresh 0 ∷ [])) ≡ ToNothing
unfolding caseless encode chars decide ucd_category
full_without_definition = refl

-- when the reference expansion limit is used up nothing is looked up
spent : comes_as (decided no_options (codes "[x]") 2 0 (fresh 0 ∷ [])) ≡ ToNothing
unfolding caseless encode chars decide ucd_category
spent = refl

-- a footnote reference, also when the reference expansion limit is used up
footnote : comes_as (decided footnotes (codes "[^1]") 3 0 (fresh 0 ∷ [])) ≡ ToFootnote 0 (codes "1")
unfolding caseless encode chars decide ucd_category
footnote = refl

-- a footnote reference drops the brackets before it
footnote_drops : map Opener.stands (left (decided footnotes (codes "[![[^1]") 6 100 (fresh 3 ∷ bracket_at true 1 3 ∷ fresh 0 ∷ []))) ≡ false ∷ (false ∷ [])
unfolding caseless encode chars decide ucd_category
footnote_drops = refl

-- and needs a footnote
no_footnote : comes_as (decided footnotes (codes "[^2]") 3 100 (fresh 0 ∷ [])) ≡ ToNothing
unfolding caseless encode chars decide ucd_category
no_footnote = refl

-- a wikilink takes a doubled bracket past nearer ones
wikilink : comes_as (decided wikilinks (codes "[[a [b|c]]") 8 100 (fresh 4 ∷ fresh 1 ∷ fresh 0 ∷ [])) ≡ ToWikilink 2 (codes "a [b") (Some 7) 10
unfolding caseless encode chars decide ucd_category
wikilink = refl

-- and has a name
empty_name : comes_as (decided wikilinks (codes "[[|b]]") 4 100 (fresh 1 ∷ fresh 0 ∷ [])) ≡ ToNothing
unfolding caseless encode chars decide ucd_category
empty_name = refl

-- a doubled bracket that was tried is not tried again
undoubled : map Opener.doubles (left (decided wikilinks (codes "[[|b]]") 4 100 (fresh 1 ∷ fresh 0 ∷ []))) ≡ true ∷ (false ∷ [])
unfolding caseless encode chars decide ucd_category
undoubled = refl

-- two brackets with an image's bracket between them are not doubled
image_in_between : comes_as (decided wikilinks (codes "[![a]]") 4 100 (bracket_at true 1 3 ∷ fresh 0 ∷ [])) ≡ ToNothing
unfolding caseless encode chars decide ucd_category
image_in_between = refl
