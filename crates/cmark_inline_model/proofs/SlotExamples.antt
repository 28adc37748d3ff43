-- Texts of one leaf, read from the slots into which their pairs write, computed as HTML.
use Rattle.std.specs.Prelude.{◌≡◌, true, List, ℕ, [], ◌∷◌, ◌++◌, codes, length}
use Rattle.std.specs.Str.{chars}
use Rattle.std.proofs.Common.{refl}
use lib.Utf8.{encode}
use Rattle.caseless.proofs.Computing.{caseless}
use Rattle.ucd_category.proofs.Computing.{ucd_category}
use Rattle.cmark_grammar.specs.BracketDecisions.{decide}
use Rattle.cmark_grammar.specs.Emphasis.{agrees, pair_of, rest_of_opener, rest_of_closer, kinds_of, deactivates}
use Rattle.cmark_inline_model.specs.EmphasisModel.{closed, pairs_of}
use Rattle.cmark_grammar.specs.Event.{Ranged}
use Rattle.cmark_grammar.specs.Flanking.{is_unicode_white_space, is_unicode_punctuation}
use Rattle.cmark_grammar.specs.InlineTokens.{token}
use Rattle.cmark_grammar.specs.Options.{Options, no_options}
use Rattle.cmark_grammar.specs.Quotes.{quote_characters}
use Rattle.cmark_grammar.specs.Siblings.{Inline, quotes_of}
use Rattle.cmark_inline_model.specs.RunSpans.{runs_from}
use Rattle.cmark_inline_model.specs.SiblingsModel.{siblings_of}
use Rattle.cmark_inline_model.specs.LeafModel.{leaf_parts}
use Rattle.cmark_inline_model.specs.SlotRows.{row_of, byte_places, quote_places, quoted, marked, marks_by, slot_events}
use Rattle.cmark_inline_model.proofs.SampleReading.{never, plain_reader, whole, start, html_of, says}

abbrev siblings : Options → List ℕ → Inline
siblings options text = siblings_of options (leaf_parts (plain_reader options text) never (whole text) start)

abbrev read_siblings : Options → (source : List ℕ) → Inline → (bytes : List ℕ) → List Ranged
read_siblings options source inline bytes =
    slot_events source
    (marked options bytes (marks_by (length bytes) (pairs_of (runs_from inline 0)))
    (quoted (quote_places 0 inline) (quote_characters [] (quotes_of inline)) (row_of inline)) []) []

abbrev read_off : Options → List ℕ → List Ranged
read_off options text = read_siblings options text (siblings options text) (byte_places 0 (siblings options text))

abbrev html_off : Options → List ℕ → List ℕ
html_off options text = html_of (read_off options text)

abbrev strikethrough : Options
strikethrough = record no_options { strikethrough = true; superscript = true }

abbrev subscript : Options
subscript = record no_options { subscript = true }

abbrev smart : Options
smart = record no_options { smart_punctuation = true }

-- CommonMark 6.2: two bytes a side inside of one
nested : html_off no_options (codes "***foo** bar*") ≡ codes "<em><strong>foo</strong> bar</em>"
unfolding caseless encode chars token decide ucd_category is_unicode_white_space is_unicode_punctuation agrees pair_of rest_of_opener rest_of_closer kinds_of deactivates closed
nested = refl

-- CommonMark 6.2: bytes that are left over stay texts
left_over : html_off no_options (codes "**foo*") ≡ codes "*<em>foo</em>"
unfolding caseless encode chars token decide ucd_category is_unicode_white_space is_unicode_punctuation agrees pair_of rest_of_opener rest_of_closer kinds_of deactivates closed
left_over = refl

-- the content of a link has slots of its own
around_link : html_off no_options (codes "**a [b *c*](/u) d** `e`") ≡ codes "<strong>a <a href=\"/u\">b <em>c</em></a> d</strong> <code>e</code>"
unfolding caseless encode chars token decide ucd_category is_unicode_white_space is_unicode_punctuation agrees pair_of rest_of_opener rest_of_closer kinds_of deactivates closed
around_link = refl

-- GFM 6.5, and superscript
tildes : html_off strikethrough (codes "~a~ ~~b *c*~~ ^d^") ≡ codes "<del>a</del> <del>b <em>c</em></del> <sup>d</sup>"
unfolding caseless encode chars token decide ucd_category is_unicode_white_space is_unicode_punctuation agrees pair_of rest_of_opener rest_of_closer kinds_of deactivates closed
tildes = refl

-- two tildes without strikethrough are one text, whatever is between them
one_text : read_off subscript (codes "~~a *b*~~") ≡ says 0 9 (codes "~~a *b*~~") ∷ []
unfolding caseless encode chars token decide ucd_category is_unicode_white_space is_unicode_punctuation agrees pair_of rest_of_opener rest_of_closer kinds_of deactivates closed
one_text = refl

over_a_link : read_off subscript (codes "~~a [b](/u)~~ c") ≡ says 0 13 (codes "~~a [b](/u)~~") ∷ (says 13 15 (codes " c") ∷ [])
unfolding caseless encode chars token decide ucd_category is_unicode_white_space is_unicode_punctuation agrees pair_of rest_of_opener rest_of_closer kinds_of deactivates closed
over_a_link = refl

-- quotes are characters in their slots
in_quotes : html_off smart (codes "*\"a\"* b") ≡ codes "<em>" ++ ((226 ∷ 128 ∷ 156 ∷ []) ++ (codes "a" ++ ((226 ∷ 128 ∷ 157 ∷ []) ++ codes "</em> b")))
unfolding caseless encode chars token decide ucd_category is_unicode_white_space is_unicode_punctuation agrees pair_of rest_of_opener rest_of_closer kinds_of deactivates closed
in_quotes = refl
