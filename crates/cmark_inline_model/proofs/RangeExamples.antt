-- Texts with the ranges of their events, computed.
use Rattle.std.specs.Prelude.{◌≡◌, true, false, [], ◌∷◌, codes}
use Rattle.std.specs.Str.{chars}
use Rattle.std.proofs.Common.{refl}
use lib.Utf8.{encode}
use Rattle.caseless.proofs.Computing.{caseless}
use Rattle.ucd_category.proofs.Computing.{ucd_category}
use Rattle.cmark_grammar.specs.BracketDecisions.{decide}
use Rattle.cmark_grammar.specs.Emphasis.{agrees, pair_of, rest_of_opener, rest_of_closer, kinds_of, deactivates}
use Rattle.cmark_inline_model.specs.EmphasisModel.{closed}
use Rattle.cmark_grammar.specs.Flanking.{is_unicode_white_space, is_unicode_punctuation}
use Rattle.cmark_grammar.specs.InlineTokens.{token}
use Rattle.cmark_grammar.specs.Event.{Code, HardBreak, InlineHtml, InlineMath, SoftBreak}
use Rattle.cmark_grammar.specs.LinkType.{Inline, WikiLink}
use Rattle.cmark_grammar.specs.Options.{Options, no_options}
use Rattle.cmark_grammar.specs.Tag.{Emphasis, Image, Link, Strong}
use Rattle.cmark_inline_model.proofs.SampleReading.{at, begins, cell, ends, events_in, events_with, leading, paragraph, says, stretch}

abbrev math : Options
math = record no_options { math = true }

abbrev subscript : Options
subscript = record no_options { subscript = true }

abbrev wikilinks : Options
wikilinks = record no_options { wikilinks = true }

emphasis_ranges : events_with no_options (codes "a ***b*** c") ≡ says 0 2 (codes "a ") ∷ (begins 2 9 Emphasis ∷ (begins 3 8 Strong ∷ (says 5 6 (codes "b") ∷ (ends 3 8 Strong ∷ (ends 2 9 Emphasis ∷ (says 9 11 (codes " c") ∷ []))))))
unfolding caseless encode chars token decide ucd_category is_unicode_white_space is_unicode_punctuation agrees pair_of rest_of_opener rest_of_closer kinds_of deactivates closed
emphasis_ranges = refl

link_ranges : events_with no_options (codes "a [b](c) d")
    ≡ says 0 2 (codes "a ") ∷ (begins 2 8 (Link (leading Inline (codes "c") [] [])) ∷ (says 3 4 (codes "b") ∷ (ends 2 8 (Link (leading Inline (codes "c") [] [])) ∷ (says 8 10 (codes " d") ∷ []))))
unfolding caseless encode chars token decide ucd_category is_unicode_white_space is_unicode_punctuation agrees pair_of rest_of_opener rest_of_closer kinds_of deactivates closed
link_ranges = refl

emphasis_first : events_with no_options (codes "*hello* world") ≡ begins 0 7 Emphasis ∷ (says 1 6 (codes "hello") ∷ (ends 0 7 Emphasis ∷ (says 7 13 (codes " world") ∷ [])))
unfolding caseless encode chars token decide ucd_category is_unicode_white_space is_unicode_punctuation agrees pair_of rest_of_opener rest_of_closer kinds_of deactivates closed
emphasis_first = refl

-- two tildes without strikethrough are one text over all of it
whole_text_of_tildes : events_with subscript (codes "a ~~b *c* d~~ e") ≡ says 0 2 (codes "a ") ∷ (says 2 13 (codes "~~b *c* d~~") ∷ (says 13 15 (codes " e") ∷ []))
unfolding caseless encode chars token decide ucd_category is_unicode_white_space is_unicode_punctuation agrees pair_of rest_of_opener rest_of_closer kinds_of deactivates closed
whole_text_of_tildes = refl

-- a text of no bytes
empty_display_range : events_with wikilinks (codes "[[a|]]") ≡ begins 0 6 (Link (leading (WikiLink true) (codes "a") [] [])) ∷ (says 4 4 [] ∷ (ends 0 6 (Link (leading (WikiLink true) (codes "a") [] [])) ∷ []))
unfolding caseless encode chars token decide ucd_category is_unicode_white_space is_unicode_punctuation agrees pair_of rest_of_opener rest_of_closer kinds_of deactivates closed
empty_display_range = refl

display_range : events_with wikilinks (codes "For a new ferrari, [[Wikientry|click here]]!")
    ≡ says 0 19 (codes "For a new ferrari, ") ∷ (begins 19 43 (Link (leading (WikiLink true) (codes "Wikientry") [] [])) ∷ (says 31 41 (codes "click here")
    ∷ (ends 19 43 (Link (leading (WikiLink true) (codes "Wikientry") [] [])) ∷ (says 43 44 (codes "!") ∷ []))))
unfolding caseless encode chars token decide ucd_category is_unicode_white_space is_unicode_punctuation agrees pair_of rest_of_opener rest_of_closer kinds_of deactivates closed
display_range = refl

-- a tag over lines is without the prefixes of its lines
tag_over_prefixes : events_in no_options (codes "> <foo\n> bar>") (paragraph (stretch 2 7 ∷ stretch 9 13 ∷ [])) ≡ at 2 13 (InlineHtml (codes "<foo\nbar>")) ∷ []
unfolding caseless encode chars token decide ucd_category is_unicode_white_space is_unicode_punctuation agrees pair_of rest_of_opener rest_of_closer kinds_of deactivates closed
tag_over_prefixes = refl

-- code leaves the prefixes out, and keeps the blanks
code_over_prefixes : events_in no_options (codes "> `a\n>   b`") (paragraph (stretch 2 5 ∷ stretch 7 11 ∷ [])) ≡ at 2 11 (Code (codes "a   b")) ∷ []
unfolding caseless encode chars token decide ucd_category is_unicode_white_space is_unicode_punctuation agrees pair_of rest_of_opener rest_of_closer kinds_of deactivates closed
code_over_prefixes = refl

-- a comment is a part of the source, prefixes and all
comment_over_prefixes : events_in no_options (codes "> x <!-- a\n> b -->") (paragraph (stretch 2 11 ∷ stretch 13 18 ∷ [])) ≡ says 2 4 (codes "x ") ∷ (at 4 18 (InlineHtml (codes "<!-- a\n> b -->")) ∷ [])
unfolding caseless encode chars token decide ucd_category is_unicode_white_space is_unicode_punctuation agrees pair_of rest_of_opener rest_of_closer kinds_of deactivates closed
comment_over_prefixes = refl

-- the marker of a block quote closes a declaration
prefix_closes_declaration : events_in no_options (codes "> x <!A\n> b>") (paragraph (stretch 2 8 ∷ stretch 10 12 ∷ [])) ≡ says 2 4 (codes "x ") ∷ (at 4 9 (InlineHtml (codes "<!A\n>")) ∷ (says 10 12 (codes "b>") ∷ []))
unfolding caseless encode chars token decide ucd_category is_unicode_white_space is_unicode_punctuation agrees pair_of rest_of_opener rest_of_closer kinds_of deactivates closed
prefix_closes_declaration = refl

instruction_over_prefixes : events_in no_options (codes "> x <? a\n> b ?> c") (paragraph (stretch 2 9 ∷ stretch 11 17 ∷ [])) ≡ says 2 4 (codes "x ") ∷ (at 4 15 (InlineHtml (codes "<? a\n> b ?>")) ∷ (says 15 17 (codes " c") ∷ []))
unfolding caseless encode chars token decide ucd_category is_unicode_white_space is_unicode_punctuation agrees pair_of rest_of_opener rest_of_closer kinds_of deactivates closed
instruction_over_prefixes = refl

cdata_over_prefixes : events_in no_options (codes "> x <![CDATA[ a\n> b ]]> c") (paragraph (stretch 2 17 ∷ stretch 19 25 ∷ [])) ≡ says 2 4 (codes "x ") ∷ (at 4 23 (InlineHtml (codes "<![CDATA[ a\n> b ]]>")) ∷ (says 23 25 (codes " c") ∷ []))
unfolding caseless encode chars token decide ucd_category is_unicode_white_space is_unicode_punctuation agrees pair_of rest_of_opener rest_of_closer kinds_of deactivates closed
cdata_over_prefixes = refl

-- a tab that a prefix cuts belongs to the prefix
cut_tab : events_in no_options (codes "- a `b\n\tc`") (paragraph (stretch 2 7 ∷ stretch 8 10 ∷ [])) ≡ says 2 4 (codes "a ") ∷ (at 4 10 (Code (codes "b c")) ∷ [])
unfolding caseless encode chars token decide ucd_category is_unicode_white_space is_unicode_punctuation agrees pair_of rest_of_opener rest_of_closer kinds_of deactivates closed
cut_tab = refl

-- one text of tildes is a part of the source
whole_text_over_prefixes : events_in subscript (codes "> a ~~b\n> *c* d~~ e") (paragraph (stretch 2 8 ∷ stretch 10 19 ∷ [])) ≡ says 2 4 (codes "a ") ∷ (says 4 17 (codes "~~b\n> *c* d~~") ∷ (says 17 19 (codes " e") ∷ []))
unfolding caseless encode chars token decide ucd_category is_unicode_white_space is_unicode_punctuation agrees pair_of rest_of_opener rest_of_closer kinds_of deactivates closed
whole_text_over_prefixes = refl

backslash_last : events_with no_options (codes "a\\") ≡ says 0 2 (codes "a\\") ∷ []
unfolding caseless encode chars token decide ucd_category is_unicode_white_space is_unicode_punctuation agrees pair_of rest_of_opener rest_of_closer kinds_of deactivates closed
backslash_last = refl

run_before_break_ranges : events_with no_options (codes "x *\\\ny*") ≡ says 0 2 (codes "x ") ∷ (begins 2 7 Emphasis ∷ (at 3 5 HardBreak ∷ (says 5 6 (codes "y") ∷ (ends 2 7 Emphasis ∷ []))))
unfolding caseless encode chars token decide ucd_category is_unicode_white_space is_unicode_punctuation agrees pair_of rest_of_opener rest_of_closer kinds_of deactivates closed
run_before_break_ranges = refl

escaped_run_range : events_with no_options (codes "\\``a") ≡ says 1 3 (codes "``") ∷ (says 3 4 (codes "a") ∷ [])
unfolding caseless encode chars token decide ucd_category is_unicode_white_space is_unicode_punctuation agrees pair_of rest_of_opener rest_of_closer kinds_of deactivates closed
escaped_run_range = refl

code_keeps_blanks : events_with no_options (codes "`a\n   b`") ≡ at 0 8 (Code (codes "a    b")) ∷ []
unfolding caseless encode chars token decide ucd_category is_unicode_white_space is_unicode_punctuation agrees pair_of rest_of_opener rest_of_closer kinds_of deactivates closed
code_keeps_blanks = refl

formula_keeps_blanks : events_with math (codes "$a\n   b$") ≡ at 0 8 (InlineMath (codes "a\n   b")) ∷ []
unfolding caseless encode chars token decide ucd_category is_unicode_white_space is_unicode_punctuation agrees pair_of rest_of_opener rest_of_closer kinds_of deactivates closed
formula_keeps_blanks = refl

tag_keeps_blanks : events_with no_options (codes "x <a\n   b>") ≡ says 0 2 (codes "x ") ∷ (at 2 10 (InlineHtml (codes "<a\n   b>")) ∷ [])
unfolding caseless encode chars token decide ucd_category is_unicode_white_space is_unicode_punctuation agrees pair_of rest_of_opener rest_of_closer kinds_of deactivates closed
tag_keeps_blanks = refl

attribute_keeps_blanks : events_with no_options (codes "<e\n e=\"\">") ≡ at 0 9 (InlineHtml (codes "<e\n e=\"\">")) ∷ []
unfolding caseless encode chars token decide ucd_category is_unicode_white_space is_unicode_punctuation agrees pair_of rest_of_opener rest_of_closer kinds_of deactivates closed
attribute_keeps_blanks = refl

comment_keeps_blanks : events_with no_options (codes "x <!-- a\n   b -->") ≡ says 0 2 (codes "x ") ∷ (at 2 17 (InlineHtml (codes "<!-- a\n   b -->")) ∷ [])
unfolding caseless encode chars token decide ucd_category is_unicode_white_space is_unicode_punctuation agrees pair_of rest_of_opener rest_of_closer kinds_of deactivates closed
comment_keeps_blanks = refl

no_closing_tag : events_with no_options (codes "a</b\n    >") ≡ says 0 1 (codes "a") ∷ (says 1 2 (codes "<") ∷ (says 2 4 (codes "/b") ∷ (at 4 5 SoftBreak ∷ (says 9 10 (codes ">") ∷ []))))
unfolding caseless encode chars token decide ucd_category is_unicode_white_space is_unicode_punctuation agrees pair_of rest_of_opener rest_of_closer kinds_of deactivates closed
no_closing_tag = refl

contexts_ranges : events_with math (codes "}{$b}$") ≡ says 0 2 (codes "}{") ∷ (says 2 3 (codes "$") ∷ (says 3 5 (codes "b}") ∷ (says 5 6 (codes "$") ∷ [])))
unfolding caseless encode chars token decide ucd_category is_unicode_white_space is_unicode_punctuation agrees pair_of rest_of_opener rest_of_closer kinds_of deactivates closed
contexts_ranges = refl

code_at_pipe_range : events_with wikilinks (codes "[[a`b|c`d]]")
    ≡ begins 0 11 (Link (leading (WikiLink true) (codes "a`b") [] [])) ∷ (at 6 8 (Code (codes "b|c")) ∷ (says 8 9 (codes "d") ∷ (ends 0 11 (Link (leading (WikiLink true) (codes "a`b") [] [])) ∷ [])))
unfolding caseless encode chars token decide ucd_category is_unicode_white_space is_unicode_punctuation agrees pair_of rest_of_opener rest_of_closer kinds_of deactivates closed
code_at_pipe_range = refl

tag_at_pipe_range : events_with wikilinks (codes "[[a<b c=\"|\">e]]")
    ≡ begins 0 15 (Link (leading (WikiLink true) (codes "a<b c=\"") [] [])) ∷ (at 10 12 (InlineHtml (codes "\">")) ∷ (says 12 13 (codes "e") ∷ (ends 0 15 (Link (leading (WikiLink true) (codes "a<b c=\"") [] [])) ∷ [])))
unfolding caseless encode chars token decide ucd_category is_unicode_white_space is_unicode_punctuation agrees pair_of rest_of_opener rest_of_closer kinds_of deactivates closed
tag_at_pipe_range = refl

image_at_pipe_range : events_with wikilinks (codes "[[a ![b|c](u)]]")
    ≡ begins 0 15 (Link (leading (WikiLink true) (codes "a ![b") [] [])) ∷ (begins 8 13 (Image (leading Inline (codes "u") [] [])) ∷ (says 6 9 (codes "b|c")
    ∷ (ends 8 13 (Image (leading Inline (codes "u") [] [])) ∷ (ends 0 15 (Link (leading (WikiLink true) (codes "a ![b") [] [])) ∷ []))))
unfolding caseless encode chars token decide ucd_category is_unicode_white_space is_unicode_punctuation agrees pair_of rest_of_opener rest_of_closer kinds_of deactivates closed
image_at_pipe_range = refl

doubled_in_image_ranges : events_with wikilinks (codes "![x [[y] z] w](u) q]]")
    ≡ begins 0 17 (Image (leading Inline (codes "u") [] [])) ∷ (says 2 4 (codes "x ") ∷ (says 4 5 (codes "[") ∷ (says 5 6 (codes "[") ∷ (says 6 7 (codes "y") ∷ (says 7 8 (codes "]") ∷ (says 8 10 (codes " z")
    ∷ (says 10 11 (codes "]") ∷ (says 11 13 (codes " w") ∷ (ends 0 17 (Image (leading Inline (codes "u") [] [])) ∷ (says 17 19 (codes " q") ∷ (says 19 20 (codes "]") ∷ (says 20 21 (codes "]") ∷ []))))))))))))
unfolding caseless encode chars token decide ucd_category is_unicode_white_space is_unicode_punctuation agrees pair_of rest_of_opener rest_of_closer kinds_of deactivates closed
doubled_in_image_ranges = refl

farther_opener_ranges : events_with wikilinks (codes "[x [[a] b] c]](u)")
    ≡ says 0 1 (codes "[") ∷ (says 1 3 (codes "x ") ∷ (begins 3 14 (Link (leading (WikiLink false) (codes "a] b] c") [] [])) ∷ (says 5 12 (codes "a] b] c")
    ∷ (ends 3 14 (Link (leading (WikiLink false) (codes "a] b] c") [] [])) ∷ (says 14 17 (codes "(u)") ∷ [])))))
unfolding caseless encode chars token decide ucd_category is_unicode_white_space is_unicode_punctuation agrees pair_of rest_of_opener rest_of_closer kinds_of deactivates closed
farther_opener_ranges = refl

link_in_doubled_ranges : events_with wikilinks (codes "![[a](b)c]]")
    ≡ says 0 2 (codes "![") ∷ (begins 2 8 (Link (leading Inline (codes "b") [] [])) ∷ (says 3 4 (codes "a") ∷ (ends 2 8 (Link (leading Inline (codes "b") [] [])) ∷ (says 8 9 (codes "c")
    ∷ (says 9 10 (codes "]") ∷ (says 10 11 (codes "]") ∷ []))))))
unfolding caseless encode chars token decide ucd_category is_unicode_white_space is_unicode_punctuation agrees pair_of rest_of_opener rest_of_closer kinds_of deactivates closed
link_in_doubled_ranges = refl

-- in a cell the first pipe of a wikilink is its pipe, escaped or not
wikilink_in_cell : events_in wikilinks (codes "a|b\n-|-\n[[a\\|b]]|c") (cell 8 16)
    ≡ begins 8 16 (Link (leading (WikiLink true) (codes "a\\") [] [])) ∷ (says 13 14 (codes "b") ∷ (ends 8 16 (Link (leading (WikiLink true) (codes "a\\") [] [])) ∷ []))
unfolding caseless encode chars token decide ucd_category is_unicode_white_space is_unicode_punctuation agrees pair_of rest_of_opener rest_of_closer kinds_of deactivates closed
wikilink_in_cell = refl

-- in a cell an escaped pipe is a literal one, in code too, and after two backslashes
pipes_in_cell : events_in no_options (codes "`a\\|b` \\| \\\\| c") (cell 0 15) ≡ at 0 6 (Code (codes "a|b")) ∷ (says 6 7 (codes " ") ∷ (says 8 10 (codes "| ") ∷ (says 12 15 (codes "| c") ∷ [])))
unfolding caseless encode chars token decide ucd_category is_unicode_white_space is_unicode_punctuation agrees pair_of rest_of_opener rest_of_closer kinds_of deactivates closed
pipes_in_cell = refl
