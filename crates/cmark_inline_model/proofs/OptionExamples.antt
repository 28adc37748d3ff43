-- Texts with the options, computed as HTML. A footnote reference is shown as its label, the footnote is `1`, and the definition `[x]: /u`.
use Rattle.std.specs.Prelude.{◌≡◌, true, [], ◌∷◌, ◌++◌, codes}
use Rattle.std.specs.Str.{chars}
use Rattle.std.proofs.Common.{refl}
use lib.Utf8.{encode}
use Rattle.caseless.proofs.Computing.{caseless}
use Rattle.ucd_category.proofs.Computing.{ucd_category}
use Rattle.cmark_grammar.specs.BracketDecisions.{decide}
use Rattle.cmark_grammar.specs.Emphasis.{agrees, pair_of, rest_of_opener, rest_of_closer, kinds_of, deactivates}
use Rattle.cmark_inline_model.specs.EmphasisModel.{closed}
use Rattle.cmark_grammar.specs.Flanking.{is_unicode_white_space, is_unicode_punctuation}
use Rattle.cmark_grammar.specs.InlineTokens.{token}
use Rattle.cmark_grammar.specs.Options.{Options, no_options}
use Rattle.cmark_inline_model.proofs.SampleReading.{html_with, html_defining}

abbrev math : Options
math = record no_options { math = true }

abbrev smart : Options
smart = record no_options { smart_punctuation = true }

abbrev strikethrough : Options
strikethrough = record no_options { strikethrough = true }

abbrev subscript : Options
subscript = record no_options { subscript = true }

abbrev superscript : Options
superscript = record no_options { superscript = true }

abbrev highlight : Options
highlight = record no_options { highlight = true }

abbrev strikethrough_highlight : Options
strikethrough_highlight = record no_options { strikethrough = true; highlight = true }

abbrev strikethrough_superscript : Options
strikethrough_superscript = record no_options { strikethrough = true; superscript = true }

abbrev wikilinks : Options
wikilinks = record no_options { wikilinks = true }

abbrev footnotes : Options
footnotes = record no_options { footnotes = true }

abbrev footnotes_wikilinks : Options
footnotes_wikilinks = record no_options { footnotes = true; wikilinks = true }

abbrev old_footnotes : Options
old_footnotes = record no_options { footnotes = true; old_footnotes = true }

-- a closing tilde or caret that finds no opening one closes the others
tilde_and_caret : html_with strikethrough_superscript (codes "^a b~ c^") ≡ codes "^a b~ c^"
unfolding caseless encode chars token decide ucd_category is_unicode_white_space is_unicode_punctuation agrees pair_of rest_of_opener rest_of_closer kinds_of deactivates closed
tilde_and_caret = refl

-- GFM 6.5
struck : html_with strikethrough (codes "~~Hi~~ Hello, ~there~ world!") ≡ codes "<del>Hi</del> Hello, <del>there</del> world!"
unfolding caseless encode chars token decide ucd_category is_unicode_white_space is_unicode_punctuation agrees pair_of rest_of_opener rest_of_closer kinds_of deactivates closed
struck = refl

-- GFM 6.5: three tildes are no run
three_tildes : html_with strikethrough (codes "This will ~~~not~~~ strike.") ≡ codes "This will ~~~not~~~ strike."
unfolding caseless encode chars token decide ucd_category is_unicode_white_space is_unicode_punctuation agrees pair_of rest_of_opener rest_of_closer kinds_of deactivates closed
three_tildes = refl

-- runs between those of a pair are closed
tildes_in_emphasis : html_with strikethrough (codes "~~a~~ *b ~~c* d~~") ≡ codes "<del>a</del> <em>b ~~c</em> d~~"
unfolding caseless encode chars token decide ucd_category is_unicode_white_space is_unicode_punctuation agrees pair_of rest_of_opener rest_of_closer kinds_of deactivates closed
tildes_in_emphasis = refl

-- two tildes without strikethrough are one text
whole_text : html_with subscript (codes "x ~~a *b*~~ ~c~") ≡ codes "x ~~a *b*~~ <sub>c</sub>"
unfolding caseless encode chars token decide ucd_category is_unicode_white_space is_unicode_punctuation agrees pair_of rest_of_opener rest_of_closer kinds_of deactivates closed
whole_text = refl

subscript_in_word : html_with subscript (codes "H~2~O") ≡ codes "H<sub>2</sub>O"
unfolding caseless encode chars token decide ucd_category is_unicode_white_space is_unicode_punctuation agrees pair_of rest_of_opener rest_of_closer kinds_of deactivates closed
subscript_in_word = refl

superscripts : html_with superscript (codes "x^2^ + y^2^") ≡ codes "x<sup>2</sup> + y<sup>2</sup>"
unfolding caseless encode chars token decide ucd_category is_unicode_white_space is_unicode_punctuation agrees pair_of rest_of_opener rest_of_closer kinds_of deactivates closed
superscripts = refl

no_superscript : html_with no_options (codes "x^2^") ≡ codes "x^2^"
unfolding caseless encode chars token decide ucd_category is_unicode_white_space is_unicode_punctuation agrees pair_of rest_of_opener rest_of_closer kinds_of deactivates closed
no_superscript = refl

highlighted : html_with highlight (codes "==a==") ≡ codes "<mark>a</mark>"
unfolding caseless encode chars token decide ucd_category is_unicode_white_space is_unicode_punctuation agrees pair_of rest_of_opener rest_of_closer kinds_of deactivates closed
highlighted = refl

no_highlight : html_with no_options (codes "==a==") ≡ codes "==a=="
unfolding caseless encode chars token decide ucd_category is_unicode_white_space is_unicode_punctuation agrees pair_of rest_of_opener rest_of_closer kinds_of deactivates closed
no_highlight = refl

-- no other number is a run
three_equals : html_with highlight (codes "a === b =c= ====d====") ≡ codes "a === b =c= ====d===="
unfolding caseless encode chars token decide ucd_category is_unicode_white_space is_unicode_punctuation agrees pair_of rest_of_opener rest_of_closer kinds_of deactivates closed
three_equals = refl

highlight_closes_emphasis : html_with highlight (codes "==a *b== c*") ≡ codes "<mark>a *b</mark> c*"
unfolding caseless encode chars token decide ucd_category is_unicode_white_space is_unicode_punctuation agrees pair_of rest_of_opener rest_of_closer kinds_of deactivates closed
highlight_closes_emphasis = refl

-- a closing tilde that finds no opening one closes no equals signs
equals_stay_open : html_with strikethrough_highlight (codes "==a b~ c==") ≡ codes "<mark>a b~ c</mark>"
unfolding caseless encode chars token decide ucd_category is_unicode_white_space is_unicode_punctuation agrees pair_of rest_of_opener rest_of_closer kinds_of deactivates closed
equals_stay_open = refl

-- and closing equals signs that find no opening ones close no tilde
tildes_stay_open : html_with strikethrough_highlight (codes "~a b== c~") ≡ codes "<del>a b== c</del>"
unfolding caseless encode chars token decide ucd_category is_unicode_white_space is_unicode_punctuation agrees pair_of rest_of_opener rest_of_closer kinds_of deactivates closed
tildes_stay_open = refl

highlight_in_struck : html_with strikethrough_highlight (codes "~a ==b== c~") ≡ codes "<del>a <mark>b</mark> c</del>"
unfolding caseless encode chars token decide ucd_category is_unicode_white_space is_unicode_punctuation agrees pair_of rest_of_opener rest_of_closer kinds_of deactivates closed
highlight_in_struck = refl

smart_quotes_and_dashes : html_with smart (codes "\"a\" -- 'b'...")
    ≡ (226 ∷ 128 ∷ 156 ∷ []) ++ (codes "a" ++ ((226 ∷ 128 ∷ 157 ∷ []) ++ (codes " " ++ ((226 ∷ 128 ∷ 147 ∷ []) ++ (codes " " ++ ((226 ∷ 128 ∷ 152 ∷ []) ++ (codes "b" ++ ((226 ∷ 128 ∷ 153 ∷ 226 ∷ 128 ∷ 166 ∷ [])))))))))
unfolding caseless encode chars token decide ucd_category is_unicode_white_space is_unicode_punctuation agrees pair_of rest_of_opener rest_of_closer kinds_of deactivates closed
smart_quotes_and_dashes = refl

nested_quotes : html_with smart (codes "\"Hello,\" said the spider.\n\"'Shelob' is my name.\"")
    ≡ (226 ∷ 128 ∷ 156 ∷ []) ++ (codes "Hello," ++ ((226 ∷ 128 ∷ 157 ∷ []) ++ (codes " said the spider.\n" ++ ((226 ∷ 128 ∷ 156 ∷ 226 ∷ 128 ∷ 152 ∷ []) ++ (codes "Shelob" ++ ((226 ∷ 128 ∷ 153 ∷ [])
    ++ (codes " is my name." ++ ((226 ∷ 128 ∷ 157 ∷ [])))))))))
unfolding caseless encode chars token decide ucd_category is_unicode_white_space is_unicode_punctuation agrees pair_of rest_of_opener rest_of_closer kinds_of deactivates closed
nested_quotes = refl

double_in_single : html_with smart (codes "'He said, \"I want to go.\"'") ≡ (226 ∷ 128 ∷ 152 ∷ []) ++ (codes "He said, " ++ ((226 ∷ 128 ∷ 156 ∷ []) ++ (codes "I want to go." ++ ((226 ∷ 128 ∷ 157 ∷ 226 ∷ 128 ∷ 153 ∷ [])))))
unfolding caseless encode chars token decide ucd_category is_unicode_white_space is_unicode_punctuation agrees pair_of rest_of_opener rest_of_closer kinds_of deactivates closed
double_in_single = refl

apostrophe_first : html_with smart (codes "'tis the season to be 'jolly'") ≡ (226 ∷ 128 ∷ 153 ∷ []) ++ (codes "tis the season to be " ++ ((226 ∷ 128 ∷ 152 ∷ []) ++ (codes "jolly" ++ ((226 ∷ 128 ∷ 153 ∷ [])))))
unfolding caseless encode chars token decide ucd_category is_unicode_white_space is_unicode_punctuation agrees pair_of rest_of_opener rest_of_closer kinds_of deactivates closed
apostrophe_first = refl

apostrophes_in_words : html_with smart (codes "'We'll use Jane's boat and John's truck,' Jenna said.")
    ≡ (226 ∷ 128 ∷ 152 ∷ []) ++ (codes "We" ++ ((226 ∷ 128 ∷ 153 ∷ []) ++ (codes "ll use Jane" ++ ((226 ∷ 128 ∷ 153 ∷ []) ++ (codes "s boat and John" ++ ((226 ∷ 128 ∷ 153 ∷ []) ++ (codes "s truck,"
    ++ ((226 ∷ 128 ∷ 153 ∷ []) ++ (codes " Jenna said.")))))))))
unfolding caseless encode chars token decide ucd_category is_unicode_white_space is_unicode_punctuation agrees pair_of rest_of_opener rest_of_closer kinds_of deactivates closed
apostrophes_in_words = refl

dashes : html_with smart (codes "one-\ntwo--\nthree---\nfour----\nfive-----\nsix------\nseven-------\neight--------\nnine---------\nthirteen-------------.")
    ≡ codes "one-\ntwo" ++ ((226 ∷ 128 ∷ 147 ∷ []) ++ (codes "\nthree" ++ ((226 ∷ 128 ∷ 148 ∷ []) ++ (codes "\nfour" ++ ((226 ∷ 128 ∷ 147 ∷ 226 ∷ 128 ∷ 147 ∷ []) ++ (codes "\nfive"
    ++ ((226 ∷ 128 ∷ 148 ∷ 226 ∷ 128 ∷ 147 ∷ []) ++ (codes "\nsix" ++ ((226 ∷ 128 ∷ 148 ∷ 226 ∷ 128 ∷ 148 ∷ []) ++ (codes "\nseven" ++ ((226 ∷ 128 ∷ 148 ∷ 226 ∷ 128 ∷ 147 ∷ 226 ∷ 128 ∷ 147 ∷ [])
    ++ (codes "\neight" ++ ((226 ∷ 128 ∷ 147 ∷ 226 ∷ 128 ∷ 147 ∷ 226 ∷ 128 ∷ 147 ∷ 226 ∷ 128 ∷ 147 ∷ []) ++ (codes "\nnine" ++ ((226 ∷ 128 ∷ 148 ∷ 226 ∷ 128 ∷ 148 ∷ 226 ∷ 128 ∷ 148 ∷ []) ++ (codes "\nthirteen"
    ++ ((226 ∷ 128 ∷ 148 ∷ 226 ∷ 128 ∷ 148 ∷ 226 ∷ 128 ∷ 148 ∷ 226 ∷ 128 ∷ 147 ∷ 226 ∷ 128 ∷ 147 ∷ []) ++ (codes "."))))))))))))))))))
unfolding caseless encode chars token decide ucd_category is_unicode_white_space is_unicode_punctuation agrees pair_of rest_of_opener rest_of_closer kinds_of deactivates closed
dashes = refl

escaped_hyphens : html_with smart (codes "Escaped hyphens: \\-- \\-\\-\\-.") ≡ codes "Escaped hyphens: -- ---."
unfolding caseless encode chars token decide ucd_category is_unicode_white_space is_unicode_punctuation agrees pair_of rest_of_opener rest_of_closer kinds_of deactivates closed
escaped_hyphens = refl

escaped_dots : html_with smart (codes "No ellipses\\.\\.\\.") ≡ codes "No ellipses..."
unfolding caseless encode chars token decide ucd_category is_unicode_white_space is_unicode_punctuation agrees pair_of rest_of_opener rest_of_closer kinds_of deactivates closed
escaped_dots = refl

-- a dollar sign before white space opens nothing
spaced_dollar : html_with math (codes "$ a$") ≡ codes "$ a$"
unfolding caseless encode chars token decide ucd_category is_unicode_white_space is_unicode_punctuation agrees pair_of rest_of_opener rest_of_closer kinds_of deactivates closed
spaced_dollar = refl

-- a no-break space is not white space here
no_break_space : html_with math (codes "$" ++ ((194 ∷ 160 ∷ []) ++ (codes "a$"))) ≡ codes "<span class=\"math math-inline\">" ++ ((194 ∷ 160 ∷ []) ++ (codes "a</span>"))
unfolding caseless encode chars token decide ucd_category is_unicode_white_space is_unicode_punctuation agrees pair_of rest_of_opener rest_of_closer kinds_of deactivates closed
no_break_space = refl

-- a closing brace without its opening one begins another context
contexts : html_with math (codes "}{$b}$") ≡ codes "}{$b}$"
unfolding caseless encode chars token decide ucd_category is_unicode_white_space is_unicode_punctuation agrees pair_of rest_of_opener rest_of_closer kinds_of deactivates closed
contexts = refl

-- a formula keeps its line endings, and the blanks after them
blanks_in_formula : html_with math (codes "$a\n   b$") ≡ codes "<span class=\"math math-inline\">a\n   b</span>"
unfolding caseless encode chars token decide ucd_category is_unicode_white_space is_unicode_punctuation agrees pair_of rest_of_opener rest_of_closer kinds_of deactivates closed
blanks_in_formula = refl

dollar_in_code : html_with math (codes "This uses `$` to show math inline: $\\sqrt{3x-1}+(1+x)^2$") ≡ codes "This uses <code>$</code> to show math inline: <span class=\"math math-inline\">\\sqrt{3x-1}+(1+x)^2</span>"
unfolding caseless encode chars token decide ucd_category is_unicode_white_space is_unicode_punctuation agrees pair_of rest_of_opener rest_of_closer kinds_of deactivates closed
dollar_in_code = refl

display : html_with math (codes "$$\\left( \\sum_{k=1}^n a_k b_k \\right)^2$$") ≡ codes "<span class=\"math math-display\">\\left( \\sum_{k=1}^n a_k b_k \\right)^2</span>"
unfolding caseless encode chars token decide ucd_category is_unicode_white_space is_unicode_punctuation agrees pair_of rest_of_opener rest_of_closer kinds_of deactivates closed
display = refl

no_emphasis_in_formula : html_with math (codes "$*a*$") ≡ codes "<span class=\"math math-inline\">*a*</span>"
unfolding caseless encode chars token decide ucd_category is_unicode_white_space is_unicode_punctuation agrees pair_of rest_of_opener rest_of_closer kinds_of deactivates closed
no_emphasis_in_formula = refl

lone_dollar : html_with math (codes "A lone $ sign.") ≡ codes "A lone $ sign."
unfolding caseless encode chars token decide ucd_category is_unicode_white_space is_unicode_punctuation agrees pair_of rest_of_opener rest_of_closer kinds_of deactivates closed
lone_dollar = refl

formula_in_code : html_with math (codes "`$a$`") ≡ codes "<code>$a$</code>"
unfolding caseless encode chars token decide ucd_category is_unicode_white_space is_unicode_punctuation agrees pair_of rest_of_opener rest_of_closer kinds_of deactivates closed
formula_in_code = refl

no_math : html_with no_options (codes "$*a*$") ≡ codes "$<em>a</em>$"
unfolding caseless encode chars token decide ucd_category is_unicode_white_space is_unicode_punctuation agrees pair_of rest_of_opener rest_of_closer kinds_of deactivates closed
no_math = refl

wikilink : html_with wikilinks (codes "This is a [[WikiLink]].") ≡ codes "This is a <a href=\"WikiLink\">WikiLink</a>."
unfolding caseless encode chars token decide ucd_category is_unicode_white_space is_unicode_punctuation agrees pair_of rest_of_opener rest_of_closer kinds_of deactivates closed
wikilink = refl

wiki_image : html_with wikilinks (codes "![[cat.jpg]]") ≡ codes "<img src=\"cat.jpg\" alt=\"cat.jpg\" />"
unfolding caseless encode chars token decide ucd_category is_unicode_white_space is_unicode_punctuation agrees pair_of rest_of_opener rest_of_closer kinds_of deactivates closed
wiki_image = refl

no_wikilink : html_with no_options (codes "[[WikiLink]]") ≡ codes "[[WikiLink]]"
unfolding caseless encode chars token decide ucd_category is_unicode_white_space is_unicode_punctuation agrees pair_of rest_of_opener rest_of_closer kinds_of deactivates closed
no_wikilink = refl

wikilink_in_code : html_with wikilinks (codes "`[[code]]`") ≡ codes "<code>[[code]]</code>"
unfolding caseless encode chars token decide ucd_category is_unicode_white_space is_unicode_punctuation agrees pair_of rest_of_opener rest_of_closer kinds_of deactivates closed
wikilink_in_code = refl

-- a code span that the pipe cuts keeps its text
code_at_pipe : html_with wikilinks (codes "[[a`b|c`d]]") ≡ codes "<a href=\"a%60b\"><code>b|c</code>d</a>"
unfolding caseless encode chars token decide ucd_category is_unicode_white_space is_unicode_punctuation agrees pair_of rest_of_opener rest_of_closer kinds_of deactivates closed
code_at_pipe = refl

-- inline HTML is cut
tag_at_pipe : html_with wikilinks (codes "[[a<b c=\"|\">e]]") ≡ codes "<a href=\"a%3Cb%20c=%22\">\">e</a>"
unfolding caseless encode chars token decide ucd_category is_unicode_white_space is_unicode_punctuation agrees pair_of rest_of_opener rest_of_closer kinds_of deactivates closed
tag_at_pipe = refl

-- an image keeps what is inside it
image_at_pipe : html_with wikilinks (codes "[[a ![b|c](u)]]") ≡ codes "<a href=\"a%20!%5Bb\"><img src=\"u\" alt=\"b|c\" /></a>"
unfolding caseless encode chars token decide ucd_category is_unicode_white_space is_unicode_punctuation agrees pair_of rest_of_opener rest_of_closer kinds_of deactivates closed
image_at_pipe = refl

-- brackets of a formed image open nothing
doubled_in_image : html_with wikilinks (codes "![x [[y] z] w](u) q]]") ≡ codes "<img src=\"u\" alt=\"x [[y] z] w\" /> q]]"
unfolding caseless encode chars token decide ucd_category is_unicode_white_space is_unicode_punctuation agrees pair_of rest_of_opener rest_of_closer kinds_of deactivates closed
doubled_in_image = refl

-- a wikilink uses up the nearest bracket too
farther_opener : html_with wikilinks (codes "[x [[a] b] c]](u)") ≡ codes "[x <a href=\"a%5D%20b%5D%20c\">a] b] c</a>(u)"
unfolding caseless encode chars token decide ucd_category is_unicode_white_space is_unicode_punctuation agrees pair_of rest_of_opener rest_of_closer kinds_of deactivates closed
farther_opener = refl

-- a doubled bracket opens nothing if one of its brackets became a link
link_in_doubled : html_with wikilinks (codes "![[a](b)c]]") ≡ codes "![<a href=\"b\">a</a>c]]"
unfolding caseless encode chars token decide ucd_category is_unicode_white_space is_unicode_punctuation agrees pair_of rest_of_opener rest_of_closer kinds_of deactivates closed
link_in_doubled = refl

empty_display : html_with wikilinks (codes "[[a|]]") ≡ codes "<a href=\"a\"></a>"
unfolding caseless encode chars token decide ucd_category is_unicode_white_space is_unicode_punctuation agrees pair_of rest_of_opener rest_of_closer kinds_of deactivates closed
empty_display = refl

-- a footnote reference needs a footnote
unknown_footnote : html_with footnotes (codes "no such note[^x]") ≡ codes "no such note[^x]"
unfolding caseless encode chars token decide ucd_category is_unicode_white_space is_unicode_punctuation agrees pair_of rest_of_opener rest_of_closer kinds_of deactivates closed
unknown_footnote = refl

-- a label with a line ending is not a footnote's
label_over_lines : html_defining footnotes (codes "[^1\nb]") ≡ codes "[^1\nb]"
unfolding caseless encode chars token decide ucd_category is_unicode_white_space is_unicode_punctuation agrees pair_of rest_of_opener rest_of_closer kinds_of deactivates closed
label_over_lines = refl

-- a reference to an old footnote needs no definition of its label
old_label : html_defining old_footnotes (codes "[^7 b]") ≡ codes "{^7 b}"
unfolding caseless encode chars token decide ucd_category is_unicode_white_space is_unicode_punctuation agrees pair_of rest_of_opener rest_of_closer kinds_of deactivates closed
old_label = refl

two_wikilinks : html_defining wikilinks (codes "[[foo]] [[bar|baz]]") ≡ codes "<a href=\"foo\">foo</a> <a href=\"bar\">baz</a>"
unfolding caseless encode chars token decide ucd_category is_unicode_white_space is_unicode_punctuation agrees pair_of rest_of_opener rest_of_closer kinds_of deactivates closed
two_wikilinks = refl

link_in_wikilink : html_defining wikilinks (codes "[[a [b](c)]]") ≡ codes "[[a <a href=\"c\">b</a>]]"
unfolding caseless encode chars token decide ucd_category is_unicode_white_space is_unicode_punctuation agrees pair_of rest_of_opener rest_of_closer kinds_of deactivates closed
link_in_wikilink = refl

footnote_drops : html_defining footnotes (codes "a [b [^1] c](u)") ≡ codes "a [b {^1} c](u)"
unfolding caseless encode chars token decide ucd_category is_unicode_white_space is_unicode_punctuation agrees pair_of rest_of_opener rest_of_closer kinds_of deactivates closed
footnote_drops = refl

full_reference_first : html_defining footnotes (codes "[^1][x]") ≡ codes "<a href=\"/u\">^1</a>"
unfolding caseless encode chars token decide ucd_category is_unicode_white_space is_unicode_punctuation agrees pair_of rest_of_opener rest_of_closer kinds_of deactivates closed
full_reference_first = refl

footnote_is_no_label : html_defining footnotes (codes "[x][^1]") ≡ codes "<a href=\"/u\">x</a>{^1}"
unfolding caseless encode chars token decide ucd_category is_unicode_white_space is_unicode_punctuation agrees pair_of rest_of_opener rest_of_closer kinds_of deactivates closed
footnote_is_no_label = refl

no_footnote_image : html_defining footnotes (codes "![^1]") ≡ codes "!{^1}"
unfolding caseless encode chars token decide ucd_category is_unicode_white_space is_unicode_punctuation agrees pair_of rest_of_opener rest_of_closer kinds_of deactivates closed
no_footnote_image = refl

brackets_stay : html_defining footnotes (codes "[^1][]") ≡ codes "{^1}[]"
unfolding caseless encode chars token decide ucd_category is_unicode_white_space is_unicode_punctuation agrees pair_of rest_of_opener rest_of_closer kinds_of deactivates closed
brackets_stay = refl

footnote_drops_image : html_defining footnotes (codes "![a [^1] b](u) *c [^1]*") ≡ codes "![a {^1} b](u) <em>c {^1}</em>"
unfolding caseless encode chars token decide ucd_category is_unicode_white_space is_unicode_punctuation agrees pair_of rest_of_opener rest_of_closer kinds_of deactivates closed
footnote_drops_image = refl

other_footnote : html_defining footnotes (codes "[^2][x] [^2]") ≡ codes "<a href=\"/u\">^2</a> [^2]"
unfolding caseless encode chars token decide ucd_category is_unicode_white_space is_unicode_punctuation agrees pair_of rest_of_opener rest_of_closer kinds_of deactivates closed
other_footnote = refl

empty_names : html_defining wikilinks (codes "[[a|]] [[]] [[|b]]") ≡ codes "<a href=\"a\"></a> [[]] [[|b]]"
unfolding caseless encode chars token decide ucd_category is_unicode_white_space is_unicode_punctuation agrees pair_of rest_of_opener rest_of_closer kinds_of deactivates closed
empty_names = refl

third_bracket : html_defining wikilinks (codes "[[[a]]]") ≡ codes "[<a href=\"a\">a</a>]"
unfolding caseless encode chars token decide ucd_category is_unicode_white_space is_unicode_punctuation agrees pair_of rest_of_opener rest_of_closer kinds_of deactivates closed
third_bracket = refl

wikilink_in_image : html_defining wikilinks (codes "![b [[x]] c](u)") ≡ codes "<img src=\"u\" alt=\"b x c\" />"
unfolding caseless encode chars token decide ucd_category is_unicode_white_space is_unicode_punctuation agrees pair_of rest_of_opener rest_of_closer kinds_of deactivates closed
wikilink_in_image = refl

footnote_in_wiki_image : html_defining footnotes_wikilinks (codes "![[a|b [^1] c]](u)") ≡ codes "<img src=\"a\" alt=\"b {^1} c\" />(u)"
unfolding caseless encode chars token decide ucd_category is_unicode_white_space is_unicode_punctuation agrees pair_of rest_of_opener rest_of_closer kinds_of deactivates closed
footnote_in_wiki_image = refl

wikilink_hides_footnote : html_defining footnotes_wikilinks (codes "[[a [^1] b]]") ≡ codes "<a href=\"a%20%5B%5E1%5D%20b\">a [^1] b</a>"
unfolding caseless encode chars token decide ucd_category is_unicode_white_space is_unicode_punctuation agrees pair_of rest_of_opener rest_of_closer kinds_of deactivates closed
wikilink_hides_footnote = refl

names_with_footnotes : html_defining footnotes_wikilinks (codes "[[[^1]|q]] [[[^1] z]](u)") ≡ codes "<a href=\"%5B%5E1%5D\">q</a> <a href=\"%5B%5E1%5D%20z\">[^1] z</a>(u)"
unfolding caseless encode chars token decide ucd_category is_unicode_white_space is_unicode_punctuation agrees pair_of rest_of_opener rest_of_closer kinds_of deactivates closed
names_with_footnotes = refl

emphasis_in_display : html_defining wikilinks (codes "[[a *b|c* *d*]]*") ≡ codes "<a href=\"a%20*b\">c* <em>d</em></a>*"
unfolding caseless encode chars token decide ucd_category is_unicode_white_space is_unicode_punctuation agrees pair_of rest_of_opener rest_of_closer kinds_of deactivates closed
emphasis_in_display = refl

inner_wikilink : html_defining wikilinks (codes "[[a|[b] [[c]]d]]") ≡ codes "[[a|[b] <a href=\"c\">c</a>d]]"
unfolding caseless encode chars token decide ucd_category is_unicode_white_space is_unicode_punctuation agrees pair_of rest_of_opener rest_of_closer kinds_of deactivates closed
inner_wikilink = refl

inner_wiki_image : html_defining wikilinks (codes "[[a|![[b|c]] d]]") ≡ codes "[[a|<img src=\"b\" alt=\"c\" /> d]]"
unfolding caseless encode chars token decide ucd_category is_unicode_white_space is_unicode_punctuation agrees pair_of rest_of_opener rest_of_closer kinds_of deactivates closed
inner_wiki_image = refl

footnote_leaves_doubled : html_defining footnotes_wikilinks (codes "[x [^1] [[y] z]] [[w] ](u)") ≡ codes "[x {^1} <a href=\"y%5D%20z\">y] z</a> <a href=\"u\">[w] </a>"
unfolding caseless encode chars token decide ucd_category is_unicode_white_space is_unicode_punctuation agrees pair_of rest_of_opener rest_of_closer kinds_of deactivates closed
footnote_leaves_doubled = refl
