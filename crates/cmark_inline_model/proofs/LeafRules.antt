-- Texts whose reading each rule of the inline grammar decides, computed as HTML.
use Rattle.std.specs.Prelude.{◌≡◌, [], ◌∷◌, ◌++◌, codes}
use Rattle.std.specs.Str.{chars}
use Rattle.std.proofs.Common.{refl}
use lib.Utf8.{encode}
use Rattle.caseless.proofs.Computing.{caseless}
use Rattle.ucd_category.proofs.Computing.{ucd_category}
use Rattle.cmark_block_model.specs.BlocksModel.{begin, blocks}
use Rattle.cmark_grammar.specs.Containers.{enter, keeps}
use Rattle.cmark_grammar.specs.Leaves.{underlines}
use Rattle.cmark_grammar.specs.Openings.{opens, texts, lazily}
use Rattle.cmark_grammar.specs.BracketDecisions.{decide}
use Rattle.cmark_grammar.specs.Emphasis.{agrees, pair_of, rest_of_opener, rest_of_closer, kinds_of, deactivates}
use Rattle.cmark_inline_model.specs.EmphasisModel.{closed}
use Rattle.cmark_grammar.specs.Flanking.{is_unicode_white_space, is_unicode_punctuation}
use Rattle.cmark_grammar.specs.InlineTokens.{token}
use Rattle.cmark_inline_model.proofs.SampleReading.{html, document_html}

-- of three asterisks a side the inner two are strong emphasis
emphasis_around_strong : html (codes "a ***b*** c") ≡ codes "a <em><strong>b</strong></em> c"
unfolding caseless encode chars token decide ucd_category is_unicode_white_space is_unicode_punctuation agrees pair_of rest_of_opener rest_of_closer kinds_of deactivates closed
emphasis_around_strong = refl

-- of two definitions of a label the first counts
first_definition : document_html (codes "[A]\n\n[a]: /1\n[a]: /2\n") ≡ codes "<p><a href=\"/1\">A</a></p>\n"
unfolding caseless encode chars token decide ucd_category is_unicode_white_space is_unicode_punctuation agrees pair_of rest_of_opener rest_of_closer kinds_of deactivates closed blocks begin opens texts lazily enter keeps underlines
first_definition = refl

-- a comment that is not closed is a text
open_comments : html (codes "x <!-- a <!-- b") ≡ codes "x &lt;!-- a &lt;!-- b"
unfolding caseless encode chars token decide ucd_category is_unicode_white_space is_unicode_punctuation agrees pair_of rest_of_opener rest_of_closer kinds_of deactivates closed
open_comments = refl

-- a code span binds tighter than emphasis
code_before_emphasis : html (codes "*a `b*`") ≡ codes "*a <code>b*</code>"
unfolding caseless encode chars token decide ucd_category is_unicode_white_space is_unicode_punctuation agrees pair_of rest_of_opener rest_of_closer kinds_of deactivates closed
code_before_emphasis = refl

-- a line ending of two bytes is one space in a code span
return_in_code : html (codes "`a\r\nb`") ≡ codes "<code>a b</code>"
unfolding caseless encode chars token decide ucd_category is_unicode_white_space is_unicode_punctuation agrees pair_of rest_of_opener rest_of_closer kinds_of deactivates closed
return_in_code = refl

-- the text of an image without its marks
alternative_text : html (codes "![a *b* `c`](d \"t\")") ≡ codes "<img src=\"d\" alt=\"a b c\" title=\"t\" />"
unfolding caseless encode chars token decide ucd_category is_unicode_white_space is_unicode_punctuation agrees pair_of rest_of_opener rest_of_closer kinds_of deactivates closed
alternative_text = refl

-- a CDATA section ends at its first closer
first_cdata_end : html (codes "x <![CDATA[a]]>b]]>") ≡ codes "x <![CDATA[a]]>b]]&gt;"
unfolding caseless encode chars token decide ucd_category is_unicode_white_space is_unicode_punctuation agrees pair_of rest_of_opener rest_of_closer kinds_of deactivates closed
first_cdata_end = refl

-- labels are the same by their case folding
folded_label : document_html (codes "[" ++ ((225 ∷ 186 ∷ 158 ∷ []) ++ (codes "]\n\n[SS]: /u\n"))) ≡ codes "<p><a href=\"/u\">" ++ ((225 ∷ 186 ∷ 158 ∷ []) ++ (codes "</a></p>\n"))
unfolding caseless encode chars token decide ucd_category is_unicode_white_space is_unicode_punctuation agrees pair_of rest_of_opener rest_of_closer kinds_of deactivates closed blocks begin opens texts lazily enter keeps underlines
folded_label = refl

-- a destination in pointed brackets may hold spaces
pointed_destination : html (codes "[a](</x y&\"'>)") ≡ codes "<a href=\"/x%20y&amp;%22&#x27;\">a</a>"
unfolding caseless encode chars token decide ucd_category is_unicode_white_space is_unicode_punctuation agrees pair_of rest_of_opener rest_of_closer kinds_of deactivates closed
pointed_destination = refl

-- an entity that the look-up does not know is a text, and 0 is no character
entities : html (codes "&copy; &zzz; &#0;") ≡ (194 ∷ 169 ∷ []) ++ (codes " &amp;zzz; " ++ ((239 ∷ 191 ∷ 189 ∷ [])))
unfolding caseless encode chars token decide ucd_category is_unicode_white_space is_unicode_punctuation agrees pair_of rest_of_opener rest_of_closer kinds_of deactivates closed
entities = refl

-- an address without a scheme is a text
no_email : html (codes "<a@b.c>") ≡ codes "&lt;a@b.c&gt;"
unfolding caseless encode chars token decide ucd_category is_unicode_white_space is_unicode_punctuation agrees pair_of rest_of_opener rest_of_closer kinds_of deactivates closed
no_email = refl

-- without footnotes a caret is part of a label
caret_label : document_html (codes "a [^a]\n\n[^a]: yolo") ≡ codes "<p>a <a href=\"yolo\">^a</a></p>\n"
unfolding caseless encode chars token decide ucd_category is_unicode_white_space is_unicode_punctuation agrees pair_of rest_of_opener rest_of_closer kinds_of deactivates closed blocks begin opens texts lazily enter keeps underlines
caret_label = refl

-- two spaces or a backslash make a hard break, but at the end of a leaf a backslash is a text
breaks : html (codes "a  \nb\\\nc\\\\") ≡ codes "a<br />\nb<br />\nc\\"
unfolding caseless encode chars token decide ucd_category is_unicode_white_space is_unicode_punctuation agrees pair_of rest_of_opener rest_of_closer kinds_of deactivates closed
breaks = refl

-- `&` and `;` alone are no entity
bare_ampersand : html (codes "&;") ≡ codes "&amp;;"
unfolding caseless encode chars token decide ucd_category is_unicode_white_space is_unicode_punctuation agrees pair_of rest_of_opener rest_of_closer kinds_of deactivates closed
bare_ampersand = refl

-- at the end of a leaf a backslash is a text
backslash_at_end : html (codes "a\\") ≡ codes "a\\"
unfolding caseless encode chars token decide ucd_category is_unicode_white_space is_unicode_punctuation agrees pair_of rest_of_opener rest_of_closer kinds_of deactivates closed
backslash_at_end = refl

-- beside the backslash of a break a run is beside punctuation
run_before_break : html (codes "x *\\\ny*") ≡ codes "x <em><br />\ny</em>"
unfolding caseless encode chars token decide ucd_category is_unicode_white_space is_unicode_punctuation agrees pair_of rest_of_opener rest_of_closer kinds_of deactivates closed
run_before_break = refl

-- an escaped run of backticks that opens nothing is a text
escaped_run : html (codes "\\``a") ≡ codes "``a"
unfolding caseless encode chars token decide ucd_category is_unicode_white_space is_unicode_punctuation agrees pair_of rest_of_opener rest_of_closer kinds_of deactivates closed
escaped_run = refl

-- code keeps the blanks before its later lines
blanks_in_code : html (codes "`a\n   b`") ≡ codes "<code>a    b</code>"
unfolding caseless encode chars token decide ucd_category is_unicode_white_space is_unicode_punctuation agrees pair_of rest_of_opener rest_of_closer kinds_of deactivates closed
blanks_in_code = refl

-- a code span of blanks keeps them
blanks_only_code : html (codes "`\n `") ≡ codes "<code>  </code>"
unfolding caseless encode chars token decide ucd_category is_unicode_white_space is_unicode_punctuation agrees pair_of rest_of_opener rest_of_closer kinds_of deactivates closed
blanks_only_code = refl

-- and so does a tag
blanks_in_tag : html (codes "x <a\n   b>") ≡ codes "x <a\n   b>"
unfolding caseless encode chars token decide ucd_category is_unicode_white_space is_unicode_punctuation agrees pair_of rest_of_opener rest_of_closer kinds_of deactivates closed
blanks_in_tag = refl

-- and a comment
blanks_in_comment : html (codes "x <!-- a\n   b -->") ≡ codes "x <!-- a\n   b -->"
unfolding caseless encode chars token decide ucd_category is_unicode_white_space is_unicode_punctuation agrees pair_of rest_of_opener rest_of_closer kinds_of deactivates closed
blanks_in_comment = refl

-- DEL is an ASCII control, and ends a destination
delete_in_destination : html (codes "[a](b" ++ ((127 ∷ []) ++ (codes ")"))) ≡ codes "[a](b" ++ ((127 ∷ []) ++ (codes ")"))
unfolding caseless encode chars token decide ucd_category is_unicode_white_space is_unicode_punctuation agrees pair_of rest_of_opener rest_of_closer kinds_of deactivates closed
delete_in_destination = refl

-- and no byte of an autolink
delete_in_autolink : html (codes "<a:" ++ ((127 ∷ []) ++ (codes ">"))) ≡ codes "&lt;a:" ++ ((127 ∷ []) ++ (codes "&gt;"))
unfolding caseless encode chars token decide ucd_category is_unicode_white_space is_unicode_punctuation agrees pair_of rest_of_opener rest_of_closer kinds_of deactivates closed
delete_in_autolink = refl

-- a closing tag takes no line ending
line_end_in_closing_tag : html (codes "a</b\n    >") ≡ codes "a&lt;/b\n&gt;"
unfolding caseless encode chars token decide ucd_category is_unicode_white_space is_unicode_punctuation agrees pair_of rest_of_opener rest_of_closer kinds_of deactivates closed
line_end_in_closing_tag = refl

-- a symbol counts as punctuation beside a run
bracket_kinds : html (codes "foo" ++ ((194 ∷ 167 ∷ []) ++ (codes "__(bar)__"))) ≡ codes "foo" ++ ((194 ∷ 167 ∷ []) ++ (codes "<strong>(bar)</strong>"))
unfolding caseless encode chars token decide ucd_category is_unicode_white_space is_unicode_punctuation agrees pair_of rest_of_opener rest_of_closer kinds_of deactivates closed
bracket_kinds = refl

-- a destination may be on a line of its own
code_over_lines : html (codes "[`\ni8\n`](\n../../../std/primitive.i8.html\n)") ≡ codes "<a href=\"../../../std/primitive.i8.html\"><code>i8</code></a>"
unfolding caseless encode chars token decide ucd_category is_unicode_white_space is_unicode_punctuation agrees pair_of rest_of_opener rest_of_closer kinds_of deactivates closed
code_over_lines = refl

-- an escaped backtick opens no code span
escaped_backtick : html (codes "\\`foo`") ≡ codes "`foo`"
unfolding caseless encode chars token decide ucd_category is_unicode_white_space is_unicode_punctuation agrees pair_of rest_of_opener rest_of_closer kinds_of deactivates closed
escaped_backtick = refl

-- after a backslash the rest of a run opens a code span
shorter_run : html (codes "\\``foo``bar`") ≡ codes "`<code>foo``bar</code>"
unfolding caseless encode chars token decide ucd_category is_unicode_white_space is_unicode_punctuation agrees pair_of rest_of_opener rest_of_closer kinds_of deactivates closed
shorter_run = refl

-- a backslash that is escaped escapes nothing
escaped_backslash : html (codes "\\\\`foo`") ≡ codes "\\<code>foo</code>"
unfolding caseless encode chars token decide ucd_category is_unicode_white_space is_unicode_punctuation agrees pair_of rest_of_opener rest_of_closer kinds_of deactivates closed
escaped_backslash = refl

-- escaped brackets around a link
escaped_brackets : html (codes "\\[[link text](https://www.google.com/)\\]") ≡ codes "[<a href=\"https://www.google.com/\">link text</a>]"
unfolding caseless encode chars token decide ucd_category is_unicode_white_space is_unicode_punctuation agrees pair_of rest_of_opener rest_of_closer kinds_of deactivates closed
escaped_brackets = refl

-- an ASCII control ends an autolink
control_in_autolink : html (codes "<http://" ++ ((7 ∷ []) ++ (codes ">"))) ≡ codes "&lt;http://" ++ ((7 ∷ []) ++ (codes "&gt;"))
unfolding caseless encode chars token decide ucd_category is_unicode_white_space is_unicode_punctuation agrees pair_of rest_of_opener rest_of_closer kinds_of deactivates closed
control_in_autolink = refl

-- a tag that is not closed is a text
open_tag : html (codes "<foo") ≡ codes "&lt;foo"
unfolding caseless encode chars token decide ucd_category is_unicode_white_space is_unicode_punctuation agrees pair_of rest_of_opener rest_of_closer kinds_of deactivates closed
open_tag = refl

-- a comment may hold two hyphens
comment_with_hyphens : html (codes "foo <!-- this is a --\ncomment - with hyphens -->") ≡ codes "foo <!-- this is a --\ncomment - with hyphens -->"
unfolding caseless encode chars token decide ucd_category is_unicode_white_space is_unicode_punctuation agrees pair_of rest_of_opener rest_of_closer kinds_of deactivates closed
comment_with_hyphens = refl
