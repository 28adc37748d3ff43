-- The HTML of some events: each kind of block and span, images, whose alternative text is the text inside, tables, footnotes and metadata.
use Rattle.std.specs.Prelude.{◌≡◌, ℕ, true, false, List, [], ◌∷◌, ◌++◌, codes, None, Some}
use Rattle.std.specs.Fmt.{digits}
use Rattle.std.proofs.Common.{refl}
use Rattle.cmark_grammar.specs.Alignment.{Unaligned, Left, Center, Right}
use Rattle.cmark_grammar.specs.Attributes.{no_attributes}
use Rattle.cmark_grammar.specs.BlockQuoteKind.{Tip}
use Rattle.cmark_grammar.specs.CodeBlockKind.{Indented, Fenced}
use Rattle.cmark_grammar.specs.Event.{Event, Start, End, Text, Code, InlineMath, DisplayMath, Html, InlineHtml, FootnoteReference, SoftBreak, HardBreak, Rule, TaskListMarker}
use Rattle.cmark_grammar.specs.Html.{html}
use Rattle.cmark_grammar.specs.LinkType.{LinkType, Inline, Reference, Email}
use Rattle.cmark_grammar.specs.MetadataBlockKind.{YamlStyle, PlusesStyle}
use Rattle.cmark_grammar.specs.Tag as tag
use Rattle.cmark_grammar.specs.TagEnd as end

abbrev pub image : List ℕ → List ℕ → Event
image destination title = Start (tag.Image (record { link_type = Inline; destination = destination; title = title; id = [] }))

abbrev pub link_of : LinkType → List ℕ → List ℕ → Event
link_of kind destination title = Start (tag.Link (record { link_type = kind; destination = destination; title = title; id = [] }))

abbrev pub link : List ℕ → Event
link destination = link_of Inline destination []

-- a line feed precedes a block unless the writer is at a line start
line_start : html (Text (codes "a") ∷ Rule ∷ Rule ∷ []) ≡ codes "a\n<hr />\n<hr />\n"
line_start = refl

heading : html (Start (tag.Heading 6 no_attributes) ∷ Text (codes "a") ∷ End (end.Heading 6) ∷ []) ≡ codes "<h6>a</h6>\n"
heading = refl

heading_with_attributes : html (Start (tag.Heading 2 (record { id = Some (codes "a&"); classes = codes "b" ∷ codes "\"c\"" ∷ []; others = record { name = codes "d"; value = None } ∷ record { name = codes "e"; value = Some (codes "<f>") } ∷ [] })) ∷ [])
    ≡ codes "<h2 id=\"a&amp;\" class=\"b &quot;c&quot;\" d=\"\" e=\"&lt;f&gt;\">"
heading_with_attributes = refl

block_quotes : html (Start (tag.BlockQuote (Some Tip)) ∷ Start (tag.BlockQuote None) ∷ End (end.BlockQuote None) ∷ End (end.BlockQuote (Some Tip)) ∷ [])
    ≡ codes "<blockquote class=\"markdown-alert-tip\">\n<blockquote>\n</blockquote>\n</blockquote>\n"
block_quotes = refl

-- the first word of an info string names the language (CommonMark 4.5)
code_blocks : html (Start (tag.CodeBlock (Fenced (codes "c++ x"))) ∷ Text (codes "a<b\n") ∷ End end.CodeBlock ∷ Start (tag.CodeBlock (Fenced [])) ∷ End end.CodeBlock ∷ Start (tag.CodeBlock Indented) ∷ End end.CodeBlock ∷ [])
    ≡ codes "<pre><code class=\"language-c++\">a&lt;b\n</code></pre>\n<pre><code></code></pre>\n<pre><code></code></pre>\n"
code_blocks = refl

-- an ordered list says its first number unless it is 1
lists : html (Start (tag.Listing (Some 7)) ∷ Start tag.ListItem ∷ TaskListMarker true ∷ Text (codes "a") ∷ Start (tag.Listing None) ∷ Start tag.ListItem ∷ TaskListMarker false ∷ End end.ListItem ∷ End (end.Listing false) ∷ End end.ListItem ∷ End (end.Listing true) ∷ Start (tag.Listing (Some 1)) ∷ [])
    ≡ codes "<ol start=\"7\">\n<li><input disabled=\"\" type=\"checkbox\" checked=\"\"/>\na\n<ul>\n<li><input disabled=\"\" type=\"checkbox\"/>\n</li>\n</ul>\n</li>\n</ol>\n<ol>\n"
unfolding digits
lists = refl

definition_list : html (Start tag.DefinitionList ∷ Start tag.DefinitionListTitle ∷ Text (codes "a") ∷ End end.DefinitionListTitle ∷ Start tag.DefinitionListDefinition ∷ Text (codes "b") ∷ End end.DefinitionListDefinition ∷ End end.DefinitionList ∷ [])
    ≡ codes "<dl>\n<dt>a</dt>\n<dd>b</dd>\n</dl>\n"
definition_list = refl

html_block : html (Start tag.HtmlBlock ∷ Html (codes "<hr>\n") ∷ End end.HtmlBlock ∷ Rule ∷ []) ≡ codes "<hr>\n<hr />\n"
html_block = refl

spans : html (Start tag.Emphasis ∷ Start tag.Strong ∷ Start tag.Strikethrough ∷ Start tag.Superscript ∷ Start tag.Subscript ∷ Text (codes "<&>\"'") ∷ End end.Subscript ∷ End end.Superscript ∷ End end.Strikethrough ∷ End end.Strong ∷ End end.Emphasis ∷ [])
    ≡ codes "<em><strong><del><sup><sub>&lt;&amp;&gt;\"'</sub></sup></del></strong></em>"
spans = refl

highlight : html (Start tag.Highlight ∷ Text (codes "<a>") ∷ End end.Highlight ∷ []) ≡ codes "<mark>&lt;a&gt;</mark>"
highlight = refl

leaves : html (Code (codes "<\">") ∷ InlineMath (codes "a'") ∷ DisplayMath (codes "\"b") ∷ InlineHtml (codes "<i>") ∷ HardBreak ∷ SoftBreak ∷ [])
    ≡ codes "<code>&lt;\"&gt;</code><span class=\"math math-inline\">a&#x27;</span><span class=\"math math-display\">&quot;b</span><i><br />\n\n"
leaves = refl

links : html (link_of Inline (codes "/a b'&") [] ∷ link_of Reference (codes "/") (codes "t\"'") ∷ link_of Email (codes "a@b.c") [] ∷ End end.Link ∷ [])
    ≡ codes "<a href=\"/a%20b&#x27;&amp;\"><a href=\"/\" title=\"t&quot;&#x27;\"><a href=\"mailto:a@b.c\"></a>"
links = refl

image_with_title : html (image (codes "/a b") (codes "\"t\"") ∷ Text (codes "a<\"") ∷ End end.Image ∷ []) ≡ codes "<img src=\"/a%20b\" alt=\"a&lt;&quot;\" title=\"&quot;t&quot;\" />"
image_with_title = refl

-- example 571 of CommonMark, in its paragraph
image_in_paragraph : html (Start tag.Paragraph ∷ image (codes "/url") (codes "title") ∷ Text (codes "foo") ∷ End end.Image ∷ End end.Paragraph ∷ []) ≡ codes "<p><img src=\"/url\" alt=\"foo\" title=\"title\" /></p>\n"
image_in_paragraph = refl

-- example 573
image_in_image : html (image (codes "/url2") [] ∷ Text (codes "foo ") ∷ image (codes "/url") [] ∷ Text (codes "bar") ∷ End end.Image ∷ End end.Image ∷ []) ≡ codes "<img src=\"/url2\" alt=\"foo bar\" />"
image_in_image = refl

elements_in_image : html (image (codes "d") [] ∷ Start tag.Emphasis ∷ Text (codes "a") ∷ End end.Emphasis ∷ link (codes "e") ∷ Text (codes "b") ∷ End end.Link ∷ Text (codes "c") ∷ End end.Image ∷ Text (codes "f") ∷ []) ≡ codes "<img src=\"d\" alt=\"abc\" />f"
elements_in_image = refl

leaves_in_image : html (image (codes "d") [] ∷ Code (codes "a&") ∷ SoftBreak ∷ InlineMath (codes "b'") ∷ HardBreak ∷ DisplayMath (codes "c") ∷ Rule ∷ Html (codes "<hr>") ∷ InlineHtml (codes "<i>") ∷ TaskListMarker true ∷ TaskListMarker false ∷ End end.Image ∷ [])
    ≡ codes "<img src=\"d\" alt=\"a&amp; $b&#x27;$ $$c$$ &lt;i&gt;[x][ ]\" />"
leaves_in_image = refl

-- an image that the list leaves open is closed
open_image : html (image (codes "d") [] ∷ Text (codes "a") ∷ []) ≡ codes "<img src=\"d\" alt=\"a\" />"
open_image = refl

-- no image is a line start
block_after_image : html (image (codes "d") [] ∷ Text (codes "a\n") ∷ End end.Image ∷ Rule ∷ []) ≡ codes "<img src=\"d\" alt=\"a\n\" />\n<hr />\n"
block_after_image = refl

abbrev pub cell : List ℕ → List Event
cell text = Start tag.TableCell ∷ Text text ∷ End end.TableCell ∷ []

abbrev pub row : List Event → List Event
row cells = Start tag.TableRow ∷ (cells ++ (End end.TableRow ∷ []))

-- GFM 4.10, and cells past the last column
table : html (Start (tag.Table (Left ∷ Unaligned ∷ Center ∷ Right ∷ [])) ∷ Start tag.TableHead ∷ (cell (codes "a") ++ (cell (codes "b") ++ (End end.TableHead ∷ (row (cell (codes "c") ++ (cell (codes "d") ++ (cell (codes "e") ++ (cell (codes "f") ++ cell (codes "g"))))) ++ (End end.Table ∷ []))))))
    ≡ codes "<table><thead><tr><th style=\"text-align: left\">a</th><th>b</th></tr></thead><tbody>\n<tr><td style=\"text-align: left\">c</td><td>d</td><td style=\"text-align: center\">e</td><td style=\"text-align: right\">f</td><td>g</td></tr>\n</tbody></table>\n"
table = refl

-- a cell is aligned as its column of the last table, and belongs to the head until a head has ended
last_table : html (cell (codes "a") ++ (Start (tag.Table (Left ∷ Right ∷ [])) ∷ (cell (codes "b") ++ (End end.TableHead ∷ (cell (codes "c") ++ (Start tag.TableHead ∷ cell (codes "d")))))))
    ≡ codes "<th>a</th><table><th style=\"text-align: right\">b</th></tr></thead><tbody>\n<td>c</td><thead><tr><th style=\"text-align: left\">d</th>"
last_table = refl

metadata_of_pluses : html (Start (tag.MetadataBlock PlusesStyle) ∷ Text (codes "a") ∷ End (end.MetadataBlock PlusesStyle) ∷ Rule ∷ []) ≡ codes "<hr />\n"
metadata_of_pluses = refl

metadata : html (Start (tag.MetadataBlock YamlStyle) ∷ Text (codes "a: b") ∷ image (codes "d") [] ∷ Text (codes "c") ∷ End end.Image ∷ End (end.MetadataBlock YamlStyle) ∷ Start tag.Paragraph ∷ Text (codes "e") ∷ End end.Paragraph ∷ [])
    ≡ codes "<img src=\"d\" alt=\"c\" />\n<p>e</p>\n"
metadata = refl

footnotes : html (Start tag.Paragraph ∷ FootnoteReference (codes "b") ∷ FootnoteReference (codes "a\"") ∷ FootnoteReference (codes "b") ∷ image (codes "d") [] ∷ FootnoteReference (codes "e") ∷ End end.Image ∷ End end.Paragraph ∷ Start (tag.FootnoteDefinition (codes "c")) ∷ End end.FootnoteDefinition ∷ Start (tag.FootnoteDefinition (codes "b")) ∷ End end.FootnoteDefinition ∷ [])
    ≡ codes "<p><sup class=\"footnote-reference\"><a href=\"#b\">1</a></sup><sup class=\"footnote-reference\"><a href=\"#a&quot;\">2</a></sup><sup class=\"footnote-reference\"><a href=\"#b\">1</a></sup><img src=\"d\" alt=\"[3]\" /></p>\n<div class=\"footnote-definition\" id=\"c\"><sup class=\"footnote-definition-label\">4</sup></div>\n<div class=\"footnote-definition\" id=\"b\"><sup class=\"footnote-definition-label\">1</sup></div>\n"
unfolding digits
footnotes = refl

-- two names that differ in case are two footnotes; in an alternative text neither the definition nor its number is written
footnotes_by_exact_names : html (Start (tag.FootnoteDefinition (codes "\"")) ∷ End end.FootnoteDefinition ∷ image (codes "d") [] ∷ FootnoteReference (codes "A") ∷ Start (tag.FootnoteDefinition (codes "b")) ∷ End end.FootnoteDefinition ∷ End end.Image ∷ FootnoteReference (codes "a") ∷ FootnoteReference (codes "A") ∷ [])
    ≡ codes "<div class=\"footnote-definition\" id=\"&quot;\"><sup class=\"footnote-definition-label\">1</sup></div>\n<img src=\"d\" alt=\"[2]\" /><sup class=\"footnote-reference\"><a href=\"#a\">3</a></sup><sup class=\"footnote-reference\"><a href=\"#A\">2</a></sup>"
unfolding digits
footnotes_by_exact_names = refl

-- elements that stay open inside of an image are passed over with it
open_image_with_link : html (image (codes "d") (codes "t") ∷ link (codes "e") ∷ Text (codes "a") ∷ []) ≡ codes "<img src=\"d\" alt=\"a\" title=\"t\" />"
open_image_with_link = refl
