-- The readings of texts about which the standard is silent, or which are this profile's own.
use Rattle.std.specs.Prelude.{◌≡◌, ℕ, List, [], ◌∷◌, codes, None}
use Rattle.std.specs.Fmt.{digits}
use Rattle.std.proofs.Common.{refl}
use Rattle.cmark_grammar.specs.Attributes.{no_attributes}
use Rattle.cmark_grammar.specs.Leaves.{underlines}
use Rattle.cmark_grammar.specs.Containers.{enter, keeps}
use Rattle.cmark_grammar.specs.Options.{no_options}
use Rattle.cmark_grammar.specs.Openings.{opens, texts, lazily}
use Rattle.cmark_block_model.specs.BlocksModel.{begin, blocks}
use Rattle.cmark_grammar.specs.Entities.{basic_entity}
use Rattle.cmark_grammar.specs.BlockDocument.{Paragraph, Heading, BlockQuote, IndentedCode, FencedCode, HtmlBlock, Text, OwnedText, Html, BlockNode, outline, node}
use Rattle.cmark_block_model.specs.DocumentModel.{document}
use Rattle.cmark_block_model.proofs.BlockSamples.{written}

-- directly after a definition a lazy line begins a paragraph, and not a definition
lazy_line_after_definition : written (document (codes "> [a]: /u\n[b]: /v\n\n[b]\n") no_options basic_entity) ≡ codes "<blockquote>\n<p>[b]: /v</p>\n</blockquote>\n<p>[b]</p>\n"
unfolding blocks begin opens texts lazily enter keeps underlines
lazy_line_after_definition = refl

-- a definition takes no lazy line
no_lazy_line_in_definition : written (document (codes "> [a]:\n/u\n") no_options basic_entity) ≡ codes "<blockquote>\n<p>[a]:\n/u</p>\n</blockquote>\n"
unfolding blocks begin opens texts lazily enter keeps underlines
no_lazy_line_in_definition = refl

-- a definition has no line that could not continue a paragraph
break_in_definition : written (document (codes "[a]:\n***\n") no_options basic_entity) ≡ codes "<p>[a]:</p>\n<hr />\n"
unfolding blocks begin opens texts lazily enter keeps underlines
break_in_definition = refl

underline_in_definition : written (document (codes "[a]:\n===\n") no_options basic_entity) ≡ codes "<h1>[a]:</h1>\n"
unfolding blocks begin opens texts lazily enter keeps underlines
underline_in_definition = refl

blank_line_in_title : written (document (codes "[a]: /u \"x\n\ny\"\n") no_options basic_entity) ≡ codes "<p>[a]: /u \"x</p>\n<p>y\"</p>\n"
unfolding blocks begin opens texts lazily enter keeps underlines
blank_line_in_title = refl

-- a title that does not fit is left to a paragraph
title_on_its_line : written (document (codes "[a]: /u\n\"x\" y\n") no_options basic_entity) ≡ codes "<p>\"x\" y</p>\n"
unfolding blocks begin opens texts lazily enter keeps underlines
title_on_its_line = refl

titles_over_lines : written (document (codes "[a]: /u 'x\n  y'\nz\n") no_options basic_entity) ≡ codes "<p>z</p>\n"
unfolding blocks begin opens texts lazily enter keeps underlines
titles_over_lines = refl

-- no paragraph is open after a definition
code_after_definition : written (document (codes "[a]: /u\n    b\n") no_options basic_entity) ≡ codes "<pre><code>b\n</code></pre>\n"
unfolding blocks begin opens texts lazily enter keeps underlines
code_after_definition = refl

item_after_definition : written (document (codes "[a]: /u\n2. b\n") no_options basic_entity) ≡ codes "<ol start=\"2\">\n<li>b</li>\n</ol>\n"
unfolding blocks begin opens texts lazily enter keeps underlines digits
item_after_definition = refl

html_after_definition : written (document (codes "[a]: /u\n<b>\n") no_options basic_entity) ≡ codes "<b>\n"
unfolding blocks begin opens texts lazily enter keeps underlines
html_after_definition = refl

definition_parts_lists : written (document (codes "- a\n\n[x]: /u\n- b\n") no_options basic_entity) ≡ codes "<ul>\n<li>a</li>\n</ul>\n<ul>\n<li>b</li>\n</ul>\n"
unfolding blocks begin opens texts lazily enter keeps underlines
definition_parts_lists = refl

comment_ends_in_its_start : written (document (codes "<!-->\nx\n") no_options basic_entity) ≡ codes "<!-->\n<p>x</p>\n"
unfolding blocks begin opens texts lazily enter keeps underlines
comment_ends_in_its_start = refl

instruction_ends_in_its_start : written (document (codes "<?>\nx\n") no_options basic_entity) ≡ codes "<?>\n<p>x</p>\n"
unfolding blocks begin opens texts lazily enter keeps underlines
instruction_ends_in_its_start = refl

-- no HTML block begins with a closing tag of such a name
closing_tag_of_code : written (document (codes "</pre>\n") no_options basic_entity) ≡ codes "<p>&lt;/pre&gt;</p>\n"
unfolding blocks begin opens texts lazily enter keeps underlines
closing_tag_of_code = refl

lone_tag_interrupts_not : written (document (codes "a\n<b>\n") no_options basic_entity) ≡ codes "<p>a\n&lt;b&gt;</p>\n"
unfolding blocks begin opens texts lazily enter keeps underlines
lone_tag_interrupts_not = refl

backslash_at_the_end : written (document (codes "a\\\n") no_options basic_entity) ≡ codes "<p>a\\</p>\n"
unfolding blocks begin opens texts lazily enter keeps underlines
backslash_at_the_end = refl

-- lines are raw, with the spaces at the beginning of later lines. The spaces before the first line and after the last one do not belong to
-- the content
raw_lines : outline (document (codes " \\*a&amp;  \n\tb\\\nc \n") no_options basic_entity) ≡ node Paragraph 1 19 ∷ node (Text (codes "\\*a&amp;  \n\tb\\\nc")) 1 17 ∷ []
unfolding blocks begin opens texts lazily enter keeps underlines
raw_lines = refl

raw_heading : outline (document (codes "## \\*a  #\n") no_options basic_entity) ≡ node (Heading 2 no_attributes) 0 10 ∷ node (Text (codes "\\*a")) 3 6 ∷ []
unfolding blocks begin opens texts lazily enter keeps underlines
raw_heading = refl

-- a lazy line begins no list
lazy_marker : written (document (codes "> a\n    - b\n") no_options basic_entity) ≡ codes "<blockquote>\n<p>a\n    - b</p>\n</blockquote>\n"
unfolding blocks begin opens texts lazily enter keeps underlines
lazy_marker = refl

-- an empty item interrupts a paragraph further in
empty_item_after_quote : written (document (codes "> a\n-\n") no_options basic_entity) ≡ codes "<blockquote>\n<p>a</p>\n</blockquote>\n<ul>\n<li></li>\n</ul>\n"
unfolding blocks begin opens texts lazily enter keeps underlines
empty_item_after_quote = refl

empty_item_in_paragraph : written (document (codes "a\n*\n") no_options basic_entity) ≡ codes "<p>a\n*</p>\n"
unfolding blocks begin opens texts lazily enter keeps underlines
empty_item_in_paragraph = refl

-- nine digits at most
long_number : written (document (codes "1234567890. a\n") no_options basic_entity) ≡ codes "<p>1234567890. a</p>\n"
unfolding blocks begin opens texts lazily enter keeps underlines
long_number = refl

quote_in_item_ends_code : written (document (codes "- a\n\n      b\n\n\n  c\n") no_options basic_entity) ≡ codes "<ul>\n<li>\n<p>a</p>\n<pre><code>b\n</code></pre>\n<p>c</p>\n</li>\n</ul>\n"
unfolding blocks begin opens texts lazily enter keeps underlines
quote_in_item_ends_code = refl

-- CR LF and a lone CR end lines too; in the raw content of a paragraph they are kept
line_ends : written (document (97 ∷ 13 ∷ 10 ∷ 98 ∷ 13 ∷ 13 ∷ 35 ∷ 32 ∷ 99 ∷ 13 ∷ []) no_options basic_entity) ≡ codes "<p>a\r\nb</p>\n<h1>c</h1>\n"
unfolding blocks begin opens texts lazily enter keeps underlines
line_ends = refl

-- the ranges of the nodes, in preorder
abbrev ranges : List BlockNode → List ℕ
ranges [] = []
ranges (n ∷ ns) = n.start ∷ n.end ∷ ranges ns

abbrev ranges_in : List ℕ → List ℕ
ranges_in text = ranges (outline (document text no_options basic_entity))

-- a list from its first item's indent, an item with its trailing blank line, a paragraph from its first byte
list_ranges : ranges_in (codes " - a\n\n - b\n") ≡ 0 ∷ 11 ∷ 0 ∷ 6 ∷ 3 ∷ 5 ∷ 3 ∷ 4 ∷ 6 ∷ 11 ∷ 9 ∷ 11 ∷ 9 ∷ 10 ∷ []
unfolding blocks begin opens texts lazily enter keeps underlines
list_ranges = refl

-- the range of a block quote begins at its marker; after a prefix a new stretch begins
quote_ranges : ranges_in (codes " > a\n > b\n") ≡ 1 ∷ 10 ∷ 3 ∷ 10 ∷ 3 ∷ 5 ∷ 8 ∷ 9 ∷ []
unfolding blocks begin opens texts lazily enter keeps underlines
quote_ranges = refl

-- an item after a tab of which the block quote took a column begins after the tab
cut_tab_item : ranges_in (codes ">\t- a\n") ≡ 0 ∷ 6 ∷ 2 ∷ 6 ∷ 2 ∷ 6 ∷ 4 ∷ 6 ∷ 4 ∷ 5 ∷ []
unfolding blocks begin opens texts lazily enter keeps underlines
cut_tab_item = refl

-- the rest of a tab in code is a text of spaces with an empty range
cut_tab_code : outline (document (codes ">\t\tfoo\n") no_options basic_entity) ≡
    node (BlockQuote None) 0 7 ∷ node IndentedCode 3 7 ∷ node (OwnedText (codes "  ")) 3 3 ∷ node (Text (codes "foo\n")) 3 7 ∷ []
unfolding blocks begin opens texts lazily enter keeps underlines
cut_tab_code = refl

-- of CR LF an HTML line keeps the line feed, as a piece of its own
html_lines : outline (document (60 ∷ 33 ∷ 45 ∷ 45 ∷ 13 ∷ 10 ∷ 13 ∷ 10 ∷ 45 ∷ 45 ∷ 62 ∷ []) no_options basic_entity) ≡
    node HtmlBlock 0 11 ∷ node (Html (codes "<!--")) 0 4 ∷ node (Html (codes "\n")) 5 6 ∷ node (Html (codes "\n")) 7 8 ∷ node (Html (codes "-->")) 8 11 ∷ []
unfolding blocks begin opens texts lazily enter keeps underlines
html_lines = refl

-- an HTML block begins with its indent
html_indent : outline (document (codes " <div>\n") no_options basic_entity) ≡ node HtmlBlock 0 7 ∷ node (Html (codes " <div>\n")) 0 7 ∷ []
unfolding blocks begin opens texts lazily enter keeps underlines
html_indent = refl

-- code lines that touch are one text
code_ranges : outline (document (codes "```\na\n\nb\n```\n") no_options basic_entity) ≡ node (FencedCode []) 0 13 ∷ node (Text (codes "a\n\nb\n")) 4 9 ∷ []
unfolding blocks begin opens texts lazily enter keeps underlines
code_ranges = refl
