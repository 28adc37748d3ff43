-- Most of the examples in CommonMark's block sections that contain no spans: the HTML of the definitions is the standard's, except that
-- each `"` of a text is literal. The content of leaves is raw: it contains the blanks at the beginning of later lines, which a line break
-- removes when the spans are read.
use Rattle.std.specs.Prelude.{◌≡◌, ℕ, List, codes, map}
use Rattle.std.specs.Fmt.{digits}
use Rattle.std.proofs.Common.{refl}
use Rattle.cmark_grammar.specs.Leaves.{underlines}
use Rattle.cmark_grammar.specs.Containers.{enter, keeps}
use Rattle.cmark_grammar.specs.Options.{no_options}
use Rattle.cmark_grammar.specs.Openings.{opens, texts, lazily}
use Rattle.cmark_block_model.specs.BlocksModel.{begin, blocks}
use Rattle.cmark_grammar.specs.Entities.{basic_entity}
use Rattle.cmark_grammar.specs.BlockDocument.{BlockDocument}
use Rattle.cmark_block_model.specs.DocumentModel.{document}
use Rattle.cmark_grammar.specs.Event.{Ranged}
use Rattle.cmark_grammar.specs.BlockReading.{block_reading}
use Rattle.cmark_grammar.specs.Html.{html}

abbrev pub written : BlockDocument → List ℕ
written document = html (map Ranged.event (block_reading document))

-- example 2
tab_in_code : written (document (codes "  \tfoo\tbaz\t\tbim\n") no_options basic_entity) ≡ codes "<pre><code>foo\tbaz\t\tbim\n</code></pre>\n"
unfolding blocks begin opens texts lazily enter keeps underlines
tab_in_code = refl

-- example 5
tab_in_item : written (document (codes "- foo\n\n\t\tbar\n") no_options basic_entity) ≡ codes "<ul>\n<li>\n<p>foo</p>\n<pre><code>  bar\n</code></pre>\n</li>\n</ul>\n"
unfolding blocks begin opens texts lazily enter keeps underlines
tab_in_item = refl

-- example 7
tabs_in_items : written (document (codes "-\t\tfoo\n") no_options basic_entity) ≡ codes "<ul>\n<li>\n<pre><code>  foo\n</code></pre>\n</li>\n</ul>\n"
unfolding blocks begin opens texts lazily enter keeps underlines
tabs_in_items = refl

-- example 9
tab_nests : written (document (codes " - foo\n   - bar\n\t - baz\n") no_options basic_entity) ≡ codes "<ul>\n<li>foo\n<ul>\n<li>bar\n<ul>\n<li>baz</li>\n</ul>\n</li>\n</ul>\n</li>\n</ul>\n"
unfolding blocks begin opens texts lazily enter keeps underlines
tab_nests = refl

-- example 47
breaks : written (document (codes " ***\n  ***\n   ***\n") no_options basic_entity) ≡ codes "<hr />\n<hr />\n<hr />\n"
unfolding blocks begin opens texts lazily enter keeps underlines
breaks = refl

-- example 57
break_ends_item : written (document (codes "- foo\n***\n- bar\n") no_options basic_entity) ≡ codes "<ul>\n<li>foo</li>\n</ul>\n<hr />\n<ul>\n<li>bar</li>\n</ul>\n"
unfolding blocks begin opens texts lazily enter keeps underlines
break_ends_item = refl

-- example 61
break_over_item : written (document (codes "- Foo\n- * * *\n") no_options basic_entity) ≡ codes "<ul>\n<li>Foo</li>\n<li>\n<hr />\n</li>\n</ul>\n"
unfolding blocks begin opens texts lazily enter keeps underlines
break_over_item = refl

-- example 62
levels : written (document (codes "# foo\n## foo\n###### foo\n") no_options basic_entity) ≡ codes "<h1>foo</h1>\n<h2>foo</h2>\n<h6>foo</h6>\n"
unfolding blocks begin opens texts lazily enter keeps underlines
levels = refl

-- example 63
hashes_of_no_level : written (document (codes "####### foo\n") no_options basic_entity) ≡ codes "<p>####### foo</p>\n"
unfolding blocks begin opens texts lazily enter keeps underlines
hashes_of_no_level = refl

-- example 64
hashes_without_a_blank : written (document (codes "#5 bolt\n\n#hashtag\n") no_options basic_entity) ≡ codes "<p>#5 bolt</p>\n<p>#hashtag</p>\n"
unfolding blocks begin opens texts lazily enter keeps underlines
hashes_without_a_blank = refl

-- example 71
closing_hashes : written (document (codes "## foo ##\n  ###   bar    ###\n") no_options basic_entity) ≡ codes "<h2>foo</h2>\n<h3>bar</h3>\n"
unfolding blocks begin opens texts lazily enter keeps underlines
closing_hashes = refl

-- example 83
underlines_of_any_length : written (document (codes "Foo\n-------------------------\n\nFoo\n=\n") no_options basic_entity) ≡ codes "<h2>Foo</h2>\n<h1>Foo</h1>\n"
unfolding blocks begin opens texts lazily enter keeps underlines
underlines_of_any_length = refl

-- example 88
spaced_runs_underline_nothing : written (document (codes "Foo\n= =\n\nFoo\n--- -\n") no_options basic_entity) ≡ codes "<p>Foo\n= =</p>\n<p>Foo</p>\n<hr />\n"
unfolding blocks begin opens texts lazily enter keeps underlines
spaced_runs_underline_nothing = refl

-- example 92
break_after_quote : written (document (codes "> Foo\n---\n") no_options basic_entity) ≡ codes "<blockquote>\n<p>Foo</p>\n</blockquote>\n<hr />\n"
unfolding blocks begin opens texts lazily enter keeps underlines
break_after_quote = refl

-- example 95
underline_after_lines : written (document (codes "Foo\nBar\n---\n") no_options basic_entity) ≡ codes "<h2>Foo\nBar</h2>\n"
unfolding blocks begin opens texts lazily enter keeps underlines
underline_after_lines = refl

-- example 101
underline_outside_a_quote : written (document (codes "> foo\n-----\n") no_options basic_entity) ≡ codes "<blockquote>\n<p>foo</p>\n</blockquote>\n<hr />\n"
unfolding blocks begin opens texts lazily enter keeps underlines
underline_outside_a_quote = refl

-- example 107
code : written (document (codes "    a simple\n      indented code block\n") no_options basic_entity) ≡ codes "<pre><code>a simple\n  indented code block\n</code></pre>\n"
unfolding blocks begin opens texts lazily enter keeps underlines
code = refl

-- example 111
code_with_blanks : written (document (codes "    chunk1\n\n    chunk2\n  \n \n \n    chunk3\n") no_options basic_entity) ≡ codes "<pre><code>chunk1\n\nchunk2\n\n\n\nchunk3\n</code></pre>\n"
unfolding blocks begin opens texts lazily enter keeps underlines
code_with_blanks = refl

-- example 113
no_code_in_paragraph : written (document (codes "Foo\n    bar\n\n") no_options basic_entity) ≡ codes "<p>Foo\n    bar</p>\n"
unfolding blocks begin opens texts lazily enter keeps underlines
no_code_in_paragraph = refl

-- example 117
code_trailing_blanks : written (document (codes "\n    \n    foo\n    \n\n") no_options basic_entity) ≡ codes "<pre><code>foo\n</code></pre>\n"
unfolding blocks begin opens texts lazily enter keeps underlines
code_trailing_blanks = refl

-- example 119
fence : written (document (codes "```\n<\n >\n```\n") no_options basic_entity) ≡ codes "<pre><code>&lt;\n &gt;\n</code></pre>\n"
unfolding blocks begin opens texts lazily enter keeps underlines
fence = refl

-- example 126
fence_without_closer : written (document (codes "```\n") no_options basic_entity) ≡ codes "<pre><code></code></pre>\n"
unfolding blocks begin opens texts lazily enter keeps underlines
fence_without_closer = refl

-- example 128
quote_ends_fence : written (document (codes "> ```\n> aaa\n\nbbb\n") no_options basic_entity) ≡ codes "<blockquote>\n<pre><code>aaa\n</code></pre>\n</blockquote>\n<p>bbb</p>\n"
unfolding blocks begin opens texts lazily enter keeps underlines
quote_ends_fence = refl

-- example 131
fence_indent : written (document (codes " ```\n aaa\naaa\n```\n") no_options basic_entity) ≡ codes "<pre><code>aaa\naaa\n</code></pre>\n"
unfolding blocks begin opens texts lazily enter keeps underlines
fence_indent = refl

-- example 135
indented_closer : written (document (codes "```\naaa\n  ```\n") no_options basic_entity) ≡ codes "<pre><code>aaa\n</code></pre>\n"
unfolding blocks begin opens texts lazily enter keeps underlines
indented_closer = refl

-- example 143
info : written (document (codes "~~~~    ruby startline=3 $%@#$\ndef foo(x)\n  return 3\nend\n~~~~~~~\n") no_options basic_entity) ≡ codes "<pre><code class=\"language-ruby\">def foo(x)\n  return 3\nend\n</code></pre>\n"
unfolding blocks begin opens texts lazily enter keeps underlines
info = refl

-- example 179
comment : written (document (codes "<!-- Foo\n\nbar\n   baz -->\nokay\n") no_options basic_entity) ≡ codes "<!-- Foo\n\nbar\n   baz -->\n<p>okay</p>\n"
unfolding blocks begin opens texts lazily enter keeps underlines
comment = refl

-- example 182
character_data : written (document (codes "<![CDATA[\nfunction matchwo(a,b)\n{\n  if (a < b && a < 0) then {\n    return 1;\n\n  } else {\n\n    return 0;\n  }\n}\n]]>\nokay\n") no_options basic_entity) ≡ codes "<![CDATA[\nfunction matchwo(a,b)\n{\n  if (a < b && a < 0) then {\n    return 1;\n\n  } else {\n\n    return 0;\n  }\n}\n]]>\n<p>okay</p>\n"
unfolding blocks begin opens texts lazily enter keeps underlines
character_data = refl

-- example 185
html_interrupts : written (document (codes "Foo\n<div>\nbar\n</div>\n") no_options basic_entity) ≡ codes "<p>Foo</p>\n<div>\nbar\n</div>\n"
unfolding blocks begin opens texts lazily enter keeps underlines
html_interrupts = refl

-- example 186
html_to_a_blank_line : written (document (codes "<div>\nbar\n</div>\n*foo*\n") no_options basic_entity) ≡ codes "<div>\nbar\n</div>\n*foo*\n"
unfolding blocks begin opens texts lazily enter keeps underlines
html_to_a_blank_line = refl

-- example 208
definition_over_lines : written (document (codes "[\nfoo\n]: /url\nbar\n") no_options basic_entity) ≡ codes "<p>bar</p>\n"
unfolding blocks begin opens texts lazily enter keeps underlines
definition_over_lines = refl

-- example 210
title_that_does_not_fit : written (document (codes "[foo]: /url\n\"title\" ok\n") no_options basic_entity) ≡ codes "<p>\"title\" ok</p>\n"
unfolding blocks begin opens texts lazily enter keeps underlines
title_that_does_not_fit = refl

-- example 213
definition_interrupts_not : written (document (codes "Foo\n[bar]: /baz\n\n[bar]\n") no_options basic_entity) ≡ codes "<p>Foo\n[bar]: /baz</p>\n<p>[bar]</p>\n"
unfolding blocks begin opens texts lazily enter keeps underlines
definition_interrupts_not = refl

-- example 219
paragraphs : written (document (codes "aaa\n\nbbb\n") no_options basic_entity) ≡ codes "<p>aaa</p>\n<p>bbb</p>\n"
unfolding blocks begin opens texts lazily enter keeps underlines
paragraphs = refl

-- example 228
quote : written (document (codes "> # Foo\n> bar\n> baz\n") no_options basic_entity) ≡ codes "<blockquote>\n<h1>Foo</h1>\n<p>bar\nbaz</p>\n</blockquote>\n"
unfolding blocks begin opens texts lazily enter keeps underlines
quote = refl

-- example 233
lazy_line : written (document (codes "> bar\nbaz\n> foo\n") no_options basic_entity) ≡ codes "<blockquote>\n<p>bar\nbaz\nfoo</p>\n</blockquote>\n"
unfolding blocks begin opens texts lazily enter keeps underlines
lazy_line = refl

-- example 235
lazy_list : written (document (codes "> - foo\n- bar\n") no_options basic_entity) ≡ codes "<blockquote>\n<ul>\n<li>foo</li>\n</ul>\n</blockquote>\n<ul>\n<li>bar</li>\n</ul>\n"
unfolding blocks begin opens texts lazily enter keeps underlines
lazy_list = refl

-- example 236
lazy_code : written (document (codes ">     foo\n    bar\n") no_options basic_entity) ≡ codes "<blockquote>\n<pre><code>foo\n</code></pre>\n</blockquote>\n<pre><code>bar\n</code></pre>\n"
unfolding blocks begin opens texts lazily enter keeps underlines
lazy_code = refl

-- example 237
lazy_fence : written (document (codes "> ```\nfoo\n```\n") no_options basic_entity) ≡ codes "<blockquote>\n<pre><code></code></pre>\n</blockquote>\n<p>foo</p>\n<pre><code></code></pre>\n"
unfolding blocks begin opens texts lazily enter keeps underlines
lazy_fence = refl

-- example 238
lazy_text : written (document (codes "> foo\n    - bar\n") no_options basic_entity) ≡ codes "<blockquote>\n<p>foo\n    - bar</p>\n</blockquote>\n"
unfolding blocks begin opens texts lazily enter keeps underlines
lazy_text = refl

-- example 251
quote_needs_lines : written (document (codes ">>> foo\n> bar\n>>baz\n") no_options basic_entity) ≡ codes "<blockquote>\n<blockquote>\n<blockquote>\n<p>foo\nbar\nbaz</p>\n</blockquote>\n</blockquote>\n</blockquote>\n"
unfolding blocks begin opens texts lazily enter keeps underlines
quote_needs_lines = refl

-- example 253
code_after_paragraph : written (document (codes "A paragraph\nwith two lines.\n\n    indented code\n\n> A block quote.\n") no_options basic_entity) ≡ codes "<p>A paragraph\nwith two lines.</p>\n<pre><code>indented code\n</code></pre>\n<blockquote>\n<p>A block quote.</p>\n</blockquote>\n"
unfolding blocks begin opens texts lazily enter keeps underlines
code_after_paragraph = refl

-- example 263
item_with_everything : written (document (codes "1.  foo\n\n    ```\n    bar\n    ```\n\n    baz\n\n    > bam\n") no_options basic_entity) ≡ codes "<ol>\n<li>\n<p>foo</p>\n<pre><code>bar\n</code></pre>\n<p>baz</p>\n<blockquote>\n<p>bam</p>\n</blockquote>\n</li>\n</ol>\n"
unfolding blocks begin opens texts lazily enter keeps underlines
item_with_everything = refl

-- example 265
nine_digits : written (document (codes "123456789. ok\n") no_options basic_entity) ≡ codes "<ol start=\"123456789\">\n<li>ok</li>\n</ol>\n"
unfolding blocks begin opens texts lazily enter keeps underlines digits
nine_digits = refl

-- example 267
zero : written (document (codes "0. ok\n") no_options basic_entity) ≡ codes "<ol start=\"0\">\n<li>ok</li>\n</ol>\n"
unfolding blocks begin opens texts lazily enter keeps underlines digits
zero = refl

-- example 268
leading_zeros : written (document (codes "003. ok\n") no_options basic_entity) ≡ codes "<ol start=\"3\">\n<li>ok</li>\n</ol>\n"
unfolding blocks begin opens texts lazily enter keeps underlines digits
leading_zeros = refl

-- example 278
empty_first_lines : written (document (codes "-\n  foo\n-\n  ```\n  bar\n  ```\n-\n      baz\n") no_options basic_entity) ≡ codes "<ul>\n<li>foo</li>\n<li>\n<pre><code>bar\n</code></pre>\n</li>\n<li>\n<pre><code>baz\n</code></pre>\n</li>\n</ul>\n"
unfolding blocks begin opens texts lazily enter keeps underlines
empty_first_lines = refl

-- example 280
bare_item_ends : written (document (codes "-\n\n  foo\n") no_options basic_entity) ≡ codes "<ul>\n<li></li>\n</ul>\n<p>foo</p>\n"
unfolding blocks begin opens texts lazily enter keeps underlines
bare_item_ends = refl

-- example 292
lazy_item : written (document (codes "> 1. > Blockquote\ncontinued here.\n") no_options basic_entity) ≡ codes "<blockquote>\n<ol>\n<li>\n<blockquote>\n<p>Blockquote\ncontinued here.</p>\n</blockquote>\n</li>\n</ol>\n</blockquote>\n"
unfolding blocks begin opens texts lazily enter keeps underlines
lazy_item = refl

-- example 301
markers_differ : written (document (codes "- foo\n- bar\n+ baz\n") no_options basic_entity) ≡ codes "<ul>\n<li>foo</li>\n<li>bar</li>\n</ul>\n<ul>\n<li>baz</li>\n</ul>\n"
unfolding blocks begin opens texts lazily enter keeps underlines
markers_differ = refl

-- example 303
list_interrupts : written (document (codes "Foo\n- bar\n- baz\n") no_options basic_entity) ≡ codes "<p>Foo</p>\n<ul>\n<li>bar</li>\n<li>baz</li>\n</ul>\n"
unfolding blocks begin opens texts lazily enter keeps underlines
list_interrupts = refl

-- example 304
number_interrupts_not : written (document (codes "The number of windows in my house is\n14.  The number of doors is 6.\n") no_options basic_entity) ≡ codes "<p>The number of windows in my house is\n14.  The number of doors is 6.</p>\n"
unfolding blocks begin opens texts lazily enter keeps underlines
number_interrupts_not = refl

-- example 306
loose : written (document (codes "- foo\n\n- bar\n\n\n- baz\n") no_options basic_entity) ≡ codes "<ul>\n<li>\n<p>foo</p>\n</li>\n<li>\n<p>bar</p>\n</li>\n<li>\n<p>baz</p>\n</li>\n</ul>\n"
unfolding blocks begin opens texts lazily enter keeps underlines
loose = refl

-- example 307
loose_within : written (document (codes "- foo\n  - bar\n    - baz\n\n\n      bim\n") no_options basic_entity) ≡ codes "<ul>\n<li>foo\n<ul>\n<li>bar\n<ul>\n<li>\n<p>baz</p>\n<p>bim</p>\n</li>\n</ul>\n</li>\n</ul>\n</li>\n</ul>\n"
unfolding blocks begin opens texts lazily enter keeps underlines
loose_within = refl

-- example 310
indented_items : written (document (codes "- a\n - b\n  - c\n   - d\n  - e\n - f\n- g\n") no_options basic_entity) ≡ codes "<ul>\n<li>a</li>\n<li>b</li>\n<li>c</li>\n<li>d</li>\n<li>e</li>\n<li>f</li>\n<li>g</li>\n</ul>\n"
unfolding blocks begin opens texts lazily enter keeps underlines
indented_items = refl

-- example 312
too_deep_item : written (document (codes "- a\n - b\n  - c\n   - d\n    - e\n") no_options basic_entity) ≡ codes "<ul>\n<li>a</li>\n<li>b</li>\n<li>c</li>\n<li>d\n    - e</li>\n</ul>\n"
unfolding blocks begin opens texts lazily enter keeps underlines
too_deep_item = refl

-- example 314
blank_between : written (document (codes "- a\n- b\n\n- c\n") no_options basic_entity) ≡ codes "<ul>\n<li>\n<p>a</p>\n</li>\n<li>\n<p>b</p>\n</li>\n<li>\n<p>c</p>\n</li>\n</ul>\n"
unfolding blocks begin opens texts lazily enter keeps underlines
blank_between = refl

-- example 315
empty_between : written (document (codes "* a\n*\n\n* c\n") no_options basic_entity) ≡ codes "<ul>\n<li>\n<p>a</p>\n</li>\n<li></li>\n<li>\n<p>c</p>\n</li>\n</ul>\n"
unfolding blocks begin opens texts lazily enter keeps underlines
empty_between = refl

-- example 317
definition_between : written (document (codes "- a\n- b\n\n  [ref]: /url\n- d\n") no_options basic_entity) ≡ codes "<ul>\n<li>\n<p>a</p>\n</li>\n<li>\n<p>b</p>\n</li>\n<li>\n<p>d</p>\n</li>\n</ul>\n"
unfolding blocks begin opens texts lazily enter keeps underlines
definition_between = refl

-- example 318
fence_is_tight : written (document (codes "- a\n- ```\n  b\n\n\n  ```\n- c\n") no_options basic_entity) ≡ codes "<ul>\n<li>a</li>\n<li>\n<pre><code>b\n\n\n</code></pre>\n</li>\n<li>c</li>\n</ul>\n"
unfolding blocks begin opens texts lazily enter keeps underlines
fence_is_tight = refl

-- example 319
inner_loose : written (document (codes "- a\n  - b\n\n    c\n- d\n") no_options basic_entity) ≡ codes "<ul>\n<li>a\n<ul>\n<li>\n<p>b</p>\n<p>c</p>\n</li>\n</ul>\n</li>\n<li>d</li>\n</ul>\n"
unfolding blocks begin opens texts lazily enter keeps underlines
inner_loose = refl

-- example 326
outer_tight : written (document (codes "- a\n  - b\n  - c\n\n- d\n  - e\n  - f\n") no_options basic_entity) ≡ codes "<ul>\n<li>\n<p>a</p>\n<ul>\n<li>b</li>\n<li>c</li>\n</ul>\n</li>\n<li>\n<p>d</p>\n<ul>\n<li>e</li>\n<li>f</li>\n</ul>\n</li>\n</ul>\n"
unfolding blocks begin opens texts lazily enter keeps underlines
outer_tight = refl

-- example 644
backslash_at_the_end : written (document (codes "foo\\\n") no_options basic_entity) ≡ codes "<p>foo\\</p>\n"
unfolding blocks begin opens texts lazily enter keeps underlines
backslash_at_the_end = refl

-- example 645
spaces_at_the_end : written (document (codes "foo  \n") no_options basic_entity) ≡ codes "<p>foo</p>\n"
unfolding blocks begin opens texts lazily enter keeps underlines
spaces_at_the_end = refl
