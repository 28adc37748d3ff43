-- Examples of CommonMark, computed: the result of the model for a document with its spans is the standard's HTML.
use Rattle.std.specs.Prelude.{◌≡◌, [], ◌∷◌, ◌++◌, codes}
use Rattle.std.specs.Str.{chars}
use Rattle.std.proofs.Common.{refl}
use lib.Utf8.{encode}
use Rattle.caseless.proofs.Computing.{caseless}
use Rattle.ucd_category.proofs.Computing.{ucd_category}
use Rattle.cmark_block_model.specs.BlocksModel.{begin, blocks}
use Rattle.cmark_grammar.specs.Containers.{enter, keeps}
use Rattle.cmark_grammar.specs.Leaves.{underlines}
use Rattle.cmark_grammar.specs.Openings.{opens, texts, lazily}
use Rattle.cmark_grammar.specs.BracketDecisions.{decide}
use Rattle.cmark_grammar.specs.Emphasis.{agrees, pair_of, rest_of_opener, rest_of_closer, kinds_of, deactivates}
use Rattle.cmark_inline_model.specs.EmphasisModel.{closed}
use Rattle.cmark_grammar.specs.Flanking.{is_unicode_white_space, is_unicode_punctuation}
use Rattle.cmark_grammar.specs.InlineTokens.{token}
use Rattle.cmark_inline_model.proofs.SampleReading.{document_html}

example_18 : document_html (codes "    \\[\\]\n") ≡ codes "<pre><code>\\[\\]\n</code></pre>\n"
unfolding caseless encode chars token decide ucd_category is_unicode_white_space is_unicode_punctuation agrees pair_of rest_of_opener rest_of_closer kinds_of deactivates closed blocks begin opens texts lazily enter keeps underlines
example_18 = refl

example_19 : document_html (codes "~~~\n\\[\\]\n~~~\n") ≡ codes "<pre><code>\\[\\]\n</code></pre>\n"
unfolding caseless encode chars token decide ucd_category is_unicode_white_space is_unicode_punctuation agrees pair_of rest_of_opener rest_of_closer kinds_of deactivates closed blocks begin opens texts lazily enter keeps underlines
example_19 = refl

example_21 : document_html (codes "<a href=\"/bar\\/)\">\n") ≡ codes "<a href=\"/bar\\/)\">\n"
unfolding caseless encode chars token decide ucd_category is_unicode_white_space is_unicode_punctuation agrees pair_of rest_of_opener rest_of_closer kinds_of deactivates closed blocks begin opens texts lazily enter keeps underlines
example_21 = refl

example_23 : document_html (codes "[foo]\n\n[foo]: /bar\\* \"ti\\*tle\"\n") ≡ codes "<p><a href=\"/bar*\" title=\"ti*tle\">foo</a></p>\n"
unfolding caseless encode chars token decide ucd_category is_unicode_white_space is_unicode_punctuation agrees pair_of rest_of_opener rest_of_closer kinds_of deactivates closed blocks begin opens texts lazily enter keeps underlines
example_23 = refl

example_24 : document_html (codes "``` foo\\+bar\nfoo\n```\n") ≡ codes "<pre><code class=\"language-foo+bar\">foo\n</code></pre>\n"
unfolding caseless encode chars token decide ucd_category is_unicode_white_space is_unicode_punctuation agrees pair_of rest_of_opener rest_of_closer kinds_of deactivates closed blocks begin opens texts lazily enter keeps underlines
example_24 = refl

example_31 : document_html (codes "<a href=\"&ouml;&ouml;.html\">\n") ≡ codes "<a href=\"&ouml;&ouml;.html\">\n"
unfolding caseless encode chars token decide ucd_category is_unicode_white_space is_unicode_punctuation agrees pair_of rest_of_opener rest_of_closer kinds_of deactivates closed blocks begin opens texts lazily enter keeps underlines
example_31 = refl

example_36 : document_html (codes "    f&ouml;f&ouml;\n") ≡ codes "<pre><code>f&amp;ouml;f&amp;ouml;\n</code></pre>\n"
unfolding caseless encode chars token decide ucd_category is_unicode_white_space is_unicode_punctuation agrees pair_of rest_of_opener rest_of_closer kinds_of deactivates closed blocks begin opens texts lazily enter keeps underlines
example_36 = refl

example_38 : document_html (codes "&#42; foo\n\n* foo\n") ≡ codes "<p>* foo</p>\n<ul>\n<li>foo</li>\n</ul>\n"
unfolding caseless encode chars token decide ucd_category is_unicode_white_space is_unicode_punctuation agrees pair_of rest_of_opener rest_of_closer kinds_of deactivates closed blocks begin opens texts lazily enter keeps underlines
example_38 = refl

example_500 : document_html (codes "[link](#fragment)\n\n[link](http://example.com#fragment)\n\n[link](http://example.com?foo=3#frag)\n")
    ≡ codes "<p><a href=\"#fragment\">link</a></p>\n<p><a href=\"http://example.com#fragment\">link</a></p>\n<p><a href=\"http://example.com?foo=3#frag\">link</a></p>\n"
unfolding caseless encode chars token decide ucd_category is_unicode_white_space is_unicode_punctuation agrees pair_of rest_of_opener rest_of_closer kinds_of deactivates closed blocks begin opens texts lazily enter keeps underlines
example_500 = refl

example_526 : document_html (codes "[foo][bar]\n\n[bar]: /url \"title\"\n") ≡ codes "<p><a href=\"/url\" title=\"title\">foo</a></p>\n"
unfolding caseless encode chars token decide ucd_category is_unicode_white_space is_unicode_punctuation agrees pair_of rest_of_opener rest_of_closer kinds_of deactivates closed blocks begin opens texts lazily enter keeps underlines
example_526 = refl

example_527 : document_html (codes "[link [foo [bar]]][ref]\n\n[ref]: /uri\n") ≡ codes "<p><a href=\"/uri\">link [foo [bar]]</a></p>\n"
unfolding caseless encode chars token decide ucd_category is_unicode_white_space is_unicode_punctuation agrees pair_of rest_of_opener rest_of_closer kinds_of deactivates closed blocks begin opens texts lazily enter keeps underlines
example_527 = refl

example_528 : document_html (codes "[link \\[bar][ref]\n\n[ref]: /uri\n") ≡ codes "<p><a href=\"/uri\">link [bar</a></p>\n"
unfolding caseless encode chars token decide ucd_category is_unicode_white_space is_unicode_punctuation agrees pair_of rest_of_opener rest_of_closer kinds_of deactivates closed blocks begin opens texts lazily enter keeps underlines
example_528 = refl

example_529 : document_html (codes "[link *foo **bar** `#`*][ref]\n\n[ref]: /uri\n") ≡ codes "<p><a href=\"/uri\">link <em>foo <strong>bar</strong> <code>#</code></em></a></p>\n"
unfolding caseless encode chars token decide ucd_category is_unicode_white_space is_unicode_punctuation agrees pair_of rest_of_opener rest_of_closer kinds_of deactivates closed blocks begin opens texts lazily enter keeps underlines
example_529 = refl

example_530 : document_html (codes "[![moon](moon.jpg)][ref]\n\n[ref]: /uri\n") ≡ codes "<p><a href=\"/uri\"><img src=\"moon.jpg\" alt=\"moon\" /></a></p>\n"
unfolding caseless encode chars token decide ucd_category is_unicode_white_space is_unicode_punctuation agrees pair_of rest_of_opener rest_of_closer kinds_of deactivates closed blocks begin opens texts lazily enter keeps underlines
example_530 = refl

example_531 : document_html (codes "[foo [bar](/uri)][ref]\n\n[ref]: /uri\n") ≡ codes "<p>[foo <a href=\"/uri\">bar</a>]<a href=\"/uri\">ref</a></p>\n"
unfolding caseless encode chars token decide ucd_category is_unicode_white_space is_unicode_punctuation agrees pair_of rest_of_opener rest_of_closer kinds_of deactivates closed blocks begin opens texts lazily enter keeps underlines
example_531 = refl

example_532 : document_html (codes "[foo *bar [baz][ref]*][ref]\n\n[ref]: /uri\n") ≡ codes "<p>[foo <em>bar <a href=\"/uri\">baz</a></em>]<a href=\"/uri\">ref</a></p>\n"
unfolding caseless encode chars token decide ucd_category is_unicode_white_space is_unicode_punctuation agrees pair_of rest_of_opener rest_of_closer kinds_of deactivates closed blocks begin opens texts lazily enter keeps underlines
example_532 = refl

example_533 : document_html (codes "*[foo*][ref]\n\n[ref]: /uri\n") ≡ codes "<p>*<a href=\"/uri\">foo*</a></p>\n"
unfolding caseless encode chars token decide ucd_category is_unicode_white_space is_unicode_punctuation agrees pair_of rest_of_opener rest_of_closer kinds_of deactivates closed blocks begin opens texts lazily enter keeps underlines
example_533 = refl

example_534 : document_html (codes "[foo *bar][ref]*\n\n[ref]: /uri\n") ≡ codes "<p><a href=\"/uri\">foo *bar</a>*</p>\n"
unfolding caseless encode chars token decide ucd_category is_unicode_white_space is_unicode_punctuation agrees pair_of rest_of_opener rest_of_closer kinds_of deactivates closed blocks begin opens texts lazily enter keeps underlines
example_534 = refl

example_535 : document_html (codes "[foo <bar attr=\"][ref]\">\n\n[ref]: /uri\n") ≡ codes "<p>[foo <bar attr=\"][ref]\"></p>\n"
unfolding caseless encode chars token decide ucd_category is_unicode_white_space is_unicode_punctuation agrees pair_of rest_of_opener rest_of_closer kinds_of deactivates closed blocks begin opens texts lazily enter keeps underlines
example_535 = refl

example_536 : document_html (codes "[foo`][ref]`\n\n[ref]: /uri\n") ≡ codes "<p>[foo<code>][ref]</code></p>\n"
unfolding caseless encode chars token decide ucd_category is_unicode_white_space is_unicode_punctuation agrees pair_of rest_of_opener rest_of_closer kinds_of deactivates closed blocks begin opens texts lazily enter keeps underlines
example_536 = refl

example_537 : document_html (codes "[foo<http://example.com/?search=][ref]>\n\n[ref]: /uri\n") ≡ codes "<p>[foo<a href=\"http://example.com/?search=%5D%5Bref%5D\">http://example.com/?search=][ref]</a></p>\n"
unfolding caseless encode chars token decide ucd_category is_unicode_white_space is_unicode_punctuation agrees pair_of rest_of_opener rest_of_closer kinds_of deactivates closed blocks begin opens texts lazily enter keeps underlines
example_537 = refl

example_538 : document_html (codes "[foo][BaR]\n\n[bar]: /url \"title\"\n") ≡ codes "<p><a href=\"/url\" title=\"title\">foo</a></p>\n"
unfolding caseless encode chars token decide ucd_category is_unicode_white_space is_unicode_punctuation agrees pair_of rest_of_opener rest_of_closer kinds_of deactivates closed blocks begin opens texts lazily enter keeps underlines
example_538 = refl

example_539 : document_html (codes "[" ++ ((225 ∷ 186 ∷ 158 ∷ []) ++ (codes "]\n\n[SS]: /url\n"))) ≡ codes "<p><a href=\"/url\">" ++ ((225 ∷ 186 ∷ 158 ∷ []) ++ (codes "</a></p>\n"))
unfolding caseless encode chars token decide ucd_category is_unicode_white_space is_unicode_punctuation agrees pair_of rest_of_opener rest_of_closer kinds_of deactivates closed blocks begin opens texts lazily enter keeps underlines
example_539 = refl

example_540 : document_html (codes "[Foo\n  bar]: /url\n\n[Baz][Foo bar]\n") ≡ codes "<p><a href=\"/url\">Baz</a></p>\n"
unfolding caseless encode chars token decide ucd_category is_unicode_white_space is_unicode_punctuation agrees pair_of rest_of_opener rest_of_closer kinds_of deactivates closed blocks begin opens texts lazily enter keeps underlines
example_540 = refl

example_541 : document_html (codes "[foo] [bar]\n\n[bar]: /url \"title\"\n") ≡ codes "<p>[foo] <a href=\"/url\" title=\"title\">bar</a></p>\n"
unfolding caseless encode chars token decide ucd_category is_unicode_white_space is_unicode_punctuation agrees pair_of rest_of_opener rest_of_closer kinds_of deactivates closed blocks begin opens texts lazily enter keeps underlines
example_541 = refl

example_542 : document_html (codes "[foo]\n[bar]\n\n[bar]: /url \"title\"\n") ≡ codes "<p>[foo]\n<a href=\"/url\" title=\"title\">bar</a></p>\n"
unfolding caseless encode chars token decide ucd_category is_unicode_white_space is_unicode_punctuation agrees pair_of rest_of_opener rest_of_closer kinds_of deactivates closed blocks begin opens texts lazily enter keeps underlines
example_542 = refl

example_543 : document_html (codes "[foo]: /url1\n\n[foo]: /url2\n\n[bar][foo]\n") ≡ codes "<p><a href=\"/url1\">bar</a></p>\n"
unfolding caseless encode chars token decide ucd_category is_unicode_white_space is_unicode_punctuation agrees pair_of rest_of_opener rest_of_closer kinds_of deactivates closed blocks begin opens texts lazily enter keeps underlines
example_543 = refl

example_544 : document_html (codes "[bar][foo\\!]\n\n[foo!]: /url\n") ≡ codes "<p>[bar][foo!]</p>\n"
unfolding caseless encode chars token decide ucd_category is_unicode_white_space is_unicode_punctuation agrees pair_of rest_of_opener rest_of_closer kinds_of deactivates closed blocks begin opens texts lazily enter keeps underlines
example_544 = refl

example_545 : document_html (codes "[foo][ref[]\n\n[ref[]: /uri\n") ≡ codes "<p>[foo][ref[]</p>\n<p>[ref[]: /uri</p>\n"
unfolding caseless encode chars token decide ucd_category is_unicode_white_space is_unicode_punctuation agrees pair_of rest_of_opener rest_of_closer kinds_of deactivates closed blocks begin opens texts lazily enter keeps underlines
example_545 = refl

example_546 : document_html (codes "[foo][ref[bar]]\n\n[ref[bar]]: /uri\n") ≡ codes "<p>[foo][ref[bar]]</p>\n<p>[ref[bar]]: /uri</p>\n"
unfolding caseless encode chars token decide ucd_category is_unicode_white_space is_unicode_punctuation agrees pair_of rest_of_opener rest_of_closer kinds_of deactivates closed blocks begin opens texts lazily enter keeps underlines
example_546 = refl

example_547 : document_html (codes "[[[foo]]]\n\n[[[foo]]]: /url\n") ≡ codes "<p>[[[foo]]]</p>\n<p>[[[foo]]]: /url</p>\n"
unfolding caseless encode chars token decide ucd_category is_unicode_white_space is_unicode_punctuation agrees pair_of rest_of_opener rest_of_closer kinds_of deactivates closed blocks begin opens texts lazily enter keeps underlines
example_547 = refl

example_548 : document_html (codes "[foo][ref\\[]\n\n[ref\\[]: /uri\n") ≡ codes "<p><a href=\"/uri\">foo</a></p>\n"
unfolding caseless encode chars token decide ucd_category is_unicode_white_space is_unicode_punctuation agrees pair_of rest_of_opener rest_of_closer kinds_of deactivates closed blocks begin opens texts lazily enter keeps underlines
example_548 = refl

example_549 : document_html (codes "[bar\\\\]: /uri\n\n[bar\\\\]\n") ≡ codes "<p><a href=\"/uri\">bar\\</a></p>\n"
unfolding caseless encode chars token decide ucd_category is_unicode_white_space is_unicode_punctuation agrees pair_of rest_of_opener rest_of_closer kinds_of deactivates closed blocks begin opens texts lazily enter keeps underlines
example_549 = refl

example_550 : document_html (codes "[]\n\n[]: /uri\n") ≡ codes "<p>[]</p>\n<p>[]: /uri</p>\n"
unfolding caseless encode chars token decide ucd_category is_unicode_white_space is_unicode_punctuation agrees pair_of rest_of_opener rest_of_closer kinds_of deactivates closed blocks begin opens texts lazily enter keeps underlines
example_550 = refl

example_551 : document_html (codes "[\n ]\n\n[\n ]: /uri\n") ≡ codes "<p>[\n]</p>\n<p>[\n]: /uri</p>\n"
unfolding caseless encode chars token decide ucd_category is_unicode_white_space is_unicode_punctuation agrees pair_of rest_of_opener rest_of_closer kinds_of deactivates closed blocks begin opens texts lazily enter keeps underlines
example_551 = refl

example_552 : document_html (codes "[foo][]\n\n[foo]: /url \"title\"\n") ≡ codes "<p><a href=\"/url\" title=\"title\">foo</a></p>\n"
unfolding caseless encode chars token decide ucd_category is_unicode_white_space is_unicode_punctuation agrees pair_of rest_of_opener rest_of_closer kinds_of deactivates closed blocks begin opens texts lazily enter keeps underlines
example_552 = refl

example_553 : document_html (codes "[*foo* bar][]\n\n[*foo* bar]: /url \"title\"\n") ≡ codes "<p><a href=\"/url\" title=\"title\"><em>foo</em> bar</a></p>\n"
unfolding caseless encode chars token decide ucd_category is_unicode_white_space is_unicode_punctuation agrees pair_of rest_of_opener rest_of_closer kinds_of deactivates closed blocks begin opens texts lazily enter keeps underlines
example_553 = refl

example_554 : document_html (codes "[Foo][]\n\n[foo]: /url \"title\"\n") ≡ codes "<p><a href=\"/url\" title=\"title\">Foo</a></p>\n"
unfolding caseless encode chars token decide ucd_category is_unicode_white_space is_unicode_punctuation agrees pair_of rest_of_opener rest_of_closer kinds_of deactivates closed blocks begin opens texts lazily enter keeps underlines
example_554 = refl

example_555 : document_html (codes "[foo] \n[]\n\n[foo]: /url \"title\"\n") ≡ codes "<p><a href=\"/url\" title=\"title\">foo</a>\n[]</p>\n"
unfolding caseless encode chars token decide ucd_category is_unicode_white_space is_unicode_punctuation agrees pair_of rest_of_opener rest_of_closer kinds_of deactivates closed blocks begin opens texts lazily enter keeps underlines
example_555 = refl

example_556 : document_html (codes "[foo]\n\n[foo]: /url \"title\"\n") ≡ codes "<p><a href=\"/url\" title=\"title\">foo</a></p>\n"
unfolding caseless encode chars token decide ucd_category is_unicode_white_space is_unicode_punctuation agrees pair_of rest_of_opener rest_of_closer kinds_of deactivates closed blocks begin opens texts lazily enter keeps underlines
example_556 = refl
