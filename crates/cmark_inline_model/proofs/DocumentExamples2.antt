-- Examples of CommonMark, computed: the result of the model for a document with its spans is the standard's HTML.
use Rattle.std.specs.Prelude.{◌≡◌, codes}
use Rattle.std.specs.Str.{chars}
use Rattle.std.proofs.Common.{refl}
use lib.Utf8.{encode}
use Rattle.caseless.proofs.Computing.{caseless}
use Rattle.ucd_category.proofs.Computing.{ucd_category}
use Rattle.cmark_block_model.specs.BlocksModel.{begin, blocks}
use Rattle.cmark_grammar.specs.Containers.{enter, keeps}
use Rattle.cmark_grammar.specs.Leaves.{underlines}
use Rattle.cmark_grammar.specs.Openings.{opens, texts, lazily}
use Rattle.cmark_grammar.specs.BracketDecisions.{decide}
use Rattle.cmark_grammar.specs.Emphasis.{agrees, pair_of, rest_of_opener, rest_of_closer, kinds_of, deactivates}
use Rattle.cmark_inline_model.specs.EmphasisModel.{closed}
use Rattle.cmark_grammar.specs.Flanking.{is_unicode_white_space, is_unicode_punctuation}
use Rattle.cmark_grammar.specs.InlineTokens.{token}
use Rattle.cmark_inline_model.proofs.SampleReading.{document_html}

example_557 : document_html (codes "[*foo* bar]\n\n[*foo* bar]: /url \"title\"\n") ≡ codes "<p><a href=\"/url\" title=\"title\"><em>foo</em> bar</a></p>\n"
unfolding caseless encode chars token decide ucd_category is_unicode_white_space is_unicode_punctuation agrees pair_of rest_of_opener rest_of_closer kinds_of deactivates closed blocks begin opens texts lazily enter keeps underlines
example_557 = refl

example_558 : document_html (codes "[[*foo* bar]]\n\n[*foo* bar]: /url \"title\"\n") ≡ codes "<p>[<a href=\"/url\" title=\"title\"><em>foo</em> bar</a>]</p>\n"
unfolding caseless encode chars token decide ucd_category is_unicode_white_space is_unicode_punctuation agrees pair_of rest_of_opener rest_of_closer kinds_of deactivates closed blocks begin opens texts lazily enter keeps underlines
example_558 = refl

example_559 : document_html (codes "[[bar [foo]\n\n[foo]: /url\n") ≡ codes "<p>[[bar <a href=\"/url\">foo</a></p>\n"
unfolding caseless encode chars token decide ucd_category is_unicode_white_space is_unicode_punctuation agrees pair_of rest_of_opener rest_of_closer kinds_of deactivates closed blocks begin opens texts lazily enter keeps underlines
example_559 = refl

example_560 : document_html (codes "[Foo]\n\n[foo]: /url \"title\"\n") ≡ codes "<p><a href=\"/url\" title=\"title\">Foo</a></p>\n"
unfolding caseless encode chars token decide ucd_category is_unicode_white_space is_unicode_punctuation agrees pair_of rest_of_opener rest_of_closer kinds_of deactivates closed blocks begin opens texts lazily enter keeps underlines
example_560 = refl

example_561 : document_html (codes "[foo] bar\n\n[foo]: /url\n") ≡ codes "<p><a href=\"/url\">foo</a> bar</p>\n"
unfolding caseless encode chars token decide ucd_category is_unicode_white_space is_unicode_punctuation agrees pair_of rest_of_opener rest_of_closer kinds_of deactivates closed blocks begin opens texts lazily enter keeps underlines
example_561 = refl

example_562 : document_html (codes "\\[foo]\n\n[foo]: /url \"title\"\n") ≡ codes "<p>[foo]</p>\n"
unfolding caseless encode chars token decide ucd_category is_unicode_white_space is_unicode_punctuation agrees pair_of rest_of_opener rest_of_closer kinds_of deactivates closed blocks begin opens texts lazily enter keeps underlines
example_562 = refl

example_563 : document_html (codes "[foo*]: /url\n\n*[foo*]\n") ≡ codes "<p>*<a href=\"/url\">foo*</a></p>\n"
unfolding caseless encode chars token decide ucd_category is_unicode_white_space is_unicode_punctuation agrees pair_of rest_of_opener rest_of_closer kinds_of deactivates closed blocks begin opens texts lazily enter keeps underlines
example_563 = refl

example_564 : document_html (codes "[foo][bar]\n\n[foo]: /url1\n[bar]: /url2\n") ≡ codes "<p><a href=\"/url2\">foo</a></p>\n"
unfolding caseless encode chars token decide ucd_category is_unicode_white_space is_unicode_punctuation agrees pair_of rest_of_opener rest_of_closer kinds_of deactivates closed blocks begin opens texts lazily enter keeps underlines
example_564 = refl

example_565 : document_html (codes "[foo][]\n\n[foo]: /url1\n") ≡ codes "<p><a href=\"/url1\">foo</a></p>\n"
unfolding caseless encode chars token decide ucd_category is_unicode_white_space is_unicode_punctuation agrees pair_of rest_of_opener rest_of_closer kinds_of deactivates closed blocks begin opens texts lazily enter keeps underlines
example_565 = refl

example_566 : document_html (codes "[foo]()\n\n[foo]: /url1\n") ≡ codes "<p><a href=\"\">foo</a></p>\n"
unfolding caseless encode chars token decide ucd_category is_unicode_white_space is_unicode_punctuation agrees pair_of rest_of_opener rest_of_closer kinds_of deactivates closed blocks begin opens texts lazily enter keeps underlines
example_566 = refl

example_567 : document_html (codes "[foo](not a link)\n\n[foo]: /url1\n") ≡ codes "<p><a href=\"/url1\">foo</a>(not a link)</p>\n"
unfolding caseless encode chars token decide ucd_category is_unicode_white_space is_unicode_punctuation agrees pair_of rest_of_opener rest_of_closer kinds_of deactivates closed blocks begin opens texts lazily enter keeps underlines
example_567 = refl

example_568 : document_html (codes "[foo][bar][baz]\n\n[baz]: /url\n") ≡ codes "<p>[foo]<a href=\"/url\">bar</a></p>\n"
unfolding caseless encode chars token decide ucd_category is_unicode_white_space is_unicode_punctuation agrees pair_of rest_of_opener rest_of_closer kinds_of deactivates closed blocks begin opens texts lazily enter keeps underlines
example_568 = refl

example_569 : document_html (codes "[foo][bar][baz]\n\n[baz]: /url1\n[bar]: /url2\n") ≡ codes "<p><a href=\"/url2\">foo</a><a href=\"/url1\">baz</a></p>\n"
unfolding caseless encode chars token decide ucd_category is_unicode_white_space is_unicode_punctuation agrees pair_of rest_of_opener rest_of_closer kinds_of deactivates closed blocks begin opens texts lazily enter keeps underlines
example_569 = refl

example_570 : document_html (codes "[foo][bar][baz]\n\n[baz]: /url1\n[foo]: /url2\n") ≡ codes "<p>[foo]<a href=\"/url1\">bar</a></p>\n"
unfolding caseless encode chars token decide ucd_category is_unicode_white_space is_unicode_punctuation agrees pair_of rest_of_opener rest_of_closer kinds_of deactivates closed blocks begin opens texts lazily enter keeps underlines
example_570 = refl

example_572 : document_html (codes "![foo *bar*]\n\n[foo *bar*]: train.jpg \"train & tracks\"\n") ≡ codes "<p><img src=\"train.jpg\" alt=\"foo bar\" title=\"train &amp; tracks\" /></p>\n"
unfolding caseless encode chars token decide ucd_category is_unicode_white_space is_unicode_punctuation agrees pair_of rest_of_opener rest_of_closer kinds_of deactivates closed blocks begin opens texts lazily enter keeps underlines
example_572 = refl

example_575 : document_html (codes "![foo *bar*][]\n\n[foo *bar*]: train.jpg \"train & tracks\"\n") ≡ codes "<p><img src=\"train.jpg\" alt=\"foo bar\" title=\"train &amp; tracks\" /></p>\n"
unfolding caseless encode chars token decide ucd_category is_unicode_white_space is_unicode_punctuation agrees pair_of rest_of_opener rest_of_closer kinds_of deactivates closed blocks begin opens texts lazily enter keeps underlines
example_575 = refl

example_576 : document_html (codes "![foo *bar*][foobar]\n\n[FOOBAR]: train.jpg \"train & tracks\"\n") ≡ codes "<p><img src=\"train.jpg\" alt=\"foo bar\" title=\"train &amp; tracks\" /></p>\n"
unfolding caseless encode chars token decide ucd_category is_unicode_white_space is_unicode_punctuation agrees pair_of rest_of_opener rest_of_closer kinds_of deactivates closed blocks begin opens texts lazily enter keeps underlines
example_576 = refl

example_581 : document_html (codes "![foo][bar]\n\n[bar]: /url\n") ≡ codes "<p><img src=\"/url\" alt=\"foo\" /></p>\n"
unfolding caseless encode chars token decide ucd_category is_unicode_white_space is_unicode_punctuation agrees pair_of rest_of_opener rest_of_closer kinds_of deactivates closed blocks begin opens texts lazily enter keeps underlines
example_581 = refl

example_582 : document_html (codes "![foo][bar]\n\n[BAR]: /url\n") ≡ codes "<p><img src=\"/url\" alt=\"foo\" /></p>\n"
unfolding caseless encode chars token decide ucd_category is_unicode_white_space is_unicode_punctuation agrees pair_of rest_of_opener rest_of_closer kinds_of deactivates closed blocks begin opens texts lazily enter keeps underlines
example_582 = refl

example_583 : document_html (codes "![foo][]\n\n[foo]: /url \"title\"\n") ≡ codes "<p><img src=\"/url\" alt=\"foo\" title=\"title\" /></p>\n"
unfolding caseless encode chars token decide ucd_category is_unicode_white_space is_unicode_punctuation agrees pair_of rest_of_opener rest_of_closer kinds_of deactivates closed blocks begin opens texts lazily enter keeps underlines
example_583 = refl

example_584 : document_html (codes "![*foo* bar][]\n\n[*foo* bar]: /url \"title\"\n") ≡ codes "<p><img src=\"/url\" alt=\"foo bar\" title=\"title\" /></p>\n"
unfolding caseless encode chars token decide ucd_category is_unicode_white_space is_unicode_punctuation agrees pair_of rest_of_opener rest_of_closer kinds_of deactivates closed blocks begin opens texts lazily enter keeps underlines
example_584 = refl

example_585 : document_html (codes "![Foo][]\n\n[foo]: /url \"title\"\n") ≡ codes "<p><img src=\"/url\" alt=\"Foo\" title=\"title\" /></p>\n"
unfolding caseless encode chars token decide ucd_category is_unicode_white_space is_unicode_punctuation agrees pair_of rest_of_opener rest_of_closer kinds_of deactivates closed blocks begin opens texts lazily enter keeps underlines
example_585 = refl

example_586 : document_html (codes "![foo] \n[]\n\n[foo]: /url \"title\"\n") ≡ codes "<p><img src=\"/url\" alt=\"foo\" title=\"title\" />\n[]</p>\n"
unfolding caseless encode chars token decide ucd_category is_unicode_white_space is_unicode_punctuation agrees pair_of rest_of_opener rest_of_closer kinds_of deactivates closed blocks begin opens texts lazily enter keeps underlines
example_586 = refl

example_587 : document_html (codes "![foo]\n\n[foo]: /url \"title\"\n") ≡ codes "<p><img src=\"/url\" alt=\"foo\" title=\"title\" /></p>\n"
unfolding caseless encode chars token decide ucd_category is_unicode_white_space is_unicode_punctuation agrees pair_of rest_of_opener rest_of_closer kinds_of deactivates closed blocks begin opens texts lazily enter keeps underlines
example_587 = refl

example_588 : document_html (codes "![*foo* bar]\n\n[*foo* bar]: /url \"title\"\n") ≡ codes "<p><img src=\"/url\" alt=\"foo bar\" title=\"title\" /></p>\n"
unfolding caseless encode chars token decide ucd_category is_unicode_white_space is_unicode_punctuation agrees pair_of rest_of_opener rest_of_closer kinds_of deactivates closed blocks begin opens texts lazily enter keeps underlines
example_588 = refl

example_589 : document_html (codes "![[foo]]\n\n[[foo]]: /url \"title\"\n") ≡ codes "<p>![[foo]]</p>\n<p>[[foo]]: /url \"title\"</p>\n"
unfolding caseless encode chars token decide ucd_category is_unicode_white_space is_unicode_punctuation agrees pair_of rest_of_opener rest_of_closer kinds_of deactivates closed blocks begin opens texts lazily enter keeps underlines
example_589 = refl

example_590 : document_html (codes "![Foo]\n\n[foo]: /url \"title\"\n") ≡ codes "<p><img src=\"/url\" alt=\"Foo\" title=\"title\" /></p>\n"
unfolding caseless encode chars token decide ucd_category is_unicode_white_space is_unicode_punctuation agrees pair_of rest_of_opener rest_of_closer kinds_of deactivates closed blocks begin opens texts lazily enter keeps underlines
example_590 = refl

example_591 : document_html (codes "!\\[foo]\n\n[foo]: /url \"title\"\n") ≡ codes "<p>![foo]</p>\n"
unfolding caseless encode chars token decide ucd_category is_unicode_white_space is_unicode_punctuation agrees pair_of rest_of_opener rest_of_closer kinds_of deactivates closed blocks begin opens texts lazily enter keeps underlines
example_591 = refl

example_592 : document_html (codes "\\![foo]\n\n[foo]: /url \"title\"\n") ≡ codes "<p>!<a href=\"/url\" title=\"title\">foo</a></p>\n"
unfolding caseless encode chars token decide ucd_category is_unicode_white_space is_unicode_punctuation agrees pair_of rest_of_opener rest_of_closer kinds_of deactivates closed blocks begin opens texts lazily enter keeps underlines
example_592 = refl

example_626 : document_html (codes "foo <!--> foo -->\n\nfoo <!-- foo--->\n") ≡ codes "<p>foo <!--> foo --&gt;</p>\n<p>foo <!-- foo---></p>\n"
unfolding caseless encode chars token decide ucd_category is_unicode_white_space is_unicode_punctuation agrees pair_of rest_of_opener rest_of_closer kinds_of deactivates closed blocks begin opens texts lazily enter keeps underlines
example_626 = refl

example_646 : document_html (codes "### foo\\\n") ≡ codes "<h3>foo\\</h3>\n"
unfolding caseless encode chars token decide ucd_category is_unicode_white_space is_unicode_punctuation agrees pair_of rest_of_opener rest_of_closer kinds_of deactivates closed blocks begin opens texts lazily enter keeps underlines
example_646 = refl

example_647 : document_html (codes "### foo  \n") ≡ codes "<h3>foo</h3>\n"
unfolding caseless encode chars token decide ucd_category is_unicode_white_space is_unicode_punctuation agrees pair_of rest_of_opener rest_of_closer kinds_of deactivates closed blocks begin opens texts lazily enter keeps underlines
example_647 = refl
