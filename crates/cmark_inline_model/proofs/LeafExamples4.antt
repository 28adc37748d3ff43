-- Examples of CommonMark, computed: the result of the model for the text of one leaf is the standard's HTML.
use Rattle.std.specs.Prelude.{◌≡◌, [], ◌∷◌, ◌++◌, codes}
use Rattle.std.specs.Str.{chars}
use Rattle.std.proofs.Common.{refl}
use lib.Utf8.{encode}
use Rattle.caseless.proofs.Computing.{caseless}
use Rattle.ucd_category.proofs.Computing.{ucd_category}
use Rattle.cmark_grammar.specs.BracketDecisions.{decide}
use Rattle.cmark_grammar.specs.Emphasis.{agrees, pair_of, rest_of_opener, rest_of_closer, kinds_of, deactivates}
use Rattle.cmark_inline_model.specs.EmphasisModel.{closed}
use Rattle.cmark_grammar.specs.Flanking.{is_unicode_white_space, is_unicode_punctuation}
use Rattle.cmark_grammar.specs.InlineTokens.{token}
use Rattle.cmark_inline_model.proofs.SampleReading.{html}

example_489 : html (codes "[link](foo\nbar)") ≡ codes "[link](foo\nbar)"
unfolding caseless encode chars token decide ucd_category is_unicode_white_space is_unicode_punctuation agrees pair_of rest_of_opener rest_of_closer kinds_of deactivates closed
example_489 = refl

example_490 : html (codes "[link](<foo\nbar>)") ≡ codes "[link](<foo\nbar>)"
unfolding caseless encode chars token decide ucd_category is_unicode_white_space is_unicode_punctuation agrees pair_of rest_of_opener rest_of_closer kinds_of deactivates closed
example_490 = refl

example_491 : html (codes "[a](<b)c>)") ≡ codes "<a href=\"b)c\">a</a>"
unfolding caseless encode chars token decide ucd_category is_unicode_white_space is_unicode_punctuation agrees pair_of rest_of_opener rest_of_closer kinds_of deactivates closed
example_491 = refl

example_492 : html (codes "[link](<foo\\>)") ≡ codes "[link](&lt;foo&gt;)"
unfolding caseless encode chars token decide ucd_category is_unicode_white_space is_unicode_punctuation agrees pair_of rest_of_opener rest_of_closer kinds_of deactivates closed
example_492 = refl

example_493 : html (codes "[a](<b)c\n[a](<b)c>\n[a](<b>c)") ≡ codes "[a](&lt;b)c\n[a](&lt;b)c&gt;\n[a](<b>c)"
unfolding caseless encode chars token decide ucd_category is_unicode_white_space is_unicode_punctuation agrees pair_of rest_of_opener rest_of_closer kinds_of deactivates closed
example_493 = refl

example_494 : html (codes "[link](\\(foo\\))") ≡ codes "<a href=\"(foo)\">link</a>"
unfolding caseless encode chars token decide ucd_category is_unicode_white_space is_unicode_punctuation agrees pair_of rest_of_opener rest_of_closer kinds_of deactivates closed
example_494 = refl

example_495 : html (codes "[link](foo(and(bar)))") ≡ codes "<a href=\"foo(and(bar))\">link</a>"
unfolding caseless encode chars token decide ucd_category is_unicode_white_space is_unicode_punctuation agrees pair_of rest_of_opener rest_of_closer kinds_of deactivates closed
example_495 = refl

example_496 : html (codes "[link](foo(and(bar))") ≡ codes "[link](foo(and(bar))"
unfolding caseless encode chars token decide ucd_category is_unicode_white_space is_unicode_punctuation agrees pair_of rest_of_opener rest_of_closer kinds_of deactivates closed
example_496 = refl

example_497 : html (codes "[link](foo\\(and\\(bar\\))") ≡ codes "<a href=\"foo(and(bar)\">link</a>"
unfolding caseless encode chars token decide ucd_category is_unicode_white_space is_unicode_punctuation agrees pair_of rest_of_opener rest_of_closer kinds_of deactivates closed
example_497 = refl

example_498 : html (codes "[link](<foo(and(bar)>)") ≡ codes "<a href=\"foo(and(bar)\">link</a>"
unfolding caseless encode chars token decide ucd_category is_unicode_white_space is_unicode_punctuation agrees pair_of rest_of_opener rest_of_closer kinds_of deactivates closed
example_498 = refl

example_499 : html (codes "[link](foo\\)\\:)") ≡ codes "<a href=\"foo):\">link</a>"
unfolding caseless encode chars token decide ucd_category is_unicode_white_space is_unicode_punctuation agrees pair_of rest_of_opener rest_of_closer kinds_of deactivates closed
example_499 = refl

example_501 : html (codes "[link](foo\\bar)") ≡ codes "<a href=\"foo%5Cbar\">link</a>"
unfolding caseless encode chars token decide ucd_category is_unicode_white_space is_unicode_punctuation agrees pair_of rest_of_opener rest_of_closer kinds_of deactivates closed
example_501 = refl

example_503 : html (codes "[link](\"title\")") ≡ codes "<a href=\"%22title%22\">link</a>"
unfolding caseless encode chars token decide ucd_category is_unicode_white_space is_unicode_punctuation agrees pair_of rest_of_opener rest_of_closer kinds_of deactivates closed
example_503 = refl

example_504 : html (codes "[link](/url \"title\")\n[link](/url 'title')\n[link](/url (title))") ≡ codes "<a href=\"/url\" title=\"title\">link</a>\n<a href=\"/url\" title=\"title\">link</a>\n<a href=\"/url\" title=\"title\">link</a>"
unfolding caseless encode chars token decide ucd_category is_unicode_white_space is_unicode_punctuation agrees pair_of rest_of_opener rest_of_closer kinds_of deactivates closed
example_504 = refl

example_505 : html (codes "[link](/url \"title \\\"&quot;\")") ≡ codes "<a href=\"/url\" title=\"title &quot;&quot;\">link</a>"
unfolding caseless encode chars token decide ucd_category is_unicode_white_space is_unicode_punctuation agrees pair_of rest_of_opener rest_of_closer kinds_of deactivates closed
example_505 = refl

example_506 : html (codes "[link](/url" ++ ((194 ∷ 160 ∷ []) ++ (codes "\"title\")"))) ≡ codes "<a href=\"/url%C2%A0%22title%22\">link</a>"
unfolding caseless encode chars token decide ucd_category is_unicode_white_space is_unicode_punctuation agrees pair_of rest_of_opener rest_of_closer kinds_of deactivates closed
example_506 = refl

example_507 : html (codes "[link](/url \"title \"and\" title\")") ≡ codes "[link](/url \"title \"and\" title\")"
unfolding caseless encode chars token decide ucd_category is_unicode_white_space is_unicode_punctuation agrees pair_of rest_of_opener rest_of_closer kinds_of deactivates closed
example_507 = refl

example_508 : html (codes "[link](/url 'title \"and\" title')") ≡ codes "<a href=\"/url\" title=\"title &quot;and&quot; title\">link</a>"
unfolding caseless encode chars token decide ucd_category is_unicode_white_space is_unicode_punctuation agrees pair_of rest_of_opener rest_of_closer kinds_of deactivates closed
example_508 = refl

example_509 : html (codes "[link](   /uri\n  \"title\"  )") ≡ codes "<a href=\"/uri\" title=\"title\">link</a>"
unfolding caseless encode chars token decide ucd_category is_unicode_white_space is_unicode_punctuation agrees pair_of rest_of_opener rest_of_closer kinds_of deactivates closed
example_509 = refl

example_510 : html (codes "[link] (/uri)") ≡ codes "[link] (/uri)"
unfolding caseless encode chars token decide ucd_category is_unicode_white_space is_unicode_punctuation agrees pair_of rest_of_opener rest_of_closer kinds_of deactivates closed
example_510 = refl

example_511 : html (codes "[link [foo [bar]]](/uri)") ≡ codes "<a href=\"/uri\">link [foo [bar]]</a>"
unfolding caseless encode chars token decide ucd_category is_unicode_white_space is_unicode_punctuation agrees pair_of rest_of_opener rest_of_closer kinds_of deactivates closed
example_511 = refl

example_512 : html (codes "[link] bar](/uri)") ≡ codes "[link] bar](/uri)"
unfolding caseless encode chars token decide ucd_category is_unicode_white_space is_unicode_punctuation agrees pair_of rest_of_opener rest_of_closer kinds_of deactivates closed
example_512 = refl

example_513 : html (codes "[link [bar](/uri)") ≡ codes "[link <a href=\"/uri\">bar</a>"
unfolding caseless encode chars token decide ucd_category is_unicode_white_space is_unicode_punctuation agrees pair_of rest_of_opener rest_of_closer kinds_of deactivates closed
example_513 = refl

example_514 : html (codes "[link \\[bar](/uri)") ≡ codes "<a href=\"/uri\">link [bar</a>"
unfolding caseless encode chars token decide ucd_category is_unicode_white_space is_unicode_punctuation agrees pair_of rest_of_opener rest_of_closer kinds_of deactivates closed
example_514 = refl

example_515 : html (codes "[link *foo **bar** `#`*](/uri)") ≡ codes "<a href=\"/uri\">link <em>foo <strong>bar</strong> <code>#</code></em></a>"
unfolding caseless encode chars token decide ucd_category is_unicode_white_space is_unicode_punctuation agrees pair_of rest_of_opener rest_of_closer kinds_of deactivates closed
example_515 = refl

example_516 : html (codes "[![moon](moon.jpg)](/uri)") ≡ codes "<a href=\"/uri\"><img src=\"moon.jpg\" alt=\"moon\" /></a>"
unfolding caseless encode chars token decide ucd_category is_unicode_white_space is_unicode_punctuation agrees pair_of rest_of_opener rest_of_closer kinds_of deactivates closed
example_516 = refl

example_517 : html (codes "[foo [bar](/uri)](/uri)") ≡ codes "[foo <a href=\"/uri\">bar</a>](/uri)"
unfolding caseless encode chars token decide ucd_category is_unicode_white_space is_unicode_punctuation agrees pair_of rest_of_opener rest_of_closer kinds_of deactivates closed
example_517 = refl

example_518 : html (codes "[foo *[bar [baz](/uri)](/uri)*](/uri)") ≡ codes "[foo <em>[bar <a href=\"/uri\">baz</a>](/uri)</em>](/uri)"
unfolding caseless encode chars token decide ucd_category is_unicode_white_space is_unicode_punctuation agrees pair_of rest_of_opener rest_of_closer kinds_of deactivates closed
example_518 = refl

example_519 : html (codes "![[[foo](uri1)](uri2)](uri3)") ≡ codes "<img src=\"uri3\" alt=\"[foo](uri2)\" />"
unfolding caseless encode chars token decide ucd_category is_unicode_white_space is_unicode_punctuation agrees pair_of rest_of_opener rest_of_closer kinds_of deactivates closed
example_519 = refl

example_520 : html (codes "*[foo*](/uri)") ≡ codes "*<a href=\"/uri\">foo*</a>"
unfolding caseless encode chars token decide ucd_category is_unicode_white_space is_unicode_punctuation agrees pair_of rest_of_opener rest_of_closer kinds_of deactivates closed
example_520 = refl

example_521 : html (codes "[foo *bar](baz*)") ≡ codes "<a href=\"baz*\">foo *bar</a>"
unfolding caseless encode chars token decide ucd_category is_unicode_white_space is_unicode_punctuation agrees pair_of rest_of_opener rest_of_closer kinds_of deactivates closed
example_521 = refl

example_522 : html (codes "*foo [bar* baz]") ≡ codes "<em>foo [bar</em> baz]"
unfolding caseless encode chars token decide ucd_category is_unicode_white_space is_unicode_punctuation agrees pair_of rest_of_opener rest_of_closer kinds_of deactivates closed
example_522 = refl

example_523 : html (codes "[foo <bar attr=\"](baz)\">") ≡ codes "[foo <bar attr=\"](baz)\">"
unfolding caseless encode chars token decide ucd_category is_unicode_white_space is_unicode_punctuation agrees pair_of rest_of_opener rest_of_closer kinds_of deactivates closed
example_523 = refl

example_524 : html (codes "[foo`](/uri)`") ≡ codes "[foo<code>](/uri)</code>"
unfolding caseless encode chars token decide ucd_category is_unicode_white_space is_unicode_punctuation agrees pair_of rest_of_opener rest_of_closer kinds_of deactivates closed
example_524 = refl

example_525 : html (codes "[foo<http://example.com/?search=](uri)>") ≡ codes "[foo<a href=\"http://example.com/?search=%5D(uri)\">http://example.com/?search=](uri)</a>"
unfolding caseless encode chars token decide ucd_category is_unicode_white_space is_unicode_punctuation agrees pair_of rest_of_opener rest_of_closer kinds_of deactivates closed
example_525 = refl

example_571 : html (codes "![foo](/url \"title\")") ≡ codes "<img src=\"/url\" alt=\"foo\" title=\"title\" />"
unfolding caseless encode chars token decide ucd_category is_unicode_white_space is_unicode_punctuation agrees pair_of rest_of_opener rest_of_closer kinds_of deactivates closed
example_571 = refl

example_573 : html (codes "![foo ![bar](/url)](/url2)") ≡ codes "<img src=\"/url2\" alt=\"foo bar\" />"
unfolding caseless encode chars token decide ucd_category is_unicode_white_space is_unicode_punctuation agrees pair_of rest_of_opener rest_of_closer kinds_of deactivates closed
example_573 = refl

example_574 : html (codes "![foo [bar](/url)](/url2)") ≡ codes "<img src=\"/url2\" alt=\"foo bar\" />"
unfolding caseless encode chars token decide ucd_category is_unicode_white_space is_unicode_punctuation agrees pair_of rest_of_opener rest_of_closer kinds_of deactivates closed
example_574 = refl

example_577 : html (codes "![foo](train.jpg)") ≡ codes "<img src=\"train.jpg\" alt=\"foo\" />"
unfolding caseless encode chars token decide ucd_category is_unicode_white_space is_unicode_punctuation agrees pair_of rest_of_opener rest_of_closer kinds_of deactivates closed
example_577 = refl

example_578 : html (codes "My ![foo bar](/path/to/train.jpg  \"title\"   )") ≡ codes "My <img src=\"/path/to/train.jpg\" alt=\"foo bar\" title=\"title\" />"
unfolding caseless encode chars token decide ucd_category is_unicode_white_space is_unicode_punctuation agrees pair_of rest_of_opener rest_of_closer kinds_of deactivates closed
example_578 = refl

example_579 : html (codes "![foo](<url>)") ≡ codes "<img src=\"url\" alt=\"foo\" />"
unfolding caseless encode chars token decide ucd_category is_unicode_white_space is_unicode_punctuation agrees pair_of rest_of_opener rest_of_closer kinds_of deactivates closed
example_579 = refl

example_580 : html (codes "![](/url)") ≡ codes "<img src=\"/url\" alt=\"\" />"
unfolding caseless encode chars token decide ucd_category is_unicode_white_space is_unicode_punctuation agrees pair_of rest_of_opener rest_of_closer kinds_of deactivates closed
example_580 = refl

example_593 : html (codes "<http://foo.bar.baz>") ≡ codes "<a href=\"http://foo.bar.baz\">http://foo.bar.baz</a>"
unfolding caseless encode chars token decide ucd_category is_unicode_white_space is_unicode_punctuation agrees pair_of rest_of_opener rest_of_closer kinds_of deactivates closed
example_593 = refl

example_594 : html (codes "<http://foo.bar.baz/test?q=hello&id=22&boolean>") ≡ codes "<a href=\"http://foo.bar.baz/test?q=hello&amp;id=22&amp;boolean\">http://foo.bar.baz/test?q=hello&amp;id=22&amp;boolean</a>"
unfolding caseless encode chars token decide ucd_category is_unicode_white_space is_unicode_punctuation agrees pair_of rest_of_opener rest_of_closer kinds_of deactivates closed
example_594 = refl

example_595 : html (codes "<irc://foo.bar:2233/baz>") ≡ codes "<a href=\"irc://foo.bar:2233/baz\">irc://foo.bar:2233/baz</a>"
unfolding caseless encode chars token decide ucd_category is_unicode_white_space is_unicode_punctuation agrees pair_of rest_of_opener rest_of_closer kinds_of deactivates closed
example_595 = refl

example_596 : html (codes "<MAILTO:FOO@BAR.BAZ>") ≡ codes "<a href=\"MAILTO:FOO@BAR.BAZ\">MAILTO:FOO@BAR.BAZ</a>"
unfolding caseless encode chars token decide ucd_category is_unicode_white_space is_unicode_punctuation agrees pair_of rest_of_opener rest_of_closer kinds_of deactivates closed
example_596 = refl

example_597 : html (codes "<a+b+c:d>") ≡ codes "<a href=\"a+b+c:d\">a+b+c:d</a>"
unfolding caseless encode chars token decide ucd_category is_unicode_white_space is_unicode_punctuation agrees pair_of rest_of_opener rest_of_closer kinds_of deactivates closed
example_597 = refl

example_598 : html (codes "<made-up-scheme://foo,bar>") ≡ codes "<a href=\"made-up-scheme://foo,bar\">made-up-scheme://foo,bar</a>"
unfolding caseless encode chars token decide ucd_category is_unicode_white_space is_unicode_punctuation agrees pair_of rest_of_opener rest_of_closer kinds_of deactivates closed
example_598 = refl

example_599 : html (codes "<http://../>") ≡ codes "<a href=\"http://../\">http://../</a>"
unfolding caseless encode chars token decide ucd_category is_unicode_white_space is_unicode_punctuation agrees pair_of rest_of_opener rest_of_closer kinds_of deactivates closed
example_599 = refl

example_600 : html (codes "<localhost:5001/foo>") ≡ codes "<a href=\"localhost:5001/foo\">localhost:5001/foo</a>"
unfolding caseless encode chars token decide ucd_category is_unicode_white_space is_unicode_punctuation agrees pair_of rest_of_opener rest_of_closer kinds_of deactivates closed
example_600 = refl

example_601 : html (codes "<http://foo.bar/baz bim>") ≡ codes "&lt;http://foo.bar/baz bim&gt;"
unfolding caseless encode chars token decide ucd_category is_unicode_white_space is_unicode_punctuation agrees pair_of rest_of_opener rest_of_closer kinds_of deactivates closed
example_601 = refl

example_602 : html (codes "<http://example.com/\\[\\>") ≡ codes "<a href=\"http://example.com/%5C%5B%5C\">http://example.com/\\[\\</a>"
unfolding caseless encode chars token decide ucd_category is_unicode_white_space is_unicode_punctuation agrees pair_of rest_of_opener rest_of_closer kinds_of deactivates closed
example_602 = refl

example_605 : html (codes "<foo\\+@bar.example.com>") ≡ codes "&lt;foo+@bar.example.com&gt;"
unfolding caseless encode chars token decide ucd_category is_unicode_white_space is_unicode_punctuation agrees pair_of rest_of_opener rest_of_closer kinds_of deactivates closed
example_605 = refl

example_606 : html (codes "<>") ≡ codes "&lt;&gt;"
unfolding caseless encode chars token decide ucd_category is_unicode_white_space is_unicode_punctuation agrees pair_of rest_of_opener rest_of_closer kinds_of deactivates closed
example_606 = refl

example_607 : html (codes "< http://foo.bar >") ≡ codes "&lt; http://foo.bar &gt;"
unfolding caseless encode chars token decide ucd_category is_unicode_white_space is_unicode_punctuation agrees pair_of rest_of_opener rest_of_closer kinds_of deactivates closed
example_607 = refl

example_608 : html (codes "<m:abc>") ≡ codes "&lt;m:abc&gt;"
unfolding caseless encode chars token decide ucd_category is_unicode_white_space is_unicode_punctuation agrees pair_of rest_of_opener rest_of_closer kinds_of deactivates closed
example_608 = refl

example_609 : html (codes "<foo.bar.baz>") ≡ codes "&lt;foo.bar.baz&gt;"
unfolding caseless encode chars token decide ucd_category is_unicode_white_space is_unicode_punctuation agrees pair_of rest_of_opener rest_of_closer kinds_of deactivates closed
example_609 = refl

example_610 : html (codes "http://example.com") ≡ codes "http://example.com"
unfolding caseless encode chars token decide ucd_category is_unicode_white_space is_unicode_punctuation agrees pair_of rest_of_opener rest_of_closer kinds_of deactivates closed
example_610 = refl

example_611 : html (codes "foo@bar.example.com") ≡ codes "foo@bar.example.com"
unfolding caseless encode chars token decide ucd_category is_unicode_white_space is_unicode_punctuation agrees pair_of rest_of_opener rest_of_closer kinds_of deactivates closed
example_611 = refl

example_612 : html (codes "<a><bab><c2c>") ≡ codes "<a><bab><c2c>"
unfolding caseless encode chars token decide ucd_category is_unicode_white_space is_unicode_punctuation agrees pair_of rest_of_opener rest_of_closer kinds_of deactivates closed
example_612 = refl
