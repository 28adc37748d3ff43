-- Examples of CommonMark, computed: the result of the model for the text of one leaf is the standard's HTML.
use Rattle.std.specs.Prelude.{◌≡◌, [], ◌∷◌, ◌++◌, codes}
use Rattle.std.specs.Str.{chars}
use Rattle.std.proofs.Common.{refl}
use lib.Utf8.{encode}
use Rattle.caseless.proofs.Computing.{caseless}
use Rattle.ucd_category.proofs.Computing.{ucd_category}
use Rattle.cmark_grammar.specs.BracketDecisions.{decide}
use Rattle.cmark_grammar.specs.Emphasis.{agrees, pair_of, rest_of_opener, rest_of_closer, kinds_of, deactivates}
use Rattle.cmark_inline_model.specs.EmphasisModel.{closed}
use Rattle.cmark_grammar.specs.Flanking.{is_unicode_white_space, is_unicode_punctuation}
use Rattle.cmark_grammar.specs.InlineTokens.{token}
use Rattle.cmark_inline_model.proofs.SampleReading.{html}

example_12 : html (codes "\\!\\\"\\#\\$\\%\\&\\'\\(\\)\\*\\+\\,\\-\\.\\/\\:\\;\\<\\=\\>\\?\\@\\[\\\\\\]\\^\\_\\`\\{\\|\\}\\~") ≡ codes "!\"#$%&amp;'()*+,-./:;&lt;=&gt;?@[\\]^_`{|}~"
unfolding caseless encode chars token decide ucd_category is_unicode_white_space is_unicode_punctuation agrees pair_of rest_of_opener rest_of_closer kinds_of deactivates closed
example_12 = refl

example_13 : html (codes "\\\t\\A\\a\\ \\3\\" ++ ((207 ∷ 134 ∷ []) ++ (codes "\\" ++ ((194 ∷ 171 ∷ []))))) ≡ codes "\\\t\\A\\a\\ \\3\\" ++ ((207 ∷ 134 ∷ []) ++ (codes "\\" ++ ((194 ∷ 171 ∷ []))))
unfolding caseless encode chars token decide ucd_category is_unicode_white_space is_unicode_punctuation agrees pair_of rest_of_opener rest_of_closer kinds_of deactivates closed
example_13 = refl

example_14 : html (codes "\\*not emphasized*\n\\<br/> not a tag\n\\[not a link](/foo)\n\\`not code`\n1\\. not a list\n\\* not a list\n\\# not a heading\n\\[foo]: /url \"not a reference\"\n\\&ouml; not a character entity")
    ≡ codes "*not emphasized*\n&lt;br/&gt; not a tag\n[not a link](/foo)\n`not code`\n1. not a list\n* not a list\n# not a heading\n[foo]: /url \"not a reference\"\n&amp;ouml; not a character entity"
unfolding caseless encode chars token decide ucd_category is_unicode_white_space is_unicode_punctuation agrees pair_of rest_of_opener rest_of_closer kinds_of deactivates closed
example_14 = refl

example_15 : html (codes "\\\\*emphasis*") ≡ codes "\\<em>emphasis</em>"
unfolding caseless encode chars token decide ucd_category is_unicode_white_space is_unicode_punctuation agrees pair_of rest_of_opener rest_of_closer kinds_of deactivates closed
example_15 = refl

example_16 : html (codes "foo\\\nbar") ≡ codes "foo<br />\nbar"
unfolding caseless encode chars token decide ucd_category is_unicode_white_space is_unicode_punctuation agrees pair_of rest_of_opener rest_of_closer kinds_of deactivates closed
example_16 = refl

example_17 : html (codes "`` \\[\\` ``") ≡ codes "<code>\\[\\`</code>"
unfolding caseless encode chars token decide ucd_category is_unicode_white_space is_unicode_punctuation agrees pair_of rest_of_opener rest_of_closer kinds_of deactivates closed
example_17 = refl

example_20 : html (codes "<http://example.com?find=\\*>") ≡ codes "<a href=\"http://example.com?find=%5C*\">http://example.com?find=\\*</a>"
unfolding caseless encode chars token decide ucd_category is_unicode_white_space is_unicode_punctuation agrees pair_of rest_of_opener rest_of_closer kinds_of deactivates closed
example_20 = refl

example_22 : html (codes "[foo](/bar\\* \"ti\\*tle\")") ≡ codes "<a href=\"/bar*\" title=\"ti*tle\">foo</a>"
unfolding caseless encode chars token decide ucd_category is_unicode_white_space is_unicode_punctuation agrees pair_of rest_of_opener rest_of_closer kinds_of deactivates closed
example_22 = refl

example_26 : html (codes "&#35; &#1234; &#992; &#0;") ≡ codes "# " ++ ((211 ∷ 146 ∷ []) ++ (codes " " ++ ((207 ∷ 160 ∷ []) ++ (codes " " ++ ((239 ∷ 191 ∷ 189 ∷ []))))))
unfolding caseless encode chars token decide ucd_category is_unicode_white_space is_unicode_punctuation agrees pair_of rest_of_opener rest_of_closer kinds_of deactivates closed
example_26 = refl

example_27 : html (codes "&#X22; &#XD06; &#xcab;") ≡ codes "\" " ++ ((224 ∷ 180 ∷ 134 ∷ []) ++ (codes " " ++ ((224 ∷ 178 ∷ 171 ∷ []))))
unfolding caseless encode chars token decide ucd_category is_unicode_white_space is_unicode_punctuation agrees pair_of rest_of_opener rest_of_closer kinds_of deactivates closed
example_27 = refl

example_28 : html (codes "&nbsp &x; &#; &#x;\n&#87654321;\n&#abcdef0;\n&ThisIsNotDefined; &hi?;") ≡ codes "&amp;nbsp &amp;x; &amp;#; &amp;#x;\n&amp;#87654321;\n&amp;#abcdef0;\n&amp;ThisIsNotDefined; &amp;hi?;"
unfolding caseless encode chars token decide ucd_category is_unicode_white_space is_unicode_punctuation agrees pair_of rest_of_opener rest_of_closer kinds_of deactivates closed
example_28 = refl

example_29 : html (codes "&copy") ≡ codes "&amp;copy"
unfolding caseless encode chars token decide ucd_category is_unicode_white_space is_unicode_punctuation agrees pair_of rest_of_opener rest_of_closer kinds_of deactivates closed
example_29 = refl

example_30 : html (codes "&MadeUpEntity;") ≡ codes "&amp;MadeUpEntity;"
unfolding caseless encode chars token decide ucd_category is_unicode_white_space is_unicode_punctuation agrees pair_of rest_of_opener rest_of_closer kinds_of deactivates closed
example_30 = refl

example_35 : html (codes "`f&ouml;&ouml;`") ≡ codes "<code>f&amp;ouml;&amp;ouml;</code>"
unfolding caseless encode chars token decide ucd_category is_unicode_white_space is_unicode_punctuation agrees pair_of rest_of_opener rest_of_closer kinds_of deactivates closed
example_35 = refl

example_37 : html (codes "&#42;foo&#42;\n*foo*") ≡ codes "*foo*\n<em>foo</em>"
unfolding caseless encode chars token decide ucd_category is_unicode_white_space is_unicode_punctuation agrees pair_of rest_of_opener rest_of_closer kinds_of deactivates closed
example_37 = refl

example_39 : html (codes "foo&#10;&#10;bar") ≡ codes "foo\n\nbar"
unfolding caseless encode chars token decide ucd_category is_unicode_white_space is_unicode_punctuation agrees pair_of rest_of_opener rest_of_closer kinds_of deactivates closed
example_39 = refl

example_40 : html (codes "&#9;foo") ≡ codes "\tfoo"
unfolding caseless encode chars token decide ucd_category is_unicode_white_space is_unicode_punctuation agrees pair_of rest_of_opener rest_of_closer kinds_of deactivates closed
example_40 = refl

example_41 : html (codes "[a](url &quot;tit&quot;)") ≡ codes "[a](url \"tit\")"
unfolding caseless encode chars token decide ucd_category is_unicode_white_space is_unicode_punctuation agrees pair_of rest_of_opener rest_of_closer kinds_of deactivates closed
example_41 = refl

example_327 : html (codes "`hi`lo`") ≡ codes "<code>hi</code>lo`"
unfolding caseless encode chars token decide ucd_category is_unicode_white_space is_unicode_punctuation agrees pair_of rest_of_opener rest_of_closer kinds_of deactivates closed
example_327 = refl

example_328 : html (codes "`foo`") ≡ codes "<code>foo</code>"
unfolding caseless encode chars token decide ucd_category is_unicode_white_space is_unicode_punctuation agrees pair_of rest_of_opener rest_of_closer kinds_of deactivates closed
example_328 = refl

example_329 : html (codes "`` foo ` bar ``") ≡ codes "<code>foo ` bar</code>"
unfolding caseless encode chars token decide ucd_category is_unicode_white_space is_unicode_punctuation agrees pair_of rest_of_opener rest_of_closer kinds_of deactivates closed
example_329 = refl

example_330 : html (codes "` `` `") ≡ codes "<code>``</code>"
unfolding caseless encode chars token decide ucd_category is_unicode_white_space is_unicode_punctuation agrees pair_of rest_of_opener rest_of_closer kinds_of deactivates closed
example_330 = refl

example_331 : html (codes "`  ``  `") ≡ codes "<code> `` </code>"
unfolding caseless encode chars token decide ucd_category is_unicode_white_space is_unicode_punctuation agrees pair_of rest_of_opener rest_of_closer kinds_of deactivates closed
example_331 = refl

example_332 : html (codes "` a`") ≡ codes "<code> a</code>"
unfolding caseless encode chars token decide ucd_category is_unicode_white_space is_unicode_punctuation agrees pair_of rest_of_opener rest_of_closer kinds_of deactivates closed
example_332 = refl

example_333 : html (codes "`" ++ ((194 ∷ 160 ∷ []) ++ (codes "b" ++ ((194 ∷ 160 ∷ []) ++ (codes "`"))))) ≡ codes "<code>" ++ ((194 ∷ 160 ∷ []) ++ (codes "b" ++ ((194 ∷ 160 ∷ []) ++ (codes "</code>"))))
unfolding caseless encode chars token decide ucd_category is_unicode_white_space is_unicode_punctuation agrees pair_of rest_of_opener rest_of_closer kinds_of deactivates closed
example_333 = refl

example_334 : html (codes "`" ++ ((194 ∷ 160 ∷ []) ++ (codes "`\n`  `"))) ≡ codes "<code>" ++ ((194 ∷ 160 ∷ []) ++ (codes "</code>\n<code>  </code>"))
unfolding caseless encode chars token decide ucd_category is_unicode_white_space is_unicode_punctuation agrees pair_of rest_of_opener rest_of_closer kinds_of deactivates closed
example_334 = refl

example_335 : html (codes "``\nfoo\nbar  \nbaz\n``") ≡ codes "<code>foo bar   baz</code>"
unfolding caseless encode chars token decide ucd_category is_unicode_white_space is_unicode_punctuation agrees pair_of rest_of_opener rest_of_closer kinds_of deactivates closed
example_335 = refl

example_336 : html (codes "``\nfoo \n``") ≡ codes "<code>foo </code>"
unfolding caseless encode chars token decide ucd_category is_unicode_white_space is_unicode_punctuation agrees pair_of rest_of_opener rest_of_closer kinds_of deactivates closed
example_336 = refl

example_337 : html (codes "`foo   bar \nbaz`") ≡ codes "<code>foo   bar  baz</code>"
unfolding caseless encode chars token decide ucd_category is_unicode_white_space is_unicode_punctuation agrees pair_of rest_of_opener rest_of_closer kinds_of deactivates closed
example_337 = refl

example_338 : html (codes "`foo\\`bar`") ≡ codes "<code>foo\\</code>bar`"
unfolding caseless encode chars token decide ucd_category is_unicode_white_space is_unicode_punctuation agrees pair_of rest_of_opener rest_of_closer kinds_of deactivates closed
example_338 = refl

example_339 : html (codes "``foo`bar``") ≡ codes "<code>foo`bar</code>"
unfolding caseless encode chars token decide ucd_category is_unicode_white_space is_unicode_punctuation agrees pair_of rest_of_opener rest_of_closer kinds_of deactivates closed
example_339 = refl

example_340 : html (codes "` foo `` bar `") ≡ codes "<code>foo `` bar</code>"
unfolding caseless encode chars token decide ucd_category is_unicode_white_space is_unicode_punctuation agrees pair_of rest_of_opener rest_of_closer kinds_of deactivates closed
example_340 = refl

example_341 : html (codes "*foo`*`") ≡ codes "*foo<code>*</code>"
unfolding caseless encode chars token decide ucd_category is_unicode_white_space is_unicode_punctuation agrees pair_of rest_of_opener rest_of_closer kinds_of deactivates closed
example_341 = refl

example_342 : html (codes "[not a `link](/foo`)") ≡ codes "[not a <code>link](/foo</code>)"
unfolding caseless encode chars token decide ucd_category is_unicode_white_space is_unicode_punctuation agrees pair_of rest_of_opener rest_of_closer kinds_of deactivates closed
example_342 = refl

example_343 : html (codes "`<a href=\"`\">`") ≡ codes "<code>&lt;a href=\"</code>\"&gt;`"
unfolding caseless encode chars token decide ucd_category is_unicode_white_space is_unicode_punctuation agrees pair_of rest_of_opener rest_of_closer kinds_of deactivates closed
example_343 = refl

example_344 : html (codes "<a href=\"`\">`") ≡ codes "<a href=\"`\">`"
unfolding caseless encode chars token decide ucd_category is_unicode_white_space is_unicode_punctuation agrees pair_of rest_of_opener rest_of_closer kinds_of deactivates closed
example_344 = refl

example_345 : html (codes "`<http://foo.bar.`baz>`") ≡ codes "<code>&lt;http://foo.bar.</code>baz&gt;`"
unfolding caseless encode chars token decide ucd_category is_unicode_white_space is_unicode_punctuation agrees pair_of rest_of_opener rest_of_closer kinds_of deactivates closed
example_345 = refl

example_346 : html (codes "<http://foo.bar.`baz>`") ≡ codes "<a href=\"http://foo.bar.%60baz\">http://foo.bar.`baz</a>`"
unfolding caseless encode chars token decide ucd_category is_unicode_white_space is_unicode_punctuation agrees pair_of rest_of_opener rest_of_closer kinds_of deactivates closed
example_346 = refl

example_347 : html (codes "```foo``") ≡ codes "```foo``"
unfolding caseless encode chars token decide ucd_category is_unicode_white_space is_unicode_punctuation agrees pair_of rest_of_opener rest_of_closer kinds_of deactivates closed
example_347 = refl

example_348 : html (codes "`foo") ≡ codes "`foo"
unfolding caseless encode chars token decide ucd_category is_unicode_white_space is_unicode_punctuation agrees pair_of rest_of_opener rest_of_closer kinds_of deactivates closed
example_348 = refl

example_349 : html (codes "`foo``bar``") ≡ codes "`foo<code>bar</code>"
unfolding caseless encode chars token decide ucd_category is_unicode_white_space is_unicode_punctuation agrees pair_of rest_of_opener rest_of_closer kinds_of deactivates closed
example_349 = refl

example_350 : html (codes "*foo bar*") ≡ codes "<em>foo bar</em>"
unfolding caseless encode chars token decide ucd_category is_unicode_white_space is_unicode_punctuation agrees pair_of rest_of_opener rest_of_closer kinds_of deactivates closed
example_350 = refl

example_351 : html (codes "a * foo bar*") ≡ codes "a * foo bar*"
unfolding caseless encode chars token decide ucd_category is_unicode_white_space is_unicode_punctuation agrees pair_of rest_of_opener rest_of_closer kinds_of deactivates closed
example_351 = refl

example_352 : html (codes "a*\"foo\"*") ≡ codes "a*\"foo\"*"
unfolding caseless encode chars token decide ucd_category is_unicode_white_space is_unicode_punctuation agrees pair_of rest_of_opener rest_of_closer kinds_of deactivates closed
example_352 = refl

example_353 : html (codes "*" ++ ((194 ∷ 160 ∷ []) ++ (codes "a" ++ ((194 ∷ 160 ∷ []) ++ (codes "*"))))) ≡ codes "*" ++ ((194 ∷ 160 ∷ []) ++ (codes "a" ++ ((194 ∷ 160 ∷ []) ++ (codes "*"))))
unfolding caseless encode chars token decide ucd_category is_unicode_white_space is_unicode_punctuation agrees pair_of rest_of_opener rest_of_closer kinds_of deactivates closed
example_353 = refl

example_354 : html (codes "foo*bar*") ≡ codes "foo<em>bar</em>"
unfolding caseless encode chars token decide ucd_category is_unicode_white_space is_unicode_punctuation agrees pair_of rest_of_opener rest_of_closer kinds_of deactivates closed
example_354 = refl

example_355 : html (codes "5*6*78") ≡ codes "5<em>6</em>78"
unfolding caseless encode chars token decide ucd_category is_unicode_white_space is_unicode_punctuation agrees pair_of rest_of_opener rest_of_closer kinds_of deactivates closed
example_355 = refl

example_356 : html (codes "_foo bar_") ≡ codes "<em>foo bar</em>"
unfolding caseless encode chars token decide ucd_category is_unicode_white_space is_unicode_punctuation agrees pair_of rest_of_opener rest_of_closer kinds_of deactivates closed
example_356 = refl

example_357 : html (codes "_ foo bar_") ≡ codes "_ foo bar_"
unfolding caseless encode chars token decide ucd_category is_unicode_white_space is_unicode_punctuation agrees pair_of rest_of_opener rest_of_closer kinds_of deactivates closed
example_357 = refl

example_358 : html (codes "a_\"foo\"_") ≡ codes "a_\"foo\"_"
unfolding caseless encode chars token decide ucd_category is_unicode_white_space is_unicode_punctuation agrees pair_of rest_of_opener rest_of_closer kinds_of deactivates closed
example_358 = refl

example_359 : html (codes "foo_bar_") ≡ codes "foo_bar_"
unfolding caseless encode chars token decide ucd_category is_unicode_white_space is_unicode_punctuation agrees pair_of rest_of_opener rest_of_closer kinds_of deactivates closed
example_359 = refl

example_360 : html (codes "5_6_78") ≡ codes "5_6_78"
unfolding caseless encode chars token decide ucd_category is_unicode_white_space is_unicode_punctuation agrees pair_of rest_of_opener rest_of_closer kinds_of deactivates closed
example_360 = refl

example_361 : html ((208 ∷ 191 ∷ 209 ∷ 128 ∷ 208 ∷ 184 ∷ 209 ∷ 129 ∷ 209 ∷ 130 ∷ 208 ∷ 176 ∷ 208 ∷ 189 ∷ 209 ∷ 143 ∷ 208 ∷ 188 ∷ []) ++ (codes "_"
    ++ ((209 ∷ 129 ∷ 209 ∷ 130 ∷ 209 ∷ 128 ∷ 208 ∷ 181 ∷ 208 ∷ 188 ∷ 209 ∷ 143 ∷ 209 ∷ 130 ∷ 209 ∷ 129 ∷ 209 ∷ 143 ∷ []) ++ (codes "_"))))
    ≡ (208 ∷ 191 ∷ 209 ∷ 128 ∷ 208 ∷ 184 ∷ 209 ∷ 129 ∷ 209 ∷ 130 ∷ 208 ∷ 176 ∷ 208 ∷ 189 ∷ 209 ∷ 143 ∷ 208 ∷ 188 ∷ []) ++ (codes "_"
    ++ ((209 ∷ 129 ∷ 209 ∷ 130 ∷ 209 ∷ 128 ∷ 208 ∷ 181 ∷ 208 ∷ 188 ∷ 209 ∷ 143 ∷ 209 ∷ 130 ∷ 209 ∷ 129 ∷ 209 ∷ 143 ∷ []) ++ (codes "_")))
unfolding caseless encode chars token decide ucd_category is_unicode_white_space is_unicode_punctuation agrees pair_of rest_of_opener rest_of_closer kinds_of deactivates closed
example_361 = refl

example_362 : html (codes "aa_\"bb\"_cc") ≡ codes "aa_\"bb\"_cc"
unfolding caseless encode chars token decide ucd_category is_unicode_white_space is_unicode_punctuation agrees pair_of rest_of_opener rest_of_closer kinds_of deactivates closed
example_362 = refl

example_363 : html (codes "foo-_(bar)_") ≡ codes "foo-<em>(bar)</em>"
unfolding caseless encode chars token decide ucd_category is_unicode_white_space is_unicode_punctuation agrees pair_of rest_of_opener rest_of_closer kinds_of deactivates closed
example_363 = refl

example_364 : html (codes "_foo*") ≡ codes "_foo*"
unfolding caseless encode chars token decide ucd_category is_unicode_white_space is_unicode_punctuation agrees pair_of rest_of_opener rest_of_closer kinds_of deactivates closed
example_364 = refl

example_365 : html (codes "*foo bar *") ≡ codes "*foo bar *"
unfolding caseless encode chars token decide ucd_category is_unicode_white_space is_unicode_punctuation agrees pair_of rest_of_opener rest_of_closer kinds_of deactivates closed
example_365 = refl

example_366 : html (codes "*foo bar\n*") ≡ codes "*foo bar\n*"
unfolding caseless encode chars token decide ucd_category is_unicode_white_space is_unicode_punctuation agrees pair_of rest_of_opener rest_of_closer kinds_of deactivates closed
example_366 = refl

example_367 : html (codes "*(*foo)") ≡ codes "*(*foo)"
unfolding caseless encode chars token decide ucd_category is_unicode_white_space is_unicode_punctuation agrees pair_of rest_of_opener rest_of_closer kinds_of deactivates closed
example_367 = refl

example_368 : html (codes "*(*foo*)*") ≡ codes "<em>(<em>foo</em>)</em>"
unfolding caseless encode chars token decide ucd_category is_unicode_white_space is_unicode_punctuation agrees pair_of rest_of_opener rest_of_closer kinds_of deactivates closed
example_368 = refl
