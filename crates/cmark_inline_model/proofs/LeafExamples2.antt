-- Examples of CommonMark, computed: the result of the model for the text of one leaf is the standard's HTML.
use Rattle.std.specs.Prelude.{◌≡◌, [], ◌∷◌, ◌++◌, codes}
use Rattle.std.specs.Str.{chars}
use Rattle.std.proofs.Common.{refl}
use lib.Utf8.{encode}
use Rattle.caseless.proofs.Computing.{caseless}
use Rattle.ucd_category.proofs.Computing.{ucd_category}
use Rattle.cmark_grammar.specs.BracketDecisions.{decide}
use Rattle.cmark_grammar.specs.Emphasis.{agrees, pair_of, rest_of_opener, rest_of_closer, kinds_of, deactivates}
use Rattle.cmark_inline_model.specs.EmphasisModel.{closed}
use Rattle.cmark_grammar.specs.Flanking.{is_unicode_white_space, is_unicode_punctuation}
use Rattle.cmark_grammar.specs.InlineTokens.{token}
use Rattle.cmark_inline_model.proofs.SampleReading.{html}

example_369 : html (codes "*foo*bar") ≡ codes "<em>foo</em>bar"
unfolding caseless encode chars token decide ucd_category is_unicode_white_space is_unicode_punctuation agrees pair_of rest_of_opener rest_of_closer kinds_of deactivates closed
example_369 = refl

example_370 : html (codes "_foo bar _") ≡ codes "_foo bar _"
unfolding caseless encode chars token decide ucd_category is_unicode_white_space is_unicode_punctuation agrees pair_of rest_of_opener rest_of_closer kinds_of deactivates closed
example_370 = refl

example_371 : html (codes "_(_foo)") ≡ codes "_(_foo)"
unfolding caseless encode chars token decide ucd_category is_unicode_white_space is_unicode_punctuation agrees pair_of rest_of_opener rest_of_closer kinds_of deactivates closed
example_371 = refl

example_372 : html (codes "_(_foo_)_") ≡ codes "<em>(<em>foo</em>)</em>"
unfolding caseless encode chars token decide ucd_category is_unicode_white_space is_unicode_punctuation agrees pair_of rest_of_opener rest_of_closer kinds_of deactivates closed
example_372 = refl

example_373 : html (codes "_foo_bar") ≡ codes "_foo_bar"
unfolding caseless encode chars token decide ucd_category is_unicode_white_space is_unicode_punctuation agrees pair_of rest_of_opener rest_of_closer kinds_of deactivates closed
example_373 = refl

example_374 : html (codes "_" ++ ((208 ∷ 191 ∷ 209 ∷ 128 ∷ 208 ∷ 184 ∷ 209 ∷ 129 ∷ 209 ∷ 130 ∷ 208 ∷ 176 ∷ 208 ∷ 189 ∷ 209 ∷ 143 ∷ 208 ∷ 188 ∷ []) ++ (codes "_"
    ++ ((209 ∷ 129 ∷ 209 ∷ 130 ∷ 209 ∷ 128 ∷ 208 ∷ 181 ∷ 208 ∷ 188 ∷ 209 ∷ 143 ∷ 209 ∷ 130 ∷ 209 ∷ 129 ∷ 209 ∷ 143 ∷ [])))))
    ≡ codes "_" ++ ((208 ∷ 191 ∷ 209 ∷ 128 ∷ 208 ∷ 184 ∷ 209 ∷ 129 ∷ 209 ∷ 130 ∷ 208 ∷ 176 ∷ 208 ∷ 189 ∷ 209 ∷ 143 ∷ 208 ∷ 188 ∷ []) ++ (codes "_"
    ++ ((209 ∷ 129 ∷ 209 ∷ 130 ∷ 209 ∷ 128 ∷ 208 ∷ 181 ∷ 208 ∷ 188 ∷ 209 ∷ 143 ∷ 209 ∷ 130 ∷ 209 ∷ 129 ∷ 209 ∷ 143 ∷ []))))
unfolding caseless encode chars token decide ucd_category is_unicode_white_space is_unicode_punctuation agrees pair_of rest_of_opener rest_of_closer kinds_of deactivates closed
example_374 = refl

example_375 : html (codes "_foo_bar_baz_") ≡ codes "<em>foo_bar_baz</em>"
unfolding caseless encode chars token decide ucd_category is_unicode_white_space is_unicode_punctuation agrees pair_of rest_of_opener rest_of_closer kinds_of deactivates closed
example_375 = refl

example_376 : html (codes "_(bar)_.") ≡ codes "<em>(bar)</em>."
unfolding caseless encode chars token decide ucd_category is_unicode_white_space is_unicode_punctuation agrees pair_of rest_of_opener rest_of_closer kinds_of deactivates closed
example_376 = refl

example_377 : html (codes "**foo bar**") ≡ codes "<strong>foo bar</strong>"
unfolding caseless encode chars token decide ucd_category is_unicode_white_space is_unicode_punctuation agrees pair_of rest_of_opener rest_of_closer kinds_of deactivates closed
example_377 = refl

example_378 : html (codes "** foo bar**") ≡ codes "** foo bar**"
unfolding caseless encode chars token decide ucd_category is_unicode_white_space is_unicode_punctuation agrees pair_of rest_of_opener rest_of_closer kinds_of deactivates closed
example_378 = refl

example_379 : html (codes "a**\"foo\"**") ≡ codes "a**\"foo\"**"
unfolding caseless encode chars token decide ucd_category is_unicode_white_space is_unicode_punctuation agrees pair_of rest_of_opener rest_of_closer kinds_of deactivates closed
example_379 = refl

example_380 : html (codes "foo**bar**") ≡ codes "foo<strong>bar</strong>"
unfolding caseless encode chars token decide ucd_category is_unicode_white_space is_unicode_punctuation agrees pair_of rest_of_opener rest_of_closer kinds_of deactivates closed
example_380 = refl

example_381 : html (codes "__foo bar__") ≡ codes "<strong>foo bar</strong>"
unfolding caseless encode chars token decide ucd_category is_unicode_white_space is_unicode_punctuation agrees pair_of rest_of_opener rest_of_closer kinds_of deactivates closed
example_381 = refl

example_382 : html (codes "__ foo bar__") ≡ codes "__ foo bar__"
unfolding caseless encode chars token decide ucd_category is_unicode_white_space is_unicode_punctuation agrees pair_of rest_of_opener rest_of_closer kinds_of deactivates closed
example_382 = refl

example_383 : html (codes "__\nfoo bar__") ≡ codes "__\nfoo bar__"
unfolding caseless encode chars token decide ucd_category is_unicode_white_space is_unicode_punctuation agrees pair_of rest_of_opener rest_of_closer kinds_of deactivates closed
example_383 = refl

example_384 : html (codes "a__\"foo\"__") ≡ codes "a__\"foo\"__"
unfolding caseless encode chars token decide ucd_category is_unicode_white_space is_unicode_punctuation agrees pair_of rest_of_opener rest_of_closer kinds_of deactivates closed
example_384 = refl

example_385 : html (codes "foo__bar__") ≡ codes "foo__bar__"
unfolding caseless encode chars token decide ucd_category is_unicode_white_space is_unicode_punctuation agrees pair_of rest_of_opener rest_of_closer kinds_of deactivates closed
example_385 = refl

example_386 : html (codes "5__6__78") ≡ codes "5__6__78"
unfolding caseless encode chars token decide ucd_category is_unicode_white_space is_unicode_punctuation agrees pair_of rest_of_opener rest_of_closer kinds_of deactivates closed
example_386 = refl

example_387 : html ((208 ∷ 191 ∷ 209 ∷ 128 ∷ 208 ∷ 184 ∷ 209 ∷ 129 ∷ 209 ∷ 130 ∷ 208 ∷ 176 ∷ 208 ∷ 189 ∷ 209 ∷ 143 ∷ 208 ∷ 188 ∷ []) ++ (codes "__"
    ++ ((209 ∷ 129 ∷ 209 ∷ 130 ∷ 209 ∷ 128 ∷ 208 ∷ 181 ∷ 208 ∷ 188 ∷ 209 ∷ 143 ∷ 209 ∷ 130 ∷ 209 ∷ 129 ∷ 209 ∷ 143 ∷ []) ++ (codes "__"))))
    ≡ (208 ∷ 191 ∷ 209 ∷ 128 ∷ 208 ∷ 184 ∷ 209 ∷ 129 ∷ 209 ∷ 130 ∷ 208 ∷ 176 ∷ 208 ∷ 189 ∷ 209 ∷ 143 ∷ 208 ∷ 188 ∷ []) ++ (codes "__"
    ++ ((209 ∷ 129 ∷ 209 ∷ 130 ∷ 209 ∷ 128 ∷ 208 ∷ 181 ∷ 208 ∷ 188 ∷ 209 ∷ 143 ∷ 209 ∷ 130 ∷ 209 ∷ 129 ∷ 209 ∷ 143 ∷ []) ++ (codes "__")))
unfolding caseless encode chars token decide ucd_category is_unicode_white_space is_unicode_punctuation agrees pair_of rest_of_opener rest_of_closer kinds_of deactivates closed
example_387 = refl

example_388 : html (codes "__foo, __bar__, baz__") ≡ codes "<strong>foo, <strong>bar</strong>, baz</strong>"
unfolding caseless encode chars token decide ucd_category is_unicode_white_space is_unicode_punctuation agrees pair_of rest_of_opener rest_of_closer kinds_of deactivates closed
example_388 = refl

example_389 : html (codes "foo-__(bar)__") ≡ codes "foo-<strong>(bar)</strong>"
unfolding caseless encode chars token decide ucd_category is_unicode_white_space is_unicode_punctuation agrees pair_of rest_of_opener rest_of_closer kinds_of deactivates closed
example_389 = refl

example_390 : html (codes "**foo bar **") ≡ codes "**foo bar **"
unfolding caseless encode chars token decide ucd_category is_unicode_white_space is_unicode_punctuation agrees pair_of rest_of_opener rest_of_closer kinds_of deactivates closed
example_390 = refl

example_391 : html (codes "**(**foo)") ≡ codes "**(**foo)"
unfolding caseless encode chars token decide ucd_category is_unicode_white_space is_unicode_punctuation agrees pair_of rest_of_opener rest_of_closer kinds_of deactivates closed
example_391 = refl

example_392 : html (codes "*(**foo**)*") ≡ codes "<em>(<strong>foo</strong>)</em>"
unfolding caseless encode chars token decide ucd_category is_unicode_white_space is_unicode_punctuation agrees pair_of rest_of_opener rest_of_closer kinds_of deactivates closed
example_392 = refl

example_393 : html (codes "**Gomphocarpus (*Gomphocarpus physocarpus*, syn.\n*Asclepias physocarpa*)**") ≡ codes "<strong>Gomphocarpus (<em>Gomphocarpus physocarpus</em>, syn.\n<em>Asclepias physocarpa</em>)</strong>"
unfolding caseless encode chars token decide ucd_category is_unicode_white_space is_unicode_punctuation agrees pair_of rest_of_opener rest_of_closer kinds_of deactivates closed
example_393 = refl

example_394 : html (codes "**foo \"*bar*\" foo**") ≡ codes "<strong>foo \"<em>bar</em>\" foo</strong>"
unfolding caseless encode chars token decide ucd_category is_unicode_white_space is_unicode_punctuation agrees pair_of rest_of_opener rest_of_closer kinds_of deactivates closed
example_394 = refl

example_395 : html (codes "**foo**bar") ≡ codes "<strong>foo</strong>bar"
unfolding caseless encode chars token decide ucd_category is_unicode_white_space is_unicode_punctuation agrees pair_of rest_of_opener rest_of_closer kinds_of deactivates closed
example_395 = refl

example_396 : html (codes "__foo bar __") ≡ codes "__foo bar __"
unfolding caseless encode chars token decide ucd_category is_unicode_white_space is_unicode_punctuation agrees pair_of rest_of_opener rest_of_closer kinds_of deactivates closed
example_396 = refl

example_397 : html (codes "__(__foo)") ≡ codes "__(__foo)"
unfolding caseless encode chars token decide ucd_category is_unicode_white_space is_unicode_punctuation agrees pair_of rest_of_opener rest_of_closer kinds_of deactivates closed
example_397 = refl

example_398 : html (codes "_(__foo__)_") ≡ codes "<em>(<strong>foo</strong>)</em>"
unfolding caseless encode chars token decide ucd_category is_unicode_white_space is_unicode_punctuation agrees pair_of rest_of_opener rest_of_closer kinds_of deactivates closed
example_398 = refl

example_399 : html (codes "__foo__bar") ≡ codes "__foo__bar"
unfolding caseless encode chars token decide ucd_category is_unicode_white_space is_unicode_punctuation agrees pair_of rest_of_opener rest_of_closer kinds_of deactivates closed
example_399 = refl

example_400 : html (codes "__" ++ ((208 ∷ 191 ∷ 209 ∷ 128 ∷ 208 ∷ 184 ∷ 209 ∷ 129 ∷ 209 ∷ 130 ∷ 208 ∷ 176 ∷ 208 ∷ 189 ∷ 209 ∷ 143 ∷ 208 ∷ 188 ∷ []) ++ (codes "__"
    ++ ((209 ∷ 129 ∷ 209 ∷ 130 ∷ 209 ∷ 128 ∷ 208 ∷ 181 ∷ 208 ∷ 188 ∷ 209 ∷ 143 ∷ 209 ∷ 130 ∷ 209 ∷ 129 ∷ 209 ∷ 143 ∷ [])))))
    ≡ codes "__" ++ ((208 ∷ 191 ∷ 209 ∷ 128 ∷ 208 ∷ 184 ∷ 209 ∷ 129 ∷ 209 ∷ 130 ∷ 208 ∷ 176 ∷ 208 ∷ 189 ∷ 209 ∷ 143 ∷ 208 ∷ 188 ∷ []) ++ (codes "__"
    ++ ((209 ∷ 129 ∷ 209 ∷ 130 ∷ 209 ∷ 128 ∷ 208 ∷ 181 ∷ 208 ∷ 188 ∷ 209 ∷ 143 ∷ 209 ∷ 130 ∷ 209 ∷ 129 ∷ 209 ∷ 143 ∷ []))))
unfolding caseless encode chars token decide ucd_category is_unicode_white_space is_unicode_punctuation agrees pair_of rest_of_opener rest_of_closer kinds_of deactivates closed
example_400 = refl

example_401 : html (codes "__foo__bar__baz__") ≡ codes "<strong>foo__bar__baz</strong>"
unfolding caseless encode chars token decide ucd_category is_unicode_white_space is_unicode_punctuation agrees pair_of rest_of_opener rest_of_closer kinds_of deactivates closed
example_401 = refl

example_402 : html (codes "__(bar)__.") ≡ codes "<strong>(bar)</strong>."
unfolding caseless encode chars token decide ucd_category is_unicode_white_space is_unicode_punctuation agrees pair_of rest_of_opener rest_of_closer kinds_of deactivates closed
example_402 = refl

example_403 : html (codes "*foo [bar](/url)*") ≡ codes "<em>foo <a href=\"/url\">bar</a></em>"
unfolding caseless encode chars token decide ucd_category is_unicode_white_space is_unicode_punctuation agrees pair_of rest_of_opener rest_of_closer kinds_of deactivates closed
example_403 = refl

example_404 : html (codes "*foo\nbar*") ≡ codes "<em>foo\nbar</em>"
unfolding caseless encode chars token decide ucd_category is_unicode_white_space is_unicode_punctuation agrees pair_of rest_of_opener rest_of_closer kinds_of deactivates closed
example_404 = refl

example_405 : html (codes "_foo __bar__ baz_") ≡ codes "<em>foo <strong>bar</strong> baz</em>"
unfolding caseless encode chars token decide ucd_category is_unicode_white_space is_unicode_punctuation agrees pair_of rest_of_opener rest_of_closer kinds_of deactivates closed
example_405 = refl

example_406 : html (codes "_foo _bar_ baz_") ≡ codes "<em>foo <em>bar</em> baz</em>"
unfolding caseless encode chars token decide ucd_category is_unicode_white_space is_unicode_punctuation agrees pair_of rest_of_opener rest_of_closer kinds_of deactivates closed
example_406 = refl

example_407 : html (codes "__foo_ bar_") ≡ codes "<em><em>foo</em> bar</em>"
unfolding caseless encode chars token decide ucd_category is_unicode_white_space is_unicode_punctuation agrees pair_of rest_of_opener rest_of_closer kinds_of deactivates closed
example_407 = refl

example_408 : html (codes "*foo *bar**") ≡ codes "<em>foo <em>bar</em></em>"
unfolding caseless encode chars token decide ucd_category is_unicode_white_space is_unicode_punctuation agrees pair_of rest_of_opener rest_of_closer kinds_of deactivates closed
example_408 = refl

example_409 : html (codes "*foo **bar** baz*") ≡ codes "<em>foo <strong>bar</strong> baz</em>"
unfolding caseless encode chars token decide ucd_category is_unicode_white_space is_unicode_punctuation agrees pair_of rest_of_opener rest_of_closer kinds_of deactivates closed
example_409 = refl

example_410 : html (codes "*foo**bar**baz*") ≡ codes "<em>foo<strong>bar</strong>baz</em>"
unfolding caseless encode chars token decide ucd_category is_unicode_white_space is_unicode_punctuation agrees pair_of rest_of_opener rest_of_closer kinds_of deactivates closed
example_410 = refl

example_411 : html (codes "*foo**bar*") ≡ codes "<em>foo**bar</em>"
unfolding caseless encode chars token decide ucd_category is_unicode_white_space is_unicode_punctuation agrees pair_of rest_of_opener rest_of_closer kinds_of deactivates closed
example_411 = refl

example_412 : html (codes "***foo** bar*") ≡ codes "<em><strong>foo</strong> bar</em>"
unfolding caseless encode chars token decide ucd_category is_unicode_white_space is_unicode_punctuation agrees pair_of rest_of_opener rest_of_closer kinds_of deactivates closed
example_412 = refl

example_413 : html (codes "*foo **bar***") ≡ codes "<em>foo <strong>bar</strong></em>"
unfolding caseless encode chars token decide ucd_category is_unicode_white_space is_unicode_punctuation agrees pair_of rest_of_opener rest_of_closer kinds_of deactivates closed
example_413 = refl

example_414 : html (codes "*foo**bar***") ≡ codes "<em>foo<strong>bar</strong></em>"
unfolding caseless encode chars token decide ucd_category is_unicode_white_space is_unicode_punctuation agrees pair_of rest_of_opener rest_of_closer kinds_of deactivates closed
example_414 = refl

example_415 : html (codes "foo***bar***baz") ≡ codes "foo<em><strong>bar</strong></em>baz"
unfolding caseless encode chars token decide ucd_category is_unicode_white_space is_unicode_punctuation agrees pair_of rest_of_opener rest_of_closer kinds_of deactivates closed
example_415 = refl

example_416 : html (codes "foo******bar*********baz") ≡ codes "foo<strong><strong><strong>bar</strong></strong></strong>***baz"
unfolding caseless encode chars token decide ucd_category is_unicode_white_space is_unicode_punctuation agrees pair_of rest_of_opener rest_of_closer kinds_of deactivates closed
example_416 = refl

example_417 : html (codes "*foo **bar *baz* bim** bop*") ≡ codes "<em>foo <strong>bar <em>baz</em> bim</strong> bop</em>"
unfolding caseless encode chars token decide ucd_category is_unicode_white_space is_unicode_punctuation agrees pair_of rest_of_opener rest_of_closer kinds_of deactivates closed
example_417 = refl

example_418 : html (codes "*foo [*bar*](/url)*") ≡ codes "<em>foo <a href=\"/url\"><em>bar</em></a></em>"
unfolding caseless encode chars token decide ucd_category is_unicode_white_space is_unicode_punctuation agrees pair_of rest_of_opener rest_of_closer kinds_of deactivates closed
example_418 = refl

example_419 : html (codes "** is not an empty emphasis") ≡ codes "** is not an empty emphasis"
unfolding caseless encode chars token decide ucd_category is_unicode_white_space is_unicode_punctuation agrees pair_of rest_of_opener rest_of_closer kinds_of deactivates closed
example_419 = refl

example_420 : html (codes "**** is not an empty strong emphasis") ≡ codes "**** is not an empty strong emphasis"
unfolding caseless encode chars token decide ucd_category is_unicode_white_space is_unicode_punctuation agrees pair_of rest_of_opener rest_of_closer kinds_of deactivates closed
example_420 = refl

example_421 : html (codes "**foo [bar](/url)**") ≡ codes "<strong>foo <a href=\"/url\">bar</a></strong>"
unfolding caseless encode chars token decide ucd_category is_unicode_white_space is_unicode_punctuation agrees pair_of rest_of_opener rest_of_closer kinds_of deactivates closed
example_421 = refl

example_422 : html (codes "**foo\nbar**") ≡ codes "<strong>foo\nbar</strong>"
unfolding caseless encode chars token decide ucd_category is_unicode_white_space is_unicode_punctuation agrees pair_of rest_of_opener rest_of_closer kinds_of deactivates closed
example_422 = refl

example_423 : html (codes "__foo _bar_ baz__") ≡ codes "<strong>foo <em>bar</em> baz</strong>"
unfolding caseless encode chars token decide ucd_category is_unicode_white_space is_unicode_punctuation agrees pair_of rest_of_opener rest_of_closer kinds_of deactivates closed
example_423 = refl

example_424 : html (codes "__foo __bar__ baz__") ≡ codes "<strong>foo <strong>bar</strong> baz</strong>"
unfolding caseless encode chars token decide ucd_category is_unicode_white_space is_unicode_punctuation agrees pair_of rest_of_opener rest_of_closer kinds_of deactivates closed
example_424 = refl

example_425 : html (codes "____foo__ bar__") ≡ codes "<strong><strong>foo</strong> bar</strong>"
unfolding caseless encode chars token decide ucd_category is_unicode_white_space is_unicode_punctuation agrees pair_of rest_of_opener rest_of_closer kinds_of deactivates closed
example_425 = refl

example_426 : html (codes "**foo **bar****") ≡ codes "<strong>foo <strong>bar</strong></strong>"
unfolding caseless encode chars token decide ucd_category is_unicode_white_space is_unicode_punctuation agrees pair_of rest_of_opener rest_of_closer kinds_of deactivates closed
example_426 = refl

example_427 : html (codes "**foo *bar* baz**") ≡ codes "<strong>foo <em>bar</em> baz</strong>"
unfolding caseless encode chars token decide ucd_category is_unicode_white_space is_unicode_punctuation agrees pair_of rest_of_opener rest_of_closer kinds_of deactivates closed
example_427 = refl

example_428 : html (codes "**foo*bar*baz**") ≡ codes "<strong>foo<em>bar</em>baz</strong>"
unfolding caseless encode chars token decide ucd_category is_unicode_white_space is_unicode_punctuation agrees pair_of rest_of_opener rest_of_closer kinds_of deactivates closed
example_428 = refl
