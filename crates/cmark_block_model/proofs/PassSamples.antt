-- Examples of CommonMark: the steps of the block pass draw the document of the grammar.
use Rattle.std.specs.Prelude.{◌≡◌, ℕ, List, [], ◌∷◌, codes, false, true}
use Rattle.std.proofs.Common.{refl}
use Rattle.cmark_grammar.specs.Leaves.{underlines}
use Rattle.cmark_grammar.specs.Containers.{enter, keeps}
use Rattle.cmark_grammar.specs.Options.{no_options}
use Rattle.cmark_grammar.specs.Openings.{opens, texts, lazily}
use Rattle.cmark_block_model.specs.BlocksModel.{begin, blocks}
use Rattle.cmark_grammar.specs.Entities.{basic_entity}
use Rattle.cmark_block_model.specs.DocumentModel.{document}
use Rattle.cmark_grammar.specs.References.{references}
use Rattle.cmark_block_model.specs.DrawnDocument.{settled, without_definitions}
use Rattle.cmark_block_model.specs.BlockPass.{pass_over}

abbrev IsSame : List ℕ → Type 0
IsSame text =
    (settled false (pass_over text no_options basic_entity).drawing.here ≡ without_definitions (document text no_options basic_entity))
    × ((pass_over text no_options basic_entity).references ≡ references (document text no_options basic_entity))

tab_in_code : IsSame (codes "  \tfoo\tbaz\t\tbim\n")
unfolding pass_over blocks begin opens texts lazily enter keeps underlines
tab_in_code = (refl, refl)

tab_in_item : IsSame (codes "- foo\n\n\t\tbar\n")
unfolding pass_over blocks begin opens texts lazily enter keeps underlines
tab_in_item = (refl, refl)

tab_nests : IsSame (codes " - foo\n   - bar\n\t - baz\n")
unfolding pass_over blocks begin opens texts lazily enter keeps underlines
tab_nests = (refl, refl)

lazy_lines : IsSame (codes "> foo\nbar\n===\n> - a\nb\n")
unfolding pass_over blocks begin opens texts lazily enter keeps underlines
lazy_lines = (refl, refl)

loose_list : IsSame (codes "- a\n- b\n\n- c\n")
unfolding pass_over blocks begin opens texts lazily enter keeps underlines
loose_list = (refl, refl)

loose_by_block : IsSame (codes "- a\n\n  b\n- c\n1. d\n2. e\n")
unfolding pass_over blocks begin opens texts lazily enter keeps underlines
loose_by_block = (refl, refl)

tight_within_loose : IsSame (codes "- a\n  - b\n\n    c\n- d\n")
unfolding pass_over blocks begin opens texts lazily enter keeps underlines
tight_within_loose = (refl, refl)

blank_item : IsSame (codes "-\n\n  foo\n- \n  bar\n")
unfolding pass_over blocks begin opens texts lazily enter keeps underlines
blank_item = (refl, refl)

fence_in_quote : IsSame (codes "> ```a&amp;b\n> x\n>\n\n~~~\ny\r\nz\r\n~~~~\nw\n")
unfolding pass_over blocks begin opens texts lazily enter keeps underlines
fence_in_quote = (refl, refl)

code_with_blanks : IsSame (codes "    a\n\n  \n      b\n\n c\n")
unfolding pass_over blocks begin opens texts lazily enter keeps underlines
code_with_blanks = (refl, refl)

html_kinds : IsSame (codes "<div>\n*a*\n\n<!-- x\n\ny --> z\n<pre>q</pre>\nt\n")
unfolding pass_over blocks begin opens texts lazily enter keeps underlines
html_kinds = (refl, refl)

definitions : IsSame (codes "[foo]: /url\n  'the\ntitle' \n[b]:\n/u x\n\n[c]: /v\nd\n===\n")
unfolding pass_over blocks begin opens texts lazily enter keeps underlines
definitions = (refl, refl)

definition_then_lazy : IsSame (codes "> [foo]: /url\nbar\n")
unfolding pass_over blocks begin opens texts lazily enter keeps underlines
definition_then_lazy = (refl, refl)

headings : IsSame (codes "# a #\nfoo\nbar  \nbaz\\\n===\n***\n")
unfolding pass_over blocks begin opens texts lazily enter keeps underlines
headings = (refl, refl)

quotes_and_items : IsSame (codes "> 1. a\n>    > b\nc\n\n10) x\n\n    y\n")
unfolding pass_over blocks begin opens texts lazily enter keeps underlines
quotes_and_items = (refl, refl)

item_ends_with_blank : IsSame (codes "- a\n  > b\n\n- c\n\n\n  d\ne\n")
unfolding pass_over blocks begin opens texts lazily enter keeps underlines
item_ends_with_blank = (refl, refl)

-- the labels of footnotes, in their normal form and in the order of the document: a label that occurs twice is recorded twice
labels_of_footnotes : (pass_over (codes "[^a]: b\n\n> [^C\td]: e\n> [^f]: g\n\n[^a]: h\n") (record no_options { footnotes = true }) basic_entity).footnotes ≡ codes "a" ∷ codes "C d" ∷ codes "f" ∷ codes "a" ∷ []
unfolding pass_over blocks begin opens texts lazily enter keeps underlines
labels_of_footnotes = refl
