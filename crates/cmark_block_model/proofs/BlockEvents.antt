-- The events of block documents with their ranges, computed for texts of each construct.
use Rattle.std.specs.Prelude.{◌≡◌, ℕ, List, [], ◌∷◌, codes, map}
use Rattle.std.proofs.Common.{refl}
use Rattle.cmark_grammar.specs.Leaves.{underlines}
use Rattle.cmark_grammar.specs.Containers.{enter, keeps}
use Rattle.cmark_grammar.specs.Options.{no_options}
use Rattle.cmark_grammar.specs.Openings.{opens, texts, lazily}
use Rattle.cmark_block_model.specs.BlocksModel.{begin, blocks}
use Rattle.cmark_grammar.specs.Entities.{basic_entity}
use Rattle.cmark_block_model.specs.DocumentModel.{document}
use Rattle.cmark_grammar.specs.Event.{Ranged}
use Rattle.cmark_grammar.specs.BlockReading.{block_reading}

abbrev Range : Type 0
Range = ℕ × ℕ

abbrev range_of : Ranged → Range
range_of ranged = (ranged.start, ranged.end)

abbrev ranges_of : List ℕ → List Range
ranges_of text = map range_of (block_reading (document text no_options basic_entity))

-- a rule is one event
thematic_break : ranges_of (codes " ***\n") ≡ (1, 5) ∷ []
unfolding blocks begin opens texts lazily enter keeps underlines
thematic_break = refl

-- both events of an element have the range of its node
atx_heading : ranges_of (codes "## a #\n") ≡ (0, 7) ∷ (3, 4) ∷ (0, 7) ∷ []
unfolding blocks begin opens texts lazily enter keeps underlines
atx_heading = refl

-- the underline belongs to the heading
setext_heading : ranges_of (codes "a\nb\n===\n") ≡ (0, 8) ∷ (0, 3) ∷ (0, 8) ∷ []
unfolding blocks begin opens texts lazily enter keeps underlines
setext_heading = refl

fenced_code : ranges_of (codes "```x\na\n```\n") ≡ (0, 11) ∷ (5, 7) ∷ (0, 11) ∷ []
unfolding blocks begin opens texts lazily enter keeps underlines
fenced_code = refl

-- each HTML line is one event
html_block : ranges_of (codes "<div>\n</div>\n") ≡ (0, 13) ∷ (0, 6) ∷ (6, 13) ∷ (0, 13) ∷ []
unfolding blocks begin opens texts lazily enter keeps underlines
html_block = refl

-- a definition is no event
link_definition : ranges_of (codes "[a]: /u\nb\n") ≡ (8, 10) ∷ (8, 9) ∷ (8, 10) ∷ []
unfolding blocks begin opens texts lazily enter keeps underlines
link_definition = refl

lazy_line : ranges_of (codes "> a\nb\n") ≡ (0, 6) ∷ (2, 6) ∷ (2, 5) ∷ (2, 6) ∷ (0, 6) ∷ []
unfolding blocks begin opens texts lazily enter keeps underlines
lazy_line = refl

-- a paragraph of a tight list is its text alone
tight_list : ranges_of (codes "- a\n- b\n") ≡ (0, 8) ∷ (0, 4) ∷ (2, 3) ∷ (0, 4) ∷ (4, 8) ∷ (6, 7) ∷ (4, 8) ∷ (0, 8) ∷ []
unfolding blocks begin opens texts lazily enter keeps underlines
tight_list = refl

loose_list : ranges_of (codes "- a\n\n- b\n")
    ≡ (0, 9) ∷ (0, 5) ∷ (2, 4) ∷ (2, 3) ∷ (2, 4) ∷ (0, 5) ∷ (5, 9) ∷ (7, 9) ∷ (7, 8) ∷ (7, 9) ∷ (5, 9) ∷ (0, 9) ∷ []
unfolding blocks begin opens texts lazily enter keeps underlines
loose_list = refl

-- a list within an item begins after the prefix of that item
nested_list : ranges_of (codes "7. a\n   - b\n")
    ≡ (0, 12) ∷ (0, 12) ∷ (3, 4) ∷ (8, 12) ∷ (8, 12) ∷ (10, 11) ∷ (8, 12) ∷ (8, 12) ∷ (0, 12) ∷ (0, 12) ∷ []
unfolding blocks begin opens texts lazily enter keeps underlines
nested_list = refl

-- lines that touch are one event, with the indent of later ones
raw_lines : ranges_of (codes "a&amp;b\\*c  \nd\n e\n") ≡ (0, 18) ∷ (0, 17) ∷ (0, 18) ∷ []
unfolding blocks begin opens texts lazily enter keeps underlines
raw_lines = refl

-- after a prefix a new stretch begins, with the rest of the indent; a tab that the prefix takes in part belongs to the prefix
raw_lines_in_item : ranges_of (codes "- a\n  b\n   c\n\td\n")
    ≡ (0, 16) ∷ (0, 16) ∷ (2, 4) ∷ (6, 8) ∷ (10, 13) ∷ (14, 15) ∷ (0, 16) ∷ (0, 16) ∷ []
unfolding blocks begin opens texts lazily enter keeps underlines
raw_lines_in_item = refl
