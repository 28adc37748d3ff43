-- The stretches of leaves and the places of their bytes, computed.
use Rattle.std.specs.Prelude.{◌≡◌, ℕ, List, [], ◌∷◌, codes, map}
use Rattle.std.proofs.Common.{refl, arith}
use Rattle.cmark_block_model.specs.BlocksModel.{blocks, begin}
use Rattle.cmark_grammar.specs.Containers.{keeps, enter}
use Rattle.cmark_block_model.specs.DocumentModel.{document}
use Rattle.cmark_grammar.specs.Entities.{basic_entity}
use Rattle.cmark_grammar.specs.LeafText.{Leaf}
use Rattle.cmark_grammar.specs.Leaves.{underlines}
use Rattle.cmark_grammar.specs.Openings.{opens, texts}
use Rattle.cmark_grammar.specs.Options.{no_options}
use Rattle.cmark_grammar.specs.SpanDocuments.{Segment, Given, Content, segments}
use Rattle.cmark_inline_model.specs.PlacedTokens.{HaveWholeEndings}
use Rattle.cmark_inline_model.specs.TextPlaces.{place_in, text_of}
use Rattle.cmark_inline_model.proofs.SampleReading.{paragraph, plain_reader, stretch}

abbrev leaves : List Segment → List Leaf
leaves [] = []
leaves (Given r ∷ others) = leaves others
leaves (Content leaf ∷ others) = leaf ∷ leaves others

abbrev leaves_of : List ℕ → List Leaf
leaves_of text = leaves (segments (document text no_options basic_entity))

-- both bytes of a line ending belong to the stretch that they end
quoted_leaf : leaves_of (codes "> a\r\n> b\r\n") ≡ paragraph (stretch 2 5 ∷ stretch 7 8 ∷ []) ∷ []
unfolding blocks begin opens keeps enter underlines texts
quoted_leaf = refl

quoted_text : text_of (plain_reader no_options (codes "> a\r\n> b\r\n")) (paragraph (stretch 2 5 ∷ stretch 7 8 ∷ [])) ≡ codes "a\r\nb"
quoted_text = refl

quoted_places : map (place_in (plain_reader no_options (codes "> a\r\n> b\r\n")) (paragraph (stretch 2 5 ∷ stretch 7 8 ∷ []))) (0 ∷ (1 ∷ (2 ∷ (3 ∷ (4 ∷ []))))) ≡ 2 ∷ (3 ∷ (4 ∷ (7 ∷ (8 ∷ []))))
quoted_places = refl

-- a line that has only a line feed after its prefix is blank: it begins no stretch, and separates two paragraphs
blank_line_apart : leaves_of (codes "> a\r>\n> b") ≡ paragraph (stretch 2 3 ∷ []) ∷ (paragraph (stretch 8 9 ∷ []) ∷ [])
unfolding blocks begin opens keeps enter underlines texts
blank_line_apart = refl

-- a leaf whose second stretch began with a line feed would have a parted line ending
parted : HaveWholeEndings (codes "a\r\n") (place_in (plain_reader no_options (codes "a\r>\n")) (paragraph (stretch 0 2 ∷ stretch 3 4 ∷ []))) → ⊥
parted whole = let e : 3 ≡ 2 = whole 1 (omega arith) refl refl in absurd (omega (arith, e))
