-- The nodes that are leaves, and the nodes inside them.
use Rattle.std.proofs.Common.{◌≡◌, Bool, true, false, if◌then◌else◌, List, [], ◌∷◌, refl, ap, ◌∙◌}
use Rattle.cmark_grammar.specs.BlockDocument.{BlockKind, Paragraph, TightParagraph, Heading, ThematicBreak, LinkDefinition, TaskMarker, DefinitionListTitle, Text, OwnedText, Html, BlockDocument, Nil, Node}
use Rattle.cmark_grammar.specs.BlockReading.{Around, Inside, Alone, First, Silent, read_as}
use Rattle.cmark_block_model.specs.DrawnDocument.{kind_within, settled}
use Rattle.cmark_grammar.specs.LeafText.{Stretch, Leaf}
use Rattle.cmark_grammar.specs.SpanDocuments.{Segment, Content, is_leaf, is_cell, leaf_of, stretches_of, inside_of}

-- a paragraph is a leaf in a tight list too
pub leaf-within : (tight : Bool) (kind : BlockKind) → is_leaf (kind_within tight kind) ≡ is_leaf kind
leaf-within true Paragraph = refl
leaf-within false Paragraph = refl
leaf-within tight _ = refl

pub inside-leaf : (kind : BlockKind) (content : BlockDocument) (others : List Segment) → is_leaf kind ≡ true → inside_of kind content others ≡ Content (leaf_of kind content) ∷ []
inside-leaf kind content others e = ap (λ b. if b then Content (leaf_of kind content) ∷ [] else others) e

pub inside-block : (kind : BlockKind) (content : BlockDocument) (others : List Segment) → is_leaf kind ≡ false → inside_of kind content others ≡ others
inside-block kind content others e = ap (λ b. if b then Content (leaf_of kind content) ∷ [] else others) e

-- a node that is read as the events inside it is a leaf
pub only-leaves-inside : (kind : BlockKind) → Inside ≡ read_as kind → is_leaf kind ≡ true
only-leaves-inside Paragraph e = refl
only-leaves-inside TightParagraph e = refl
only-leaves-inside (Heading level attributes) e = refl
only-leaves-inside ThematicBreak e = absurd (let q : Inside ≡ Alone _ = e in cc)
only-leaves-inside (LinkDefinition reference) e = absurd (let q : Inside ≡ Silent = e in cc)
only-leaves-inside DefinitionListTitle e = refl
only-leaves-inside (TaskMarker is_checked) e = absurd (let q : Inside ≡ First _ = e in cc)
only-leaves-inside (Text bytes) e = absurd (let q : Inside ≡ Alone _ = e in cc)
only-leaves-inside (OwnedText bytes) e = absurd (let q : Inside ≡ Alone _ = e in cc)
only-leaves-inside (Html bytes) e = absurd (let q : Inside ≡ Alone _ = e in cc)
only-leaves-inside _ e = absurd (let q : Inside ≡ Around _ = e in cc)

-- whether a list is tight changes no stretch of a leaf
settled-stretches : (tight : Bool) (content : BlockDocument) → stretches_of (settled tight content) ≡ stretches_of content
settled-stretches tight Nil = refl
settled-stretches tight (Node node inside after) = ap (λ (more : List Stretch). record { start = node.start; end = node.end } ∷ more) (settled-stretches tight after)

-- a paragraph of a tight list is no cell either
cell-within : (tight : Bool) (kind : BlockKind) → is_cell (kind_within tight kind) ≡ is_cell kind
cell-within true Paragraph = refl
cell-within false Paragraph = refl
cell-within tight _ = refl

pub settled-leaf : (around : Bool) (kind : BlockKind) (tight : Bool) (content : BlockDocument) → leaf_of (kind_within around kind) (settled tight content) ≡ leaf_of kind content
settled-leaf around kind tight content =
    ap (λ (more : List Stretch). record { stretches = more; is_cell = is_cell (kind_within around kind) }) (settled-stretches tight content)
    ∙ ap {A = Bool} {B = Leaf} (λ z. record { stretches = stretches_of content; is_cell = z }) (cell-within around kind)
