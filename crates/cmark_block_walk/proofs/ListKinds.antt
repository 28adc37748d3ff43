-- Definition lists and their titles among the kinds of nodes, and the number of starts before a text.
use Rattle.std.proofs.Common.{◌≡◌, Bool, true, false, true≢false, refl, sym}
use Rattle.cmark_grammar.specs.BlockDocument.{BlockKind, Paragraph, TightParagraph, Heading, LinkDefinition, TableCell, DefinitionList, DefinitionListTitle}
use Rattle.cmark_grammar.specs.BlockReading.{is_leaf, is_title, read_as, starts_of, title_as}
use Rattle.cmark_block_model.specs.DrawnDocument.{is_definition, kind_within}
use Rattle.cmark_block_walk.specs.Walking.{is_list}

pub list-kind : (kind : BlockKind) → is_list kind ≡ true → (tight : Bool) × (kind ≡ DefinitionList tight)
list-kind (DefinitionList tight) e = (tight, refl)
list-kind _ e = absurd (true≢false (sym e))

pub title-kind : (kind : BlockKind) → is_title kind ≡ true → kind ≡ DefinitionListTitle
title-kind DefinitionListTitle e = refl
title-kind _ e = absurd (true≢false (sym e))

pub title-leaf : (kind : BlockKind) → is_title kind ≡ true → is_leaf kind ≡ true
title-leaf DefinitionListTitle e = refl
title-leaf _ e = absurd (true≢false (sym e))

-- before the text of a leaf that is an element comes its own start
pub leaf-starts : (kind : BlockKind) (titled : Bool) → is_leaf kind ≡ true → starts_of kind titled ≡ 1
leaf-starts Paragraph titled e = refl
leaf-starts TightParagraph titled e = refl
leaf-starts (Heading level attributes) titled e = refl
leaf-starts TableCell titled e = refl
leaf-starts DefinitionListTitle titled e = refl
leaf-starts _ titled e = absurd (true≢false (sym e))

-- if another node is read, no title begins
pub no-title : (tight : Bool) (kind : BlockKind) (other : Bool) → is_definition kind ≡ false → is_title kind ≡ false → title_as (is_title (kind_within tight kind)) (read_as (kind_within tight kind)) other ≡ false
no-title true Paragraph other d t = refl
no-title false Paragraph other d t = refl
no-title tight (LinkDefinition reference) other d t = absurd (true≢false d)
no-title tight DefinitionListTitle other d t = absurd (true≢false t)
no-title tight _ other d t = refl
