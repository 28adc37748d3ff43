-- The items of nodes that are built.
use Rattle.std.specs.Prelude.{◌≡◌, ℕ, Bool, true, false, ◌==◌, ◌&&◌, List, [], ◌∷◌, None}
use Rattle.cmark_tree.specs.Building.{Opened}
use Rattle.cmark_tree.specs.Forest as forest
use Rattle.cmark_tree.specs.Forest.{Forest}
use Rattle.cmark_items.specs.declared.item.Item.{Item}
use Rattle.cmark_items.specs.declared.item.ItemBody.{ItemBody}
use Rattle.cmark_items.specs.declared.item.ItemBody.TheVariants as body
use Rattle.cmark_references.specs.Definitions.{definition}
use Rattle.cmark_references.specs.Footnotes.{footnote}
use Rattle.cmark_items.specs.Tables.{Tables}

abbrev pub item_at : (start end : ℕ) → ItemBody → Item
item_at start end body = record { start = start; end = end; body = body }

-- an open node with its end and its body
abbrev pub ended : (end : ℕ) → ItemBody → Opened Item → Opened Item
ended end body v = record v { item = item_at v.item.start end body }

-- a paragraph as the title of a definition; its text stays
abbrev pub titled : ItemBody → ItemBody
titled (body.ParagraphOf text_end) = body.DefinitionListTitleOf text_end
titled (body.DefinitionListTitleOf text_end) = body.DefinitionListTitleOf text_end
titled _ = body.DefinitionListTitle

-- a paragraph without a text of its own in the node
abbrev pub is_paragraph : ItemBody → Bool
is_paragraph body.Paragraph = true
is_paragraph _ = false

-- the innermost open node is a paragraph that begins at a place, and there is no node inside it
abbrev pub is_empty_paragraph : (start : ℕ) → (here : Forest Item) → List (Opened Item) → Bool
is_empty_paragraph start forest.Nil [] = false
is_empty_paragraph start forest.Nil (v ∷ up) = (v.item.start == start) && is_paragraph v.item.body
is_empty_paragraph start (forest.Node item inside after) up = false

-- the tables are empty
pub record IsEmpty (t : Tables) : Type 0 where
  pub texts : t.texts ≡ []
  pub links : t.links ≡ []
  pub alignments : t.alignments ≡ []
  pub references : (folded : List ℕ) → definition t.references folded ≡ None
  pub footnotes : (folded : List ℕ) → footnote t.footnotes folded ≡ None
