-- The document that a builder has drawn.
use Rattle.std.specs.Prelude.{◌≡◌, ℕ, List, map, Option, Some}
use Rattle.cmark_tree.specs.Forest.{Forest}
use Rattle.cmark_tree.specs.Building.{Opened, Is}
use Rattle.cmark_grammar.specs.BlockDocument.{BlockNode}
use Rattle.cmark_items.specs.declared.item.Item.{Item}
use Rattle.cmark_items.specs.ItemNodes.{shown_element, shown_forest, nodes_of}
use Rattle.cmark_values.specs.declared.text.CowStr.{CowStr}
use Rattle.cmark_block_model.specs.Drawing.{OpenNode, Drawing}
use Rattle.cmark_builder.specs.declared.builder.Builder.{Builder}

abbrev pub shown_open : List ℕ → List CowStr → Opened Item → Opened (Option BlockNode)
shown_open text t v = record { left = shown_forest text t v.left; item = shown_element t v.item }

abbrev pub open_node : OpenNode → Opened (Option BlockNode)
open_node v = record { left = nodes_of v.left; item = Some v.node }

-- the tree of the builder shows this drawing of a text's document
pub record Draws (text : List ℕ) (b : Builder) (d : Drawing) : Type 0 where
  pub here : Forest Item
  pub up : List (Opened Item)
  pub is : Is b.tree here up
  pub here_is : shown_forest text b.allocations.texts here ≡ nodes_of d.here
  pub up_is : map (shown_open text b.allocations.texts) up ≡ map open_node d.up
