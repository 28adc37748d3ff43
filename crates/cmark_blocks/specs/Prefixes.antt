-- The open containers on a tree's path, and their prefixes at the beginning of a line (CommonMark 5).
use Rattle.std.specs.Prelude.{ℕ, suc, false, List, [], ◌∷◌, ◌++◌, Option, Some, None}
use Rattle.cmark_grammar.specs.Containers as grammar
use Rattle.cmark_grammar.specs.Containers.{keeps}
use Rattle.cmark_grammar.specs.Options.{Options}
use Rattle.cmark_grammar.specs.Rows.{Row}
use Rattle.cmark_tree.specs.Zip.{Level}
use Rattle.cmark_items.specs.declared.item.Item.{Item}
use Rattle.cmark_items.specs.declared.item.ItemBody.{ItemBody}
use Rattle.cmark_items.specs.declared.item.ItemBody.TheVariants as body
use Rattle.cmark_line_rules.specs.declared.container.Container.{Container}
use Rattle.cmark_line_rules.specs.declared.container.Container.TheVariants as container

-- an item with a prefix of this width. Its character, number and task marker do not matter to the lines that it keeps, so it is represented
-- as a bullet without a task marker. Likewise a block quote is represented without an alert, and a footnote definition without its label
abbrev pub item_of_width : ℕ → grammar.Container
item_of_width width = grammar.Item 45 None width None

abbrev pub shown_container : Container → grammar.Container
shown_container container.BlockQuote = grammar.BlockQuote None
shown_container (container.Item width) = item_of_width width
shown_container (container.Footnote old) = grammar.Footnote [] old 0
shown_container (container.Definition width) = grammar.ListDefinition width

-- the container that a node is: a block quote, a list item, a definition of a definition list, or a footnote definition, in the style of
-- the options. Other nodes are no containers
abbrev pub container_in : Options → ItemBody → Option grammar.Container
container_in options (body.BlockQuote kind) = Some (grammar.BlockQuote None)
container_in options (body.ListItem width) = Some (item_of_width width)
container_in options (body.DefinitionListDefinition width) = Some (grammar.ListDefinition width)
container_in options (body.FootnoteDefinition label) = Some (grammar.Footnote [] options.old_footnotes 0)
container_in options _ = None

-- the container, if there is one, before these
abbrev pub preceding : Option grammar.Container → List grammar.Container → List grammar.Container
preceding None ks = ks
preceding (Some k) ks = k ∷ ks

-- the containers among the nodes of a path, the outermost first
abbrev pub containers_of : Options → List (Level Item) → List grammar.Container
containers_of options [] = []
containers_of options (v ∷ up) = containers_of options up ++ preceding (container_in options v.place.item.body) []

-- the number of containers that keep a line, and the rest of the line after their prefixes
pub record LineKeepers : Type 0 where
  pub count : ℕ
  pub rest : Row

abbrev pub one_more : LineKeepers → LineKeepers
one_more k = record { count = suc k.count; rest = k.rest }

abbrev pub kept_if : Option Row → (Row → LineKeepers) → LineKeepers → LineKeepers
kept_if (Some s) further none = one_more (further s)
kept_if None further none = none

-- these nested containers keep the line in turn, up to the first that does not
abbrev pub kept : List grammar.Container → Row → LineKeepers
kept [] r = record { count = 0; rest = r }
kept (k ∷ ks) r = kept_if (keeps k false r) (kept ks) (record { count = 0; rest = r })
