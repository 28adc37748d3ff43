-- The open blocks of the pass, as in its model.
use Rattle.std.specs.Prelude.{◌≡◌, ℕ, List, [], ◌∷◌, Option, Some, None, option_map, ◌==◌, if◌then◌else◌}
use Rattle.cmark_items.specs.ItemNodes.{list_number}
use Rattle.cmark_line_rules.specs.Starts.{Shows}
use Rattle.cmark_block_model.specs.OpenBlocks as model
use Rattle.cmark_blocks.specs.declared.siblings.LastBlock.{LastBlock}
use Rattle.cmark_blocks.specs.declared.siblings.LastBlock.TheVariants.{Paragraph, Other}
use Rattle.cmark_blocks.specs.declared.siblings.OpenList.{OpenList}
use Rattle.cmark_blocks.specs.declared.siblings.Siblings.{Siblings}
use Rattle.cmark_blocks.specs.declared.siblings.Title.{Title}
use Rattle.cmark_blocks.specs.declared.state.OpenContainer.{OpenContainer}

abbrev pub shown_list : OpenList → model.OpenList
shown_list l = record { delimiter = l.delimiter; number = list_number l.delimiter l.number; loose = l.loose; end = l.end }

abbrev pub shown_title : Title → model.Title
shown_title t = record { list = option_map shown_list t.list; parted = t.parted }

-- the open list: none, if the last block is a paragraph
abbrev pub shown_open : LastBlock → Option OpenList → Option model.OpenList
shown_open (Paragraph parted) list = None
shown_open Other list = option_map shown_list list

-- the state before the last block, if that is a paragraph
abbrev pub shown_last : LastBlock → Option OpenList → Option model.Title
shown_last (Paragraph parted) list = Some (record { list = option_map shown_list list; parted = parted })
shown_last Other list = None

abbrev pub shown_siblings : Siblings → model.Siblings
shown_siblings s = record { has_line = s.has_line; blank = s.blank; parted = s.parted; list = shown_open s.last s.list; title = shown_last s.last s.list }

-- the list, if it has this character
abbrev pub list_of : (delimiter : ℕ) → Option model.OpenList → Option model.OpenList
list_of delimiter None = None
list_of delimiter (Some l) = if l.delimiter == delimiter then Some l else None

abbrev pub ShowsContainer : OpenContainer → model.OpenContainer → Type 0
ShowsContainer c m = Shows c.container m.container × (shown_siblings c.around ≡ m.around)

abbrev pub ShowsContainers : List OpenContainer → List model.OpenContainer → Type 0
ShowsContainers [] [] = Unit {0}
ShowsContainers [] (m ∷ ms) = ⊥
ShowsContainers (c ∷ cs) [] = ⊥
ShowsContainers (c ∷ cs) (m ∷ ms) = ShowsContainer c m × ShowsContainers cs ms
