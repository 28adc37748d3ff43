-- The containers and the leaf that a line begins, one after the other.
use Rattle.std.specs.Prelude.{◌≡◌, ◌≤◌, ℕ, suc, Bool, true, false, List, length, unwrap_or, Option, Some, None, MatchOption}
use Rattle.cmark_grammar.specs.Answers.{Lookup}
use Rattle.cmark_grammar.specs.Containers.{Container, BlockQuote, Item, Footnote, ListDefinition, is_alert, enter}
use Rattle.cmark_grammar.specs.Leaves.{counted}
use Rattle.cmark_grammar.specs.Metadata.{metadata_kind, metadata_continuation, holds_metadata}
use Rattle.cmark_grammar.specs.MetadataBlockKind.{MetadataBlockKind}
use Rattle.cmark_grammar.specs.Openings as grammar
use Rattle.cmark_grammar.specs.Openings.{MetadataBlock, Takes, Plain, or_else, metadata_begun, opens}
use Rattle.cmark_grammar.specs.Options.{Options}
use Rattle.cmark_grammar.specs.DefinitionLists.{definition_at}
use Rattle.cmark_grammar.specs.Rows.{Row}
use Rattle.cmark_items.specs.ItemNodes.{list_number}
use Rattle.cmark_line_rules.specs.Opened.{opened}
use Rattle.cmark_line_rules.specs.Rests.{IsIn, row_of}
use Rattle.cmark_line_rules.specs.Starts.{Enters as EntersRow, HasMarker, inside_of, shown_start}
use Rattle.cmark_line_rules.specs.declared.container.ContainerStart.{ContainerStart}
use Rattle.cmark_line_rules.specs.declared.container.ContainerStart.TheVariants as begun
use Rattle.cmark_line_rules.specs.declared.line_rest.LineRest.{LineRest}
use Rattle.cmark_line_rules.specs.declared.opening.Opening.{Opening}
use Rattle.cmark_line_rules.specs.declared.opening.Opening.TheVariants as opening
use Rattle.cmark_block_model.specs.BlockPass.{ahead_in, begin, begin_as, begin_in, container_begun, is_item, paragraph_begun, place_of}
use Rattle.cmark_block_model.specs.OpenBlocks as model
use Rattle.cmark_blocks.specs.Ahead.{lines_at}
use Rattle.cmark_blocks.specs.declared.state.Pass.{Pass}
use Rattle.cmark_blocks.specs.Runs.{Runs}

-- the line begins this, if it begins no metadata
abbrev pub OpensAs : Options → Opening → Row → Type 0
OpensAs options open_as r = (ahead : List Row) → opens options r ahead ≡ or_else (metadata_begun (metadata_kind options r) ahead) (opened options open_as r ahead)

-- the metadata block that a line begins, if it begins one
abbrev pub metadata_taken : Option MetadataBlockKind → List Row → grammar.Opening
metadata_taken None ahead = Plain
metadata_taken (Some kind) ahead = Takes (MetadataBlock kind) (counted (metadata_continuation kind) ahead)

abbrev pub IsNoContainer : Opening → Type 0
IsNoContainer open_as = (start : ContainerStart) → open_as ≡ opening.Nests start → ⊥

-- the number of an item is determined by its character
abbrev pub HasNumber : ContainerStart → Type 0
HasNumber (begun.BlockQuote inside) = Unit {0}
HasNumber (begun.Item item inside) = list_number item.delimiter (unwrap_or item.number 0) ≡ item.number
HasNumber (begun.Footnote footnote inside) = Unit {0}

-- a container begins like this on a row of the text: the number of an item and the label of a footnote are as they are written, and the line
-- after the marker is the rest of the row
pub record IsStartOf (text : List ℕ) (row : Row) (start : ContainerStart) : Type 0 where
  pub number : HasNumber start
  pub marker : HasMarker row start
  pub enters : EntersRow row start
  pub placed : IsIn text (inside_of start)

-- whether nothing of a line is left to begin after a container's marker: the rest is the tag of an alert, or the paragraph after a task
-- marker
abbrev pub takes_line : Container → Bool
takes_line (BlockQuote alert) = is_alert (BlockQuote alert)
takes_line (Item delimiter number width None) = false
takes_line (Item delimiter number width (Some is_checked)) = true
takes_line (Footnote label old size) = false
takes_line (ListDefinition width) = false

-- the whole line of a container that takes it was taken
abbrev pub line_taken : List ℕ → Options → Lookup → Container → Row → model.Pass → model.Pass
line_taken text options lookup (BlockQuote alert) r p = record p { leaf = model.AfterTag }
line_taken text options lookup (Item delimiter number width task) r p = paragraph_begun text options lookup (enter (Item delimiter number width task) r) p
line_taken text options lookup (Footnote label old size) r p = p
line_taken text options lookup (ListDefinition width) r p = p

module _ {E : Type 0} (replacement : E → Lookup) where
  -- whether the lines after this line form a metadata block of this kind
  abbrev pub HoldsMetadata : Pass E → (kind : MetadataBlockKind) → LineRest → Bool → Type 0
  HoldsMetadata pass kind rest holds =
      (text : List ℕ) (options : Options) (lookup : Lookup) (m : model.Pass) → Runs replacement text options lookup m pass →
      holds ≡ holds_metadata kind (ahead_in text options lookup m.outer (lines_at text (row_of rest).line_end))

  -- whether a line begins metadata, and its kind
  abbrev pub TellsMetadata : Pass E → LineRest → Option MetadataBlockKind → Type 0
  TellsMetadata pass rest kind =
      (text : List ℕ) (options : Options) (lookup : Lookup) (m : model.Pass) → Runs replacement text options lookup m pass →
      let ahead = ahead_in text options lookup m.outer (lines_at text (row_of rest).line_end) in
      metadata_begun (metadata_kind options (row_of rest)) ahead ≡ metadata_taken kind ahead

  -- the width of the definition that a line begins, if it begins one
  abbrev pub DefinesAs : Pass E → LineRest → Option ℕ → Type 0
  DefinesAs pass rest width =
      (text : List ℕ) (options : Options) (lookup : Lookup) (m : model.Pass) → Runs replacement text options lookup m pass →
      width ≡ definition_at options (place_of m.inner) (row_of rest)

  -- the block that a line begins was begun, if it is not a container
  abbrev pub BeginsAs : Opening → (bare : Bool) → LineRest → Pass E → Pass E → Type 0
  BeginsAs open_as bare rest old new =
      (text : List ℕ) (options : Options) (lookup : Lookup) (m : model.Pass) (inside : Container → model.Pass) → Runs replacement text options lookup m old →
      let ahead = ahead_in text options lookup m.outer (lines_at text (row_of rest).line_end) in
      Runs replacement text options lookup (begin_as text options lookup (opened options open_as (row_of rest) ahead) inside (row_of rest) ahead bare m) new

  -- a container was begun on a line: with the whole line, if nothing of it is left after the marker, or else alone
  abbrev pub BeginsContainer : ContainerStart → LineRest → Option (LineRest × Bool) → Pass E → Pass E → Type 0
  BeginsContainer start rest entered old new =
      (text : List ℕ) (options : Options) (lookup : Lookup) (m : model.Pass) → Runs replacement text options lookup m old →
      let k = shown_start options (row_of rest) start in
      let p = container_begun k (row_of rest) m in
      MatchOption entered ((takes_line k ≡ true) × Runs replacement text options lookup (line_taken text options lookup k (row_of rest) p) new)
      (λ inside. (takes_line k ≡ false) × (inside.1 ≡ is_item k) × Runs replacement text options lookup p new)

  -- after the marker of a container that was begun, the rest of the line is still to be handled
  abbrev pub Enters : List ℕ → Options → Lookup → (columns : ℕ) → (bare : Bool) → LineRest → model.Pass → LineRest × Bool → Pass E → Type 0
  Enters text options lookup columns bare rest m entered new =
      (p : model.Pass) × Runs replacement text options lookup p new × ((row_of entered.0).line_end ≡ (row_of rest).line_end)
      × (begin_in text options lookup (suc columns) (place_of m.inner) (row_of rest) (lines_at text (row_of rest).line_end) bare m
      ≡ begin_in text options lookup columns (place_of p.inner) (row_of entered.0) (lines_at text (row_of entered.0).line_end) entered.1 p)

  -- the first block of a line was begun, if at most these columns are left of the line
  abbrev pub BeginsFirst : (bare : Bool) → LineRest → Option (LineRest × Bool) → Pass E → Pass E → Type 0
  BeginsFirst bare rest entered old new =
      (text : List ℕ) (options : Options) (lookup : Lookup) (columns : ℕ) (m : model.Pass) → length (row_of rest).columns ≤ columns → Runs replacement text options lookup m old →
      MatchOption entered (Runs replacement text options lookup (begin_in text options lookup (suc columns) (place_of m.inner) (row_of rest) (lines_at text (row_of rest).line_end) bare m) new)
      (λ inside. Enters text options lookup columns bare rest m inside new)

  -- some of the containers that a line begins were begun; the rest of the line is still to be handled
  abbrev pub BeginsSoFar : LineRest → (bare : Bool) → LineRest → Pass E → Pass E → Type 0
  BeginsSoFar line bare rest old now =
      (text : List ℕ) (options : Options) (lookup : Lookup) (m : model.Pass) → Runs replacement text options lookup m old →
      (columns : ℕ) × (p : model.Pass) × (length (row_of rest).columns ≤ columns) × Runs replacement text options lookup p now
      × (begin text options lookup (row_of line) (lines_at text (row_of line).line_end) m ≡ begin_in text options lookup (suc columns) (place_of p.inner) (row_of rest) (lines_at text (row_of rest).line_end) bare p)
