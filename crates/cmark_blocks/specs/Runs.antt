-- The model's state of the block pass.
use Rattle.std.specs.Prelude.{◌≡◌, ℕ, Bool, false, List, [], map, Option, None}
use Rattle.cmark_grammar.specs.Options.{Options}
use Rattle.cmark_grammar.specs.Answers.{Lookup}
use Rattle.cmark_grammar.specs.Labels.{fold}
use Rattle.cmark_grammar.specs.References.{first_with}
use Rattle.cmark_references.specs.Definitions.{reference_at}
use Rattle.cmark_builder.specs.Drawn.{Draws}
use Rattle.cmark_builder.specs.declared.builder.Builder.{Builder}
use Rattle.cmark_line_rules.specs.Rests.{row_of}
use Rattle.cmark_line_rules.specs.declared.line_rest.LineRest.{LineRest}
use Rattle.cmark_values.specs.Shown.{shown_metadata_block_kind, shown_options}
use Rattle.cmark_scan_lines.specs.HtmlLines.{kind_number}
use Rattle.cmark_grammar.specs.Leaves.{Fence}
use Rattle.cmark_leaf_nodes.specs.Stretches.{shown_waits}
use Rattle.cmark_leaf_nodes.specs.declared.stretch.Stretch.{Stretch}
use Rattle.cmark_block_model.specs.OpenBlocks as model
use Rattle.cmark_blocks.specs.declared.state.OpenLeaf.{OpenLeaf}
use Rattle.cmark_blocks.specs.declared.state.OpenLeaf.TheVariants as leaf
use Rattle.cmark_blocks.specs.declared.siblings.Siblings.{Siblings}
use Rattle.cmark_blocks.specs.declared.state.OpenContainer.{OpenContainer}
use Rattle.cmark_blocks.specs.declared.state.Pass.{Pass}
use Rattle.cmark_blocks.specs.Footnotes.{HasLabels}
use Rattle.cmark_blocks.specs.Shown.{shown_siblings, ShowsContainers}

abbrev pub IsFence : Fence → (delimiter run_length indent : ℕ) → Type 0
IsFence fence delimiter run_length indent = (fence.delimiter ≡ delimiter) × (fence.run_length ≡ run_length) × (fence.indented ≡ indent)

-- the open leaf, with the blank lines after indented code, or the earlier lines of a paragraph, if they are kept
abbrev pub ShowsLeaf : List ℕ → OpenLeaf → List LineRest → model.OpenLeaf → Type 0
ShowsLeaf text leaf.Closed blanks m = (m ≡ model.Closed) × (blanks ≡ [])
ShowsLeaf text leaf.AfterTag blanks m = (m ≡ model.AfterTag) × (blanks ≡ [])
ShowsLeaf text (leaf.Paragraph from last) lines m = m ≡ model.InParagraph (map row_of lines) from (row_of last)
ShowsLeaf text (leaf.Definition left) blanks m = (m ≡ model.InDefinition left) × (blanks ≡ [])
ShowsLeaf text (leaf.Table columns left has_delimiter) blanks m = (m ≡ model.InTable columns left has_delimiter) × (blanks ≡ [])
ShowsLeaf text (leaf.Indented waits end) blanks m = m ≡ model.InIndented (shown_waits text waits) end (map row_of blanks)
ShowsLeaf text (leaf.Fenced delimiter run_length indent waits) blanks m =
    (fence : Fence) × IsFence fence delimiter run_length indent × (m ≡ model.InFenced fence (shown_waits text waits)) × (blanks ≡ [])
ShowsLeaf text (leaf.Html kind) blanks m = (m ≡ model.InHtml (kind_number kind)) × (blanks ≡ [])
ShowsLeaf text (leaf.Metadata kind waits) blanks m = (m ≡ model.InMetadata (shown_metadata_block_kind kind) (shown_waits text waits)) × (blanks ≡ [])

-- fenced code or metadata with this stretch that waits, or HTML or a table without one
abbrev pub IsVerbatim : OpenLeaf → Option Stretch → Type 0
IsVerbatim leaf.Closed waits = ⊥
IsVerbatim leaf.AfterTag waits = ⊥
IsVerbatim (leaf.Paragraph from last) waits = ⊥
IsVerbatim (leaf.Definition left) waits = ⊥
IsVerbatim (leaf.Table columns left has_delimiter) waits = waits ≡ None
IsVerbatim (leaf.Indented others end) waits = ⊥
IsVerbatim (leaf.Fenced delimiter run_length indent others) waits = waits ≡ others
IsVerbatim (leaf.Html kind) waits = waits ≡ None
IsVerbatim (leaf.Metadata kind others) waits = waits ≡ others

module _ {E : Type 0} where
  -- a block can begin: no leaf is open, and the line is not the rest of one after an item's marker
  pub record CanBegin (pass : Pass E) : Type 0 where
    pub closed : pass.leaf ≡ leaf.Closed
    pub bare : pass.bare ≡ false

-- what a pass has, without the facts that hold of every pass
pub record State (E : Type 0) : Type 0 where
  pub text : List ℕ
  pub options : Options
  pub entities : E
  pub builder : Builder
  pub inner : Siblings
  pub outer : List OpenContainer
  pub bare : Bool
  pub leaf : OpenLeaf
  pub lines : List LineRest
  pub line_end : ℕ

abbrev pub state_of : {E : Type 0} → Pass E → State E
state_of pass = record {
  text = pass.text.now;
  options = shown_options pass.options;
  entities = pass.entities.now;
  builder = pass.builder;
  inner = pass.inner;
  outer = pass.outer.items;
  bare = pass.bare;
  leaf = pass.leaf;
  lines = pass.blank_lines.items;
  line_end = pass.line_end;
}

module _ {E : Type 0} (replacement : E → Lookup) where
  -- the pass over this text, with these options and this meaning of entity names, is in this state
  pub record RunsIn (text : List ℕ) (options : Options) (lookup : Lookup) (m : model.Pass) (pass : State E) : Type 0 where
    pub text_is : pass.text ≡ text
    pub options_is : pass.options ≡ options
    pub lookup_is : replacement pass.entities ≡ lookup
    pub drawing : Draws text pass.builder m.drawing
    pub inner : shown_siblings pass.inner ≡ m.inner
    pub outer : ShowsContainers pass.outer m.outer
    pub bare : pass.bare ≡ m.bare
    pub leaf : ShowsLeaf text pass.leaf pass.lines m.leaf
    pub line_end : pass.line_end ≡ m.line_end
    pub references : (folded : List ℕ) → reference_at pass.builder.allocations.references folded ≡ first_with fold folded m.references
    pub footnotes : HasLabels m.footnotes pass.builder.allocations.footnotes

  abbrev pub Runs : (text : List ℕ) (options : Options) (lookup : Lookup) (m : model.Pass) (pass : Pass E) → Type 0
  Runs text options lookup m pass = RunsIn text options lookup m (state_of pass)
