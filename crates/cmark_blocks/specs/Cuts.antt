-- Where the block pass finds cuts: whether a line begins a block outside of all open ones, and what the search for cuts keeps.
use Rattle.std.specs.Prelude.{◌≡◌, ℕ, Bool, true, false, ◌==◌, ◌&&◌, not, List, [], ◌∷◌, Option, Some, None}
use Rattle.cmark_grammar.specs.Answers.{Lookup}
use Rattle.cmark_grammar.specs.Containers.{keeps}
use Rattle.cmark_grammar.specs.HtmlBlocks.{html_continuation}
use Rattle.cmark_grammar.specs.Leaves.{Continuation, GoesOn, Closes, Waits, Stops, underlines, code_continuation}
use Rattle.cmark_grammar.specs.Openings.{is_none, texts, lazily}
use Rattle.cmark_grammar.specs.Options.{Options}
use Rattle.cmark_grammar.specs.Rows.{Row}
use Rattle.cmark_line_rules.specs.Rests.{row_of}
use Rattle.cmark_line_rules.specs.declared.line_rest.LineRest.{LineRest}
use Rattle.cmark_line_rules.specs.declared.opening.Opening.{Opening}
use Rattle.cmark_line_rules.specs.declared.opening.Opening.TheVariants as opening
use Rattle.cmark_line_rules.specs.declared.container.ContainerStart.TheVariants as start
use Rattle.cmark_values.specs.Shown.{shown_options, shown_metadata_block_kind}
use Rattle.cmark_block_model.specs.BlockPass.{is_last, is_row}
use Rattle.cmark_block_model.specs.Tails.{starting_at}
use Rattle.cmark_block_model.specs.OpenBlocks as model
use Rattle.cmark_block_model.specs.OpenBlocks.{Closed, AfterTag, InParagraph, InDefinition, InIndented, InFenced, InHtml, InMetadata, InTable, takes_lazy}
use Rattle.cmark_blocks.specs.Ahead.{lines_at}
use Rattle.cmark_blocks.specs.Runs.{Runs, ShowsLeaf}
use Rattle.cmark_blocks.specs.declared.state.OpenLeaf.{OpenLeaf}
use Rattle.cmark_blocks.specs.declared.state.Pass.{Pass}
use Rattle.cmark_blocks.specs.declared.undecided.Undecided.{Undecided}
use Rattle.cmark_blocks.specs.declared.undecided.Undecided.TheVariants as state
use Rattle.cmark_stream_model.specs.Undecided as undecided

abbrev pub stops : Continuation → Bool
stops GoesOn = false
stops Closes = false
stops Waits = false
stops Stops = true

-- the line begins no item of a list, if it begins a block
abbrev pub is_outside : Opening → Bool
is_outside opening.Blank = false
is_outside (opening.Nests (start.BlockQuote rest)) = true
is_outside (opening.Nests (start.Item item rest)) = false
is_outside (opening.Nests (start.Footnote footnote rest)) = true
is_outside opening.IndentedCode = true
is_outside (opening.Html kind) = true
is_outside opening.ThematicBreak = true
is_outside (opening.AtxHeading level) = true
is_outside (opening.FencedCode indent fence) = true
is_outside opening.Bracket = true
is_outside opening.Plain = true

-- the line begins a block that continues no list; if there are titles, a paragraph may continue one
abbrev pub is_apart : (titles : Bool) → Opening → Bool
is_apart titles opening.Blank = false
is_apart titles (opening.Nests (start.BlockQuote rest)) = true
is_apart titles (opening.Nests (start.Item item rest)) = false
is_apart titles (opening.Nests (start.Footnote footnote rest)) = true
is_apart titles opening.IndentedCode = true
is_apart titles (opening.Html kind) = true
is_apart titles opening.ThematicBreak = true
is_apart titles (opening.AtxHeading level) = true
is_apart titles (opening.FencedCode indent fence) = true
is_apart titles opening.Bracket = not titles
is_apart titles opening.Plain = not titles

-- what the search leaves undecided about metadata
abbrev pub shown_undecided : Undecided → undecided.Undecided
shown_undecided state.Nothing = undecided.Nothing
shown_undecided (state.Begun kind) = undecided.Begun (shown_metadata_block_kind kind)
shown_undecided (state.Open kind) = undecided.Open (shown_metadata_block_kind kind)
shown_undecided state.Forever = undecided.Forever

abbrev pub is_missed : Option Row → Bool
is_missed (Some r) = false
is_missed None = true

-- whether a line that lacks no prefix ends the open leaf, or no leaf is open; an open paragraph ends `by` the line
abbrev pub ends_leaf : Options → (by : Bool) → model.OpenLeaf → Row → Bool
ends_leaf options by Closed r = true
ends_leaf options by AfterTag r = false
ends_leaf options by (InParagraph before from last) r = by
ends_leaf options by (InDefinition left) r = left == 0
ends_leaf options by (InTable columns left has_delimiter) r = has_delimiter && not (is_row options columns left r)
ends_leaf options by (InIndented waits end blank) r = stops (code_continuation r)
ends_leaf options by (InFenced fence waits) r = false
ends_leaf options by (InHtml kind) r = stops (html_continuation kind r)
ends_leaf options by (InMetadata kind waits) r = false

module _ (text : List ℕ) (options : Options) (lookup : Lookup) where
  -- whether a line that lacks no prefix ends an open paragraph, and is no underline of it
  abbrev pub ends_paragraph : Row → (ahead : List Row) → Bool
  ends_paragraph r ahead = is_none (underlines r) && not (texts options r ahead)

  -- whether a line continues no open block, with these containers around the open leaf
  abbrev pub ends_outer : (outer : List model.OpenContainer) → (bare : Bool) → model.OpenLeaf → Row → (ahead : List Row) → Bool
  ends_outer [] bare leaf r ahead = ends_leaf options (ends_paragraph r ahead) leaf r
  ends_outer (c ∷ cs) bare leaf r ahead =
      is_missed (keeps c.container (bare && is_last text options lookup cs) r) && not (lazily options c.container r ahead && takes_lazy leaf)

  -- whether a line continues no open block of the pass
  abbrev pub ends_all : model.Pass → Row → (ahead : List Row) → Bool
  ends_all m r ahead = ends_outer m.outer m.bare m.leaf r ahead

-- whether a line that lacks no prefix ends the open leaf
abbrev pub EndsLeaf : Options → OpenLeaf → (by : Bool) → LineRest → Bool → Type 0
EndsLeaf options open_leaf by line ends =
    (text : List ℕ) (blanks : List LineRest) (m : model.OpenLeaf) → ShowsLeaf text open_leaf blanks m → ends ≡ ends_leaf options by m (row_of line)

module _ {E : Type 0} (replacement : E → Lookup) where
  -- what is true of a line and the lines ahead, for each state of the model
  abbrev pub Tells : Pass E → LineRest → Bool → ((text : List ℕ) → (options : Options) → (lookup : Lookup) → model.Pass → Row → (ahead : List Row) → Bool) → Type 0
  Tells pass line told fact =
      (text : List ℕ) (options : Options) (lookup : Lookup) (m : model.Pass) → Runs replacement text options lookup m pass
      → told ≡ fact text options lookup m (row_of line) (lines_at text (row_of line).line_end)

  -- the pass is before the line at this offset, and has read none of the lines before it
  abbrev pub StartsAt : (from : ℕ) → Pass E → Type 0
  StartsAt from pass = Runs replacement pass.text.now (shown_options pass.options) (replacement pass.entities.now) (starting_at from [] []) pass
