-- Lines that are fed to the block pass.
use Rattle.std.specs.Prelude.{◌≡◌, ℕ, Bool, List, ◌∷◌, take, drop, ◌&&◌, not}
use Rattle.cmark_grammar.specs.Answers.{Lookup}
use Rattle.cmark_grammar.specs.Openings.{lazily}
use Rattle.cmark_grammar.specs.Options.{Options}
use Rattle.cmark_grammar.specs.TableRows.{table_interrupts}
use Rattle.cmark_line_rules.specs.Rests.{row_of}
use Rattle.cmark_line_rules.specs.declared.line_rest.LineRest.{LineRest}
use Rattle.cmark_block_model.specs.BlockPass.{ahead_in, line_with, line_fed, lines_fed, all_closed}
use Rattle.cmark_block_model.specs.OpenBlocks as model
use Rattle.cmark_block_model.specs.OpenBlocks.{takes_lazy}
use Rattle.cmark_blocks.specs.Ahead.{lines_at}
use Rattle.cmark_blocks.specs.declared.state.OpenLeaf.{OpenLeaf}
use Rattle.cmark_blocks.specs.declared.state.Pass.{Pass}
use Rattle.cmark_blocks.specs.Runs.{Runs, ShowsLeaf}

-- whether a lazy line may follow the open leaf
abbrev pub TakesLazy : OpenLeaf → Bool → Type 0
TakesLazy open_leaf takes = (text : List ℕ) (blanks : List LineRest) (m : model.OpenLeaf) → ShowsLeaf text open_leaf blanks m → takes ≡ takes_lazy m

module _ {E : Type 0} (replacement : E → Lookup) where
  -- whether a line that only the `kept` outermost containers keep, the first such line, continues the open leaf
  abbrev pub IsLazy : Pass E → (kept : ℕ) → LineRest → Bool → Type 0
  IsLazy pass kept rest lazy =
      (text : List ℕ) (options : Options) (lookup : Lookup) (m : model.Pass) (c : model.OpenContainer) (others : List model.OpenContainer) → drop kept m.outer ≡ c ∷ others → Runs replacement text options lookup m pass →
      lazy ≡ (lazily options c.container (row_of rest) (ahead_in text options lookup (take kept m.outer) (lines_at text (row_of rest).line_end)) && takes_lazy m.leaf)

  -- whether such a line continues the open leaf unless it is the head of a table that interrupts a paragraph
  abbrev pub MayBeLazy : Pass E → (kept : ℕ) → LineRest → Bool → Type 0
  MayBeLazy pass kept rest may =
      (text : List ℕ) (options : Options) (lookup : Lookup) (m : model.Pass) (c : model.OpenContainer) (others : List model.OpenContainer) → drop kept m.outer ≡ c ∷ others → Runs replacement text options lookup m pass →
      let ahead = ahead_in text options lookup (take kept m.outer) (lines_at text (row_of rest).line_end) in
      (lazily options c.container (row_of rest) ahead && takes_lazy m.leaf) ≡ (may && not (table_interrupts options (row_of rest) ahead))

  -- the rest of a line inside the `kept` outermost containers was fed to the pass; the others do not keep the line
  abbrev pub FeedsRest : (kept : ℕ) → LineRest → Pass E → Pass E → Type 0
  FeedsRest kept rest old new =
      (text : List ℕ) (options : Options) (lookup : Lookup) (m : model.Pass) → Runs replacement text options lookup m old →
      Runs replacement text options lookup (line_with text options lookup (drop kept m.outer) (take kept m.outer) (row_of rest) (lines_at text (row_of rest).line_end) m) new

  -- another whole line was fed to the pass
  abbrev pub Feeds : LineRest → Pass E → Pass E → Type 0
  Feeds line old new =
      (text : List ℕ) (options : Options) (lookup : Lookup) (m : model.Pass) → Runs replacement text options lookup m old →
      Runs replacement text options lookup (line_fed text options lookup (row_of line) (lines_at text (row_of line).line_end) m) new

  -- some of the lines from this place on were fed to the pass
  abbrev pub FeedsSoFar : Pass E → Pass E → Type 0
  FeedsSoFar old now =
      (text : List ℕ) (options : Options) (lookup : Lookup) (m : model.Pass) → Runs replacement text options lookup m old →
      (p : model.Pass) × Runs replacement text options lookup p now × (lines_fed text options lookup (lines_at text m.line_end) m ≡ lines_fed text options lookup (lines_at text p.line_end) p)

  -- all lines from this place on were fed to the pass
  abbrev pub FeedsAll : Pass E → Pass E → Type 0
  FeedsAll old new =
      (text : List ℕ) (options : Options) (lookup : Lookup) (m : model.Pass) → Runs replacement text options lookup m old →
      Runs replacement text options lookup (lines_fed text options lookup (lines_at text m.line_end) m) new

  -- everything was closed
  abbrev pub ClosesEverything : Pass E → Pass E → Type 0
  ClosesEverything old new =
      (text : List ℕ) (options : Options) (lookup : Lookup) (m : model.Pass) → Runs replacement text options lookup m old → Runs replacement text options lookup (all_closed text options lookup m) new
