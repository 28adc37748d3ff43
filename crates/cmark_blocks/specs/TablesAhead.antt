-- The heads of tables, which the next line tells (GFM 4.10).
use Rattle.std.specs.Prelude.{◌≡◌, ℕ, Bool, ◌||◌, List, ◌∷◌, length, take, Option, Some, None, MatchOption}
use Rattle.cmark_grammar.specs.Answers.{Lookup}
use Rattle.cmark_grammar.specs.DefinitionLists.{begins_definition}
use Rattle.cmark_grammar.specs.Openings.{Table}
use Rattle.cmark_grammar.specs.Options.{Options}
use Rattle.cmark_grammar.specs.Rows.{Row, words_of}
use Rattle.cmark_grammar.specs.TableRows.{table_head, table_interrupts}
use Rattle.cmark_grammar.specs.Tables.{delimiter_row}
use Rattle.cmark_items.specs.ItemNodes.{columns_of}
use Rattle.cmark_line_rules.specs.Rests.{row_of}
use Rattle.cmark_line_rules.specs.declared.line_rest.LineRest.{LineRest}
use Rattle.cmark_block_model.specs.BlockPass.{ahead_in, leaf_begun}
use Rattle.cmark_block_model.specs.OpenBlocks as model
use Rattle.cmark_blocks.specs.Ahead.{lines_at}
use Rattle.cmark_blocks.specs.declared.state.Pass.{Pass}
use Rattle.cmark_blocks.specs.declared.table.TableHead.{TableHead}
use Rattle.cmark_blocks.specs.Runs.{Runs}

-- whether a line interrupts a paragraph as the head of a table, or by a definition's marker
abbrev pub block_interrupts : Options → Row → List Row → Bool
block_interrupts options r ahead = table_interrupts options r ahead || begins_definition options r

-- a line is the head of a table with `columns` columns, and that line is its delimiter row
pub record IsHead (options : Options) (head : Row) (ahead : List Row) (columns : ℕ) (delimiter : Row) (following : List Row) : Type 0 where
  pub next : ahead ≡ delimiter ∷ following
  pub is : table_head options head ahead ≡ Some (columns_of (delimiter_row (words_of delimiter)))
  pub many : length (columns_of (delimiter_row (words_of delimiter))) ≡ columns

module _ {E : Type 0} (replacement : E → Lookup) where
  -- whether a line is the head of a table, if it and the lines ahead are seen from inside `count` containers
  abbrev pub TellsHead : Pass E → (count : ℕ) → LineRest → Option TableHead → Type 0
  TellsHead pass count rest found =
      (text : List ℕ) (options : Options) (lookup : Lookup) (m : model.Pass) → Runs replacement text options lookup m pass →
      let lines_from = λ (at : ℕ). ahead_in text options lookup (take count m.outer) (lines_at text at) in
      MatchOption found (table_head options (row_of rest) (lines_from (row_of rest).line_end) ≡ None)
      (λ head. IsHead options (row_of rest) (lines_from (row_of rest).line_end) head.columns (row_of head.delimiter) (lines_from (row_of head.delimiter).line_end))

  -- whether a line begins a table that interrupts a paragraph
  abbrev pub TellsInterrupts : Pass E → (count : ℕ) → LineRest → Bool → Type 0
  TellsInterrupts pass count rest interrupts =
      (text : List ℕ) (options : Options) (lookup : Lookup) (m : model.Pass) → Runs replacement text options lookup m pass →
      interrupts ≡ table_interrupts options (row_of rest) (ahead_in text options lookup (take count m.outer) (lines_at text (row_of rest).line_end))

  -- whether a line interrupts a paragraph as a table or as a definition
  abbrev pub TellsBlock : Pass E → (count : ℕ) → LineRest → Bool → Type 0
  TellsBlock pass count rest interrupts =
      (text : List ℕ) (options : Options) (lookup : Lookup) (m : model.Pass) → Runs replacement text options lookup m pass →
      interrupts ≡ block_interrupts options (row_of rest) (ahead_in text options lookup (take count m.outer) (lines_at text (row_of rest).line_end))

  -- a table was begun with this head on its line, whatever lines are ahead
  abbrev pub BeginsTable : TableHead → LineRest → Pass E → Pass E → Type 0
  BeginsTable head rest old new =
      (text : List ℕ) (options : Options) (lookup : Lookup) (m : model.Pass) (more : ℕ) (ahead : List Row) → Runs replacement text options lookup m old →
      let alignments = columns_of (delimiter_row (words_of (row_of head.delimiter))) in
      length alignments ≡ head.columns → Runs replacement text options lookup (leaf_begun text options lookup (Table alignments) more (row_of rest) ahead m) new
