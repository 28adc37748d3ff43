-- The number of containers that keep a line.
use Rattle.std.specs.Prelude.{◌≡◌, ◌≤◌, ℕ, Bool, false, List, [], take, drop}
use Rattle.cmark_grammar.specs.Answers.{Lookup}
use Rattle.cmark_grammar.specs.Options.{Options}
use Rattle.cmark_grammar.specs.Rows.{without}
use Rattle.cmark_line_rules.specs.Rests.{row_of}
use Rattle.cmark_line_rules.specs.declared.line_rest.LineRest.{LineRest}
use Rattle.cmark_block_model.specs.BlockPass.{kept_by}
use Rattle.cmark_block_model.specs.OpenBlocks as model
use Rattle.cmark_blocks.specs.declared.state.Pass.{Pass}
use Rattle.cmark_blocks.specs.Runs.{Runs}

-- this is the rest of the line after some of its columns, held by a container without a prefix or not
abbrev pub IsAfter : LineRest → LineRest → Type 0
IsAfter line rest = (n : ℕ) × ((held : Bool) × (record (without n (row_of line)) { held = held } ≡ row_of rest))

module _ {E : Type 0} where
  -- the containers from this index on keep an empty line, and nothing is left of this line
  pub record KeepsEmptyRest (pass : Pass E) (index : ℕ) (rest : LineRest) : Type 0 where
    pub strict : pass.strict ≤ index
    pub bare : pass.bare ≡ false
    pub columns : (row_of rest).columns ≡ []

module _ {E : Type 0} (replacement : E → Lookup) where
  -- this many containers keep the line, and this is the rest of it
  abbrev pub KeepsOf : Pass E → LineRest → ℕ → LineRest → Type 0
  KeepsOf pass line kept rest =
      (text : List ℕ) (options : Options) (lookup : Lookup) (m : model.Pass) → Runs replacement text options lookup m pass →
      kept_by text options lookup [] m.outer m.bare (row_of line) ≡ record { kept = take kept m.outer; missed = drop kept m.outer; left = row_of rest }

  -- this many containers keep it; for the others it is not known yet
  abbrev pub KeepsSoFar : Pass E → LineRest → ℕ → LineRest → Type 0
  KeepsSoFar pass line kept rest =
      (text : List ℕ) (options : Options) (lookup : Lookup) (m : model.Pass) → Runs replacement text options lookup m pass →
      kept_by text options lookup [] m.outer m.bare (row_of line) ≡ kept_by text options lookup (take kept m.outer) (drop kept m.outer) m.bare (row_of rest)
