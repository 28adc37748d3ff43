-- The lines ahead, seen from inside the open containers.
use Rattle.std.specs.Prelude.{◌≡◌, ℕ, List, [], ◌∷◌, Option, MatchOption, take, drop}
use Rattle.cmark_grammar.specs.Answers.{Lookup}
use Rattle.cmark_grammar.specs.Lines.{lines}
use Rattle.cmark_grammar.specs.Options.{Options}
use Rattle.cmark_grammar.specs.Rows.{Row, rows_from}
use Rattle.cmark_grammar.specs.Openings.{text_lines}
use Rattle.cmark_line_rules.specs.Rests.{row_of}
use Rattle.cmark_line_rules.specs.declared.line_rest.LineRest.{LineRest}
use Rattle.cmark_block_model.specs.BlockPass.{ahead_in}
use Rattle.cmark_block_model.specs.OpenBlocks as model
use Rattle.cmark_blocks.specs.declared.state.Pass.{Pass}
use Rattle.cmark_blocks.specs.Runs.{Runs}

-- the whole lines of a text from this place on
abbrev pub lines_at : List ℕ → ℕ → List Row
lines_at text at = rows_from at (lines (drop at text))

module _ {E : Type 0} (replacement : E → Lookup) where
  -- the line, with others after it, is this line inside the containers; if not all of them keep it, the result is `None`
  abbrev pub SeenInside : Pass E → LineRest → Option LineRest → Type 0
  SeenInside pass line seen =
      (text : List ℕ) (options : Options) (lookup : Lookup) (m : model.Pass) (more : List Row) → Runs replacement text options lookup m pass →
      MatchOption seen (ahead_in text options lookup m.outer (row_of line ∷ more) ≡ [])
      (λ rest. ((row_of rest).line_end ≡ (row_of line).line_end) × (ahead_in text options lookup m.outer (row_of line ∷ more) ≡ row_of rest ∷ ahead_in text options lookup m.outer more))

  -- the line is this one inside the `count` outermost containers; if not all of them keep it, the result is `None`
  abbrev pub SeenInsideFirst : Pass E → (count : ℕ) → LineRest → Option LineRest → Type 0
  SeenInsideFirst pass count line seen =
      (text : List ℕ) (options : Options) (lookup : Lookup) (m : model.Pass) (more : List Row) → Runs replacement text options lookup m pass →
      let inside = ahead_in text options lookup (take count m.outer) in
      MatchOption seen (inside (row_of line ∷ more) ≡ []) (λ rest. ((row_of rest).line_end ≡ (row_of line).line_end) × (inside (row_of line ∷ more) ≡ row_of rest ∷ inside more))

  abbrev pub SeesNextInside : Pass E → (count : ℕ) → LineRest → Option LineRest → Type 0
  SeesNextInside pass count last next =
      (text : List ℕ) (options : Options) (lookup : Lookup) (m : model.Pass) → Runs replacement text options lookup m pass →
      let lines_from = λ (at : ℕ). ahead_in text options lookup (take count m.outer) (lines_at text at) in
      MatchOption next (lines_from (row_of last).line_end ≡ []) (λ rest. lines_from (row_of last).line_end ≡ row_of rest ∷ lines_from (row_of rest).line_end)

  -- the line after this one is that line inside the containers; `None` if there is no line or not all of the containers keep it
  abbrev pub SeesNext : Pass E → LineRest → Option LineRest → Type 0
  SeesNext pass last next =
      (text : List ℕ) (options : Options) (lookup : Lookup) (m : model.Pass) → Runs replacement text options lookup m pass →
      let lines_from = λ (at : ℕ). ahead_in text options lookup m.outer (lines_at text at) in
      MatchOption next (lines_from (row_of last).line_end ≡ []) (λ rest. lines_from (row_of last).line_end ≡ row_of rest ∷ lines_from (row_of rest).line_end)

  -- the paragraph of this line continues with that one, or ends
  abbrev pub GoesOnWith : Pass E → LineRest → Option LineRest → Type 0
  GoesOnWith pass last next =
      (text : List ℕ) (options : Options) (lookup : Lookup) (m : model.Pass) → Runs replacement text options lookup m pass →
      let texts_at = λ (at : ℕ). text_lines options (ahead_in text options lookup m.outer (lines_at text at)) in
      MatchOption next (texts_at (row_of last).line_end ≡ []) (λ rest. texts_at (row_of last).line_end ≡ row_of rest ∷ texts_at (row_of rest).line_end)
