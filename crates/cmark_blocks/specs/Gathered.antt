-- The text of a paragraph that may begin with link reference definitions, read line by line (CommonMark 4.7).
use Rattle.std.specs.Prelude.{◌≡◌, ℕ, ◌≤◌, ◌<◌, Bool, true, false, List, [], ◌∷◌, ◌++◌, length, string_bytes, option_map}
use Rattle.cmark_grammar.specs.Answers.{Lookup}
use Rattle.cmark_grammar.specs.LinkDefinitions.{further_bytes, bytes_over, definition_in}
use Rattle.cmark_grammar.specs.Openings.{text_lines}
use Rattle.cmark_grammar.specs.Options.{Options}
use Rattle.cmark_grammar.specs.Rows.{Row}
use Rattle.cmark_link_definitions.specs.Settled.{defined_before}
use Rattle.cmark_line_rules.specs.Rests.{row_of}
use Rattle.cmark_line_rules.specs.declared.line_rest.LineRest.{LineRest}
use Rattle.cmark_block_model.specs.BlockPass.{ahead_in}
use Rattle.cmark_block_model.specs.OpenBlocks as model
use Rattle.cmark_blocks.specs.declared.state.Pass.{Pass}
use Rattle.cmark_blocks.specs.declared.gathered.Gathered.{Gathered}
use Rattle.cmark_blocks.specs.Ahead.{lines_at}
use Rattle.cmark_blocks.specs.Runs.{Runs}
use Rattle.cmark_leaf_nodes.specs.TextColumns.{IsRead}

-- the last of these lines
abbrev pub last_of : Row → List Row → Row
last_of first [] = first
last_of first (r ∷ more) = last_of r more

-- the facts that do not depend on the containers: the last line is part of the text, and each line after the first has at least one byte
pub record IsGathered (text : List ℕ) (gathered : Gathered) : Type 0 where
  pub read : IsRead text gathered.last
  pub few : gathered.lines ≤ (row_of gathered.last).line_end

module _ (text : List ℕ) (options : Options) (lookup : Lookup) (m : model.Pass) where
  -- the lines from a place on that continue a paragraph inside the open containers
  abbrev pub texts_at : ℕ → List Row
  texts_at at = text_lines options (ahead_in text options lookup m.outer (lines_at text at))

  -- the text of the first line and of some lines after it, up to the last one, was gathered
  pub record Holds (first : LineRest) (gathered : Gathered) : Type 0 where
    pub lines : List Row
    pub ahead : texts_at (row_of first).line_end ≡ lines ++ texts_at (row_of gathered.last).line_end
    pub bytes : string_bytes gathered.text ≡ bytes_over (row_of first) lines
    pub count : length lines ≡ gathered.lines
    pub last : last_of (row_of first) lines ≡ row_of gathered.last

module _ {E : Type 0} (replacement : E → Lookup) where
  -- the text of a paragraph that this line may begin was gathered up to some line
  abbrev pub Gathers : Pass E → LineRest → Gathered → Type 0
  Gathers pass first gathered = (text : List ℕ) (options : Options) (lookup : Lookup) (m : model.Pass) → Runs replacement text options lookup m pass → Holds text options lookup m first gathered

  -- no further line continues the paragraph
  abbrev pub IsWhole : Pass E → Gathered → Type 0
  IsWhole pass gathered =
      (text : List ℕ) (options : Options) (lookup : Lookup) (m : model.Pass) → Runs replacement text options lookup m pass → texts_at text options lookup m (row_of gathered.last).line_end ≡ []

  -- at least one further line was gathered, or else no line is left
  abbrev pub GathersMore : Pass E → Gathered → (more : Bool) → Gathered → Type 0
  GathersMore pass old true new = ((first : LineRest) → Gathers pass first old → Gathers pass first new) × ((row_of old.last).line_end < (row_of new.last).line_end)
  GathersMore pass old false new = ((first : LineRest) → Gathers pass first old → Gathers pass first new) × IsWhole pass new

  -- the definition at the beginning of the gathered text is also at the beginning of the paragraph's whole text, and if there is none, the
  -- whole text has none
  abbrev pub Decides : Pass E → Gathered → Type 0
  Decides pass gathered =
      (text : List ℕ) (options : Options) (lookup : Lookup) (m : model.Pass) → Runs replacement text options lookup m pass →
      let following = further_bytes (row_of gathered.last) (texts_at text options lookup m (row_of gathered.last).line_end) in
      definition_in (string_bytes gathered.text ++ following) ≡ option_map (defined_before following) (definition_in (string_bytes gathered.text))
