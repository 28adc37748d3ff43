-- Cuts that stay, whatever follows in a text that grows.
use Rattle.std.specs.Prelude.{◌≡◌, ◌⊎◌, ◌≤◌, ℕ, true, false, None, List, [], ◌∷◌, ◌++◌, length, take, drop}
use Rattle.cmark_grammar.specs.Answers.{Lookup}
use Rattle.cmark_grammar.specs.DefinitionLists.{begins_definition}
use Rattle.cmark_grammar.specs.Lines.{lines}
use Rattle.cmark_grammar.specs.Openings.{opens_at}
use Rattle.cmark_grammar.specs.Options.{Options}
use Rattle.cmark_grammar.specs.Places.{Apart}
use Rattle.cmark_grammar.specs.Rows.{Row, row_at, rows}
use Rattle.cmark_grammar.specs.Blocks.{Nil}
use Rattle.cmark_block_model.specs.BlocksByLine.{Between}
use Rattle.cmark_stream_model.specs.Growth.{ends_whole, is_blank, fed_before, open_after, blocks_at, Parts, last_list, may_continue}
use Rattle.cmark_stream_model.specs.Tails.{IsJoinedAt}

-- These bytes begin with this line and have a byte after it. So the line has its whole line ending, and no further text changes it
pub record BeginsWithLine (bytes line : List ℕ) : Type 0 where
  pub next : ℕ
  pub rest : List ℕ
  pub are : bytes ≡ line ++ (next ∷ rest)
  pub one : lines line ≡ line ∷ []
  pub whole : ends_whole line (next ∷ rest) ≡ true

module _ (options : Options) where
  -- whatever follows the text, its document is joined at this offset
  abbrev pub StaysJoinedAt : (text : List ℕ) → (at : ℕ) → Type 0
  StaysJoinedAt text at = (lookup : Lookup) (more : List ℕ) → IsJoinedAt options lookup (text ++ more) at

  -- The text has a cut at this offset, whatever follows the text. The line there is complete and has no definition's marker. The lines before it
  -- have the same effect whatever lines follow them. Whatever lines are ahead, the line continues no open block, is not blank, and continues no
  -- list
  pub record IsSettledCut (text : List ℕ) (at : ℕ) : Type 0 where
    pub line : List ℕ
    pub unmarked : begins_definition options (row_at at line) ≡ false
    pub within : at ≤ length text
    pub apart : ends_whole (take at text) (drop at text) ≡ true
    pub complete : BeginsWithLine (drop at text) line
    pub settled : (following : List Row) → fed_before options following (Between Nil) (rows (take at text)) ≡ open_after options (take at text)
    pub parts : (ahead : List Row) → Parts options (open_after options (take at text)) (row_at at line) ahead
    pub begins : (ahead : List Row) → is_blank (opens_at options Apart (row_at at line) ahead) ≡ false
    pub ends_list : (ahead : List Row) → may_continue options.definition_list (last_list None (blocks_at options 0 (take at text))) (opens_at options Apart (row_at at line) ahead) ≡ false

  -- the offset is the beginning of the text or a settled cut of it
  abbrev pub IsSettledAt : (text : List ℕ) → (at : ℕ) → Type 0
  IsSettledAt text at = (at ≡ 0) ⊎ IsSettledCut text at
