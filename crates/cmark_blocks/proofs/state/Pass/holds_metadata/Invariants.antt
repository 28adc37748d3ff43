use Rattle.std.proofs.Common.{◌≡◌, ◌-◌, ℕ, List, length}
use Rattle.cmark_grammar.specs.Answers.{Lookup}
use Rattle.cmark_grammar.specs.Metadata.{is_ended, holds_metadata}
use Rattle.cmark_grammar.specs.Options.{Options}
use Rattle.cmark_values.specs.Shown.{shown_metadata_block_kind}
use Rattle.cmark_line_rules.specs.Rests.{row_of, IsIn}
use Rattle.cmark_block_model.specs.BlockPass.{ahead_in}
use Rattle.cmark_block_model.specs.OpenBlocks as model
use Rattle.cmark_blocks.specs.Ahead.{lines_at}
use Rattle.cmark_blocks.specs.Runs.{Runs}
use Rattle.cmark_blocks.proofs.state.Pass.holds_metadata.Given as goal

abbrev pub invariant-loop-next : goal.invariant-loop-next
invariant-loop-next g l =
    IsIn l.self.text.now l.last
    × ((text : List ℕ) (options : Options) (lookup : Lookup) (m : model.Pass) → Runs g.E.EntityLookup.replacement text options lookup m l.self →
    holds_metadata (shown_metadata_block_kind l.kind) (ahead_in text options lookup m.outer (lines_at text (row_of l.rest).line_end))
    ≡ is_ended (shown_metadata_block_kind l.kind) (ahead_in text options lookup m.outer (lines_at text (row_of l.last).line_end)))

abbrev pub decreases-loop-next : goal.decreases-loop-next
decreases-loop-next g l = length l.self.text.now - (row_of l.last).line_end
