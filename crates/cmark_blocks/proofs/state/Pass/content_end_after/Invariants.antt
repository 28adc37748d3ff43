use Rattle.std.proofs.Common.{◌≡◌, List, ℕ, take}
use Rattle.cmark_grammar.specs.Answers.{Lookup}
use Rattle.cmark_grammar.specs.Derivation.{last_content_end}
use Rattle.cmark_grammar.specs.Options.{Options}
use Rattle.cmark_line_rules.specs.Rests.{row_of, IsIn}
use Rattle.cmark_block_model.specs.OpenBlocks as model
use Rattle.cmark_blocks.specs.Gathered.{texts_at}
use Rattle.cmark_blocks.specs.Runs.{Runs}
use Rattle.cmark_blocks.proofs.state.Pass.content_end_after.Given as goal

abbrev pub invariant-loop-left : goal.invariant-loop-left
invariant-loop-left g l =
    IsIn l.self.text.now l.last
    × ((text : List ℕ) (options : Options) (lookup : Lookup) (m : model.Pass) → Runs g.E.EntityLookup.replacement text options lookup m l.self →
    last_content_end (row_of l.last) (take l.left (texts_at text options lookup m (row_of l.last).line_end)) ≡ last_content_end (row_of l.rest) (take l.more (texts_at text options lookup m (row_of l.rest).line_end)))

abbrev pub decreases-loop-left : goal.decreases-loop-left
decreases-loop-left g l = l.left
