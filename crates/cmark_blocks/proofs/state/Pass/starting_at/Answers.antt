use Rattle.cmark_blocks.proofs.EmptySteps.{keep-nothing}
use Rattle.cmark_blocks.proofs.OldFootnoteSteps.{no-runs}
use Rattle.cmark_blocks.proofs.SetextSteps.{read-none}
use Rattle.cmark_blocks.proofs.state.Pass.starting_at.Goals as goal

pub invariant_of-result : goal.invariant_of-result
invariant_of-result g c = record {
  begins = c.requires.begins;
  lines = read-none _ _ c.new-3.ensures.items;
  last = tt;
  empties = keep-nothing _ 0 c.new.ensures.items;
  footnotes = no-runs _ 0 _ c.new-2.ensures.items;
}
