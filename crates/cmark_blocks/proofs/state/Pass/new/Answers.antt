use Rattle.std.proofs.lemmas.Str.{IsCharBoundary-start}
use Rattle.cmark_blocks.proofs.EmptySteps.{keep-nothing}
use Rattle.cmark_blocks.proofs.OldFootnoteSteps.{no-runs}
use Rattle.cmark_blocks.proofs.SetextSteps.{read-none}
use Rattle.cmark_blocks.proofs.state.Pass.new.Goals as goal

pub invariant_of-result : goal.invariant_of-result
invariant_of-result g c = record {
  begins = IsCharBoundary-start c.args.text.now c.utf8.text;
  lines = read-none _ _ c.new-4.ensures.items;
  last = tt;
  empties = keep-nothing _ 0 c.new-2.ensures.items;
  footnotes = no-runs _ 0 _ c.new-3.ensures.items;
}
