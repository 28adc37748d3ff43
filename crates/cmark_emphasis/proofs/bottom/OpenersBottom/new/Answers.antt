use Rattle.std.proofs.Common.{refl}
use Rattle.cmark_emphasis.specs.Counts.{total_of}
use Rattle.cmark_emphasis.proofs.bottom.OpenersBottom.new.Goals as goal

pub returns-clause-total : goal.returns-clause-total
unfolding total_of
returns-clause-total c = refl
