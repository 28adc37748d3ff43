use Rattle.cmark_merge.specs.Merge.{ranged_of, text_of_ranged}
use Rattle.cmark_merge.proofs.SameMerge.{merge-ok}
use Rattle.cmark_merge.proofs.laws.items_are_merged_as_their_events.Goals as goal

pub returns : goal.returns
returns c events = merge-ok text_of_ranged ranged_of events
