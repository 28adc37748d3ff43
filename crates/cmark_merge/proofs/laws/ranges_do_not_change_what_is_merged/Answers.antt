use Rattle.cmark_merge.proofs.SameMerge.{merge-events}
use Rattle.cmark_merge.proofs.laws.ranges_do_not_change_what_is_merged.Goals as goal

pub returns : goal.returns
returns c events = merge-events events
