use Rattle.cmark_stream_model.proofs.PlannedReadings.{readings-share-planned}
use Rattle.cmark_stream_model.proofs.laws.readings_by_a_plan_share_the_settled_events.Goals as goal

pub returns : goal.returns
returns c = readings-share-planned
