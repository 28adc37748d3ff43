use Rattle.cmark_stream_model.proofs.SettledReadings.{unanswered-stay}
use Rattle.cmark_stream_model.proofs.laws.questions_decide_which_events_stay.Goals as goal

pub returns : goal.returns
returns c profile front tail other d e f g on stay exchanges undefined before after events alike h = unanswered-stay profile front tail d e f g other on stay exchanges undefined before after events alike h
