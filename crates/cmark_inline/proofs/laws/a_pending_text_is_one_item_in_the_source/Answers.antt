use Rattle.cmark_inline.proofs.PendingTexts.{pending-token, pending-like}
use Rattle.cmark_inline.proofs.laws.a_pending_text_is_one_item_in_the_source.Goals as goal

pub returns-clause-token : goal.returns-clause-token
returns-clause-token c = pending-token

pub returns-clause-slot : goal.returns-clause-slot
returns-clause-slot c = pending-like
