use Rattle.cmark_scan_bytes.proofs.PipeSteps.{drops_if}
use Rattle.cmark_scan_bytes.proofs.pipes.with_literal_pipes.Goals as goal

pub returns-in_err-push_with_literal_pipes-clause-kept : goal.returns-in_err-push_with_literal_pipes-clause-kept
returns-in_err-push_with_literal_pipes-clause-kept c same = absurd (drops_if c.find_backslashes.result _ _ c.as_str.ensures c.if-is_none.ensures c.find_backslashes.ensures same)

pub returns-clause-kept : goal.returns-clause-kept
returns-clause-kept c same = absurd (drops_if c.find_backslashes.result _ _ c.as_str.ensures c.if-is_none.ensures c.find_backslashes.ensures same)
