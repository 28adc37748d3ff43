use Rattle.cmark_scan_bytes.proofs.PipeEscapes.{changes_if}
use Rattle.cmark_scan_bytes.proofs.pipes.without_pipe_escapes.Goals as goal

pub returns-in_err-push_without_pipe_escapes-clause-kept : goal.returns-in_err-push_without_pipe_escapes-clause-kept
returns-in_err-push_without_pipe_escapes-clause-kept c same = absurd (changes_if c.find_pipe_escape.result _ _ c.as_str.ensures c.if-is_none.ensures c.find_pipe_escape.ensures same)

pub returns-clause-kept : goal.returns-clause-kept
returns-clause-kept c same = absurd (changes_if c.find_pipe_escape.result _ _ c.as_str.ensures c.if-is_none.ensures c.find_pipe_escape.ensures same)
