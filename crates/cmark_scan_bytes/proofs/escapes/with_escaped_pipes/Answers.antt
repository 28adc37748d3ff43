use Rattle.cmark_scan_bytes.proofs.Unescaping.{no_pipe_if, pipe_if}
use Rattle.cmark_scan_bytes.proofs.escapes.with_escaped_pipes.Goals as goal

pub returns-then-is_none-clause-value : goal.returns-then-is_none-clause-value
returns-then-is_none-clause-value c = no_pipe_if c.find_escaped_pipe.result _ _ c.as_str.ensures c.if-is_none.ensures c.find_escaped_pipe.ensures

pub returns-in_err-push_with_escaped_pipes-clause-kept : goal.returns-in_err-push_with_escaped_pipes-clause-kept
returns-in_err-push_with_escaped_pipes-clause-kept c = λ lookup none. absurd (pipe_if lookup c.find_escaped_pipe.result _ _ c.as_str.ensures c.if-is_none.ensures c.find_escaped_pipe.ensures none)

pub returns-clause-kept : goal.returns-clause-kept
returns-clause-kept c = λ lookup none. absurd (pipe_if lookup c.find_escaped_pipe.result _ _ c.as_str.ensures c.if-is_none.ensures c.find_escaped_pipe.ensures none)
