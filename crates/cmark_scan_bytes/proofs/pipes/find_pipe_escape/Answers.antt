use Rattle.cmark_scan_bytes.proofs.PipeEscapes.{finds_escape}
use Rattle.cmark_scan_bytes.proofs.pipes.find_pipe_escape.Goals as goal

pub returns : goal.returns
returns c = finds_escape c.find.result c.as_bytes.result.now c.args.text.now c.as_bytes.ensures.value c.find.ensures
