use Rattle.cmark_scan_bytes.proofs.Unescaping.{closed_cut_if}
use Rattle.cmark_scan_bytes.proofs.escapes.resolved_before.Goals as goal

pub returns-else-begins_with-clause-within : goal.returns-else-begins_with-clause-within
returns-else-begins_with-clause-within g c = closed_cut_if c.scan_entity.result _ c.args.text.now c.as_bytes-else-begins_with.ensures.value c.utf8.text c.scan_entity.ensures.closed
