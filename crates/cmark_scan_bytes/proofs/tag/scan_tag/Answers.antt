use Rattle.std.proofs.Common.{rules}
use Rattle.cmark_grammar.specs.Tags.{no_prefix}
use Rattle.cmark_scan_bytes.proofs.Endings.{tag-boundary}
use Rattle.cmark_scan_bytes.proofs.tag.scan_tag.Goals as goal

pub returns-clause-value : goal.returns-clause-value
returns-clause-value c = c.after_tag.ensures.value no_prefix (search rules)

pub returns-clause-boundary : goal.returns-clause-boundary
returns-clause-boundary c utf8 = tag-boundary no_prefix c.args.bytes.now c.after_tag.result (c.after_tag.ensures.value no_prefix (search rules)) utf8
