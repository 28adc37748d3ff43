use Rattle.std.proofs.Common.{drop, ap, ◌∙◌}
use Rattle.cmark_scan_bytes.proofs.Lists.{rest_of}
use Rattle.cmark_scan_bytes.proofs.tag.without_prefix.Goals as goal

pub slice_bounds-result-count : goal.slice_bounds-result-count
slice_bounds-result-count g c = c.requires.within _ _ c.handler.ensures

pub returns-clause-value : goal.returns-clause-value
returns-clause-value g c = λ prefix answers. rest_of c.args.bytes.now c.handler.result ∙ ap (λ n. drop n c.args.bytes.now) (answers _ _ c.handler.ensures)
