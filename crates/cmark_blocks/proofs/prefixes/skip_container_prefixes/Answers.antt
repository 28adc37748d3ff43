use Rattle.std.proofs.Common.{sym, ap, ◌∙◌}
use Rattle.cmark_grammar.specs.Rows.{begin_of}
use Rattle.cmark_values.specs.Shown.{shown_options}
use Rattle.cmark_blocks.specs.Prefixes.{containers_of, kept}
use Rattle.cmark_blocks.proofs.prefixes.skip_container_prefixes.Goals as goal

pub returns : goal.returns
returns c = λ z holds at line_end.
    ap (λ r. begin_of (kept (containers_of (shown_options c.args.options) z.up) r).rest) (sym (c.new-line.ensures at line_end)) ∙ ap begin_of (sym (c.scan_containers.ensures.rest z holds at line_end)) ∙ c.bytes_scanned.ensures at line_end
