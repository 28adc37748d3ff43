use Rattle.std.proofs.Common.{None, false, sym, ap, ◌∙◌}
use Rattle.cmark_grammar.specs.Containers.{keeps}
use Rattle.cmark_scan_lines.specs.LineStart.{row_from}
use Rattle.cmark_line_rules.proofs.ContainerRows.{definition-keeps}
use Rattle.cmark_blocks.specs.Prefixes.{shown_container}
use Rattle.cmark_blocks.proofs.prefixes.after_prefix.Goals as goal

pub returns-in-Definition : goal.returns-in-Definition
returns-in-Definition c at line_end =
    let row = row_from at line_end c.args.line in
    c.after_width-in-Definition.ensures at line_end 0 None None ∙ definition-keeps c.in-Definition.width row ∙ ap (λ k. keeps (shown_container k) false row) (sym c.in-Definition.is)
