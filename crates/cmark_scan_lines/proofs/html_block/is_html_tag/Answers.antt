use Rattle.std.proofs.Common.{map, ap, ◌∙◌}
use Rattle.cmark_grammar.specs.HtmlBlocks.{lower, is_among}
use Rattle.cmark_scan_lines.specs.HtmlLines.{names_from}
use Rattle.cmark_scan_lines.proofs.HtmlSteps.{names-of}
use Rattle.cmark_scan_lines.proofs.html_block.is_html_tag.Goals as goal

pub returns-in-len1-up : goal.returns-in-len1-up
returns-in-len1-up c =
    let name = c.args.name.now in
    names-of name c.is_one_of.result c.in-len1-up.len_at_least
    (c.is_one_of.ensures ∙ ap (is_among (map lower name)) (c.names_from.ensures ∙ ap names_from c.lower.ensures))
