use Rattle.std.proofs.Common.{Some, drop, ap, ◌∙◌}
use Rattle.std.specs.Prelude.{codes}
use Rattle.cmark_grammar.specs.InlineHtml.{find_with}
use Rattle.cmark_grammar.specs.Letters.{after_first_of}
use Rattle.cmark_scan_bytes.proofs.Lists.{rest_of}
use Rattle.cmark_scan_bytes.proofs.Endings.{find-boundary, processing-following}
use Rattle.cmark_scan_bytes.proofs.inline_html.scan_inline_html_processing.Goals as goal

pub returns-clause-boundary : goal.returns-clause-boundary
returns-clause-boundary c utf8 =
    let bytes = c.args.bytes.now in
    find-boundary bytes c.args.ix (Some (after_first_of (codes "?>") (drop c.args.ix bytes))) _ (c.find.ensures.end ∙ ap (λ l. (find_with bytes c.args.ix (Some (after_first_of (codes "?>") l))).end) (rest_of bytes c.args.ix)) utf8
    (λ r e. processing-following (drop c.args.ix bytes) r cc)
