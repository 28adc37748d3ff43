use Rattle.std.proofs.Common.{sym, ◌∙◌}
use Rattle.cmark_values.specs.Shown.{shown_options}
use Rattle.cmark_inline.proofs.FootnoteSteps.{fits-on-one-line}
use Rattle.cmark_inline.proofs.footnote.fits_footnote.Goals as goal

pub returns-else-contains : goal.returns-else-contains
returns-else-contains c =
    fits-on-one-line (shown_options c.args.options) c.args.label.now c.has_line_ending.result (sym c.is_bracketed_label.ensures ∙ c.if-is_bracketed_label.true) (sym (c.contains.ensures tt) ∙ c.if-contains.false)
    c.has_line_ending.ensures
