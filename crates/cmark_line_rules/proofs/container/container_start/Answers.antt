use Rattle.cmark_values.specs.Shown.{shown_options}
use Rattle.cmark_line_rules.specs.Rests.{row_of}
use Rattle.cmark_line_rules.proofs.FootnoteStarts.{begun-other}
use Rattle.cmark_line_rules.proofs.container.container_start.Goals as goal

pub returns-clause-container : goal.returns-clause-container
returns-clause-container c =
    begun-other (shown_options c.args.options) (row_of c.args.rest) _ c.in_default.ensures.container (c.marker_start.ensures.container (shown_options c.args.options))
