use Rattle.std.proofs.Common.{◌∙◌, sym}
use Rattle.cmark_line_rules.specs.Rests.{row_of}
use Rattle.cmark_values.specs.Shown.{shown_options}
use Rattle.cmark_line_rules.proofs.DefinitionRows.{begun-in, marker-read}
use Rattle.cmark_line_rules.proofs.RestSteps.{whole}
use Rattle.cmark_line_rules.proofs.definition.definition_start.Goals as goal

pub returns-clause-width : goal.returns-clause-width
returns-clause-width c =
    c.after_definition.ensures.width ∙ marker-read (shown_options c.args.options) (row_of c.args.rest) (sym c.reads_definition_lists.ensures ∙ c.if-not-reads_definition_lists.false) (whole c.args.rest)

pub returns-clause-placed : goal.returns-clause-placed
returns-clause-placed c text h = begun-in text c.args.rest c.after_definition.result c.after_definition.ensures.width c.after_definition.ensures.inside h
