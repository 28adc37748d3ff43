use Rattle.std.proofs.Common.{◌∙◌, ap}
use Rattle.program_settings.specs.Line.{options_command, with_safe_rule, writes_html}
use Rattle.program_settings.proofs.LineSteps.{file_added}
use Rattle.program_settings.proofs.line.line_reader.Goals as goal

pub returns : goal.returns
returns c =
    let is = c.in_ok-command.ensures ∙ ap options_command c.name-name.ensures in
    file_added c.args.program c.in_ok-with_safe_flag.field-0 c.file_arg.result c.arg.result c.arg.ensures c.file_arg.ensures.rule c.file_arg.ensures.local
    (c.in_ok-with_safe_flag.ensures ∙ ap (with_safe_rule (writes_html c.args.program)) is)
