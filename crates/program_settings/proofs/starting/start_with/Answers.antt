use Rattle.std.proofs.Common.{◌∙◌, string_bytes, sym, true≢false}
use Rattle.program_settings.proofs.StartSteps.{none_shown, stops_for_memory}
use Rattle.program_settings.proofs.starting.start_with.Goals as goal

pub returns-in_err-settings-clause-passes : goal.returns-in_err-settings-clause-passes
returns-in_err-settings-clause-passes g c taken none =
    stops_for_memory c.from_residual.result c.in_err-settings.field-0.0 c.from_residual.ensures.1 (c.in_err-settings.ensures.passes taken)

pub returns-in_err-file-clause-passes : goal.returns-in_err-file-clause-passes
returns-in_err-file-clause-passes g c taken none =
    absurd (true≢false (sym (c.in_err-file.ensures.succeeds (none_shown string_bytes c.in_ok-settings.settings.entities (c.in_ok-settings.ensures.file ∙ none)))))
