use Rattle.std.proofs.Common.{◌∙◌, map, sym, ap, subst, rules}
use Rattle.clap.specs.Words.{App, HasKind, fault_of, is_simple_and_free, kind_of, takes}
use Rattle.program_settings.specs.Line.{bits_given, file_given, flags, is_safe_given, line_command}
use Rattle.program_settings.proofs.LineSteps.{is_memory, may_fail, rows_are, simple_and_free}
use Rattle.program_settings.proofs.line.read_words.Goals as goal

pub returns-in_ok-settings-in-Ok-clause-options : goal.returns-in_ok-settings-in-Ok-clause-options
returns-in_ok-settings-in-Ok-clause-options g c =
    c.in_ok-settings-in-Ok.ensures.options ∙ ap (bits_given flags) (rows_are _ c.args.program (map g.S.AsStr.text c.args.words.now) c.in-Ok.matches c.in_ok-command.ensures c.in-Ok.ensures.matches)

pub returns-in_ok-settings-in-Ok-clause-safe : goal.returns-in_ok-settings-in-Ok-clause-safe
returns-in_ok-settings-in-Ok-clause-safe g c =
    c.in_ok-settings-in-Ok.ensures.safe ∙ ap is_safe_given (rows_are _ c.args.program (map g.S.AsStr.text c.args.words.now) c.in-Ok.matches c.in_ok-command.ensures c.in-Ok.ensures.matches)

pub returns-in_ok-settings-in-Ok-clause-file : goal.returns-in_ok-settings-in-Ok-clause-file
returns-in_ok-settings-in-Ok-clause-file g c =
    c.in_ok-settings-in-Ok.ensures.file ∙ ap file_given (rows_are _ c.args.program (map g.S.AsStr.text c.args.words.now) c.in-Ok.matches c.in_ok-command.ensures c.in-Ok.ensures.matches)

pub returns-in_ok-settings-in-Ok-clause-faults : goal.returns-in_ok-settings-in-Ok-clause-faults
returns-in_ok-settings-in-Ok-clause-faults g c =
    sym (ap (λ (a : App). fault_of a (map g.S.AsStr.text c.args.words.now)) c.in_ok-command.ensures)
    ∙ c.in-Ok.ensures.kinds (ap is_simple_and_free c.in_ok-command.ensures ∙ simple_and_free c.args.program)

pub returns-in-Err-clause-faults : goal.returns-in-Err-clause-faults
returns-in-Err-clause-faults g c =
    let kinds = c.in-Err.ensures.kinds (ap is_simple_and_free c.in_ok-command.ensures ∙ simple_and_free c.args.program) in
    may_fail (fault_of (line_command c.args.program) (map g.S.AsStr.text c.args.words.now)) (kind_of c.in-Err.error) c.line_fault.result
    (subst (λ (a : App). HasKind (fault_of a (map g.S.AsStr.text c.args.words.now)) c.in-Err.error) c.in_ok-command.ensures kinds) c.line_fault.ensures

pub returns-in-Err-clause-passes : goal.returns-in-Err-clause-passes
returns-in-Err-clause-passes g c taken =
    is_memory (kind_of c.in-Err.error) c.line_fault.result
    (c.in-Err.ensures.passes (ap (λ (a : App). takes a (map g.S.AsStr.text c.args.words.now)) c.in_ok-command.ensures ∙ taken)) c.line_fault.ensures

pub drop-matches-requires-in-Ok : goal.drop-matches-requires-in-Ok
drop-matches-requires-in-Ok g c κs = search (rules, c.requires)
