use Rattle.std.proofs.Common.{◌∙◌, option_map, string_bytes, sym, ap}
use Rattle.clap.specs.Words.{fault_of, matches_of}
use Rattle.program_settings.specs.Line.{bits_given, file_given, flags, is_safe_given, line_command}
use Rattle.program_settings.proofs.LineSteps.{no_bits, no_fault, no_file, not_safe, only_word}
use Rattle.program_settings.proofs.line.parse_line.Goals as goal

pub returns-in-len1-clause-options : goal.returns-in-len1-clause-options
returns-in-len1-clause-options g c =
    let only = only_word g.S.AsStr.text c.args.words.now c.in-len1.len_at_least c.in-len1.len_below in
    c.none.ensures.options ∙ sym (ap (λ words. bits_given flags (matches_of (line_command c.args.program) words)) only.1 ∙ no_bits c.args.program only.0)

pub returns-in-len1-clause-safe : goal.returns-in-len1-clause-safe
returns-in-len1-clause-safe g c =
    let only = only_word g.S.AsStr.text c.args.words.now c.in-len1.len_at_least c.in-len1.len_below in
    c.none.ensures.safe ∙ sym (ap (λ words. is_safe_given (matches_of (line_command c.args.program) words)) only.1 ∙ not_safe c.args.program only.0)

pub returns-in-len1-clause-file : goal.returns-in-len1-clause-file
returns-in-len1-clause-file g c =
    let only = only_word g.S.AsStr.text c.args.words.now c.in-len1.len_at_least c.in-len1.len_below in
    ap (option_map string_bytes) c.none.ensures.file ∙ sym (ap (λ words. file_given (matches_of (line_command c.args.program) words)) only.1 ∙ no_file c.args.program only.0)

pub returns-in-len1-clause-faults : goal.returns-in-len1-clause-faults
returns-in-len1-clause-faults g c =
    let only = only_word g.S.AsStr.text c.args.words.now c.in-len1.len_at_least c.in-len1.len_below in
    ap (fault_of (line_command c.args.program)) only.1 ∙ no_fault c.args.program only.0
