use Rattle.std.proofs.Common.{◌≡◌, map, drop}
use Rattle.clap.specs.Words.{app_of}
use Rattle.program_settings.specs.Line.{shown_flag, with_flag_rules}
use Rattle.program_settings.proofs.flags.with_flags.Given as goal

-- the remaining flags, added to the command so far, give the command with all flags
abbrev pub invariant-loop-flag : goal.invariant-loop-flag
invariant-loop-flag l = with_flag_rules (app_of l.command) (map shown_flag (drop l.flag-index l.flags)) ≡ with_flag_rules (app_of l.initial.command) (map shown_flag l.flags)
