use Rattle.std.proofs.Common.{◌≡◌, map, drop, fold}
use Rattle.clap.specs.Words.{found_of, rows_of}
use Rattle.program_settings.specs.Line.{bits_with, option_bits, shown_flag}
use Rattle.program_settings.proofs.flags.options_given.Given as goal

-- the remaining flags, added to the bits so far, give the bits of all flags
abbrev pub invariant-loop-flag : goal.invariant-loop-flag
invariant-loop-flag l =
    let rows = rows_of (found_of l.matches) in
    fold (bits_with rows) (option_bits l.options) (map shown_flag (drop l.flag-index l.flags)) ≡ fold (bits_with rows) 0 (map shown_flag l.flags)
