-- The notes of a watched end on its calls.
use Rattle.std.specs.Prelude.{ℕ, ◌≤◌, ◌+◌, ◌-◌, ◌^◌, min, true, false, Result, Ok, Err, ◌==◌, if◌then◌else◌}
use Rattle.std.specs.IoError.{error_kind}
use Rattle.std.specs.declared.io.Error.{Error}
use Rattle.std.specs.declared.io.ErrorKind.{ErrorKind}
use Rattle.std.specs.declared.io.ErrorKind.TheVariants.{Interrupted}
use Rattle.program_io.specs.declared.watched.Notes.{Notes}

-- no call yet
abbrev pub no_notes : Notes
no_notes = record { failed = false; ended = false; interrupted = 0; moved = 0 }

-- a count that has reached the greatest u64 does not grow
abbrev pub counted : ℕ → ℕ → ℕ
counted count more = min (count + more) (2 ^ 64 - 1)

-- the notes were cleared in between, so they are about later calls only
abbrev pub Cleared : (resets_old resets_new : ℕ) → Type 0
Cleared resets_old resets_new = counted resets_old 1 ≤ resets_new

-- after a call that moved this many bytes
abbrev pub noted_moved : Notes → ℕ → Notes
noted_moved notes count = record { failed = notes.failed; ended = false; interrupted = 0; moved = counted notes.moved count }

-- after a read that found the end, or a flush that was done
abbrev pub noted_end : Notes → Notes
noted_end notes = record { failed = notes.failed; ended = true; interrupted = 0; moved = notes.moved }

-- after a call that failed
abbrev pub noted_failed : Notes → Notes
noted_failed notes = record { failed = true; ended = false; interrupted = 0; moved = notes.moved }

-- after a read or a write that returned an error: an interrupted call did not fail
abbrev pub noted_error : Notes → ErrorKind → Notes
noted_error notes Interrupted = record { failed = notes.failed; ended = false; interrupted = counted notes.interrupted 1; moved = notes.moved }
noted_error notes _ = noted_failed notes

-- a read of no byte found the end
abbrev pub noted_read : Notes → Result ℕ Error → Notes
noted_read notes (Ok count) = if count == 0 then noted_end notes else noted_moved notes count
noted_read notes (Err error) = noted_error notes (error_kind error)

-- a write of no byte failed
abbrev pub noted_write : Notes → Result ℕ Error → Notes
noted_write notes (Ok count) = if count == 0 then noted_failed notes else noted_moved notes count
noted_write notes (Err error) = noted_error notes (error_kind error)

-- a flush that returned any error failed
abbrev pub noted_flush : Notes → Result (Unit {0}) Error → Notes
noted_flush notes (Ok u) = noted_end notes
noted_flush notes (Err error) = noted_failed notes
