-- The observable state of a watched end.
use Rattle.std.specs.Prelude.{ℕ}
use Rattle.program_io.specs.declared.watched.Watched.{Watched}
use Rattle.program_io.specs.declared.watched.Notes.{Notes}

-- the reader or writer that is watched
abbrev pub watched_end : {E : Type 0} → Watched E → E
watched_end watched = watched.end

-- the outcomes of its calls since the last reset
abbrev pub watched_notes : {E : Type 0} → Watched E → Notes
watched_notes watched = watched.notes

-- how often the notes were cleared
abbrev pub watched_resets : {E : Type 0} → Watched E → ℕ
watched_resets watched = watched.resets
