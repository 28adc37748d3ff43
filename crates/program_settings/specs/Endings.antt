-- The exit status of a program, by its outcome.
use Rattle.std.specs.Prelude.{◌≡◌, ◌⊎◌, ℕ, true, List, Option, Result, Ok, Err, string_bytes}
use Rattle.std.specs.Io.KnownBytes.{Appends, Keeps}
use Rattle.program_io.specs.Faults.{WriteStops, status_of}
use Rattle.program_io.specs.Runs.{AppendsFrontOf}
use Rattle.program_io.specs.declared.fault.RunFault.TheVariants.{Write}
use Rattle.program_io.specs.declared.watched.Notes.{Notes}
use Rattle.program_settings.specs.declared.starting.Stop.{Stop}
use Rattle.program_settings.specs.declared.starting.Stop.TheVariants.{Help, BadLine, Fault}

-- the bytes that the writer held before and after the program was ended, and its notes then
module _ (held_old held_new : Option (List ℕ)) (writer : Notes) where
  -- the text was written and flushed, and the status says so; or a write failed after a beginning of it
  abbrev pub Shows : List ℕ → ℕ → Type 0
  Shows text status =
      (Appends held_old held_new text × (writer.ended ≡ true) × (status ≡ 0))
      ⊎ (AppendsFrontOf held_old held_new text × WriteStops writer Write × (status ≡ status_of Write))

  -- the status is 0 if the program came to its end, or if it wrote the text that was asked for; otherwise it is the status of what stopped
  -- the program. Only a text that was asked for is written
  abbrev pub EndsWith : Result (Unit {0}) Stop → ℕ → Type 0
  EndsWith (Ok u) status = Keeps held_old held_new × (status ≡ 0)
  EndsWith (Err (Help text)) status = Shows (string_bytes text) status
  EndsWith (Err BadLine) status = Keeps held_old held_new × (status ≡ 2)
  EndsWith (Err (Fault fault)) status = Keeps held_old held_new × (status ≡ status_of fault)
