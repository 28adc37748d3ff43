-- The effects of a run.
use Rattle.std.specs.Prelude.{◌≡◌, ◌⊎◌, ℕ, true, List, ◌++◌, Option, Result, Ok, Err, IsUtf8}
use Rattle.std.specs.Io.KnownBytes.{Appends, Consumes, IsAtEnd, Keeps}
use Rattle.program_io.specs.Faults.{ReadStops, WriteStops, input_limit}
use Rattle.program_io.specs.declared.fault.RunFault.{RunFault}
use Rattle.program_io.specs.declared.fault.RunFault.TheVariants.{Memory, Read, NotUtf8, Entities, Write}
use Rattle.program_io.specs.declared.watched.Notes.{Notes}
use Rattle.program_io.specs.declared.watched.Watched.{Watched}
use Rattle.program_io.specs.Ends.{watched_end, watched_notes}

-- a reader gave these bytes and is at its end: the bytes are all that it had, if it tells what it has left
abbrev pub ReadsAll : Option (List ℕ) → Option (List ℕ) → List ℕ → Type 0
ReadsAll old new bytes = Consumes old new bytes × IsAtEnd new

-- known bytes grow by a beginning of these
abbrev pub AppendsFrontOf : Option (List ℕ) → Option (List ℕ) → List ℕ → Type 0
AppendsFrontOf old new bytes = (front : List ℕ) × (rest : List ℕ) × (bytes ≡ front ++ rest) × Appends old new front

-- a run whose renderer makes these outputs, and may refuse memory to some texts. The other values are the bytes that the reader had left
-- and that the writer held, before and after, and the notes of both after the run
module _ (renders : List ℕ → List ℕ → Type 0) (refuses : List ℕ → Type 0) (left_old left_new held_old held_new : Option (List ℕ)) (reader writer : Notes) where
  -- all was read, it is UTF-8, and the output is an output for it
  abbrev pub ReadsAndRenders : List ℕ → List ℕ → Type 0
  ReadsAndRenders input output = ReadsAll left_old left_new input × IsUtf8 input × renders input output

  -- memory was refused while bytes came, or all was read, it is UTF-8, and the renderer refused it
  abbrev pub RefusedMemory : Type 0
  RefusedMemory =
      ReadStops input_limit reader Memory ⊎ ((input : List ℕ) × ReadsAll left_old left_new input × IsUtf8 input × refuses input)

  -- after Write a beginning of the output was written, and after any other fault nothing
  abbrev pub StopsWith : RunFault → Type 0
  StopsWith Memory = Keeps held_old held_new × RefusedMemory
  StopsWith Read = Keeps held_old held_new × ReadStops input_limit reader Read
  StopsWith NotUtf8 = Keeps held_old held_new × ((input : List ℕ) × ReadsAll left_old left_new input × ¬ (IsUtf8 input))
  StopsWith Entities = ⊥
  StopsWith Write = (input : List ℕ) × (output : List ℕ) × ReadsAndRenders input output × AppendsFrontOf held_old held_new output × WriteStops writer Write

  -- at Ok the output for all that was read was written and flushed, and nothing else
  abbrev pub Runs : Result (Unit {0}) RunFault → Type 0
  Runs (Ok u) = (input : List ℕ) × (output : List ℕ) × ReadsAndRenders input output × Appends held_old held_new output × (writer.ended ≡ true)
  Runs (Err fault) = StopsWith fault

-- a run from a reader to a writer, of which both are watched. `remaining` is what a reader has left, and `contents` what a writer holds, if
-- they tell. The notes are those after the run
module _ {R W : Type 0} (remaining : R → Option (List ℕ)) (contents : W → Option (List ℕ)) where
  abbrev pub RunsBetween : (renders : List ℕ → List ℕ → Type 0) (refuses : List ℕ → Type 0) (reader_old reader_new : Watched R) (writer_old writer_new : Watched W) → Result (Unit {0}) RunFault → Type 0
  RunsBetween renders refuses reader_old reader_new writer_old writer_new =
      Runs renders refuses
      (remaining (watched_end reader_old)) (remaining (watched_end reader_new))
      (contents (watched_end writer_old)) (contents (watched_end writer_new))
      (watched_notes reader_new) (watched_notes writer_new)
