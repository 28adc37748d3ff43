-- The exit status and the message of each fault, the limits, and the notes that go with each fault.
use Rattle.std.specs.Prelude.{◌≡◌, ◌⊎◌, ◌≤◌, ◌<◌, ℕ, true, false, List, codes}
use Rattle.program_io.specs.declared.fault.RunFault.{RunFault}
use Rattle.program_io.specs.declared.fault.RunFault.TheVariants.{Memory, Read, NotUtf8, Entities, Write}
use Rattle.program_io.specs.declared.watched.Notes.{Notes}

abbrev pub status_of : RunFault → ℕ
status_of Memory = 1
status_of Read = 1
status_of NotUtf8 = 4
status_of Entities = 3
status_of Write = 1

abbrev pub message_of : RunFault → List ℕ
message_of Memory = codes "out of memory"
message_of Read = codes "read failed"
message_of NotUtf8 = codes "input is not UTF-8"
message_of Entities = codes "bad entity file"
message_of Write = codes "write failed"

-- the number of interrupted calls in a row that ends a reading or a writing
abbrev pub patience : ℕ
patience = 1048576

-- the most bytes of input that are read
abbrev pub input_limit : ℕ
input_limit = 2147483648

-- no read failed, fewer than `patience` in a row were interrupted, and at most `limit` bytes were read
abbrev pub ReadsOn : ℕ → Notes → Type 0
ReadsOn limit notes = (notes.failed ≡ false) × (notes.interrupted < patience) × (notes.moved ≤ limit)

-- A reading ends with Read if a read failed, if `patience` reads in a row were interrupted, or if more than `limit` bytes came. It ends
-- with Memory only if nothing of this happened, bytes came, and the last call did not find the end.
abbrev pub ReadStops : ℕ → Notes → RunFault → Type 0
ReadStops limit notes Memory = (0 < notes.moved) × (notes.ended ≡ false) × ReadsOn limit notes
ReadStops limit notes Read = (notes.failed ≡ true) ⊎ ((patience ≤ notes.interrupted) ⊎ (limit < notes.moved))
ReadStops limit notes NotUtf8 = ⊥
ReadStops limit notes Entities = ⊥
ReadStops limit notes Write = ⊥

-- a writing ends only with Write: a call failed, or `patience` writes in a row were interrupted
abbrev pub WriteStops : Notes → RunFault → Type 0
WriteStops notes Memory = ⊥
WriteStops notes Read = ⊥
WriteStops notes NotUtf8 = ⊥
WriteStops notes Entities = ⊥
WriteStops notes Write = (notes.failed ≡ true) ⊎ (patience ≤ notes.interrupted)
