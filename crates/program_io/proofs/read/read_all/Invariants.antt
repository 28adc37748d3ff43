use Rattle.std.proofs.Common.{◌≡◌, ◌<◌, ◌≤◌, ◌+◌, ◌-◌, ◌*◌, false, vec_len, length}
use Rattle.std.specs.Io.KnownBytes.{Consumes}
use Rattle.program_io.specs.declared.read.TheConstants.{CHUNK}
use Rattle.program_io.specs.Faults.{patience}
use Rattle.program_io.specs.Notes.{Cleared}
use Rattle.program_io.proofs.read.read_all.Given as goal

abbrev pub invariant-loop-bytes : goal.invariant-loop-bytes
invariant-loop-bytes g l = record {
  taken : Consumes (g.R.Read.remaining l.fn.reader.end) (g.R.Read.remaining l.reader.end) l.bytes.items;
  within : vec_len l.bytes ≤ l.limit;
  moved : l.reader.notes.moved ≡ vec_len l.bytes;
  fine : l.reader.notes.failed ≡ false;
  patient : l.reader.notes.interrupted < patience;
  fresh : Cleared l.fn.reader.resets l.reader.resets;
  room : length l.chunk ≡ CHUNK;
}

-- each read moves a byte, or adds one to the interrupted reads in a row
abbrev pub decreases-loop-bytes : goal.decreases-loop-bytes
decreases-loop-bytes g l = (l.limit - vec_len l.bytes) * 1048577 + (1048576 - l.reader.notes.interrupted)
