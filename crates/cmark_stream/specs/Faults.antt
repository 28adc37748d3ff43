-- The message of each fault.
use Rattle.std.specs.Prelude.{ℕ, List, codes}
use Rattle.cmark_stream.specs.declared.fault.StreamFault.{StreamFault}
use Rattle.cmark_stream.specs.declared.fault.StreamFault.TheVariants.{NoMemory, NotUtf8}

abbrev pub message_of : StreamFault → List ℕ
message_of NoMemory = codes "out of memory"
message_of NotUtf8 = codes "input is not UTF-8"
