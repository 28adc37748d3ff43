-- The reasons for which a program makes no run.
use Rattle.std.specs.Prelude.{◌≡◌, [], Result, MatchResult}
use Rattle.std.specs.declared.io.ErrorKind.{ErrorKind}
use Rattle.std.specs.declared.io.ErrorKind.TheVariants.{OutOfMemory}
use Rattle.clap.specs.Words.{Kinds}
use Rattle.program_io.specs.declared.fault.RunFault.{RunFault}
use Rattle.program_io.specs.declared.fault.RunFault.TheVariants.{Memory, Read, NotUtf8, Entities, Write}
use Rattle.program_settings.specs.Line.{MayFail}
use Rattle.program_settings.specs.declared.line.LineFault.{LineFault}
use Rattle.program_settings.specs.declared.line.LineFault.TheVariants as line
use Rattle.program_settings.specs.declared.starting.RunSettings.{RunSettings}
use Rattle.program_settings.specs.declared.starting.Stop.{Stop}
use Rattle.program_settings.specs.declared.starting.Stop.TheVariants.{Help, BadLine, Fault}

abbrev pub stop_of : LineFault → Stop
stop_of (line.Help text) = Help text
stop_of line.Bad = BadLine
stop_of line.Memory = Fault Memory

-- before a run memory may be refused, or the file of entities may be unusable
abbrev pub IsEarly : RunFault → Type 0
IsEarly Memory = Unit {0}
IsEarly Read = ⊥
IsEarly NotUtf8 = ⊥
IsEarly Entities = Unit {0}
IsEarly Write = ⊥

abbrev pub IsStop : Stop → Type 0
IsStop (Help text) = Unit {0}
IsStop BadLine = Unit {0}
IsStop (Fault fault) = IsEarly fault

-- the fault of words that the system does not give: refused memory, or a word that is not UTF-8
abbrev pub words_fault_of : ErrorKind → LineFault
words_fault_of OutOfMemory = line.Memory
words_fault_of _ = line.Bad

-- the fault of a file that cannot be opened
abbrev pub file_fault_of : ErrorKind → RunFault
file_fault_of OutOfMemory = Memory
file_fault_of _ = Entities

-- words that can be refused only with these kinds stop a program with their fault; otherwise memory or the file does
abbrev pub MayStop : Kinds → Stop → Type 0
MayStop kinds (Help text) = MayFail kinds (line.Help text)
MayStop kinds BadLine = MayFail kinds line.Bad
MayStop kinds (Fault fault) = IsEarly fault

-- a run is returned only if there is no such kind
abbrev pub StartsBy : Kinds → Result RunSettings Stop → Type 0
StartsBy kinds result = MatchResult result (λ settings. kinds ≡ []) (MayStop kinds)
