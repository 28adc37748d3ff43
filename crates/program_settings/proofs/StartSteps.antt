-- Why a program is stopped before its run.
use Rattle.std.proofs.Common.{◌≡◌, ◌∙◌, Option, None, Some, option_map, Result, Ok, Err, IfErr, refl, ap}
use Rattle.std.specs.Result.{IsErrAnd}
use Rattle.program_io.specs.declared.fault.RunFault.TheVariants.{Memory}
use Rattle.program_settings.specs.Starts.{stop_of}
use Rattle.program_settings.specs.declared.line.LineFault.{LineFault}
use Rattle.program_settings.specs.declared.line.LineFault.TheVariants as line
use Rattle.program_settings.specs.declared.starting.RunSettings.{RunSettings}
use Rattle.program_settings.specs.declared.starting.Stop.{Stop}
use Rattle.program_settings.specs.declared.starting.Stop.TheVariants.{Fault}

-- a line for which memory was refused stops the program with that fault
pub stops_for_memory : (result : Result RunSettings Stop) (fault : LineFault) → IsErrAnd result (λ stop. stop ≡ stop_of fault) → fault ≡ line.Memory → IfErr result (λ stop. stop ≡ Fault Memory)
stops_for_memory (Ok settings) fault stops is = tt
stops_for_memory (Err stop) fault stops is = stops ∙ ap stop_of is

-- an option that is shown as None is None
pub none_shown : {A B : Type 0} (f : A → B) (o : Option A) → option_map f o ≡ None → o ≡ None
none_shown f None e = refl
none_shown f (Some a) e = cc
