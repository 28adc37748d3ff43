-- The results of the code, compared with those of the definitions.
use Rattle.std.specs.Prelude.{◌≡◌, Option, Some, None, Result, Ok, Err}
use Rattle.cmark_flat.specs.declared.error.DecodeError.{DecodeError}
use Rattle.cmark_flat.specs.declared.error.DecodeError.TheVariants as errors

-- the code finds what the definition finds; view maps a value of the code to the grammar's
abbrev pub Reads : {X Y : Type 0} → (X → Y) → Option X → Option Y → Type 0
Reads view (Some x) read = read ≡ Some (view x)
Reads view None read = read ≡ None

-- the definition finds nothing, unless memory was refused
abbrev pub Fails : {Y : Type 0} → DecodeError → Option Y → Type 0
Fails errors.NoMemory read = Unit {0}
Fails errors.Malformed read = read ≡ None

-- code that may be refused memory gives this value, or fails as the definition does
abbrev pub Gives : {X Y : Type 0} → (X → Y) → Result X DecodeError → Option Y → Type 0
Gives view (Ok x) read = read ≡ Some (view x)
Gives view (Err e) read = Fails e read
