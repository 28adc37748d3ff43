-- The bytes that a call appends.
use Rattle.std.specs.Prelude.{◌≡◌, ℕ, List, ◌++◌, Result, OnOk, Vec}

-- at `Ok` exactly these bytes were appended
abbrev pub AppendsOnOk : {A T E : Type 0} → Vec ℕ A → Vec ℕ A → Result T E → List ℕ → Type 0
AppendsOnOk old new result bytes = OnOk result (new.items ≡ old.items ++ bytes)
