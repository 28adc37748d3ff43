-- The table of definitions by their labels, for the laws of look-ups.
use Rattle.std.specs.Prelude.{ℕ, Bool, true, false, List, [], ◌∷◌, bytes_eq, None, ◌≡◌}
use Rattle.cmark_grammar.specs.BlockDocument.{Reference}
use Rattle.cmark_grammar.specs.References.{first_with}

-- the references without those of this folded label
abbrev pub keep_or : Bool → Reference → List Reference → List Reference
keep_or true reference rs = rs
keep_or false reference rs = reference ∷ rs

abbrev pub without_label : (fold : List ℕ → List ℕ) → (folded : List ℕ) → List Reference → List Reference
without_label fold folded [] = []
without_label fold folded (reference ∷ rs) = keep_or (bytes_eq (fold reference.label) folded) reference (without_label fold folded rs)

-- the table of definitions: each folded label with its first definition
abbrev pub table : (fold : List ℕ → List ℕ) → List Reference → List Reference
table fold [] = []
table fold (reference ∷ rs) = reference ∷ without_label fold (fold reference.label) (table fold rs)

-- each folded label occurs once
abbrev pub EachOnce : (fold : List ℕ → List ℕ) → List Reference → Type 0
EachOnce fold [] = Unit {0}
EachOnce fold (reference ∷ rs) = (first_with fold (fold reference.label) rs ≡ None) × EachOnce fold rs
