-- The records of the definitions of a table, one after the other.
use Rattle.std.proofs.Common.{◌≡◌, ℕ, List, ◌∷◌, ◌++◌, sym, ap, ◌∙◌, append_assoc}
use Rattle.std.specs.List.{flat_map}
use Rattle.std.proofs.lemmas.Grind.{flat_map-append}
use Rattle.std.proofs.lemmas.List.Concat.{flat_map-cons}
use Rattle.cmark_flat.specs.Definitions.{definition_records, flat_definitions}
use Rattle.cmark_flat.specs.Records.{record_bytes, spelled}
use Rattle.cmark_grammar.specs.BlockDocument.{Reference}
use Rattle.cmark_references.specs.Definitions.{labelled, shown_definition}
use Rattle.cmark_references.specs.declared.definitions.LinkDef.{LinkDef}

-- a label with its definition, as in a document
abbrev pub reference_of : List ℕ × LinkDef → Reference
reference_of e = labelled e.0 (shown_definition e.1)

cons_is : (r : Reference) (rs : List Reference) → flat_definitions (r ∷ rs) ≡ spelled (definition_records r) ++ flat_definitions rs
cons_is r rs = ap spelled (flat_map-cons definition_records r rs) ∙ flat_map-append record_bytes (definition_records r) (flat_map definition_records rs)

-- the records of one definition more
pub one_more : (mid new before : List ℕ) (r : Reference) (rs : List Reference) → new ≡ mid ++ spelled (definition_records r) → mid ++ flat_definitions (r ∷ rs) ≡ before → new ++ flat_definitions rs ≡ before
one_more mid new before r rs more so_far =
    ap (λ l. l ++ flat_definitions rs) more
    ∙ append_assoc mid (spelled (definition_records r)) (flat_definitions rs)
    ∙ ap (λ l. mid ++ l) (sym (cons_is r rs))
    ∙ so_far
