-- A copy of a table of definitions, entry by entry. `sh`: the data of a definition.
use Rattle.std.proofs.Common.{◌≡◌, refl, sym, ap, ap₂, ◌∙◌, ℕ, List, ◌∷◌, Bool, true, false, Option, Some, None, bytes_eq, if◌then◌else◌, option_map}
use Rattle.std.proofs.lemmas.Map.Text.{is_eq-slice_cmp}
use Rattle.cmark_values.specs.Labelled.{link_key, link_text}
use Rattle.cmark_values.specs.declared.label.LinkLabel.{LinkLabel}
use Rattle.cmark_references.specs.Definitions.{entry_of, first_of, at_label, labelled, reference_at, shown_definition, shown_entry}
use Rattle.cmark_references.specs.declared.definitions.LinkDef.{LinkDef}
use Rattle.cmark_references.specs.declared.definitions.RefDefs.{RefDefs}

-- the copied entries and those left to copy are all of a table
abbrev pub AreAllOf : (copy rest all : RefDefs) → Type 0
AreAllOf copy rest all = (folded : List ℕ) → first_of (reference_at copy folded) (reference_at rest folded) ≡ reference_at all folded

moved : {D S : Type 0} (sh : D → S) (here : Option D) (b : Bool) (def new : D) (rest : Option D) → sh new ≡ sh def
    → first_of (option_map sh (first_of here (if b then Some new else None))) (option_map sh rest) ≡ first_of (option_map sh here) (option_map sh (if b then Some def else rest))
moved sh (Some found) b def new rest e = refl
moved sh None true def new rest e = ap Some e
moved sh None false def new rest e = refl

-- another entry is copied
pub copied : (copy next rest all : RefDefs) (label made : LinkLabel) (def new : LinkDef) → AreAllOf copy ((label, def) ∷ rest) all
    → link_text made ≡ link_text label → link_key made ≡ link_key label → shown_definition new ≡ shown_definition def
    → ((folded : List ℕ) → entry_of next folded ≡ first_of (entry_of copy folded) (at_label (link_key made) (made, new) folded)) → AreAllOf next rest all
copied copy next rest all label made def new h text key same kept folded =
    ap (λ found. first_of (option_map shown_entry found) (reference_at rest folded)) (kept folded)
    ∙ ap (λ k. first_of (option_map shown_entry (first_of (entry_of copy folded) (if bytes_eq folded k then Some (made, new) else None))) (reference_at rest folded)) key
    ∙ moved shown_entry (entry_of copy folded) (bytes_eq folded (link_key label)) (label, def) (made, new) (entry_of rest folded) (ap₂ labelled text same)
    ∙ ap (λ b. first_of (reference_at copy folded) (option_map shown_entry (if b then Some (label, def) else entry_of rest folded))) (sym (is_eq-slice_cmp folded (link_key label)))
    ∙ h folded

none_left : {S : Type 0} (found : Option S) → found ≡ first_of found None
none_left None = refl
none_left (Some s) = refl
