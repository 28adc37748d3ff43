-- Footnote definitions that are recorded (this profile's own).
use Rattle.std.specs.Prelude.{◌≡◌, ℕ, Bool, if◌then◌else◌, List, [], ◌∷◌, ◌++◌, Option, Some, None}
use Rattle.cmark_grammar.specs.Labels.{fold}
use Rattle.cmark_references.specs.Definitions.{first_of, at_label}
use Rattle.cmark_references.specs.Footnotes.{footnote}
use Rattle.cmark_items.specs.Tables.{Tables}
use Rattle.cmark_references.specs.declared.footnotes.FootnoteDef.{FootnoteDef}
use Rattle.cmark_references.specs.declared.footnotes.FootnoteDefs.{FootnoteDefs}
use Rattle.cmark_grammar.specs.SpanDocuments.{has_label}
use Rattle.cmark_values.specs.Shown.{text_bytes}
use Rattle.cmark_values.specs.declared.text.CowStr.{CowStr}

-- a text was added after the others
abbrev pub KeepsText : (bytes : List ℕ) → (old new : Tables) → Type 0
KeepsText bytes old new = (name : CowStr) × (text_bytes name ≡ bytes) × (new.texts ≡ old.texts ++ name ∷ [])

-- the footnote of a label is recorded as defined, unless it was before
abbrev pub Notes : (label : List ℕ) → (old new : FootnoteDefs) → Type 0
Notes label old new = (folded : List ℕ) → footnote new folded ≡ first_of (footnote old folded) (at_label (fold label) (record { use_count = 0 }) folded)

-- a footnote that is defined and has no references yet; `None` if it is not defined
abbrev pub unused_if : (is_defined : Bool) → Option FootnoteDef
unused_if is_defined = if is_defined then Some (record { use_count = 0 }) else None

-- the table has exactly these labels, each without a use
abbrev pub HasLabels : List (List ℕ) → FootnoteDefs → Type 0
HasLabels labels table = (folded : List ℕ) → footnote table folded ≡ unused_if (has_label folded labels)
