-- The contents of a table of footnote definitions.
use Rattle.std.specs.Prelude.{◌≡◌, ℕ, ◌+◌, min, List, bytes_eq, if◌then◌else◌, Option, option_map}
use Rattle.std.specs.BTreeMap.{is_at}
use Rattle.std.specs.Map.{lookup}
use Rattle.std.specs.Cmp.Lexicographic.{slice_cmp}
use Rattle.std.specs.Ordering.{nat_cmp}
use Rattle.cmark_values.specs.Labelled.{footnote_key}
use Rattle.cmark_references.specs.declared.footnotes.FootnoteDef.{FootnoteDef}
use Rattle.cmark_references.specs.declared.footnotes.FootnoteDefs.{FootnoteDefs}

-- the definition of a folded label
abbrev pub footnote : FootnoteDefs → List ℕ → Option FootnoteDef
footnote table folded = lookup (is_at (λ label. slice_cmp nat_cmp folded (footnote_key label))) table

-- a definition with one further use, up to the largest number
abbrev pub with_use : FootnoteDef → FootnoteDef
with_use def = record { use_count = min (def.use_count + 1) 18446744073709551615 }

-- a label, if it is defined, gets one further use, and the other definitions are unchanged
abbrev pub Counts : (label : List ℕ) → (old new : FootnoteDefs) → Type 0
Counts label old new = (folded : List ℕ) → footnote new folded ≡ (if bytes_eq folded label then option_map with_use (footnote old folded) else footnote old folded)

abbrev pub Keeps : (old new : FootnoteDefs) → Type 0
Keeps old new = (folded : List ℕ) → footnote new folded ≡ footnote old folded
