-- The counts of uses of footnotes (this profile's own).
use Rattle.std.specs.Prelude.{◌≡◌, ◌≤◌, ℕ, zero, suc, ◌+◌, ◌-◌, List, take, bytes_eq, if◌then◌else◌, option_map}
use Rattle.cmark_grammar.specs.BracketStates.{Result, StaysText, Forms}
use Rattle.cmark_grammar.specs.Labels.{case_folded}
use Rattle.cmark_grammar.specs.Parts.{Formed, Linking, Footnote, Wiki, Parts, Nil, Single, Form, Closing, Opening}
use Rattle.cmark_references.specs.Footnotes.{footnote, with_use}
use Rattle.cmark_references.specs.declared.footnotes.FootnoteDef.{FootnoteDef}
use Rattle.cmark_references.specs.declared.footnotes.FootnoteDefs.{FootnoteDefs}
use Rattle.cmark_inline.specs.Asking.{closing_brackets}

-- ## The references that are formed

-- the number of footnote references with this folded label. The label of a reference is in normal form
abbrev pub uses_in : (folded : List ℕ) → Formed → ℕ
uses_in folded (Footnote label end) = if bytes_eq folded (case_folded label) then 1 else 0
uses_in folded (Linking target) = 0
uses_in folded (Wiki name display end) = 0

abbrev pub uses_of : (folded : List ℕ) → Parts → ℕ
uses_of folded Nil = 0
uses_of folded (Single x after) = uses_of folded after
uses_of folded (Form opener inside closer formed after) = uses_in folded formed + (uses_of folded inside + uses_of folded after)
uses_of folded (Closing closer after) = uses_of folded after
uses_of folded (Opening opener after) = uses_of folded after

-- the references that one closing bracket forms
abbrev pub uses_by : (folded : List ℕ) → Result → ℕ
uses_by folded StaysText = 0
uses_by folded (Forms nearer formed) = uses_in folded formed

-- ## The counts

abbrev pub with_uses : ℕ → FootnoteDef → FootnoteDef
with_uses zero def = def
with_uses (suc n) def = with_use (with_uses n def)

-- the use count of each definition has risen by `uses` of its folded label, and nothing else has changed
abbrev pub RiseBy : (uses : List ℕ → ℕ) → (old new : FootnoteDefs) → Type 0
RiseBy uses old new = (folded : List ℕ) → footnote new folded ≡ option_map (with_uses (uses folded)) (footnote old folded)

-- the use count of each definition has risen by at most `most`, and nothing else has changed
abbrev pub RiseUpTo : (most : ℕ) → (old new : FootnoteDefs) → Type 0
RiseUpTo most old new = (folded : List ℕ) → (uses : ℕ) × (uses ≤ most) × (footnote new folded ≡ option_map (with_uses uses) (footnote old folded))

-- the use counts have risen by at most one for each closing bracket between the offsets `from` and `to` of a text
abbrev pub RiseBetween : (text : List ℕ) → (from to : ℕ) → (old new : FootnoteDefs) → Type 0
RiseBetween text from to old new = RiseUpTo (closing_brackets (take to text) - closing_brackets (take from text)) old new
