-- Questions about references without a definition.
use Rattle.std.specs.Prelude.{◌≡◌, ◌==◌, ◌⊎◌, ◌≤◌, ◌<◌, ℕ, zero, suc, Bool, List, Option, count_by, length, slice_index}
use Rattle.cmark_grammar.specs.Characters.{right_bracket}
use Rattle.cmark_values.specs.declared.text.CowStr.{CowStr}
use Rattle.cmark_inline.specs.declared.callback.BrokenLink.{BrokenLink}

-- a callback was asked once, or not at all
abbrev pub AsksOnce : {F : Type 0} → (F → BrokenLink → Option (CowStr × CowStr) → F → Type 0) → (before after : F) → Type 0
AsksOnce R before after = (after ≡ before) ⊎ ((link : BrokenLink) × (answer : Option (CowStr × CowStr)) × R before link answer after)

-- a callback was asked at most this number of questions, one after the other
abbrev pub AsksUpTo : {F : Type 0} → (F → BrokenLink → Option (CowStr × CowStr) → F → Type 0) → ℕ → (before after : F) → Type 0
AsksUpTo R zero before after = after ≡ before
AsksUpTo {F} R (suc n) before after = (next : F) × AsksUpTo R n before next × AsksOnce R next after

-- the number of closing brackets in a text
abbrev pub is_closing_bracket : ℕ → Bool
is_closing_bracket b = b == right_bracket

abbrev pub closing_brackets : List ℕ → ℕ
closing_brackets text = count_by is_closing_bracket text

-- a callback was not asked, or it was asked once and a closing bracket is between the offsets `from` and `to` of the text
abbrev pub AsksBetween : {F : Type 0} → (F → BrokenLink → Option (CowStr × CowStr) → F → Type 0) → (text : List ℕ) → (from to : ℕ) → (before after : F) → Type 0
AsksBetween R text from to before after = (after ≡ before) ⊎ (AsksOnce R before after × ((k : ℕ) × (from ≤ k) × (k < to) × (k < length text) × (slice_index text k ≡ right_bracket)))
