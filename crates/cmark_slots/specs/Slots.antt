-- The slots of a leaf's text, and the opening brackets among them.
use Rattle.std.specs.Prelude.{◌≡◌, ℕ, ◌+◌, ◌≤◌, ◌<◌, Bool, true, false, List, [], ◌∷◌, ◌++◌, ◌-◌, length, get_or, All, nat_lt, if◌then◌else◌, set, zero, suc}
use Rattle.std.specs.List.{sum_by}
use Rattle.std.specs.Str.{IsCharBoundary}
use Rattle.cmark_grammar.specs.CodeSpans.{is_backtick}
use Rattle.cmark_leaf_text.specs.Reads.{IsPart}
use Rattle.cmark_slots.specs.declared.bracket.Bracket.{Bracket}
use Rattle.cmark_emphasis.specs.declared.run.PlacedRun.{PlacedRun}
use Rattle.cmark_slots.specs.declared.slot.LinkElement.{LinkElement}
use Rattle.cmark_slots.specs.declared.slot.LinkElement.TheVariants as element
use Rattle.cmark_slots.specs.declared.slot.Slot.{Slot}
use Rattle.cmark_slots.specs.declared.slot.SlotKind.{SlotKind}
use Rattle.cmark_slots.specs.declared.slot.SlotKind.TheVariants as kind

-- the offset of the backticks that end at an offset
abbrev pub before_backticks : (text : List ℕ) → (end : ℕ) → ℕ
before_backticks text zero = zero
before_backticks text (suc at) = if is_backtick (get_or text at 0) then before_backticks text at else suc at

-- a formula with so many dollar signs at its end has its content from this offset on
pub record IsFormula (text : List ℕ) (from signs end : ℕ) : Type 0 where
  pub starts : IsCharBoundary text from
  pub signs_there : signs ≤ end
  pub ends : IsCharBoundary text (end - signs)

-- the content of a code span or a formula that ends at an offset is a part of the text
abbrev pub IsContent : (text : List ℕ) → (end : ℕ) → SlotKind → Type 0
IsContent text end kind.Text = Unit {0}
IsContent text end (kind.OwnedText index) = Unit {0}
IsContent text end (kind.Character character) = Unit {0}
IsContent text end (kind.Whole last) = Unit {0}
IsContent text end kind.SoftBreak = Unit {0}
IsContent text end kind.HardBreak = Unit {0}
IsContent text end (kind.Code from) = IsCharBoundary text from × IsCharBoundary text (before_backticks text end)
IsContent text end (kind.InlineMath from) = IsFormula text from 1 end
IsContent text end (kind.DisplayMath from) = IsFormula text from 2 end
IsContent text end kind.InlineHtml = Unit {0}
IsContent text end (kind.SourceHtml past) = Unit {0}
IsContent text end (kind.CutHtml from) = IsCharBoundary text from
IsContent text end (kind.SourceText past) = Unit {0}
IsContent text end kind.Empty = Unit {0}
IsContent text end (kind.FootnoteReference index) = Unit {0}
IsContent text end (kind.Begin mark) = Unit {0}
IsContent text end (kind.BeginLink element index) = Unit {0}
IsContent text end kind.End = Unit {0}
IsContent text end kind.Nothing = Unit {0}

-- a slot covers bytes of the text before this offset, and begins and ends at character boundaries
pub record IsSlot (text : List ℕ) (at : ℕ) (slot : Slot) : Type 0 where
  pub part : IsPart text slot.start slot.end
  pub before : slot.end ≤ at
  pub content : IsContent text slot.end slot.kind

abbrev pub AreSlots : (text : List ℕ) → (at : ℕ) → List Slot → Type 0
AreSlots text at slots = All (IsSlot text at) slots

-- an opening bracket is before this offset; the `!` of an image is a character of its own
pub record IsBracket (text : List ℕ) (at : ℕ) (bracket : Bracket) : Type 0 where
  pub part : IsPart text bracket.start bracket.inside
  pub mark : bracket.is_image ≡ true → IsCharBoundary text (bracket.start + 1)
  pub before : bracket.inside ≤ at

abbrev pub AreBrackets : (text : List ℕ) → (at : ℕ) → List Bracket → Type 0
AreBrackets text at brackets = All (IsBracket text at) brackets

-- a link or a wikilink begins, which is not an autolink and not an image
abbrev pub is_link : LinkElement → Bool
is_link element.Link = true
is_link element.Autolink = false
is_link element.Image = false

abbrev pub begins_link : SlotKind → Bool
begins_link kind.Text = false
begins_link (kind.OwnedText index) = false
begins_link (kind.Character character) = false
begins_link (kind.Whole last) = false
begins_link kind.SoftBreak = false
begins_link kind.HardBreak = false
begins_link (kind.Code from) = false
begins_link (kind.InlineMath from) = false
begins_link (kind.DisplayMath from) = false
begins_link kind.InlineHtml = false
begins_link (kind.SourceHtml end) = false
begins_link (kind.CutHtml from) = false
begins_link (kind.SourceText end) = false
begins_link kind.Empty = false
begins_link (kind.FootnoteReference index) = false
begins_link (kind.Begin mark) = false
begins_link (kind.BeginLink element index) = is_link element
begins_link kind.End = false
begins_link kind.Nothing = false

-- no link begins in a slot from this index on
abbrev pub HoldNoLink : (slots : List Slot) → (from : ℕ) → Type 0
HoldNoLink slots from = (k : ℕ) (d : Slot) → from ≤ k → k < length slots → begins_link (get_or slots k d).kind ≡ false

-- no link begins where none began before
abbrev pub NoNewLink : (old new : List Slot) → Type 0
NoNewLink old new = (from : ℕ) → HoldNoLink old from → HoldNoLink new from

-- no link begins after a bracket that may still form a link: a link contains no other (CommonMark 6.3)
abbrev pub AreFree : List Slot → (brackets : List Bracket) → (inactive_below : ℕ) → Type 0
AreFree slots brackets inactive_below = (i : ℕ) (d : Bracket) → inactive_below ≤ i → i < length brackets → HoldNoLink slots (get_or brackets i d).slot

-- the number of bytes of delimiter runs
abbrev pub bytes_of : List PlacedRun → ℕ
bytes_of placed = sum_by (λ (p : PlacedRun). p.run_length) placed

-- the end of an element is a slot of the text
abbrev pub IsEnd : (text : List ℕ) → (at close end : ℕ) → Type 0
IsEnd text at close end = IsSlot text at (record { kind = kind.End; start = close; end = end })

-- a text was appended as a slot, unless it is empty
abbrev pub PushesText : (start end : ℕ) → (old new : List Slot) → Type 0
PushesText start end old new = (start < end → new ≡ old ++ (record { kind = kind.Text; start = start; end = end } ∷ [])) × (end ≤ start → new ≡ old)

-- a slot is put at an index: it replaces the slot there, or follows the last
abbrev pub put_at : (at : ℕ) → Slot → List Slot → List Slot
put_at at slot slots = if nat_lt at (length slots) then set slots at slot else slots ++ (slot ∷ [])

-- a slot for each of `size` bytes from `start` on
abbrev pub byte_slots : (start size : ℕ) → List Slot
byte_slots start zero = []
byte_slots start (suc size) = record { kind = kind.Text; start = start; end = start + 1 } ∷ byte_slots (start + 1) size
