-- The rest of a row of slots after an opening bracket, if its wikilink shows the text from an offset on (this profile's own).
use Rattle.std.specs.Prelude.{◌≡◌, ℕ, suc, ◌+◌, Bool, true, ◌==◌, nat_le, if◌then◌else◌, max, ◌≤◌, ◌<◌, ◌⊎◌, List, [], ◌∷◌, ◌++◌, length, drop, take, get_or}
use Rattle.cmark_grammar.specs.BracketDecisions.{linked}
use Rattle.cmark_grammar.specs.Emphasis.{Run, Pair}
use Rattle.cmark_grammar.specs.InlineHtml.{takes_lines}
use Rattle.cmark_grammar.specs.Items.{ItemKind, Plain, Own, Written, Quoted, Delimiters, Autolink, OwnedHtml, Item}
use Rattle.cmark_grammar.specs.Lines.{is_content}
use Rattle.cmark_grammar.specs.LinkType as link_type
use Rattle.cmark_grammar.specs.Options.{Options}
use Rattle.cmark_grammar.specs.Parts.{Target}
use Rattle.cmark_grammar.specs.Quotes.{Quote, quote_characters}
use Rattle.cmark_grammar.specs.Siblings.{item}
use Rattle.cmark_inline_model.specs.LikeSlots.{AreLike}
use Rattle.cmark_inline_model.specs.RowParts.{bytes_in}
use Rattle.cmark_inline_model.specs.SlotRows.{Slot, ItemSlot, BeginSlot, EndSlot, NothingSlot, marked, marks_by, quoted}

-- the bytes of a slot end at the offset or before it; Nothing and the end of an element have no bytes
abbrev pub ends_by : (place : ℕ) → Slot → Bool
ends_by place (ItemSlot x) = nat_le x.end place
ends_by place (BeginSlot tag start end) = nat_le end place
ends_by place EndSlot = true
ends_by place NothingSlot = true

-- a slot that begins at the offset, or where it began if that is later
abbrev pub begun_from : (place : ℕ) → Slot → Slot
begun_from place (ItemSlot x) = ItemSlot (item x.kind (max x.start place) x.end)
begun_from place (BeginSlot tag start end) = BeginSlot tag (max start place) end
begun_from place EndSlot = EndSlot
begun_from place NothingSlot = NothingSlot

-- the slots before the first that ends after the offset become Nothing, and that slot begins at the offset
abbrev pub shown_from : (place : ℕ) → List Slot → List Slot
shown_from place [] = []
shown_from place (slot ∷ slots) = if ends_by place slot then NothingSlot ∷ shown_from place slots else begun_from place slot ∷ slots

-- the number of slots before that slot
abbrev pub hidden_by : (place : ℕ) → List Slot → ℕ
hidden_by place [] = 0
hidden_by place (slot ∷ slots) = if ends_by place slot then suc (hidden_by place slots) else 0

-- an empty text, if there is no byte between the offset and the closing bracket
abbrev pub empty_text : (place close : ℕ) → List Slot
empty_text place close = if place == close then ItemSlot (item Own place place) ∷ [] else []

-- a row whose slots from an index on are cut like this, followed by the empty text
abbrev pub display_slots : (from place close : ℕ) → List Slot → List Slot
display_slots from place close slots = take from slots ++ (shown_from place (drop from slots) ++ empty_text place close)

-- of the runs from `first` on, those from `left` on remain. The first byte of each earlier run is in a slot before `at`, and the first byte
-- of run `left` is not
pub record LeavesRuns (first left at : ℕ) (runs : List Run) (bytes : List ℕ) : Type 0 where
  pub order : first ≤ left
  pub before : (k : ℕ) → first ≤ k → k < left → k < length runs → get_or bytes (bytes_in (take k runs)) 0 < at
  pub following : left < length runs → at ≤ get_or bytes (bytes_in (take left runs)) 0

-- of the quotes from `first` on, by the indices of their slots, those from `left` on remain
pub record LeavesQuotes (first left at : ℕ) (quotes : List ℕ) : Type 0 where
  pub order : first ≤ left
  pub before : (k : ℕ) → first ≤ k → k < left → k < length quotes → get_or quotes k 0 < at
  pub following : left < length quotes → at ≤ get_or quotes left 0

-- ## The slot that is cut

-- the kinds of items that may have a pipe before their last byte: not a delimiter run, a quote, or a text that is written in another way
abbrev pub CutKind : ItemKind → Type 0
CutKind (Written text) = ⊥
CutKind (Quoted quote) = ⊥
CutKind (Delimiters run) = ⊥
CutKind (Autolink uri) = ⊥
CutKind _ = Unit {0}

abbrev pub IsText : ItemKind → Type 0
IsText Plain = Unit {0}
IsText Own = Unit {0}
IsText _ = ⊥

-- a tag has a text of its own only if it has a line ending
abbrev pub OwnedFacts : ItemKind → Type 0
OwnedFacts (OwnedHtml text) = takes_lines text ≡ true
OwnedFacts _ = Unit {0}

-- and a text has no line ending
pub record CutFacts (source : List ℕ) (x : Item) : Type 0 where
  pub kind : CutKind x.kind
  pub text : IsText x.kind → (k : ℕ) → x.start ≤ k → k < x.end → is_content (get_or source k 0) ≡ true
  pub owned : OwnedFacts x.kind

-- the first slot that ends after the offset begins there or later, or it is such an item or the start of an element
abbrev pub CanBeCut : (source : List ℕ) → (place : ℕ) → Slot → Type 0
CanBeCut source place (ItemSlot x) = (place ≤ x.start) ⊎ CutFacts source x
CanBeCut source place (BeginSlot tag start end) = Unit {0}
CanBeCut source place EndSlot = ⊥
CanBeCut source place NothingSlot = ⊥

-- a row from an index on can be cut at its first slot that ends after the offset, if it has such a slot
abbrev pub IsCutThere : (source : List ℕ) → (from place : ℕ) → List Slot → Type 0
IsCutThere source from place row =
    hidden_by place (drop from row) < length (drop from row) → CanBeCut source place (get_or (drop from row) (hidden_by place (drop from row)) NothingSlot)

-- slots that are like a row became slots that are like the rest of it; the first slot that is shown has the index `at`
pub record ShowsLike (source : List ℕ) (from place close at : ℕ) (row now : List Slot) : Type 0 where
  pub first : at ≡ from + hidden_by place (drop from row)
  pub like : AreLike source now (display_slots from place close row)

-- a wikilink that shows the text from an offset on
abbrev pub display_target : (name : List ℕ) → (end : ℕ) → Target
display_target name end = record { linked = linked (link_type.WikiLink true) (record { url = name; title = [] }) []; end = end }

-- the slots after the remaining quotes became characters and the pairs of the remaining runs have written their marks
abbrev pub display_dressed : Options → (left_runs left_quotes : ℕ) → List Pair → List Slot → (bytes quotes : List ℕ) → List Run → List Quote → List Slot
display_dressed options left_runs left_quotes pairs slots bytes quotes runs quotes_are =
    marked options (drop (bytes_in (take left_runs runs)) bytes) (marks_by (length (drop (bytes_in (take left_runs runs)) bytes)) pairs) (quoted (drop left_quotes quotes) (quote_characters [] (drop left_quotes quotes_are)) slots) []
