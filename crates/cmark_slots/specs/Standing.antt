-- Facts about the slots of a leaf while it is read: about the texts and links that they name, and about the quotes, delimiter runs and
-- brackets among them.
use Rattle.std.specs.Prelude.{◌≡◌, ◌⊎◌, ℕ, ◌+◌, ◌<◌, ◌≤◌, List, length, get_or, All, Option, Some, None}
use Rattle.std.specs.Str.{IsCharBoundary}
use Rattle.cmark_emphasis.specs.Counts.{IsKnownPlaced}
use Rattle.cmark_leaf_text.specs.Reads.{place_of, source_of, text_of}
use Rattle.cmark_leaf_text.specs.declared.leaf_text.LeafText.{LeafText}
use Rattle.cmark_slots.specs.MarkedSlots.{AreWhole, EndWithin, HaveBytes, HaveTexts, SameBefore, last_in}
use Rattle.cmark_slots.specs.SlotViews.{AreOnce, IsThere, link_named, text_named}
use Rattle.cmark_slots.specs.declared.bracket.Bracket.{Bracket}
use Rattle.cmark_emphasis.specs.declared.run.PlacedRun.{PlacedRun}
use Rattle.cmark_slots.specs.declared.quote.PlacedQuote.{PlacedQuote}
use Rattle.cmark_slots.specs.declared.slot.Slot.{Slot}
use Rattle.cmark_slots.specs.declared.slot.SlotKind.{SlotKind}
use Rattle.cmark_slots.specs.declared.slot.SlotKind.TheVariants as kind

-- ## Texts and links

-- each text and each link that slots name exists, and is named once
pub record AreNamed (texts links : ℕ) (slots : List Slot) : Type 0 where
  pub texts_there : All (λ (slot : Slot). IsThere texts (text_named slot.kind)) slots
  pub links_there : All (λ (slot : Slot). IsThere links (link_named slot.kind)) slots
  pub texts_once : AreOnce text_named slots
  pub links_once : AreOnce link_named slots

-- the end, in the source, of a slot that is a part of the source
abbrev pub source_end : SlotKind → Option ℕ
source_end (kind.SourceHtml end) = Some end
source_end (kind.SourceText end) = Some end
source_end _ = None

-- this end is at a character boundary. A byte of the leaf's text is before it in the source exactly if it is before the end of the slot
abbrev pub EndsIn : LeafText → (end : ℕ) → Option ℕ → Type 0
EndsIn leaf end None = Unit {0}
EndsIn leaf end (Some past) =
    ((k : ℕ) → k < end → place_of leaf k < past) × IsCharBoundary (source_of leaf) past × ((k : ℕ) → end ≤ k → k < length (text_of leaf) → past ≤ place_of leaf k)

abbrev pub AreEnded : LeafText → List Slot → Type 0
AreEnded leaf slots = All (λ (slot : Slot). EndsIn leaf slot.end (source_end slot.kind)) slots

-- a slot names no text and no link, and is not a part of the source
abbrev pub IsPlain : SlotKind → Type 0
IsPlain kind = (text_named kind ≡ None) × (link_named kind ≡ None) × (source_end kind ≡ None)

-- a slot names what another one names, and has its end
abbrev pub NamesAs : (old new : Slot) → Type 0
NamesAs old new = (text_named new.kind ≡ text_named old.kind) × (link_named new.kind ≡ link_named old.kind) × (source_end new.kind ≡ source_end old.kind) × (new.end ≡ old.end)

-- each slot names what it named before, or nothing
abbrev pub NamesNoMore : (old new : List Slot) → Type 0
NamesNoMore old new = (k : ℕ) (d : Slot) → k < length new → IsPlain (get_or new k d).kind ⊎ ((k < length old) × NamesAs (get_or old k d) (get_or new k d))

-- ## Quotes, runs and brackets

-- no quote is among the bytes of a run
abbrev pub AreApart : List PlacedRun → List PlacedQuote → Type 0
AreApart runs quotes = All (λ (q : PlacedQuote). All (λ (r : PlacedRun). (q.slot < r.slot) ⊎ (r.slot + r.run_length ≤ q.slot)) runs) quotes

abbrev pub HaveSizes : List PlacedRun → Type 0
HaveSizes runs = All (λ (r : PlacedRun). 0 < r.run_length) runs

-- their bytes and lengths are those of delimiter runs
abbrev pub AreKnown : List PlacedRun → Type 0
AreKnown runs = All IsKnownPlaced runs

-- the slot of each quote is before the slot of the next one
abbrev pub StandInOrder : List PlacedQuote → Type 0
StandInOrder quotes = (i j : ℕ) (d : PlacedQuote) → i < j → j < length quotes → (get_or quotes i d).slot < (get_or quotes j d).slot

-- an opening bracket is a text in a slot, and has the numbers of runs and quotes before that slot
pub record IsPlaced (slots : List Slot) (runs : List PlacedRun) (quotes : List PlacedQuote) (bracket : Bracket) : Type 0 where
  pub there : bracket.slot < length slots
  pub text : (d : Slot) → (get_or slots bracket.slot d).kind ≡ kind.Text
  pub runs_there : bracket.runs ≤ length runs
  pub runs_before : (k : ℕ) (d : PlacedRun) → k < bracket.runs → (get_or runs k d).slot + (get_or runs k d).run_length ≤ bracket.slot
  pub runs_after : (k : ℕ) (d : PlacedRun) → bracket.runs ≤ k → k < length runs → bracket.slot < (get_or runs k d).slot
  pub quotes_there : bracket.quotes ≤ length quotes
  pub quotes_before : (k : ℕ) (d : PlacedQuote) → k < bracket.quotes → (get_or quotes k d).slot < bracket.slot
  pub quotes_after : (k : ℕ) (d : PlacedQuote) → bracket.quotes ≤ k → k < length quotes → bracket.slot < (get_or quotes k d).slot

-- a bracket that begins before another one has an earlier slot
abbrev pub BeginsBefore : (one other : Bracket) → Type 0
BeginsBefore one other = one.start < other.start → one.slot < other.slot

-- each bracket begins before the next one, and has an earlier slot
abbrev pub AreInOrder : List Bracket → Type 0
AreInOrder brackets = (i j : ℕ) (d : Bracket) → i < j → j < length brackets → ((get_or brackets i d).start < (get_or brackets j d).start) × ((get_or brackets i d).slot < (get_or brackets j d).slot)

-- each bracket ends before the next one
abbrev pub EndInOrder : List Bracket → Type 0
EndInOrder brackets = (i j : ℕ) (d : Bracket) → i < j → j < length brackets → (get_or brackets i d).inside < (get_or brackets j d).inside

-- the facts about slots that name `texts` texts and `links` links, with these runs, quotes and brackets among them
pub record AreSound (texts links : ℕ) (slots : List Slot) (runs : List PlacedRun) (quotes : List PlacedQuote) (standing doubled : List Bracket) : Type 0 where
  pub named : AreNamed texts links slots
  pub whole : AreWhole slots
  pub within : EndWithin slots
  pub quotes_are : HaveTexts slots quotes
  pub quotes_order : StandInOrder quotes
  pub runs_are : HaveBytes slots 0 0 runs
  pub sizes : HaveSizes runs
  pub known : AreKnown runs
  pub apart : AreApart runs quotes
  pub standing_are : All (IsPlaced slots runs quotes) standing
  pub doubled_are : All (IsPlaced slots runs quotes) doubled
  pub ordered : AreInOrder standing
  pub standing_end : EndInOrder standing
  pub doubled_end : EndInOrder doubled
  pub crossed : All (λ (b : Bracket). All (λ (d : Bracket). BeginsBefore b d × BeginsBefore d b) doubled) standing

-- ## Quotes and runs that are settled

-- quotes and runs in slots from an index on can get their characters and their marks
pub record CanSettle (low : ℕ) (slots : List Slot) (runs : List PlacedRun) (quotes : List PlacedQuote) : Type 0 where
  pub whole : AreWhole slots
  pub within : EndWithin slots
  pub quotes_are : HaveTexts slots quotes
  pub quotes_after : All (λ (q : PlacedQuote). low ≤ q.slot) quotes
  pub runs_are : HaveBytes slots low 0 runs
  pub sizes : HaveSizes runs
  pub known : AreKnown runs
  pub apart : AreApart runs quotes

-- they have got them: nothing is named that was not named before, and the slots before the index are unchanged
pub record IsSettled (low : ℕ) (old new : List Slot) : Type 0 where
  pub names : NamesNoMore old new
  pub whole : AreWhole new
  pub within : EndWithin new
  pub before : SameBefore low old new

-- ## A bracket that was removed

-- it comes after the brackets that are left
pub record IsTaken (slots : List Slot) (runs : List PlacedRun) (quotes : List PlacedQuote) (standing doubled : List Bracket) (bracket : Bracket) : Type 0 where
  pub placed : IsPlaced slots runs quotes bracket
  pub standing_before : All (λ (b : Bracket). b.slot < bracket.slot) standing
  pub doubled_before : All (λ (d : Bracket). BeginsBefore d bracket) doubled

-- and a doubled bracket comes after the single ones that begin before it
pub record IsTakenPair (slots : List Slot) (runs : List PlacedRun) (quotes : List PlacedQuote) (standing : List Bracket) (bracket : Bracket) : Type 0 where
  pub placed : IsPlaced slots runs quotes bracket
  pub standing_before : All (λ (b : Bracket). BeginsBefore b bracket) standing

-- ## Facts that calls preserve

-- a slot of this kind names nothing, and no other slot belongs to it
abbrev pub StandsAlone : SlotKind → Type 0
StandsAlone kind = IsPlain kind × ((i : ℕ) → last_in kind i ≡ i)
