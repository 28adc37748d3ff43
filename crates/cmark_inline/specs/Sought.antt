-- The memory of the searches in one leaf.
use Rattle.std.specs.Prelude.{◌≡◌, ℕ, ◌+◌, ◌≤◌, ◌<◌, true, false, List, drop, length}
use Rattle.std.specs.Str.{IsCharBoundary}
use Rattle.cmark_span_scan.specs.Backticks.{AreRunsOf}
use Rattle.cmark_span_scan.specs.Dollars.{AreDollarsOf}
use Rattle.cmark_leaf_text.specs.Reads.{IsPart, source_of}
use Rattle.cmark_leaf_text.specs.declared.leaf_text.LeafText.{LeafText}
use Rattle.cmark_slots.specs.Slots.{IsContent, begins_link}
use Rattle.cmark_slots.specs.declared.slot.SlotKind.TheVariants as kind
use Rattle.cmark_inline.specs.LeastSteps.{PassesFound}
use Rattle.cmark_inline.specs.MarkupInSource.{AreUnclosed, source_from}
use Rattle.cmark_inline.specs.Paid.{ArePaid, MarkupPaid}
use Rattle.cmark_inline.specs.Tokens.{opens_markup}
use Rattle.cmark_inline.specs.declared.markup.FoundHtml.{FoundHtml}
use Rattle.cmark_inline.specs.declared.markup.Unclosed.{Unclosed}
use Rattle.cmark_inline.specs.declared.step.Sought.{Sought}

-- the runs of backticks and the dollar signs are those of the text
pub record AreOfText (text : List ℕ) (sought : Sought) : Type 0 where
  pub runs : AreRunsOf text sought.runs
  pub dollars : AreDollarsOf text sought.dollars

-- the memory is true of the text, of which `at` bytes were read. The steps of all searches so far are paid
pub record IsSoughtIn (leaf : LeafText) (text : List ℕ) (at : ℕ) (sought : Sought) : Type 0 where
  pub of_text : AreOfText text sought
  pub kept : AreUnclosed leaf at sought.unclosed
  pub paid : ArePaid leaf at sought

-- ## Markup

-- the memory is true of markup at the offset `at` or later, and the bytes that were passed are paid
pub record IsMarkupSought (leaf : LeafText) (at : ℕ) (unclosed : Unclosed) : Type 0 where
  pub kept : AreUnclosed leaf at unclosed
  pub paid : MarkupPaid leaf at unclosed

-- a search passes bytes of the source, and at least those of markup that is closed, except the first two
pub record SearchesMarkup (leaf : LeafText) (text : List ℕ) (at : ℕ) (before after : Unclosed) : Type 0 where
  pub grows : before.passed ≤ after.passed
  pub passes : opens_markup (drop (at + 1) text) ≡ true → PassesFound (source_from leaf at) before after

-- the first bytes, at least one, and up to a character boundary
pub record IsSizeIn (bytes : List ℕ) (size : ℕ) : Type 0 where
  pub some : 0 < size
  pub within : size ≤ length bytes
  pub ends : IsCharBoundary bytes size

-- what was found can be a slot: it is a part of the text, it begins no link, and it ends at a character boundary of the source
pub record CanBeSlot (leaf : LeafText) (text : List ℕ) (at : ℕ) (found : FoundHtml) : Type 0 where
  pub part : IsPart text at found.end
  pub content : IsContent text found.end found.kind
  pub kind_is : begins_link found.kind ≡ false
  pub edge : (end : ℕ) → found.kind ≡ kind.SourceHtml end → IsCharBoundary (source_of leaf) end
