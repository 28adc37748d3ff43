-- Inline HTML that is found in the text of a leaf, or in its source.
use Rattle.std.specs.Prelude.{◌≡◌, ◌⊎◌, ℕ, ◌+◌, ◌-◌, ◌≤◌, ◌<◌, true, false, List, length, drop, slice_index, Some, None}
use Rattle.cmark_grammar.specs.Answers.{Lookup}
use Rattle.cmark_grammar.specs.Autolinks.{autolink_in}
use Rattle.cmark_grammar.specs.InlineHtml.{after_inline_html, after_markup}
use Rattle.cmark_grammar.specs.Options.{Options}
use Rattle.cmark_grammar.specs.Tokens.{slice}
use Rattle.cmark_scan_bytes.specs.Guards.{AreMarks}
use Rattle.cmark_leaf_text.specs.declared.leaf_text.LeafText.{LeafText}
use Rattle.cmark_leaf_text.specs.Reads.{IsFirstFrom, is_cell_of, text_of, source_of, place_of}
use Rattle.cmark_inline.specs.Tokens.{Passes, Puts, Appends, AppendsAutolink, opens_markup, read_on}
use Rattle.cmark_inline.specs.declared.markup.FoundHtml.{FoundHtml}
use Rattle.cmark_inline.specs.declared.markup.Unclosed.{Unclosed}
use Rattle.cmark_slots.specs.declared.slot.SlotKind.TheVariants as kind
use Rattle.cmark_inline.specs.declared.state.InlineState.{InlineState}
use Rattle.cmark_inline.specs.declared.step.Cursor.{Cursor}

-- the source from a byte of the leaf to the end of its last line
abbrev pub source_from : LeafText → ℕ → List ℕ
source_from leaf at = slice (source_of leaf) (place_of leaf at) (place_of leaf (length (text_of leaf) - 1) + 1)

-- a tag in the leaf's text
pub record IsTag (leaf : LeafText) (at : ℕ) (found : FoundHtml) : Type 0 where
  pub opens : opens_markup (drop (at + 1) (text_of leaf)) ≡ false
  pub kind_is : found.kind ≡ kind.InlineHtml
  pub closes : after_inline_html (drop at (text_of leaf)) ≡ Some (drop found.end (text_of leaf))

-- a comment, a processing instruction, a declaration or a CDATA section in the source. The leaf's text continues at its first byte after it
pub record IsInSource (leaf : LeafText) (at : ℕ) (found : FoundHtml) : Type 0 where
  pub size : ℕ
  pub opens : opens_markup (drop (at + 1) (text_of leaf)) ≡ true
  pub within : size ≤ length (source_from leaf at)
  pub closes : after_markup (source_from leaf at) ≡ Some (drop size (source_from leaf at))
  pub kind_is : found.kind ≡ kind.SourceHtml (place_of leaf at + size)
  pub goes_on : IsFirstFrom leaf (place_of leaf at + size) found.end

abbrev pub IsFound : LeafText → (at : ℕ) → FoundHtml → Type 0
IsFound leaf at found = IsTag leaf at found ⊎ IsInSource leaf at found

-- nothing is found: the text has no tag there, or the source no markup that is closed
pub record FindsNone (leaf : LeafText) (at : ℕ) : Type 0 where
  pub tag : opens_markup (drop (at + 1) (text_of leaf)) ≡ false → after_inline_html (drop at (text_of leaf)) ≡ None
  pub markup : opens_markup (drop (at + 1) (text_of leaf)) ≡ true → after_markup (source_from leaf at) ≡ None

-- the marks of earlier searches are true for markup that begins at the offset `at` of the text or later. Their offsets are counted in the
-- source, from the leaf's first byte on
abbrev pub AreUnclosed : LeafText → (at : ℕ) → Unclosed → Type 0
AreUnclosed leaf at unclosed = (k : ℕ) → at ≤ k → k < length (text_of leaf) → AreMarks (source_from leaf 0) (place_of leaf k - place_of leaf 0 + 2) unclosed.guard

-- ## Tokens that begin with `<`

-- the pending text was appended, and then a slot for markup that the source closes
pub record AppendsMarkup (options : Options) (leaf : LeafText) (here : Cursor) (old new : InlineState) (next : Cursor) : Type 0 where
  pub byte : slice_index (text_of leaf) here.at ≡ 60
  pub autolink : autolink_in options.email_autolinks (drop (here.at + 1) (text_of leaf)) ≡ None
  pub found : FoundHtml
  pub is : IsInSource leaf here.at found
  pub at : next.at ≡ read_on (text_of leaf) found.end
  pub pending : next.pending ≡ next.at
  pub slots : Puts here.pending here.at (record { kind = found.kind; start = here.at; end = found.end }) old.slots.items new.slots.items
  pub others : new ≡ record old { slots = new.slots }

-- the pending text was appended, and then the `<` as a text of its own, since it opens markup that the source does not close
pub record AppendsUnclosed (options : Options) (leaf : LeafText) (here : Cursor) (old new : InlineState) (next : Cursor) : Type 0 where
  pub byte : slice_index (text_of leaf) here.at ≡ 60
  pub autolink : autolink_in options.email_autolinks (drop (here.at + 1) (text_of leaf)) ≡ None
  pub opens : opens_markup (drop (here.at + 1) (text_of leaf)) ≡ true
  pub closes : after_markup (source_from leaf here.at) ≡ None
  pub at : next.at ≡ here.at + 1
  pub pending : next.pending ≡ next.at
  pub slots : Puts here.pending here.at (record { kind = kind.Text; start = here.at; end = next.at }) old.slots.items new.slots.items
  pub others : new ≡ record old { slots = new.slots }

abbrev pub ReadsLess : Options → Lookup → LeafText → (here : Cursor) → (old new : InlineState) → (next : Cursor) → Type 0
ReadsLess options lookup leaf here old new next =
    Passes options lookup (is_cell_of leaf) (text_of leaf) here old new next
    ⊎ (AppendsAutolink options lookup (is_cell_of leaf) (text_of leaf) here old new next
    ⊎ (Appends options lookup (is_cell_of leaf) (text_of leaf) here old new next
    ⊎ (AppendsMarkup options leaf here old new next
    ⊎ AppendsUnclosed options leaf here old new next)))
