-- The pass over the text of a leaf: what each step needs and keeps, and what the whole pass leaves.
use Rattle.std.specs.Prelude.{◌≡◌, ◌==◌, ◌≤◌, ◌<◌, ℕ, ◌+◌, true, false, List, [], drop, length, slice_index, Option, Result, Err, IsOk, OnErr, OnOk, alloc_error}
use Rattle.std.specs.List.{position_or_len}
use Rattle.std.specs.declared.alloc.AllocError.{AllocError}
use Rattle.cmark_grammar.specs.Characters.{right_bracket}
use Rattle.cmark_grammar.specs.Answers.{Lookup}
use Rattle.cmark_grammar.specs.Options.{Options}
use Rattle.cmark_inline_model.specs.SpecialBytes.{is_special}
use Rattle.cmark_leaf_text.specs.Reads.{text_of}
use Rattle.cmark_leaf_text.specs.declared.leaf_text.LeafText.{LeafText}
use Rattle.cmark_references.specs.declared.definitions.RefDefs.{RefDefs}
use Rattle.cmark_references.specs.declared.footnotes.FootnoteDefs.{FootnoteDefs}
use Rattle.cmark_search.specs.Sets.{in_rows}
use Rattle.cmark_slots.specs.MarkedSlots.{AreWhole, EndWithin}
use Rattle.cmark_slots.specs.SlotViews.{CanBeGiven}
use Rattle.cmark_slots.specs.Slots.{AreSlots}
use Rattle.cmark_slots.specs.Standing.{AreEnded}
use Rattle.cmark_values.specs.declared.text.CowStr.{CowStr}
use Rattle.cmark_inline.specs.Asking.{AsksBetween, AsksUpTo, closing_brackets}
use Rattle.cmark_inline.specs.Footnoted.{SameFootnotes}
use Rattle.cmark_inline.specs.LeastSteps.{CountsLeast, CountsUses}
use Rattle.cmark_inline.specs.Resolved.{Resolves}
use Rattle.cmark_inline.specs.Sought.{AreOfText, IsSoughtIn}
use Rattle.cmark_inline.specs.Sound.{IsSound}
use Rattle.cmark_inline.specs.SpecialReads.{ReadsSpecial}
use Rattle.cmark_inline.specs.Stands.{IsCursor, Moves, Stands}
use Rattle.cmark_inline.specs.Uses.{RiseBetween, RiseUpTo}
use Rattle.cmark_inline.specs.declared.callback.BrokenLink.{BrokenLink}
use Rattle.cmark_inline.specs.declared.state.InlineState.{InlineState}
use Rattle.cmark_inline.specs.declared.step.Cursor.{Cursor}
use Rattle.cmark_inline.specs.declared.step.Sought.{Sought}

-- ## One step

-- the pass is at the cursor, before the end of the text, and its slots are sound
pub record CanReadOn (text : List ℕ) (here : Cursor) (state : InlineState) : Type 0 where
  pub stands : Stands text here.pending state
  pub cursor : IsCursor text here
  pub more : here.at < length text
  pub sound : IsSound state

-- in the text from `from` to `to`: at most one question was asked, and none if nothing was left of the reference expansion limit. The use
-- counts of footnotes have risen by at most one for each closing bracket. The counted steps and the definitions are as before
pub record StaysBetween {F : Type 0} (can : F → Type 0) (R : F → BrokenLink → Option (CowStr × CowStr) → F → Type 0) (text : List ℕ) (from to : ℕ) (notes others : FootnoteDefs) (sought : Sought) (old new : InlineState) (before after : F) : Type 0 where
  pub ready : can after
  pub asks : AsksBetween R text from to before after
  pub spent : old.expansion_left ≡ 0 → (after ≡ before) × (new.expansion_left ≡ 0)
  pub footnotes : SameFootnotes notes others
  pub rise : RiseBetween text from to notes others
  pub steps : new.steps ≡ old.steps
  pub of_text : AreOfText text sought

-- the text was read from the offset `from` to the next cursor, and only brackets in between were asked about or counted. The slots are sound,
-- and the searches up to the cursor are remembered
pub record PassesTo {F : Type 0} (R : F → BrokenLink → Option (CowStr × CowStr) → F → Type 0) (leaf : LeafText) (text : List ℕ) (from : ℕ) (notes others : FootnoteDefs) (memory : Sought) (old new : InlineState) (before after : F) (next : Cursor) : Type 0 where
  pub moves : Moves text from new next
  pub sound : IsSound new
  pub ends : AreEnded leaf old.slots.items → AreEnded leaf new.slots.items
  pub sought : IsSoughtIn leaf text next.at memory
  pub asks : AsksBetween R text from next.at before after
  pub rise : RiseBetween text from next.at notes others

-- the offset of the next byte of a set, from the offset `from` on; the length of the text if there is none
abbrev pub next_in : (rows : List ℕ) → (text : List ℕ) → (from : ℕ) → ℕ
next_in rows text from = from + position_or_len (in_rows rows) (drop from text)

-- without a further special byte, the rest of the text is pending. Otherwise the token at the next one is read, if it is no closing bracket
pub record FindsToken (options : Options) (lookup : Lookup) (rows : List ℕ) (leaf : LeafText) (text : List ℕ) (here : Cursor) (old new : InlineState) (next : Cursor) : Type 0 where
  pub rest : next_in rows text here.at ≡ length text → (next.pending ≡ here.pending) × (next.at ≡ length text) × (new ≡ old)
  pub token : (at : ℕ) → at ≡ next_in rows text here.at → at < length text → is_special options (slice_index text at) ≡ true → (slice_index text at == right_bracket) ≡ false
      → ReadsSpecial options lookup leaf (record { pending = here.pending; at = at }) old new next

-- ## The whole pass

-- at most one question was asked for each closing bracket of the leaf, and none if nothing was left of the reference expansion limit. The use
-- counts of footnotes have risen by at most one for each closing bracket, and their definitions are as before
pub record StaysWithin {F : Type 0} (can : F → Type 0) (R : F → BrokenLink → Option (CowStr × CowStr) → F → Type 0) (leaf : LeafText) (expansion_left : ℕ) (notes others : FootnoteDefs) (before after : F) : Type 0 where
  pub ready : can after
  pub asks : AsksUpTo R (closing_brackets (text_of leaf)) before after
  pub spent : expansion_left ≡ 0 → after ≡ before
  pub footnotes : SameFootnotes notes others
  pub rise : RiseUpTo (closing_brackets (text_of leaf)) notes others

-- the slots are parts of the leaf's text, at most one for each byte. They can be given as events
pub record IsLaidOut (leaf : LeafText) (state : InlineState) : Type 0 where
  pub few : length state.slots.items ≤ length (text_of leaf)
  pub slots : AreSlots (text_of leaf) (length (text_of leaf)) state.slots.items
  pub left : CanBeGiven leaf state.texts.items state.links.items state.slots.items
  pub whole : AreWhole state.slots.items × EndWithin state.slots.items

-- the leaf is read as the grammar reads it: its events, the steps that its parts need at least, and the uses of footnotes in them
pub record ReadsWholly {F : Type 0} (R : F → BrokenLink → Option (CowStr × CowStr) → F → Type 0) (options : Options) (lookup : Lookup) (references : RefDefs) (notes others : FootnoteDefs) (leaf : LeafText) (old new : InlineState) (before after : F) : Type 0 where
  pub reads : Resolves R options lookup references notes leaf old.expansion_left new before after
  pub least : CountsLeast R options lookup references notes leaf old.expansion_left old.steps new.steps before after
  pub uses : CountsUses R options lookup references leaf old.expansion_left notes others before after

-- the state has failed exactly if the call returned an error. A state that has failed fails again, and changes nothing. A text without a byte
-- takes no memory
pub record Fails {F : Type 0} (result : Result (Unit {0}) AllocError) (text : List ℕ) (old new : InlineState) (notes others : FootnoteDefs) (before after : F) : Type 0 where
  pub live : OnOk result (new.failed ≡ false)
  pub failed : OnErr result (new.failed ≡ true)
  pub succeeds : old.failed ≡ false → text ≡ [] → IsOk result
  pub refused : old.failed ≡ true → (result ≡ Err alloc_error) × (new ≡ old) × (others ≡ notes) × (after ≡ before)
