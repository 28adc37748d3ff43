-- The state at a closing bracket, before and after the calls that read it.
use Rattle.std.specs.Prelude.{◌≡◌, ◌≤◌, ◌<◌, ℕ, ◌+◌, ◌*◌, Bool, false, is_some, List, [], ◌∷◌, ◌++◌, drop, length, take, Option, None, Some, IfSome}
use Rattle.std.specs.Str.{IsCharBoundary}
use Rattle.cmark_grammar.specs.Emphasis.{runs_of}
use Rattle.cmark_grammar.specs.Labels.{normal_form}
use Rattle.cmark_grammar.specs.Options.{Options}
use Rattle.cmark_emphasis.specs.Least.{least_examined}
use Rattle.cmark_leaf_text.specs.declared.leaf_text.LeafText.{LeafText}
use Rattle.cmark_references.specs.declared.footnotes.FootnoteDefs.{FootnoteDefs}
use Rattle.cmark_references.specs.declared.link.Link.{Link}
use Rattle.cmark_values.specs.declared.text.CowStr.{CowStr}
use Rattle.cmark_slots.specs.Doubled.{nearest}
use Rattle.cmark_slots.specs.MarkedSlots.{SameBefore, siblings_from}
use Rattle.cmark_slots.specs.Slots.{AreSlots, HoldNoLink, IsBracket, IsEnd, NoNewLink, bytes_of}
use Rattle.cmark_slots.specs.Standing.{AreEnded, AreNamed, CanSettle, EndsIn}
use Rattle.cmark_slots.specs.declared.bracket.Bracket.{Bracket}
use Rattle.cmark_slots.specs.declared.slot.Slot.{Slot}
use Rattle.cmark_inline.specs.Asking.{AsksOnce}
use Rattle.cmark_inline.specs.Closers.{LeavesElement, LeavesFootnote, LeavesWikilink, TriesDoubled}
use Rattle.cmark_inline.specs.Footnoted.{CountsOf, KeepsLabel, SameFootnotes, forms_footnote}
use Rattle.cmark_inline.specs.FormedSlots.{WritesElement}
use Rattle.cmark_inline.specs.Hiding.{WritesReference, WritesShown, WritesWikilink}
use Rattle.cmark_inline.specs.Sound.{IsPairFrom, IsSound, IsTakenFrom}
use Rattle.cmark_inline.specs.Stands.{Flushes, Moves, Stands}
use Rattle.cmark_inline.specs.Uses.{RiseUpTo}
use Rattle.cmark_inline.specs.Wikilinks.{IsNamed}
use Rattle.cmark_inline.specs.declared.callback.BrokenLink.{BrokenLink}
use Rattle.cmark_inline.specs.declared.link.Target.{Target}
use Rattle.cmark_inline.specs.declared.state.InlineState.{InlineState}
use Rattle.cmark_inline.specs.declared.step.Cursor.{Cursor}
use Rattle.cmark_inline.specs.declared.wikilink.Wikilink.{Wikilink}

-- ## The state

-- a pass has read the text up to the offset `at`, and its slots are sound
pub record StandsSound (text : List ℕ) (at : ℕ) (state : InlineState) : Type 0 where
  pub stands : Stands text at state
  pub sound : IsSound state

-- the rest of the reference expansion limit, the counted steps and the remembered end of a label stay
pub record KeepsLimits (old new : InlineState) : Type 0 where
  pub expansion_left : new.expansion_left ≡ old.expansion_left
  pub steps : new.steps ≡ old.steps
  pub label_close : new.label_close ≡ old.label_close

-- the slots are sound. If the closing bracket at `close` formed nothing, the pass has read up to it, and otherwise beyond it
pub record GoesOn (text : List ℕ) (close : ℕ) (old new : InlineState) (next : Option Cursor) : Type 0 where
  pub sound : IsSound new
  pub ends : (leaf : LeafText) → AreEnded leaf old.slots.items → AreEnded leaf new.slots.items
  pub stands : next ≡ None → Stands text close new
  pub moves : IfSome next (Moves text close new)

-- the pass has read beyond the closing bracket at `at`, before which the text from `pending` on was pending. Its slots are sound
pub record PassesCloser (leaf : LeafText) (text : List ℕ) (pending at : ℕ) (old new : InlineState) (next : Cursor) : Type 0 where
  pub sound : IsSound new
  pub ends : AreEnded leaf old.slots.items → AreEnded leaf new.slots.items
  pub moves : Moves text at new next
  pub flushes : Flushes pending at old

-- ## The opening bracket

-- this bracket ends by the offset `at`, and was taken from the state
pub record IsOpening (text : List ℕ) (at : ℕ) (state : InlineState) (opening : Bracket) : Type 0 where
  pub bracket : IsBracket text at opening
  pub taken : IsTakenFrom state opening

-- this bracket was taken from the state, and may form a link or an image. No link begins after it unless it opens an image
pub record CanLink (text : List ℕ) (at : ℕ) (state : InlineState) (opening : Bracket) : Type 0 where
  pub bracket : IsBracket text at opening
  pub taken : IsTakenFrom state opening
  pub free : opening.is_image ≡ false → HoldNoLink state.slots.items opening.slot

-- this doubled bracket was taken from the state, and at least one byte is between it and the closing bracket. The display text of the
-- wikilink begins before the closing bracket or at it
pub record IsPair (text : List ℕ) (close : ℕ) (wikilink : Wikilink) (state : InlineState) (pair : Bracket) : Type 0 where
  pub bracket : IsBracket text close pair
  pub inside : pair.inside < close
  pub display : IfSome wikilink.display (λ place. IsCharBoundary text place × (place ≤ close))
  pub taken : IsPairFrom state pair

-- the bracket has a slot of this state, and the runs and quotes before it are there
pub record IsWithin (bracket : Bracket) (state : InlineState) : Type 0 where
  pub runs : bytes_of state.delimiters.placed.items ≤ length state.slots.items
  pub there : bracket.slot < length state.slots.items
  pub runs_there : bracket.runs ≤ length state.delimiters.placed.items
  pub quotes_there : bracket.quotes ≤ length state.quotes.placed.items

-- ## Questions and uses

-- the callback was asked at most one question, and none if nothing was left of the reference expansion limit. It can be asked again
pub record AsksLeft {F : Type 0} (can : F → Type 0) (R : F → BrokenLink → Option (CowStr × CowStr) → F → Type 0) (old new : InlineState) (before after : F) : Type 0 where
  pub ready : can after
  pub asks : AsksOnce R before after
  pub spent : old.expansion_left ≡ 0 → (after ≡ before) × (new.expansion_left ≡ 0)

-- the use counts of footnotes have risen by at most `most`, and their definitions are as before
pub record UsesUpTo (most : ℕ) (old new : FootnoteDefs) : Type 0 where
  pub footnotes : SameFootnotes old new
  pub rise : RiseUpTo most old new

-- ## The end of an element

-- the runs after the opening bracket were examined: at most 15 for each run, and at least those that must be (`least_examined`)
pub record ExaminesAfter (bracket : Bracket) (old new : InlineState) : Type 0 where
  pub examined : new.delimiters.examined + 15 * length new.delimiters.placed.items ≤ old.delimiters.examined + 15 * length old.delimiters.placed.items
  pub least : old.delimiters.examined + least_examined (runs_of (siblings_from 0 (drop bracket.runs old.delimiters.placed.items))) ≤ new.delimiters.examined

-- the runs and the quotes after the opening bracket are gone
pub record DropsAfterBracket (bracket : Bracket) (old new : InlineState) : Type 0 where
  pub placed : new.delimiters.placed.items ≡ take bracket.runs old.delimiters.placed.items
  pub quotes : new.quotes.placed.items ≡ take bracket.quotes old.quotes.placed.items
  pub runs : bytes_of new.delimiters.placed.items ≤ bytes_of old.delimiters.placed.items

-- one slot more ends the element, and no further link begins in the slots
pub record EndsElement (close end : ℕ) (old new : List Slot) : Type 0 where
  pub slots : (text : List ℕ) (place : ℕ) → AreSlots text place old → IsEnd text place close end → AreSlots text place new
  pub length_is : length new ≡ length old + 1
  pub links : NoNewLink old new

-- ## Links, images and references to footnotes

-- the link or the image with this target was formed. No further link begins after the slot of a link
pub record FormsElement (options : Options) (bracket : Bracket) (target : Target) (old new : InlineState) : Type 0 where
  pub kept : new.links.items ≡ old.links.items ++ (target.link ∷ [])
  pub link : bracket.is_image ≡ false → HoldNoLink new.slots.items (bracket.slot + 1)
  pub leaves : LeavesElement bracket.is_image bracket.start old new
  pub writes : WritesElement options bracket target old new

-- whether a reference is formed, and the use that is counted, follow from the label. Nothing changes if none is formed
pub record DecidesFootnote (options : Options) (label : Option (List ℕ)) (footnotes others : FootnoteDefs) (old new : InlineState) (next : Option Cursor) : Type 0 where
  pub forms : is_some next ≡ forms_footnote options footnotes label
  pub counts : CountsOf label footnotes others
  pub same : next ≡ None → new ≡ old

-- the reference to the footnote with this label was formed, and reading continues after the closing bracket
pub record FormsReference (taken : Option Bracket) (label : Option (List ℕ)) (close : ℕ) (old new : InlineState) (next : Cursor) : Type 0 where
  pub pending : next.pending ≡ close + 1
  pub at : next.at ≡ close + 1
  pub leaves : IfSome taken (λ bracket. LeavesFootnote bracket.start old new)
  pub keeps : IfSome label (λ name. KeepsLabel name old.texts.items new.texts.items)
  pub writes : IfSome taken (λ bracket. IfSome label (λ name. WritesReference bracket (normal_form name) (close + 1) old new))

-- ## Wikilinks

-- the nearest doubled bracket was tried, if any, and nothing else has changed
pub record TriesPair (tries : Bool) (text : List ℕ) (close : ℕ) (old new : InlineState) : Type 0 where
  pub taken : (bracket : Bracket) → IsTakenFrom old bracket → IsTakenFrom new bracket
  pub stands : Stands text close new
  pub others : new ≡ record old { doubled = new.doubled }
  pub tried : TriesDoubled tries old.doubled new.doubled

-- the wikilink of the nearest doubled bracket was formed, and reading continues after both closing brackets
pub record FormsPair (options : Options) (leaf : LeafText) (text : List ℕ) (close : ℕ) (old new : InlineState) (next : Cursor) : Type 0 where
  pub pending : next.pending ≡ close + 2
  pub at : next.at ≡ close + 2
  pub moves : Moves text close new next
  pub leaves : IfSome (nearest old.doubled) (λ tried. LeavesWikilink tried.0.start old new)
  pub writes : IfSome (nearest old.doubled) (λ tried. WritesWikilink options leaf text tried.0 close old new)

-- the wikilink of this doubled bracket was formed. No further link begins after its slot, unless the bracket opens an image
pub record FormsWikilink (options : Options) (text : List ℕ) (pair : Bracket) (close : ℕ) (wikilink : Wikilink) (old new : InlineState) : Type 0 where
  pub parts : (parts : Link) × IsNamed wikilink parts × (new.links.items ≡ old.links.items ++ (parts ∷ []))
  pub link : pair.is_image ≡ false → HoldNoLink new.slots.items (pair.slot + 1)
  pub leaves : LeavesWikilink pair.start old new
  pub writes : WritesShown options text pair close wikilink old new

-- `inside` is the doubled bracket with the numbers of runs and quotes before the shown slots. Those after them can be settled
pub record IsInside (pair : Bracket) (old new : InlineState) (inside : Bracket) : Type 0 where
  pub bracket : inside.slot ≡ pair.slot
  pub settles : CanSettle (pair.slot + 1) new.slots.items (drop inside.runs old.delimiters.placed.items) (drop inside.quotes old.quotes.placed.items)
  pub runs : pair.runs ≤ inside.runs
  pub runs_there : inside.runs ≤ length old.delimiters.placed.items
  pub quotes : pair.quotes ≤ inside.quotes
  pub quotes_there : inside.quotes ≤ length old.quotes.placed.items

-- the slots up to that of the doubled bracket stay, and there is at most one slot more. The slots name only what they named before, and no
-- further link begins in them
pub record HidesSlots (text : List ℕ) (pair : Bracket) (close source_end : ℕ) (old new : List Slot) : Type 0 where
  pub names : (texts links : ℕ) → AreNamed texts links old → AreNamed texts links new
  pub ends : (leaf : LeafText) → AreEnded leaf old → EndsIn leaf close (Some source_end) → AreEnded leaf new
  pub before : SameBefore (pair.slot + 1) old new
  pub slots : (end : ℕ) → AreSlots text close old → close < end → AreSlots text end new
  pub most : length new ≤ length old + 1
  pub longer : length old ≤ length new
  pub links : NoNewLink old new
