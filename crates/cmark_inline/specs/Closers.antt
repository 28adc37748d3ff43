-- The effect of a closing bracket, in the states of the code and of the grammar.
use Rattle.std.specs.Prelude.{◌≡◌, ◌≤◌, ◌<◌, ℕ, suc, ◌+◌, ◌-◌, Bool, true, false, List, [], ◌∷◌, ◌++◌, drop, length, min, take, Option, Some, None}
use Rattle.cmark_grammar.specs.Answers.{Lookup}
use Rattle.cmark_grammar.specs.BracketDecisions.{decide}
use Rattle.cmark_grammar.specs.BracketStates.{Opener, State, opened, Result, StaysText, Forms, Outcome}
use Rattle.cmark_emphasis.specs.Least.{least_examined}
use Rattle.cmark_grammar.specs.Emphasis.{runs_of}
use Rattle.cmark_grammar.specs.InlineTokens.{token}
use Rattle.cmark_grammar.specs.Items as items
use Rattle.cmark_grammar.specs.LeafReading.{Between}
use Rattle.cmark_grammar.specs.LeafText.{Leaf}
use Rattle.cmark_grammar.specs.Options.{Options}
use Rattle.cmark_grammar.specs.Parts.{Linking, Footnote, Wiki}
use Rattle.cmark_grammar.specs.Readers.{Reader}
use Rattle.cmark_references.specs.declared.definitions.RefDefs.{RefDefs}
use Rattle.cmark_references.specs.declared.footnotes.FootnoteDefs.{FootnoteDefs}
use Rattle.cmark_leaf_text.specs.declared.leaf_text.LeafText.{LeafText}
use Rattle.cmark_values.specs.Shown.{text_bytes}
use Rattle.cmark_values.specs.declared.text.CowStr.{CowStr}
use Rattle.cmark_inline_model.specs.BracketPass.{Pass, closed_by}
use Rattle.cmark_inline.specs.BracketViews.{StandFor, IsFresh, after_opening, standing_of}
use Rattle.cmark_references.specs.Links.{shown_link}
use Rattle.cmark_inline.specs.Decided.{AsksOf, AsksOfTarget, ReadsSame, IsCloser, Remembers, ComesTo, EndsWithin, TargetDecides}
use Rattle.cmark_slots.specs.Doubled.{DropsAfter}
use Rattle.cmark_inline.specs.Reached.{HasRead, ReadsPlaces}
use Rattle.cmark_slots.specs.MarkedSlots.{siblings_from}
use Rattle.cmark_slots.specs.Standing.{AreEnded}
use Rattle.cmark_slots.specs.Slots.{PushesText}
use Rattle.cmark_inline.specs.Stands.{SameSpans}
use Rattle.cmark_inline.specs.FormedSlots.{WritesElement}
use Rattle.cmark_inline.specs.Uses.{RiseBy, uses_by}
use Rattle.cmark_slots.specs.declared.bracket.Bracket.{Bracket}
use Rattle.cmark_slots.specs.declared.bracket.Brackets.{Brackets}
use Rattle.cmark_inline.specs.declared.callback.BrokenLink.{BrokenLink}
use Rattle.cmark_references.specs.declared.link.Link.{Link}
use Rattle.cmark_inline.specs.declared.link.Target.{Target}
use Rattle.cmark_inline.specs.declared.state.InlineState.{InlineState}
use Rattle.cmark_inline.specs.declared.step.Cursor.{Cursor}

-- ## The stacks of brackets afterwards

-- the last bracket was used up
pub record UsesUp (old new : Brackets) : Type 0 where
  pub others : new.standing.items ≡ take (length old.standing.items - 1) old.standing.items
  pub inactive_below : old.inactive_below ≤ length old.standing.items → new.inactive_below ≡ min old.inactive_below (length new.standing.items)

-- the brackets at the end of the stack that end after `place` were removed
pub record Drops (place : ℕ) (old new : Brackets) : Type 0 where
  pub drops : DropsAfter place old.standing.items new.standing.items
  pub inactive_below : new.inactive_below ≡ min old.inactive_below (length new.standing.items)

-- all brackets that open no image are inactive
pub record Deactivates (old new : Brackets) : Type 0 where
  pub standing : new.standing ≡ old.standing
  pub inactive_below : new.inactive_below ≡ length old.standing.items

-- after a link, all brackets that open no image are inactive. An image changes nothing
abbrev pub DeactivatesAfter : (is_image : Bool) → (old new : Brackets) → Type 0
DeactivatesAfter true old new = new ≡ old
DeactivatesAfter false old new = Deactivates old new

-- no bracket is left
pub record IsNone (new : Brackets) : Type 0 where
  pub standing : new.standing.items ≡ []
  pub inactive_below : new.inactive_below ≡ 0

-- the `n` nearest brackets do not stand
abbrev pub NoneStand : (n : ℕ) → List Opener → List Bracket → Type 0
NoneStand n os bs = standing_of (drop n os) (drop n bs) ≡ standing_of os bs

-- if `tries`, the nearest doubled bracket was tried. It is tried if wikilinks are read and another closing bracket follows
abbrev pub TriesDoubled : (tries : Bool) → (old new : Brackets) → Type 0
TriesDoubled true old new = UsesUp old new
TriesDoubled false old new = new ≡ old

-- after a wikilink that begins at `start`, no doubled bracket is left, and no bracket forms a link
pub record LeavesWikilink (start : ℕ) (old new : InlineState) : Type 0 where
  pub drops : DropsAfter start old.brackets.standing.items new.brackets.standing.items
  pub inactive_below : new.brackets.inactive_below ≡ length new.brackets.standing.items
  pub none : IsNone new.doubled

-- after a footnote reference that begins at `start`, no bracket is left, and no doubled one that ends after `start`
pub record LeavesFootnote (start : ℕ) (old new : InlineState) : Type 0 where
  pub none : IsNone new.brackets
  pub drops : Drops start old.doubled new.doubled

-- after a link that begins at `start`, no bracket forms another link
pub record LeavesLink (start : ℕ) (old new : InlineState) : Type 0 where
  pub deactivates : Deactivates old.brackets new.brackets
  pub between : Brackets
  pub drops : Drops start old.doubled between
  pub deactivates_doubled : Deactivates between new.doubled

pub record LeavesImage (start : ℕ) (old new : InlineState) : Type 0 where
  pub same : new.brackets ≡ old.brackets
  pub drops : Drops start old.doubled new.doubled

abbrev pub LeavesElement : (is_image : Bool) → (start : ℕ) → (old new : InlineState) → Type 0
LeavesElement true start old new = LeavesImage start old new
LeavesElement false start old new = LeavesLink start old new

-- ## Links and images

-- the link or the image with this target was formed, and reading continues after it
pub record FormsTarget (options : Options) (bracket : Bracket) (target : Target) (old new : InlineState) (next : Cursor) : Type 0 where
  pub pending : next.pending ≡ target.resume
  pub at : next.at ≡ target.resume
  pub leaves : LeavesElement bracket.is_image bracket.start old new
  pub links : new.links.items ≡ old.links.items ++ (target.link ∷ [])
  pub expansion_left : new.expansion_left ≡ old.expansion_left
  pub label : new.label_close ≡ old.label_close
  pub writes : WritesElement options bracket target old new

abbrev pub Formed : Options → Bracket → Option Target → (old new : InlineState) → Option Cursor → Type 0
Formed options bracket None old new None = new ≡ old
Formed options bracket (Some target) old new (Some next) = FormsTarget options bracket target old new next
Formed options bracket _ old new _ = ⊥

-- the target, if there is one, was formed with the bracket that was taken
pub record LinksBracket {F : Type 0} (R : F → BrokenLink → Option (CowStr × CowStr) → F → Type 0) (options : Options) (lookup : Lookup) (references : RefDefs) (leaf : LeafText) (text : List ℕ) (bracket : Bracket) (close : ℕ)
    (old new : InlineState) (next : Option Cursor) (before after : F) : Type 0 where
  pub target : Option Target
  pub between : InlineState
  pub decides : TargetDecides R options lookup references leaf text bracket close old between target before after
  pub same : SameSpans old between
  pub label : EndsWithin text old.label_close → EndsWithin text between.label_close
  pub table : between.links ≡ old.links
  pub texts : between.texts ≡ old.texts
  pub quotes : between.quotes ≡ old.quotes
  pub formed : Formed options bracket target between new next

abbrev pub LinksTaken : {F : Type 0} → (F → BrokenLink → Option (CowStr × CowStr) → F → Type 0) → Options → Lookup → RefDefs → LeafText → (text : List ℕ) → Option Bracket → (close : ℕ) → (old new : InlineState) → Option Cursor → (before after : F) → Type 0
LinksTaken R options lookup references leaf text None close old new next before after = (next ≡ None) × (new ≡ old) × (after ≡ before)
LinksTaken R options lookup references leaf text (Some bracket) close old new next before after = LinksBracket R options lookup references leaf text bracket close old new next before after

-- the questions with the bracket that was taken, if memory was refused: either nothing was asked, or the question of its target
abbrev pub AsksOfLink : {F : Type 0} → (F → BrokenLink → Option (CowStr × CowStr) → F → Type 0) → Options → Lookup → RefDefs → LeafText → (text : List ℕ) → Option Bracket → (close : ℕ) → (old : InlineState) → (before after : F) → Type 0
AsksOfLink R options lookup references leaf text None close old before after = after ≡ before
AsksOfLink R options lookup references leaf text (Some bracket) close old before after = AsksOfTarget R options lookup references leaf text bracket close old before after

-- ## The effect of a closing bracket

-- the state has read the text up to the offset `at`, and represents the grammar's state `s`. Its opening brackets are `bs`
pub record ShowsState (wikilinks : Bool) (text : List ℕ) (place : ℕ → ℕ) (at : ℕ) (s : State) (bs : List Bracket) (state : InlineState) : Type 0 where
  pub openers : StandFor wikilinks place at s.openers bs state.brackets state.doubled
  pub fresh : IsFresh at state.brackets.inactive_below s.openers bs
  pub remembers : Remembers text place s state

-- an opening bracket from `at` to `inside` was opened, and is the nearest
abbrev pub OpensAs : (wikilinks is_image : Bool) → (text : List ℕ) → (at inside : ℕ) → (old new : InlineState) → Type 0
OpensAs wikilinks is_image text at inside old new =
    (place : ℕ → ℕ) (bracket : items.Bracket) (s : State) (bs : List Bracket)
    → ((k : ℕ) → k < at → place k < place at) → ShowsState wikilinks text place at s bs old → bracket ≡ record { is_image = is_image; start = place at; end = place inside }
    → inside ≡ after_opening is_image at → place inside ≡ after_opening is_image (place at)
    → (b : Bracket) × (new.brackets.standing.items ≡ old.brackets.standing.items ++ (b ∷ [])) × ShowsState wikilinks text place inside (opened bracket s) (b ∷ bs) new

-- the opening brackets that are left
abbrev pub left_of : Result → List Bracket → List Bracket
left_of StaysText bs = bs
left_of (Forms nearer formed) bs = drop (suc nearer) bs

-- the values that a result adds: the parts of a link or an image, or the label of a footnote reference
abbrev pub Notes : Result → (old new : InlineState) → Type 0
Notes (Forms nearer (Linking target)) old new = (parts : Link) × (shown_link parts ≡ target.linked) × (new.links.items ≡ old.links.items ++ (parts ∷ []))
Notes (Forms nearer (Footnote label end)) old new = (text : CowStr) × (text_bytes text ≡ label) × (new.texts.items ≡ old.texts.items ++ (text ∷ []))
Notes (Forms nearer (Wiki name display end)) old new = Unit {0}
Notes StaysText old new = new.links ≡ old.links

-- the count of examined open runs does not fall. For a link or an image, it grows by at least the runs that must be examined after its
-- opening bracket (`least_examined`)
abbrev pub Examines : Result → List Bracket → (old new : InlineState) → Type 0
Examines (Forms nearer (Linking target)) bs old new =
    (b : Bracket) × (drop nearer bs ≡ b ∷ drop (suc nearer) bs) × (old.delimiters.examined + least_examined (runs_of (siblings_from 0 (drop b.runs old.delimiters.placed.items))) ≤ new.delimiters.examined)
Examines (Forms nearer (Footnote label end)) bs old new = old.delimiters.examined ≤ new.delimiters.examined
Examines (Forms nearer (Wiki name display end)) bs old new = old.delimiters.examined ≤ new.delimiters.examined
Examines StaysText bs old new = old.delimiters.examined ≤ new.delimiters.examined

-- let the grammar's pass have read what the old state represents, with the text before the closing bracket as the last slot, if any. Then,
-- with this outcome of the bracket, it has read what the new state represents
abbrev pub ReadsOn : LeafText → Reader → Leaf → (place : ℕ → ℕ) → (pending at : ℕ) → (closer : items.Bracket) → State → List Bracket → Outcome → (old new : InlineState) → Type 0
ReadsOn leaf reader read place pending at closer s bs outcome old new =
    ReadsPlaces leaf reader read place → token reader read s.at ≡ items.Closes closer
    → (before : Between) (p : Pass) (flushed : InlineState) → p.state ≡ s → PushesText pending at old.slots.items flushed.slots.items → flushed ≡ record old { slots = flushed.slots }
    → HasRead leaf reader read place before p bs flushed → HasRead leaf reader read place before (closed_by p closer outcome) (left_of outcome.result bs) new

-- a closing bracket has the outcome that the grammar gives it for the callback's answer, and the callback is asked the grammar's question.
-- The slots that are written represent this outcome. If it is a footnote reference, a use is counted
pub record ClosesAs {F : Type 0} (R : F → BrokenLink → Option (CowStr × CowStr) → F → Type 0) (wikilinks : Bool) (leaf : LeafText) (text : List ℕ) (reader : Reader) (read : Leaf) (place : ℕ → ℕ) (from close : ℕ) (closer : items.Bracket) (s : State)
    (bs : List Bracket) (next : Cursor) (footnotes others : FootnoteDefs) (old new : InlineState) (before after : F) : Type 0 where
  pub outcome : Outcome
  pub comes : ComesTo R (decide reader read s closer) outcome before after
  pub at : outcome.after.at ≡ place next.at
  pub pending : next.pending ≡ next.at
  pub shows : ShowsState wikilinks text place next.at outcome.after (left_of outcome.result bs) new
  pub notes : Notes outcome.result old new
  pub examines : Examines outcome.result bs old new
  pub uses : RiseBy (λ folded. uses_by folded outcome.result) footnotes others
  pub reads : AreEnded leaf old.slots.items → ReadsOn leaf reader read place from close closer s bs outcome old new

abbrev pub Closes : {F : Type 0} → (F → BrokenLink → Option (CowStr × CowStr) → F → Type 0) → Options → Lookup → RefDefs → (footnotes others : FootnoteDefs) → LeafText → (text : List ℕ) → (pending at : ℕ) → (old new : InlineState) → (next : Cursor) → (before after : F) → Type 0
Closes R options lookup references footnotes others leaf text pending at old new next before after =
    (reader : Reader) (read : Leaf) (place : ℕ → ℕ) (closer : items.Bracket) (s : State) (bs : List Bracket)
    → ReadsSame options lookup references footnotes leaf reader read place → IsCloser text place at closer → ShowsState options.wikilinks text place at s bs old
    → ClosesAs R options.wikilinks leaf text reader read place pending at closer s bs next footnotes others old new before after

-- the questions for the closing bracket, if memory was refused: either nothing was asked, or the grammar's question
abbrev pub AsksOfCloser : {F : Type 0} → (F → BrokenLink → Option (CowStr × CowStr) → F → Type 0) → Options → Lookup → RefDefs → FootnoteDefs → LeafText → (text : List ℕ) → (at : ℕ) → (old : InlineState) → (before after : F) → Type 0
AsksOfCloser R options lookup references footnotes leaf text at old before after =
    (reader : Reader) (read : Leaf) (place : ℕ → ℕ) (closer : items.Bracket) (s : State) (bs : List Bracket)
    → ReadsSame options lookup references footnotes leaf reader read place → IsCloser text place at closer → ShowsState options.wikilinks text place at s bs old
    → AsksOf R (decide reader read s closer) before after
