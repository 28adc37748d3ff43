-- The outcome of a decision about a closing bracket, if a callback answers its question.
use Rattle.std.specs.Prelude.{◌≡◌, ◌⊎◌, ◌≤◌, ◌<◌, ℕ, suc, ◌+◌, ◌-◌, Bool, true, false, List, length, get_or, Option, Some, None, is_some, option_map}
use Rattle.cmark_grammar.specs.Characters.{right_bracket}
use Rattle.cmark_grammar.specs.Answers as answers
use Rattle.cmark_grammar.specs.Answers.{Lookup}
use Rattle.cmark_grammar.specs.BlockDocument as block
use Rattle.cmark_grammar.specs.BracketDecisions.{following, is_there, link_or, links, stays, or_empty}
use Rattle.cmark_grammar.specs.BracketStates.{State, Outcome, Decision, Settled, Asks}
use Rattle.cmark_grammar.specs.Items as items
use Rattle.cmark_grammar.specs.LeafText.{Leaf}
use Rattle.cmark_grammar.specs.LinkTails.{link_tail_in}
use Rattle.cmark_grammar.specs.LinkType as link
use Rattle.cmark_grammar.specs.OpenBrackets.{Taken}
use Rattle.cmark_grammar.specs.Options.{Options}
use Rattle.cmark_grammar.specs.Questions.{Question, Exchange}
use Rattle.cmark_grammar.specs.Readers.{Reader}
use Rattle.cmark_references.specs.Definitions.{definition}
use Rattle.cmark_references.specs.Footnotes.{footnote}
use Rattle.cmark_references.specs.declared.definitions.RefDefs.{RefDefs}
use Rattle.cmark_references.specs.declared.footnotes.FootnoteDefs.{FootnoteDefs}
use Rattle.cmark_leaf_text.specs.Reads as reads
use Rattle.cmark_leaf_text.specs.Reads.{source_of, text_of, is_cell_of}
use Rattle.cmark_leaf_text.specs.declared.leaf_text.LeafText.{LeafText}
use Rattle.cmark_references.specs.Links.{shown_link}
use Rattle.cmark_values.specs.Shown.{shown_link_type, text_bytes}
use Rattle.cmark_values.specs.declared.text.CowStr.{CowStr}
use Rattle.cmark_inline_model.specs.TextPlaces.{ArePlaces}
use Rattle.cmark_inline.specs.BracketViews.{IsPlaced}
use Rattle.cmark_inline.specs.Footnoted.{footnote_of, forms_footnote}
use Rattle.cmark_inline.specs.Linked.{Said, said_by}
use Rattle.cmark_slots.specs.declared.bracket.Bracket.{Bracket}
use Rattle.cmark_inline.specs.declared.state.InlineState.{InlineState}
use Rattle.cmark_inline.specs.declared.callback.BrokenLink.{BrokenLink}
use Rattle.cmark_inline.specs.declared.link.Target.{Target}

-- ## The leaf that is read

abbrev pub said : block.Reference → Said
said reference = record { destination = reference.destination; title = or_empty reference.title }

-- the grammar reads this leaf, with these options, entities, definitions and footnotes, and a callback
pub record ReadsSame (options : Options) (lookup : Lookup) (references : RefDefs) (footnotes : FootnoteDefs) (leaf : LeafText) (reader : Reader) (read : Leaf) (place : ℕ → ℕ) : Type 0 where
  pub source : reader.source ≡ source_of leaf
  pub options_are : reader.options ≡ options
  pub lookup_is : reader.lookup ≡ lookup
  pub definitions : (folded : List ℕ) → option_map said (reader.definition folded) ≡ option_map said_by (definition references folded)
  pub footnotes_are : (folded : List ℕ) → reader.has_footnote folded ≡ is_some (footnote footnotes folded)
  pub callback : reader.has_callback ≡ true
  pub cell : read.is_cell ≡ is_cell_of leaf
  pub places : ArePlaces reader read (text_of leaf) place
  pub bytes : (k : ℕ) → k < length (text_of leaf) → reads.place_of leaf k ≡ place k

-- `closer` is the grammar's closing bracket at the offset `close` of the text
pub record IsCloser (text : List ℕ) (place : ℕ → ℕ) (close : ℕ) (closer : items.Bracket) : Type 0 where
  pub within : close < length text
  pub byte : get_or text close 0 ≡ right_bracket
  pub start : closer.start ≡ place close
  pub end : closer.end ≡ suc (place close)

abbrev pub EndsWithin : (text : List ℕ) → Option ℕ → Type 0
EndsWithin text None = Unit {0}
EndsWithin text (Some place) = place ≤ length text

-- a full reference (CommonMark 6.3)
abbrev pub is_full : link.LinkType → Bool
is_full link.Reference = true
is_full _ = false

-- both states have equal rests of the reference expansion limit, and one closing bracket of a full reference's label
pub record Remembers (text : List ℕ) (place : ℕ → ℕ) (s : State) (state : InlineState) : Type 0 where
  pub expansion_left : s.expansion_left ≡ state.expansion_left
  pub label : s.label_close ≡ option_map place state.label_close
  pub within : EndsWithin text state.label_close

-- ## Questions and answers

abbrev pub shown_question : BrokenLink → Question
shown_question link = record { start = link.span.start; end = link.span.end; link_type = shown_link_type link.link_type; reference = text_bytes link.reference }

abbrev pub shown_answer : CowStr × CowStr → answers.Destination
shown_answer answer = record { url = text_bytes answer.0; title = text_bytes answer.1 }

-- a callback was asked `question`, and gave `answer`
pub record AsksThis {F : Type 0} (R : F → BrokenLink → Option (CowStr × CowStr) → F → Type 0) (question : Question) (answer : Option answers.Destination) (before after : F) : Type 0 where
  pub link : BrokenLink
  pub told : Option (CowStr × CowStr)
  pub question_is : shown_question link ≡ question
  pub answer_is : option_map shown_answer told ≡ answer
  pub run : R before link told after

-- the outcome of a decision. If the decision is settled, nothing was asked; otherwise only its question was asked
abbrev pub ComesTo : {F : Type 0} → (F → BrokenLink → Option (CowStr × CowStr) → F → Type 0) → Decision → Outcome → (before after : F) → Type 0
ComesTo R (Settled settled) outcome before after = (outcome ≡ settled) × (after ≡ before)
ComesTo R (Asks question answered) outcome before after = (answer : Option answers.Destination) × AsksThis R question answer before after × (outcome ≡ answered answer)

-- the questions for a decision, if memory was refused: either nothing was asked, or its question
abbrev pub AsksOf : {F : Type 0} → (F → BrokenLink → Option (CowStr × CowStr) → F → Type 0) → Decision → (before after : F) → Type 0
AsksOf R (Settled settled) before after = after ≡ before
AsksOf R (Asks question answered) before after = (after ≡ before) ⊎ ((answer : Option answers.Destination) × AsksThis R question answer before after)

-- ## Links and images

-- the outcome for a link or an image with this target. Without a target, the closing bracket is a text
abbrev pub target_outcome : Reader → Leaf → (place : ℕ → ℕ) → Taken → (closer : items.Bracket) → State → Option Target → Outcome
target_outcome reader leaf place taken closer s None = stays reader leaf closer s
target_outcome reader leaf place taken closer s (Some target) = links reader leaf taken (shown_link target.link) (place target.end) (place target.resume) s

-- the state with these three values: the rest of the reference expansion limit, the closing bracket of a full reference's label, the
-- questions
abbrev pub with_left : (expansion_left : ℕ) → (label_close : Option ℕ) → List Exchange → State → State
with_left expansion_left label_close asked s = record { at = s.at; expansion_left = expansion_left; label_close = label_close; asked = asked; openers = s.openers }

-- a decision leads to a link or an image with the target `found`, or to nothing. It leaves `expansion_left` of the reference expansion
-- limit, and the closing bracket `label_close` of a label
pub record LeadsTo {F : Type 0} (R : F → BrokenLink → Option (CowStr × CowStr) → F → Type 0) (reader : Reader) (leaf : Leaf) (place : ℕ → ℕ) (taken : Taken) (closer : items.Bracket) (decision : Decision) (s : State) (expansion_left : ℕ)
    (label_close : Option ℕ) (found : Option Target) (before after : F) : Type 0 where
  pub asked : List Exchange
  pub comes : ComesTo R decision (target_outcome reader leaf place taken closer (with_left expansion_left label_close asked s) found) before after

-- a target ends directly after the place of its last byte, since this byte ends no line
abbrev pub EndsTogether : LeafText → (place : ℕ → ℕ) → Option Target → Type 0
EndsTogether leaf place None = Unit {0}
EndsTogether leaf place (Some target) = reads.place_of leaf (target.end - 1) + 1 ≡ place target.end

-- if the closing bracket forms no footnote reference with the bracket that it takes, the grammar decides on a link or an image. It has the
-- target `found`, or is nothing
abbrev pub TargetDecides : {F : Type 0} → (F → BrokenLink → Option (CowStr × CowStr) → F → Type 0) → Options → Lookup → RefDefs → LeafText → (text : List ℕ) → Bracket → (close : ℕ) → (old new : InlineState) → Option Target → (before after : F) → Type 0
TargetDecides R options lookup references leaf text bracket close old new found before after =
    (footnotes : FootnoteDefs) (reader : Reader) (read : Leaf) (place : ℕ → ℕ) (taken : Taken) (closer : items.Bracket) (s : State)
    → ReadsSame options lookup references footnotes leaf reader read place → IsCloser text place close closer → IsPlaced place taken.opener bracket → Remembers text place s old
    → forms_footnote options footnotes (footnote_of options (is_cell_of leaf) (is_there close old.label_close) text close (Some bracket)) ≡ false
    → LeadsTo R reader read place taken closer (link_or reader read (link_tail_in (following reader read closer.end)) taken closer s) s new.expansion_left (option_map place new.label_close) found before after
    × EndsTogether leaf place found

-- the questions for this target, if memory was refused
abbrev pub AsksOfTarget : {F : Type 0} → (F → BrokenLink → Option (CowStr × CowStr) → F → Type 0) → Options → Lookup → RefDefs → LeafText → (text : List ℕ) → Bracket → (close : ℕ) → (old : InlineState) → (before after : F) → Type 0
AsksOfTarget R options lookup references leaf text bracket close old before after =
    (footnotes : FootnoteDefs) (reader : Reader) (read : Leaf) (place : ℕ → ℕ) (taken : Taken) (closer : items.Bracket) (s : State)
    → ReadsSame options lookup references footnotes leaf reader read place → IsCloser text place close closer → IsPlaced place taken.opener bracket → Remembers text place s old
    → forms_footnote options footnotes (footnote_of options (is_cell_of leaf) (is_there close old.label_close) text close (Some bracket)) ≡ false
    → AsksOf R (link_or reader read (link_tail_in (following reader read closer.end)) taken closer s) before after
