-- The events of a leaf by the inline pass, and the questions that were asked on the way.
use Rattle.std.specs.Prelude.{◌≡◌, ℕ, List, [], ◌∷◌, ◌++◌, Option}
use Rattle.cmark_grammar.specs.Answers.{Lookup}
use Rattle.cmark_grammar.specs.Event.{Ranged}
use Rattle.cmark_grammar.specs.LeafReading.{ReadsLeaf}
use Rattle.cmark_grammar.specs.LeafText.{Leaf}
use Rattle.cmark_grammar.specs.Options.{Options}
use Rattle.cmark_grammar.specs.Questions.{Exchange, IsNext, Plan}
use Rattle.cmark_grammar.specs.Readers.{Reader}
use Rattle.cmark_references.specs.declared.definitions.RefDefs.{RefDefs}
use Rattle.cmark_references.specs.declared.footnotes.FootnoteDefs.{FootnoteDefs}
use Rattle.cmark_leaf_text.specs.declared.leaf_text.LeafText.{LeafText}
use Rattle.cmark_values.specs.declared.text.CowStr.{CowStr}
use Rattle.cmark_inline_model.specs.PlannedAnswers.{AreByPlan}
use Rattle.cmark_inline.specs.Decided.{AsksThis, ReadsSame}
use Rattle.cmark_inline.specs.Reached.{ReadsPlaces}
use Rattle.cmark_slots.specs.SlotViews.{all_events}
use Rattle.cmark_inline.specs.declared.callback.BrokenLink.{BrokenLink}
use Rattle.cmark_inline.specs.declared.state.InlineState.{InlineState}

-- a callback was asked these questions, one after the other, and gave these answers
abbrev pub Answered : {F : Type 0} → (F → BrokenLink → Option (CowStr × CowStr) → F → Type 0) → List Exchange → (before after : F) → Type 0
Answered R [] before after = after ≡ before
Answered {F} R (x ∷ xs) before after = (between : F) × AsksThis R x.question x.answer before between × Answered R xs between after

-- the grammar reads the leaf as these events, for the answers that the callback gave, whatever is asked after this leaf. It leaves `left`
-- of the reference expansion limit
pub record ResolvesAs {F : Type 0} (R : F → BrokenLink → Option (CowStr × CowStr) → F → Type 0) (reader : Reader) (read : Leaf) (expansion_left : ℕ) (events : List Ranged) (left : ℕ) (before after : F) : Type 0 where
  pub asked : List Exchange
  pub answered : Answered R asked before after
  pub reads : (rest : List Exchange)
      → ReadsLeaf reader (IsNext (asked ++ rest)) read (record { expansion_left = expansion_left; asked = [] }) events (record { expansion_left = left; asked = asked })

-- this holds for each reading of this leaf by the grammar, with these options, entities, definitions and footnotes
abbrev pub Resolves : {F : Type 0} → (F → BrokenLink → Option (CowStr × CowStr) → F → Type 0) → Options → Lookup → RefDefs → FootnoteDefs → LeafText → (expansion_left : ℕ) → (new : InlineState) → (before after : F) → Type 0
Resolves R options lookup references footnotes leaf expansion_left new before after =
    (reader : Reader) (read : Leaf) (place : ℕ → ℕ) → ReadsSame options lookup references footnotes leaf reader read place → ReadsPlaces leaf reader read place
    → ResolvesAs R reader read expansion_left (all_events leaf new.texts.items new.links.items new.slots.items) new.expansion_left before after

-- ## If memory is refused

-- the grammar reads the leaf with these questions first, and then with further ones, which the plan answers
pub record IsReadFrom (reader : Reader) (read : Leaf) (expansion_left : ℕ) (asked : List Exchange) (plan : Plan) : Type 0 where
  pub further : List Exchange
  pub planned : AreByPlan plan [] further
  pub events : List Ranged
  pub left : ℕ
  pub reads : ReadsLeaf reader (IsNext (asked ++ further)) read (record { expansion_left = expansion_left; asked = [] }) events (record { expansion_left = left; asked = asked ++ further })

-- the callback was asked these questions, and no others. They are the first questions of a reading of the leaf, whatever the callback
-- answers to further ones
pub record StopsAs {F : Type 0} (R : F → BrokenLink → Option (CowStr × CowStr) → F → Type 0) (reader : Reader) (read : Leaf) (expansion_left : ℕ) (before after : F) : Type 0 where
  pub asked : List Exchange
  pub answered : Answered R asked before after
  pub goes_on : (plan : Plan) → IsReadFrom reader read expansion_left asked plan

-- this holds for each reading of this leaf by the grammar, with these options, entities, definitions and footnotes
abbrev pub Stops : {F : Type 0} → (F → BrokenLink → Option (CowStr × CowStr) → F → Type 0) → Options → Lookup → RefDefs → FootnoteDefs → LeafText → (expansion_left : ℕ) → (before after : F) → Type 0
Stops R options lookup references footnotes leaf expansion_left before after =
    (reader : Reader) (read : Leaf) (place : ℕ → ℕ) → ReadsSame options lookup references footnotes leaf reader read place → ReadsPlaces leaf reader read place
    → StopsAs R reader read expansion_left before after
