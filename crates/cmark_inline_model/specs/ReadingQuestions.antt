-- The questions that are put about a text, in order (this profile's own).
use Rattle.std.specs.Prelude.{◌≡◌, ◌⊎◌, ℕ, suc, ◌≤◌, ◌<◌, List, [], ◌∷◌}
use Rattle.cmark_grammar.specs.Event.{Ranged}
use Rattle.cmark_grammar.specs.InlineTokens.{token}
use Rattle.cmark_grammar.specs.Items.{Bracket, Closes}
use Rattle.cmark_grammar.specs.LeafText.{Leaf}
use Rattle.cmark_grammar.specs.Questions.{Question, Exchange}
use Rattle.cmark_grammar.specs.Readers.{Reader}
use Rattle.cmark_grammar.specs.SpanDocuments.{Segment, Given, Content}
use Rattle.cmark_inline_model.specs.ReadingLinks.{spent_before}

-- a closing bracket of a leaf is at this offset
abbrev pub HasCloser : Reader → Leaf → ℕ → Type 0
HasCloser reader leaf place = (closer : Bracket) × (token reader leaf place ≡ Closes closer)

-- a closing bracket of one of these leaves is at this offset
abbrev pub IsCloser : Reader → List Segment → ℕ → Type 0
IsCloser reader [] place = ⊥
IsCloser reader (Given r ∷ others) place = IsCloser reader others place
IsCloser reader (Content leaf ∷ others) place = HasCloser reader leaf place ⊎ IsCloser reader others place

-- and the references that end before it cost less than the limit
abbrev pub IsCloserBelow : (limit : ℕ) → List Ranged → Reader → List Segment → ℕ → Type 0
IsCloserBelow limit events reader segments place = IsCloser reader segments place × (spent_before place events < limit)

-- each question has a closing bracket of its own in its range, from `from` on and before `to`, after that of the question before it
abbrev pub PutInTurn : (Closer : ℕ → Type 0) → (from : ℕ) → List Exchange → (to : ℕ) → Type 0
PutInTurn Closer from [] to = from ≤ to
PutInTurn Closer from (x ∷ xs) to =
    (place : ℕ) × (from ≤ place) × Closer place × (x.question.start ≤ place) × (place < x.question.end) × PutInTurn Closer (suc place) xs to

-- Holds is true of each question
abbrev pub AllQuestions : (Question → Type 0) → List Exchange → Type 0
AllQuestions Holds [] = Unit {0}
AllQuestions Holds (x ∷ xs) = Holds x.question × AllQuestions Holds xs
