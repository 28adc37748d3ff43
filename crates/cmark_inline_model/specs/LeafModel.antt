-- The events of leaves and of whole texts as functions of a plan of answers.
use Rattle.std.specs.Prelude.{◌≡◌, ◌⊎◌, ℕ, ◌-◌, ◌<◌, false, List, [], ◌∷◌, ◌++◌, get_or}
use Rattle.cmark_grammar.specs.BracketDecisions.{decide}
use Rattle.cmark_grammar.specs.BracketStates.{State}
use Rattle.cmark_grammar.specs.Event.{Ranged}
use Rattle.cmark_grammar.specs.InlineReading.{inline_events}
use Rattle.cmark_grammar.specs.InlineTokens.{token}
use Rattle.cmark_grammar.specs.LeafReading.{Between, entering, leaving}
use Rattle.cmark_grammar.specs.LeafText.{Stretch, Leaf, end_of, InTurn}
use Rattle.cmark_grammar.specs.Lines.{is_content}
use Rattle.cmark_grammar.specs.Parts.{Parts}
use Rattle.cmark_grammar.specs.Questions.{Plan}
use Rattle.cmark_grammar.specs.Readers.{Reader}
use Rattle.cmark_inline_model.specs.SiblingsModel.{spans_in}
use Rattle.cmark_grammar.specs.SpanDocuments.{Segment, Given, Content}
use Rattle.cmark_inline_model.specs.BracketPass.{parts_by, end_by}

abbrev pub leaf_parts : Reader → Plan → Leaf → Between → Parts
leaf_parts reader plan leaf before = parts_by (token reader leaf) (decide reader leaf) plan (end_of leaf.stretches) (entering leaf before)

abbrev pub leaf_end : Reader → Plan → Leaf → Between → State
leaf_end reader plan leaf before = end_by (token reader leaf) (decide reader leaf) plan (end_of leaf.stretches) (entering leaf before)

abbrev pub leaf_events : Reader → Plan → Leaf → Between → List Ranged
leaf_events reader plan leaf before = inline_events reader.source (spans_in reader.options (leaf_parts reader plan leaf before))

abbrev pub leaf_after : Reader → Plan → Leaf → Between → Between
leaf_after reader plan leaf before = leaving (leaf_end reader plan leaf before)

abbrev pub all_events : Reader → Plan → List Segment → Between → List Ranged
all_events reader plan [] before = []
all_events reader plan (Given r ∷ others) before = r ∷ all_events reader plan others before
all_events reader plan (Content leaf ∷ others) before = leaf_events reader plan leaf before ++ all_events reader plan others (leaf_after reader plan leaf before)

abbrev pub all_after : Reader → Plan → List Segment → Between → Between
all_after reader plan [] before = before
all_after reader plan (Given r ∷ others) before = all_after reader plan others before
all_after reader plan (Content leaf ∷ others) before = all_after reader plan others (leaf_after reader plan leaf before)

-- the stretches of each leaf are in order, and inside the first `size` bytes
abbrev pub AreLeavesInTurn : (size : ℕ) → List Segment → Type 0
AreLeavesInTurn size [] = Unit {0}
AreLeavesInTurn size (Given r ∷ others) = AreLeavesInTurn size others
AreLeavesInTurn size (Content leaf ∷ others) = InTurn 0 leaf.stretches size × AreLeavesInTurn size others

-- a line feed or a carriage return is directly before this offset
abbrev pub EndsLine : (source : List ℕ) → (at : ℕ) → Type 0
EndsLine source at = (0 < at) × (is_content (get_or source (at - 1) 0) ≡ false)

-- each of these stretches is not empty, and each but the last ends with a line ending
abbrev pub HaveLineEnds : (source : List ℕ) → List Stretch → Type 0
HaveLineEnds source [] = Unit {0}
HaveLineEnds source (s ∷ more) = (s.start < s.end) × ((more ≡ []) ⊎ EndsLine source s.end) × HaveLineEnds source more

abbrev pub AreLeavesOfLines : (source : List ℕ) → List Segment → Type 0
AreLeavesOfLines source [] = Unit {0}
AreLeavesOfLines source (Given r ∷ others) = AreLeavesOfLines source others
AreLeavesOfLines source (Content leaf ∷ others) = HaveLineEnds source leaf.stretches × AreLeavesOfLines source others
