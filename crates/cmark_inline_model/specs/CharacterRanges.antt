-- Ranges whose ends are character boundaries.
use Rattle.std.specs.Prelude.{ℕ, List, [], ◌∷◌}
use Rattle.std.specs.Str.{IsCharBoundary}
use Rattle.cmark_grammar.specs.Event.{Ranged}
use Rattle.cmark_inline_model.specs.LeafSpans.{IsRange}
use Rattle.cmark_grammar.specs.SpanDocuments.{Content, Given, Segment}

-- both ends of each range are in the text, at the start of a character or at the text's end
abbrev pub CutNoCharacter : (text : List ℕ) → List Ranged → Type 0
CutNoCharacter text [] = Unit {0}
CutNoCharacter text (r ∷ rs) = IsCharBoundary text r.start × IsCharBoundary text r.end × CutNoCharacter text rs

-- the events of the blocks have ranges: both ends are in the text and cut no character, and none ends before it begins
abbrev pub HaveRanges : (text : List ℕ) → List Segment → Type 0
HaveRanges text [] = Unit {0}
HaveRanges text (Given r ∷ others) = IsRange text r.start r.end × HaveRanges text others
HaveRanges text (Content leaf ∷ others) = HaveRanges text others
