-- Texts that consist of plain lines, and the events as which such a text is read.
use Rattle.std.specs.Prelude.{◌≡◌, ◌≤◌, ◌<◌, ◌+◌, ◌-◌, ℕ, suc, Bool, true, false, List, [], ◌∷◌, ◌++◌, drop, get_or, length, None}
use Rattle.cmark_grammar.specs.Answers.{Lookup}
use Rattle.cmark_grammar.specs.Columns.{is_blank_byte}
use Rattle.cmark_grammar.specs.Event.{Ranged, SoftBreak, Text}
use Rattle.cmark_grammar.specs.LineBreaks.{blank_break_in}
use Rattle.cmark_grammar.specs.Options.{Options}
use Rattle.cmark_inline_model.specs.PlacedTokens.{StandsUpTo, one_stretch, text_reader}

-- ## Lines and their events

-- several lines, each of which but the last ends with a line feed
abbrev pub joined_lines : (lines : List (List ℕ)) → (last : List ℕ) → List ℕ
joined_lines [] last = last
joined_lines (line ∷ lines) last = line ++ 10 ∷ joined_lines lines last

abbrev pub text_at : (start : ℕ) → (text : List ℕ) → Ranged
text_at start text = record { event = Text text; start = start; end = start + length text }

abbrev pub soft_break_at : (start : ℕ) → Ranged
soft_break_at start = record { event = SoftBreak; start = start; end = suc start }

-- the text of each line, and a soft break for the line feed between two lines. The first line begins at the offset `start`
abbrev pub line_events : (start : ℕ) → (lines : List (List ℕ)) → (last : List ℕ) → List Ranged
line_events start [] last = text_at start last ∷ []
line_events start (line ∷ lines) last =
    text_at start line ∷ (soft_break_at (start + length line) ∷ line_events (suc (start + length line)) lines last)

-- ## Plain lines of a text

-- This line begins at the offset `at`, and a line feed ends it. The line is not empty. No blank is before the line feed, and none is after it
pub record IsEndedLine (text : List ℕ) (at : ℕ) (line : List ℕ) : Type 0 where
  pub some : 0 < length line
  pub part : drop at text ≡ line ++ 10 ∷ drop (suc (at + length line)) text
  pub full : is_blank_byte (get_or text (at + (length line - 1)) 0) ≡ false
  pub next : is_blank_byte (get_or text (suc (at + length line)) 0) ≡ false

-- this line begins at the offset `at` and is not empty. The text ends after it
pub record IsLastLine (text : List ℕ) (at : ℕ) (line : List ℕ) : Type 0 where
  pub some : 0 < length line
  pub part : drop at text ≡ line

module _ (options : Options) (lookup : Lookup) (is_cell : Bool) (text : List ℕ) where
  -- at each byte of this part a plain item begins that ends in the part, except at blanks with which a line break begins
  abbrev pub StandWithin : (from to : ℕ) → Type 0
  StandWithin from to =
      (k : ℕ) → from ≤ k → k < to → (is_blank_byte (get_or text k 0) ≡ true → blank_break_in (drop k text) ≡ None)
      → StandsUpTo (text_reader options lookup text) (one_stretch is_cell text) k to

  -- from the offset `at` on, the text consists of these lines, and each of their bytes is plain
  abbrev pub ArePlainLines : (at : ℕ) → (lines : List (List ℕ)) → (last : List ℕ) → Type 0
  ArePlainLines at [] last = IsLastLine text at last × StandWithin at (length text)
  ArePlainLines at (line ∷ lines) last =
      IsEndedLine text at line × StandWithin at (at + length line) × ArePlainLines (suc (at + length line)) lines last
