-- Texts that are read without the inline pass.
use Rattle.std.specs.Prelude.{◌+◌, ◌-◌, ℕ, Bool, ◌==◌, ◌&&◌, not, List, get_or, length}
use Rattle.cmark_grammar.specs.Characters.{line_feed}
use Rattle.cmark_grammar.specs.Answers.{Lookup}
use Rattle.cmark_grammar.specs.Columns.{is_blank_byte}
use Rattle.cmark_grammar.specs.Options.{Options}
use Rattle.cmark_inline.specs.PlainStretches.{IsSetOf, StandUpTo}
use Rattle.cmark_inline_model.specs.PlainLines.{ArePlainLines}
use Rattle.cmark_event_walk.specs.declared.plain.Lines.{Lines}
use Rattle.cmark_event_walk.specs.declared.plain.Lines.TheVariants as lines

-- a line feed is at this offset, without a blank before it or after it
abbrev pub is_lone_line_feed : (bytes : List ℕ) → (at : ℕ) → Bool
is_lone_line_feed bytes at =
    (get_or bytes at 0 == line_feed) && (not (is_blank_byte (get_or bytes (at - 1) 0)) && not (is_blank_byte (get_or bytes (at + 1) 0)))

-- `special` is a set of special bytes. With the options whose set it is, each byte from `from` to `to` is plain
abbrev pub StandFor : (special bytes : List ℕ) → (from to : ℕ) → Type 0
StandFor special bytes from to =
    (options : Options) (lookup : Lookup) (is_cell : Bool) → IsSetOf options special → StandUpTo options lookup is_cell bytes from to

-- with these options the bytes consist of plain lines
pub record HaveLines (special bytes : List ℕ) : Type 0 where
  pub lines : List (List ℕ)
  pub last : List ℕ
  pub are : (options : Options) (lookup : Lookup) (is_cell : Bool) → IsSetOf options special → ArePlainLines options lookup is_cell bytes 0 lines last

-- the bytes are plain: one line, or several
abbrev pub ArePlain : (special bytes : List ℕ) → Lines → Type 0
ArePlain special bytes lines.One = StandFor special bytes 0 (length bytes)
ArePlain special bytes lines.Several = HaveLines special bytes
