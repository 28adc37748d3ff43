-- The bytes between special bytes, which the pass does not examine.
use Rattle.std.specs.Prelude.{◌≡◌, ℕ, ◌≤◌, ◌<◌, Bool, true, List, drop, slice_index, None}
use Rattle.cmark_grammar.specs.Answers.{Lookup}
use Rattle.cmark_grammar.specs.Columns.{is_blank_byte}
use Rattle.cmark_grammar.specs.InlineTokens.{item_at}
use Rattle.cmark_grammar.specs.Items.{Plain}
use Rattle.cmark_grammar.specs.LineBreaks.{blank_break_in}
use Rattle.cmark_grammar.specs.Options.{Options}
use Rattle.cmark_inline_model.specs.SpecialBytes.{is_special}
use Rattle.cmark_search.specs.Sets.{in_rows}
use Rattle.cmark_inline.specs.Tokens.{begins_at}

-- the bytes from `at` on are a literal item that ends by the offset `to`. A run of tildes or carets is one item if no option reads it; each
-- other byte is an item of its own
pub record StandsForItself (options : Options) (lookup : Lookup) (is_cell : Bool) (text : List ℕ) (at to : ℕ) : Type 0 where
  pub end : ℕ
  pub further : at < end
  pub within : end ≤ to
  pub token : begins_at options lookup is_cell text at ≡ item_at Plain at end

-- each byte from `from` to `to` is literal, except blanks with which a line break begins
abbrev pub StandUpTo : Options → Lookup → (is_cell : Bool) → (text : List ℕ) → (from to : ℕ) → Type 0
StandUpTo options lookup is_cell text from to =
    (k : ℕ) → from ≤ k → k < to → (is_blank_byte (slice_index text k) ≡ true → blank_break_in (drop k text) ≡ None) → StandsForItself options lookup is_cell text k to

-- the rows are those of the set of special bytes with these options
abbrev pub IsSetOf : Options → (rows : List ℕ) → Type 0
IsSetOf options rows = (byte : ℕ) → byte < 128 → in_rows rows byte ≡ is_special options byte
