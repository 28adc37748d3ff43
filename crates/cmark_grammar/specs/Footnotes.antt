-- The markers of footnote definitions: `[^`, a label on one line, and `]:` (this profile's own, by the rules of GitHub and of the
-- original).
use Rattle.std.specs.Prelude.{ℕ, zero, suc, Bool, true, false, ◌==◌, ◌&&◌, not, if◌then◌else◌, List, [], ◌∷◌, length, Option, Some, None}
use Rattle.cmark_grammar.specs.Characters.{caret, colon, left_bracket, right_bracket}
use Rattle.cmark_grammar.specs.Columns.{Column, without_indent}
use Rattle.cmark_grammar.specs.LinkDefinitions.{Parsed, up_to, label_if}
use Rattle.cmark_grammar.specs.Options.{Options}

-- whether footnotes are read, and if so in GitHub's style or in the old style
pub data Footnotes : Type 0 where
  Off : Footnotes
  Gfm : Footnotes
  Old : Footnotes

-- the style of footnotes that the options ask for
abbrev pub footnotes_in : Options → Footnotes
footnotes_in options = if options.footnotes then (if options.old_footnotes then Old else Gfm) else Off

abbrev pub are_read : Footnotes → Bool
are_read Off = false
are_read _ = true

-- a footnote definition in GitHub's style interrupts a paragraph; one in the old style does not
abbrev pub do_interrupt : Footnotes → Bool
do_interrupt Gfm = true
do_interrupt _ = false

-- a colon follows the label
abbrev pub colon_after : (label : List ℕ) → List ℕ → Option Parsed
colon_after label [] = None
colon_after label (b ∷ bs) = if b == colon then Some (record { bytes = label; following = bs }) else None

abbrev pub label_then_colon : Option Parsed → Option Parsed
label_then_colon None = None
label_then_colon (Some found) = colon_after found.bytes found.following

abbrev pub after_caret : List ℕ → Option Parsed
after_caret [] = None
after_caret (b ∷ bs) = if b == caret then label_then_colon (label_if (up_to false right_bracket left_bracket false bs)) else None

-- the label of the marker at the beginning of these bytes, and the bytes after the marker. Example: the label of `[^a]: b` is `a`
abbrev pub footnote_in : List ℕ → Option Parsed
footnote_in [] = None
footnote_in (b ∷ bs) = if b == left_bracket then after_caret bs else None

-- the number of columns that the first `n` bytes have
abbrev pub columns_over : ℕ → List Column → ℕ
columns_over n [] = 0
columns_over zero (c ∷ cs) = 0
columns_over (suc n) (c ∷ cs) = suc (columns_over (if c.part == 0 then n else suc n) cs)

-- the number of columns of the marker with this label: of the bytes of the label, of `[^` and of `]:`
abbrev pub marker_columns : (label : List ℕ) → List Column → ℕ
marker_columns label cs = columns_over (suc (suc (suc (suc (length label))))) (without_indent cs)

abbrev pub is_label_found : Option Parsed → Bool
is_label_found None = false
is_label_found (Some found) = true

-- a label that begins with `^` and has more bytes is not the label of a link
abbrev pub goes_on_after_caret : List ℕ → Bool
goes_on_after_caret [] = true
goes_on_after_caret (b ∷ bs) = not (b == right_bracket)

abbrev pub caret_goes_on : List ℕ → Bool
caret_goes_on [] = false
caret_goes_on (b ∷ bs) = (b == caret) && goes_on_after_caret bs

abbrev pub is_footnote_label : List ℕ → Bool
is_footnote_label [] = false
is_footnote_label (b ∷ bs) = (b == left_bracket) && caret_goes_on bs
