-- The closing brackets that form footnote references, and their effect on slots and footnotes (this profile's own).
use Rattle.std.specs.Prelude.{◌≡◌, ℕ, ◌+◌, Bool, false, not, ◌&&◌, ◌||◌, if◌then◌else◌, List, [], ◌∷◌, ◌++◌, length, drop, set, Option, None, Some, is_some, option_map}
use Rattle.cmark_grammar.specs.BracketDecisions as decisions
use Rattle.cmark_grammar.specs.Labels.{fold, normal_form}
use Rattle.cmark_grammar.specs.LeafText.{Leaf}
use Rattle.cmark_grammar.specs.LinkDefinitions.{Parsed}
use Rattle.cmark_grammar.specs.LinkTails.{is_bracketed_label, link_tail_in, reference_label_in}
use Rattle.cmark_grammar.specs.Options.{Options, no_options}
use Rattle.cmark_grammar.specs.Readers.{Reader}
use Rattle.cmark_grammar.specs.Tokens.{slice}
use Rattle.cmark_references.specs.Footnotes.{footnote, Counts, Keeps}
use Rattle.cmark_references.specs.declared.footnotes.FootnoteDefs.{FootnoteDefs}
use Rattle.cmark_values.specs.Shown.{text_bytes}
use Rattle.cmark_values.specs.declared.text.CowStr.{CowStr}
use Rattle.cmark_slots.specs.Cuts.{Hides}
use Rattle.cmark_slots.specs.declared.bracket.Bracket.{Bracket}
use Rattle.cmark_slots.specs.declared.slot.Slot.{Slot}
use Rattle.cmark_slots.specs.declared.slot.SlotKind.TheVariants as kind
use Rattle.cmark_slots.specs.Slots.{put_at}

-- ## Labels

-- a reader that has the options alone, since nothing else decides whether a text is a label
abbrev pub labels : Options → Reader
labels options = record {
  source = [];
  options = options;
  lookup = λ name. None;
  definition = λ folded. None;
  has_footnote = λ folded. false;
  has_callback = false;
}

abbrev pub no_leaf : Leaf
no_leaf = record { stretches = []; is_cell = false }

-- the text by which a label is compared. In a table's cell, its pipes have no backslashes (GFM 4.10)
abbrev pub as_label : (is_cell : Bool) → List ℕ → List ℕ
as_label is_cell label = decisions.as_label (labels no_options) (record { stretches = []; is_cell = is_cell }) label

abbrev pub is_footnote_label : Options → (between : List ℕ) → Bool
is_footnote_label options between = decisions.is_footnote_label (labels options) no_leaf between

abbrev pub fits_footnote : Options → (label : List ℕ) → Bool
fits_footnote options label = is_bracketed_label label && (options.old_footnotes || decisions.is_one_line (labels options) no_leaf label)

-- the label of a footnote, without its `^`
abbrev pub footnote_label : Options → (between : List ℕ) → Option (List ℕ)
footnote_label options between = if is_footnote_label options between then Some (drop 1 between) else None

-- the label of a footnote is not the label of a link
abbrev pub unless_footnote : Options → Option Parsed → Option Parsed
unless_footnote options found = decisions.unless_footnote (labels options) no_leaf found

-- ## The brackets that form footnote references

-- the label of a footnote reference, if the text between two brackets is one. There is none if a destination in parentheses or the label of
-- a link follows. There is also none if the closing bracket ends the label of a full reference
abbrev pub footnote_after : Options → (closes_label : Bool) → (between following : List ℕ) → Option (List ℕ)
footnote_after options closes_label between following =
    if closes_label || (is_some (link_tail_in following) || is_some (unless_footnote options (reference_label_in following))) then None else footnote_label options between

abbrev pub footnote_of : Options → (is_cell closes_label : Bool) → (text : List ℕ) → (close : ℕ) → Option Bracket → Option (List ℕ)
footnote_of options is_cell closes_label text close None = None
footnote_of options is_cell closes_label text close (Some bracket) = option_map (as_label is_cell) (footnote_after options closes_label (slice text bracket.inside close) (drop (close + 1) text))

-- whether the label forms a reference: there is a footnote with it, or old footnotes are read
abbrev pub is_accepted : Options → FootnoteDefs → (label : List ℕ) → Bool
is_accepted options footnotes label = is_some (footnote footnotes (fold label)) || not (decisions.one_line_footnotes (labels options) no_leaf)

abbrev pub forms_footnote : Options → FootnoteDefs → Option (List ℕ) → Bool
forms_footnote options footnotes None = false
forms_footnote options footnotes (Some label) = is_accepted options footnotes label

-- ## The footnotes

-- a use of the footnote with this label is counted, if there is one
abbrev pub CountsOf : Option (List ℕ) → (old new : FootnoteDefs) → Type 0
CountsOf None old new = Keeps old new
CountsOf (Some label) old new = Counts (fold label) old new

-- the labels of the footnotes do not change
abbrev pub SameFootnotes : (old new : FootnoteDefs) → Type 0
SameFootnotes old new = (folded : List ℕ) → is_some (footnote new folded) ≡ is_some (footnote old folded)

-- ## The slots

-- a footnote reference begins with its `[`: a `!` before it is a text
abbrev pub reference_start : Bracket → ℕ
reference_start bracket = if bracket.is_image then bracket.start + 1 else bracket.start

abbrev pub reference_slot : Bracket → ℕ
reference_slot bracket = if bracket.is_image then bracket.slot + 1 else bracket.slot

abbrev pub with_mark : Bracket → List Slot → List Slot
with_mark bracket slots =
    if bracket.is_image then set slots bracket.slot (record { kind = kind.Text; start = bracket.start; end = bracket.start + 1 }) else slots

-- the slots from the bracket's on became nothing, and the first of them became this one, or the second after a `!`
pub record PutsReference (bracket : Bracket) (reference : Slot) (old new : List Slot) : Type 0 where
  pub between : List Slot
  pub hides : Hides (reference_slot bracket) (length old) old between
  pub slots_are : new ≡ put_at (reference_slot bracket) reference (with_mark bracket between)

abbrev pub reference_as : Bracket → (index end : ℕ) → Slot
reference_as bracket index end = record { kind = kind.FootnoteReference index; start = reference_start bracket; end = end }

-- the label, in normal form, was added as an owned text
abbrev pub KeepsLabel : (label : List ℕ) → (old new : List CowStr) → Type 0
KeepsLabel label old new = (text : CowStr) × (text_bytes text ≡ normal_form label) × (new ≡ old ++ (text ∷ []))
