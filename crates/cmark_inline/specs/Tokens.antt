-- The tokens of a leaf's text, and the slots that represent them. The text is read as a leaf of one stretch, so its places are offsets of
-- the text. It may be the text of a table's cell, in which a backslash before a pipe has another meaning.
use Rattle.std.specs.Prelude.{◌≡◌, ◌⊎◌, ℕ, ◌+◌, ◌-◌, ◌≤◌, ◌<◌, Bool, true, false, ◌==◌, ◌||◌, List, [], ◌∷◌, ◌++◌, length, drop, encode_utf8, slice_index, slice_get, Some, None, is_some}
use Rattle.cmark_grammar.specs.Characters.{backslash, backtick, exclamation_mark, left_brace, less_than_sign, pipe, question_mark, right_brace}
use Rattle.cmark_grammar.specs.Answers.{Lookup}
use Rattle.cmark_grammar.specs.CodeSpans.{is_backtick, backticks, code_in, code_text}
use Rattle.cmark_grammar.specs.Columns.{is_blank_byte}
use Rattle.cmark_grammar.specs.InlineTokens as tokens
use Rattle.cmark_grammar.specs.InlineTokens.{as_in, is_plain, item_at}
use Rattle.cmark_grammar.specs.Items.{ItemKind, Plain, Own, Written, Quoted, Delimiters, Code, InlineMath, DisplayMath, Autolink, Html, OwnedHtml, SoftBreak, HardBreak, Item, Token, Stands}
use Rattle.cmark_grammar.specs.LabelsOverLines.{piped}
use Rattle.cmark_grammar.specs.LeafText.{Leaf}
use Rattle.cmark_grammar.specs.Letters.{first_is, starts}
use Rattle.cmark_grammar.specs.Lines.{is_content}
use Rattle.cmark_grammar.specs.LinkDefinitions.{Parsed}
use Rattle.cmark_grammar.specs.Options.{Options, no_options}
use Rattle.cmark_grammar.specs.Readers.{Reader}
use Rattle.cmark_grammar.specs.Tokens.{is_punctuation, slice}
use Rattle.cmark_emphasis.specs.Shown.{shown_quote, shown_whole}
use Rattle.cmark_emphasis.specs.declared.quotes.Quote.{Quote}
use Rattle.cmark_emphasis.specs.declared.run.PlacedRun.{PlacedRun}
use Rattle.cmark_values.specs.Shown.{text_bytes}
use Rattle.cmark_values.specs.declared.text.CowStr.{CowStr}
use Rattle.cmark_inline.specs.Linked.{IsAutolink}
use Rattle.cmark_slots.specs.Slots.{PushesText, before_backticks, byte_slots}
use Rattle.cmark_references.specs.declared.link.Link.{Link}
use Rattle.cmark_slots.specs.declared.slot.LinkElement.TheVariants as element
use Rattle.cmark_slots.specs.declared.slot.Slot.{Slot}
use Rattle.cmark_slots.specs.declared.slot.SlotKind.{SlotKind}
use Rattle.cmark_slots.specs.declared.slot.SlotKind.TheVariants as kind
use Rattle.cmark_inline.specs.declared.state.InlineState.{InlineState}
use Rattle.cmark_inline.specs.declared.step.Cursor.{Cursor}

abbrev pub whole : (is_cell : Bool) → (text : List ℕ) → Leaf
whole is_cell text = record { stretches = record { start = 0; end = length text } ∷ []; is_cell = is_cell }

-- a reader of this text, without definitions, footnotes and a callback
abbrev pub reading : Options → Lookup → (text : List ℕ) → Reader
reading options lookup text = record {
  source = text;
  options = options;
  lookup = lookup;
  definition = λ folded. None;
  has_footnote = λ folded. false;
  has_callback = false;
}

-- the token at the offset `at`, if each literal byte is an item of its own
abbrev pub begins_at : Options → Lookup → (is_cell : Bool) → (text : List ℕ) → (at : ℕ) → Token
begins_at options lookup is_cell text at = tokens.begins_at (reading options lookup text) (whole is_cell text) at

-- the offset at which reading continues after a break, or after inline HTML, that ends at `at`
abbrev pub read_on : (text : List ℕ) → (at : ℕ) → ℕ
read_on text at = tokens.read_on (reading no_options (λ name. None) text) (whole false text) at

-- the address of an autolink whose `<` is at `at` and which ends at `end`, with the bytes after it
abbrev pub shown_autolink : (text : List ℕ) → (at end : ℕ) → Parsed
shown_autolink text at end = record { bytes = slice text (at + 1) (end - 1); following = drop end text }

-- whether the bytes after a `<` may open a comment, a declaration, a CDATA section or a processing instruction. These are read in the
-- source
abbrev pub opens_markup : (rest : List ℕ) → Bool
opens_markup rest = first_is (λ b. (b == exclamation_mark) || (b == question_mark)) rest

-- a slot from `start` to `end` represents an item of this kind, if `texts` are the owned texts
abbrev pub Says : (is_cell : Bool) → (text : List ℕ) → (texts : List CowStr) → (start end : ℕ) → ItemKind → SlotKind → Type 0
Says is_cell text texts start end Plain kind.Text = Unit {0}
Says is_cell text texts start end Own kind.Text = Unit {0}
Says is_cell text texts start end (Written bytes) (kind.OwnedText index) = (owned : CowStr) × (slice_get texts index ≡ Some owned) × (text_bytes owned ≡ bytes)
Says is_cell text texts start end (Written bytes) (kind.Character character) = encode_utf8 character ≡ bytes
Says is_cell text texts start end (Code bytes) (kind.Code from) = code_text (as_in is_cell (slice text from (before_backticks text end))) ≡ bytes
Says is_cell text texts start end (InlineMath bytes) (kind.InlineMath from) = as_in is_cell (slice text from (end - 1)) ≡ bytes
Says is_cell text texts start end (DisplayMath bytes) (kind.DisplayMath from) = as_in is_cell (slice text from (end - 2)) ≡ bytes
Says is_cell text texts start end Html kind.InlineHtml = Unit {0}
Says is_cell text texts start end (OwnedHtml bytes) kind.InlineHtml = slice text start end ≡ bytes
Says is_cell text texts start end SoftBreak kind.SoftBreak = Unit {0}
Says is_cell text texts start end HardBreak kind.HardBreak = Unit {0}
Says is_cell text texts start end _ _ = ⊥

pub record IsItem (is_cell : Bool) (text : List ℕ) (texts : List CowStr) (item : Item) (slot : Slot) : Type 0 where
  pub start : slot.start ≡ item.start
  pub end : slot.end ≡ item.end
  pub says : Says is_cell text texts slot.start slot.end item.kind slot.kind

-- the text from `start` to `text_end`, unless it is empty, and then `slot` were appended
pub record Puts (start text_end : ℕ) (slot : Slot) (old new : List Slot) : Type 0 where
  pub before : List Slot
  pub text : PushesText start text_end old before
  pub slot_is : new ≡ before ++ (slot ∷ [])

-- the text from `start` to `at`, unless it is empty, and then the autolink with this index were appended. Its text has no angle brackets
pub record PutsAutolink (index start at end : ℕ) (old new : List Slot) : Type 0 where
  pub before : List Slot
  pub text : PushesText start at old before
  pub slots_are :
      new ≡ ((before ++ (record { kind = kind.BeginLink element.Autolink index; start = at; end = end } ∷ []))
      ++ (record { kind = kind.Text; start = at + 1; end = end - 1 } ∷ []))
      ++ (record { kind = kind.End; start = end - 1; end = end } ∷ [])

-- nothing was appended: the bytes from the cursor to the next one are one literal item
pub record Passes (options : Options) (lookup : Lookup) (is_cell : Bool) (text : List ℕ) (here : Cursor) (old new : InlineState) (next : Cursor) : Type 0 where
  pub token : begins_at options lookup is_cell text here.at ≡ item_at Plain here.at next.at
  pub pending : next.pending ≡ here.pending
  pub same : new ≡ old

-- pipes, and the braces that delimit the contexts of formulas. They are literal
abbrev pub is_other : ℕ → Bool
is_other b = (b == pipe) || ((b == left_brace) || (b == right_brace))

-- nothing was appended: each byte from the cursor to the next one is a literal item
pub record PassesOver (options : Options) (lookup : Lookup) (is_cell : Bool) (text : List ℕ) (here : Cursor) (old new : InlineState) (next : Cursor) : Type 0 where
  pub further : here.at < next.at
  pub plain : (k : ℕ) → here.at ≤ k → k < next.at → begins_at options lookup is_cell text k ≡ item_at Plain k (k + 1)
  pub last : is_blank_byte (slice_index text (next.at - 1)) ≡ false
  pub pending : next.pending ≡ here.pending
  pub same : new ≡ old

-- the item begins at the byte at the cursor, or at the first of the pending blanks before it. In the first case, the byte ends no line and
-- opens no markup that is read in the source. A run of backticks directly after a pending one then opens a code span. In the second case,
-- the byte at the cursor ends a line
abbrev pub BeginsThere : (text : List ℕ) → (here : Cursor) → (from : ℕ) → Type 0
BeginsThere text here from =
    ((from ≡ here.at) × (is_content (slice_index text here.at) ≡ true) × (slice_index text here.at ≡ less_than_sign → opens_markup (drop (here.at + 1) text) ≡ false)
    × (slice_index text here.at ≡ backtick → here.pending + 1 ≡ here.at → slice_index text here.pending ≡ backtick → is_some (code_in (drop here.at text)) ≡ true))
    ⊎ ((is_content (slice_index text here.at) ≡ false) × (here.pending < from → is_blank_byte (slice_index text (from - 1)) ≡ false))

-- the pending text was appended, and then a slot for the item that begins at the cursor, or at the blanks before it. The item is no literal
-- text, which would be joined with its neighbours
pub record Appends (options : Options) (lookup : Lookup) (is_cell : Bool) (text : List ℕ) (here : Cursor) (old new : InlineState) (next : Cursor) : Type 0 where
  pub from : ℕ
  pub item : Item
  pub slot : Slot
  pub following : here.pending ≤ from
  pub before : from ≤ here.at
  pub blanks : (k : ℕ) → from ≤ k → k < here.at → is_blank_byte (slice_index text k) ≡ true
  pub there : BeginsThere text here from
  pub own : is_plain item.kind ≡ false
  pub token : begins_at options lookup is_cell text from ≡ Stands item next.at
  pub pending : next.pending ≡ next.at
  pub slots : Puts here.pending from slot old.slots.items new.slots.items
  pub owned : List CowStr
  pub texts : new.texts.items ≡ old.texts.items ++ owned
  pub is : IsItem is_cell text new.texts.items item slot
  pub others : new ≡ record old { slots = new.slots; texts = new.texts }

-- the pending text was appended, and then three slots for the autolink that begins at the cursor
pub record AppendsAutolink (options : Options) (lookup : Lookup) (is_cell : Bool) (text : List ℕ) (here : Cursor) (old new : InlineState) (next : Cursor) : Type 0 where
  pub token : begins_at options lookup is_cell text here.at ≡ item_at (Autolink (slice text (here.at + 1) (next.at - 1))) here.at next.at
  pub pending : next.pending ≡ next.at
  pub slots : PutsAutolink (length old.links.items) here.pending here.at next.at old.slots.items new.slots.items
  pub parts : Link
  pub link : IsAutolink text here.at next.at parts
  pub links : new.links.items ≡ old.links.items ++ (parts ∷ [])
  pub others : new ≡ record old { slots = new.slots; links = new.links }

-- the pending text was appended, and a text begins with the byte after the backslash at the cursor. If this byte is the first of several
-- backticks, the token depends on the others. The first one is literal if they open a code span
pub record Escapes (options : Options) (lookup : Lookup) (is_cell : Bool) (text : List ℕ) (here : Cursor) (old new : InlineState) (next : Cursor) : Type 0 where
  pub byte : slice_index text here.at ≡ backslash
  pub escaped : first_is is_punctuation (drop (here.at + 1) text) ≡ true
  pub pending : next.pending ≡ here.at + 1
  pub at : next.at ≡ here.at + 2
  pub token : first_is is_backtick (drop (here.at + 1) text) ≡ false → begins_at options lookup is_cell text here.at ≡ item_at Plain next.pending next.at
  pub run : first_is is_backtick (drop (here.at + 1) text) ≡ true
      → (begins_at options lookup is_cell text here.at ≡ tokens.escaped_backtick (reading options lookup text) (whole is_cell text) next.pending (backticks (drop next.pending text)) (code_in (drop next.at text)))
      × (1 < backticks (drop next.pending text))
  pub slots : PushesText here.pending here.at old.slots.items new.slots.items
  pub others : new ≡ record old { slots = new.slots }

-- in a table's cell, the pending text was appended. Another backslash and a pipe follow the backslash at the cursor, and a text begins with
-- the pipe
pub record EscapesPipe (options : Options) (lookup : Lookup) (is_cell : Bool) (text : List ℕ) (here : Cursor) (old new : InlineState) (next : Cursor) : Type 0 where
  pub cell : is_cell ≡ true
  pub pipe : starts piped (drop (here.at + 1) text) ≡ true
  pub pending : next.pending ≡ here.at + 2
  pub at : next.at ≡ here.at + 3
  pub token : begins_at options lookup is_cell text here.at ≡ item_at Plain next.pending next.at
  pub slots : PushesText here.pending here.at old.slots.items new.slots.items
  pub others : new ≡ record old { slots = new.slots }

-- the run of backticks at the cursor is a text together with the escaped backtick before it
pub record TakesEscaped (options : Options) (lookup : Lookup) (is_cell : Bool) (text : List ℕ) (here : Cursor) (old new : InlineState) (next : Cursor) : Type 0 where
  pub escaped : (here.pending + 1 ≡ here.at) × (slice_index text here.pending ≡ backtick)
  pub token : begins_at options lookup is_cell text here.at ≡ item_at Own here.at next.at
  pub pending : next.pending ≡ next.at
  pub slots : new.slots.items ≡ old.slots.items ++ (record { kind = kind.Text; start = here.pending; end = next.at } ∷ [])
  pub others : new ≡ record old { slots = new.slots }

-- ## Quotes and delimiter runs, which are resolved among their siblings

-- the pending text was appended, and then a slot for the quote at the cursor
pub record AppendsQuote (options : Options) (lookup : Lookup) (is_cell : Bool) (text : List ℕ) (here : Cursor) (old new : InlineState) (next : Cursor) : Type 0 where
  pub quote : Quote
  pub token : begins_at options lookup is_cell text here.at ≡ item_at (Quoted (shown_quote quote)) here.at next.at
  pub size : next.at ≡ here.at + 1
  pub pending : next.pending ≡ next.at
  pub before : List Slot
  pub text_is : PushesText here.pending here.at old.slots.items before
  pub slots : new.slots.items ≡ before ++ (record { kind = kind.Text; start = here.at; end = next.at } ∷ [])
  pub placed : new.quotes.placed.items ≡ old.quotes.placed.items ++ (record { slot = length before; quote = quote } ∷ [])
  pub others : new ≡ record old { slots = new.slots; quotes = new.quotes }

-- the pending text was appended, and then a slot for each byte of the delimiter run at the cursor
pub record AppendsRun (options : Options) (lookup : Lookup) (is_cell : Bool) (text : List ℕ) (here : Cursor) (old new : InlineState) (next : Cursor) : Type 0 where
  pub run : PlacedRun
  pub token : begins_at options lookup is_cell text here.at ≡ item_at (Delimiters (shown_whole run)) here.at next.at
  pub size : next.at ≡ here.at + run.run_length
  pub bytes : (k : ℕ) → here.at ≤ k → k < next.at → is_content (slice_index text k) ≡ true
  pub pending : next.pending ≡ next.at
  pub before : List Slot
  pub text_is : PushesText here.pending here.at old.slots.items before
  pub there : run.slot ≡ length before
  pub slots : new.slots.items ≡ before ++ byte_slots here.at run.run_length
  pub placed : new.delimiters.placed.items ≡ old.delimiters.placed.items ++ (run ∷ [])
  pub examined : new.delimiters.examined ≡ old.delimiters.examined
  pub others : new ≡ record old { slots = new.slots; delimiters = new.delimiters }

-- ## Opening brackets

-- the text from `start` to `at`, unless it is empty, and then a slot for an opening bracket were appended. The bracket knows its slot and
-- the numbers of runs and quotes before it
pub record PutsBracket (is_image : Bool) (start at inside : ℕ) (old new : InlineState) : Type 0 where
  pub before : List Slot
  pub text : PushesText start at old.slots.items before
  pub slots : new.slots.items ≡ before ++ (record { kind = kind.Text; start = at; end = inside } ∷ [])
  pub standing :
      new.brackets.standing.items
      ≡ old.brackets.standing.items
      ++ (record { slot = length before; runs = length old.delimiters.placed.items; quotes = length old.quotes.placed.items; start = at; inside = inside; is_image = is_image } ∷ [])
  pub inactive_below : new.brackets.inactive_below ≡ old.brackets.inactive_below
  pub others : new ≡ record old { slots = new.slots; brackets = new.brackets; doubled = new.doubled }
