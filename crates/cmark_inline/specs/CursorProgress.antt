-- How far the text of a leaf is read at a cursor, in the states of the code and of the grammar.
use Rattle.std.specs.Prelude.{◌≡◌, ◌⊎◌, ℕ, ◌+◌, ◌-◌, ◌<◌, Bool, false, List, [], ◌∷◌, length, drop, slice_index, Option, None}
use Rattle.cmark_grammar.specs.Characters.{backslash, backtick}
use Rattle.cmark_grammar.specs.Answers.{Lookup}
use Rattle.cmark_grammar.specs.BracketDecisions.{decide}
use Rattle.cmark_grammar.specs.BracketReading.{Reads}
use Rattle.cmark_grammar.specs.CodeSpans.{backticks, code_in}
use Rattle.cmark_grammar.specs.Columns.{is_blank_byte}
use Rattle.cmark_grammar.specs.InlineTokens.{escaped_backtick, item_at, token}
use Rattle.cmark_grammar.specs.Items.{Plain}
use Rattle.cmark_grammar.specs.LeafReading.{Between, entering}
use Rattle.cmark_grammar.specs.LeafText.{Leaf}
use Rattle.cmark_grammar.specs.Options.{Options}
use Rattle.cmark_grammar.specs.Questions.{AnyAnswer}
use Rattle.cmark_grammar.specs.Readers.{Reader}
use Rattle.cmark_references.specs.declared.definitions.RefDefs.{RefDefs}
use Rattle.cmark_references.specs.declared.footnotes.FootnoteDefs.{FootnoteDefs}
use Rattle.cmark_leaf_text.specs.Reads.{is_cell_of, text_of}
use Rattle.cmark_leaf_text.specs.declared.leaf_text.LeafText.{LeafText}
use Rattle.cmark_values.specs.declared.text.CowStr.{CowStr}
use Rattle.cmark_inline_model.specs.BracketPass.{Pass}
use Rattle.cmark_inline.specs.Closers.{ShowsState}
use Rattle.cmark_inline.specs.Decided.{ReadsSame}
use Rattle.cmark_inline.specs.LeastSteps.{AreCounted, Tally}
use Rattle.cmark_inline.specs.Reached.{HasRead, ReadsPlaces}
use Rattle.cmark_inline.specs.Resolved.{Answered}
use Rattle.cmark_slots.specs.Standing.{AreEnded}
use Rattle.cmark_inline.specs.Tokens.{begins_at, reading, whole}
use Rattle.cmark_slots.specs.declared.bracket.Bracket.{Bracket}
use Rattle.cmark_inline.specs.declared.callback.BrokenLink.{BrokenLink}
use Rattle.cmark_inline.specs.declared.state.InlineState.{InlineState}
use Rattle.cmark_inline.specs.declared.step.Cursor.{Cursor}
use Rattle.cmark_inline.specs.declared.step.Sought.{Sought}

-- ## The pending text
module _ (options : Options) (lookup : Lookup) (is_cell : Bool) (text : List ℕ) where
  -- the bytes from `from` to `to` are literal items, which end at the offsets `ends`
  abbrev pub AreTexts : (from : ℕ) → (ends : List ℕ) → (to : ℕ) → Type 0
  AreTexts from [] to = from ≡ to
  AreTexts from (end ∷ ends) to = (from < end) × (begins_at options lookup is_cell text from ≡ item_at Plain from end) × AreTexts end ends to

  -- literal bytes begin at `at`, perhaps after a backslash. With the literal bytes after them, they are a text from `start` to `to`
  pub record HasBegun (at start to : ℕ) : Type 0 where
    pub end : ℕ
    pub some : start < end
    pub token : begins_at options lookup is_cell text at ≡ item_at Plain start end
    pub ends : List ℕ
    pub texts : AreTexts end ends to

  -- a run of backticks follows the backslash at `at`, and its first backtick was read. This backtick is literal if the rest of the run
  -- opens a code span
  pub record HasEscaped (at start to : ℕ) : Type 0 where
    pub slash : slice_index text at ≡ backslash
    pub token : begins_at options lookup is_cell text at ≡ escaped_backtick (reading options lookup text) (whole is_cell text) start (backticks (drop start text)) (code_in (drop to text))
    pub following : to ≡ start + 1
    pub byte : slice_index text start ≡ backtick
    pub several : 1 < backticks (drop start text)

  -- the pending text, if the grammar's pass is at the offset `at`. Either nothing is pending, or an escaped backtick, or a text. The text
  -- begins with no backtick, and ends with no blank unless the leaf ends there
  abbrev pub IsPending : (at : ℕ) → Cursor → Type 0
  IsPending at cursor =
      ((at ≡ cursor.pending) × (cursor.pending ≡ cursor.at))
      ⊎ ((HasBegun at cursor.pending cursor.at × (slice_index text cursor.pending ≡ backtick → ⊥) × (cursor.at < length text → is_blank_byte (slice_index text (cursor.at - 1)) ≡ false))
      ⊎ HasEscaped at cursor.pending cursor.at)

-- ## The parts that were read
module _ {F : Type 0} (R : F → BrokenLink → Option (CowStr × CowStr) → F → Type 0) (leaf : LeafText) (reader : Reader) (read : Leaf) (place : ℕ → ℕ) (before : Between) (tally : Tally) where
  -- a pass of the grammar has reached the offset `at`, with the answers that the callback gave. It has read what this state represents. The
  -- steps that its parts need are counted
  pub record HasReached (initial : F) (at : ℕ) (state : InlineState) (now : F) : Type 0 where
    pub p : Pass
    pub bs : List Bracket
    pub has_read : HasRead leaf reader read place before p bs state
    pub at_is : p.state.at ≡ place at
    pub shows : ShowsState reader.options.wikilinks (text_of leaf) place at p.state bs state
    pub answered : Answered R p.state.asked initial now
    pub counted : AreCounted reader p.here tally state.delimiters.examined

  -- a pass of the grammar has reached an offset, and the text from there up to the cursor is pending
  pub record HasCome (initial : F) (cursor : Cursor) (state : InlineState) (now : F) : Type 0 where
    pub from : ℕ
    pub reached : HasReached initial from state now
    pub pending : IsPending reader.options reader.lookup (is_cell_of leaf) (text_of leaf) from cursor

-- if a leaf is read up to a cursor as the grammar reads it, it is read up to the next one in this way. This holds for each reading with the
-- same options, entities, definitions and footnotes. HTML and texts of the source have to end where their slots end
abbrev pub ComesOn : {F : Type 0} → (F → BrokenLink → Option (CowStr × CowStr) → F → Type 0) → Options → Lookup → RefDefs → (notes others : FootnoteDefs) → LeafText → (sought found : Sought) → (cursor next : Cursor) → (old new : InlineState) → (now later : F) → Type 0
ComesOn {F} R options lookup references notes others leaf sought found cursor next old new now later =
    (reader : Reader) (read : Leaf) (place : ℕ → ℕ) (before : Between) (begun : FootnoteDefs) (initial : F) → ReadsSame options lookup references notes leaf reader read place → ReadsPlaces leaf reader read place
    → AreEnded leaf old.slots.items → HasCome R leaf reader read place before (record { sought = sought; begun = begun; notes = notes }) initial cursor old now
    → HasCome R leaf reader read place before (record { sought = found; begun = begun; notes = others }) initial next new later

-- the leaf is read up to the cursor from its beginning, where `expansion_left` is left of the reference expansion limit and nothing was
-- asked
abbrev pub ComesTo : {F : Type 0} → (F → BrokenLink → Option (CowStr × CowStr) → F → Type 0) → Options → Lookup → RefDefs → FootnoteDefs → LeafText → (expansion_left : ℕ) → (initial : F) → Sought → (notes : FootnoteDefs) → Cursor → InlineState → (now : F) → Type 0
ComesTo R options lookup references begun leaf expansion_left initial sought notes cursor state now =
    (reader : Reader) (read : Leaf) (place : ℕ → ℕ) → ReadsSame options lookup references begun leaf reader read place → ReadsPlaces leaf reader read place
    → HasCome R leaf reader read place (record { expansion_left = expansion_left; asked = [] }) (record { sought = sought; begun = begun; notes = notes }) initial cursor state now

-- ## If memory is refused

-- the grammar has read a part of the leaf, with the questions that were asked, and no others
pub record IsUnderWay {F : Type 0} (R : F → BrokenLink → Option (CowStr × CowStr) → F → Type 0) (reader : Reader) (read : Leaf) (before : Between) (initial now : F) : Type 0 where
  pub p : Pass
  pub reads : Reads (token reader read) (decide reader read) AnyAnswer (entering read before) p.here p.state
  pub answered : Answered R p.state.asked initial now

-- if the grammar's pass has read the leaf up to a cursor, it also asks the questions that were asked after the cursor
abbrev pub StopsOn : {F : Type 0} → (F → BrokenLink → Option (CowStr × CowStr) → F → Type 0) → Options → Lookup → RefDefs → (notes : FootnoteDefs) → LeafText → (sought : Sought) → Cursor → (old : InlineState) → (now later : F) → Type 0
StopsOn {F} R options lookup references notes leaf sought cursor old now later =
    (reader : Reader) (read : Leaf) (place : ℕ → ℕ) (before : Between) (begun : FootnoteDefs) (initial : F) → ReadsSame options lookup references notes leaf reader read place → ReadsPlaces leaf reader read place
    → HasCome R leaf reader read place before (record { sought = sought; begun = begun; notes = notes }) initial cursor old now
    → IsUnderWay R reader read before initial later

-- ## The beginning of a leaf

-- a state without slots, runs, quotes and brackets, as it is before a leaf is read
pub record IsCleared (state : InlineState) : Type 0 where
  pub slots : state.slots.items ≡ []
  pub runs : state.delimiters.placed.items ≡ []
  pub quotes : state.quotes.placed.items ≡ []
  pub brackets : (state.brackets.standing.items ≡ []) × (state.brackets.inactive_below ≡ 0)
  pub doubled : (state.doubled.standing.items ≡ []) × (state.doubled.inactive_below ≡ 0)
  pub label : state.label_close ≡ None
