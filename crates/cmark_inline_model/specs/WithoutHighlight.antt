-- The grammar without highlight (this profile's own), in which `=` is an ordinary byte. It has each definition that highlight changed, as
-- it was without it, and those that name such a definition.
use Rattle.std.specs.Prelude.{◌≡◌, ℕ, zero, suc, ◌+◌, Bool, true, false, not, ◌==◌, ◌&&◌, ◌||◌, nat_lt, if◌then◌else◌, List, [], ◌∷◌, ◌++◌, codes, length, Option, Some, None}
use Rattle.std.specs.List.{prefix_len}
use Rattle.cmark_grammar.specs.Characters.{ampersand, asterisk, backslash, backtick, caret, exclamation_mark, left_bracket, less_than_sign, pipe, right_bracket, tilde, underscore}
use Rattle.cmark_grammar.specs.BlockDocument.{BlockDocument}
use Rattle.cmark_grammar.specs.BracketDecisions.{decide}
use Rattle.cmark_grammar.specs.BracketReading.{ReadsWhole}
use Rattle.cmark_grammar.specs.BracketStates.{State}
use Rattle.cmark_grammar.specs.CodeSpans.{backticks, code_in}
use Rattle.cmark_grammar.specs.Columns.{is_blank_byte}
use Rattle.cmark_grammar.specs.Derivation.{Derives}
use Rattle.cmark_grammar.specs.Emphasis.{Run, Pair, Sibling, Plain as PlainSibling, Delimiter, Piece, Whole, Standing, keeps_rule_of_three, pair_of, rest_of_opener, rest_of_closer, emphasis_kinds, tilde_kinds, caret_kinds, nest, row, keep, left_open, stand}
use Rattle.cmark_grammar.specs.Event.{Ranged}
use Rattle.cmark_grammar.specs.Flanking.{Flanking, is_intraword, opens_beside, closes_beside}
use Rattle.cmark_grammar.specs.Formulas.{is_dollar, no_braces, braces_after}
use Rattle.cmark_grammar.specs.InlineReading.{inline_events}
use Rattle.cmark_grammar.specs.InlineTokens.{item_at, bracket, is_plain, from, before, character_before, character_at, break_or, code_or, escape_at, entity_or, less_than, run_or, dollar, smart_or, goes_on}
use Rattle.cmark_grammar.specs.Items.{Plain, Token, Stands, Opens, Closes as ClosesBracket, Ends}
use Rattle.cmark_grammar.specs.LeafReading.{Between, entering, leaving}
use Rattle.cmark_grammar.specs.LeafText.{Leaf}
use Rattle.cmark_grammar.specs.Letters.{first_is}
use Rattle.cmark_grammar.specs.LineBreaks.{backslash_break_in, blank_break_in}
use Rattle.cmark_grammar.specs.Lines.{is_content}
use Rattle.cmark_grammar.specs.Options.{Options}
use Rattle.cmark_grammar.specs.Parts.{Parts, Nil as NoParts, Single as SinglePart, Form, Closing, Opening, Linking, Footnote, Wiki}
use Rattle.cmark_grammar.specs.Questions.{Exchange, Saying, IsNext}
use Rattle.cmark_grammar.specs.Readers.{Reader}
use Rattle.cmark_grammar.specs.Siblings.{Inline, Nil, Around, with_quotes, siblings_from, one_by_one, with_spans, item_then, text_then, tag_by, footnote_then, wiki_tag, name_text, display_from}
use Rattle.cmark_grammar.specs.SpanDocuments.{Segment, Given, Content, Profile, segments, reader_of, at_start}
use Rattle.cmark_grammar.specs.Spans.{SpanKind, Spans}
use Rattle.cmark_grammar.specs.Spans as spans
use Rattle.cmark_inline_model.specs.SpecialBytes.{is_one_of, is_always_special}
use Rattle.cmark_grammar.specs.Tokens.{entity_in}

-- ## Bytes and delimiter runs

abbrev pub is_special_without : Options → ℕ → Bool
is_special_without options b =
    is_always_special b
    || ((options.tables && (b == pipe))
    || (((options.strikethrough || options.subscript) && (b == tilde))
    || ((options.superscript && (b == caret))
    || ((options.math && is_one_of (codes "${}") b)
    || (options.smart_punctuation && is_one_of (codes ".-\"'") b)))))

abbrev pub is_run_delimiter_without : ℕ → Bool
is_run_delimiter_without b = (b == asterisk) || ((b == underscore) || ((b == tilde) || (b == caret)))

abbrev pub is_delimiter_run_without : Options → (delimiter run_length : ℕ) → Bool
is_delimiter_run_without options delimiter run_length =
    (((delimiter == asterisk) || (delimiter == underscore)) && nat_lt 0 run_length)
    || ((delimiter == tilde) && ((options.strikethrough || options.subscript) && ((run_length == 1) || (run_length == 2)))
    || ((delimiter == caret) && (options.superscript && (run_length == 1))))

abbrev pub flanking_without : Options → (delimiter run_length : ℕ) → (before after : Option ℕ) → Flanking
flanking_without options delimiter run_length before after = record {
  opens = is_delimiter_run_without options delimiter run_length && opens_beside (is_intraword options delimiter run_length) before after;
  closes = is_delimiter_run_without options delimiter run_length && closes_beside (is_intraword options delimiter run_length) before after;
}

-- ## Tokens

module _ (reader : Reader) (leaf : Leaf) where
  abbrev pub run_at_without : (at delimiter run_length : ℕ) → Token
  run_at_without at delimiter run_length =
      run_or reader leaf at delimiter run_length (flanking_without reader.options delimiter run_length (character_before reader leaf at) (character_at reader leaf (at + run_length)))

  abbrev pub begins_without : (at : ℕ) → List ℕ → Token
  begins_without at [] = Ends
  begins_without at (b ∷ bs) =
      if is_blank_byte b || not (is_content b) then break_or reader leaf at (blank_break_in (b ∷ bs)) (item_at Plain at (suc at))
      else if b == backslash then break_or reader leaf at (backslash_break_in (b ∷ bs)) (escape_at reader leaf at bs)
      else if b == ampersand then entity_or reader leaf at (entity_in reader.lookup bs)
      else if b == backtick then code_or reader leaf at (backticks (b ∷ bs)) (code_in (b ∷ bs))
      else if b == less_than_sign then less_than reader leaf at bs
      else if b == exclamation_mark then (if first_is (λ c. c == left_bracket) bs then Opens (bracket true at (at + 2)) else item_at Plain at (suc at))
      else if b == left_bracket then Opens (bracket false at (suc at))
      else if b == right_bracket then ClosesBracket (bracket false at (suc at))
      else if is_run_delimiter_without b then run_at_without at b (prefix_len (λ c. c == b) (b ∷ bs))
      else if reader.options.math && is_dollar b then dollar reader leaf at bs (braces_after false (before reader leaf at) no_braces)
      else if reader.options.smart_punctuation then smart_or reader leaf at b
      else item_at Plain at (suc at)

  abbrev pub begins_at_without : ℕ → Token
  begins_at_without at = begins_without at (from reader leaf at)

  abbrev pub plain_end_without : (bytes : ℕ) → (end : ℕ) → ℕ
  plain_end_without zero end = end
  plain_end_without (suc n) end = goes_on reader leaf (begins_at_without end) end (plain_end_without n)

  abbrev pub longest_without : Token → Token
  longest_without (Stands item resume) =
      if is_plain item.kind then item_at Plain item.start (plain_end_without (length (from reader leaf resume)) resume) else Stands item resume
  longest_without (Opens opener) = Opens opener
  longest_without (ClosesBracket closer) = ClosesBracket closer
  longest_without Ends = Ends

  unfoldable pub token_without : ℕ → Token
  token_without at = longest_without (begins_at_without at)

-- ## Emphasis

abbrev pub has_same_delimiter_without : (opener closer : Run) → Bool
has_same_delimiter_without opener closer = (opener.delimiter == closer.delimiter) && (not (closer.delimiter == tilde) || (opener.run_length == closer.run_length))

abbrev pub agrees_without : (opener closer : Run) → Bool
agrees_without opener closer =
    closer.closes && (nat_lt 0 closer.left && (has_same_delimiter_without opener closer && keeps_rule_of_three opener closer))

abbrev pub kinds_without : (delimiter count : ℕ) → List SpanKind
kinds_without delimiter count = if delimiter == tilde then tilde_kinds count else if delimiter == caret then caret_kinds count else emphasis_kinds count

abbrev pub wrapped_without : Pair → Spans → Spans
wrapped_without pair inside = nest (kinds_without pair.delimiter pair.count) pair.from pair.to inside

abbrev pub MissesWithout : Run → List Piece → Type 0
MissesWithout closer [] = Unit {0}
MissesWithout closer (Whole spans ∷ pieces) = MissesWithout closer pieces
MissesWithout closer (Standing opener ∷ pieces) = (agrees_without opener closer ≡ false) × MissesWithout closer pieces

pub record TakesWithout (Then : Run → List Piece → Type 0) (closer : Run) (pieces : List Piece) (pair : Pair) : Type 0 where
  pub between : List Piece
  pub opener : Run
  pub front : List Piece
  pub cut : pieces ≡ between ++ (Standing opener ∷ front)
  pub nearest : MissesWithout closer between
  pub agree : agrees_without opener closer ≡ true
  pub is : pair ≡ pair_of opener closer
  pub so : Then (rest_of_closer opener closer) (Whole (wrapped_without pair (row between spans.Nil)) ∷ keep (rest_of_opener opener closer) front)

abbrev pub ClosesWithout : Run → List Piece → List Pair → Run → List Piece → Type 0
ClosesWithout closer pieces [] rest now = MissesWithout closer pieces × (rest ≡ closer) × (now ≡ left_open closer pieces)
ClosesWithout closer pieces (pair ∷ more) rest now = TakesWithout (λ run others. ClosesWithout run others more rest now) closer pieces pair

pub record CourseWithout (Then : List Piece → List Pair → Type 0) (run : Run) (pieces : List Piece) (pairs : List Pair) : Type 0 where
  pub own : List Pair
  pub others : List Pair
  pub rest : Run
  pub now : List Piece
  pub cut : pairs ≡ own ++ others
  pub closes : ClosesWithout run pieces own rest now
  pub so : Then (stand rest now) others

abbrev pub PairsWithout : List Sibling → List Piece → List Pair → List Piece → Type 0
PairsWithout [] pieces pairs last = (pairs ≡ []) × (last ≡ pieces)
PairsWithout (PlainSibling at ∷ siblings) pieces pairs last = PairsWithout siblings (Whole (spans.Single at spans.Nil) ∷ pieces) pairs last
PairsWithout (Delimiter run ∷ siblings) pieces pairs last = CourseWithout (λ others more. PairsWithout siblings others more last) run pieces pairs

pub record IsEmphasisWithout (siblings : List Sibling) (pairs : List Pair) (become : Spans) : Type 0 where
  pub last : List Piece
  pub are : PairsWithout siblings [] pairs last
  pub become_so : become ≡ row last spans.Nil

-- ## The spans of a leaf

module _ (options : Options) where
  pub record IsDressedWithout (siblings result : Inline) : Type 0 where
    pub pairs : List Pair
    pub spans_are : Spans
    pub emphasis : IsEmphasisWithout (siblings_from (with_quotes siblings) 0) pairs spans_are
    pub result_is : result ≡ with_spans options (one_by_one (with_quotes siblings)) spans_are

  abbrev pub AreSiblingsWithout : Parts → Inline → Type 0
  AreSiblingsWithout NoParts siblings = siblings ≡ Nil
  AreSiblingsWithout (SinglePart x after) siblings = (others : Inline) × AreSiblingsWithout after others × (siblings ≡ item_then x.kind x others)
  AreSiblingsWithout (Form opener inside closer (Linking target) after) siblings =
      (inner dressed others : Inline) × AreSiblingsWithout inside inner × IsDressedWithout inner dressed × AreSiblingsWithout after others
      × (siblings ≡ Around (tag_by opener.is_image target.linked) opener.start target.end dressed others)
  AreSiblingsWithout (Form opener inside closer (Footnote label end) after) siblings =
      (others : Inline) × AreSiblingsWithout after others × (siblings ≡ footnote_then opener.is_image opener.start label end others)
  AreSiblingsWithout (Form opener inside closer (Wiki name None end) after) siblings =
      (others : Inline) × AreSiblingsWithout after others × (siblings ≡ Around (wiki_tag opener.is_image name false) opener.start end (name_text opener closer) others)
  AreSiblingsWithout (Form opener inside closer (Wiki name (Some place) end) after) siblings =
      (inner dressed others : Inline) × AreSiblingsWithout inside inner × IsDressedWithout (display_from place closer.start inner) dressed × AreSiblingsWithout after others
      × (siblings ≡ Around (wiki_tag opener.is_image name true) opener.start end dressed others)
  AreSiblingsWithout (Closing closer after) siblings = (others : Inline) × AreSiblingsWithout after others × (siblings ≡ text_then closer others)
  AreSiblingsWithout (Opening opener after) siblings = (others : Inline) × AreSiblingsWithout after others × (siblings ≡ text_then opener others)

  pub record AreSpansWithout (parts : Parts) (become : Inline) : Type 0 where
    pub siblings : Inline
    pub are : AreSiblingsWithout parts siblings
    pub dressed_so : IsDressedWithout siblings become

-- ## Readings

pub record ReadsLeafWithout (reader : Reader) (Says : Saying) (leaf : Leaf) (before : Between) (events : List Ranged) (after : Between) : Type 0 where
  pub parts : Parts
  pub last : State
  pub become : Inline
  pub reads : ReadsWhole (token_without reader leaf) (decide reader leaf) Says (entering leaf before) parts last
  pub are : AreSpansWithout reader.options parts become
  pub events_are : events ≡ inline_events reader.source become
  pub after_is : after ≡ leaving last

abbrev pub ReadsAllWithout : Reader → Saying → List Segment → (before : Between) → List Ranged → (after : Between) → Type 0
ReadsAllWithout reader Says [] before events after = (events ≡ []) × (after ≡ before)
ReadsAllWithout reader Says (Given r ∷ others) before events after = (later : List Ranged) × ReadsAllWithout reader Says others before later after × (events ≡ r ∷ later)
ReadsAllWithout reader Says (Content leaf ∷ others) before events after =
    (own later : List Ranged) × (between : Between) × ReadsLeafWithout reader Says leaf before own between × ReadsAllWithout reader Says others between later after × (events ≡ own ++ later)

-- a reading of the text by the grammar without highlight
pub record IsReadingWithout (text : List ℕ) (profile : Profile) (exchanges : List Exchange) (events : List Ranged) : Type 0 where
  pub document : BlockDocument
  pub after : Between
  pub derives : Derives text profile.options profile.lookup document
  pub reads : ReadsAllWithout (reader_of text profile document) (IsNext exchanges) (segments document) (at_start profile) events after
  pub asked : after.asked ≡ exchanges
