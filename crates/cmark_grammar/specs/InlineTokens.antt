-- The token at a place of a leaf's text (CommonMark 6): the first construct that matches. All places are places of the source.
use Rattle.std.specs.Prelude.{ℕ, zero, suc, ◌+◌, ◌-◌, Bool, true, false, not, ◌==◌, ◌&&◌, ◌||◌, nat_lt, if◌then◌else◌, List, [], ◌∷◌, codes, chars, length, drop, take, reverse, Option, Some, None}
use Rattle.std.specs.List.{prefix_len}
use Rattle.cmark_grammar.specs.Characters.{ampersand, apostrophe, backslash, backtick, ellipsis, exclamation_mark, hyphen, left_bracket, less_than_sign, period, quotation_mark, right_bracket}
use Rattle.cmark_grammar.specs.Autolinks.{autolink_in}
use Rattle.cmark_grammar.specs.CodeSpans.{is_backtick, backticks, code_in, code_text}
use Rattle.cmark_grammar.specs.Columns.{is_blank_byte}
use Rattle.cmark_grammar.specs.Dashes.{dashes_of, dash_text}
use Rattle.cmark_grammar.specs.Flanking.{Flanking, flanking, is_run_delimiter}
use Rattle.cmark_grammar.specs.Formulas.{is_dollar, Braces, no_braces, braces_after, inline_in, display_in}
use Rattle.cmark_grammar.specs.InlineHtml.{after_markup, takes_lines}
use Rattle.cmark_grammar.specs.Items.{ItemKind, Plain, Own, Written, Quoted, Delimiters, Code, InlineMath, DisplayMath, Autolink, Html, OwnedHtml, SoftBreak, HardBreak, Bracket, Token, Stands, Opens, Closes, Ends}
use Rattle.cmark_grammar.specs.LabelsOverLines.{piped}
use Rattle.cmark_grammar.specs.LeafText.{Leaf, bytes_from, bytes_before, place_with, end_of}
use Rattle.cmark_grammar.specs.Letters.{first_is, starts}
use Rattle.cmark_grammar.specs.LineBreaks.{LineBreak, backslash_break_in, blank_break_in}
use Rattle.cmark_grammar.specs.Lines.{is_content}
use Rattle.cmark_grammar.specs.LinkDefinitions.{Parsed, after_leading_blanks}
use Rattle.cmark_grammar.specs.Quotes.{quote_beside}
use Rattle.cmark_grammar.specs.Readers.{Reader}
use Rattle.cmark_grammar.specs.Tags.{after_tag, no_prefix}
use Rattle.cmark_grammar.specs.Tokens.{Entity, entity_in, is_punctuation, slice}

-- an item after which reading resumes at its end
abbrev pub item_at : ItemKind → (start end : ℕ) → Token
item_at kind start end = Stands (record { kind = kind; start = start; end = end }) end

abbrev pub bracket : Bool → (start end : ℕ) → Bracket
bracket is_image start end = record { is_image = is_image; start = start; end = end }

abbrev pub is_plain : ItemKind → Bool
is_plain Plain = true
is_plain _ = false

abbrev pub first_of : List ℕ → Option ℕ
first_of [] = None
first_of (c ∷ cs) = Some c

-- in a table cell the backslash directly before a `|` is removed from code and formulas (GFM 4.10)
abbrev pub without_pipe_escapes : List ℕ → List ℕ
without_pipe_escapes [] = []
without_pipe_escapes (b ∷ bs) = if starts piped (b ∷ bs) then without_pipe_escapes bs else b ∷ without_pipe_escapes bs

abbrev pub as_in : (is_cell : Bool) → List ℕ → List ℕ
as_in is_cell bs = if is_cell then without_pipe_escapes bs else bs

module _ (reader : Reader) (leaf : Leaf) where
  -- the leaf's bytes from a place on, and those before it
  abbrev pub from : ℕ → List ℕ
  from at = bytes_from reader.source leaf.stretches at

  abbrev pub before : ℕ → List ℕ
  before at = bytes_before reader.source leaf.stretches at

  -- the place at which these last bytes of the leaf begin
  abbrev pub place_of : List ℕ → ℕ
  place_of rest = place_with (length rest) leaf.stretches

  -- the number of bytes from a place to these last ones
  abbrev pub size_to : ℕ → (rest : List ℕ) → ℕ
  size_to at rest = length (from at) - length rest

  abbrev pub character_before : ℕ → Option ℕ
  character_before at = first_of (reverse (chars (before at)))

  abbrev pub character_at : ℕ → Option ℕ
  character_at at = first_of (chars (from at))

  -- the place at which reading resumes: the next byte of the leaf, and at the beginning of a line the first byte after the blanks
  abbrev pub line_begins : ℕ → Bool
  line_begins at = first_is (λ b. not (is_content b)) (reverse (before at))

  abbrev pub read_on : ℕ → ℕ
  read_on at = place_of (if line_begins at then after_leading_blanks (from at) else from at)

  -- a line break (CommonMark 6.7 and 6.8)
  abbrev pub break_to : (at : ℕ) → LineBreak → (end : ℕ) → Token
  break_to at found end = Stands (record { kind = if found.is_hard then HardBreak else SoftBreak; start = at + found.before; end = end }) (read_on end)

  abbrev pub break_or : (at : ℕ) → Option LineBreak → Token → Token
  break_or at None other = other
  break_or at (Some found) other = break_to at found (at + size_to at found.following)

  -- a run of backticks: a code span (CommonMark 6.1), or a text
  abbrev pub code_or : (at run_length : ℕ) → Option Parsed → Token
  code_or at run_length (Some found) = item_at (Code (code_text (as_in leaf.is_cell found.bytes))) at (place_of found.following)
  code_or at run_length None = item_at Own at (at + run_length)

  -- the first backtick of a run is escaped: it is a text if the rest of the run opens a code span; else the whole run is a text
  abbrev pub escaped_backtick : (at run_length : ℕ) → Option Parsed → Token
  escaped_backtick at run_length (Some found) = item_at Plain at (suc at)
  escaped_backtick at run_length None = item_at Own at (at + run_length)

  -- a backslash and the bytes after it (CommonMark 2.4). In a table cell `\\|` is a literal pipe (this profile's own)
  abbrev pub escape_at : (at : ℕ) → List ℕ → Token
  escape_at at bs =
      if first_is is_backtick bs then escaped_backtick (suc at) (backticks bs) (code_in (drop 1 bs))
      else if leaf.is_cell && starts piped bs then item_at Plain (at + 2) (at + 3)
      else if first_is is_punctuation bs then item_at Plain (suc at) (at + 2)
      else item_at Plain at (suc at)

  -- an entity or a numeric character reference (CommonMark 2.5)
  abbrev pub entity_or : (at : ℕ) → Option Entity → Token
  entity_or at (Some entity) = item_at (Written entity.bytes) at (at + entity.size)
  entity_or at None = item_at Plain at (suc at)

  -- an autolink (CommonMark 6.5)
  abbrev pub autolink_or : (at : ℕ) → Option Parsed → Token → Token
  autolink_or at (Some found) other = item_at (Autolink found.bytes) at (place_of found.following)
  autolink_or at None other = other

  -- a tag (CommonMark 6.6), whose text is without the prefixes of its lines, or a text
  abbrev pub tag_kind : (bytes : List ℕ) → ItemKind
  tag_kind bytes = if takes_lines bytes then OwnedHtml bytes else Html

  abbrev pub tag_or_text : (at : ℕ) → Option (List ℕ) → Token
  tag_or_text at (Some rest) = item_at (tag_kind (take (size_to at rest) (from at))) at (place_of rest)
  tag_or_text at None = item_at Own at (suc at)

  -- comments, declarations, CDATA sections and processing instructions are searched for in the source up to the leaf's end, including the
  -- prefixes of its lines (this profile's own)
  abbrev pub source_from : ℕ → List ℕ
  source_from at = slice reader.source at (end_of leaf.stretches)

  abbrev pub markup_to : (at end : ℕ) → Token
  markup_to at end = Stands (record { kind = Html; start = at; end = end }) (read_on end)

  abbrev pub markup_or : (at : ℕ) → Option (List ℕ) → Token → Token
  markup_or at (Some rest) other = markup_to at (at + (length (source_from at) - length rest))
  markup_or at None other = other

  -- a `<`: an autolink, else a comment or other markup, else a tag, else a text (CommonMark 6.5 and 6.6)
  abbrev pub less_than : (at : ℕ) → List ℕ → Token
  less_than at bs =
      if first_is (λ c. c == backslash) bs then item_at Plain at (suc at)
      else autolink_or at (autolink_in reader.options.email_autolinks bs) (markup_or at (after_markup (source_from at)) (tag_or_text at (after_tag no_prefix (from at))))

  -- a delimiter run (CommonMark 6.2), or literal bytes
  abbrev pub run_or : (at delimiter run_length : ℕ) → Flanking → Token
  run_or at delimiter run_length beside =
      if beside.opens || beside.closes
      then item_at (Delimiters (record { delimiter = delimiter; run_length = run_length; at = 0; left = run_length; opens = beside.opens; closes = beside.closes })) at (at + run_length)
      else item_at Plain at (at + run_length)

  -- a run of delimiters with the characters beside it (CommonMark 6.2)
  abbrev pub run_at : (at delimiter run_length : ℕ) → Token
  run_at at delimiter run_length = run_or at delimiter run_length (flanking reader.options delimiter run_length (character_before at) (character_at (at + run_length)))

  -- a formula, or a dollar sign that is a text (this profile's own)
  abbrev pub formula_or : (List ℕ → ItemKind) → (at : ℕ) → Option Parsed → Token
  formula_or kind at (Some found) = item_at (kind (as_in leaf.is_cell found.bytes)) at (place_of found.following)
  formula_or kind at None = item_at Own at (suc at)

  abbrev pub dollar : (at : ℕ) → List ℕ → Braces → Token
  dollar at bs braces =
      if first_is is_dollar bs then formula_or DisplayMath at (display_in braces (drop 1 bs)) else formula_or InlineMath at (inline_in braces bs)

  -- an ellipsis, dashes, and quotes (this profile's own)
  abbrev pub dots : (at : ℕ) → Token
  dots at = if starts (codes "...") (from at) then item_at (Written ellipsis) at (at + 3) else item_at Plain at (suc at)

  abbrev pub hyphens : (at run_length : ℕ) → Token
  hyphens at run_length = if nat_lt run_length 2 then item_at Plain at (at + run_length) else item_at (Written (dash_text (dashes_of run_length))) at (at + run_length)

  abbrev pub quote_at : (at b : ℕ) → Token
  quote_at at b = item_at (Quoted (quote_beside (b == quotation_mark) (character_before at) (character_at (suc at)))) at (suc at)

  -- typographic texts, if smart punctuation is on (this profile's own)
  abbrev pub smart_or : (at b : ℕ) → Token
  smart_or at b =
      if b == period then dots at
      else if b == hyphen then hyphens at (prefix_len (λ c. c == hyphen) (from at))
      else if (b == quotation_mark) || (b == apostrophe) then quote_at at b
      else item_at Plain at (suc at)

  -- the token that begins with this byte, of which these bytes are the rest: the first byte decides which constructs are tried
  abbrev pub begins : (at : ℕ) → List ℕ → Token
  begins at [] = Ends
  begins at (b ∷ bs) =
      if is_blank_byte b || not (is_content b) then break_or at (blank_break_in (b ∷ bs)) (item_at Plain at (suc at))
      else if b == backslash then break_or at (backslash_break_in (b ∷ bs)) (escape_at at bs)
      else if b == ampersand then entity_or at (entity_in reader.lookup bs)
      else if b == backtick then code_or at (backticks (b ∷ bs)) (code_in (b ∷ bs))
      else if b == less_than_sign then less_than at bs
      else if b == exclamation_mark then (if first_is (λ c. c == left_bracket) bs then Opens (bracket true at (at + 2)) else item_at Plain at (suc at))
      else if b == left_bracket then Opens (bracket false at (suc at))
      else if b == right_bracket then Closes (bracket false at (suc at))
      else if is_run_delimiter b then run_at at b (prefix_len (λ c. c == b) (b ∷ bs))
      else if reader.options.math && is_dollar b then dollar at bs (braces_after false (before at) no_braces)
      else if reader.options.smart_punctuation then smart_or at b
      else item_at Plain at (suc at)

  -- the token at this place, if each literal byte is an item of its own
  abbrev pub begins_at : ℕ → Token
  begins_at at = begins at (from at)

  -- adjacent literal bytes are one text
  abbrev pub goes_on : Token → (end : ℕ) → (more : ℕ → ℕ) → ℕ
  goes_on (Stands item resume) end more = if is_plain item.kind && (item.start == end) then more resume else end
  goes_on _ end more = end

  abbrev pub plain_end : (bytes : ℕ) → (end : ℕ) → ℕ
  plain_end zero end = end
  plain_end (suc n) end = goes_on (begins_at end) end (plain_end n)

  abbrev pub longest : Token → Token
  longest (Stands item resume) = if is_plain item.kind then item_at Plain item.start (plain_end (length (from resume)) resume) else Stands item resume
  longest (Opens opener) = Opens opener
  longest (Closes closer) = Closes closer
  longest Ends = Ends

  -- the token at this place, with adjacent literal bytes as one text
  unfoldable pub token : ℕ → Token
  token at = longest (begins_at at)
