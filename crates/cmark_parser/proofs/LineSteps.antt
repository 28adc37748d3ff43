-- The HTML of plain lines is the HTML of their text.
use Rattle.std.specs.Prelude.{◌-◌, drop, nat_eq, None}
use Rattle.std.specs.Cmp.Lexicographic.{pointwise}
use Rattle.std.proofs.Common.{◌≡◌, ℕ, suc, ◌+◌, ◌<◌, Bool, true, false, List, [], ◌∷◌, ◌++◌, Option, length, length-append, refl, sym, ap, ◌∙◌, arith, append_assoc, append-nil}
use Rattle.std.proofs.Math.Seq.{drop-append-add}
use Rattle.cmark_grammar.specs.Answers.{Lookup}
use Rattle.cmark_grammar.specs.Escapes.{body_text_byte, escaped_body_text}
use Rattle.cmark_grammar.specs.Event.{Event, SoftBreak, Text}
use Rattle.cmark_grammar.specs.Html.{TableState, Writing, ends_in_line_feed, moved_all, moved_outside, piece_outside, pieces_from}
use Rattle.cmark_inline.specs.declared.callback.BrokenLink.{BrokenLink}
use Rattle.cmark_inline_model.specs.PlainLines.{joined_lines, line_events}
use Rattle.cmark_text.specs.Excerpt.{excerpt_bytes}
use Rattle.cmark_text.specs.Short.{shown_short}
use Rattle.cmark_text.specs.declared.short.Short.{Short}
use Rattle.cmark_text.specs.declared.short.Short.TheVariants as short
use Rattle.cmark_values.specs.declared.text.CowStr.{CowStr}
use Rattle.cmark_parser.specs.declared.parse.Parser.{Parser}
use Rattle.cmark_parser.specs.Parsing.{GivesAsText, GivesLines}
use Rattle.cmark_parser.specs.Rendering.{WritesSome, Written, filtered_of}

-- the events of lines, without their ranges
abbrev shown_lines : (lines : List (List ℕ)) → (last : List ℕ) → List Event
shown_lines [] last = Text last ∷ []
shown_lines (line ∷ lines) last = Text line ∷ (SoftBreak ∷ shown_lines lines last)

-- ## The bytes

escaped-append : (xs ys : List ℕ) → escaped_body_text (xs ++ ys) ≡ escaped_body_text xs ++ escaped_body_text ys
escaped-append [] ys = refl
escaped-append (x ∷ xs) ys = ap (λ l. body_text_byte x ++ l) (escaped-append xs ys) ∙ sym (append_assoc (body_text_byte x) (escaped_body_text xs) (escaped_body_text ys))

-- outside of images and of metadata blocks
abbrev outside : (line_start : Bool) → TableState → (names : List (List ℕ)) → Writing
outside line_start table names = record { line_start = line_start; image = None; in_metadata = false; table = table; names = names }

lines-pieces : (line_start : Bool) (table : TableState) (names : List (List ℕ)) (lines : List (List ℕ)) (last : List ℕ) → pieces_from (outside line_start table names) (shown_lines lines last) ≡ escaped_body_text (joined_lines lines last)
lines-pieces line_start table names [] last = append-nil (escaped_body_text last)
lines-pieces line_start table names (line ∷ lines) last =
    ap (λ l. escaped_body_text line ++ 10 ∷ l) (lines-pieces true table names lines last) ∙ sym (escaped-append line (10 ∷ joined_lines lines last))

lines-moved : (line_start : Bool) (table : TableState) (names : List (List ℕ)) (lines : List (List ℕ)) (last : List ℕ) → moved_all (outside line_start table names) (shown_lines lines last) ≡ outside (ends_in_line_feed last) table names
lines-moved line_start table names [] last = refl
lines-moved line_start table names (line ∷ lines) last = lines-moved true table names lines last

-- a text ends with a line feed if its last line does
module _ (last : List ℕ) (some : 0 < length last) where
  joined-some : (lines : List (List ℕ)) → 0 < length (joined_lines lines last)
  joined-some [] = some
  joined-some (line ∷ lines) = let a = length-append line (10 ∷ joined_lines lines last) in omega (arith, a)

  feed-after : (xs ys : List ℕ) → 0 < length ys → ends_in_line_feed (xs ++ ys) ≡ ends_in_line_feed ys
  feed-after xs ys more =
      let a = length-append xs ys in
      ap (λ n. pointwise nat_eq (10 ∷ []) (drop n (xs ++ ys))) (let q : length (xs ++ ys) - 1 ≡ length xs + (length ys - 1) = omega (arith, a, more) in q)
      ∙ ap (pointwise nat_eq (10 ∷ [])) (drop-append-add xs ys (length ys - 1))

  joined-feed : (lines : List (List ℕ)) → ends_in_line_feed (joined_lines lines last) ≡ ends_in_line_feed last
  joined-feed [] = refl
  joined-feed (line ∷ lines) =
      ap ends_in_line_feed (sym (append_assoc line (10 ∷ []) (joined_lines lines last)))
      ∙ feed-after (line ++ 10 ∷ []) (joined_lines lines last) (joined-some lines)
      ∙ joined-feed lines

-- ## The state

module _ (w : Writing) (closed : w.image ≡ None) (shown : w.in_metadata ≡ false) where
  outside-is : w ≡ outside w.line_start w.table w.names
  outside-is = λ i. record { line_start = w.line_start; image = closed i; in_metadata = shown i; table = w.table; names = w.names }

  pub lines-are-text : (lines : List (List ℕ)) (last : List ℕ) → pieces_from w (shown_lines lines last) ≡ piece_outside w (Text (joined_lines lines last))
  lines-are-text lines last =
      ap (λ v. pieces_from v (shown_lines lines last)) outside-is
      ∙ lines-pieces w.line_start w.table w.names lines last
      ∙ ap (λ v. piece_outside v (Text (joined_lines lines last))) (sym outside-is)

  pub lines-move-as-text : (lines : List (List ℕ)) (last : List ℕ) → 0 < length last → moved_all w (shown_lines lines last) ≡ moved_outside w (Text (joined_lines lines last))
  lines-move-as-text lines last some =
      ap (λ v. moved_all v (shown_lines lines last)) outside-is
      ∙ lines-moved w.line_start w.table w.names lines last
      ∙ ap (λ b. outside b w.table w.names) (sym (joined-feed last some lines))
      ∙ ap (λ v. moved_outside v (Text (joined_lines lines last))) (sym outside-is)

-- ## The filter

module _ (filtered : Event → Event) (texts : (text : List ℕ) → filtered (Text text) ≡ Text text) (breaks : filtered SoftBreak ≡ SoftBreak) where
  lines-filtered : (start : ℕ) (lines : List (List ℕ)) (last : List ℕ) → filtered_of filtered (line_events start lines last) ≡ shown_lines lines last
  lines-filtered start [] last = ap (λ e. e ∷ []) (texts last)
  lines-filtered start (line ∷ lines) last =
      ap (λ e. e ∷ (filtered SoftBreak ∷ filtered_of filtered (line_events (suc (start + length line)) lines last))) (texts line)
      ∙ ap (λ e. Text line ∷ (e ∷ filtered_of filtered (line_events (suc (start + length line)) lines last))) breaks
      ∙ ap (λ es. Text line ∷ (SoftBreak ∷ es)) (lines-filtered (suc (start + length line)) lines last)

  -- several lines were written as one text
  pub lines-written : {E F : Type 0} (Says : F → BrokenLink → Option (CowStr × CowStr) → F → Type 0) (replacement : E → Lookup) (parser new : Parser E F) (bytes : List ℕ) (mid after : Written) → GivesLines Says replacement parser bytes new
      → mid.writing.image ≡ None → mid.writing.in_metadata ≡ false → after.bytes ≡ mid.bytes ++ piece_outside mid.writing (Text bytes) → after.writing ≡ moved_outside mid.writing (Text bytes)
      → WritesSome Says replacement filtered parser mid new after
  lines-written Says replacement parser new bytes mid after h closed shown more writing =
      let w = mid.writing in
      let same = lines-filtered h.start h.lines h.last in
      record {
        given = line_events h.start h.lines h.last;
        passes = h.passes;
        bytes =
            more
            ∙ ap (λ t. mid.bytes ++ piece_outside w (Text t)) h.bytes_are
            ∙ ap (λ l. mid.bytes ++ l) (sym (lines-are-text w closed shown h.lines h.last))
            ∙ ap (λ es. mid.bytes ++ pieces_from w es) (sym same);
        writing =
            writing
            ∙ ap (λ t. moved_outside w (Text t)) h.bytes_are
            ∙ sym (lines-move-as-text w closed shown h.lines h.last h.some)
            ∙ ap (moved_all w) (sym same);
        can = h.can;
      }

  -- the same where the lines are given as a text
  pub text-written : {E F : Type 0} (Says : F → BrokenLink → Option (CowStr × CowStr) → F → Type 0) (replacement : E → Lookup) (parser new : Parser E F) (given : Short) (mid after : Written) → GivesAsText Says replacement parser given new
      → mid.writing.image ≡ None → mid.writing.in_metadata ≡ false → after.bytes ≡ mid.bytes ++ piece_outside mid.writing (shown_short given) → after.writing ≡ moved_outside mid.writing (shown_short given)
      → WritesSome Says replacement filtered parser mid new after
  text-written Says replacement parser new (short.Text text) mid after h closed shown more writing = lines-written Says replacement parser new (excerpt_bytes text) mid after h closed shown more writing
  text-written Says replacement parser new (short.Start tag) mid after h closed shown more writing = absurd h
  text-written Says replacement parser new (short.End tag) mid after h closed shown more writing = absurd h
  text-written Says replacement parser new (short.Code bytes) mid after h closed shown more writing = absurd h
  text-written Says replacement parser new (short.Html bytes) mid after h closed shown more writing = absurd h
  text-written Says replacement parser new (short.InlineHtml bytes) mid after h closed shown more writing = absurd h
  text-written Says replacement parser new short.SoftBreak mid after h closed shown more writing = absurd h
  text-written Says replacement parser new short.HardBreak mid after h closed shown more writing = absurd h
  text-written Says replacement parser new short.Rule mid after h closed shown more writing = absurd h
