use Rattle.cmark_line_rules.specs.Rests.{row_of}
use Rattle.std.proofs.Common.{◌≡◌, ℕ, List, ◌∷◌, ◌<◌, ◌≤◌, ◌+◌, ◌-◌, length, take, drop, sym, ap, ◌∙◌, subst, arith, ⊎_elim, length-drop}
use Rattle.std.proofs.Math.Nat.{eq-or-lt_of_le}
use Rattle.std.specs.Str.{IsCharBoundary}
use Rattle.cmark_grammar.specs.Lines.{content, ending_len}
use Rattle.cmark_grammar.specs.Rows.{rows_from}
use Rattle.cmark_grammar.specs.Lines.{lines}
use Rattle.cmark_block_model.proofs.RowEdges.{GoodRow}
use Rattle.cmark_scan_lines.specs.LineStart.{row_from, line_of}
use Rattle.cmark_scan_bytes.proofs.Lists.{rest_of}
use Rattle.cmark_line_rules.proofs.LineRows.{whole-line, line-len, content-len, rows-further, row-none, row-line, line-good, none-good}
use Rattle.cmark_line_rules.proofs.line_rest.LineRest.new.Goals as goal

pub slice_bounds-ending_len-count : goal.slice_bounds-ending_len-count
unfolding row_of
slice_bounds-ending_len-count c =
    let text = c.args.text.now in
    let start = c.args.start in
    let len = line-len text start c.new-front.result c.new-front.ensures c.remaining_bytes-len.result.now c.remaining_bytes-len.ensures in
    let le = content-len (drop start text) in
    let same = ap length (rest_of text start) in
    omega (arith, len, le, same)

pub slice_bounds-ending_len-start : goal.slice_bounds-ending_len-start
slice_bounds-ending_len-start c = slice_bounds-ending_len-count c

pub invariant_of-result : goal.invariant_of-result
unfolding row_of
invariant_of-result c =
    let text = c.args.text.now in
    let start = c.args.start in
    let len = line-len text start c.new-front.result c.new-front.ensures c.remaining_bytes-len.result.now c.remaining_bytes-len.ensures in
    let content_end = ap (λ r. r.content_end) (whole-line text start c.new-front.result c.new-front.ensures start 0) in
    record { ends = omega (arith, len, content_end) }

-- the bytes from the line's beginning on
abbrev line_bytes : goal.After-result-1 → List ℕ
line_bytes c = take (length c.args.text.now - c.args.start) (drop c.args.start c.args.text.now)

the_len : (c : goal.After-result-1) → length c.remaining_bytes-len.result.now ≡ length (content (drop c.args.start c.args.text.now))
unfolding row_of
the_len c = line-len c.args.text.now c.args.start c.new-front.result c.new-front.ensures c.remaining_bytes-len.result.now c.remaining_bytes-len.ensures

the_ending : (c : goal.After-result-1) → c.ending_len.result ≡ ending_len (drop (length c.remaining_bytes-len.result.now) (drop c.args.start c.args.text.now))
unfolding row_of
the_ending c =
    let len = length c.remaining_bytes-len.result.now in
    c.ending_len.ensures.value ∙ ap ending_len (rest_of (line_bytes c) len) ∙ ap (λ l. ending_len (drop len l)) (rest_of c.args.text.now c.args.start)

the_within : (c : goal.After-result-1) → c.args.start + length c.remaining_bytes-len.result.now + c.ending_len.result ≤ length c.args.text.now
unfolding row_of
the_within c =
    let text = c.args.text.now in
    let start = c.args.start in
    let len = length c.remaining_bytes-len.result.now in
    omega (arith, c.ending_len.ensures.within, ap length (rest_of (line_bytes c) len), length-drop len (line_bytes c), ap length (rest_of text start), length-drop start text, c.requires, the_len c, content-len (drop start text))

abbrev the_line_end : goal.After-result-1 → ℕ
the_line_end c = c.args.start + length c.remaining_bytes-len.result.now + c.ending_len.result

the_row : (c : goal.After-result-1) → row_from c.args.start (the_line_end c) c.new-front.result ≡ line_of c.args.start (the_line_end c) (drop c.args.start c.args.text.now)
unfolding row_of
the_row c = whole-line c.args.text.now c.args.start c.new-front.result c.new-front.ensures c.args.start (the_line_end c)

pub returns-clause-line : goal.returns-clause-line
unfolding row_of
returns-clause-line c line more is =
    the_row c ∙ row-line c.args.text.now c.args.start (length c.remaining_bytes-len.result.now) c.ending_len.result (the_len c) (the_ending c) c.requires line more is

pub returns-clause-further : goal.returns-clause-further
unfolding row_of
returns-clause-further c lt =
    rows-further c.args.text.now c.args.start (length c.remaining_bytes-len.result.now) c.ending_len.result (the_len c) (the_ending c) lt
    ∙ ap (λ r. r ∷ rows_from (the_line_end c) (lines (drop (the_line_end c) c.args.text.now))) (sym (the_row c))

pub returns-clause-none : goal.returns-clause-none
unfolding row_of
returns-clause-none c end = the_row c ∙ row-none c.args.text.now c.args.start (length c.remaining_bytes-len.result.now) c.ending_len.result (the_len c) (the_ending c) end

pub returns-clause-within : goal.returns-clause-within
unfolding row_of
returns-clause-within c = the_within c

pub returns-clause-placed : goal.returns-clause-placed
unfolding row_of
returns-clause-placed c utf8 boundary = record {
  good = subst (GoodRow (IsCharBoundary text)) (sym (the_row c)) (⊎_elim at_end within (eq-or-lt_of_le c.requires));
  within = the_within c;
}
  where
    text : List ℕ
    text = c.args.text.now

    start : ℕ
    start = c.args.start

    at_end : start ≡ length text → GoodRow (IsCharBoundary text) (line_of start (the_line_end c) (drop start text))
    at_end end =
        subst (GoodRow (IsCharBoundary text)) (sym (row-none text start (length c.remaining_bytes-len.result.now) c.ending_len.result (the_len c) (the_ending c) end))
        (none-good (IsCharBoundary text) start boundary)

    within : start < length text → GoodRow (IsCharBoundary text) (line_of start (the_line_end c) (drop start text))
    within lt = line-good text start (length c.remaining_bytes-len.result.now) c.ending_len.result (the_len c) (the_ending c) lt utf8 boundary
