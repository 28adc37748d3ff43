-- What is left of a line, after some of its columns were taken.
use Rattle.std.proofs.Common.{◌≡◌, ℕ, zero, suc, ◌+◌, ◌-◌, ◌<◌, ◌≤◌, true, false, List, [], length, take, drop, sym, ap, ◌∙◌, arith}
use Rattle.std.specs.Prelude.{◌==◌, min, not}
use Rattle.std.proofs.lemmas.List.{drop-drop}
use Rattle.cmark_grammar.specs.Columns.{expand, indent, without_indent}
use Rattle.cmark_grammar.specs.Rows.{without}
use Rattle.cmark_scan_lines.specs.Places.{column_after}
use Rattle.cmark_scan_lines.specs.LineStart.{columns_taken, columns_from, row_from}
use Rattle.cmark_scan_lines.specs.declared.line_start.LineStart.{LineStart}
use Rattle.cmark_scan_lines.proofs.PlaceSteps.{left, left-whole, pending-indent, indent-drop}
use Rattle.cmark_scan_lines.proofs.RowSteps.{blank-rest}
use Rattle.cmark_grammar.specs.Leaves.{are_blank}

pub columns-further : (at k : ℕ) (line line' : LineStart) → line'.bytes ≡ line.bytes → columns_taken line' ≡ columns_taken line + k → columns_from at line' ≡ drop k (columns_from at line)
columns-further at k line line' same more =
    ap (λ n. drop n (expand 0 at line'.bytes.now)) more ∙ ap (λ bytes. drop (columns_taken line + k) (expand 0 at bytes.now)) same
    ∙ sym (drop-drop k (columns_taken line) (expand 0 at line.bytes.now))

pub row-further : (at line_end k : ℕ) (line line' : LineStart) → line'.bytes ≡ line.bytes → line'.held ≡ line.held → columns_taken line' ≡ columns_taken line + k → row_from at line_end line' ≡ without k (row_from at line_end line)
row-further at line_end k line line' same held more =
    ap (λ cs. record { columns = cs; at = at; content_end = at + length line'.bytes.now; line_end = line_end; lazy = false; held = not (line'.held == 0) }) (columns-further at k line line' same more)
    ∙ ap (λ bytes. record { columns = drop k (columns_from at line); at = at; content_end = at + length bytes.now; line_end = line_end; lazy = false; held = not (line'.held == 0) }) same
    ∙ ap (λ h. record (without k (row_from at line_end line)) { held = not (h == 0) }) held

pub pending-blank : (at : ℕ) (line : LineStart) → line.pending ≤ indent (columns_from at line)
pending-blank at line = pending-indent at line.bytes.now line.taken line.pending line.inside line.cut

pub pending-within : (line : LineStart) → line.pending ≤ column_after 0 (take line.taken line.bytes.now)
pending-within line = go line.pending line.cut
  where
    go : (p : ℕ) → (0 < p → column_after 0 (take (line.taken - 1) line.bytes.now) + p < column_after 0 (take line.taken line.bytes.now)) → p ≤ column_after 0 (take line.taken line.bytes.now)
    go zero cut = omega arith
    go (suc p) cut = let h = cut (omega arith) in omega arith

-- more blanks follow the first ones
pub more-blank : (at count part width : ℕ) (line line' : LineStart) → line'.bytes ≡ line.bytes → columns_taken line' ≡ columns_taken line + count → count ≤ indent (columns_from at line) → part ≤ width → width ≤ indent (columns_from at line') → count + part ≤ indent (columns_from at line)
more-blank at count part width line line' same more blank le blank' =
    let e = ap indent (columns-further at count line line' same more) in
    let d = indent-drop count (columns_from at line) blank in omega arith

-- no more do
pub all-blank : (at n count : ℕ) (line line' : LineStart) → line'.bytes ≡ line.bytes → columns_taken line' ≡ columns_taken line + count → count ≤ n → count ≤ indent (columns_from at line) → indent (columns_from at line') ≡ 0 → count ≡ min n (indent (columns_from at line))
all-blank at n count line line' same more le blank none =
    let e = ap indent (columns-further at count line line' same more) in
    let d = indent-drop count (columns_from at line) blank in omega arith

-- the columns after the blanks are the same after some of the blanks were taken
pub same-following : (at k : ℕ) (line line' : LineStart) → line'.bytes ≡ line.bytes → columns_taken line' ≡ columns_taken line + k → k ≤ indent (columns_from at line) → without_indent (columns_from at line') ≡ without_indent (columns_from at line)
same-following at k line line' same more blank =
    let cs = columns_from at line in
    ap without_indent (columns-further at k line line' same more) ∙ drop-drop (indent (drop k cs)) k cs
    ∙ ap (λ n. drop n cs) (sym (indent-drop k cs blank))

pub row-following : (at line_end : ℕ) (line line' : LineStart) → line'.bytes ≡ line.bytes → line'.held ≡ line.held → without_indent (columns_from at line') ≡ without_indent (columns_from at line) → indent (columns_from at line') ≡ 0
    → row_from at line_end line' ≡ without (indent (columns_from at line)) (row_from at line_end line)
row-following at line_end line line' same held following none =
    ap (λ cs. record { columns = cs; at = at; content_end = at + length line'.bytes.now; line_end = line_end; lazy = false; held = not (line'.held == 0) }) (ap (λ n. drop n (columns_from at line')) (sym none) ∙ following)
    ∙ ap (λ bytes. record { columns = without_indent (columns_from at line); at = at; content_end = at + length bytes.now; line_end = line_end; lazy = false; held = not (line'.held == 0) }) same
    ∙ ap (λ h. record (without (indent (columns_from at line)) (row_from at line_end line)) { held = not (h == 0) }) held

-- columns left of a tab come before the others
pub whole-following : (at : ℕ) (line : LineStart) → without_indent (left at line.bytes.now line.taken 0) ≡ without_indent (columns_from at line)
whole-following at line =
    let p : ℕ = line.pending in
    let k : ℕ = column_after 0 (take line.taken line.bytes.now) in
    let cs = columns_from at line in
    let within = pending-within line in
    ap without_indent (ap (λ n. drop n (expand 0 at line.bytes.now)) (let e : k - 0 ≡ (k - p) + p = omega arith in e) ∙ sym (drop-drop p (k - p) (expand 0 at line.bytes.now)))
    ∙ drop-drop (indent (drop p cs)) p cs ∙ ap (λ n. drop n cs) (sym (indent-drop p cs (pending-blank at line)))

pub row-on : (at line_end k : ℕ) (line : LineStart) (taken pending : ℕ) → column_after 0 (take taken line.bytes.now) - pending ≡ columns_taken line + k
    → record { columns = left at line.bytes.now taken pending; at = at; content_end = at + length line.bytes.now; line_end = line_end; lazy = false; held = not (line.held == 0) } ≡ without k (row_from at line_end line)
row-on at line_end k line taken pending more =
    ap (λ cs. record { columns = cs; at = at; content_end = at + length line.bytes.now; line_end = line_end; lazy = false; held = not (line.held == 0) }) (ap (λ n. drop n (expand 0 at line.bytes.now)) more ∙ sym (drop-drop k (columns_taken line) (expand 0 at line.bytes.now)))

-- if the bytes after the first ones are blank, and the blanks are taken, nothing is left
pub row-emptied : (at line_end : ℕ) (line line1 line2 : LineStart) (size : ℕ) (bs : List ℕ) → line1.bytes ≡ line.bytes → not (line1.held == 0) ≡ not (line.held == 0) → line1.taken ≡ line.taken + size → line1.pending ≡ 0 → bs ≡ drop line.taken line.bytes.now → are_blank (drop size bs) ≡ true
    → row_from at line_end line2 ≡ without (indent (columns_from at line1)) (row_from at line_end line1) → row_from at line_end line2 ≡ record (row_from at line_end line) { columns = [] }
row-emptied at line_end line line1 line2 size bs same held further none is blank taken =
    taken ∙ ap (λ cs. record { columns = cs; at = at; content_end = at + length line1.bytes.now; line_end = line_end; lazy = false; held = not (line1.held == 0) }) empty
    ∙ ap (λ bytes. record { columns = []; at = at; content_end = at + length bytes.now; line_end = line_end; lazy = false; held = not (line1.held == 0) }) same
    ∙ ap (λ h. record { columns = []; at = at; content_end = at + length line.bytes.now; line_end = line_end; lazy = false; held = h }) held
  where
    rest : drop line1.taken line1.bytes.now ≡ drop size bs
    rest = ap (λ bytes. drop line1.taken bytes.now) same ∙ ap (λ n. drop n line.bytes.now) further ∙ sym (drop-drop size line.taken line.bytes.now) ∙ ap (drop size) (sym is)

    empty : without_indent (columns_from at line1) ≡ []
    empty =
        ap without_indent (ap (left at line1.bytes.now line1.taken) none ∙ left-whole at line1.bytes.now line1.taken line1.inside)
        ∙ blank-rest (column_after 0 (take line1.taken line1.bytes.now)) (at + line1.taken) (drop line1.taken line1.bytes.now) (ap are_blank rest ∙ blank)
