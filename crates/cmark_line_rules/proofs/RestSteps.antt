-- The places of a line's rest, in order, at character boundaries.
use Rattle.std.proofs.Common.{◌≡◌, ℕ, suc, ◌+◌, ◌≤◌, Bool, true, false, ◌==◌, List, [], ◌∷◌, length, drop, drop-drop, refl, sym, ap, ◌∙◌, subst, arith}
use Rattle.std.specs.Prelude.{if◌then◌else◌}
use Rattle.std.specs.Str.{IsCharBoundary}
use Rattle.cmark_grammar.specs.Columns.{Column, expand, indent, without_indent, bytes_of}
use Rattle.cmark_grammar.specs.Rows.{Row, without, indent_of, begin_of, start_of}
use Rattle.cmark_block_model.proofs.RowPlaces.{Runs, Runs-le, drop-Runs, expand-Runs}
use Rattle.cmark_block_model.proofs.RowEdges.{GoodRow, IsAsciiColumn, front-less, indent-front, without-good}
use Rattle.cmark_scan_lines.proofs.PlaceSteps.{indent-drop}
use Rattle.cmark_scan_lines.specs.LineStart.{columns_taken, row_from}
use Rattle.cmark_scan_lines.specs.declared.line_start.LineStart.{LineStart}
use Rattle.cmark_line_rules.specs.Rests.{row_of, IsIn}
use Rattle.cmark_line_rules.specs.declared.line_rest.LineRest.{LineRest}

-- the columns that are left are consecutive
pub rest-runs : (rest : LineRest) → Runs (begin_of (row_of rest)) (row_of rest).columns (row_of rest).content_end
unfolding row_of
rest-runs rest =
    (drop-Runs (columns_taken rest.front) rest.start (expand 0 rest.start rest.front.bytes.now) (rest.start + length rest.front.bytes.now) (expand-Runs 0 rest.start rest.front.bytes.now)).0

pub begin-content_end : (rest : LineRest) → begin_of (row_of rest) ≤ (row_of rest).content_end
begin-content_end rest = Runs-le (begin_of (row_of rest)) (row_of rest).columns (row_of rest).content_end (rest-runs rest)

pub begin-start : (rest : LineRest) → begin_of (row_of rest) ≤ start_of (row_of rest)
begin-start rest = (drop-Runs (indent_of (row_of rest)) (begin_of (row_of rest)) (row_of rest).columns (row_of rest).content_end (rest-runs rest)).1

pub start-content_end : (rest : LineRest) → start_of (row_of rest) ≤ (row_of rest).content_end
start-content_end rest =
    Runs-le (start_of (row_of rest)) (without_indent (row_of rest).columns) (row_of rest).content_end
    (drop-Runs (indent_of (row_of rest)) (begin_of (row_of rest)) (row_of rest).columns (row_of rest).content_end (rest-runs rest)).0

pub content_end-line_end : (rest : LineRest) → (row_of rest).content_end ≤ (row_of rest).line_end
unfolding row_of
content_end-line_end rest = rest.ends

-- it lacks no prefix
pub whole : (rest : LineRest) → (row_of rest).lazy ≡ false
unfolding row_of
whole rest = refl

-- columns have a byte for each place from the first to the last
pub runs-bytes : (from : ℕ) (cs : List Column) (to : ℕ) → Runs from cs to → from + length (bytes_of cs) ≡ to
runs-bytes from [] to h = let e : from ≡ to = h in omega (arith, e)
runs-bytes from (c ∷ cs) to h = go (c.part == 0) refl (runs-bytes (suc c.at) cs to h.1)
  where
    go : (z : Bool) → (c.part == 0) ≡ z → suc c.at + length (bytes_of cs) ≡ to → from + length (if z then c.byte ∷ bytes_of cs else bytes_of cs) ≡ to
    go true e ih = let p : c.at ≡ from = sym (ap (λ z. if z then c.at else suc c.at) e) ∙ h.0 in omega (arith, ih, p)
    go false e ih = let p : suc c.at ≡ from = sym (ap (λ z. if z then c.at else suc c.at) e) ∙ h.0 in omega (arith, ih, p)

pub bytes-content_end : (rest : LineRest) → begin_of (row_of rest) + length (bytes_of (row_of rest).columns) ≡ (row_of rest).content_end
bytes-content_end rest = runs-bytes (begin_of (row_of rest)) (row_of rest).columns (row_of rest).content_end (rest-runs rest)

-- the rest after blanks is part of the text, too
pub in-moved : (text : List ℕ) (rest moved : LineRest) (r : Row) → row_of moved ≡ r → r.line_end ≡ (row_of rest).line_end → GoodRow (IsCharBoundary text) r → IsIn text rest → IsIn text moved
in-moved text rest moved r is line_end good h = record {
  good = subst (GoodRow (IsCharBoundary text)) (sym is) good;
  within = subst (λ p. p ≤ length text) (sym (ap (λ x. x.line_end) is ∙ line_end)) h.within;
}

pub in-following : (text : List ℕ) (n : ℕ) (rest moved : LineRest) → row_of moved ≡ without n (row_of rest) → n ≤ indent_of (row_of rest) → IsIn text rest → IsIn text moved
in-following text n rest moved is le h =
    in-moved text rest moved (without n (row_of rest)) is refl
    (without-good (IsCharBoundary text) n (row_of rest) h.good (front-less IsAsciiColumn n (indent (row_of rest).columns) (row_of rest).columns le (indent-front (row_of rest).columns)))
    h

-- the blanks of a line may be passed in two steps
pub without-rest : (r : Row) (n : ℕ) → n ≤ indent_of r → without (indent_of (without n r)) (without n r) ≡ without (indent_of r) r
without-rest r n le =
    let d = indent-drop n r.columns le in
    ap (λ cs. record r { columns = cs }) (drop-drop (indent (drop n r.columns)) n r.columns ∙ ap (λ k. drop k r.columns) (let s : n + indent (drop n r.columns) ≡ indent r.columns = omega (arith, d) in s))

-- the line after some of its blanks, and then after all others, is the line after its blanks
pub passed-twice : (start line_end count : ℕ) (front middle last : LineStart) → count ≤ indent_of (row_from start line_end front)
    → row_from start line_end middle ≡ without count (row_from start line_end front)
    → row_from start line_end last ≡ without (indent_of (row_from start line_end middle)) (row_from start line_end middle)
    → row_from start line_end last ≡ without (indent_of (row_from start line_end front)) (row_from start line_end front)
passed-twice start line_end count front middle last le some all = all ∙ ap (λ r. without (indent_of r) r) some ∙ without-rest (row_from start line_end front) count le
