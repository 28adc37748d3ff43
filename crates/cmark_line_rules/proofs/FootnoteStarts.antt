-- The footnote definition that a line begins, as the calls on the beginning of the line find it.
use Rattle.std.proofs.Common.{◌≡◌, ℕ, suc, ◌+◌, ◌≤◌, Bool, true, false, List, length, drop, Option, Some, None, refl, sym, ap, subst, ◌∙◌, arith, eq-eqb, true≢false, drop-drop}
use Rattle.std.specs.Prelude.{if◌then◌else◌, nat_le}
use Rattle.std.proofs.lemmas.Bool.{leb-true, leb-false}
use Rattle.cmark_grammar.specs.Alerts.{alert_in}
use Rattle.cmark_grammar.specs.Columns.{indent}
use Rattle.cmark_grammar.specs.Containers.{Container, Footnote, footnote_width, footnote_of, footnote_or, container_with, container_of, item_of, is_block_quote, block_quote_width, enter, with_task, marker_width}
use Rattle.cmark_grammar.specs.Footnotes.{footnotes_in, footnote_in, columns_over, marker_columns}
use Rattle.cmark_grammar.specs.LinkDefinitions.{Parsed}
use Rattle.cmark_grammar.specs.Options.{Options}
use Rattle.cmark_grammar.specs.Rows.{Row, without, indent_of, words_of}
use Rattle.cmark_scan_bytes.specs.Footnotes.{marked, IsClosed}
use Rattle.cmark_scan_lines.specs.LineMarkers.{footnote_at, after_footnote}
use Rattle.cmark_scan_lines.proofs.FootnoteRows.{flush-of}
use Rattle.cmark_scan_lines.proofs.PrefixSteps.{shallow, taken-all, flat, same-words, deep}
use Rattle.cmark_line_rules.specs.Starts.{shown_footnote, begun_footnote, begun_marked, begun_label, begun_container}

-- after up to three columns the marker is the one that the grammar finds on the whole line
pub label-seen : (r : Row) → footnote_at (shallow r) ≡ begun_label r
label-seen r = go (nat_le (indent_of r) 3) refl
  where
    go : (z : Bool) → nat_le (indent_of r) 3 ≡ z → footnote_at (shallow r) ≡ begun_label r
    go true e =
        let le = leb-true (indent_of r) 3 e in
        ap (λ t. if t then footnote_in (words_of (shallow r)) else None) (eq-eqb _ 0 (flat r le)) ∙ ap footnote_in (same-words r le) ∙ ap (λ t. if t then footnote_in (words_of r) else None) (sym e)
    go false e = ap (λ t. if t then footnote_in (words_of (shallow r)) else None) (deep r (leb-false (indent_of r) 3 e)) ∙ ap (λ t. if t then footnote_in (words_of r) else None) (sym e)

found-shallow : (r : Row) (found : Parsed) → footnote_at (shallow r) ≡ Some found → indent_of r ≤ 3
found-shallow r found is = go (nat_le (indent_of r) 3) refl
  where
    go : (z : Bool) → nat_le (indent_of r) 3 ≡ z → indent_of r ≤ 3
    go true e = leb-true (indent_of r) 3 e
    go false e = absurd (true≢false (sym (flush-of (shallow r) found is) ∙ deep r (leb-false (indent_of r) 3 e)))

-- the marker and the blanks after it, read after the indent and with it
enters : (r : Row) (le : indent_of r ≤ 3) (label : List ℕ) (old : Bool)
    → without (footnote_width (marker_columns label (shallow r).columns) (shallow r)) (shallow r) ≡ enter (Footnote label old (marker_columns label r.columns)) r
unfolding enter
enters r le label old =
    ap (λ j. without (footnote_width j (shallow r)) (shallow r)) same
    ∙ ap (λ i. without (i + (m + indent (drop (i + m) (shallow r).columns))) (shallow r)) (flat r le)
    ∙ ap (λ j. record r { columns = drop (0 + (m + indent (drop (0 + m) (drop j r.columns)))) (drop j r.columns) }) (taken-all r le)
    ∙ ap (λ l. record r { columns = l }) (drop-drop (0 + (m + indent (drop (0 + m) (drop k r.columns)))) k r.columns)
    ∙ ap (λ l. record r { columns = drop (k + (0 + (m + indent l))) r.columns }) (drop-drop (0 + m) k r.columns)
    ∙ ap (λ j. record r { columns = drop (k + (0 + (m + indent (drop j r.columns)))) r.columns }) (let s : k + (0 + m) ≡ k + m = omega arith in s)
    ∙ ap (λ j. without j r) (let s : k + (0 + (m + indent (drop (k + m) r.columns))) ≡ k + (m + indent (drop (k + m) r.columns)) = omega arith in s)
  where
    k : ℕ
    k = indent_of r

    m : ℕ
    m = marker_columns label r.columns

    same : marker_columns label (shallow r).columns ≡ m
    same =
        ap (λ i. columns_over (suc (suc (suc (suc (length label))))) (drop i (shallow r).columns)) (flat r le)
        ∙ ap (λ j. columns_over (suc (suc (suc (suc (length label))))) (drop j r.columns)) (taken-all r le)

pub content_end-following : (r : Row) → (after_footnote (footnote_at r) r).content_end ≡ r.content_end
content_end-following r = go (footnote_at r)
  where
    go : (o : Option Parsed) → (after_footnote o r).content_end ≡ r.content_end
    go None = refl
    go (Some found) = refl

-- the marker that was found after the indent
module _ (r s : Row) (size : ℕ) (is : s ≡ shallow r) (found : Some (marked (words_of s) size) ≡ footnote_at s) where
  at_shallow : Some (marked (words_of (shallow r)) size) ≡ footnote_at (shallow r)
  at_shallow = subst (λ x. Some (marked (words_of x) size) ≡ footnote_at x) is found

  is_shallow : indent_of r ≤ 3
  is_shallow = found-shallow r (marked (words_of (shallow r)) size) (sym at_shallow)

  words-same : words_of s ≡ words_of r
  words-same = ap words_of is ∙ same-words r is_shallow

  pub label-found : Some (marked (words_of r) size) ≡ begun_label r
  label-found = ap (λ l. Some (marked l size)) (sym (same-words r is_shallow)) ∙ at_shallow ∙ label-seen r

  pub label-closed : IsClosed (words_of s) size → IsClosed (words_of r) size
  label-closed closed = subst (λ l. IsClosed l size) words-same closed

  label-entered : (old : Bool) → after_footnote (footnote_at s) s ≡ enter (shown_footnote r size old) r
  label-entered old =
      ap (λ x. after_footnote (footnote_at x) x) is
      ∙ ap (λ o. after_footnote o (shallow r)) (sym at_shallow)
      ∙ enters r is_shallow (marked (words_of (shallow r)) size).bytes old
      ∙ ap (λ l. let label = (marked l size).bytes in enter (Footnote label old (marker_columns label r.columns)) r) (same-words r is_shallow)

  pub label-following : (old : Bool) → after_footnote (footnote_at s) s ≡ without (marker_width (shown_footnote r size old) r) r
  unfolding enter
  label-following old = label-entered old

-- a footnote definition comes first
begun-either : (options : Options) (r : Row) → begun_container options r ≡ footnote_or (begun_footnote options r) (begun_marked options r)
begun-either options r = go (nat_le (indent_of r) 3)
  where
    go : (z : Bool) → (if z then container_of options r else None)
        ≡ footnote_or (if z then footnote_of (footnotes_in options) r else None) (if z then container_with (with_task options r (item_of r)) (is_block_quote r) (alert_in options (without (block_quote_width r) r)) else None)
    go true = refl
    go false = refl

pub begun-other : (options : Options) (r : Row) (o : Option Container) → None ≡ begun_footnote options r → o ≡ begun_marked options r → o ≡ begun_container options r
begun-other options r o none is = is ∙ ap (λ f. footnote_or f (begun_marked options r)) none ∙ sym (begun-either options r)
