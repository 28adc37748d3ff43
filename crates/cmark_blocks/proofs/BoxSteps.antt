-- The line after the box of a task marker is part of the text, and determines its bytes.
use Rattle.std.proofs.Common.{◌≡◌, ℕ, Bool, true, false, ◌==◌, ◌&&◌, List, drop, Some, None, refl, sym, ap, subst, arith, true≢false}
use Rattle.std.specs.Prelude.{if◌then◌else◌}
use Rattle.std.specs.Str.{IsCharBoundary}
use Rattle.cmark_grammar.specs.Columns.{bytes_of}
use Rattle.cmark_grammar.specs.Options.{Options}
use Rattle.cmark_grammar.specs.Rows.{Row, without, indent_of, words_of}
use Rattle.cmark_grammar.specs.TaskItems.{task_in}
use Rattle.cmark_grammar.specs.TaskMarkers.{task_of}
use Rattle.cmark_block_model.proofs.RowEdges.{Front, IsAsciiByte, GoodRow, bytes-front, without-good}
use Rattle.cmark_block_model.proofs.TaskFronts.{task-front}
use Rattle.cmark_line_rules.proofs.RestSteps.{in-moved}
use Rattle.cmark_line_rules.specs.Rests.{row_of, IsIn}
use Rattle.cmark_line_rules.specs.declared.line_rest.LineRest.{LineRest}
use Rattle.cmark_leaf_nodes.specs.TextColumns.{StandInText, IsRead}
use Rattle.cmark_leaf_nodes.proofs.TextColumnSteps.{without-in_text}

no-indent : (a : Bool) (n : ℕ) → (a && (n == 0)) ≡ true → n ≡ 0
no-indent true n e = grind (arith, e)
no-indent false n e = absurd (true≢false (sym e))

box-good : (text : List ℕ) (options : Options) (r : Row) (checked : Bool) → task_in options r ≡ Some checked → GoodRow (IsCharBoundary text) r → GoodRow (IsCharBoundary text) (without 3 r)
box-good text options r checked e g = go (options.tasklists && (indent_of r == 0)) refl e
  where
    go : (z : Bool) → (options.tasklists && (indent_of r == 0)) ≡ z → (if z then task_of (words_of r) else None) ≡ Some checked → GoodRow (IsCharBoundary text) (without 3 r)
    go true f q =
        let words : words_of r ≡ bytes_of r.columns = ap (λ n. bytes_of (drop n r.columns)) (no-indent options.tasklists (indent_of r) f) in
        without-good (IsCharBoundary text) 3 r g (bytes-front (IsCharBoundary text) 3 r.columns g.good (subst (λ bs. Front IsAsciiByte 3 bs) words (task-front (words_of r) checked q)))
    go false f q = absurd (let p : None ≡ Some checked = q in cc)

pub box-read : (text : List ℕ) (options : Options) (inside following : LineRest) (checked : Bool) → task_in options (row_of inside) ≡ Some checked → row_of following ≡ without 3 (row_of inside) → IsIn text inside → StandInText text (row_of inside).columns → IsRead text following
box-read text options inside following checked e is h in_text = record {
  placed = in-moved text inside following (without 3 (row_of inside)) is refl (box-good text options (row_of inside) checked e h.good) h;
  in_text = subst (λ (s : Row). StandInText text s.columns) (sym is) (without-in_text text 3 (row_of inside) in_text);
}
