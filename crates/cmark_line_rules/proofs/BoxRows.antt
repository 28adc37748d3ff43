-- The task marker of an item, as the calls on the beginning of a line find it.
use Rattle.std.proofs.Common.{◌≡◌, Bool, true, false, ◌&&◌, Some, None, refl, sym, ap}
use Rattle.std.specs.Prelude.{if◌then◌else◌, is_some}
use Rattle.cmark_grammar.specs.Options.{Options}
use Rattle.cmark_grammar.specs.Rows.{Row, without, words_of}
use Rattle.cmark_grammar.specs.TaskItems.{task_in}
use Rattle.cmark_grammar.specs.TaskMarkers.{task_of}
use Rattle.cmark_scan_lines.specs.LineMarkers as scanned
use Rattle.cmark_scan_lines.specs.LineMarkers.{is_flush, after_task}

-- the scanned marker counts if task markers are asked for
pub scanned-task : (options : Options) (r : Row) → options.tasklists ≡ true → scanned.task_in r ≡ task_in options r
scanned-task options r asked = ap (λ z. if z && is_flush r then task_of (words_of r) else None) (sym asked)

-- the line after the box
pub box-following : (r : Row) (is_checked : Bool) → Some is_checked ≡ scanned.task_in r → after_task r ≡ without 3 r
box-following r is_checked e = ap (λ o. if is_some o then without 3 r else r) (sym e)

pub box-content_end : (r : Row) → (after_task r).content_end ≡ r.content_end
box-content_end r = go (is_some (scanned.task_in r))
  where
    go : (z : Bool) → (if z then without 3 r else r).content_end ≡ r.content_end
    go true = refl
    go false = refl
