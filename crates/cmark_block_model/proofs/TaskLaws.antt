-- A property of the blocks of an item also holds with its task marker.
use Rattle.std.proofs.Common.{◌≡◌, ℕ, ◌+◌, ◌≤◌, Bool, List, Option, Some, None, refl, arith}
use Rattle.cmark_grammar.specs.BlockDocument.{BlockDocument}
use Rattle.cmark_grammar.specs.Derivation.{task_then}
use Rattle.cmark_block_model.specs.Ranges.{InOrder, AllAt, HasSlices, count_nodes, count_tables}
use Rattle.cmark_block_model.specs.Tightness.{HasTightParagraphs}

pub task-sliced : (text : List ℕ) (task : Option Bool) (start end : ℕ) (inside : BlockDocument) → HasSlices text inside → HasSlices text (task_then task start end inside)
task-sliced text None start end inside h = h
task-sliced text (Some is_checked) start end inside h = (tt, tt, h)

pub task-tight : (tight : Bool) (task : Option Bool) (start end : ℕ) (inside : BlockDocument) → HasTightParagraphs tight inside → HasTightParagraphs tight (task_then task start end inside)
task-tight tight None start end inside h = h
task-tight tight (Some is_checked) start end inside h = (tt, tt, h)

pub task-edged : (E : ℕ → Type 0) (task : Option Bool) (start end : ℕ) (inside : BlockDocument) → E start → E end → AllAt E inside → AllAt E (task_then task start end inside)
task-edged E None start end inside es ee h = h
task-edged E (Some is_checked) start end inside es ee h = (es, ee, tt, h)

pub task-order : (from : ℕ) (task : Option Bool) (start end : ℕ) (inside : BlockDocument) (to : ℕ) → from ≤ start → start ≤ end → InOrder from inside to → InOrder end inside to → InOrder from (task_then task start end inside) to
task-order from None start end inside to fs se h k = h
task-order from (Some is_checked) start end inside to fs se h k = (fs, se, k)

pub task-count : (task : Option Bool) (start end : ℕ) (inside : BlockDocument) → count_nodes (task_then task start end inside) ≤ 1 + count_nodes inside
task-count None start end inside = omega arith
task-count (Some is_checked) start end inside = omega arith

pub task-tables : (task : Option Bool) (start end : ℕ) (inside : BlockDocument) → count_tables (task_then task start end inside) ≡ count_tables inside
task-tables None start end inside = refl
task-tables (Some is_checked) start end inside = omega arith
