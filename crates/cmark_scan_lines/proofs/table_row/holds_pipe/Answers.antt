use Rattle.std.proofs.Common.{◌≡◌, ℕ, false, Option, Some, None, sym, ◌∙◌}
use Rattle.std.specs.Option.{is_some}
use Rattle.cmark_grammar.specs.TableRows.{parts, holds_pipe}
use Rattle.cmark_scan_lines.specs.TableCells.{parts_at}
use Rattle.cmark_scan_lines.proofs.TableRowSteps.{found-pipe, no-pipe}
use Rattle.cmark_scan_lines.proofs.table_row.holds_pipe.Goals as goal

pub returns : goal.returns
returns c = c.is_some.ensures ∙ go c.find_pipe.result c.find_pipe.ensures.value
  where
    go : (at : Option ℕ) → parts false c.args.words.now ≡ parts_at c.args.words.now at → is_some at ≡ holds_pipe c.args.words.now
    go None e = sym (no-pipe c.args.words.now e)
    go (Some at) e = sym (found-pipe c.args.words.now at e)
