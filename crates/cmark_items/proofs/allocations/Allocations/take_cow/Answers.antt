use Rattle.std.proofs.Common.{rules, ◌≡◌, [], ap, slice_set}
use Rattle.cmark_values.specs.Shown.{text_bytes}
use Rattle.cmark_items.specs.Tables.{Tables}
use Rattle.cmark_items.proofs.allocations.Allocations.take_cow.Goals as goal

pub returns-clause-left : goal.returns-clause-left
returns-clause-left c =
    let empty : text_bytes c.replace.new.dest ≡ [] = search rules in
    (c.replace.new.dest, empty, ap {A = Tables} (λ t. record t { texts = slice_set t.texts c.args.index.0 c.replace.new.dest }) c.self.view_is)
