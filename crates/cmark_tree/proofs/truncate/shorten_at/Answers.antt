use Rattle.std.proofs.Common.{sym, ap, ◌∙◌, arith}
use Rattle.cmark_tree.proofs.Entries.{item_changes, entry_there}
use Rattle.cmark_tree.proofs.truncate.shorten_at.Goals as goal

pub shorten-requires : goal.shorten-requires
shorten-requires g c start escaped =
    let e = entry_there c.args.nodes.now c.args.at c.requires.number in
    let is = c.item_mut-item.ensures.value e.0 e.1 in
    c.requires.inside e.0 e.1 (ap g.T.TreeSpan.spans.start (sym is) ∙ start) (ap g.T.TreeSpan.spans.escaped (sym is) ∙ escaped)

pub returns : goal.returns
returns g c e at = grind (arith, item_changes)
