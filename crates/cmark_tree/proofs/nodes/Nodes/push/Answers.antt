use Rattle.std.proofs.Common.{◌≡◌, ◌++◌, ◌∷◌, [], arith, ap, ◌∙◌}
use Rattle.cmark_tree.specs.Links.{links_of, no_links}
use Rattle.cmark_tree.proofs.Entries.{push_grows, same_nodes, on_err}
use Rattle.cmark_tree.proofs.nodes.Nodes.push.Goals as goal
use Rattle.cmark_tree.proofs.nodes.Nodes.push.Goals.{then-len-self+in_ok-grow, else-len-self}

pub returns-in_err-grow-clause-err : goal.returns-in_err-grow-clause-err
returns-in_err-grow-clause-err g c = on_err c.from_residual.result _ (same_nodes c.args.self.now _ c.grow.ensures.items c.grow.ensures.links)

pub returns-clause-ok : goal.returns-clause-ok
returns-clause-ok g c =
    let items : c.if-len-self.self.items.items ≡ c.args.self.now.items.items = elim c.if-len-self.branch [
      | then-len-self+in_ok-grow w ↦ ap (λ v. v.items.items) w.self-is ∙ w.grow.ensures.items
      | else-len-self w ↦ ap (λ v. v.items.items) w.self-is
    ] in
    let links : links_of c.if-len-self.self.links ≡ links_of c.args.self.now.links = elim c.if-len-self.branch [
      | then-len-self+in_ok-grow w ↦ ap (λ v. links_of v.links) w.self-is ∙ w.grow.ensures.links
      | else-len-self w ↦ ap (λ v. links_of v.links) w.self-is
    ] in
    push_grows c.args.self.now _ c.len-2.result c.args.item
    (c.push_reserved.ensures.items ∙ ap (λ l. l ++ c.args.item ∷ []) items)
    (c.push_reserved-2.ensures.links ∙ ap (λ l. l ++ no_links ∷ []) links)
    (omega (arith, c.len-2.ensures, c.push_reserved.new.self.ok.0))
