use Rattle.std.proofs.Common.{sym, ◌∙◌, arith, rules}
use Rattle.cmark_tree.specs.Tree.{entry_at}
use Rattle.cmark_tree.specs.Nodes.{with_next}
use Rattle.cmark_tree.proofs.Relinks.{relinked_next, first-relink_next}
use Rattle.cmark_tree.proofs.Steps.{rewritten, has_number, in_right, first_within}
use Rattle.cmark_tree.proofs.tree.Tree.set_next.Goals as goal

pub set_next-requires-clause-number : goal.set_next-requires-clause-number
set_next-requires-clause-number g c = search (rules, has_number, in_right)

pub set_next-requires-clause-to : goal.set_next-requires-clause-to
set_next-requires-clause-to g c = grind (arith, first_within)

pub returns-clause-forest : goal.returns-clause-forest
returns-clause-forest g c z f h = record {
  forest = relinked_next (entry_at c.args.self.now) _ c.args.self.now.first c.args.ix.ix c.link_of.result f z h.holds.forest h.below h.stands (h.leads ∙ sym c.link_of.ensures) h.once (rewritten c.args.self.now.nodes c.set_next.new.self c.args.ix.ix (with_next c.link_of.result) c.set_next.ensures);
  spine_is = h.holds.spine_is;
  cur_is = h.holds.cur_is ∙ sym (first-relink_next c.args.ix.ix f z.right);
}
