use Rattle.std.proofs.Common.{ap, ◌∙◌, subst}
use Rattle.cmark_tree.specs.Arena.{IsForest}
use Rattle.cmark_tree.specs.Zip.{plug}
use Rattle.cmark_tree.specs.Tree.{entry_at, index_at}
use Rattle.cmark_tree.proofs.Steps.{focus_read, sibling_read, after_stands, sibling_in, join_past}
use Rattle.cmark_tree.proofs.tree.Tree.next_sibling.Goals as goal

pub next-next-requires : goal.next-next-requires
next-next-requires g c = sibling_in c.args.self.now.nodes c.args.self.now.first c.requires.0 c.args.ix.ix c.requires.2 c.requires.1.forest

pub returns-clause-past : goal.returns-clause-past
returns-clause-past g c z s h = record {
  forest = subst (IsForest (entry_at c.args.self.now) c.args.self.now.first) (ap (plug z.up) (join_past z c.args.ix.ix s)) h.forest;
  spine_is = h.spine_is;
  cur_is = c.next-next.ensures _ (sibling_read c.args.self.now.nodes c.args.self.now.first z c.args.ix.ix s h.forest);
}

pub returns-clause-result : goal.returns-clause-result
returns-clause-result g c z s h =
    c.index_of.ensures
    ∙ ap index_at (c.next-next.ensures _ (sibling_read c.args.self.now.nodes c.args.self.now.first z c.args.ix.ix s h.forest))
    ∙ focus_read c.args.self.now.nodes s.after (after_stands c.args.self.now.nodes c.args.self.now.first z c.args.ix.ix s h.forest)
