use Rattle.std.proofs.Common.{ap, ◌∙◌}
use Rattle.cmark_tree.specs.Tree.{index_at}
use Rattle.cmark_tree.proofs.Steps.{in_right, focus_read}
use Rattle.cmark_tree.proofs.tree.Tree.cur.Goals as goal

pub returns : goal.returns
returns g c z h =
    c.index_of.ensures ∙ ap index_at h.cur_is ∙ focus_read c.args.self.now.nodes z.right (in_right c.args.self.now.nodes c.args.self.now.first z h.forest)
