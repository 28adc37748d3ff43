use Rattle.std.proofs.Common.{sym, ◌∙◌, subst}
use Rattle.cmark_tree.specs.Forest.{Node, join, one}
use Rattle.cmark_tree.specs.Zip.{siblings, plug}
use Rattle.cmark_tree.specs.Arena.{IsForest}
use Rattle.cmark_tree.specs.Nodes.{node_at}
use Rattle.cmark_tree.specs.Tree.{Holds}
use Rattle.cmark_tree.specs.Truncating.{at_last}
use Rattle.cmark_tree.proofs.Steps.{parent_number}
use Rattle.cmark_tree.proofs.Entries.{node_at-within}
use Rattle.cmark_tree.proofs.Cutting.{children, cut_node, cut_read, truncated-none, shortened_left, shortened_away, cut_escaped}
use Rattle.cmark_tree.proofs.tree.Tree.truncate_siblings.Goals as goal

pub child-requires : goal.child-requires
child-requires g c =
    let z = c.requires.0 in
    let h = c.requires.1 in
    parent_number c.args.self.now.nodes z.up (siblings z) c.in-Some.parent h.forest.stands (sym (c.peek_up.ensures z h) ∙ c.in-Some.is)

pub cut_place-cut-requires : goal.cut_place-cut-requires
cut_place-cut-requires g c =
    let z = c.requires.0 in
    let h = c.requires.1 in
    ∣ (siblings z, children c.args.self.now.nodes c.args.self.now.first (siblings z) z.up c.in-Some.parent c.child.result h.forest (sym (c.peek_up.ensures z h) ∙ c.in-Some.is) c.child.ensures) ∣₁

pub end_siblings-requires : goal.end_siblings-requires
end_siblings-requires g c =
    let z = c.requires.0 in
    let h = c.requires.1 in
    let parent = sym (c.peek_up.ensures z h) ∙ c.in-Some.is in
    let cut = c.cut_place-cut.ensures (siblings z) (children c.args.self.now.nodes c.args.self.now.first (siblings z) z.up c.in-Some.parent c.child.result h.forest parent c.child.ensures) in
    ∣ (cut.done, cut.rest, z.up, subst (λ f. IsForest (node_at c.args.self.now.nodes) c.args.self.now.first (plug z.up f)) cut.split h.forest, parent, sym cut.kept_is) ∣₁

pub returns-then-cut-eq0 : goal.returns-then-cut-eq0
returns-then-cut-eq0 g c z h deep =
    let parent = sym (c.peek_up.ensures z h) ∙ c.in-Some.is in
    let cut = c.cut_place-cut.ensures (siblings z) (children c.args.self.now.nodes c.args.self.now.first (siblings z) z.up c.in-Some.parent c.child.result h.forest parent c.child.ensures) in
    subst (λ f. Holds c.end_siblings.new.self (at_last f z.up)) (sym (truncated-none g.T.TreeSpan.spans c.args.end c.args.self.now.nodes c.args.self.now.first c.cut_place-cut.result.kept c.cut_place-cut.result.at (siblings z) z.up h.forest cut c.if-cut-eq0.true))
    (c.end_siblings.ensures cut.done cut.rest z.up (subst (λ f. IsForest (node_at c.args.self.now.nodes) c.args.self.now.first (plug z.up f)) cut.split h.forest) h.spine_is parent (sym cut.kept_is))

pub shorten_at-requires-clause-number : goal.shorten_at-requires-clause-number
shorten_at-requires-clause-number g c =
    let z = c.requires.0 in
    let h = c.requires.1 in
    let parent = sym (c.peek_up.ensures z h) ∙ c.in-Some.is in
    let cut = c.cut_place-cut.ensures (siblings z) (children c.args.self.now.nodes c.args.self.now.first (siblings z) z.up c.in-Some.parent c.child.result h.forest parent c.child.ensures) in
    let n = cut_node g.T.TreeSpan.spans c.args.end (siblings z) c.cut_place-cut.result.kept c.cut_place-cut.result.at cut c.if-cut-eq0.false in
    node_at-within c.args.self.now.nodes c.cut_place-cut.result.at _ (cut_read g.T.TreeSpan.spans c.args.end c.args.self.now.nodes c.args.self.now.first c.cut_place-cut.result.kept c.cut_place-cut.result.at (siblings z) z.up h.forest n)

pub shorten_at-requires-clause-inside : goal.shorten_at-requires-clause-inside
shorten_at-requires-clause-inside g c =
    let z = c.requires.0 in
    let h = c.requires.1 in
    let parent = sym (c.peek_up.ensures z h) ∙ c.in-Some.is in
    let cut = c.cut_place-cut.ensures (siblings z) (children c.args.self.now.nodes c.args.self.now.first (siblings z) z.up c.in-Some.parent c.child.result h.forest parent c.child.ensures) in
    let n = cut_node g.T.TreeSpan.spans c.args.end (siblings z) c.cut_place-cut.result.kept c.cut_place-cut.result.at cut c.if-cut-eq0.false in
    cut_escaped g.T.TreeSpan.spans c.args.end c.args.self.now.nodes c.args.self.now.first c.cut_place-cut.result.kept c.cut_place-cut.result.at (siblings z) z.up h.forest n c.requires.3

pub end_siblings-requires-then-shorten_at : goal.end_siblings-requires-then-shorten_at
end_siblings-requires-then-shorten_at g c =
    let z = c.requires.0 in
    let h = c.requires.1 in
    let parent = sym (c.peek_up.ensures z h) ∙ c.in-Some.is in
    let cut = c.cut_place-cut.ensures (siblings z) (children c.args.self.now.nodes c.args.self.now.first (siblings z) z.up c.in-Some.parent c.child.result h.forest parent c.child.ensures) in
    let n = cut_node g.T.TreeSpan.spans c.args.end (siblings z) c.cut_place-cut.result.kept c.cut_place-cut.result.at cut c.if-cut-eq0.false in
    let r = c.shorten_at.ensures _ (cut_read g.T.TreeSpan.spans c.args.end c.args.self.now.nodes c.args.self.now.first c.cut_place-cut.result.kept c.cut_place-cut.result.at (siblings z) z.up h.forest n) in
    let s = shortened_left g.T.TreeSpan.spans c.args.end c.args.self.now.nodes c.shorten_at.new.nodes c.args.self.now.first c.cut_place-cut.result.kept c.cut_place-cut.result.at (siblings z) z.up c.shorten_at.result h.forest n r c.if-shorten_at.true in
    ∣ (join n.done (one (record n.place { item = r.item }) n.inside), n.after, z.up, s.0, parent, s.1) ∣₁

pub returns-then-shorten_at : goal.returns-then-shorten_at
returns-then-shorten_at g c z h deep =
    let parent = sym (c.peek_up.ensures z h) ∙ c.in-Some.is in
    let cut = c.cut_place-cut.ensures (siblings z) (children c.args.self.now.nodes c.args.self.now.first (siblings z) z.up c.in-Some.parent c.child.result h.forest parent c.child.ensures) in
    let n = cut_node g.T.TreeSpan.spans c.args.end (siblings z) c.cut_place-cut.result.kept c.cut_place-cut.result.at cut c.if-cut-eq0.false in
    let r = c.shorten_at.ensures _ (cut_read g.T.TreeSpan.spans c.args.end c.args.self.now.nodes c.args.self.now.first c.cut_place-cut.result.kept c.cut_place-cut.result.at (siblings z) z.up h.forest n) in
    let s = shortened_left g.T.TreeSpan.spans c.args.end c.args.self.now.nodes c.shorten_at.new.nodes c.args.self.now.first c.cut_place-cut.result.kept c.cut_place-cut.result.at (siblings z) z.up c.shorten_at.result h.forest n r c.if-shorten_at.true in
    subst (λ f. Holds c.end_siblings-then-shorten_at.new.self (at_last f z.up)) (sym s.2)
    (c.end_siblings-then-shorten_at.ensures (join n.done (one (record n.place { item = r.item }) n.inside)) n.after z.up s.0 h.spine_is parent s.1)

pub end_siblings-requires-else-shorten_at : goal.end_siblings-requires-else-shorten_at
end_siblings-requires-else-shorten_at g c =
    let z = c.requires.0 in
    let h = c.requires.1 in
    let parent = sym (c.peek_up.ensures z h) ∙ c.in-Some.is in
    let cut = c.cut_place-cut.ensures (siblings z) (children c.args.self.now.nodes c.args.self.now.first (siblings z) z.up c.in-Some.parent c.child.result h.forest parent c.child.ensures) in
    let n = cut_node g.T.TreeSpan.spans c.args.end (siblings z) c.cut_place-cut.result.kept c.cut_place-cut.result.at cut c.if-cut-eq0.false in
    let r = c.shorten_at.ensures _ (cut_read g.T.TreeSpan.spans c.args.end c.args.self.now.nodes c.args.self.now.first c.cut_place-cut.result.kept c.cut_place-cut.result.at (siblings z) z.up h.forest n) in
    let s = shortened_away g.T.TreeSpan.spans c.args.end c.args.self.now.nodes c.shorten_at.new.nodes c.args.self.now.first c.cut_place-cut.result.kept c.cut_place-cut.result.at (siblings z) z.up c.shorten_at.result h.forest n r c.if-shorten_at.false in
    ∣ (n.done, Node (record n.place { item = r.item }) n.inside n.after, z.up, s.0, parent, n.last_is) ∣₁

pub returns-else-shorten_at : goal.returns-else-shorten_at
returns-else-shorten_at g c z h deep =
    let parent = sym (c.peek_up.ensures z h) ∙ c.in-Some.is in
    let cut = c.cut_place-cut.ensures (siblings z) (children c.args.self.now.nodes c.args.self.now.first (siblings z) z.up c.in-Some.parent c.child.result h.forest parent c.child.ensures) in
    let n = cut_node g.T.TreeSpan.spans c.args.end (siblings z) c.cut_place-cut.result.kept c.cut_place-cut.result.at cut c.if-cut-eq0.false in
    let r = c.shorten_at.ensures _ (cut_read g.T.TreeSpan.spans c.args.end c.args.self.now.nodes c.args.self.now.first c.cut_place-cut.result.kept c.cut_place-cut.result.at (siblings z) z.up h.forest n) in
    let s = shortened_away g.T.TreeSpan.spans c.args.end c.args.self.now.nodes c.shorten_at.new.nodes c.args.self.now.first c.cut_place-cut.result.kept c.cut_place-cut.result.at (siblings z) z.up c.shorten_at.result h.forest n r c.if-shorten_at.false in
    subst (λ f. Holds c.end_siblings-else-shorten_at.new.self (at_last f z.up)) (sym s.1)
    (c.end_siblings-else-shorten_at.ensures n.done (Node (record n.place { item = r.item }) n.inside n.after) z.up s.0 h.spine_is parent n.last_is)
