use Rattle.std.proofs.Common.{◌∷◌, sym, ◌∙◌, subst}
use Rattle.std.proofs.Math.Logic.{∥∥₁_elim, ∥∥₁_map}
use Rattle.cmark_tree.specs.Zip.{siblings, plug}
use Rattle.cmark_tree.specs.Arena.{IsForest}
use Rattle.cmark_tree.specs.Cut.{ending_before}
use Rattle.cmark_tree.specs.Nodes.{node_at}
use Rattle.cmark_tree.proofs.Steps.{parent_number}
use Rattle.cmark_tree.proofs.Cutting.{children}
use Rattle.cmark_tree.proofs.CutSteps.{cut-is, cut-start, parent-open, none-open, rest-stands, rest-number, rest-start}
use Rattle.cmark_tree.proofs.Entries.{HasNumber-prop}
use Rattle.cmark_tree.proofs.tree.Tree.cut_siblings.Goals as goal

pub child-requires : goal.child-requires
child-requires g c = ∥∥₁_elim c.requires (HasNumber-prop _ _) (λ r.
    let is = r.2 in
    parent_number c.args.self.now.nodes is.z.up (siblings is.z) c.in_ok-parent.parent is.holds.forest.stands (sym (c.in_ok-parent.ensures is.z is.holds)))

pub cut_place-cut-requires : goal.cut_place-cut-requires
cut_place-cut-requires g c = ∥∥₁_map c.requires (λ r.
    let is = r.2 in
    (siblings is.z, children c.args.self.now.nodes c.args.self.now.first (siblings is.z) is.z.up c.in_ok-parent.parent c.child.result is.holds.forest (sym (c.in_ok-parent.ensures is.z is.holds)) c.child.ensures))

pub start_at-start-requires : goal.start_at-start-requires
start_at-start-requires g c ne = ∥∥₁_elim c.requires (HasNumber-prop _ _) (λ r.
    let is = r.2 in
    let parent = sym (c.in_ok-parent.ensures is.z is.holds) in
    let cut = c.cut_place-cut.ensures (siblings is.z) (children c.args.self.now.nodes c.args.self.now.first (siblings is.z) is.z.up c.in_ok-parent.parent c.child.result is.holds.forest parent c.child.ensures) in
    rest-number g.T.TreeSpan.spans c.args.end c.args.self.now.nodes cut.rest c.cut_place-cut.result.at (rest-stands g.T.TreeSpan.spans c.args.end c.args.self.now.nodes is.z.up (siblings is.z) cut.done cut.rest is.holds.forest.stands cut.split) cut.at_is ne)

pub end_siblings-requires : goal.end_siblings-requires
end_siblings-requires g c = ∥∥₁_map c.requires (λ r.
    let is = r.2 in
    let parent = sym (c.in_ok-parent.ensures is.z is.holds) in
    let cut = c.cut_place-cut.ensures (siblings is.z) (children c.args.self.now.nodes c.args.self.now.first (siblings is.z) is.z.up c.in_ok-parent.parent c.child.result is.holds.forest parent c.child.ensures) in
    (cut.done, cut.rest, is.z.up, subst (λ f. IsForest (node_at c.args.self.now.nodes) c.args.self.now.first (plug is.z.up f)) cut.split is.holds.forest, parent, sym cut.kept_is))

pub returns-clause-kept : goal.returns-clause-kept
returns-clause-kept g c here v up is =
    let parent = sym (c.in_ok-parent.ensures is.z is.holds) in
    let cut = c.cut_place-cut.ensures (siblings is.z) (children c.args.self.now.nodes c.args.self.now.first (siblings is.z) is.z.up c.in_ok-parent.parent c.child.result is.holds.forest parent c.child.ensures) in
    cut-is g.T.TreeSpan.spans c.args.end c.args.self.now c.end_siblings.new.self here v up is cut.done cut.rest cut.split cut.before cut.reaches
    (c.end_siblings.ensures cut.done cut.rest is.z.up (subst (λ f. IsForest (node_at c.args.self.now.nodes) c.args.self.now.first (plug is.z.up f)) cut.split is.holds.forest) is.holds.spine_is parent (sym cut.kept_is))

pub returns-clause-start : goal.returns-clause-start
returns-clause-start g c here v up is =
    let parent = sym (c.in_ok-parent.ensures is.z is.holds) in
    let cut = c.cut_place-cut.ensures (siblings is.z) (children c.args.self.now.nodes c.args.self.now.first (siblings is.z) is.z.up c.in_ok-parent.parent c.child.result is.holds.forest parent c.child.ensures) in
    rest-start g.T.TreeSpan.spans c.args.end c.args.self.now.nodes cut.rest c.cut_place-cut.result.at c.start_at-start.result
    (rest-stands g.T.TreeSpan.spans c.args.end c.args.self.now.nodes is.z.up (siblings is.z) cut.done cut.rest is.holds.forest.stands cut.split) cut.at_is c.start_at-start.ensures.none c.start_at-start.ensures.some
    ∙ sym (cut-start g.T.TreeSpan.spans c.args.end c.args.self.now.nodes here (siblings is.z) cut.done cut.rest is.here_is cut.split cut.before cut.reaches)

pub returns-clause-placed : goal.returns-clause-placed
returns-clause-placed g c = ∥∥₁_map c.requires (λ r.
    let is = r.2 in
    let o = parent-open c.args.self.now r.0 r.1 c.in_ok-parent.parent is (sym (c.in_ok-parent.ensures is.z is.holds)) in
    (ending_before g.T.TreeSpan.spans c.args.end r.0, o.0 ∷ o.1, returns-clause-kept g c r.0 o.0 o.1 o.2))

pub returns-clause-unopened : goal.returns-clause-unopened
returns-clause-unopened g c here is = absurd (none-open c.args.self.now here c.in_ok-parent.parent is (sym (c.in_ok-parent.ensures is.z is.holds)))
