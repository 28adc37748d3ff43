use Rattle.std.proofs.Common.{◌≡◌, sym, ◌∙◌, subst, Some}
use Rattle.cmark_tree.specs.Forest.{Nil, join, one}
use Rattle.cmark_tree.specs.Building.{Is, closed}
use Rattle.cmark_tree.specs.Zip.{Zip}
use Rattle.cmark_tree.specs.Tree.{Holds, parent_of}
use Rattle.cmark_items.specs.declared.item.Item.{Item}
use Rattle.cmark_tree.proofs.Items.{Is-item_parent}
use Rattle.cmark_builder.proofs.BuilderSteps.{at-place, placed-by, split-last, parent-node, parent-open, parent-read}
use Rattle.cmark_builder.proofs.builder.Builder.release_last.Goals as goal

pub item_mut-list-requires : goal.item_mut-list-requires
item_mut-list-requires c = parent-node c.args.self.now.tree c.in-Some.parent c.args.self.now.placed c.peek_up.result c.peek_up.ensures c.in-Some.is

pub release-requires : goal.release-requires
release-requires c = placed-by _ (parent-open c.args.self.now.tree c.in-Some.parent c.args.self.now.placed c.peek_up.result c.peek_up.ensures c.in-Some.is) (λ o.
    at-place _ _ _ (Is-item_parent c.args.self.now.tree o.0 o.1 o.2 c.in-Some.parent (record c.item_mut-list.result.now { end = c.args.end; body = c.args.body }) (λ z h. sym c.in-Some.is ∙ c.peek_up.ensures z h) o.3))

pub returns-in-Some-clause-released : goal.returns-in-Some-clause-released
returns-in-Some-clause-released c here item inside v up is =
    let t = c.args.self.now.tree in
    let parent : (z : Zip Item) → Holds t z → Some c.in-Some.parent ≡ parent_of z.up = λ z h. sym c.in-Some.is ∙ c.peek_up.ensures z h in
    let read = parent-read t c.in-Some.parent (join here (one item inside)) v up parent is in
    let same : c.item_mut-list.result.now ≡ v.item = c.item_mut-list.ensures.value read.0 read.1 ∙ read.2 in
    let w = record c.item_mut-list.result.now { end = c.args.end; body = c.args.body } in
    subst {A = Item} (λ i. Is c.release.new.self (join (closed (record v { item = record i { end = c.args.end; body = c.args.body } }) here) (one item inside)) up) same
    (c.release.ensures.released here item inside (record v { item = w }) up (Is-item_parent t (join here (one item inside)) v up c.in-Some.parent w parent is))

pub returns-in-Some-clause-childless : goal.returns-in-Some-clause-childless
returns-in-Some-clause-childless c v up is =
    let t = c.args.self.now.tree in
    let parent : (z : Zip Item) → Holds t z → Some c.in-Some.parent ≡ parent_of z.up = λ z h. sym c.in-Some.is ∙ c.peek_up.ensures z h in
    let read = parent-read t c.in-Some.parent Nil v up parent is in
    let same : c.item_mut-list.result.now ≡ v.item = c.item_mut-list.ensures.value read.0 read.1 ∙ read.2 in
    let w = record c.item_mut-list.result.now { end = c.args.end; body = c.args.body } in
    subst {A = Item} (λ i. Is c.release.new.self (closed (record v { item = record i { end = c.args.end; body = c.args.body } }) Nil) up) same
    (c.release.ensures.none (record v { item = w }) up (Is-item_parent t Nil v up c.in-Some.parent w parent is))

pub invariant_of-self : goal.invariant_of-self
invariant_of-self c = record {
  placed = placed-by _ (parent-open c.args.self.now.tree c.in-Some.parent c.args.self.now.placed c.peek_up.result c.peek_up.ensures c.in-Some.is) (λ o.
      let w = record c.item_mut-list.result.now { end = c.args.end; body = c.args.body } in
      split-last _ c.release.new.self (record o.1 { item = w }) o.2 o.0
      (λ here x inside is. at-place _ _ _ (c.release.ensures.released here x inside _ _ is)) (λ is. at-place _ _ _ (c.release.ensures.none _ _ is))
      (Is-item_parent c.args.self.now.tree o.0 o.1 o.2 c.in-Some.parent w (λ z h. sym c.in-Some.is ∙ c.peek_up.ensures z h) o.3));
}
