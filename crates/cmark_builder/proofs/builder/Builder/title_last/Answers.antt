use Rattle.std.proofs.Common.{◌≡◌, sym, ap, ◌∙◌, subst, Some}
use Rattle.cmark_tree.specs.Forest.{join, one}
use Rattle.cmark_tree.specs.Building.{Is}
use Rattle.cmark_tree.specs.Zip.{Zip}
use Rattle.cmark_tree.specs.Lending.{with_item_at}
use Rattle.cmark_tree.specs.Tree.{Holds, focus_of}
use Rattle.cmark_items.specs.declared.item.Item.{Item}
use Rattle.cmark_builder.specs.Ended.{item_at, titled}
use Rattle.cmark_tree.proofs.Items.{Is-item_focus}
use Rattle.cmark_builder.proofs.BuilderSteps.{at-place, placed-by, focus-node, focus-open, focus-read, focus-none, focus-some}
use Rattle.cmark_builder.proofs.builder.Builder.title_last.Goals as goal

pub item_mut-item-requires : goal.item_mut-item-requires
item_mut-item-requires c = focus-node c.args.self.now.tree c.in-Some.last c.args.self.now.placed c.cur.result c.cur.ensures c.in-Some.is

pub returns-in-Some-clause-turned : goal.returns-in-Some-clause-turned
returns-in-Some-clause-turned c here item inside up is =
    let t = c.args.self.now.tree in
    let focus : (z : Zip Item) → Holds t z → Some c.in-Some.last ≡ focus_of z.right = λ z h. sym c.in-Some.is ∙ c.cur.ensures z h in
    let read = focus-read t c.in-Some.last here item inside up focus is in
    let same : c.item_mut-item.result.now ≡ item = c.item_mut-item.ensures.value read.0 read.1 ∙ read.2 in
    let w = record c.item_mut-item.result.now { body = c.titled-item.result } in
    let body : c.titled-item.result ≡ titled item.body = c.titled-item.ensures ∙ ap (λ (k : Item). titled k.body) same in
    subst (λ b. Is (with_item_at t c.in-Some.last.ix w) (join here (one (item_at item.start item.end b) inside)) up) body
    (subst {A = Item} (λ k. Is (with_item_at t c.in-Some.last.ix w) (join here (one (record k { body = c.titled-item.result }) inside)) up) same (Is-item_focus t here item inside up c.in-Some.last w focus is))

pub invariant_of-self : goal.invariant_of-self
invariant_of-self c = record {
  placed = placed-by _ (focus-open c.args.self.now.tree c.in-Some.last c.args.self.now.placed c.cur.result c.cur.ensures c.in-Some.is) (λ o.
      at-place _ _ _ (Is-item_focus c.args.self.now.tree o.0 o.1 o.2 o.3 c.in-Some.last (record c.item_mut-item.result.now { body = c.titled-item.result }) (λ z h. sym c.in-Some.is ∙ c.cur.ensures z h) o.4));
}

pub returns-in-Some-clause-none : goal.returns-in-Some-clause-none
returns-in-Some-clause-none c up is = absurd (focus-some c.args.self.now.tree up c.in-Some.last c.cur.result c.cur.ensures c.in-Some.is is)

pub returns-in_default-clause-turned : goal.returns-in_default-clause-turned
returns-in_default-clause-turned c here item inside up is = absurd (focus-none c.args.self.now.tree here item inside up c.cur.result c.cur.ensures c.in_default.not-Some is)
