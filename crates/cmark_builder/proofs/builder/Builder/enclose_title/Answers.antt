use Rattle.std.proofs.Common.{◌≡◌, ◌∷◌, sym, ◌∙◌, subst, Some}
use Rattle.std.proofs.lemmas.Result.{on_ok_weaker, on_err_weaker}
use Rattle.cmark_tree.specs.Building.{Is, IsPlaced}
use Rattle.cmark_tree.specs.Forest.{one, Nil}
use Rattle.cmark_tree.specs.Tree.{Holds, focus_of}
use Rattle.cmark_tree.specs.Zip.{Zip}
use Rattle.cmark_items.specs.declared.item.Item.{Item}
use Rattle.cmark_builder.specs.Ended.{item_at, titled}
use Rattle.cmark_builder.proofs.BuilderSteps.{at-place, placed-by, placed-either, either-way, focus-node, focus-open, focus-read, focus-none, focus-some}
use Rattle.cmark_builder.proofs.builder.Builder.enclose_title.Goals as goal

pub returns-in_default-clause-ok : goal.returns-in_default-clause-ok
returns-in_default-clause-ok c = on_ok_weaker c.open.result (λ opens here item inside up is. absurd (focus-none c.args.self.now.tree here item inside up c.cur.result c.cur.ensures c.in_default.not-Some is)) c.open.ensures.ok

pub returns-in_default-clause-none : goal.returns-in_default-clause-none
returns-in_default-clause-none c = on_ok_weaker c.open.result (λ opens up is. opens Nil up is) c.open.ensures.ok

pub returns-clause-none : goal.returns-clause-none
returns-clause-none c = on_ok_weaker c.enclose.result (λ down up is. absurd (focus-some c.args.self.now.tree up c.in-Some.last c.cur.result c.cur.ensures c.in-Some.is is)) c.enclose.ensures.ok

pub item-requires : goal.item-requires
item-requires c = focus-node c.args.self.now.tree c.in-Some.last c.args.self.now.placed c.cur.result c.cur.ensures c.in-Some.is

pub returns-clause-ok : goal.returns-clause-ok
returns-clause-ok c = on_ok_weaker c.enclose.result (λ down here item inside up is.
    let t = c.args.self.now.tree in
    let focus : (z : Zip Item) → Holds t z → Some c.in-Some.last ≡ focus_of z.right = λ z h. sym c.in-Some.is ∙ c.cur.ensures z h in
    let read = focus-read t c.in-Some.last here item inside up focus is in
    let same : c.item.result.now ≡ item = c.item.ensures read.0 read.1 ∙ read.2 in
    subst {A = Item} (λ k. Is c.enclose.new.self (one (item_at item.start item.end (titled item.body)) inside) (record { left = here; item = item_at k.start k.start c.args.around } ∷ up)) same
    (down here (item_at item.start item.end (titled item.body)) inside up (c.title_last.ensures.turned here item inside up is))) c.enclose.ensures.ok

pub invariant_of-self : goal.invariant_of-self
invariant_of-self c = record {
  placed = placed-by _ (focus-open c.args.self.now.tree c.in-Some.last c.args.self.now.placed c.cur.result c.cur.ensures c.in-Some.is) (λ o.
      let turned = c.title_last.ensures.turned o.0 o.1 o.2 o.3 o.4 in
      either-way c.enclose.result (IsPlaced c.enclose.new.self)
      (on_ok_weaker c.enclose.result (λ down. at-place _ _ _ (down o.0 _ o.2 o.3 turned)) c.enclose.ensures.ok)
      (on_err_weaker c.enclose.result (λ err. placed-either _ _ _ _ (err o.0 _ o.2 o.3 turned)) c.enclose.ensures.err));
}
