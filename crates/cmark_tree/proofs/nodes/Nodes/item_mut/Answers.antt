use Rattle.std.proofs.Common.{◌-◌, refl, ap, arith}
use Rattle.std.proofs.Math.Nat.{ℕ_set}
use Rattle.std.proofs.Math.Bridge.{le_prop}
use Rattle.std.specs.Coded.{×_prop}
use Rattle.std.specs.Vec.{with_item}
use Rattle.cmark_tree.proofs.Entries.{stored_place, read_item}
use Rattle.cmark_tree.proofs.nodes.Nodes.item_mut.Goals as goal

pub index_mut-requires : goal.index_mut-requires
index_mut-requires g c = omega (arith, stored_place c.args.self.now c.args.ix c.requires, c.args.self.now.items.ok.0)

pub returns : goal.returns
returns g c = (
  (
    refl,
    λ w. ap (λ h. record { items = with_item c.args.self.now.items (c.args.ix - 1) w; links = c.args.self.now.links; room = c.args.self.now.room; at_once = c.args.self.now.at_once; even = h })
        (×_prop (ℕ_set _ _) (×_prop le_prop (×_prop le_prop le_prop)) _ _),
  ),
  record {
    lends = tt;
    value = λ e at. read_item c.args.self.now c.args.ix c.index_mut.result.now e c.requires c.index_mut.ensures.value at;
  },
)
