use Rattle.std.proofs.Common.{arith}
use Rattle.cmark_tree.proofs.Entries.{grown_place, grown_end, stored_place, link_place, swap_moves}
use Rattle.cmark_tree.proofs.nodes.Nodes.move_to_new.Goals as goal

pub swap-requires-clause-i_in_bounds : goal.swap-requires-clause-i_in_bounds
swap-requires-clause-i_in_bounds g c = omega (arith, stored_place c.push.new.self c.args.ix (grown_place c.args.self.now c.push.new.self c.in_ok-new.new c.args.ix c.args.item c.requires c.in_ok-new.ensures.ok), c.push.new.self.items.ok.0)

pub swap-requires-clause-j_in_bounds : goal.swap-requires-clause-j_in_bounds
swap-requires-clause-j_in_bounds g c = omega (arith, stored_place c.push.new.self c.in_ok-new.new (grown_end c.args.self.now c.push.new.self c.in_ok-new.new c.args.item c.in_ok-new.ensures.ok), c.push.new.self.items.ok.0)

pub swap-requires-2-clause-i_in_bounds : goal.swap-requires-2-clause-i_in_bounds
swap-requires-2-clause-i_in_bounds g c = link_place c.push.new.self c.args.ix (grown_place c.args.self.now c.push.new.self c.in_ok-new.new c.args.ix c.args.item c.requires c.in_ok-new.ensures.ok)

pub swap-requires-2-clause-j_in_bounds : goal.swap-requires-2-clause-j_in_bounds
swap-requires-2-clause-j_in_bounds g c = link_place c.push.new.self c.in_ok-new.new (grown_end c.args.self.now c.push.new.self c.in_ok-new.new c.args.item c.in_ok-new.ensures.ok)

pub returns-clause-ok : goal.returns-clause-ok
returns-clause-ok g c =
    swap_moves c.args.self.now c.push.new.self _ c.args.ix c.in_ok-new.new c.args.item c.requires c.in_ok-new.ensures.ok c.swap.ensures.items c.swap-2.ensures.links
