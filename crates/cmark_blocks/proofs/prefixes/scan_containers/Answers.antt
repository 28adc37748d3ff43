use Rattle.std.proofs.Common.{◌+◌, length, option_map, ◌∙◌, sym, ap, subst, arith}
use Rattle.std.specs.Slice.Iter.{iter_rest}
use Rattle.cmark_scan_lines.specs.LineStart.{row_from}
use Rattle.cmark_blocks.specs.Prefixes.{shown_container}
use Rattle.cmark_values.specs.Shown.{shown_options}
use Rattle.cmark_blocks.proofs.PrefixSteps.{Continuation, further-first, next-node, passed, taken, lacked, over}
use Rattle.cmark_blocks.proofs.prefixes.scan_containers.Goals as goal

pub loop-ix-init : goal.loop-ix-init
loop-ix-init c =
    let same = c.into_iter-ix-iterator.ensures.into_iter_gives in
    let h = c.requires in
    let spine = ap length (ap iter_rest same ∙ c.walk_spine-ix-items.ensures h.0 h.1 ∙ sym h.1.spine_is) in
    let vec = c.args.tree.now.spine in (
      tt,
      tt,
      omega (arith, spine, vec.ok.0, vec.ok.1, vec.small),
      λ z holds. further-first (shown_options c.args.options) c.args.tree.now z c.args.line.now (iter_rest c.into_iter-ix-iterator.result) holds (ap iter_rest same ∙ c.walk_spine-ix-items.ensures z holds),
    )

pub item-requires : goal.item-requires
item-requires c =
    let h = c.requires in
    let rest = iter_rest c.next.new.self in
    next-node (shown_options c.args.options) c.args.tree.now h.0.up c.args.line.now c.loop-ix.line c.loop-ix.count c.in-Some.ix.now rest
    (subst (Continuation (shown_options c.args.options) c.args.tree.now h.0.up c.args.line.now c.loop-ix.line c.loop-ix.count) c.in-Some.ensures.steps (c.loop-ix.invariant.3 h.0 h.1))

pub returns-in_default-after_prefix-clause-count : goal.returns-in_default-after_prefix-clause-count
returns-in_default-after_prefix-clause-count c = λ z holds at line_end. sym (ap (λ k. k.count) (
    lacked (shown_options c.args.options) c.args.tree.now z.up c.args.line.now c.loop-ix.line c.loop-ix.count c.in-Some.ix.now (iter_rest c.next.new.self)
    (subst (Continuation (shown_options c.args.options) c.args.tree.now z.up c.args.line.now c.loop-ix.line c.loop-ix.count) c.in-Some.ensures.steps (c.loop-ix.invariant.3 z holds))
    c.item.result.now c.item.ensures (option_map shown_container c.container_of.result) c.container_of.ensures (shown_container c.in-Some-container_of.container)
    (ap (option_map shown_container) c.in-Some-container_of.is)
    (λ at line_end. ap (option_map (row_from at line_end)) (sym c.in_default-after_prefix.is) ∙ c.after_prefix.ensures at line_end) at line_end))

pub returns-in_default-after_prefix-clause-rest : goal.returns-in_default-after_prefix-clause-rest
returns-in_default-after_prefix-clause-rest c = λ z holds at line_end. sym (ap (λ k. k.rest) (
    lacked (shown_options c.args.options) c.args.tree.now z.up c.args.line.now c.loop-ix.line c.loop-ix.count c.in-Some.ix.now (iter_rest c.next.new.self)
    (subst (Continuation (shown_options c.args.options) c.args.tree.now z.up c.args.line.now c.loop-ix.line c.loop-ix.count) c.in-Some.ensures.steps (c.loop-ix.invariant.3 z holds))
    c.item.result.now c.item.ensures (option_map shown_container c.container_of.result) c.container_of.ensures (shown_container c.in-Some-container_of.container)
    (ap (option_map shown_container) c.in-Some-container_of.is)
    (λ at line_end. ap (option_map (row_from at line_end)) (sym c.in_default-after_prefix.is) ∙ c.after_prefix.ensures at line_end) at line_end))

pub overflow_add-count : goal.overflow_add-count
overflow_add-count c = let l = ap length c.in-Some.ensures.steps in omega (arith, l, c.loop-ix.invariant.2)

pub loop-ix-preserved : goal.loop-ix-preserved
loop-ix-preserved c =
    let l = ap length c.in-Some.ensures.steps in (
      tt,
      tt,
      omega (arith, l, c.loop-ix.invariant.2),
      λ z holds.
          taken (shown_options c.args.options) c.args.tree.now z.up c.args.line.now c.loop-ix.line c.loop-ix.count c.in-Some.ix.now (iter_rest c.next.new.self)
          (subst (Continuation (shown_options c.args.options) c.args.tree.now z.up c.args.line.now c.loop-ix.line c.loop-ix.count) c.in-Some.ensures.steps (c.loop-ix.invariant.3 z holds))
          c.item.result.now c.item.ensures (option_map shown_container c.container_of.result) c.container_of.ensures (shown_container c.in-Some-container_of.container)
          (ap (option_map shown_container) c.in-Some-container_of.is)
          c.in-Some-after_prefix.following
          (λ at line_end. ap (option_map (row_from at line_end)) (sym c.in-Some-after_prefix.is) ∙ c.after_prefix.ensures at line_end)
          (c.loop-ix.count + 1) (omega arith),
    )

pub loop-ix-preserved-in_default : goal.loop-ix-preserved-in_default
loop-ix-preserved-in_default c =
    let l = ap length c.in-Some.ensures.steps in (
      tt,
      tt,
      omega (arith, l, c.loop-ix.invariant.2),
      λ z holds.
          passed (shown_options c.args.options) c.args.tree.now z.up c.args.line.now c.loop-ix.line c.loop-ix.count c.in-Some.ix.now (iter_rest c.next.new.self)
          (subst (Continuation (shown_options c.args.options) c.args.tree.now z.up c.args.line.now c.loop-ix.line c.loop-ix.count) c.in-Some.ensures.steps (c.loop-ix.invariant.3 z holds))
          c.item.result.now c.item.ensures (option_map shown_container c.container_of.result) c.container_of.ensures
          (ap (option_map shown_container) c.in_default.is),
    )

pub returns-clause-count : goal.returns-clause-count
returns-clause-count c = λ z holds at line_end.
    sym (ap (λ k. k.count) (
    over (shown_options c.args.options) c.args.tree.now z.up c.args.line.now c.loop-ix.line c.loop-ix.count (iter_rest c.loop-ix.ix-iterator) c.in-None.ensures.steps.0 (c.loop-ix.invariant.3 z holds) at line_end))

pub returns-clause-rest : goal.returns-clause-rest
returns-clause-rest c = λ z holds at line_end.
    sym (ap (λ k. k.rest) (
    over (shown_options c.args.options) c.args.tree.now z.up c.args.line.now c.loop-ix.line c.loop-ix.count (iter_rest c.loop-ix.ix-iterator) c.in-None.ensures.steps.0 (c.loop-ix.invariant.3 z holds) at line_end))
