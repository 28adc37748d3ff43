use Rattle.std.proofs.Common.{◌∙◌}
use Rattle.cmark_values.specs.Shown.{shown_options}
use Rattle.cmark_slots.specs.PairSlots.{span_between}
use Rattle.cmark_slots.proofs.SpanSlots.{element-written, goes-on, mid-last, mid-whole, text-written}
use Rattle.cmark_slots.proofs.pair.write_span.Goals as goal

pub merge-requires-clause-text : goal.merge-requires-clause-text
merge-requires-clause-text c =
    mid-last (shown_options c.args.options) c.args.kind c.args.first c.args.last c.args.slots.now.items c.use_up_inner.new.slots.items c.requires c.use_up_inner.ensures.value

pub merge-requires-clause-whole : goal.merge-requires-clause-whole
merge-requires-clause-whole c =
    mid-whole (shown_options c.args.options) c.args.kind c.args.first c.args.last c.args.slots.now.items c.use_up_inner.new.slots.items c.requires c.use_up_inner.ensures.value

pub returns-in-Some-clause-keeps : goal.returns-in-Some-clause-keeps
returns-in-Some-clause-keeps c =
    let w = element-written (shown_options c.args.options) c.args.kind c.args.first c.args.last c.args.slots.now.items c.use_up_inner.new.slots.items c.requires c.use_up_inner.ensures.value c.enclose.new.slots.items c.in-Some.element c.enclose.ensures.value c.in-Some.ensures in
    record {
      slots = λ text place h. c.enclose.ensures.slots text place (c.use_up_inner.ensures.slots text place h);
      size = c.enclose.ensures.length ∙ c.use_up_inner.ensures.length;
      links = λ from h. c.enclose.ensures.links from (c.use_up_inner.ensures.links from h);
      within = w.within;
      names = w.names;
    }

pub returns-in-Some-clause-others : goal.returns-in-Some-clause-others
returns-in-Some-clause-others c = λ others h.
    let w = element-written (shown_options c.args.options) c.args.kind c.args.first c.args.last c.args.slots.now.items c.use_up_inner.new.slots.items c.requires c.use_up_inner.ensures.value c.enclose.new.slots.items c.in-Some.element c.enclose.ensures.value c.in-Some.ensures in
    goes-on (span_between c.args.kind c.args.first c.args.last) others c.args.slots.now.items c.enclose.new.slots.items h w.around w.whole

pub returns-in-Some-clause-before : goal.returns-in-Some-clause-before
returns-in-Some-clause-before c = λ k d lt.
    let w = element-written (shown_options c.args.options) c.args.kind c.args.first c.args.last c.args.slots.now.items c.use_up_inner.new.slots.items c.requires c.use_up_inner.ensures.value c.enclose.new.slots.items c.in-Some.element c.enclose.ensures.value c.in-Some.ensures in
    w.around.before k d lt

pub returns-in-Some-clause-span : goal.returns-in-Some-clause-span
returns-in-Some-clause-span c =
    (element-written (shown_options c.args.options) c.args.kind c.args.first c.args.last c.args.slots.now.items c.use_up_inner.new.slots.items c.requires c.use_up_inner.ensures.value c.enclose.new.slots.items c.in-Some.element c.enclose.ensures.value c.in-Some.ensures).views

pub returns-in-None-clause-keeps : goal.returns-in-None-clause-keeps
returns-in-None-clause-keeps c =
    let w = text-written (shown_options c.args.options) c.args.kind c.args.first c.args.last c.args.slots.now.items c.use_up_inner.new.slots.items c.requires c.use_up_inner.ensures.value c.merge.new.slots.items c.merge.ensures.value c.in-None.ensures in
    record {
      slots = λ text place h. c.merge.ensures.slots text place (c.use_up_inner.ensures.slots text place h);
      size = c.merge.ensures.length ∙ c.use_up_inner.ensures.length;
      links = λ from h. c.merge.ensures.links from (c.use_up_inner.ensures.links from h);
      within = w.within;
      names = w.names;
    }

pub returns-in-None-clause-others : goal.returns-in-None-clause-others
returns-in-None-clause-others c = λ others h.
    let w = text-written (shown_options c.args.options) c.args.kind c.args.first c.args.last c.args.slots.now.items c.use_up_inner.new.slots.items c.requires c.use_up_inner.ensures.value c.merge.new.slots.items c.merge.ensures.value c.in-None.ensures in
    goes-on (span_between c.args.kind c.args.first c.args.last) others c.args.slots.now.items c.merge.new.slots.items h w.around w.whole

pub returns-in-None-clause-before : goal.returns-in-None-clause-before
returns-in-None-clause-before c = λ k d lt.
    let w = text-written (shown_options c.args.options) c.args.kind c.args.first c.args.last c.args.slots.now.items c.use_up_inner.new.slots.items c.requires c.use_up_inner.ensures.value c.merge.new.slots.items c.merge.ensures.value c.in-None.ensures in
    w.around.before k d lt

pub returns-in-None-clause-span : goal.returns-in-None-clause-span
returns-in-None-clause-span c =
    (text-written (shown_options c.args.options) c.args.kind c.args.first c.args.last c.args.slots.now.items c.use_up_inner.new.slots.items c.requires c.use_up_inner.ensures.value c.merge.new.slots.items c.merge.ensures.value c.in-None.ensures).views
