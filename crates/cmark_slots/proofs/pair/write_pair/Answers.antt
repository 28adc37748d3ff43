use Rattle.std.proofs.Common.{◌++◌, ◌+◌, ◌-◌, sym, ap, subst, ◌∙◌, arith}
use Rattle.cmark_emphasis.specs.Shown.{shown_pair}
use Rattle.cmark_grammar.specs.Emphasis.{kinds_of}
use Rattle.cmark_values.specs.Shown.{shown_options}
use Rattle.cmark_slots.specs.PairSlots.{CanWrite, span_between, spans_around, spans_of_pair, write_spans}
use Rattle.cmark_slots.specs.SlotViews.{shown_slots}
use Rattle.cmark_slots.proofs.SpanSlots.{WritesOn, next-spans, none-left, writes-one}
use Rattle.cmark_slots.proofs.pair.write_pair.Goals as goal

pub loop-left-preserved : goal.loop-left-preserved
loop-left-preserved c =
    let options = shown_options c.args.options in
    let all = spans_of_pair (shown_pair c.args.pair) in
    let width = c.width-width.result in
    let old = c.args.slots.now.items in
    let now = c.loop-left.slots.items in
    let order = c.loop-left.invariant.0 in
    let others = spans_around (kinds_of c.args.pair.delimiter (c.loop-left.left - width)) (c.loop-left.from - width) (c.loop-left.to + width) in
    let next = next-spans c.innermost-kind.result c.args.pair.delimiter c.loop-left.left width c.loop-left.from c.loop-left.to c.width-width.ensures.value c.width-width.ensures.least c.innermost-kind.ensures.kinds in (
      omega (arith, order),
      writes-one options all others (span_between c.innermost-kind.result (c.loop-left.from - width) (c.loop-left.to + width - 1)) old now c.write_span.new.slots.items (subst (λ l. WritesOn options all l old now) next c.loop-left.invariant.1) c.write_span.ensures.keeps
          c.write_span.ensures.others c.write_span.ensures.before c.write_span.ensures.span,
    )

pub returns-clause-others : goal.returns-clause-others
returns-clause-others c = λ others h.
    let none = none-left c.args.pair.delimiter c.loop-left.left c.loop-left.from c.loop-left.to (omega (arith, c.loop-left-test.false)) in
    subst (λ l. CanWrite c.loop-left.slots.items (l ++ others)) none (c.loop-left.invariant.1.others others h)

pub returns-clause-before : goal.returns-clause-before
returns-clause-before c = λ low h. (c.loop-left.invariant.1.before low h).0

pub returns-clause-spans : goal.returns-clause-spans
returns-clause-spans c = λ leaf texts links.
    let none = none-left c.args.pair.delimiter c.loop-left.left c.loop-left.from c.loop-left.to (omega (arith, c.loop-left-test.false)) in
    ap (λ l. write_spans (shown_options c.args.options) l (shown_slots leaf texts links c.loop-left.slots.items)) (sym none) ∙ c.loop-left.invariant.1.views leaf texts links
