use Rattle.std.proofs.Common.{string_bytes, sym, ◌∙◌, subst, arith}
use Rattle.cmark_html.specs.Writer.{writing}
use Rattle.cmark_parser.specs.Rendering.{WritesNext, WritesSome, written}
use Rattle.cmark_parser.proofs.RenderSteps.{joined, more-written, none-shown, none-written}
use Rattle.cmark_parser.proofs.html.write_any.Goals as goal

pub loop-out-init : goal.loop-out-init
loop-out-init g c =
    let gives = c.in_ok-write_taken.ensures.writes.gives in (
      none-written g.F.BrokenLinkCallback.answers g.E.EntityLookup.replacement (g.T.Filter.filtered c.args.filter.now) c.write_taken.new.parser (written (writing c.write_taken.new.writer) (string_bytes c.write_taken.new.out)) (record { goes = gives.next.goes_on; counted = gives.counted }),
      omega arith,
      c.in_ok-write_taken.ensures.ready,
    )

pub loop-out-preserved : goal.loop-out-preserved
loop-out-preserved g c =
    let Says = g.F.BrokenLinkCallback.answers in
    let replacement = g.E.EntityLookup.replacement in
    let filtered = g.T.Filter.filtered c.args.filter.now in
    let first = c.write_taken.new.parser in
    let begun = written (writing c.write_taken.new.writer) (string_bytes c.write_taken.new.out) in
    let mid = written (writing c.loop-out.writer) (string_bytes c.loop-out.out) in
    let new = written (writing c.write_next.new.writer) (string_bytes c.write_next.new.out) in
    let wrote = subst (λ b. WritesNext Says replacement filtered b c.loop-out.parser mid c.write_next.new.parser new) c.if-not-is_given.false c.in_ok-is_given.ensures.writes in (
      joined Says replacement filtered first c.loop-out.parser c.write_next.new.parser begun mid new c.loop-out.invariant.0 (more-written Says replacement filtered c.loop-out.parser c.write_next.new.parser wrote.given mid new wrote.gives wrote.bytes wrote.writing),
      let a = wrote.gives.fewer in let b = c.loop-out.invariant.1 in omega (arith, a, b),
      c.in_ok-is_given.ensures.ready,
    )

pub returns-then-not-is_given-clause-writes : goal.returns-then-not-is_given-clause-writes
returns-then-not-is_given-clause-writes g c =
    let Says = g.F.BrokenLinkCallback.answers in
    let replacement = g.E.EntityLookup.replacement in
    let filtered = g.T.Filter.filtered c.args.filter.now in
    let old = written (writing c.args.writer.now) (string_bytes c.args.out.now) in
    let first = c.write_taken.new.parser in
    let begun = written (writing c.write_taken.new.writer) (string_bytes c.write_taken.new.out) in
    let mid = written (writing c.loop-out.writer) (string_bytes c.loop-out.out) in
    let new = written (writing c.write_next.new.writer) (string_bytes c.write_next.new.out) in
    let taken = c.in_ok-write_taken.ensures.writes in
    let wrote = subst (λ b. WritesNext Says replacement filtered b c.loop-out.parser mid c.write_next.new.parser new) c.if-not-is_given.true c.in_ok-is_given.ensures.writes in
    let some = joined Says replacement filtered c.args.parser.now first c.loop-out.parser old begun mid (more-written Says replacement filtered c.args.parser.now first taken.given old begun taken.gives taken.bytes taken.writing) c.loop-out.invariant.0 in
    record {
      last = c.loop-out.parser;
      some = subst (WritesSome Says replacement filtered c.args.parser.now old c.loop-out.parser) (sym wrote.1) some;
      taken = wrote.0.next.taken;
      asks = wrote.0.next.first.0;
      none = wrote.0.next.first.1;
    }

pub returns-clause-writes : goal.returns-clause-writes
returns-clause-writes g c =
    let Says = g.F.BrokenLinkCallback.answers in
    let replacement = g.E.EntityLookup.replacement in
    let filtered = g.T.Filter.filtered c.args.filter.now in
    let old = written (writing c.args.writer.now) (string_bytes c.args.out.now) in
    let first = c.write_taken.new.parser in
    let begun = written (writing c.write_taken.new.writer) (string_bytes c.write_taken.new.out) in
    let mid = written (writing c.loop-out.writer) (string_bytes c.loop-out.out) in
    let taken = c.in_ok-write_taken.ensures.writes in
    record {
      some = joined Says replacement filtered c.args.parser.now first c.loop-out.parser old begun mid (more-written Says replacement filtered c.args.parser.now first taken.given old begun taken.gives taken.bytes taken.writing) c.loop-out.invariant.0;
      closed = none-shown c.loop-out.writer.image (sym c.is_some.ensures ∙ c.loop-out-test.false);
      fewer = let a = taken.gives.fewer in let b = c.loop-out.invariant.1 in omega (arith, a, b);
    }
