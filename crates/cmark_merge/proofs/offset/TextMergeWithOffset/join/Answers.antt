use Rattle.std.proofs.Common.{[], ◌++◌, refl, sym, ap, ap₂, ◌∙◌, append-nil, arith, string_bytes}
use Rattle.cmark_merge.specs.Streams.{ranged_ahead, text_at}
use Rattle.cmark_merge.proofs.JoinSteps.{on_err, pushed, run-ended, texts-then}
use Rattle.cmark_merge.proofs.offset.TextMergeWithOffset.join.Goals as goal

pub loop-more-init : goal.loop-more-init
loop-more-init g c =
    let text = c.in_ok-push_text.ensures ∙ ap₂ (λ a b. a ++ b) c.in_ok-text.ensures.value (sym (append-nil (text_at c.args.second).text)) in
    record {
      goes = c.requires.goes;
      not_over = c.requires.not_over;
      nothing_held = c.requires.nothing_held;
      no_more = omega arith;
      run = record { texts = []; yields = refl };
      are = ap (λ l. record { text = l; start = c.args.first.1.start; end = c.args.second.1.end }) text;
    }

pub returns-in_err-push_text-2-clause-refused : goal.returns-in_err-push_text-2-clause-refused
returns-in_err-push_text-2-clause-refused g c =
    on_err c.from_residual-in_err-push_text-2.result
    (texts-then g.I.Iterator.next_gives (ranged_ahead c.args.self.now) (ranged_ahead c.loop-more.self) (ranged_ahead c.read_text.new.self) (c.in-Some.more, c.in-Some.range) c.loop-more.invariant.run c.in-Some.ensures.reads)

pub loop-more-preserved : goal.loop-more-preserved
loop-more-preserved g c = record {
  goes = c.read_text.ensures.goes;
  not_over = c.in-Some.ensures.reads.0.2;
  nothing_held = c.in-Some.ensures.reads.1;
  no_more = omega (arith, c.read_text.ensures.no_more, c.loop-more.invariant.no_more);
  run = texts-then g.I.Iterator.next_gives (ranged_ahead c.args.self.now) (ranged_ahead c.loop-more.self) (ranged_ahead c.read_text.new.self) (c.in-Some.more, c.in-Some.range) c.loop-more.invariant.run c.in-Some.ensures.reads;
  are = pushed c.args.first c.args.second (c.in-Some.more, c.in-Some.range) c.loop-more.invariant.run.texts (string_bytes c.loop-more.text) (string_bytes c.push_text-in-Some.new.text) c.args.first.1.start c.loop-more.end
      c.loop-more.invariant.are c.in_ok-push_text-2.ensures;
}

pub returns-clause-joins : goal.returns-clause-joins
returns-clause-joins g c = record {
  run = run-ended g.I.Iterator.next_gives (ranged_ahead c.args.self.now) (ranged_ahead c.loop-more.self) (ranged_ahead c.read_text.new.self) c.requires.not_over c.loop-more.invariant.not_over c.loop-more.invariant.run c.in_default.ensures.reads;
  are = c.loop-more.invariant.are;
}
