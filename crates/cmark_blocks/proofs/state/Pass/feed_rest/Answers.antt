use Rattle.std.proofs.lemmas.Result.{on_ok_weaker}
use Rattle.std.proofs.Common.{◌≤◌, ◌<◌, ◌&&◌, not, take, drop, length, sym, ap, subst, ◌∙◌, arith}
use Rattle.std.proofs.lemmas.List.{take-append-drop, length-take-le}
use Rattle.cmark_grammar.specs.TableRows.{table_interrupts}
use Rattle.cmark_line_rules.specs.Rests.{row_of}
use Rattle.cmark_block_model.specs.BlockPass.{ahead_in, leaf_closed}
use Rattle.cmark_blocks.specs.Ahead.{lines_at}
use Rattle.cmark_blocks.specs.Runs.{Runs}
use Rattle.cmark_blocks.specs.TableHeads.{may_head}
use Rattle.cmark_blocks.proofs.ClosingSteps.{shows-length}
use Rattle.cmark_blocks.proofs.FeedSteps.{rest-kept, rest-lazy, rest-ends, closed-outer}
use Rattle.cmark_blocks.proofs.KeepingSteps.{shows-all, shows-some}
use Rattle.cmark_blocks.proofs.PipeRows.{heads-not}
use Rattle.cmark_blocks.proofs.state.Pass.feed_rest.Goals as goal

pub returns-then-kept-len-clause-runs : goal.returns-then-kept-len-clause-runs
returns-then-kept-len-clause-runs g c =
    on_ok_weaker c.feed_leaf.result
    (λ ran. λ text options lookup m runs.
    let row = row_of c.args.rest in
    let cs = c.args.self.now.outer.items in
    let all : length cs ≤ c.args.kept = omega (arith, c.if-kept-len.true, c.len.ensures, c.args.self.now.outer.ok.0) in
    subst (λ p. Runs g.E.EntityLookup.replacement text options lookup p c.feed_leaf.new.self)
    (sym (rest-kept text options lookup row (lines_at text row.line_end) m c.args.kept (shows-all cs m.outer c.args.kept runs.outer all).1))
    (ran text options lookup m runs))
    c.feed_leaf.ensures.runs

pub returns-then-may_be_lazy-clause-runs : goal.returns-then-may_be_lazy-clause-runs
returns-then-may_be_lazy-clause-runs g c =
    on_ok_weaker c.feed_lazily.result
    (λ ran. λ text options lookup m runs.
    let row = row_of c.args.rest in
    let kept = c.args.kept in
    let next = lines_at text row.line_end in
    let ahead = ahead_in text options lookup (take kept m.outer) next in
    let cs = c.args.self.now.outer.items in
    let some : kept < length cs = omega (arith, c.requires.few, c.if-kept-len.false, c.len.ensures, c.args.self.now.outer.ok.0) in
    let missed = shows-some cs m.outer kept runs.outer some in
    subst (λ p. Runs g.E.EntityLookup.replacement text options lookup p c.feed_lazily.new.self)
    (sym (rest-lazy text options lookup row next m kept missed.0 missed.1 missed.2
    (c.may_be_lazy.ensures text options lookup m missed.0 missed.1 missed.2 runs ∙ ap (λ z. z && not (table_interrupts options row ahead)) c.if-may_be_lazy.true
    ∙ ap not (heads-not options row ahead (sym (c.may_head_table.ensures ∙ ap (λ o. may_head o row) runs.options_is) ∙ c.if-may_head_table.false)))))
    (ran text options lookup m runs))
    c.feed_lazily.ensures.runs

pub returns-clause-runs : goal.returns-clause-runs
returns-clause-runs g c =
    on_ok_weaker c.begin.result
    (λ ran. λ text options lookup m runs.
    let row = row_of c.args.rest in
    let kept = c.args.kept in
    let next = lines_at text row.line_end in
    let ahead = ahead_in text options lookup (take kept m.outer) next in
    let cs = c.args.self.now.outer.items in
    let some : kept < length cs = omega (arith, c.requires.few, c.if-kept-len.false, c.len.ensures, c.args.self.now.outer.ok.0) in
    let missed = shows-some cs m.outer kept runs.outer some in
    let within : kept ≤ length m.outer = omega (arith, c.requires.few, shows-length cs m.outer runs.outer) in
    let closed = c.in_ok-close_leaf.ensures.runs text options lookup m runs in
    let outer = closed-outer text options lookup m m.leaf in
    subst (λ p. Runs g.E.EntityLookup.replacement text options lookup p c.begin.new.self)
    (sym (rest-ends text options lookup row next m kept missed.0 missed.1 missed.2
    (c.may_be_lazy.ensures text options lookup m missed.0 missed.1 missed.2 runs ∙ ap (λ z. z && not (table_interrupts options row ahead)) c.if-may_be_lazy.false)))
    (ran text options lookup _
    (c.close_containers.ensures.runs text options lookup (leaf_closed text options lookup m) (take kept m.outer) (drop kept m.outer) (outer ∙ sym (take-append-drop kept m.outer)) (length-take-le kept m.outer within) closed)))
    c.begin.ensures.runs
