use Rattle.std.proofs.lemmas.Result.{on_ok_weaker}
use Rattle.std.proofs.lemmas.List.{take-append-drop, length-take-le}
use Rattle.std.proofs.Common.{◌≤◌, suc, true, ◌∷◌, not, take, drop, None, Some, List, length, sym, ap, subst, ◌∙◌, arith}
use Rattle.cmark_grammar.specs.Openings.{count_rows}
use Rattle.cmark_grammar.specs.Rows.{words_of}
use Rattle.cmark_grammar.specs.TableRows.{most_filled}
use Rattle.cmark_grammar.specs.Tables.{delimiter_row}
use Rattle.cmark_items.specs.ItemNodes.{columns_of}
use Rattle.cmark_line_rules.specs.Rests.{row_of}
use Rattle.cmark_line_rules.proofs.RestSteps.{whole}
use Rattle.cmark_block_model.specs.BlockPass.{ahead_in, containers_closed, leaf_closed}
use Rattle.cmark_block_model.specs.OpenBlocks as model
use Rattle.cmark_blocks.specs.Ahead.{lines_at}
use Rattle.cmark_blocks.specs.Runs.{Runs}
use Rattle.cmark_blocks.specs.TableHeads.{may_head}
use Rattle.cmark_blocks.specs.TablesAhead.{IsHead}
use Rattle.cmark_blocks.proofs.ClosingSteps.{shows-length}
use Rattle.cmark_blocks.proofs.FeedSteps.{rest-lazy, rest-ends, closed-outer}
use Rattle.cmark_blocks.proofs.KeepingSteps.{shows-some}
use Rattle.cmark_blocks.proofs.PipeRows.{may-pipe, head-begins}
use Rattle.cmark_blocks.proofs.TableSteps.{interrupts-by}
use Rattle.cmark_blocks.proofs.state.Pass.feed_piped_lazily.Goals as goal

pub returns-in_default-clause-runs : goal.returns-in_default-clause-runs
returns-in_default-clause-runs g c =
    on_ok_weaker c.feed_lazily.result
    (λ ran. λ text options lookup m runs.
    let row = row_of c.args.rest in
    let kept = c.args.kept in
    let next = lines_at text row.line_end in
    let ahead = ahead_in text options lookup (take kept m.outer) next in
    let missed = shows-some c.args.self.now.outer.items m.outer kept runs.outer c.requires.few in
    let pipe = may-pipe options row (sym (ap (λ o. may_head o row) runs.options_is) ∙ c.requires.piped) in
    subst (λ p. Runs g.E.EntityLookup.replacement text options lookup p c.feed_lazily.new.self)
    (sym (rest-lazy text options lookup row next m kept missed.0 missed.1 missed.2
    (c.requires.lazy text options lookup m missed.0 missed.1 missed.2 runs ∙ ap not (interrupts-by options row ahead true None (sym pipe) (c.in_default.ensures.tells text options lookup m runs)))))
    (ran text options lookup m runs))
    c.feed_lazily.ensures.runs

pub returns-clause-runs : goal.returns-clause-runs
returns-clause-runs g c =
    on_ok_weaker c.begin_table.result
    (λ begins. λ text options lookup m runs.
    let row = row_of c.args.rest in
    let delimiter = row_of c.in-Some.head.delimiter in
    let kept = c.args.kept in
    let next = lines_at text row.line_end in
    let outer = take kept m.outer in
    let following = λ (ms : List model.OpenContainer). ahead_in text options lookup ms (lines_at text delimiter.line_end) in
    let ahead = ahead_in text options lookup outer next in
    let cs = c.args.self.now.outer.items in
    let missed = shows-some cs m.outer kept runs.outer c.requires.few in
    let within : kept ≤ length m.outer = omega (arith, c.requires.few, shows-length cs m.outer runs.outer) in
    let pipe = may-pipe options row (sym (ap (λ o. may_head o row) runs.options_is) ∙ c.requires.piped) in
    let head = c.in-Some.ensures.tells text options lookup m runs in
    let ended = leaf_closed text options lookup m in
    let closed = containers_closed text options lookup outer (drop kept m.outer) ended in
    let left = ap (λ cs. (containers_closed text options lookup outer cs ended).outer) missed.2 in
    let begun = subst (λ (ms : List model.OpenContainer). IsHead options row (ahead_in text options lookup ms next) c.in-Some.head.columns delimiter (following ms)) (sym left) head in
    subst (λ p. Runs g.E.EntityLookup.replacement text options lookup p c.begin_table.new.self)
    (head-begins text options lookup row next closed (whole c.args.rest) pipe c.in-Some.head.columns delimiter (following closed.outer) begun
    ∙ sym (rest-ends text options lookup row next m kept missed.0 missed.1 missed.2
    (c.requires.lazy text options lookup m missed.0 missed.1 missed.2 runs ∙ ap not (interrupts-by options row ahead true (Some (columns_of (delimiter_row (words_of delimiter)))) (sym pipe) head.is))))
    (begins text options lookup closed (suc (count_rows options c.in-Some.head.columns most_filled (following closed.outer))) (delimiter ∷ following closed.outer)
    (c.close_containers.ensures.runs text options lookup ended outer (drop kept m.outer) (closed-outer text options lookup m m.leaf ∙ sym (take-append-drop kept m.outer)) (length-take-le kept m.outer within)
    (c.in_ok-close_leaf.ensures.runs text options lookup m runs)) head.many))
    c.begin_table.ensures.runs
