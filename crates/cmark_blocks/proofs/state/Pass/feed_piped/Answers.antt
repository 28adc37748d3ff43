use Rattle.std.proofs.lemmas.Result.{on_ok_weaker}
use Rattle.std.proofs.Common.{◌≡◌, ◌≤◌, suc, ◌∷◌, None, Some, List, length, map, sym, ap, subst, ◌∙◌, arith}
use Rattle.cmark_grammar.specs.Openings.{count_rows}
use Rattle.cmark_grammar.specs.Rows.{words_of}
use Rattle.cmark_grammar.specs.TableRows.{most_filled, table_head}
use Rattle.cmark_grammar.specs.Tables.{delimiter_row}
use Rattle.cmark_items.specs.ItemNodes.{columns_of}
use Rattle.cmark_line_rules.specs.Rests.{row_of}
use Rattle.cmark_line_rules.proofs.RestSteps.{whole}
use Rattle.cmark_block_model.specs.BlockPass.{ahead_in, leaf_closed}
use Rattle.cmark_block_model.specs.OpenBlocks as model
use Rattle.cmark_blocks.specs.Ahead.{lines_at}
use Rattle.cmark_blocks.specs.Runs.{Runs}
use Rattle.cmark_blocks.specs.TableHeads.{may_head}
use Rattle.cmark_blocks.specs.TablesAhead.{IsHead}
use Rattle.cmark_blocks.proofs.FeedSteps.{in_paragraph, feeds-interrupted, feeds-text, closed-outer}
use Rattle.cmark_blocks.proofs.KeepingSteps.{shows-all}
use Rattle.cmark_blocks.proofs.PipeRows.{may-pipe, pipe-underlines-not, pipe-interrupts, head-begins}
use Rattle.cmark_blocks.proofs.state.Pass.feed_piped.Goals as goal

pub returns-in_default-clause-runs : goal.returns-in_default-clause-runs
returns-in_default-clause-runs g c =
    let row = row_of c.args.rest in
    let cs = c.args.self.now.outer.items in
    let all : length cs ≤ c.len.result = omega (arith, c.len.ensures, c.args.self.now.outer.ok.0) in
    on_ok_weaker c.add_to_paragraph.result
    (λ ran. λ text options lookup m runs.
    let replacement = g.E.EntityLookup.replacement in
    let next = lines_at text row.line_end in
    let ahead = ahead_in text options lookup m.outer next in
    let pipe = may-pipe options row (sym (ap (λ o. may_head o row) runs.options_is) ∙ c.requires.piped) in
    let none = subst (λ (ms : List model.OpenContainer). table_head options row (ahead_in text options lookup ms next) ≡ None)
    (shows-all cs m.outer c.len.result runs.outer all).0 (c.in_default.ensures.tells text options lookup m runs) in
    subst (λ p. Runs replacement text options lookup p c.add_to_paragraph.new.self)
    (sym (feeds-text text options lookup row next m (map row_of c.args.self.now.blank_lines.items) c.args.from (row_of c.args.last) (pipe-underlines-not options row pipe) (whole c.args.rest)
    (pipe-interrupts options row pipe ahead None none) (in_paragraph replacement text options lookup m c.args.self.now runs c.args.from c.args.last c.requires.following.is)))
    (ran text options lookup m runs))
    c.add_to_paragraph.ensures.runs

pub returns-clause-runs : goal.returns-clause-runs
returns-clause-runs g c =
    let row = row_of c.args.rest in
    let delimiter = row_of c.in-Some.head.delimiter in
    let cs = c.args.self.now.outer.items in
    let all : length cs ≤ c.len.result = omega (arith, c.len.ensures, c.args.self.now.outer.ok.0) in
    on_ok_weaker c.begin_table.result
    (λ begins. λ text options lookup m runs.
    let replacement = g.E.EntityLookup.replacement in
    let next = lines_at text row.line_end in
    let following = λ (ms : List model.OpenContainer). ahead_in text options lookup ms (lines_at text delimiter.line_end) in
    let ahead = ahead_in text options lookup m.outer next in
    let closed = leaf_closed text options lookup m in
    let pipe = may-pipe options row (sym (ap (λ o. may_head o row) runs.options_is) ∙ c.requires.piped) in
    let head = subst (λ (ms : List model.OpenContainer). IsHead options row (ahead_in text options lookup ms next) c.in-Some.head.columns delimiter (following ms))
    (shows-all cs m.outer c.len.result runs.outer all).0 (c.in-Some.ensures.tells text options lookup m runs) in
    let begun = subst (λ (ms : List model.OpenContainer). IsHead options row (ahead_in text options lookup ms next) c.in-Some.head.columns delimiter (following ms))
    (sym (closed-outer text options lookup m m.leaf)) head in
    subst (λ p. Runs replacement text options lookup p c.begin_table.new.self)
    (head-begins text options lookup row next closed (whole c.args.rest) pipe c.in-Some.head.columns delimiter (following closed.outer) begun
    ∙ sym (feeds-interrupted text options lookup row next m (map row_of c.args.self.now.blank_lines.items) c.args.from (row_of c.args.last) (pipe-underlines-not options row pipe) (whole c.args.rest)
    (pipe-interrupts options row pipe ahead (Some (columns_of (delimiter_row (words_of delimiter)))) head.is) (in_paragraph replacement text options lookup m c.args.self.now runs c.args.from c.args.last c.requires.following.is)))
    (begins text options lookup closed (suc (count_rows options c.in-Some.head.columns most_filled (following closed.outer))) (delimiter ∷ following closed.outer) (c.in_ok-close_paragraph.ensures.runs text options lookup m runs) head.many))
    c.begin_table.ensures.runs
