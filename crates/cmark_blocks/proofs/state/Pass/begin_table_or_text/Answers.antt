use Rattle.std.proofs.Common.{◌≤◌, ◌≡◌, suc, ◌∷◌, None, List, length, subst, arith}
use Rattle.std.proofs.lemmas.Result.{on_ok_weaker}
use Rattle.cmark_grammar.specs.Openings.{count_rows}
use Rattle.cmark_grammar.specs.TableRows.{most_filled, table_head}
use Rattle.cmark_line_rules.specs.Rests.{row_of}
use Rattle.cmark_block_model.specs.BlockPass.{ahead_in}
use Rattle.cmark_block_model.specs.OpenBlocks as model
use Rattle.cmark_blocks.specs.Ahead.{lines_at}
use Rattle.cmark_blocks.specs.Runs.{Runs}
use Rattle.cmark_blocks.specs.TablesAhead.{IsHead}
use Rattle.cmark_blocks.proofs.KeepingSteps.{shows-all}
use Rattle.cmark_blocks.proofs.TableSteps.{begins-table, begins-paragraph}
use Rattle.cmark_blocks.proofs.state.Pass.begin_table_or_text.Goals as goal

pub returns-in-Some-clause-runs : goal.returns-in-Some-clause-runs
returns-in-Some-clause-runs g c =
    let row = row_of c.args.rest in
    let next = row_of c.in-Some.head.delimiter in
    let cs = c.args.self.now.outer.items in
    let all : length cs ≤ c.len.result = omega (arith, c.len.ensures, c.args.self.now.outer.ok.0) in
    on_ok_weaker c.begin_table.result
    (λ begins. λ text options lookup m inside bare runs.
    let ahead = ahead_in text options lookup m.outer (lines_at text row.line_end) in
    let following = ahead_in text options lookup m.outer (lines_at text next.line_end) in
    let head = subst (λ (ms : List model.OpenContainer). IsHead options row (ahead_in text options lookup ms (lines_at text row.line_end)) c.in-Some.head.columns next (ahead_in text options lookup ms (lines_at text next.line_end)))
    (shows-all cs m.outer c.len.result runs.outer all).0 (c.in-Some.ensures.tells text options lookup m runs) in
    subst (λ p. Runs g.E.EntityLookup.replacement text options lookup p c.begin_table.new.self)
    (begins-table text options lookup m inside row ahead bare c.in-Some.head.columns next following head) (begins text options lookup m (suc (count_rows options c.in-Some.head.columns most_filled following)) (next ∷ following) runs head.many))
    c.begin_table.ensures.runs

pub returns-in-None-clause-runs : goal.returns-in-None-clause-runs
returns-in-None-clause-runs g c =
    let row = row_of c.args.rest in
    let cs = c.args.self.now.outer.items in
    let all : length cs ≤ c.len.result = omega (arith, c.len.ensures, c.args.self.now.outer.ok.0) in
    on_ok_weaker c.begin_paragraph.result
    (λ begins. λ text options lookup m inside bare runs.
    let ahead = ahead_in text options lookup m.outer (lines_at text row.line_end) in
    let none = subst (λ (ms : List model.OpenContainer). table_head options row (ahead_in text options lookup ms (lines_at text row.line_end)) ≡ None)
    (shows-all cs m.outer c.len.result runs.outer all).0 (c.in-None.ensures.tells text options lookup m runs) in
    subst (λ p. Runs g.E.EntityLookup.replacement text options lookup p c.begin_paragraph.new.self)
    (begins-paragraph text options lookup m inside row ahead bare none) (begins text options lookup m runs))
    c.begin_paragraph.ensures.runs
