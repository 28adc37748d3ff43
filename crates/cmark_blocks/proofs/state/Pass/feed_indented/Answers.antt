use Rattle.std.proofs.lemmas.Result.{on_ok_weaker}
use Rattle.std.proofs.Common.{[], map, sym, ap, ◌∙◌, subst}
use Rattle.cmark_line_rules.specs.Rests.{row_of}
use Rattle.cmark_line_rules.specs.Continuations.{shown_continuation}
use Rattle.cmark_leaf_nodes.specs.Stretches.{shown_waits}
use Rattle.cmark_blocks.specs.Ahead.{lines_at}
use Rattle.cmark_blocks.specs.Runs.{Runs, ShowsLeaf}
use Rattle.cmark_blocks.proofs.IndentedSteps.{indented-stops}
use Rattle.cmark_blocks.proofs.state.Pass.feed_indented.Goals as goal

pub add_to_indented-requires-clause-goes_on : goal.add_to_indented-requires-clause-goes_on
add_to_indented-requires-clause-goes_on g c = sym (c.continuation.ensures []) ∙ ap shown_continuation c.in-GoesOn.is

pub keep_blank_line-requires-clause-waits : goal.keep_blank_line-requires-clause-waits
keep_blank_line-requires-clause-waits g c = sym (c.continuation.ensures []) ∙ ap shown_continuation c.in-Waits.is

pub returns-in-Closes-clause-runs : goal.returns-in-Closes-clause-runs
returns-in-Closes-clause-runs g c =
    on_ok_weaker c.begin_anew.result
    (λ ran. λ text options lookup m runs.
    let before = c.args.self.now in
    let row = row_of c.args.rest in
    let is = subst (λ l. ShowsLeaf text l before.blank_lines.items m.leaf) c.requires.is runs.leaf in
    subst (λ p. Runs g.E.EntityLookup.replacement text options lookup p c.begin_anew.new.self)
    (sym (indented-stops text options lookup row (lines_at text row.line_end) m (shown_waits text c.args.waits) c.args.end (map row_of before.blank_lines.items) is c.continuation.result (c.continuation.ensures []) c.in-Closes.is))
    (ran text options lookup m runs))
    c.begin_anew.ensures.runs
