use Rattle.std.proofs.Common.{◌∙◌, arith, below_more, get_or-set_same, get_or-set_other}
use Rattle.std.proofs.lemmas.Grind.{common_steps}
use Rattle.cmark_search.proofs.Sets.{in_rows-of_table}
use Rattle.cmark_search.proofs.search.AsciiSet.new.Goals as goal

pub loop-low-preserved : goal.loop-low-preserved
loop-low-preserved c = record {
  made = below_more _ _ (λ k h. get_or-set_other c.loop-low.rows c.loop-low.low k _ 0 (omega arith) ∙ c.loop-low.invariant.made k h)
      (get_or-set_same c.loop-low.rows c.loop-low.low _ 0 (let n = c.loop-low.invariant.size in omega arith) ∙ c.row_of.ensures);
  size = let n = c.loop-low.invariant.size in grind (arith, common_steps, n);
}

pub returns : goal.returns
returns c = record { has = λ byte small. in_rows-of_table c.args.table.now c.loop-low.rows (λ low below. c.loop-low.invariant.made low (omega arith)) byte small }
