use Rattle.std.specs.Prelude.{option_map}
use Rattle.std.proofs.Common.{drop, sym, ap, ◌∙◌}
use Rattle.cmark_leaf_text.specs.Reads.{is_cell_of}
use Rattle.cmark_inline.specs.Linked.{inline_link}
use Rattle.cmark_inline.proofs.NoTails.{no_tail}
use Rattle.cmark_inline.proofs.link.inline_target.Goals as goal

pub returns-then-not-opens_tail : goal.returns-then-not-opens_tail
returns-then-not-opens_tail g c = record {
  value = sym (ap (option_map (inline_link (g.E.EntityLookup.replacement c.args.entities.now) (is_cell_of c.args.leaf.now))) (no_tail (drop c.args.at c.args.text.now) (sym c.opens_tail.ensures ∙ c.if-not-opens_tail.true)));
  target = tt;
  resume = tt;
}
