use Rattle.std.proofs.Common.{rules, refl}
use Rattle.cmark_slots.proofs.Lending.{copy-unlent}
use Rattle.cmark_slots.proofs.text.text_between.Goals as goal

pub returns-in-None-clause-source : goal.returns-in-None-clause-source
returns-in-None-clause-source c = copy-unlent c.copied.result c.args.leaf.now c.args.from c.args.to c.requires.read c.requires.part (c.in-None.ensures.apart refl) (search rules) c.copied.ensures.own
