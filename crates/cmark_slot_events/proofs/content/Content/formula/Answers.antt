use Rattle.std.proofs.Common.{rules}
use Rattle.cmark_leaf_text.specs.Reads.{IsPart, source_of, text_of}
use Rattle.cmark_slots.proofs.Lending.{escapes-part, lent-part-of}
use Rattle.cmark_slot_events.proofs.content.Content.formula.Goals as goal

pub returns-then-is_cell-clause-part : goal.returns-then-is_cell-clause-part
returns-then-is_cell-clause-part c =
    let part : IsPart (text_of c.args.self.now.leaf.now) c.args.self.now.from c.args.self.now.to = search rules in
    escapes-part c.without_pipe_escapes.result c.in-Ok.text (source_of c.args.self.now.leaf.now) c.without_pipe_escapes.ensures.own
    (lent-part-of c.in-Ok.text c.args.self.now.leaf.now c.args.self.now.from c.args.self.now.to c.requires.read part c.in-Ok.ensures.source)

pub returns-clause-part : goal.returns-clause-part
returns-clause-part c =
    let part : IsPart (text_of c.args.self.now.leaf.now) c.args.self.now.from c.args.self.now.to = search rules in
    lent-part-of c.in-Ok.text c.args.self.now.leaf.now c.args.self.now.from c.args.self.now.to c.requires.read part c.in-Ok.ensures.source
