use Rattle.std.proofs.Common.{rules, ap, ◌∙◌}
use Rattle.cmark_grammar.specs.InlineHtml.{takes_lines}
use Rattle.cmark_leaf_text.specs.Reads.{IsPart, text_of}
use Rattle.cmark_slots.proofs.Lending.{code-part}
use Rattle.cmark_slot_events.proofs.content.Content.code.Goals as goal

pub returns-in-Some-clause-part : goal.returns-in-Some-clause-part
returns-in-Some-clause-part c =
    let part : IsPart (text_of c.args.self.now.leaf.now) c.args.self.now.from c.args.self.now.to = search rules in
    code-part c.code_text.result c.in-Some.content.now c.args.self.now.leaf.now c.args.self.now.from c.args.self.now.to c.requires.read part c.in-Some.ensures.source c.code_text.ensures.part

pub returns-in-Some-clause-lent : goal.returns-in-Some-clause-lent
returns-in-Some-clause-lent c = λ same none plain. c.code_text.ensures.lent (ap takes_lines c.in-Some.ensures.text ∙ none)
