use Rattle.std.proofs.Common.{ℕ, ◌-◌, List, Result, Ok, rules, take}
use Rattle.std.proofs.lemmas.Option.{IfSome_then}
use Rattle.cmark_leaf_text.specs.Reads.{IsPart, text_of}
use Rattle.cmark_values.specs.declared.text.CowStr.{CowStr}
use Rattle.cmark_values.specs.declared.text.CowStr.TheVariants.{Borrowed}
use Rattle.cmark_slots.proofs.Lending.{code-part}
use Rattle.cmark_slot_events.proofs.short.code_in.Goals as goal

pub returns-in-Some-clause-part : goal.returns-in-Some-clause-part
returns-in-Some-clause-part c =
    let to : ℕ = c.before_backticks-to.result in
    let part : IsPart (text_of c.args.leaf.now) c.args.from to = search rules in
    let content : List ℕ = take (to - c.args.from) c.in-Some.ahead.now in
    IfSome_then c.code_part.result c.code_part.ensures.part
    (λ made is. let code : Result CowStr ℕ = Ok (Borrowed made) in code-part code content c.args.leaf.now c.args.from to c.requires.read part c.in-Some.ensures.source is)
