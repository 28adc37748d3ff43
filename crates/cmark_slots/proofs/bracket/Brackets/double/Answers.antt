use Rattle.std.proofs.Common.{◌<◌, List, sym, subst, arith}
use Rattle.std.proofs.lemmas.List.Elements.{All-push}
use Rattle.cmark_slots.specs.Slots.{AreBrackets, AreFree, IsBracket}
use Rattle.cmark_slots.specs.declared.bracket.Bracket.{Bracket}
use Rattle.cmark_slots.proofs.Steps.{free-push}
use Rattle.cmark_slots.proofs.bracket.Brackets.double.Goals as goal

pub returns-in_ok-push-clause-brackets : goal.returns-in_ok-push-clause-brackets
returns-in_ok-push-clause-brackets c = λ text at bs ds is.
    let first = c.in-Some.ensures.bracket text at bs in
    let a = first.part.some in
    let b = is.part.some in
    let e = c.in-Some.ensures.ends in
    subst (AreBrackets text at) (sym c.in_ok-push.ensures.brackets)
    (All-push (IsBracket text at) c.args.self.now.standing.items _ ds
    (record { part = record { some = (let q : c.in-Some.first.start < c.args.second.inside = omega (arith, a, b, e) in q); within = is.part.within; starts = first.part.starts; ends = is.part.ends }; mark = first.mark; before = is.before }))

pub returns-in_ok-push-clause-free : goal.returns-in_ok-push-clause-free
returns-in_ok-push-clause-free c = λ slots free doubled.
    let ds : List Bracket = c.args.self.now.standing.items in
    subst (AreFree slots c.push.new.self.standing.items) (sym c.push.ensures.inactive_below)
    (free-push slots ds c.push.new.self.standing.items (record c.in-Some.first { inside = c.args.second.inside }) c.args.self.now.inactive_below doubled (c.in-Some.ensures.free slots free) c.in_ok-push.ensures.brackets)
