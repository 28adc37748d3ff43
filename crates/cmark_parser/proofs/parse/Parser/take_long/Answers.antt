use Rattle.std.proofs.Common.{refl}
use Rattle.cmark_parser.specs.Parsing.{reader_for}
use Rattle.cmark_parser.proofs.ParseSteps.{SaysIfAny, gives-taken, going, read-by}
use Rattle.cmark_event_walk.proofs.Readings.{passes-none}
use Rattle.cmark_event_walk.proofs.StopSteps.{stops-here}
use Rattle.cmark_parser.proofs.parse.Parser.take_long.Goals as goal

pub take_long-given-requires : goal.take_long-given-requires
take_long-given-requires g c κs = ((refl, tt), (going g.E.EntityLookup.replacement c.args.self.now c.requires.long.going c.requires.goes, c.requires.long.long))

pub returns-clause-gives : goal.returns-clause-gives
returns-clause-gives g c =
    let Says = SaysIfAny g.F.BrokenLinkCallback.answers in
    let replacement = g.E.EntityLookup.replacement in
    let old = c.args.self.now in
    let reader = reader_for replacement old in
    let going = c.requires.long.going in
    let read = read-by replacement old going c.requires.goes in
    let e = c.take_long-given.ensures in
    gives-taken g.F.BrokenLinkCallback.answers replacement old _ c.take_long-given.result going c.is_err-self.ensures.value e.keeps.source e.keeps.definitions e.keeps.footnotes e.keeps.counted (e.given reader read) e.lent e.fewer e.ends
    (stops-here Says replacement reader old.spans old.spans _ (passes-none Says replacement reader old.spans read) e.callback)
