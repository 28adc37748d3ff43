use Rattle.std.proofs.Common.{refl}
use Rattle.cmark_parser.specs.Parsing.{reader_for}
use Rattle.cmark_parser.proofs.ParseSteps.{SaysIfAny, gives-error, gives-next-start, going, link-going, link-walked, read-by}
use Rattle.cmark_event_walk.proofs.Readings.{passes-none}
use Rattle.cmark_event_walk.proofs.StopSteps.{stops-here}
use Rattle.cmark_parser.proofs.parse.Parser.pass_link.Goals as goal

pub pass_link-requires : goal.pass_link-requires
pass_link-requires g c κs =
    let old = c.args.self.now in
    ((refl, tt), (going g.E.EntityLookup.replacement old (link-going old c.requires.ahead) c.requires.goes, link-walked old c.requires.ahead))

pub returns-in-Ok-clause-gives : goal.returns-in-Ok-clause-gives
returns-in-Ok-clause-gives g c =
    let replacement = g.E.EntityLookup.replacement in
    let old = c.args.self.now in
    let going = link-going old c.requires.ahead in
    let e = c.in-Ok.ensures in
    gives-next-start g.F.BrokenLinkCallback.answers replacement old _ going e.keeps.source e.keeps.definitions e.keeps.footnotes e.keeps.counted going (e.given (reader_for replacement old) (read-by replacement old going c.requires.goes)) e.fewer

pub returns-in-Err-clause-gives : goal.returns-in-Err-clause-gives
returns-in-Err-clause-gives g c =
    let Says = SaysIfAny g.F.BrokenLinkCallback.answers in
    let replacement = g.E.EntityLookup.replacement in
    let old = c.args.self.now in
    let reader = reader_for replacement old in
    let going = link-going old c.requires.ahead in
    let e = c.in-Err.ensures in
    gives-error g.F.BrokenLinkCallback.answers replacement old _ c.in-Err.error going refl e.ends
    (stops-here Says replacement reader old.spans old.spans _ (passes-none Says replacement reader old.spans (read-by replacement old going c.requires.goes)) e.callback) e.keeps.source e.keeps.definitions e.keeps.footnotes e.keeps.counted
