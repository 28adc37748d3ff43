use Rattle.std.proofs.Common.{refl, sym, ◌∙◌}
use Rattle.std.proofs.lemmas.Result.{on_err_weaker}
use Rattle.cmark_parser.specs.Parsing.{reader_for}
use Rattle.cmark_parser.proofs.ItemSteps.{comes-long}
use Rattle.cmark_parser.proofs.ParseSteps.{gives-or-err, gives-over, going, read-by}
use Rattle.cmark_parser.proofs.parse.Parser.step.Goals as goal

pub step-given-requires : goal.step-given-requires
step-given-requires g c κs = ((refl, tt), (going g.E.EntityLookup.replacement c.args.self.now c.if-not-self.true c.requires.goes, c.requires.ready))

pub returns-then-is_last-clause-gives : goal.returns-then-is_last-clause-gives
returns-then-is_last-clause-gives g c =
    let replacement = g.E.EntityLookup.replacement in
    let old = c.args.self.now in
    let e = c.step-given.ensures in
    gives-or-err g.F.BrokenLinkCallback.answers replacement old _ c.if-not-self.true e.keeps.source e.keeps.definitions e.keeps.footnotes e.keeps.counted c.step-given.result (sym c.if-is_last.true ∙ c.is_last.ensures)
    (e.given (reader_for replacement old) (read-by replacement old c.if-not-self.true c.requires.goes)) e.fewer (on_err_weaker c.step-given.result (λ r. r.ends) e.refused) (on_err_weaker c.step-given.result (λ r. r.stops (reader_for replacement old) (read-by replacement old c.if-not-self.true c.requires.goes)) e.refused)

pub returns-else-is_last-clause-gives : goal.returns-else-is_last-clause-gives
returns-else-is_last-clause-gives g c =
    let replacement = g.E.EntityLookup.replacement in
    let old = c.args.self.now in
    let e = c.step-given.ensures in
    gives-or-err g.F.BrokenLinkCallback.answers replacement old _ c.if-not-self.true e.keeps.source e.keeps.definitions e.keeps.footnotes e.keeps.counted c.step-given.result (c.if-not-self.true ∙ sym c.if-is_last.false ∙ c.is_last.ensures)
    (e.given (reader_for replacement old) (read-by replacement old c.if-not-self.true c.requires.goes)) e.fewer (on_err_weaker c.step-given.result (λ r. r.ends) e.refused) (on_err_weaker c.step-given.result (λ r. r.stops (reader_for replacement old) (read-by replacement old c.if-not-self.true c.requires.goes)) e.refused)

pub returns-clause-gives : goal.returns-clause-gives
returns-clause-gives g c = gives-over g.F.BrokenLinkCallback.answers g.E.EntityLookup.replacement c.args.self.now c.if-not-self.false c.requires.goes.counted

pub returns-then-is_last-clause-long : goal.returns-then-is_last-clause-long
returns-then-is_last-clause-long g c = comes-long g.E.EntityLookup.replacement c.args.self.now _ c.if-not-self.true c.step-given.result (sym c.if-is_last.true ∙ c.is_last.ensures) c.step-given.ensures.long

pub returns-else-is_last-clause-long : goal.returns-else-is_last-clause-long
returns-else-is_last-clause-long g c = comes-long g.E.EntityLookup.replacement c.args.self.now _ c.if-not-self.true c.step-given.result (c.if-not-self.true ∙ sym c.if-is_last.false ∙ c.is_last.ensures) c.step-given.ensures.long
