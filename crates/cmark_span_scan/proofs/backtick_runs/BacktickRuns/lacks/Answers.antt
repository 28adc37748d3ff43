use Rattle.std.proofs.Common.{◌≤◌, ◌≢◌, ◌∙◌, ap, sym, subst, drop, None, arith}
use Rattle.std.specs.Prelude.{IfSome}
use Rattle.std.proofs.lemmas.Bool.{leb-false, leb-true}
use Rattle.std.proofs.lemmas.List.{get_or_default}
use Rattle.cmark_scan_bytes.proofs.Lists.{rest_of}
use Rattle.cmark_grammar.specs.CodeSpans.{backticks, code_in}
use Rattle.cmark_span_scan.specs.Backticks.{AreRunsFrom}
use Rattle.cmark_span_scan.proofs.Listed.{lacking}
use Rattle.cmark_span_scan.proofs.Visited.{closes-later}
use Rattle.cmark_span_scan.proofs.backtick_runs.BacktickRuns.lacks.Goals as goal

pub returns-then-size-len-clause-value : goal.returns-then-size-len-clause-value
returns-then-size-len-clause-value c = λ yes.
    lacking c.args.text.now c.args.self.now.last.items c.in-Some.from c.args.at ((subst (λ o. IfSome o (λ from. AreRunsFrom c.args.text.now c.args.self.now.last.items from)) c.in-Some.is c.requires.runs)).listed c.if-at-from.false c.backticks-size.result
    (c.backticks-size.ensures.value ∙ ap backticks (rest_of c.as_bytes.result.now c.args.at ∙ ap (drop c.args.at) c.as_bytes.ensures.value))
    (λ lt. let le = leb-true c.len.result c.backticks-size.result yes in absurd (omega (arith, lt, le, c.len.ensures, c.args.self.now.last.ok.0)))

pub returns-else-size-len-clause-value : goal.returns-else-size-len-clause-value
returns-else-size-len-clause-value c = λ yes.
    lacking c.args.text.now c.args.self.now.last.items c.in-Some.from c.args.at ((subst (λ o. IfSome o (λ from. AreRunsFrom c.args.text.now c.args.self.now.last.items from)) c.in-Some.is c.requires.runs)).listed c.if-at-from.false c.backticks-size.result
    (c.backticks-size.ensures.value ∙ ap backticks (rest_of c.as_bytes.result.now c.args.at ∙ ap (drop c.args.at) c.as_bytes.ensures.value))
    (λ lt. let le = leb-true c.index.result.now c.args.at yes in subst (λ n. n ≤ c.args.at) (c.index.ensures ∙ get_or_default c.args.self.now.last.items c.backticks-size.result c.index.result.now 0 lt) le)

pub returns-else-size-len-clause-closes : goal.returns-else-size-len-clause-closes
returns-else-size-len-clause-closes c = λ no.
    let is = c.backticks-size.ensures.value ∙ ap backticks (rest_of c.as_bytes.result.now c.args.at ∙ ap (drop c.args.at) c.as_bytes.ensures.value) in
    let entry = c.index.ensures ∙ get_or_default c.args.self.now.last.items c.backticks-size.result c.index.result.now 0 (omega (arith, c.if-size-len.false, c.len.ensures, c.args.self.now.last.ok.0)) in
    let later = leb-false c.index.result.now c.args.at no in
    subst (λ o. IfSome o (λ from. from ≤ c.args.at → code_in (drop c.args.at c.args.text.now) ≢ None)) (sym c.in-Some.is)
    (λ low. closes-later c.args.text.now c.args.self.now.last.items c.in-Some.from c.args.at c.backticks-size.result (subst (λ o. IfSome o (λ from. AreRunsFrom c.args.text.now c.args.self.now.last.items from)) c.in-Some.is c.requires.runs).real is low (omega (arith, later, entry)))
