use Rattle.std.proofs.Common.{drop, ap, ◌∙◌, arith}
use Rattle.std.proofs.lemmas.Grind.{common_steps}
use Rattle.cmark_scan_bytes.proofs.Lists.{rest_of}
use Rattle.cmark_span_scan.proofs.CodeSteps.{code_places}
use Rattle.cmark_span_scan.proofs.FirstRun.{closes_first}
use Rattle.cmark_span_scan.proofs.Visited.{found-few, found-less, none-few}
use Rattle.cmark_span_scan.proofs.code.code_span.Goals as goal

pub returns-clause-places : goal.returns-clause-places
returns-clause-places c =
    let rest = rest_of c.as_bytes.result.now c.args.at ∙ ap (drop c.args.at) c.as_bytes.ensures.value in
    code_places c.args.text.now _ _ c.args.at c.backticks-size.result c.in_ok-content.content c.utf8.text rest c.backticks-size.ensures.value c.if-size-eq0.false (rest_of _ c.backticks-size.result)
    c.in_ok-content.ensures.within c.in_ok-content.ensures.run

pub returns-clause-first : goal.returns-clause-first
returns-clause-first c =
    let rest = rest_of c.as_bytes.result.now c.args.at ∙ ap (drop c.args.at) c.as_bytes.ensures.value in
    closes_first c.args.text.now _ _ c.args.at c.backticks-size.result c.in_ok-content.content rest c.backticks-size.ensures.value c.if-size-eq0.false (rest_of _ c.backticks-size.result) c.in_ok-content.ensures.within
    c.in_ok-content.ensures.value

pub returns-clause-value : goal.returns-clause-value
returns-clause-value c = grind (arith, common_steps)

pub returns-in_err-content-clause-value : goal.returns-in_err-content-clause-value
returns-in_err-content-clause-value c = grind (arith, common_steps)

pub returns-in_err-content-clause-few : goal.returns-in_err-content-clause-few
returns-in_err-content-clause-few c =
    let rest = rest_of c.as_bytes.result.now c.args.at ∙ ap (drop c.args.at) c.as_bytes.ensures.value in
    none-few c.args.text.now _ _ c.args.at c.backticks-size.result rest (rest_of _ c.backticks-size.result) c.backticks-size.ensures.value c.if-size-eq0.false c.args.visited.now c.find_run.new.visited c.in_err-content.ensures.counts

pub returns-clause-few : goal.returns-clause-few
returns-clause-few c =
    let rest = rest_of c.as_bytes.result.now c.args.at ∙ ap (drop c.args.at) c.as_bytes.ensures.value in
    found-few c.args.text.now _ _ c.args.at c.backticks-size.result rest (rest_of _ c.backticks-size.result) c.backticks-size.ensures.value c.if-size-eq0.false c.args.visited.now c.find_run.new.visited c.in_ok-content.content
    c.in_ok-content.ensures.counts c.in_ok-content.ensures.within c.in_ok-content.ensures.run

pub returns-clause-found : goal.returns-clause-found
returns-clause-found c =
    let rest = rest_of c.as_bytes.result.now c.args.at ∙ ap (drop c.args.at) c.as_bytes.ensures.value in
    found-less c.args.text.now _ _ c.args.at c.backticks-size.result rest (rest_of _ c.backticks-size.result) c.backticks-size.ensures.value c.if-size-eq0.false c.args.visited.now c.find_run.new.visited c.in_ok-content.content
    c.in_ok-content.ensures.counts c.in_ok-content.ensures.within c.in_ok-content.ensures.run
