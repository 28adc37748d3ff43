use Rattle.std.proofs.Common.{◌-◌, length, take, drop, map, sym, ap, ◌∙◌, arith, length-drop}
use Rattle.cmark_grammar.specs.HtmlBlocks.{lower}
use Rattle.cmark_scan_lines.specs.HtmlLines.{ends_raw, closes_raw}
use Rattle.cmark_scan_bytes.proofs.Lists.{rest_of}
use Rattle.cmark_scan_lines.proofs.FirstSteps.{none-before, first-within, none-at-all}
use Rattle.cmark_scan_lines.proofs.HtmlSteps.{ends-skip, ends-none, ends-here, ends-next}
use Rattle.cmark_scan_lines.proofs.html_block.ends_raw.Goals as goal

pub returns-then-closes_raw : goal.returns-then-closes_raw
returns-then-closes_raw c =
    let rest = c.loop-at.rest.now in
    let at = c.in-Some.at in
    let within = first-within 60 rest at c.in-Some.ensures in
    ends-here (drop at rest) (let l = length-drop at rest in omega arith) (ap (λ l. closes_raw (map lower l)) (sym (rest_of rest at)) ∙ sym c.closes_raw.ensures ∙ c.if-closes_raw.true)
    ∙ ends-skip rest at (omega arith) (none-before 60 rest at c.in-Some.ensures) ∙ c.loop-at.invariant

pub loop-at-preserved : goal.loop-at-preserved
loop-at-preserved c =
    let rest = c.loop-at.rest.now in
    let at = c.in-Some.at in
    let within = first-within 60 rest at c.in-Some.ensures in
    ap (λ l. ends_raw (map lower l)) (rest_of (take (length rest - at) (drop at rest)) 1 ∙ ap (drop 1) (rest_of rest at))
    ∙ ends-next (drop at rest) (let l = length-drop at rest in omega arith) (ap (λ l. closes_raw (map lower l)) (sym (rest_of rest at)) ∙ sym c.closes_raw.ensures ∙ c.if-closes_raw.false)
    ∙ ends-skip rest at (omega arith) (none-before 60 rest at c.in-Some.ensures) ∙ c.loop-at.invariant

pub returns : goal.returns
returns c = ends-none c.loop-at.rest.now (none-at-all 60 c.loop-at.rest.now c.in_default.ensures) ∙ c.loop-at.invariant
