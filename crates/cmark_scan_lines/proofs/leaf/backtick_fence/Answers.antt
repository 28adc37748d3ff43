use Rattle.std.proofs.Common.{sym, ◌∙◌, arith}
use Rattle.std.proofs.lemmas.Grind.{common_steps}
use Rattle.cmark_scan_bytes.proofs.Lists.{rest_of}
use Rattle.cmark_scan_lines.proofs.LeafSteps.{backticks-found}
use Rattle.cmark_scan_lines.proofs.leaf.backtick_fence.Goals as goal

pub returns-clause-fence : goal.returns-clause-fence
returns-clause-fence c indent =
    let line = c.args.line.now in
    let fence = c.in_ok-fence.fence in
    c.in_ok-fence.ensures.fence indent
    ∙ backticks-found indent line fence.run_length _ c.memchr.result c.in_ok-fence.ensures.run_length (rest_of line fence.run_length) c.memchr.ensures (sym c.is_some.ensures ∙ c.if-is_some.false)

pub returns-then-is_some-clause-fence : goal.returns-then-is_some-clause-fence
returns-then-is_some-clause-fence c = grind (arith, common_steps)
