use Rattle.std.proofs.Common.{◌≡◌, suc, ◌-◌, ◌<◌, true, length, Some, refl, sym, ap, ◌∙◌, subst, arith}
use Rattle.std.specs.Prelude.{min, slice_get}
use Rattle.std.proofs.lemmas.Option.{slice_get_read}
use Rattle.cmark_blocks.specs.EmptyLines.{keeps_empty, KeepEmptyFrom}
use Rattle.cmark_blocks.proofs.EmptySteps.{keep-earlier, keep-least}
use Rattle.cmark_blocks.proofs.containers.strict_count.Goals as goal

pub loop-count-init : goal.loop-count-init
loop-count-init c =
    let cs = c.args.outer.now.items in
    let len : c.len.result ≡ length cs = omega (arith, c.len.ensures, c.args.outer.now.ok.0) in
    let is : c.min-count.result ≡ min c.args.strict (length cs) = c.min-count.ensures ∙ ap (min c.args.strict) len in
    keep-least cs c.args.strict c.min-count.result is c.requires

pub loop-count-preserved : goal.loop-count-preserved
loop-count-preserved c =
    let cs = c.args.outer.now.items in
    let k = c.loop-count.count - 1 in
    let next : c.loop-count.count ≡ suc k = omega (arith, c.loop-count-test.true) in
    let within : k < length cs = omega (arith, next, c.loop-count.invariant.1) in
    let there : slice_get cs k ≡ Some c.index.result.now = slice_get_read cs (length cs) k c.index.result.now refl within c.index.ensures in
    let keeps : keeps_empty c.index.result.now.container ≡ true = sym c.keeps_empty.ensures ∙ c.if-not-keeps_empty.false in
    (keep-earlier cs k c.index.result.now there keeps (subst (λ n. KeepEmptyFrom n cs) next c.loop-count.invariant.0), omega (arith, within))
