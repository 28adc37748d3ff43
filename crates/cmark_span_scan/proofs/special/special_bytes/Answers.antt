use Rattle.std.proofs.Common.{◌≡◌, false, refl, sym, ap, ◌∙◌, arith, drop}
use Rattle.std.proofs.lemmas.List.{get_or-replicate}
use Rattle.std.proofs.lemmas.Grind.{common_steps}
use Rattle.cmark_inline_model.specs.SpecialBytes.{is_one_of}
use Rattle.cmark_values.specs.Shown.{shown_options}
use Rattle.cmark_span_scan.proofs.SpecialSteps.{marked, may_be_special, plain_is_not_special}
use Rattle.cmark_span_scan.proofs.special.special_bytes.Goals as goal

pub loop-byte-init : goal.loop-byte-init
loop-byte-init c = record {
  done = λ k h e. get_or-replicate 256 k false false h ∙ sym (plain_is_not_special (shown_options c.args.options) k e);
  size = refl;
}

pub loop-byte-preserved : goal.loop-byte-preserved
loop-byte-preserved c = record {
  done = λ k h. marked (shown_options c.args.options) c.loop-byte.table c.loop-byte.byte-index k c.is_special.result c.loop-byte-test.true c.loop-byte.invariant.size c.is_special.ensures (c.loop-byte.invariant.done k h);
  size = let n = c.loop-byte.invariant.size in grind (arith, common_steps, n);
}

pub returns : goal.returns
returns c = λ k h. c.loop-byte.invariant.done k h (ap (λ n. is_one_of (drop n may_be_special) k) (let at : c.loop-byte.byte-index ≡ 22 = omega (arith, c.loop-byte-test.false, c.loop-byte.auto.byte-index-end) in at))
