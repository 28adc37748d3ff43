use Rattle.std.proofs.lemmas.Result.{on_ok_weaker, on_err_weaker}
use Rattle.cmark_tree.specs.Building.{IsPlaced}
use Rattle.cmark_builder.proofs.BuilderSteps.{at-place, placed-by, either-way}
use Rattle.cmark_tree.proofs.Building.{Is-unchanged}
use Rattle.cmark_builder.proofs.builder.Builder.add.Goals as goal

pub invariant_of-self : goal.invariant_of-self
invariant_of-self c = record {
  placed = placed-by _ c.args.self.now.placed (λ p. either-way c.add.result (IsPlaced c.add.new.self)
      (on_ok_weaker c.add.result (λ ok. at-place _ _ _ (ok p.0 p.1 p.2)) c.add.ensures.ok)
      (on_err_weaker c.add.result (λ same. at-place _ _ _ (Is-unchanged _ _ _ _ same p.2)) c.add.ensures.err));
}
