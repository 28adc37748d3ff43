use Rattle.std.proofs.lemmas.Result.{on_ok_weaker, on_err_weaker}
use Rattle.cmark_tree.specs.Building.{IsPlaced}
use Rattle.cmark_builder.proofs.BuilderSteps.{at-place, placed-by, placed-either, either-way}
use Rattle.cmark_builder.proofs.builder.Builder.open.Goals as goal

pub invariant_of-self : goal.invariant_of-self
invariant_of-self c = record {
  placed = placed-by _ c.args.self.now.placed (λ p. either-way c.open.result (IsPlaced c.open.new.self)
      (on_ok_weaker c.open.result (λ ok. at-place _ _ _ (ok p.0 p.1 p.2)) c.open.ensures.ok)
      (on_err_weaker c.open.result (λ either. placed-either _ _ _ _ (either p.0 p.1 p.2)) c.open.ensures.err));
}
