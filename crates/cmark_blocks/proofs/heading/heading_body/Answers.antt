use Rattle.std.proofs.Common.{refl, ap}
use Rattle.cmark_builder.proofs.DrawnSteps.{draws-text}
use Rattle.cmark_blocks.proofs.heading.heading_body.Goals as goal

pub returns-clause-drawn : goal.returns-clause-drawn
returns-clause-drawn c =
    λ text d draws. draws-text text c.args.builder.now _ _ d refl (ap (λ t. t.texts) c.in_ok-index.ensures.kept) draws
