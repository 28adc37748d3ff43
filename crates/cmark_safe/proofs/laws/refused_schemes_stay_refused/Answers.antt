use Rattle.cmark_safe.proofs.SafeLaw.{refused_schemes_stay}
use Rattle.cmark_safe.proofs.laws.refused_schemes_stay_refused.Goals as goal

pub returns : goal.returns
returns c = refused_schemes_stay
