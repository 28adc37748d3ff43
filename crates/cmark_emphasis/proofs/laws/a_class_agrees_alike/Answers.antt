use Rattle.cmark_emphasis.proofs.Alike.{alike}
use Rattle.cmark_emphasis.proofs.laws.a_class_agrees_alike.Goals as goal

pub returns : goal.returns
returns c = alike
