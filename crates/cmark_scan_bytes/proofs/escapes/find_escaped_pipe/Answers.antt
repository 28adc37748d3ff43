use Rattle.std.proofs.Common.{ℕ, List, subst}
use Rattle.memchr.specs.Find.{FindsNeedle}
use Rattle.cmark_grammar.specs.Unescaped.{escaped_pipe}
use Rattle.cmark_scan_bytes.proofs.escapes.find_escaped_pipe.Goals as goal

pub returns : goal.returns
returns c = subst (λ (l : List ℕ). FindsNeedle l escaped_pipe 0 c.find.result) c.as_bytes.ensures.value c.find.ensures
