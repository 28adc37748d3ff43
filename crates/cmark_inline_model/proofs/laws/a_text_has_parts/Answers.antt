use Rattle.std.proofs.Common.{refl}
use Rattle.cmark_grammar.specs.Questions.{ByPlan}
use Rattle.cmark_inline_model.proofs.BracketsEnd.{run-ends}
use Rattle.cmark_inline_model.proofs.BracketsSound.{parts-read}
use Rattle.cmark_inline_model.proofs.laws.a_text_has_parts.Goals as goal

pub returns : goal.returns
returns c token decide size forward plan s e = record {
  reads = parts-read token decide (ByPlan plan) plan (λ asked question. refl) size s;
  ends = run-ends token decide plan size forward s e;
}
