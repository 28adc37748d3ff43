use Rattle.cmark_grammar.specs.Questions.{IsNext}
use Rattle.cmark_inline_model.proofs.FirstEvents.{leaf-first, leaf-none, leaf-same, leaf-some}
use Rattle.cmark_inline_model.proofs.first_laws.a_leaf_with_a_byte_has_an_event.Goals as goal

pub returns-clause-some : goal.returns-clause-some
returns-clause-some c reader exchanges leaf before events after turn reads some = leaf-some reader (IsNext exchanges) leaf before events after turn some reads

pub returns-clause-none : goal.returns-clause-none
returns-clause-none c reader exchanges leaf before events after turn reads none = leaf-none reader (IsNext exchanges) leaf before events after turn none reads

pub returns-clause-same : goal.returns-clause-same
returns-clause-same c reader exchanges leaf before events after turn reads none = leaf-same reader (IsNext exchanges) leaf before events after turn none reads

pub returns-clause-first : goal.returns-clause-first
returns-clause-first c reader exchanges leaf before events after reads = leaf-first reader (IsNext exchanges) leaf before events after reads
