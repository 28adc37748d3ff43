use Rattle.cmark_grammar.specs.Questions.{IsNext}
use Rattle.cmark_inline_model.proofs.BracketQuestions.{plan_of, next-plan}
use Rattle.cmark_inline_model.proofs.BracketsOne.{parts-same}
use Rattle.cmark_inline_model.proofs.laws.a_text_has_one_list_of_parts.Goals as goal

pub returns-clause-parts : goal.returns-clause-parts
returns-clause-parts c token decide all s t u first second h k = (parts-same token decide (IsNext all) (plan_of all) (next-plan all) s first second t u h k).0

pub returns-clause-end : goal.returns-clause-end
returns-clause-end c token decide all s t u first second h k = (parts-same token decide (IsNext all) (plan_of all) (next-plan all) s first second t u h k).1
