use Rattle.cmark_grammar.specs.Questions.{AnyAnswer}
use Rattle.cmark_inline_model.proofs.BracketQuestions.{reads-next}
use Rattle.cmark_inline_model.proofs.laws.answers_become_a_list.Goals as goal

pub returns : goal.returns
returns c token decide recorded all rest s parts t e h = reads-next token decide AnyAnswer recorded all rest s parts t e h
