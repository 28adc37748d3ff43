use Rattle.cmark_grammar.specs.Questions.{AnyAnswer}
use Rattle.cmark_inline_model.proofs.BracketQuestions.{reads-add}
use Rattle.cmark_inline_model.proofs.laws.questions_only_grow.Goals as goal

pub returns : goal.returns
returns c token decide recorded s parts t h = reads-add token decide AnyAnswer recorded s parts t h
