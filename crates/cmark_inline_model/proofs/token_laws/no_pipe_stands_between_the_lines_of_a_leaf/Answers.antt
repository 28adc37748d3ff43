use Rattle.cmark_inline_model.proofs.LeafGaps.{derived-between, derived-no-pipes}
use Rattle.cmark_inline_model.proofs.token_laws.no_pipe_stands_between_the_lines_of_a_leaf.Goals as goal

pub returns-clause-prefixes : goal.returns-clause-prefixes
returns-clause-prefixes c = derived-between

pub returns-clause-pipes : goal.returns-clause-pipes
returns-clause-pipes c = derived-no-pipes
