use Rattle.cmark_inline.proofs.EndSteps.{first-read, closing-read, leaf-read}
use Rattle.cmark_inline.proofs.pass_laws.a_leaf_is_read_from_its_begin_to_its_end.Goals as goal

pub returns-clause-first : goal.returns-clause-first
returns-clause-first c = first-read

pub returns-clause-closing : goal.returns-clause-closing
returns-clause-closing c = closing-read

pub returns-clause-end : goal.returns-clause-end
returns-clause-end c = leaf-read
