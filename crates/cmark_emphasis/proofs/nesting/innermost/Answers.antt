use Rattle.cmark_emphasis.proofs.InnermostKinds.{first_tilde, first_caret, first_equals, first_emphasis}
use Rattle.cmark_emphasis.proofs.nesting.innermost.Goals as goal

pub returns-then-delimiter-eq126-clause-kinds : goal.returns-then-delimiter-eq126-clause-kinds
returns-then-delimiter-eq126-clause-kinds c = first_tilde _ _ _ c.if-delimiter-eq126.true c.innermost_tilde.ensures.kinds

pub returns-then-delimiter-eq94-clause-kinds : goal.returns-then-delimiter-eq94-clause-kinds
returns-then-delimiter-eq94-clause-kinds c = first_caret _ _ c.if-delimiter-eq126.false c.if-delimiter-eq94.true c.requires

pub returns-then-delimiter-eq61-clause-kinds : goal.returns-then-delimiter-eq61-clause-kinds
returns-then-delimiter-eq61-clause-kinds c = first_equals _ _ _ c.if-delimiter-eq126.false c.if-delimiter-eq94.false c.if-delimiter-eq61.true c.innermost_equals.ensures.kinds

pub returns-clause-kinds : goal.returns-clause-kinds
returns-clause-kinds c = first_emphasis _ _ _ c.if-delimiter-eq126.false c.if-delimiter-eq94.false c.if-delimiter-eq61.false c.innermost_emphasis.ensures.kinds
