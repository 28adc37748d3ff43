use Rattle.cmark_inline.proofs.markup.tag.Goals as goal

pub returns-clause-edge : goal.returns-clause-edge
returns-clause-edge c = λ end e. let z : ⊥ = cc in z
