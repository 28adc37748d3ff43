use Rattle.cmark_inline.proofs.LeafPlaces.{leaf-places, leaf-bytes}
use Rattle.cmark_inline.proofs.laws.a_leaf_text_is_a_leaf_of_the_grammar.Goals as goal

pub returns-clause-places : goal.returns-clause-places
returns-clause-places c = leaf-places

pub returns-clause-bytes : goal.returns-clause-bytes
returns-clause-bytes c = leaf-bytes
