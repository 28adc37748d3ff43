use Rattle.std.proofs.Common.{ap, ◌∙◌}
use Rattle.cmark_grammar.specs.BlockReading.{Around}
use Rattle.cmark_block_walk.proofs.LongItems.{leaf-texts}
use Rattle.cmark_block_walk.proofs.WalkSteps.{ok-then, tag-around}
use Rattle.cmark_block_walk.proofs.walk.Walk.leaf_tag.Goals as goal

pub glance-requires : goal.glance-requires
glance-requires c = record { below = (c.requires.z, c.requires.above, c.requires.stands); drawn = (c.requires.node, c.requires.drawn) }

pub returns-in-Around : goal.returns-in-Around
returns-in-Around c = λ z above node b d. ap Around c.tag.ensures ∙ c.in-Around.ensures.value z above node b d

pub tag_with_texts-requires-clause-texts : goal.tag_with_texts-requires-clause-texts
tag_with_texts-requires-clause-texts c = leaf-texts c.args.self.now c.args.leaf c.glance.result c.in_default.not-Around c.requires c.glance.ensures.value c.glance.ensures.long

pub returns-in_default : goal.returns-in_default
returns-in_default c = ok-then c.tag_with_texts.result _ _ (λ tag t z above node b d. tag-around _ _ (t z above node b d)) c.tag_with_texts.ensures
