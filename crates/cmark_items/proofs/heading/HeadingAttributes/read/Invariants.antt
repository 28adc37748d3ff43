use Rattle.std.proofs.Common.{◌≡◌, fold, option_map}
use Rattle.cmark_grammar.specs.Attributes.{words, with_word, no_attributes}
use Rattle.cmark_items.specs.Headings.{shown_heading, str_bytes, words_after}
use Rattle.cmark_items.proofs.HeadingSteps.{left_size}
use Rattle.cmark_items.proofs.heading.HeadingAttributes.read.Given as goal

abbrev pub invariant-loop-rest : goal.invariant-loop-rest
invariant-loop-rest l = fold with_word no_attributes (words l.words) ≡ fold with_word (shown_heading l.read) (words_after (option_map str_bytes l.rest))

abbrev pub decreases-loop-rest : goal.decreases-loop-rest
decreases-loop-rest l = left_size (option_map str_bytes l.rest)
