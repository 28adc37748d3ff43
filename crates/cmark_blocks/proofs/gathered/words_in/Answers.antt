use Rattle.std.proofs.Common.{sym, ap, ◌∙◌}
use Rattle.cmark_grammar.specs.Tokens.{slice}
use Rattle.cmark_blocks.proofs.GatherSteps.{words-slice}
use Rattle.cmark_blocks.proofs.gathered.words_in.Goals as goal

pub returns : goal.returns
returns c =
    let text = c.args.text.now in
    c.range.ensures.value ∙ ap (λ from. slice text from c.content_end.result) c.words_begin.ensures.place ∙ ap (slice text _) c.content_end.ensures.place ∙ sym (words-slice text c.args.rest c.requires.in_text)
