use Rattle.cmark_html.proofs.WordSteps.{word_found, word_all}
use Rattle.cmark_html.proofs.start.first_word.Goals as goal

pub returns-in-Some : goal.returns-in-Some
returns-in-Some c = word_found c.args.text.now c.as_bytes.result.now _ c.in-Some.end c.as_bytes.ensures.value c.range.ensures.value c.in-Some.ensures

pub returns-in-None : goal.returns-in-None
returns-in-None c = word_all c.args.text.now c.as_bytes.result.now c.as_bytes.ensures.value c.in-None.ensures
