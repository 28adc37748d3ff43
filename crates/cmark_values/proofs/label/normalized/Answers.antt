use Rattle.std.proofs.Common.{string_bytes}
use Rattle.std.specs.Str.Iter.{split_ascii_whitespace_text}
use Rattle.cmark_values.proofs.Words.{joined_more, joined_all}
use Rattle.cmark_values.proofs.label.normalized.Goals as goal

pub loop-word-preserved : goal.loop-word-preserved
loop-word-preserved c =
    let step = c.in-Some.ensures.steps in
    let parts = step.3 in
    joined_more c.args.label.now (string_bytes c.loop-word.text) (string_bytes c.push_word.new.text) (split_ascii_whitespace_text c.loop-word.word-iterator)
    parts.0 c.in-Some.word.now parts.1 (split_ascii_whitespace_text c.next.new.self)
    c.loop-word.invariant parts.2 parts.3 step.0 step.1 parts.4 c.in_ok-push_word.ensures.first c.in_ok-push_word.ensures.further

pub returns : goal.returns
returns c = joined_all c.args.label.now (string_bytes c.loop-word.text) (split_ascii_whitespace_text c.loop-word.word-iterator) c.loop-word.invariant c.in-None.ensures.steps.0
