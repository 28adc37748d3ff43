use Rattle.std.specs.Prelude.{◌≡◌}
use Rattle.std.specs.Str.Iter.{split_ascii_whitespace_text}
use Rattle.cmark_grammar.specs.Labels.{words}
use Rattle.cmark_safe.specs.Schemes.{is_one_of}
use Rattle.cmark_safe.proofs.scheme.is_word_of.Given as goal

abbrev pub invariant-loop-word : goal.invariant-loop-word
invariant-loop-word l = is_one_of (words (split_ascii_whitespace_text l.word-iterator)) l.name ≡ is_one_of (words l.list) l.name
