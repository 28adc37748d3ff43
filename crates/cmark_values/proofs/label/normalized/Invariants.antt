use Rattle.std.specs.Str.Iter.{split_ascii_whitespace_text}
use Rattle.std.proofs.Common.{string_bytes}
use Rattle.cmark_values.proofs.Words.{Joined}
use Rattle.cmark_values.proofs.label.normalized.Given as goal

abbrev pub invariant-loop-word : goal.invariant-loop-word
invariant-loop-word l = Joined l.label (string_bytes l.text) (split_ascii_whitespace_text l.word-iterator)
