use Rattle.std.proofs.Common.{◌≡◌, map}
use Rattle.cmark_values.specs.Shown.{text_bytes}
use Rattle.cmark_text.proofs.copies.static_texts.Given as goal

abbrev pub invariant-loop-text : goal.invariant-loop-text
invariant-loop-text l = map text_bytes l.made.items ≡ map text_bytes l.yielded
