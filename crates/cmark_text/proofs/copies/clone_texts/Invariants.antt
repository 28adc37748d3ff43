use Rattle.std.proofs.Common.{◌≡◌, map, take}
use Rattle.cmark_values.specs.Shown.{text_bytes}
use Rattle.cmark_text.proofs.copies.clone_texts.Given as goal

abbrev pub invariant-loop-text : goal.invariant-loop-text
invariant-loop-text l = map text_bytes l.copies.items ≡ map text_bytes (take l.text-index l.texts)
