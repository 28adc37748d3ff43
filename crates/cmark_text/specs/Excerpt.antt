-- The bytes of a part of a text that is passed together with the bytes after it.
use Rattle.std.specs.Prelude.{ℕ, List, take}
use Rattle.cmark_text.specs.declared.excerpt.Excerpt.{Excerpt}

abbrev pub excerpt_bytes : Excerpt → List ℕ
excerpt_bytes excerpt = take excerpt.len excerpt.ahead.now
