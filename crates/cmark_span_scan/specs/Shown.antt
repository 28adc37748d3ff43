-- The meaning of the structs of the code.
use Rattle.std.specs.Prelude.{◌≡◌, ◌≢◌, ◌<◌, ◌≤◌, ◌+◌, ◌-◌, ℕ, false, List, drop, get_or}
use Rattle.std.specs.Str.{IsCharBoundary}
use Rattle.cmark_grammar.specs.CodeSpans.{is_backtick, backticks}
use Rattle.cmark_grammar.specs.LinkDefinitions.{Parsed}
use Rattle.cmark_grammar.specs.Tokens.{slice}
use Rattle.cmark_span_scan.specs.declared.code.CodeSpan.{CodeSpan}

-- the content of a code span of a text, and the text after it
abbrev pub shown_code : (text : List ℕ) → CodeSpan → Parsed
shown_code text span = record { bytes = slice text span.content_start span.content_end; following = drop span.end text }

-- a code span whose opening run is at this offset: its runs have equal lengths, and begin and end at character boundaries
pub record IsCodeAt (text : List ℕ) (at : ℕ) (span : CodeSpan) : Type 0 where
  pub opens : span.content_start ≡ at + backticks (drop at text)
  pub ordered : span.content_start ≤ span.content_end
  pub closes : span.end ≡ span.content_end + backticks (drop at text)
  pub starts : IsCharBoundary text span.content_start
  pub stops : IsCharBoundary text span.content_end
  pub ends : IsCharBoundary text span.end

-- its closing run is the first of its length after the opening one: a run begins there, and no earlier one has that length
pub record ClosesFirst (text : List ℕ) (at : ℕ) (span : CodeSpan) : Type 0 where
  pub begins : is_backtick (get_or text (span.content_end - 1) 0) ≡ false
  pub whole : backticks (drop span.content_end text) ≡ backticks (drop at text)
  pub first : (k : ℕ) → span.content_start ≤ k → k < span.content_end → is_backtick (get_or text (k - 1) 0) ≡ false → backticks (drop k text) ≢ backticks (drop at text)
