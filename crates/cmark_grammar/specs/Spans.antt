-- Spans around siblings: emphasis, and the spans of tildes, carets and equals signs (CommonMark 6.2, GFM 6.5). Example: in `*a*` the span
-- reaches from place 0 to place 3.
use Rattle.std.specs.Prelude.{◌≡◌, ◌+◌, ℕ, suc, zero, if◌then◌else◌, Option, Some, None}
use Rattle.cmark_grammar.specs.Options.{Options}
use Rattle.cmark_grammar.specs.Tag.{Tag}
use Rattle.cmark_grammar.specs.Tag as tag

-- the bytes around a span: one or two `*` or `_` on each side, one or two tildes, a caret, or two equals signs
pub data SpanKind : Type 0 where
  Emphasis : SpanKind
  Strong : SpanKind
  SingleTilde : SpanKind
  DoubleTilde : SpanKind
  Caret : SpanKind
  DoubleEquals : SpanKind

-- the number of bytes that open it, and of those that close it
abbrev pub span_width : SpanKind → ℕ
span_width Strong = 2
span_width DoubleTilde = 2
span_width DoubleEquals = 2
span_width _ = 1

-- the element of a span. Two tildes without strikethrough have none: with their content they are one text (this profile's own)
abbrev pub span_tag : Options → SpanKind → Option Tag
span_tag options Emphasis = Some tag.Emphasis
span_tag options Strong = Some tag.Strong
span_tag options SingleTilde = Some (if options.subscript then tag.Subscript else tag.Strikethrough)
span_tag options DoubleTilde = if options.strikethrough then Some tag.Strikethrough else None
span_tag options Caret = Some tag.Superscript
span_tag options DoubleEquals = Some tag.Highlight

-- a span: from the place of the first byte that opens it to the place after the last that closes it
pub record Span : Type 0 where
  pub kind : SpanKind
  pub start : ℕ
  pub end : ℕ

-- siblings with spans around them, in order. Places count the siblings. Each byte of a delimiter run is a sibling, and remains one if it
-- opens and closes nothing
pub data Spans : Type 0 where
  Nil : Spans
  Single : (at : ℕ) → (after : Spans) → Spans
  Around : (span : Span) → (inside after : Spans) → Spans

-- the second after the first
abbrev pub join : Spans → Spans → Spans
join Nil other = other
join (Single at after) other = Single at (join after other)
join (Around span inside after) other = Around span inside (join after other)

-- `count` siblings from a place on, each by itself, and others after them
abbrev pub singles : (at count : ℕ) → Spans → Spans
singles at zero after = after
singles at (suc count) after = Single at (singles (suc at) count after)

-- a span around siblings, from a place on: first the bytes that open it, then the siblings, then the bytes that close it
pub record Surrounds (Inside : ℕ → ℕ → Type 0) (After : ℕ → Type 0) (n : ℕ) (span : Span) : Type 0 where
  pub mid : ℕ
  pub start : span.start ≡ n
  pub inside : Inside (n + span_width span.kind) mid
  pub end : span.end ≡ mid + span_width span.kind
  pub after : After span.end

-- the siblings, with the bytes that open and close spans, fill the places from `n` up to `m`
abbrev pub TakePlaces : ℕ → Spans → ℕ → Type 0
TakePlaces n Nil m = n ≡ m
TakePlaces n (Single at after) m = (at ≡ n) × TakePlaces (suc n) after m
TakePlaces n (Around span inside after) m = Surrounds (λ a b. TakePlaces a inside b) (λ a. TakePlaces a after m) n span
