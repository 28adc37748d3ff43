-- The meaning of structs.
use Rattle.cmark_grammar.specs.InlineHtml.{Find}
use Rattle.std.specs.Prelude.{ℕ, List, ◌+◌, ◌-◌, ◌<◌, ◌≤◌, ◌≡◌, slice_index, suc, length, Option, option_map}
use Rattle.cmark_grammar.specs.LinkDefinitions.{Parsed}
use Rattle.cmark_scan_bytes.specs.declared.link.Cut.{Cut}
use Rattle.cmark_values.specs.Shown.{text_bytes}
use Rattle.cmark_grammar.specs.Tokens as tokens
use Rattle.cmark_scan_bytes.specs.declared.entity.Entity.{Entity}
use Rattle.cmark_scan_bytes.specs.declared.inline_html.HtmlFind.{HtmlFind}

abbrev pub shown_find : HtmlFind → Find
shown_find find = record { end = find.end; passed = find.passed }

-- a part of a text, and the place after its closer
pub record Part : Type 0 where
  pub end : ℕ
  pub bytes : List ℕ

abbrev pub shown_cut : Cut → Part
shown_cut closed = record { end = closed.end; bytes = closed.part.now }

-- the part found from a place on, with a closer of one byte
abbrev pub cut_at : (start : ℕ) → Option Parsed → Option Part
cut_at start found = option_map (λ f. record { end = start + suc (length f.bytes); bytes = f.bytes }) found

abbrev pub shown_entity : Entity → tokens.Entity
shown_entity entity = record { bytes = text_bytes entity.text; size = entity.len }

-- the part found in a text, and its end in the text
abbrev pub cut_after : (text : List ℕ) → Parsed → Part
cut_after text found = record { end = length text - length found.following; bytes = found.bytes }

-- a part of `size` bytes, the first `front` of which come before these bytes, ends with a semicolon
pub record Closes (bs : List ℕ) (front size : ℕ) : Type 0 where
  pub low : front < size
  pub high : size ≤ front + length bs
  pub semicolon : slice_index bs (size - front - 1) ≡ 59
