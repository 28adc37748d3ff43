-- The token at a place of a leaf's text (CommonMark 6): an item that is read by itself, a bracket, or the end.
use Rattle.std.specs.Prelude.{ℕ, Bool, List}
use Rattle.cmark_grammar.specs.Emphasis.{Run}
use Rattle.cmark_grammar.specs.Quotes.{Quote}

-- the kinds of items:
--
-- - Plain: literal bytes, which are one text with the literal bytes beside them;
-- - Own: bytes that are a text of their own;
-- - Written: a text in place of the bytes (CommonMark 2.4 and 2.5; typographic texts are this profile's own);
-- - Quoted: a quotation mark (this profile's own);
-- - Delimiters: a run of `*` or `_` (6.2), of `~` (GFM 6.5), or of `^` or `=` (this profile's own);
-- - Code: a code span (6.1);
-- - InlineMath and DisplayMath: formulas (this profile's own);
-- - Autolink: an autolink (6.5);
-- - Html: inline HTML as in the source (6.6); OwnedHtml: a tag over several lines, without the prefixes of these lines;
-- - FootnoteReference: a footnote reference (this profile's own);
-- - SoftBreak, HardBreak: line breaks (6.7 and 6.8)
pub data ItemKind : Type 0 where
  Plain : ItemKind
  Own : ItemKind
  Written : (text : List ℕ) → ItemKind
  Quoted : (quote : Quote) → ItemKind
  Delimiters : (run : Run) → ItemKind
  Code : (text : List ℕ) → ItemKind
  InlineMath : (text : List ℕ) → ItemKind
  DisplayMath : (text : List ℕ) → ItemKind
  Autolink : (address : List ℕ) → ItemKind
  Html : ItemKind
  OwnedHtml : (text : List ℕ) → ItemKind
  FootnoteReference : (label : List ℕ) → ItemKind
  SoftBreak : ItemKind
  HardBreak : ItemKind

-- an item with its range
pub record Item : Type 0 where
  pub kind : ItemKind
  pub start : ℕ
  pub end : ℕ

-- an opening bracket of a link, or, with a `!` before it, of an image; or a closing bracket (CommonMark 6.3 and 6.4)
pub record Bracket : Type 0 where
  pub is_image : Bool
  pub start : ℕ
  pub end : ℕ

-- an item, with the place at which reading resumes after it; an opening or closing bracket; or the end of the text
pub data Token : Type 0 where
  Stands : (item : Item) → (resume : ℕ) → Token
  Opens : (bracket : Bracket) → Token
  Closes : (bracket : Bracket) → Token
  Ends : Token
