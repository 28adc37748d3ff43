-- Which items the siblings of a leaf tell apart: quotes, delimiter runs, autolinks, and all others, which stay as they are.
use Rattle.std.proofs.Common.{◌≡◌, ℕ, List, refl}
use Rattle.cmark_grammar.specs.Emphasis.{Run, Sibling}
use Rattle.cmark_grammar.specs.Items.{ItemKind, Plain, Own, Written, Quoted, Delimiters, Code, InlineMath, DisplayMath, Autolink, Html, OwnedHtml, FootnoteReference, SoftBreak, HardBreak, Item}
use Rattle.cmark_grammar.specs.Quotes.{Quote}
use Rattle.cmark_grammar.specs.Siblings.{Inline, Single, quote_as, item_then}
use Rattle.cmark_inline_model.specs.RunSpans.{run_then, run_bytes_then, gap_then, put_gap}

pub record Stays (kind : ItemKind) : Type 0 where
  pub quote : (quoted other : List ℕ → Inline) (cs : List ℕ) → quote_as quoted other kind cs ≡ other cs
  pub run : (n : ℕ) (after : ℕ → List Sibling) → run_then n kind after ≡ after n
  pub bytes : (start : ℕ) (after : List Item) → run_bytes_then kind start after ≡ after
  pub gap : (x : Item) (gaps : List Inline) → gap_then kind x gaps ≡ put_gap (Single x) gaps
  pub item : (x : Item) (after : Inline) → item_then kind x after ≡ Single x after

pub data KindView : ItemKind → Type 0 where
  AQuote : (quote : Quote) → KindView (Quoted quote)
  ARun : (run : Run) → KindView (Delimiters run)
  AnAutolink : (uri : List ℕ) → KindView (Autolink uri)
  AText : (kind : ItemKind) → Stays kind → KindView kind

pub kind-view : (kind : ItemKind) → KindView kind
kind-view Plain = AText Plain (record { quote = λ q o cs. refl; run = λ n a. refl; bytes = λ s a. refl; gap = λ x g. refl; item = λ x a. refl })
kind-view Own = AText Own (record { quote = λ q o cs. refl; run = λ n a. refl; bytes = λ s a. refl; gap = λ x g. refl; item = λ x a. refl })
kind-view (Written text) = AText (Written text) (record { quote = λ q o cs. refl; run = λ n a. refl; bytes = λ s a. refl; gap = λ x g. refl; item = λ x a. refl })
kind-view (Quoted quote) = AQuote quote
kind-view (Delimiters run) = ARun run
kind-view (Code text) = AText (Code text) (record { quote = λ q o cs. refl; run = λ n a. refl; bytes = λ s a. refl; gap = λ x g. refl; item = λ x a. refl })
kind-view (InlineMath text) = AText (InlineMath text) (record { quote = λ q o cs. refl; run = λ n a. refl; bytes = λ s a. refl; gap = λ x g. refl; item = λ x a. refl })
kind-view (DisplayMath text) = AText (DisplayMath text) (record { quote = λ q o cs. refl; run = λ n a. refl; bytes = λ s a. refl; gap = λ x g. refl; item = λ x a. refl })
kind-view (Autolink uri) = AnAutolink uri
kind-view Html = AText Html (record { quote = λ q o cs. refl; run = λ n a. refl; bytes = λ s a. refl; gap = λ x g. refl; item = λ x a. refl })
kind-view (OwnedHtml text) = AText (OwnedHtml text) (record { quote = λ q o cs. refl; run = λ n a. refl; bytes = λ s a. refl; gap = λ x g. refl; item = λ x a. refl })
kind-view (FootnoteReference label) = AText (FootnoteReference label) (record { quote = λ q o cs. refl; run = λ n a. refl; bytes = λ s a. refl; gap = λ x g. refl; item = λ x a. refl })
kind-view SoftBreak = AText SoftBreak (record { quote = λ q o cs. refl; run = λ n a. refl; bytes = λ s a. refl; gap = λ x g. refl; item = λ x a. refl })
kind-view HardBreak = AText HardBreak (record { quote = λ q o cs. refl; run = λ n a. refl; bytes = λ s a. refl; gap = λ x g. refl; item = λ x a. refl })
