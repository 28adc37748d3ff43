-- The offsets of the bytes of a leaf's text in the source.
use Rattle.std.specs.Prelude.{◌≡◌, ◌≤◌, ◌<◌, ℕ, suc, true, List, drop, get_or, length}
use Rattle.cmark_grammar.specs.InlineTokens.{from, place_of}
use Rattle.cmark_grammar.specs.LeafText.{Leaf}
use Rattle.cmark_grammar.specs.Lines.{is_content}
use Rattle.cmark_grammar.specs.Readers.{Reader}

-- the bytes of a leaf's text, and its end, have these offsets in the source: in order, and adjacent except at line endings
pub record ArePlaces (reader : Reader) (leaf : Leaf) (text : List ℕ) (place : ℕ → ℕ) : Type 0 where
  pub rest : (k : ℕ) → k ≤ length text → from reader leaf (place k) ≡ drop k text
  pub ends : (k : ℕ) → k ≤ length text → place_of reader leaf (drop k text) ≡ place k
  pub next : (k : ℕ) → k < length text → is_content (get_or text k 0) ≡ true → place (suc k) ≡ suc (place k)
  pub order : (j k : ℕ) → j < k → k ≤ length text → place j < place k

-- the whole text, and the offset of a byte of it
abbrev pub text_of : Reader → Leaf → List ℕ
text_of reader leaf = from reader leaf 0

abbrev pub place_in : Reader → Leaf → ℕ → ℕ
place_in reader leaf k = place_of reader leaf (drop k (text_of reader leaf))
