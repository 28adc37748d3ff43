-- The content of a setext heading without its attributes is cut out of that of a paragraph.
use Rattle.std.proofs.Common.{◌≡◌, ℕ, suc, ◌≤◌, ◌<◌, Bool, true, false, ◌==◌, List, [], ◌∷◌, ◌++◌, length, drop, refl, sym, arith, true≢false, rules}
use Rattle.std.specs.Prelude.{if◌then◌else◌, nat_lt}
use Rattle.std.proofs.lemmas.Bool.Decides.{nat_tests}
use Rattle.cmark_grammar.specs.Attributes.{is_braced, before_braces, closes}
use Rattle.cmark_grammar.specs.BlockDocument.{BlockDocument, Nil, Node}
use Rattle.cmark_grammar.specs.Columns.{Column, drop_end, put_before, is_blank}
use Rattle.cmark_block_model.specs.Ranges.{InOrder, AllAt, count_nodes, count_tables}
use Rattle.cmark_grammar.specs.Rows.{Row, place, first_place, start_of, last_line_end}
use Rattle.cmark_grammar.specs.Tags.{is_space_byte}
use Rattle.cmark_grammar.specs.SetextAttributes.{line_end_column, content_of, ends_in_braces, before_attributes, attributes_place, texts_before, texts_if, without_braces, setext_tokens}
use Rattle.cmark_grammar.specs.Tokens.{slice, texts_then, stretch_then, paragraph_tokens}
use Rattle.cmark_block_model.proofs.RowEdges.{is-ascii, AreGood, GoodRow, GoodRows}
use Rattle.cmark_block_model.proofs.RowPlaces.{Lies, Along}
use Rattle.cmark_block_model.proofs.TokenEdges.{stretch-edged, place-edge, and-first, paragraph-edged}
use Rattle.cmark_block_model.proofs.TokenRanges.{InOrder-le, paragraph-order}

less : (a b : ℕ) → nat_lt a b ≡ true → a < b
less a b e = grind (arith)

not-less : (a b : ℕ) → nat_lt a b ≡ false → b ≤ a
not-less a b e = grind (arith)

-- ## Places

module _ (E : ℕ → Type 0) where
  -- the place of an ASCII byte in these columns is a character boundary
  abbrev pub Reaches : List Column → Type 0
  Reaches [] = Unit {0}
  Reaches (c ∷ cs) = (c.byte < 128 → E (place c)) × Reaches cs

  good-reaches : (cs : List Column) → AreGood E cs → Reaches cs
  good-reaches [] g = tt
  good-reaches (c ∷ cs) g = (λ lt. place-edge E c g.0 lt, good-reaches cs g.1)

  end-reaches : (p : Column → Bool) (cs : List Column) → Reaches cs → Reaches (drop_end p cs)
  end-reaches p [] r = tt
  end-reaches p (c ∷ cs) r = grind (arith, end-reaches p cs r.1)

  join-reaches : (a b : List Column) → Reaches a → Reaches b → Reaches (a ++ b)
  join-reaches [] b ra rb = rb
  join-reaches (c ∷ a) b ra rb = (ra.0, join-reaches a b ra.1 rb)

  content-reaches : (r : Row) (more : List Row) → GoodRow E r → GoodRows E more → Reaches (content_of (r ∷ more))
  content-reaches r [] g gs = end-reaches is_blank r.columns (good-reaches r.columns g.good)
  content-reaches r (s ∷ more) g gs = join-reaches r.columns (line_end_column r ∷ content_of (s ∷ more)) (good-reaches r.columns g.good) (λ lt. g.content_end, content-reaches s more gs.0 gs.1)

  space-ascii : (b : ℕ) → is_space_byte b ≡ true → b < 128
  space-ascii b e = grind (arith, nat_tests)

  first-reaches : (cs : List Column) → Reaches cs → ends_in_braces cs ≡ true → E (attributes_place cs)
  first-reaches [] r e = absurd (true≢false (sym e))
  first-reaches (c ∷ cs) r e = go (is_braced (λ x. x.byte) (c ∷ cs)) refl e (first-reaches cs r.1)
    where
      following : (z : Bool) → is_space_byte c.byte ≡ z → (ds : List Column) → E (first_place 0 (drop (length ds) cs)) → E (first_place 0 (drop (length (put_before z c ds)) (c ∷ cs)))
      following z w ds h = grind (arith, space-ascii)

      go : (z : Bool) → is_braced (λ x. x.byte) (c ∷ cs) ≡ z → nat_lt (length (if z then [] else c ∷ before_braces (λ x. x.byte) cs)) (suc (length cs)) ≡ true
          → (ends_in_braces cs ≡ true → E (attributes_place cs)) → E (first_place 0 (drop (length (drop_end (λ x. is_space_byte x.byte) (if z then [] else c ∷ before_braces (λ x. x.byte) cs))) (c ∷ cs)))
      go true b l ih = r.0 (is-ascii c.byte 123 (omega arith) (and-first E (c.byte == 123) (closes (λ x. x.byte) cs) b))
      go false b l ih = following (is_space_byte c.byte) refl (before_attributes cs) (ih (shorter (length (before_braces (λ x. x.byte) cs)) (length cs) l))
        where
          shorter : (a b : ℕ) → nat_lt (suc a) (suc b) ≡ true → nat_lt a b ≡ true
          shorter a b e = grind (arith)

  before-edged : (text : List ℕ) (at : ℕ) (d : BlockDocument) → E at → AllAt E d → AllAt E (texts_before text at d)
  before-edged text at Nil e h = tt
  before-edged text at (Node n inside after) e h = grind (arith, stretch-edged, before-edged text at after e h.3)

  braces-edged : (text : List ℕ) (attributes : Bool) (cs : List Column) (d : BlockDocument) → Reaches cs → AllAt E d → AllAt E (without_braces text attributes cs d)
  braces-edged text attributes cs d r h = grind (arith, before-edged, first-reaches)

  pub setext-edged : (text : List ℕ) (attributes : Bool) (first : Row) (more : List Row) → GoodRow E first → GoodRows E more → AllAt E (setext_tokens text attributes first more)
  setext-edged text attributes first more g gs =
      braces-edged text attributes (content_of (first ∷ more)) (paragraph_tokens text first more) (content-reaches first more g gs) (paragraph-edged E text first more g gs)

-- ## Order

before-order : (text : List ℕ) (at from : ℕ) (d : BlockDocument) (to : ℕ) → InOrder from d to → InOrder from (texts_before text at d) to
before-order text at from Nil to h = h
before-order text at from (Node n inside after) to h = go (nat_lt n.end at) refl (before-order text at n.end after to h.2)
  where
    go : (z : Bool) → nat_lt n.end at ≡ z → InOrder n.end (texts_before text at after) to → InOrder from (if z then Node n inside (texts_before text at after) else stretch_then text n.start at Nil) to
    go true e ih = (h.0, h.1, ih)
    go false e ih = front (nat_lt n.start at) refl
      where
        low : from ≤ n.start
        low = h.0

        mid : n.start ≤ n.end
        mid = InOrder-le n.start inside n.end h.1

        up : n.end ≤ to
        up = InOrder-le n.end after to h.2

        end : at ≤ n.end
        end = not-less n.end at e

        front : (z : Bool) → nat_lt n.start at ≡ z → InOrder from (texts_then (if z then record { owned = false; bytes = slice text n.start at; start = n.start; end = at } ∷ [] else []) Nil) to
        front true l = let s = less n.start at l in (low, (let q : n.start ≤ at = omega (arith, s) in q), (let q : at ≤ to = omega (arith, end, up) in q))
        front false l = let q : from ≤ to = omega (arith, low, mid, up) in q

braces-order : (text : List ℕ) (attributes : Bool) (cs : List Column) (from : ℕ) (d : BlockDocument) (to : ℕ) → InOrder from d to → InOrder from (without_braces text attributes cs d) to
braces-order text attributes cs from d to h = grind (arith, before-order)

pub setext-order : (text : List ℕ) (attributes : Bool) (from : ℕ) (first : Row) (more : List Row) → Lies from first → Along first.line_end more (last_line_end first more)
    → InOrder (start_of first) (setext_tokens text attributes first more) (last_line_end first more)
setext-order text attributes from first more h a =
    braces-order text attributes (content_of (first ∷ more)) (start_of first) (paragraph_tokens text first more) (last_line_end first more) (paragraph-order text from first more h a)

-- ## Numbers

one-node : (text : List ℕ) (start end : ℕ) → (count_nodes (stretch_then text start end Nil) ≤ 1) × (count_tables (stretch_then text start end Nil) ≡ 0)
one-node text start end = grind arith

before-few : (text : List ℕ) (at : ℕ) (d : BlockDocument) → (count_nodes (texts_before text at d) ≤ count_nodes d) × (count_tables (texts_before text at d) ≤ count_tables d)
before-few text at Nil = ((omega arith), (omega arith))
before-few text at (Node n inside after) = search (rules, one-node, before-few text at after)

braces-few : (text : List ℕ) (attributes : Bool) (cs : List Column) (d : BlockDocument)
    → (count_nodes (without_braces text attributes cs d) ≤ count_nodes d) × (count_tables (without_braces text attributes cs d) ≤ count_tables d)
braces-few text false cs d = ((omega arith), (omega arith))
braces-few text true cs d = go (ends_in_braces cs)
  where
    go : (z : Bool) → (count_nodes (texts_if z text (attributes_place cs) d) ≤ count_nodes d) × (count_tables (texts_if z text (attributes_place cs) d) ≤ count_tables d)
    go true = before-few text (attributes_place cs) d
    go false = ((omega arith), (omega arith))

pub setext-few : (text : List ℕ) (attributes : Bool) (first : Row) (more : List Row)
    → (count_nodes (setext_tokens text attributes first more) ≤ count_nodes (paragraph_tokens text first more)) × (count_tables (setext_tokens text attributes first more) ≤ count_tables (paragraph_tokens text first more))
setext-few text attributes first more = braces-few text attributes (content_of (first ∷ more)) (paragraph_tokens text first more)
