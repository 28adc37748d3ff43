-- The text of a paragraph, gathered line by line.
use Rattle.std.proofs.Common.{◌≡◌, ℕ, zero, suc, ◌+◌, ◌-◌, ◌<◌, List, [], ◌∷◌, ◌++◌, take, arith, refl, sym, ap, ◌∙◌, append_assoc, append-nil, length-append, String, Global}
use Rattle.std.specs.Prelude.{string_bytes}
use Rattle.cmark_grammar.specs.Answers.{Lookup}
use Rattle.cmark_grammar.specs.Columns.{bytes_of, indent, without_indent}
use Rattle.cmark_grammar.specs.LinkDefinitions.{line_end_of, further_bytes, bytes_over}
use Rattle.cmark_grammar.specs.Derivation.{last_content_end}
use Rattle.cmark_grammar.specs.Options.{Options}
use Rattle.cmark_grammar.specs.Rows.{Row, words_of, begin_of, start_of}
use Rattle.cmark_grammar.specs.Tokens.{slice}
use Rattle.cmark_block_model.proofs.RowPlaces.{drop-Runs}
use Rattle.cmark_line_rules.proofs.RestSteps.{rest-runs}
use Rattle.cmark_line_rules.specs.Rests.{row_of}
use Rattle.cmark_line_rules.specs.declared.line_rest.LineRest.{LineRest}
use Rattle.cmark_leaf_nodes.specs.TextColumns.{StandInText}
use Rattle.cmark_leaf_nodes.proofs.ColumnCuts.{bytes-slice, drop-in_text}
use Rattle.cmark_block_model.specs.OpenBlocks as model
use Rattle.cmark_blocks.specs.declared.gathered.Gathered.{Gathered}
use Rattle.cmark_blocks.specs.Gathered.{last_of, texts_at, Holds}

-- the bytes of a line are consecutive bytes of the text
pub rest-slice : (text : List ℕ) (rest : LineRest) → StandInText text (row_of rest).columns → bytes_of (row_of rest).columns ≡ slice text (begin_of (row_of rest)) (row_of rest).content_end
rest-slice text rest in_text = bytes-slice text (begin_of (row_of rest)) (row_of rest).columns (row_of rest).content_end (rest-runs rest) in_text

pub words-slice : (text : List ℕ) (rest : LineRest) → StandInText text (row_of rest).columns → words_of (row_of rest) ≡ slice text (start_of (row_of rest)) (row_of rest).content_end
words-slice text rest in_text =
    let r = row_of rest in
    bytes-slice text (start_of r) (without_indent r.columns) r.content_end (drop-Runs (indent r.columns) (begin_of r) r.columns r.content_end (rest-runs rest)).0 (drop-in_text text (indent r.columns) r.columns in_text)

-- further lines, in two parts
pub further-splits : (first : Row) (lines more : List Row) → further_bytes first (lines ++ more) ≡ further_bytes first lines ++ further_bytes (last_of first lines) more
further-splits first [] more = refl
further-splits first (r ∷ lines) more =
    ap (λ bs. line_end_of first ++ (bytes_of r.columns ++ bs)) (further-splits r lines more)
    ∙ ap (λ bs. line_end_of first ++ bs) (sym (append_assoc (bytes_of r.columns) (further_bytes r lines) (further_bytes (last_of r lines) more)))
    ∙ sym (append_assoc (line_end_of first) (bytes_of r.columns ++ further_bytes r lines) (further_bytes (last_of r lines) more))

pub bytes-split : (first : Row) (lines more : List Row) → bytes_over first (lines ++ more) ≡ bytes_over first lines ++ further_bytes (last_of first lines) more
bytes-split first lines more =
    ap (λ bs. words_of first ++ bs) (further-splits first lines more)
    ∙ sym (append_assoc (words_of first) (further_bytes first lines) (further_bytes (last_of first lines) more))

last-more : (first : Row) (lines : List Row) (r : Row) → last_of first (lines ++ r ∷ []) ≡ r
last-more first [] r = refl
last-more first (s ∷ lines) r = last-more s lines r

module _ (text : List ℕ) (options : Options) (lookup : Lookup) (m : model.Pass) where
  -- another line
  pub holds-more : (first rest : LineRest) (old : Gathered) (made : String Global) (count : ℕ) → Holds text options lookup m first old →
      texts_at text options lookup m (row_of old.last).line_end ≡ row_of rest ∷ texts_at text options lookup m (row_of rest).line_end →
      string_bytes made ≡ string_bytes old.text ++ (line_end_of (row_of old.last) ++ bytes_of (row_of rest).columns) → count ≡ old.lines + 1 →
      Holds text options lookup m first (record { text = made; lines = count; last = rest })
  holds-more first rest old made count h next bytes more = record {
    lines = h.lines ++ row_of rest ∷ [];
    ahead = h.ahead ∙ ap (λ rs. h.lines ++ rs) next ∙ sym (append_assoc h.lines (row_of rest ∷ []) (texts_at text options lookup m (row_of rest).line_end));
    bytes =
        bytes ∙ ap (λ bs. bs ++ (line_end_of (row_of old.last) ++ bytes_of (row_of rest).columns)) h.bytes
        ∙ ap (λ r. bytes_over (row_of first) h.lines ++ (line_end_of r ++ bytes_of (row_of rest).columns)) (sym h.last)
        ∙ ap (λ bs. bytes_over (row_of first) h.lines ++ (line_end_of (last_of (row_of first) h.lines) ++ bs)) (sym (append-nil (bytes_of (row_of rest).columns)))
        ∙ sym (bytes-split (row_of first) h.lines (row_of rest ∷ []));
    count = length-append h.lines (row_of rest ∷ []) ∙ ap (λ n. n + 1) h.count ∙ sym more;
    last = last-more (row_of first) h.lines (row_of rest);
  }

-- the ends of lines
pub content_end-none : (r : Row) (n : ℕ) → last_content_end r (take n []) ≡ r.content_end
content_end-none r zero = refl
content_end-none r (suc n) = refl

pub content_end-next : (r s : Row) (rs : List Row) (n : ℕ) → 0 < n → last_content_end r (take n (s ∷ rs)) ≡ last_content_end s (take (n - 1) rs)
content_end-next r s rs zero lt = absurd (omega (arith, lt))
content_end-next r s rs (suc n) lt = ap (λ k. last_content_end s (take k rs)) (let e : n ≡ suc n - 1 = omega arith in e)
