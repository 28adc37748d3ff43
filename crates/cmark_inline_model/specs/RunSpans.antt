-- The spans of siblings, read from their delimiter runs alone: the bytes of the runs are counted, and the siblings between these bytes are
-- put between them again. The code counts like this; the law runs_alone_give_the_emphasis says that the grammar's reading is the same.
use Rattle.std.specs.Prelude.{◌≡◌, ℕ, zero, suc, ◌+◌, ◌-◌, List, [], ◌∷◌, get_or}
use Rattle.cmark_grammar.specs.Emphasis.{Pair, Sibling, Delimiter, IsEmphasis}
use Rattle.cmark_grammar.specs.Items.{ItemKind, Own, Delimiters, Item}
use Rattle.cmark_grammar.specs.Options.{Options}
use Rattle.cmark_grammar.specs.Siblings.{Inline, Nil, Single, Around, append, element, item, with_quotes}
use Rattle.cmark_grammar.specs.Spans as spans
use Rattle.cmark_grammar.specs.Spans.{span_tag, span_width, Spans}

-- the delimiter runs among siblings; their bytes are counted from 0
abbrev pub run_then : ℕ → ItemKind → (ℕ → List Sibling) → List Sibling
run_then n (Delimiters run) after = Delimiter (record { delimiter = run.delimiter; run_length = run.run_length; at = n; left = run.run_length; opens = run.opens; closes = run.closes }) ∷ after (n + run.run_length)
run_then n _ after = after n

abbrev pub runs_from : Inline → ℕ → List Sibling
runs_from Nil n = []
runs_from (Single x after) n = run_then n x.kind (runs_from after)
runs_from (Around tag start end inside after) n = runs_from after n

-- the bytes of the runs, in order
abbrev pub bytes_then : (start run_length : ℕ) → List Item → List Item
bytes_then start zero after = after
bytes_then start (suc run_length) after = item Own start (suc start) ∷ bytes_then (suc start) run_length after

abbrev pub run_bytes_then : ItemKind → (start : ℕ) → List Item → List Item
run_bytes_then (Delimiters run) start after = bytes_then start run.run_length after
run_bytes_then _ start after = after

abbrev pub run_bytes : Inline → List Item
run_bytes Nil = []
run_bytes (Single x after) = run_bytes_then x.kind x.start (run_bytes after)
run_bytes (Around tag start end inside after) = run_bytes after

-- the siblings between these bytes: those before each byte, after the byte before it; and then those after all bytes
abbrev pub put_gap : (Inline → Inline) → List Inline → List Inline
put_gap put [] = put Nil ∷ []
put_gap put (gap ∷ gaps) = put gap ∷ gaps

abbrev pub no_gaps : ℕ → List Inline → List Inline
no_gaps zero gaps = gaps
no_gaps (suc n) gaps = Nil ∷ no_gaps n gaps

abbrev pub gap_then : ItemKind → Item → List Inline → List Inline
gap_then (Delimiters run) x gaps = no_gaps run.run_length gaps
gap_then _ x gaps = put_gap (Single x) gaps

abbrev pub gaps_of : Inline → List Inline
gaps_of Nil = Nil ∷ []
gaps_of (Single x after) = gap_then x.kind x (gaps_of after)
gaps_of (Around tag start end inside after) = put_gap (Around tag start end inside) (gaps_of after)

abbrev pub no_item : Item
no_item = item Own 0 0

module _ (options : Options) where
  -- spans around the bytes of the runs, with the siblings between these
  abbrev pub dressed : List Inline → List Item → Spans → Inline
  dressed gaps bytes spans.Nil = Nil
  dressed gaps bytes (spans.Single at after) = Single (get_or bytes at no_item) (append (get_or gaps (suc at) Nil) (dressed gaps bytes after))
  dressed gaps bytes (spans.Around span inside after) =
      element (span_tag options span.kind) (get_or bytes span.start no_item).start (get_or bytes (span.end - 1) no_item).end
      (append (get_or gaps (span.start + span_width span.kind) Nil) (dressed gaps bytes inside))
      (append (get_or gaps span.end Nil) (dressed gaps bytes after))

  abbrev pub dressed_all : Inline → Spans → Inline
  dressed_all siblings spans = append (get_or (gaps_of siblings) 0 Nil) (dressed (gaps_of siblings) (run_bytes siblings) spans)

  -- a list of siblings with its quotes and its emphasis
  pub record IsDressedByRuns (siblings result : Inline) : Type 0 where
    pub pairs : List Pair
    pub spans_are : Spans
    pub emphasis : IsEmphasis (runs_from (with_quotes siblings) 0) pairs spans_are
    pub result_is : result ≡ dressed_all (with_quotes siblings) spans_are
