-- The places of siblings, and the spans around what is there, computed.
use Rattle.std.specs.Prelude.{◌≡◌, ℕ, ◌+◌, Bool, true, false, List, [], ◌∷◌, codes}
use Rattle.std.proofs.Common.{refl}
use Rattle.cmark_grammar.specs.Emphasis.{Run, Pair, Plain, Delimiter, Piece, Whole, Pairs, agrees, pair_of, rest_of_opener, rest_of_closer, kinds_of, deactivates}
use Rattle.cmark_grammar.specs.Items.{Own, Code, Delimiters}
use Rattle.cmark_grammar.specs.Options.{no_options}
use Rattle.cmark_grammar.specs.Siblings.{Inline, Nil, Single, Around, item, siblings_from, one_by_one, with_spans, IsDressed}
use Rattle.cmark_grammar.specs.Spans as spans
use Rattle.cmark_grammar.specs.Spans.{Strong, DoubleTilde, Spans}
use Rattle.cmark_grammar.specs.Tag as tag

abbrev text : (start end : ℕ) → Inline → Inline
text start end = Single (item Own start end)

abbrev run_of_two : (delimiter at : ℕ) → (opens : Bool) → (closes : Bool) → Run
run_of_two delimiter at opens closes = record { delimiter = delimiter; run_length = 2; at = at; left = 2; opens = opens; closes = closes }

abbrev opening : (delimiter start : ℕ) → Inline → Inline
opening delimiter start = Single (item (Delimiters (run_of_two delimiter 0 true false)) start (start + 2))

abbrev closing : (delimiter start : ℕ) → Inline → Inline
closing delimiter start = Single (item (Delimiters (run_of_two delimiter 0 false true)) start (start + 2))

abbrev code : Inline → Inline
code = Single (item (Code (codes "b")) 3 6)

-- a**`b`**c
abbrev strong_code : Inline
strong_code = text 0 1 (opening 42 1 (code (closing 42 6 (text 8 9 Nil))))

-- each byte of a run has a place, and so has each other sibling
have_places : siblings_from strong_code 0 ≡ (Plain 0 ∷ Delimiter (run_of_two 42 1 true false) ∷ Plain 3 ∷ Delimiter (run_of_two 42 4 false true) ∷ Plain 6 ∷ [])
have_places = refl

are_there : one_by_one strong_code ≡ (text 0 1 Nil ∷ text 1 2 Nil ∷ text 2 3 Nil ∷ code Nil ∷ text 6 7 Nil ∷ text 7 8 Nil ∷ text 8 9 Nil ∷ [])
are_there = refl

-- an element has one place, whatever is in it
element_has_a_place : siblings_from (Around tag.Emphasis 0 5 strong_code (text 5 6 Nil)) 0 ≡ (Plain 0 ∷ Plain 1 ∷ [])
element_has_a_place = refl

abbrev strong_span : Spans
strong_span = spans.Single 0 (spans.Around (record { kind = Strong; start = 1; end = 6 }) (spans.Single 3 spans.Nil) (spans.Single 6 spans.Nil))

abbrev strong_element : Inline
strong_element = text 0 1 (Around tag.Strong 1 8 (code Nil) (text 8 9 Nil))

-- the element begins with the first byte of its opening run, and ends with the last of its closing one
strong_around_code : with_spans no_options (one_by_one strong_code) strong_span ≡ strong_element
strong_around_code = refl

-- two tildes without strikethrough make one text
tildes_are_a_text : with_spans no_options (one_by_one (opening 126 0 (text 2 3 (closing 126 3 Nil)))) (spans.Around (record { kind = DoubleTilde; start = 0; end = 5 }) (spans.Single 2 spans.Nil) spans.Nil) ≡ text 0 5 Nil
tildes_are_a_text = refl

-- ## The same siblings with their emphasis
abbrev pair : Pair
pair = record { delimiter = 42; from = 3; to = 4; count = 2 }

abbrev left : List Piece
left =
    Whole (spans.Single 6 spans.Nil)
    ∷ Whole spans.Nil
    ∷ Whole (spans.Around (record { kind = Strong; start = 1; end = 6 }) (spans.Single 3 spans.Nil) spans.Nil)
    ∷ Whole (spans.Single 0 spans.Nil)
    ∷ []

pairs_are : Pairs (siblings_from strong_code 0) [] (pair ∷ []) left
unfolding agrees pair_of rest_of_opener rest_of_closer kinds_of deactivates
pairs_are = record {
  own = [];
  others = pair ∷ [];
  rest = run_of_two 42 1 true false;
  now = Whole (spans.Single 0 spans.Nil) ∷ [];
  cut = refl;
  closes = (tt, refl, refl);
  so = record {
    own = pair ∷ [];
    others = [];
    rest = record { delimiter = 42; run_length = 2; at = 6; left = 0; opens = false; closes = true };
    now = Whole (spans.Around (record { kind = Strong; start = 1; end = 6 }) (spans.Single 3 spans.Nil) spans.Nil) ∷ Whole (spans.Single 0 spans.Nil) ∷ [];
    cut = refl;
    closes = record {
      between = Whole (spans.Single 3 spans.Nil) ∷ [];
      opener = run_of_two 42 1 true false;
      front = Whole (spans.Single 0 spans.Nil) ∷ [];
      cut = refl;
      nearest = tt;
      agree = refl;
      is = refl;
      so = (tt, refl, refl);
    };
    so = (refl, refl);
  };
}

strong_is_dressed : IsDressed no_options strong_code strong_element
strong_is_dressed = record {
  pairs = pair ∷ [];
  spans_are = strong_span;
  emphasis = record { last = left; are = pairs_are; become = refl };
  result_is = refl;
}
