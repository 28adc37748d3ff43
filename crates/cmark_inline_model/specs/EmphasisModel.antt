-- The pairs and the spans of a list of siblings as functions of it.
use Rattle.std.specs.Prelude.{Bool, true, false, Option, Some, None, List, [], ◌∷◌, ◌++◌}
use Rattle.cmark_grammar.specs.Spans.{Spans, Nil, Single}
use Rattle.cmark_grammar.specs.Emphasis.{Run, Pair, Sibling, Plain, Delimiter, Piece, Whole, Standing, agrees, pair_of, rest_of_opener, rest_of_closer, wrapped, before, row, keep, left_open, stand}

-- a run that has closed what it could
pub record Closed : Type 0 where
  pub rest : Run
  pub pieces : List Piece
  pub pairs : List Pair

-- the result after a pair: that of closing more, with this pair before its pairs, or `stops` if no further opener was found
abbrev pub paired : Pair → Closed → Option Closed → Closed
paired pair stops None = stops
paired pair stops (Some closed) = record closed { pairs = pair ∷ closed.pairs }

abbrev pub chosen : Bool → Closed → Option Closed → Option Closed
chosen true here following = Some here
chosen false here following = following

-- a run closes as much as it can over the pieces, the nearest first, with the spans after them; `None` if no open run agrees
abbrev pub close : Run → List Piece → Spans → Option Closed
close closer [] inside = None
close closer (Whole spans ∷ pieces) inside = close closer pieces (before (Whole spans) inside)
close closer (Standing opener ∷ pieces) inside =
    chosen (agrees opener closer)
    (paired (pair_of opener closer)
    (record {
      rest = rest_of_closer opener closer;
      pieces = left_open (rest_of_closer opener closer) (Whole (wrapped (pair_of opener closer) inside) ∷ keep (rest_of_opener opener closer) pieces);
      pairs = pair_of opener closer ∷ [];
    })
    (close (rest_of_closer opener closer) pieces (before (Whole (wrapped (pair_of opener closer) inside)) Nil)))
    (close closer pieces (before (Standing opener) inside))

abbrev pub or_none : Run → List Piece → Option Closed → Closed
or_none closer pieces None = record { rest = closer; pieces = left_open closer pieces; pairs = [] }
or_none closer pieces (Some closed) = closed

unfoldable pub closed : Run → List Piece → Closed
closed closer pieces = or_none closer pieces (close closer pieces Nil)

-- the pieces at the end, and the pairs found on the way
pub record Resolved : Type 0 where
  pub pieces : List Piece
  pub pairs : List Pair

abbrev pub resolve : List Sibling → List Piece → Resolved
resolve [] pieces = record { pieces = pieces; pairs = [] }
resolve (Plain at ∷ siblings) pieces = resolve siblings (Whole (Single at Nil) ∷ pieces)
resolve (Delimiter run ∷ siblings) pieces =
    let mine = closed run pieces in
    let others = resolve siblings (stand mine.rest mine.pieces) in
    record others { pairs = mine.pairs ++ others.pairs }

abbrev pub pairs_of : List Sibling → List Pair
pairs_of siblings = (resolve siblings []).pairs

abbrev pub spans_of : List Sibling → Spans
spans_of siblings = row (resolve siblings []).pieces Nil
