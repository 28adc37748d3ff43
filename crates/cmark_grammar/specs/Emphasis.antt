-- The delimiter runs of a list of siblings that pair, and the spans of these pairs (CommonMark 6.2, GFM 6.5).
use Rattle.std.specs.Prelude.{◌≡◌, ℕ, zero, suc, ◌+◌, ◌-◌, ◌%◌, Bool, true, false, not, ◌==◌, ◌&&◌, ◌||◌, nat_lt, if◌then◌else◌, List, [], ◌∷◌, ◌++◌, map}
use Rattle.cmark_grammar.specs.Characters.{caret, equals_sign, tilde}
use Rattle.cmark_grammar.specs.Spans.{SpanKind, Emphasis, Strong, SingleTilde, DoubleTilde, Caret, DoubleEquals, span_width, Spans, Nil, Single, Around, join, singles}

-- the rest of a delimiter run: its delimiter and its original length; the place of the first byte that is left, and the number of bytes
-- left; and whether it can open and close
pub record Run : Type 0 where
  pub delimiter : ℕ
  pub run_length : ℕ
  pub at : ℕ
  pub left : ℕ
  pub opens : Bool
  pub closes : Bool

-- the last `count` bytes of an opening delimiter run, directly before the place `from`, and the first `count` bytes of a closing one, from
-- the place `to` on
pub record Pair : Type 0 where
  pub delimiter : ℕ
  pub from : ℕ
  pub to : ℕ
  pub count : ℕ

-- a sibling that is not a delimiter run, or a run
pub data Sibling : Type 0 where
  Plain : (at : ℕ) → Sibling
  Delimiter : (run : Run) → Sibling

-- a piece before a run: siblings with their spans, or a run that is open
pub data Piece : Type 0 where
  Whole : (spans : Spans) → Piece
  Standing : (run : Run) → Piece

-- the siblings are at consecutive places from this one on, and each run is whole
abbrev pub StandFrom : ℕ → List Sibling → Type 0
StandFrom n [] = Unit {0}
StandFrom n (Plain at ∷ siblings) = (at ≡ n) × StandFrom (suc n) siblings
StandFrom n (Delimiter run ∷ siblings) = (run.at ≡ n) × (run.left ≡ run.run_length) × StandFrom (n + run.run_length) siblings

-- the number of places that they take
abbrev pub places_taken : List Sibling → ℕ
places_taken [] = 0
places_taken (Plain at ∷ siblings) = suc (places_taken siblings)
places_taken (Delimiter run ∷ siblings) = run.left + places_taken siblings

abbrev pub runs_of : List Sibling → List Run
runs_of [] = []
runs_of (Plain at ∷ siblings) = runs_of siblings
runs_of (Delimiter run ∷ siblings) = run ∷ runs_of siblings

abbrev pub can_both : Run → Bool
can_both run = run.opens && run.closes

-- if either run can both open and close, the sum of their lengths is not a multiple of 3 unless both lengths are multiples of 3 (CommonMark
-- 6.2, rules 9 and 10)
abbrev pub keeps_rule_of_three : (opener closer : Run) → Bool
keeps_rule_of_three opener closer =
    not (can_both opener || can_both closer)
    || (not ((opener.run_length + closer.run_length) % 3 == 0) || ((opener.run_length % 3 == 0) && (closer.run_length % 3 == 0)))

-- for `~` and `=` both runs have equal lengths (GFM 6.5, and this profile's own)
abbrev pub is_tilde_or_equals : ℕ → Bool
is_tilde_or_equals delimiter = (delimiter == tilde) || (delimiter == equals_sign)

abbrev pub has_same_delimiter : (opener closer : Run) → Bool
has_same_delimiter opener closer = (opener.delimiter == closer.delimiter) && (not (is_tilde_or_equals closer.delimiter) || (opener.run_length == closer.run_length))

-- this run can close that open one
unfoldable pub agrees : (opener closer : Run) → Bool
agrees opener closer =
    closer.closes && (nat_lt 0 closer.left && (has_same_delimiter opener closer && keeps_rule_of_three opener closer))

-- the number of bytes that are paired: the lesser of the bytes that are left of both
abbrev pub paired_count : (opener closer : Run) → ℕ
paired_count opener closer = if nat_lt opener.left closer.left then opener.left else closer.left

-- the inner bytes of both
unfoldable pub pair_of : (opener closer : Run) → Pair
pair_of opener closer = record { delimiter = closer.delimiter; from = opener.at + opener.left; to = closer.at; count = paired_count opener closer }

-- the opener and the closer without them
unfoldable pub rest_of_opener : (opener closer : Run) → Run
rest_of_opener opener closer = record opener { left = opener.left - paired_count opener closer }

unfoldable pub rest_of_closer : (opener closer : Run) → Run
rest_of_closer opener closer =
    record closer { at = closer.at + paired_count opener closer; left = closer.left - paired_count opener closer }

-- the spans of a pair, the innermost first (CommonMark 6.2, rules 13 and 14): strong emphasis for each two bytes, and emphasis outermost if
-- the count is odd. Example: `***a***` is `<em><strong>a</strong></em>`
abbrev pub emphasis_kinds : ℕ → List SpanKind
emphasis_kinds zero = []
emphasis_kinds (suc zero) = Emphasis ∷ []
emphasis_kinds (suc (suc n)) = Strong ∷ emphasis_kinds n

-- the spans of `~`, the innermost first (GFM 6.5, and this profile's own)
abbrev pub tilde_kinds : ℕ → List SpanKind
tilde_kinds zero = []
tilde_kinds (suc zero) = SingleTilde ∷ []
tilde_kinds (suc (suc n)) = DoubleTilde ∷ tilde_kinds n

abbrev pub caret_kinds : ℕ → List SpanKind
caret_kinds zero = []
caret_kinds (suc n) = Caret ∷ caret_kinds n

-- a run of `=` has two bytes, so that no single byte is left
abbrev pub equals_kinds : ℕ → List SpanKind
equals_kinds zero = []
equals_kinds (suc zero) = Emphasis ∷ []
equals_kinds (suc (suc n)) = DoubleEquals ∷ equals_kinds n

-- the spans of a pair, by its delimiter
unfoldable pub kinds_of : (delimiter count : ℕ) → List SpanKind
kinds_of delimiter count = if delimiter == tilde then tilde_kinds count else if delimiter == caret then caret_kinds count else if delimiter == equals_sign then equals_kinds count else emphasis_kinds count

-- spans around the spans between two places
abbrev pub nest : List SpanKind → (from to : ℕ) → Spans → Spans
nest [] from to inside = inside
nest (kind ∷ kinds) from to inside =
    nest kinds (from - span_width kind) (to + span_width kind)
    (Around (record { kind = kind; start = from - span_width kind; end = to + span_width kind }) inside Nil)

-- the spans of a pair around the spans inside it
abbrev pub wrapped : Pair → Spans → Spans
wrapped pair inside = nest (kinds_of pair.delimiter pair.count) pair.from pair.to inside

-- a piece before some spans: the rest of an open run is text
abbrev pub before : Piece → Spans → Spans
before (Whole spans) after = join spans after
before (Standing run) after = singles run.at run.left after

-- pieces, the nearest first, before some spans
abbrev pub row : List Piece → Spans → Spans
row [] after = after
row (piece ∷ pieces) after = row pieces (before piece after)

-- no open run among the pieces agrees with this one
abbrev pub Misses : Run → List Piece → Type 0
Misses closer [] = Unit {0}
Misses closer (Whole spans ∷ pieces) = Misses closer pieces
Misses closer (Standing opener ∷ pieces) = (agrees opener closer ≡ false) × Misses closer pieces

-- the rest of a run is kept as a piece, if any byte is left
abbrev pub keep : Run → List Piece → List Piece
keep run pieces = if nat_lt 0 run.left then Standing run ∷ pieces else pieces

-- a tilde or a caret
abbrev pub is_tilde_or_caret : ℕ → Bool
is_tilde_or_caret delimiter = (delimiter == tilde) || (delimiter == caret)

-- if bytes of a closing run of `~` or `^` are left, no open run agrees with it: then all open runs of these delimiters become inactive
-- (this profile's own)
unfoldable pub deactivates : Run → Bool
deactivates closer = closer.closes && (nat_lt 0 closer.left && is_tilde_or_caret closer.delimiter)

abbrev pub deactivated : Piece → Piece
deactivated (Whole spans) = Whole spans
deactivated (Standing run) = if is_tilde_or_caret run.delimiter then Whole (singles run.at run.left Nil) else Standing run

abbrev pub left_open : Run → List Piece → List Piece
left_open closer pieces = if deactivates closer then map deactivated pieces else pieces

-- the closer takes the nearest open run that agrees. The pieces between them are inside the pair, and the runs among these become inactive
pub record Takes (Then : Run → List Piece → Type 0) (closer : Run) (pieces : List Piece) (pair : Pair) : Type 0 where
  pub between : List Piece
  pub opener : Run
  pub front : List Piece
  pub cut : pieces ≡ between ++ (Standing opener ∷ front)
  pub nearest : Misses closer between
  pub agree : agrees opener closer ≡ true
  pub is : pair ≡ pair_of opener closer
  pub so : Then (rest_of_closer opener closer) (Whole (wrapped pair (row between Nil)) ∷ keep (rest_of_opener opener closer) front)

-- a run closes, pair after pair, until no open run agrees: this rest of it and these pieces are left
abbrev pub Closes : Run → List Piece → List Pair → Run → List Piece → Type 0
Closes closer pieces [] rest now = Misses closer pieces × (rest ≡ closer) × (now ≡ left_open closer pieces)
Closes closer pieces (pair ∷ more) rest now = Takes (λ run others. Closes run others more rest now) closer pieces pair

-- the rest of a run then opens, if it can, or is text
abbrev pub stand : Run → List Piece → List Piece
stand run pieces = if run.opens then keep run pieces else Whole (singles run.at run.left Nil) ∷ pieces

-- a run's own pairs come before those of the later runs
pub record Course (Then : List Piece → List Pair → Type 0) (run : Run) (pieces : List Piece) (pairs : List Pair) : Type 0 where
  pub own : List Pair
  pub others : List Pair
  pub rest : Run
  pub now : List Piece
  pub cut : pairs ≡ own ++ others
  pub closes : Closes run pieces own rest now
  pub so : Then (stand rest now) others

-- these siblings, read from left to right after these pieces, have these pairs and leave these pieces
abbrev pub Pairs : List Sibling → List Piece → List Pair → List Piece → Type 0
Pairs [] pieces pairs last = (pairs ≡ []) × (last ≡ pieces)
Pairs (Plain at ∷ siblings) pieces pairs last = Pairs siblings (Whole (Single at Nil) ∷ pieces) pairs last
Pairs (Delimiter run ∷ siblings) pieces pairs last = Course (λ others more. Pairs siblings others more last) run pieces pairs

-- these siblings have these pairs and these spans
pub record IsEmphasis (siblings : List Sibling) (pairs : List Pair) (spans : Spans) : Type 0 where
  pub last : List Piece
  pub are : Pairs siblings [] pairs last
  pub become : spans ≡ row last Nil
