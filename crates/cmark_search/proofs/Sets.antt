-- Sets of ASCII bytes, in which sixteen lanes are looked up at once.
use borrow.Rule.Slice.PartMut.{put_mid, post_of}
use Rattle.std.proofs.Common.{lit<, ◌≡◌, ℕ, zero, suc, ◌+◌, ◌-◌, ◌*◌, ◌/◌, ◌%◌, ◌^◌, ◌<◌, ◌≤◌, Bool, true, false, not, ◌==◌, ◌&&◌, nat_lt, if◌then◌else◌, pow_pos, cond, eqb, List, [], ◌∷◌, ◌++◌, length, min, get_or, map, replicate, drop, take, append_assoc, drop-drop, take-append-drop, length-append, length-drop, refl, sym, ap, subst, ◌∙◌, arith, w8, bit_and, Fits, inl, inr, Option, Some, None}
use Rattle.std.specs.Int.{bit_at}
use Rattle.std.specs.List.{position_or_len}
use Rattle.std.specs.Simd.Lanes.{zip2, mask_l, top, Each1}
use Rattle.std.proofs.lemmas.Bool.{agree_below_at, both_ways, cases_lt, eqb-true, lt-ltb, ne_eqb}
use Rattle.std.proofs.lemmas.List.{get_or_append_left, get_or-drop, get_or-take, length-map, length-take-le, map-id, take-append-le}
use Rattle.std.proofs.lemmas.List.Sums.{fails_before_first, passes_at_first, position_or_len_is}
use Rattle.std.proofs.lemmas.Nat.{and_mask, and_le_r}
use Rattle.std.proofs.lemmas.Nat.Bits.{and_pow, bit_at-lt}
use Rattle.std.proofs.lemmas.Slice.{drop-append-drop}
use Rattle.std.proofs.lemmas.Simd.{swz_l, SwzOk, SwzOk-from_below, get_or-swz_l_below, zip2_splat, zip2_of_maps, bitmask_splat, bit_mask_l, mask_l-mod, tops_compared, map-map, run_in_chunk_le, run_in_chunk_fails, run_in_chunk_stops}
use Rattle.memchr.specs.Find.{IsFirstByte, Passes}
use Rattle.memchr.proofs.lemmas.FindLemmas.{IsFirst-agree}
use Rattle.cmark_search.specs.Sets.{column_of, in_keys, in_rows, row_of}
use Rattle.cmark_search.specs.declared.search.TheConstants.{BITS}

-- ---- lanes that are indices into a table of sixteen

each_below : {P : ℕ → Type 0} (f : ℕ → ℕ) → ((x : ℕ) → P x → f x < 16) → (xs : List ℕ) → Each1 P xs → Each1 (λ j. j < 16) (map f xs)
each_below f small [] each = tt
each_below f small (x ∷ xs) each = (small x each.0, each_below f small xs each.1)

looked_up : (table : List ℕ) (i : ℕ) (places : List ℕ) → i + length places ≤ 16 → Each1 (λ j. j < 16) places → swz_l w8 16 table i places ≡ map (λ j. get_or table j 0) places
looked_up table i [] room small = refl
looked_up table i (j ∷ places) room small =
    let head = get_or-swz_l_below w8 16 table i (j ∷ places) 0 (omega arith) small.0 ∙ ap (λ n. get_or table n 0) (omega arith) in
    λ k. head k ∷ looked_up table (suc i) places (omega arith) small.1 k

-- a look-up by indices that are computed from lanes
module _ (f : ℕ → ℕ) (small : (x : ℕ) → Fits w8 x → f x < 16) (lanes : List ℕ) (long : length lanes ≡ 16) (fits : Each1 (Fits w8) lanes) where
  pub places_ok : SwzOk w8 16 16 0 (map f lanes)
  places_ok = SwzOk-from_below w8 16 1 16 0 (map f lanes) refl (omega (arith, length-map lanes f)) (each_below f small lanes fits)

  pub places_read : (table : List ℕ) → swz_l w8 16 table 0 (map f lanes) ≡ map (λ x. get_or table (f x) 0) lanes
  places_read table = looked_up table 0 (map f lanes) (omega (arith, length-map lanes f)) (each_below f small lanes fits) ∙ map-map (λ j. get_or table j 0) f lanes

low_small : (x : ℕ) → Fits w8 x → x % 16 < 16
low_small x fits = omega arith

high_small : (x : ℕ) → Fits w8 x → x / 16 < 16
high_small x fits = omega (arith, fits.fits)

module _ (lanes : List ℕ) (long : length lanes ≡ 16) (fits : Each1 (Fits w8) lanes) where
  lows : zip2 bit_and lanes (replicate 16 15) ≡ map (λ x. x % 16) lanes
  lows = zip2_splat bit_and lanes 16 15 long ∙ (λ i. map (λ x. and_mask x 4 i) lanes)

  highs : zip2 (λ a b. a / 2 ^ b) lanes (replicate 16 4) ≡ map (λ x. x / 16) lanes
  highs = zip2_splat (λ a b. a / 2 ^ b) lanes 16 4 long

  pub low_ok : SwzOk w8 16 16 0 (zip2 bit_and lanes (replicate 16 15))
  low_ok = subst (SwzOk w8 16 16 0) (sym lows) (places_ok (λ x. x % 16) low_small lanes long fits)

  pub high_ok : SwzOk w8 16 16 0 (zip2 (λ a b. a / 2 ^ b) lanes (replicate 16 4))
  high_ok = subst (SwzOk w8 16 16 0) (sym highs) (places_ok (λ x. x / 16) high_small lanes long fits)

  pub low_read : (table : List ℕ) → swz_l w8 16 table 0 (zip2 bit_and lanes (replicate 16 15)) ≡ map (λ x. get_or table (x % 16) 0) lanes
  low_read table = ap (swz_l w8 16 table 0) lows ∙ places_read (λ x. x % 16) low_small lanes long fits table

  pub high_read : (table : List ℕ) → swz_l w8 16 table 0 (zip2 (λ a b. a / 2 ^ b) lanes (replicate 16 4)) ≡ map (λ x. get_or table (x / 16) 0) lanes
  high_read table = ap (swz_l w8 16 table 0) highs ∙ places_read (λ x. x / 16) high_small lanes long fits table

-- ---- the marks

-- the bits that select a byte's high digit
bits_are : (place : ℕ) → place < 16 → get_or BITS.now place 0 ≡ (if nat_lt place 8 then 2 ^ place else 0)
bits_are place small = eqb-true _ _ (agree_below_at (λ n. get_or BITS.now n 0 == (if nat_lt n 8 then 2 ^ n else 0)) (λ _. true) 16 place refl small)

bit_is : (row place : ℕ) → not (bit_and row (2 ^ place) == 0) ≡ (bit_at row place == 1)
bit_is row place = go (bit_at row place) (bit_at-lt row place) (and_pow row place)
  where
    go : (b : ℕ) → b < 2 → bit_and row (2 ^ place) ≡ b * 2 ^ place → not (bit_and row (2 ^ place) == 0) ≡ (b == 1)
    go zero small is = ap (λ n. not (n == 0)) (let none : bit_and row (2 ^ place) ≡ 0 = omega arith in none)
    go (suc zero) small is = ap not (ne_eqb (bit_and row (2 ^ place)) 0 (λ none. absurd (omega (arith, pow_pos place))))
    go (suc (suc b)) small is = absurd (omega arith)

-- whether a lane is marked
lane_is : (row place : ℕ) → place < 16 → not (bit_and row (get_or BITS.now place 0) == 0) ≡ (nat_lt place 8 && (bit_at row place == 1))
lane_is row place small = ap (λ bits. not (bit_and row bits == 0)) (bits_are place small) ∙ go (nat_lt place 8)
  where
    go : (t : Bool) → not (bit_and row (if t then 2 ^ place else 0) == 0) ≡ (t && (bit_at row place == 1))
    go true = bit_is row place
    go false = ap (λ n. not (n == 0)) (let none : bit_and row 0 ≡ 0 = omega (arith, and_le_r row 0) in none)

pub byte_is : (rows : List ℕ) (b : ℕ) → b < 256 → not (bit_and (get_or rows (b % 16) 0) (get_or BITS.now (b / 16) 0) == 0) ≡ in_rows rows b
byte_is rows b small = lane_is (get_or rows (b % 16) 0) (b / 16) (omega arith)

module _ (rows : List ℕ) where
  lanes_are : (lanes : List ℕ) → Each1 (Fits w8) lanes → map (λ x. not (eqb (bit_and (get_or rows (x % 16) 0) (get_or BITS.now (x / 16) 0)) 0)) lanes ≡ map (in_rows rows) lanes
  lanes_are [] fits = refl
  lanes_are (x ∷ lanes) fits =
      let head : not (eqb (bit_and (get_or rows (x % 16) 0) (get_or BITS.now (x / 16) 0)) 0) ≡ in_rows rows x = byte_is rows x fits.0.fits in
      λ k. head k ∷ lanes_are lanes fits.1 k

  module _ (lanes : List ℕ) (long : length lanes ≡ 16) (fits : Each1 (Fits w8) lanes) where
    abbrev pub common : List ℕ
    common = zip2 bit_and (swz_l w8 16 rows 0 (zip2 bit_and lanes (replicate 16 15))) (swz_l w8 16 BITS.now 0 (zip2 (λ a b. a / 2 ^ b) lanes (replicate 16 4)))

    commons : common ≡ map (λ x. bit_and (get_or rows (x % 16) 0) (get_or BITS.now (x / 16) 0)) lanes
    commons = zip2_of_maps bit_and (λ x. get_or rows (x % 16) 0) (λ x. get_or BITS.now (x / 16) 0) lanes (low_read lanes long fits rows) (high_read lanes long fits BITS.now)

    marked : mask_l (map (top 7) (zip2 (λ a b. cond (not (eqb a b)) 255 0) common (replicate 16 0))) % 2 ^ 64 ≡ mask_l (map (in_rows rows) lanes)
    marked =
        bitmask_splat w8 (λ a b. not (eqb a b)) common 16 0 (ap length commons ∙ length-map lanes _ ∙ long) (omega arith)
        ∙ ap (λ l. mask_l (map (λ x. not (eqb x 0)) l)) commons
        ∙ ap mask_l (map-map (λ x. not (eqb x 0)) (λ x. bit_and (get_or rows (x % 16) 0) (get_or BITS.now (x / 16) 0)) lanes ∙ lanes_are lanes fits)

    -- a look-up in rows that were read as a vector
    pub marked-read : (table : List ℕ) → table ≡ rows
        → mask_l (map (top 7) (zip2 (λ a b. cond (not (eqb a b)) 255 0) (zip2 bit_and (swz_l w8 16 table 0 (zip2 bit_and lanes (replicate 16 15))) (swz_l w8 16 BITS.now 0 (zip2 (λ a b. a / 2 ^ b) lanes (replicate 16 4)))) (replicate 16 0))) % 2 ^ 64
        ≡ mask_l (map (in_rows rows) lanes)
    marked-read table same =
        ap (λ (t : List ℕ). mask_l (map (top 7) (zip2 (λ a b. cond (not (eqb a b)) 255 0) (zip2 bit_and (swz_l w8 16 t 0 (zip2 bit_and lanes (replicate 16 15))) (swz_l w8 16 BITS.now 0 (zip2 (λ a b. a / 2 ^ b) lanes (replicate 16 4)))) (replicate 16 0))) % 2 ^ 64) same
        ∙ marked

-- ---- the marks of a set that is given by its keys

module _ (keys lanes : List ℕ) (long : length lanes ≡ 16) (fits : Each1 (Fits w8) lanes) where
  abbrev pub sought : (table : List ℕ) → List ℕ
  sought table = swz_l w8 16 table 0 (zip2 bit_and lanes (replicate 16 15))

  same-lanes : zip2 eqb (sought keys) lanes ≡ map (in_keys keys) lanes
  same-lanes = zip2_of_maps eqb (λ x. get_or keys (x % 16) 0) (λ x. x) lanes (low_read lanes long fits keys) (sym (map-id lanes))

  -- the keys were read as a vector
  pub marked-keys : (table : List ℕ) → table ≡ keys → mask_l (map (top 7) (zip2 (λ a b. cond (eqb a b) 255 0) (sought table) lanes)) % 2 ^ 64 ≡ mask_l (map (in_keys keys) lanes)
  marked-keys table same =
      ap (λ (t : List ℕ). mask_l (map (top 7) (zip2 (λ a b. cond (eqb a b) 255 0) (sought t) lanes)) % 2 ^ 64) same
      ∙ ap (λ ms. mask_l ms % 2 ^ 64) (tops_compared w8 eqb (sought keys) lanes ∙ same-lanes)
      ∙ mask_l-mod (map (in_keys keys) lanes) 64 (omega (arith, length-map lanes (in_keys keys), long))

-- ---- the set of a table

-- the bits of a row, one by one
bit_of_row : (table : List Bool) (low high : ℕ) → high < 8 → bit_at (row_of table low) high ≡ cond (get_or table (low + 16 * high) false) 1 0
bit_of_row table low high small = bit_mask_l (column_of table low) high ∙ ap (λ b. cond b 1 0) (entry high small)
  where
    has : (a b : ℕ) → a ≡ b → get_or table a false ≡ get_or table b false
    has a b same = ap (λ n. get_or table n false) same

    entry : (h : ℕ) → h < 8 → get_or (column_of table low) h false ≡ get_or table (low + 16 * h) false
    entry zero l = has low (low + 16 * 0) (omega arith)
    entry (suc zero) l = has (low + 16) (low + 16 * 1) (omega arith)
    entry (suc (suc zero)) l = has (low + 32) (low + 16 * 2) (omega arith)
    entry (suc (suc (suc zero))) l = has (low + 48) (low + 16 * 3) (omega arith)
    entry (suc (suc (suc (suc zero)))) l = has (low + 64) (low + 16 * 4) (omega arith)
    entry (suc (suc (suc (suc (suc zero))))) l = has (low + 80) (low + 16 * 5) (omega arith)
    entry (suc (suc (suc (suc (suc (suc zero)))))) l = has (low + 96) (low + 16 * 6) (omega arith)
    entry (suc (suc (suc (suc (suc (suc (suc zero))))))) l = has (low + 112) (low + 16 * 7) (omega arith)
    entry (suc (suc (suc (suc (suc (suc (suc (suc h)))))))) l = absurd (omega arith)

is_one : (b : Bool) → (cond {A = ℕ} b 1 0 == 1) ≡ b
is_one true = refl
is_one false = refl

-- rows made of a table have the bytes of the table
pub in_rows-of_table : (table : List Bool) (rows : List ℕ) → ((low : ℕ) → low < 16 → get_or rows low 0 ≡ row_of table low) → (byte : ℕ) → byte < 128 → in_rows rows byte ≡ get_or table byte false
in_rows-of_table table rows made byte small =
    let place : byte % 16 + 16 * (byte / 16) ≡ byte = omega arith in
    ap (λ t. t && (bit_at (get_or rows (byte % 16) 0) (byte / 16) == 1)) (lt-ltb (byte / 16) 8 (omega arith))
    ∙ ap (λ row. bit_at row (byte / 16) == 1) (made (byte % 16) (omega arith)) ∙ ap (λ n. n == 1) (bit_of_row table (byte % 16) (byte / 16) (omega arith)) ∙ is_one (get_or table (byte % 16 + 16 * (byte / 16)) false)
    ∙ ap (λ n. get_or table n false) place

-- ---- searches

marked_step : (b : Bool) (n m l : ℕ) → 0 < cond b 1 0 + 2 * n → (0 < n → m < l) → cond (not b) (1 + m) 0 < suc l
marked_step true n m l some within = omega arith
marked_step false n m l some within = omega (arith, within (omega arith))

-- if a lane is marked, the first lane in the set is one of the lanes
pub first-within : (p : ℕ → Bool) (xs : List ℕ) → 0 < mask_l (map p xs) → position_or_len p xs < length xs
first-within p [] some = absurd (omega arith)
first-within p (x ∷ xs) some = marked_step (p x) (mask_l (map p xs)) (position_or_len p xs) (length xs) some (first-within p xs)

-- sixteen bytes from `at` on were looked at, and `passed` of them are before the first byte in the set
module _ (p : ℕ → Bool) (bs : List ℕ) (at passed : ℕ) (room : at + 16 ≤ length bs) (is : passed ≡ position_or_len p (take 16 (drop at bs))) (before : (k : ℕ) → k < at → p (get_or bs k 0) ≡ false) where
  pub step-le : passed ≤ 16
  step-le = run_in_chunk_le p bs at 16 passed 0 room is

  pub step-fails : (k : ℕ) → k < at + passed → p (get_or bs k 0) ≡ false
  step-fails k low =
      elim (cases_lt k at) [
        | inl below ↦ before k below
        | inr from ↦ run_in_chunk_fails p bs at 16 passed 0 room is k (omega arith) low
      ]

  -- the search ends there, or at the end of the bytes
  pub step-place : (16 ≤ passed → length bs ≤ at + 16) → at + passed ≡ position_or_len p bs
  step-place last = sym (position_or_len_is p bs (at + passed) 0 (omega (arith, step-le)) step-fails here)
    where
      here : at + passed < length bs → p (get_or bs (at + passed) 0) ≡ true
      here below =
          elim (cases_lt passed 16) [
            | inl found ↦ run_in_chunk_stops p bs at 16 passed 0 room is found
            | inr none ↦ absurd (let end = last (omega arith) in omega arith)
          ]

-- `n` bytes from `at` on were looked at, and `passed` of them are before the first byte in the set; the bytes from `from` up to `at` are
-- outside the set too
module _ (p : ℕ → Bool) (bs : List ℕ) (from at n passed : ℕ) (room : at + n ≤ length bs) (is : passed ≡ position_or_len p (take n (drop at bs))) (before : (k : ℕ) → from ≤ k → k < at → p (get_or bs k 0) ≡ false) where
  pub chunk-fails : (k : ℕ) → from ≤ k → k < at + passed → p (get_or bs k 0) ≡ false
  chunk-fails k high low =
      elim (cases_lt k at) [
        | inl below ↦ before k high below
        | inr following ↦ run_in_chunk_fails p bs at n passed 0 room is k (omega arith) low
      ]

  pub chunk-le : passed ≤ n
  chunk-le = run_in_chunk_le p bs at n passed 0 room is

  pub chunk-stops : passed < n → p (get_or bs (at + passed) 0) ≡ true
  chunk-stops found = run_in_chunk_stops p bs at n passed 0 room is found

-- a search from one offset up to another ends at the first byte in the set, or at the second offset
pub place-within : (p : ℕ → Bool) (bs : List ℕ) (from at to : ℕ) → from ≤ at → at ≤ to → to ≤ length bs
    → ((k : ℕ) → from ≤ k → k < at → p (get_or bs k 0) ≡ false) → (at < to → p (get_or bs at 0) ≡ true)
    → at ≡ from + position_or_len p (drop from (take to bs))
place-within p bs from at to order within inside fails here =
    let is = position_or_len_is p rest (at - from) 0 (omega (arith, long)) (λ k low. ap p (read k (omega arith)) ∙ fails (from + k) (omega arith) (omega arith)) stops in
    omega (arith, is)
  where
    rest : List ℕ
    rest = drop from (take to bs)

    long : length rest ≡ to - from
    long = length-drop from (take to bs) ∙ ap (λ n. n - from) (length-take-le to bs inside)

    read : (k : ℕ) → from + k < to → get_or rest k 0 ≡ get_or bs (from + k) 0
    read k low = get_or-drop from (take to bs) k 0 ∙ get_or-take to bs (from + k) 0 low

    stops : at - from < length rest → p (get_or rest (at - from) 0) ≡ true
    stops low =
        let place : from + (at - from) ≡ at = omega arith in
        let below : at < to = omega (arith, long, low) in
        ap p (read (at - from) (omega arith)) ∙ ap (λ n. p (get_or bs n 0)) place ∙ here below

-- the first byte in the set, searched in a longer list that begins with these bytes
pub front-place : (p : ℕ → Bool) (bs more : List ℕ) → min (position_or_len p (bs ++ more)) (length bs) ≡ position_or_len p bs
front-place p bs more = sym (position_or_len_is p bs at 0 (omega arith) before here)
  where
    at : ℕ
    at = min (position_or_len p (bs ++ more)) (length bs)

    before : (k : ℕ) → k < at → p (get_or bs k 0) ≡ false
    before k low = ap p (sym (get_or_append_left bs more 0 k (omega arith))) ∙ fails_before_first p (bs ++ more) k 0 (omega arith)

    here : at < length bs → p (get_or bs at 0) ≡ true
    here below = let is : at ≡ position_or_len p (bs ++ more) = omega arith in
        ap p (sym (get_or_append_left bs more 0 at below)) ∙ ap (λ n. p (get_or (bs ++ more) n 0)) is ∙ passes_at_first p (bs ++ more) 0 (omega (arith, length-append bs more, is))

-- bytes were written to the front of a row: their first `size` and their last `size`, which together are all of them
pub ends-written : (bytes row : List ℕ) (size : ℕ) → size ≤ length bytes → length bytes ≤ size + size
    → put_mid (length bytes - size) (length bytes - (length bytes - size)) (take size bytes ++ post_of 0 size row) (drop (length bytes - size) bytes) ≡ bytes ++ drop (length bytes) row
ends-written bytes row size fits all = (λ i. front i ++ (drop at bytes ++ following i)) ∙ whole
  where
    at : ℕ
    at = length bytes - size

    written : List ℕ
    written = take size bytes ++ drop size row

    within : at ≤ length (take size bytes)
    within = omega (arith, length-take-le size bytes fits)

    front : take at written ≡ take at bytes
    front = take-append-le at (take size bytes) (drop size row) within ∙ sym (take-append-le at (take size bytes) (drop size bytes) within) ∙ ap (take at) (take-append-drop size bytes)

    following : drop (length bytes - at) (drop at written) ≡ drop (length bytes) row
    following = drop-drop (length bytes - at) at written ∙ ap (λ n. drop n written) (omega arith) ∙ drop-append-drop size row (take size bytes) (length bytes) fits (length-take-le size bytes fits)

    whole : take at bytes ++ (drop at bytes ++ drop (length bytes) row) ≡ bytes ++ drop (length bytes) row
    whole = sym (append_assoc (take at bytes) (drop at bytes) (drop (length bytes) row)) ∙ ap (λ l. l ++ drop (length bytes) row) (take-append-drop at bytes)

-- the number of bytes before the first byte in the set is its offset
pub first-place : (p : ℕ → Bool) (bs : List ℕ) (at : ℕ) → at ≡ position_or_len p bs → at < length bs → IsFirstByte p bs (Some at)
first-place p bs at is below = (
  record {
    low = omega arith;
    high = below;
    before = λ k low high here. both_ways (p (get_or bs k 0)) (fails_before_first p bs k 0 (omega (arith, is))) here;
  },
  ap (λ n. p (get_or bs n 0)) is ∙ passes_at_first p bs 0 (omega (arith, is)),
)

pub no-place : (p : ℕ → Bool) (bs : List ℕ) (at : ℕ) → at ≡ position_or_len p bs → length bs ≤ at → IsFirstByte p bs None
no-place p bs at is past k low high here = both_ways (p (get_or bs k 0)) (fails_before_first p bs k 0 (omega (arith, is))) here

-- a search for one test is a search for another that agrees on bytes
pub first-same : (p q : ℕ → Bool) (bs : List ℕ) (found : Option ℕ) → ((b : ℕ) → b < 256 → p b ≡ q b) → ((k : ℕ) → get_or bs k 0 < 256) → IsFirstByte p bs found → IsFirstByte q bs found
first-same p q bs found agree bytes =
    IsFirst-agree (Passes p bs) (Passes q bs) 0 (length bs) (λ k below here. sym (agree (get_or bs k 0) (bytes k)) ∙ here) (λ k below here. agree (get_or bs k 0) (bytes k) ∙ here) found

-- a byte that is looked up in the first bytes of a list is a byte of the list, or 0
pub small-before : (bs : List ℕ) (n k : ℕ) → ((j : ℕ) → get_or bs j 0 < 256) → get_or (take n bs) k 0 < 256
small-before bs zero k small = lit< tt
small-before [] (suc n) k small = lit< tt
small-before (b ∷ bs) (suc n) zero small = small 0
small-before (b ∷ bs) (suc n) (suc k) small = small-before bs n k (λ j. small (suc j))
