-- The open runs that searches examine are paid for by the stack: fifteen for each run on it, less the heights of the bottoms.
use Rattle.std.proofs.Common.{◌≡◌, ◌≢◌, ◌⊎◌, inl, inr, ℕ, zero, suc, ◌+◌, ◌-◌, ◌*◌, ◌<◌, ◌≤◌, Bool, true, false, not, ◌&&◌, ◌||◌, ◌==◌, if◌then◌else◌, nat_lt, List, [], ◌∷◌, ◌++◌, length, length-append, Option, Some, None, get_or, refl, sym, ap, ◌∙◌, arith, true≢false}
use Rattle.std.specs.Prelude.{min, slice_set, take}
use Rattle.std.proofs.lemmas.Bool.{cases_eq, cases_lt, and_parts, lt-ltb, ltb-true}
use Rattle.std.proofs.lemmas.List.{get_or-set_same, get_or-set_other, length-take-le}
use Rattle.cmark_grammar.specs.Emphasis.{Run, deactivates, is_tilde_or_caret, rest_of_closer, rest_of_opener}
use Rattle.cmark_emphasis.specs.Bottoms.{AreBottoms, bottom_of, class_of, or_other, rank}
use Rattle.cmark_emphasis.specs.Counts.{IsKnown, heights_of, is_run_of, put_back, searches, total_of}
use Rattle.cmark_emphasis.specs.Nearest.{with_opener, with_rest}
use Rattle.cmark_emphasis.specs.Shown.{shown_run}
use Rattle.cmark_emphasis.specs.declared.bottom.OpenersBottom.{OpenersBottom}
use Rattle.cmark_emphasis.specs.declared.run.Run as code_run
use Rattle.cmark_emphasis.proofs.Agreeing.{class_no_tilde}

-- ## Heights

-- a closing run of each class
abbrev of_class : (delimiter n : ℕ) → (both : Bool) → Run
of_class delimiter n both = record { delimiter = delimiter; run_length = n; at = 0; left = 1; opens = both; closes = true }

in_class : (class : ℕ) → class < 13 → (run : Run) × (class_of run ≡ Some class)
in_class zero lt = (of_class 42 0 false, refl)
in_class (suc zero) lt = (of_class 42 1 false, refl)
in_class (suc (suc zero)) lt = (of_class 42 2 false, refl)
in_class (suc (suc (suc zero))) lt = (of_class 42 0 true, refl)
in_class (suc (suc (suc (suc zero)))) lt = (of_class 42 1 true, refl)
in_class (suc (suc (suc (suc (suc zero))))) lt = (of_class 42 2 true, refl)
in_class (suc (suc (suc (suc (suc (suc zero)))))) lt = (of_class 95 0 false, refl)
in_class (suc (suc (suc (suc (suc (suc (suc zero))))))) lt = (of_class 95 1 false, refl)
in_class (suc (suc (suc (suc (suc (suc (suc (suc zero)))))))) lt = (of_class 95 2 false, refl)
in_class (suc (suc (suc (suc (suc (suc (suc (suc (suc zero))))))))) lt = (of_class 95 0 true, refl)
in_class (suc (suc (suc (suc (suc (suc (suc (suc (suc (suc zero)))))))))) lt = (of_class 95 1 true, refl)
in_class (suc (suc (suc (suc (suc (suc (suc (suc (suc (suc (suc zero))))))))))) lt = (of_class 95 2 true, refl)
in_class (suc (suc (suc (suc (suc (suc (suc (suc (suc (suc (suc (suc zero)))))))))))) lt = (of_class 61 2 false, refl)
in_class (suc (suc (suc (suc (suc (suc (suc (suc (suc (suc (suc (suc (suc n))))))))))))) lt = absurd (omega (arith, lt))

-- no height is above the stack
pub height-within : (bottoms : OpenersBottom) (stack : List code_run.Run) → AreBottoms bottoms stack → (class : ℕ) → class < 13 → get_or bottoms.heights class 0 ≤ length stack
height-within bottoms stack h class lt = let c = in_class class lt in (h.emphasis c.0 class c.1).within

-- each of thirteen numbers is at most another number plus `more`; so are their sums, with thirteen times `more`
thirteen : (f g : ℕ → ℕ) (more : ℕ) → ((class : ℕ) → class < 13 → f class ≤ g class + more) → (xs ys : List ℕ) → ((class : ℕ) → f class ≡ get_or xs class 0) → ((class : ℕ) → g class ≡ get_or ys class 0) → heights_of 13 xs ≤ heights_of 13 ys + 13 * more
thirteen f g more h xs ys e d =
    let at : (class : ℕ) → class < 13 → get_or xs class 0 ≤ get_or ys class 0 + more = λ class lt. omega (arith, h class lt, e class, d class) in
    omega (arith, at 0 (omega arith), at 1 (omega arith), at 2 (omega arith), at 3 (omega arith), at 4 (omega arith), at 5 (omega arith), at 6 (omega arith), at 7 (omega arith), at 8 (omega arith), at 9 (omega arith), at 10 (omega arith), at 11 (omega arith), at 12 (omega arith))

abbrev none : List ℕ
none = []

pub total-within : (bottoms : OpenersBottom) (stack : List code_run.Run) → AreBottoms bottoms stack → total_of bottoms ≤ 14 * length stack
unfolding total_of
total-within bottoms stack h =
    let all = thirteen (λ class. get_or bottoms.heights class 0) (λ class. get_or none class 0) (length stack) (λ class lt. omega (arith, height-within bottoms stack h class lt)) bottoms.heights none (λ class. refl) (λ class. refl) in
    omega (arith, all, h.inactive_below)

-- the stack is cut, and all heights with it
pub total-falls : (old new : OpenersBottom) (stack : List code_run.Run) (height : ℕ) → AreBottoms old stack → ((class : ℕ) → class < 13 → get_or new.heights class 0 ≡ min (get_or old.heights class 0) height) → new.inactive_below ≡ min old.inactive_below height → total_of old ≤ total_of new + 14 * (length stack - height)
unfolding total_of
total-falls old new stack height h heights inactive_below =
    let all = thirteen (λ class. get_or old.heights class 0) (λ class. get_or new.heights class 0) (length stack - height) (λ class lt. at class lt (cases_lt height (get_or old.heights class 0))) old.heights new.heights (λ class. refl) (λ class. refl) in
    under (cases_lt height old.inactive_below) all
  where
    at : (class : ℕ) → class < 13 → (height < get_or old.heights class 0) ⊎ (get_or old.heights class 0 ≤ height) → get_or old.heights class 0 ≤ get_or new.heights class 0 + (length stack - height)
    at class lt (inl high) = omega (arith, heights class lt, height-within old stack h class lt, high)
    at class lt (inr low) = omega (arith, heights class lt, low)

    under : (height < old.inactive_below) ⊎ (old.inactive_below ≤ height) → heights_of 13 old.heights ≤ heights_of 13 new.heights + 13 * (length stack - height) → heights_of 13 old.heights + old.inactive_below ≤ (heights_of 13 new.heights + new.inactive_below) + 14 * (length stack - height)
    under (inl high) all = omega (arith, all, inactive_below, h.inactive_below, high)
    under (inr low) all = omega (arith, all, inactive_below, low)

-- one height is replaced
heights-set : (classes : ℕ) (heights : List ℕ) (class height : ℕ) → class < length heights → class < classes → heights_of classes (slice_set heights class height) + get_or heights class 0 ≡ heights_of classes heights + height
heights-set zero heights class height there lt = absurd (omega (arith, lt))
heights-set (suc n) heights class height there lt = go (cases_eq class n) (λ less. heights-set n heights class height there less)
  where
    before : (m : ℕ) → m ≤ class → heights_of m (slice_set heights class height) ≡ heights_of m heights
    before zero le = refl
    before (suc m) le = ap (λ k. k + heights_of m (slice_set heights class height)) (get_or-set_other heights class m height 0 (omega (arith, le))) ∙ ap (λ k. get_or heights m 0 + k) (before m (omega (arith, le)))

    go : (class ≡ n) ⊎ (class ≢ n) → (class < n → heights_of n (slice_set heights class height) + get_or heights class 0 ≡ heights_of n heights + height) → heights_of (suc n) (slice_set heights class height) + get_or heights class 0 ≡ heights_of (suc n) heights + height
    go (inl same) further =
        let now : get_or (slice_set heights class height) n 0 ≡ height = ap (λ k. get_or (slice_set heights class height) k 0) (sym same) ∙ get_or-set_same heights class height 0 there in
        let was : get_or heights class 0 ≡ get_or heights n 0 = ap (λ k. get_or heights k 0) same in
        let others = before n (omega (arith, same)) in
        omega (arith, now, was, others)
    go (inr differs) further =
        let i = further (omega (arith, lt, differs)) in
        let now : get_or (slice_set heights class height) n 0 ≡ get_or heights n 0 = get_or-set_other heights class n height 0 (λ e. differs (sym e)) in
        omega (arith, i, now)

pub class-rises : (bottoms : OpenersBottom) (closer : Run) (class height : ℕ) → class_of closer ≡ Some class → class < length bottoms.heights → class < 13 → total_of (record { heights = slice_set bottoms.heights class height; inactive_below = bottoms.inactive_below }) + bottom_of bottoms closer ≡ total_of bottoms + height
unfolding total_of
class-rises bottoms closer class height is there lt =
    let low : bottom_of bottoms closer ≡ get_or bottoms.heights class 0 = rw is refl in
    let set = heights-set 13 bottoms.heights class height there lt in
    omega (arith, low, set)

pub inactive-rises : (bottoms : OpenersBottom) (closer : Run) (height : ℕ) → is_tilde_or_caret closer.delimiter ≡ true → total_of (record { heights = bottoms.heights; inactive_below = height }) + bottom_of bottoms closer ≡ total_of bottoms + height
unfolding total_of
inactive-rises bottoms closer height tilde = go (class_of closer) refl
  where
    go : (o : Option ℕ) → class_of closer ≡ o → (heights_of 13 bottoms.heights + height) + bottom_of bottoms closer ≡ (heights_of 13 bottoms.heights + bottoms.inactive_below) + height
    go None e =
        let low : bottom_of bottoms closer ≡ bottoms.inactive_below = rw e (rw tilde refl) in
        omega (arith, low)
    go (Some class) e = absurd (true≢false (sym tilde ∙ class_no_tilde closer class e))

-- ## Searches

pub tilde-deactivates : (closer : Run) → deactivates closer ≡ true → is_tilde_or_caret closer.delimiter ≡ true
unfolding deactivates
tilde-deactivates closer e = (and_parts (nat_lt 0 closer.left) (is_tilde_or_caret closer.delimiter) (and_parts closer.closes _ e).1).1

pub searching : (run : Run) → not run.closes ≡ false → 0 < run.left → searches run ≡ true
searching run e lt = go run.closes e
  where
    go : (b : Bool) → not b ≡ false → (b && nat_lt 0 run.left) ≡ true
    go true h = lt-ltb 0 run.left lt
    go false h = sym h

pub searching-deactivates : (closer : Run) → deactivates closer ≡ true → searches closer ≡ true
unfolding deactivates
searching-deactivates closer e = go closer.closes (nat_lt 0 closer.left) e
  where
    go : (a b : Bool) → (a && (b && is_tilde_or_caret closer.delimiter)) ≡ true → (a && b) ≡ true
    go true true h = refl
    go true false h = h
    go false b h = h

pub not-deactivating : (closer : Run) → deactivates closer ≡ false → searches closer ≡ true → is_tilde_or_caret closer.delimiter ≡ false
unfolding deactivates
not-deactivating closer e s = go closer.closes (nat_lt 0 closer.left) (is_tilde_or_caret closer.delimiter) e s
  where
    go : (a b t : Bool) → (a && (b && t)) ≡ false → (a && b) ≡ true → t ≡ false
    go true true t h k = h
    go true false t h k = absurd (true≢false (sym k))
    go false b t h k = absurd (true≢false (sym k))

-- a run whose delimiter is neither a tilde nor a caret has a class
pub has-class : (run : Run) → is_run_of run.delimiter run.run_length ≡ true → is_tilde_or_caret run.delimiter ≡ false → class_of run ≡ None → ⊥
has-class run known plain e = go (run.delimiter == 42) (run.delimiter == 95) (is_tilde_or_caret run.delimiter) ((run.delimiter == 61) && (run.run_length == 2)) known plain e
  where
    go : (a b t d : Bool) → (a || (b || (t || d))) ≡ true → t ≡ false → (if a then Some (rank run) else if b then Some (6 + rank run) else if d then Some 12 else None) ≡ None → ⊥
    go true b t d h k e = (let q : Some (rank run) ≡ None = e in cc)
    go false true t d h k e = (let q : Some (6 + rank run) ≡ None = e in cc)
    go false false true d h k e = true≢false k
    go false false false true h k e = (let q : Some 12 ≡ None = e in cc)
    go false false false false h k e = true≢false (sym h)

-- ## Runs that are put back

pub put_back-most : (left : ℕ) → put_back left ≤ 15
put_back-most left = go (nat_lt 0 left)
  where
    go : (b : Bool) → (if b then 0 else 15) ≤ 15
    go true = omega arith
    go false = omega arith

pub put_back-none : (left : ℕ) → 0 < left → put_back left ≡ 0
put_back-none left lt = rw (lt-ltb 0 left lt) refl

pub put_back-all : (left : ℕ) → left ≡ 0 → put_back left ≡ 15
put_back-all left e = ap put_back e

length-rest : (r : code_run.Run) (stack : List code_run.Run) → (length (with_rest r stack) ≡ length stack) ⊎ (length (with_rest r stack) ≡ length stack + 1) × (0 < r.left)
length-rest r stack = go (nat_lt 0 r.left) refl
  where
    go : (b : Bool) → nat_lt 0 r.left ≡ b → (length (if b then stack ++ r ∷ [] else stack) ≡ length stack) ⊎ (length (if b then stack ++ r ∷ [] else stack) ≡ length stack + 1) × (0 < r.left)
    go true e = inr (length-append stack (r ∷ []), ltb-true 0 r.left e)
    go false e = inl refl

-- if bytes of the open run are left, no byte of the closing run is left
pub rest-pays : (o c : Run) (r : code_run.Run) (front : List code_run.Run) → shown_run r ≡ rest_of_opener o c → 15 * length (with_rest r front) ≤ 15 * length front + put_back (rest_of_closer o c).left
unfolding rest_of_opener rest_of_closer
rest-pays o c r front e = go (length-rest r front) (nat_lt o.left c.left) refl (ap (λ (x : Run). x.left) e)
  where
    go : (length (with_rest r front) ≡ length front) ⊎ (length (with_rest r front) ≡ length front + 1) × (0 < r.left) → (b : Bool) → nat_lt o.left c.left ≡ b → r.left ≡ o.left - (if b then o.left else c.left)
        → 15 * length (with_rest r front) ≤ 15 * length front + put_back (c.left - (if b then o.left else c.left))
    go (inl same) b p l = omega (arith, same)
    go (inr more) true p l = absurd (omega (arith, more.1, l))
    go (inr more) false p l = let all : put_back (c.left - c.left) ≡ 15 = put_back-all (c.left - c.left) (omega arith) in omega (arith, more.0, all)

pub opener-pays : (r : code_run.Run) (stack : List code_run.Run) → 15 * length (with_opener r stack) + put_back r.left ≤ 15 * length stack + 15
opener-pays r stack = go r.opens
  where
    go : (b : Bool) → 15 * length (if b then with_rest r stack else stack) + put_back r.left ≤ 15 * length stack + 15
    go true = by (length-rest r stack)
      where
        by : (length (with_rest r stack) ≡ length stack) ⊎ (length (with_rest r stack) ≡ length stack + 1) × (0 < r.left) → 15 * length (with_rest r stack) + put_back r.left ≤ 15 * length stack + 15
        by (inl same) = omega (arith, same, put_back-most r.left)
        by (inr more) = let none = put_back-none r.left more.1 in omega (arith, more.0, none)
    go false = omega (arith, put_back-most r.left)

-- ## Steps of a run that closes

-- one pair
pub pair-pays : (o c : Run) (r : code_run.Run) (old new : OpenersBottom) (stack front next : List code_run.Run) (i before examined later bound : ℕ) → 0 < c.left → i < length stack → front ≡ take i stack → next ≡ with_rest r front → shown_run r ≡ rest_of_opener o c
    → total_of old ≤ total_of new + 14 * (length stack - i) → later ≡ examined + (length stack - i) → examined + 15 * length stack + before ≤ bound + total_of old + put_back c.left
    → later + 15 * length next + before ≤ bound + total_of new + put_back (rest_of_closer o c).left
pair-pays o c r old new stack front next i before examined later bound some lt f n s falls counts so =
    let rest = rest-pays o c r front s in
    let len : length front ≡ i = ap length f ∙ length-take-le i stack (omega (arith, lt)) in
    let all : length next ≡ length (with_rest r front) = ap length n in
    let none = put_back-none c.left some in
    omega (arith, rest, len, all, none, falls, counts, so, lt)

-- a search that finds nothing
pub none-pays : (c : Run) (old new : OpenersBottom) (len before examined later bound : ℕ) → bottom_of old c ≤ len → later ≡ examined + (if searches c then len - bottom_of old c else 0) → (searches c ≡ true → total_of new + bottom_of old c ≡ total_of old + len) → (searches c ≡ false → new ≡ old)
    → examined + 15 * len + before ≤ bound + total_of old + put_back c.left → later + 15 * len + before ≤ bound + total_of new + put_back c.left
none-pays c old new len before examined later bound low counts rises rests so = go (searches c) refl counts
  where
    go : (b : Bool) → searches c ≡ b → later ≡ examined + (if b then len - bottom_of old c else 0) → later + 15 * len + before ≤ bound + total_of new + put_back c.left
    go true e k = let r = rises e in omega (arith, r, k, low, so)
    go false e k = let same = ap total_of (rests e) in omega (arith, same, k, so)

pub bottom-within : (c : Run) (bottoms : OpenersBottom) (stack : List code_run.Run) → AreBottoms bottoms stack → bottom_of bottoms c ≤ length stack
bottom-within c bottoms stack h = go (class_of c) refl
  where
    low : (b : Bool) → (if b then bottoms.inactive_below else 0) ≤ length stack
    low true = h.inactive_below
    low false = omega arith

    go : (o : Option ℕ) → class_of c ≡ o → or_other o bottoms.heights (if is_tilde_or_caret c.delimiter then bottoms.inactive_below else 0) ≤ length stack
    go None e = low (is_tilde_or_caret c.delimiter)
    go (Some class) e = (h.emphasis c class e).within

-- the rest of a run has its delimiter and its length
pub rest-delimiter : (o c : Run) (r : code_run.Run) → shown_run r ≡ rest_of_closer o c → is_run_of c.delimiter c.run_length ≡ true → IsKnown r
unfolding rest_of_closer
rest-delimiter o c r e known = ap (λ (x : Run). is_run_of x.delimiter x.run_length) e ∙ known
