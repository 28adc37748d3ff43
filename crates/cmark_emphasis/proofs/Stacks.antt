-- Steps of a closing run over a stack of open runs.
use Rattle.std.proofs.Common.{◌≡◌, ◌⊎◌, inl, inr, ℕ, zero, suc, ◌+◌, ◌-◌, ◌<◌, ◌≤◌, Bool, true, false, not, nat_lt, if◌then◌else◌, List, [], ◌∷◌, ◌++◌, length, Option, Some, None, get_or, refl, sym, ap, ◌∙◌, subst, arith, append_assoc, true≢false, drop-cons}
use Rattle.std.specs.Prelude.{drop, take, slice_get, map}
use Rattle.std.proofs.lemmas.List.{append-nil, map-append, length-reverse, length-map, length-take-le}
use Rattle.std.proofs.lemmas.Bool.{ltb-true}
use Rattle.std.proofs.lemmas.Option.{slice_get-get_or, slice_get_within}
use Rattle.cmark_grammar.specs.Emphasis.{Run, Pair, agrees, paired_count, pair_of, rest_of_opener, rest_of_closer, is_tilde_or_caret}
use Rattle.cmark_emphasis.specs.Shown.{shown_run, shown_pair, open_runs, shown_placed}
use Rattle.cmark_emphasis.specs.Bottoms.{AreBottoms, bottom_of, class_of, active_runs, or_other, stays}
use Rattle.cmark_emphasis.specs.Nearest.{IsNearest, with_opener, with_rest}
use Rattle.cmark_emphasis.specs.Stack.{Chased, and_then, put, still_open, chase, or_same, chased, NoneAgree, course_from, pair_all, rest_on}
use Rattle.cmark_emphasis.specs.declared.bottom.OpenersBottom.{OpenersBottom}
use Rattle.cmark_emphasis.specs.declared.run.PlacedRun.{PlacedRun}
use Rattle.cmark_emphasis.specs.declared.run.Run as code_run
use Rattle.cmark_emphasis.specs.declared.run.Pair as code_pair
use Rattle.cmark_emphasis.proofs.Agreeing.{mark_same, closing, class_no_tilde}
use Rattle.cmark_emphasis.proofs.ActiveRuns.{none_of, none_inactive, active_runs-none, active_runs-push, open-push, tops_at}
use Rattle.cmark_inline_model.proofs.EmphasisSound.{agrees-empty, one_empty}

agree-append : (c o : Run) (passed : List Run) → NoneAgree c passed → agrees o c ≡ false → NoneAgree c (passed ++ o ∷ [])
agree-append c o [] h e = (e, tt)
agree-append c o (r ∷ passed) h e = (h.0, agree-append c o passed h.1 e)

chase-skip : (c : Run) (xs ys : List Run) → NoneAgree c xs → chase c (xs ++ ys) ≡ chase c ys
chase-skip c [] ys h = refl
chase-skip c (x ∷ xs) ys h = rw h.0 (chase-skip c xs ys h.1)

chase-none : (c : Run) (xs : List Run) → NoneAgree c xs → chase c xs ≡ None
chase-none c [] h = refl
chase-none c (x ∷ xs) h = rw h.0 (chase-none c xs h.1)

abbrev with_pair : Pair → Chased → Chased
with_pair p d = record d { pairs = p ∷ d.pairs }

abbrev pairs_after : List Pair → Chased → Chased
pairs_after pairs d = record d { pairs = pairs ++ d.pairs }

chased-none : (c : Run) (xs : List Run) → NoneAgree c xs → chased c xs ≡ record { rest = c; opens = still_open c xs; pairs = [] }
unfolding chased
chased-none c xs h = rw (chase-none c xs h) refl

chased-pair : (c o : Run) (xs ys : List Run) → NoneAgree c xs → agrees o c ≡ true → chased c (xs ++ (o ∷ ys)) ≡ with_pair (pair_of o c) (chased (rest_of_closer o c) (put (rest_of_opener o c) ys))
unfolding chased
chased-pair c o xs ys h e = rw (chase-skip c xs (o ∷ ys) h) (rw e (go (one_empty o c)))
  where
    same : (r : Option Chased) (zs : List Run) → zs ≡ ys → and_then (pair_of o c) (record { rest = rest_of_closer o c; opens = still_open (rest_of_closer o c) zs; pairs = pair_of o c ∷ [] }) r ≡ with_pair (pair_of o c) (or_same (rest_of_closer o c) ys r)
    same None zs z = ap {B = Chased} (λ l. record { rest = rest_of_closer o c; opens = still_open (rest_of_closer o c) l; pairs = pair_of o c ∷ [] }) z
    same (Some d) zs z = refl

    chase-empty : (d : Run) (xs : List Run) → d.left ≡ 0 → chase d xs ≡ None
    chase-empty d [] z = refl
    chase-empty d (x ∷ xs) z = rw (agrees-empty x d z) (chase-empty d xs z)

    go : ((rest_of_opener o c).left ≡ 0) ⊎ ((rest_of_closer o c).left ≡ 0) → and_then (pair_of o c) (record { rest = rest_of_closer o c; opens = still_open (rest_of_closer o c) (put (rest_of_opener o c) ys); pairs = pair_of o c ∷ [] }) (chase (rest_of_closer o c) ys) ≡ with_pair (pair_of o c) (or_same (rest_of_closer o c) (put (rest_of_opener o c) ys) (chase (rest_of_closer o c) (put (rest_of_opener o c) ys)))
    go (inl z) =
        let p : put (rest_of_opener o c) ys ≡ ys = rw z refl in
        same (chase (rest_of_closer o c) ys) (put (rest_of_opener o c) ys) p ∙ ap (λ l. with_pair (pair_of o c) (or_same (rest_of_closer o c) l (chase (rest_of_closer o c) l))) (sym p)
    go (inr z) = rw (chase-empty (rest_of_closer o c) ys z) (rw (chase-empty (rest_of_closer o c) (put (rest_of_opener o c) ys) z) refl)

-- a run that is put back on the stack is open
pub open-rest : (n : ℕ) (stack : List code_run.Run) (r : code_run.Run) → n ≤ length stack → open_runs (active_runs n (with_rest r stack)) ≡ put (shown_run r) (open_runs (active_runs n stack))
open-rest n stack r le = go (nat_lt 0 r.left)
  where
    go : (b : Bool) → open_runs (active_runs n (if b then stack ++ r ∷ [] else stack)) ≡ (if b then shown_run r ∷ open_runs (active_runs n stack) else open_runs (active_runs n stack))
    go true = ap open_runs (active_runs-push n stack r le) ∙ open-push (active_runs n stack) r
    go false = refl

pub open-opener : (n : ℕ) (stack : List code_run.Run) (r : code_run.Run) → n ≤ length stack → open_runs (active_runs n (with_opener r stack)) ≡ rest_on (shown_run r) (open_runs (active_runs n stack))
open-opener n stack r le = go r.opens
  where
    go : (b : Bool) → open_runs (active_runs n (if b then with_rest r stack else stack)) ≡ (if b then put (shown_run r) (open_runs (active_runs n stack)) else open_runs (active_runs n stack))
    go true = open-rest n stack r le
    go false = refl

course_step : (c : Run) (o : code_run.Run) (stack next : List code_run.Run) (pairs : List code_pair.Pair) (i n k : ℕ) → IsNearest c n stack i → slice_get stack i ≡ Some o → open_runs (active_runs k next) ≡ put (rest_of_opener (shown_run o) c) (open_runs (active_runs n (take i stack))) → (m : code_pair.Pair) → shown_pair m ≡ pair_of (shown_run o) c → course_from (rest_of_closer (shown_run o) c) (active_runs k next) (pairs ++ m ∷ []) ≡ course_from c (active_runs n stack) pairs
course_step c o stack next pairs i n k h read e m s =
    let same : h.opener ≡ o = (let q : Some h.opener ≡ Some o = sym h.read ∙ read in cc) in
    let front : List Run = open_runs (active_runs n (take i stack)) in
    let cut : open_runs (active_runs n stack) ≡ h.passed ++ (shown_run o ∷ front) = h.cut ∙ ap (λ r. h.passed ++ (shown_run r ∷ front)) same in
    let agree : agrees (shown_run o) c ≡ true = subst (λ r. agrees (shown_run r) c ≡ true) same h.agree in
    let step = chased-pair c (shown_run o) h.passed front h.miss agree in
    let all : map shown_pair (pairs ++ m ∷ []) ≡ map shown_pair pairs ++ pair_of (shown_run o) c ∷ [] = map-append shown_pair pairs (m ∷ []) ∙ ap (λ p. map shown_pair pairs ++ p ∷ []) s in
    let following : Chased = chased (rest_of_closer (shown_run o) c) (open_runs (active_runs k next)) in
    sym (ap (λ l. pairs_after (map shown_pair pairs) (chased c l)) cut
    ∙ ap (λ (d : Chased). pairs_after (map shown_pair pairs) d) step
    ∙ ap (λ l. pairs_after (map shown_pair pairs) (with_pair (pair_of (shown_run o) c) (chased (rest_of_closer (shown_run o) c) l))) (sym e)
    ∙ ap {B = Chased} (λ l. record { rest = following.rest; opens = following.opens; pairs = l })
    (sym (append_assoc (map shown_pair pairs) (pair_of (shown_run o) c ∷ []) following.pairs)
    ∙ ap (λ l. l ++ following.pairs) (sym all)))

pub course_end : (c : Run) (stack next : List code_run.Run) (pairs : List code_pair.Pair) → NoneAgree c (open_runs stack) → open_runs next ≡ still_open c (open_runs stack) → course_from c stack pairs ≡ record { rest = c; opens = open_runs next; pairs = map shown_pair pairs }
course_end c stack next pairs h e =
    ap (pairs_after (map shown_pair pairs)) (chased-none c (open_runs stack) h)
    ∙ ap {B = Chased} (λ l. record { rest = c; opens = l; pairs = map shown_pair pairs ++ [] }) (sym e)
    ∙ ap {B = Chased} (λ l. record { rest = c; opens = open_runs next; pairs = l }) (append-nil (map shown_pair pairs))

agrees-some : (o c : Run) → agrees o c ≡ true → 0 < c.left
agrees-some o c e = go c.left refl
  where
    go : (n : ℕ) → c.left ≡ n → 0 < c.left
    go zero z = absurd (let q : true ≡ false = sym e ∙ agrees-empty o c z in cc)
    go (suc n) z = omega arith

pub empty-agree : (c : Run) (xs : List Run) → c.left ≡ 0 → NoneAgree c xs
empty-agree c [] e = tt
empty-agree c (x ∷ xs) e = (agrees-empty x c e, empty-agree c xs e)

pub unclosing-agree : (c : Run) (xs : List Run) → not c.closes ≡ true → NoneAgree c xs
unclosing-agree c [] e = tt
unclosing-agree c (x ∷ xs) e = (go (agrees x c) refl, unclosing-agree c xs e)
  where
    no : (b : Bool) → not b ≡ true → b ≡ true → ⊥
    no true h k = true≢false (sym h)
    no false h k = true≢false (sym k)

    go : (b : Bool) → agrees x c ≡ b → agrees x c ≡ false
    go true p = absurd (no c.closes e (closing x c p).closes)
    go false p = p

length-open : (stack : List code_run.Run) → length (open_runs stack) ≡ length stack
length-open stack = length-reverse (map shown_run stack) ∙ length-map stack shown_run

course_smaller : (c o : Run) (stack next : List code_run.Run) (i : ℕ) → i < length stack → agrees o c ≡ true → open_runs next ≡ put (rest_of_opener o c) (open_runs (take i stack)) → length next + (rest_of_closer o c).left < length stack + c.left
unfolding rest_of_opener rest_of_closer
course_smaller c o stack next i lt agree e = go (nat_lt o.left c.left) refl (nat_lt 0 (o.left - paired_count o c)) refl
  where
    some : 0 < c.left
    some = agrees-some o c agree

    len : length next ≡ length (put (rest_of_opener o c) (open_runs (take i stack)))
    len = sym (length-open next) ∙ ap length e

    front : length (open_runs (take i stack)) ≡ i
    front = length-open (take i stack) ∙ length-take-le i stack (omega arith)

    go : (a : Bool) → nat_lt o.left c.left ≡ a → (b : Bool) → nat_lt 0 (o.left - paired_count o c) ≡ b → length next + (c.left - paired_count o c) < length stack + c.left
    go true p true q = absurd (let z : nat_lt 0 (o.left - o.left) ≡ true = (rw p at q) in omega (arith, ltb-true 0 (o.left - o.left) z))
    go false p true q =
        let l : length next ≡ suc (length (open_runs (take i stack))) = len ∙ rw q refl in
        rw p (omega (arith, l, front, some, lt))
    go a p false q =
        let l : length next ≡ length (open_runs (take i stack)) = len ∙ rw q refl in
        omega (arith, l, front, some, lt)

-- the result of a search step at the run before this index
module _ (c : Run) (n : ℕ) (stack : List code_run.Run) where
  abbrev Passed : List Run → ℕ → Type 0
  Passed passed i = open_runs (active_runs n stack) ≡ passed ++ open_runs (active_runs n (take i stack))

  module _ (d : code_run.Run) (passed : List Run) (i j : ℕ) (before : i ≡ j + 1) (lt : j < length stack) (cut : open_runs (active_runs n stack) ≡ passed ++ open_runs (active_runs n (take i stack))) (miss : NoneAgree c passed) where
    now : Passed passed (j + 1)
    now = cut ∙ ap (λ k. passed ++ open_runs (active_runs n (take k stack))) before

    pub found_at : (is_tilde_or_caret c.delimiter ≡ true → n ≤ j) → agrees (shown_run (get_or stack j d)) c ≡ true → IsNearest c n stack j
    found_at low agree = go (tops_at n stack j d lt)
      where
        go : (open_runs (active_runs n (take (j + 1) stack)) ≡ shown_run (get_or stack j d) ∷ open_runs (active_runs n (take j stack))) × ((n ≤ j) ⊎ (stays (get_or stack j d) ≡ true))
            ⊎ (open_runs (active_runs n (take (j + 1) stack)) ≡ open_runs (active_runs n (take j stack))) × (j < n) × (stays (get_or stack j d) ≡ false) → IsNearest c n stack j
        go (inl t) = record {
          opener = get_or stack j d;
          passed = passed;
          read = slice_get-get_or stack j d lt;
          agree = agree;
          cut = now ∙ ap (λ l. passed ++ l) t.0;
          miss = miss;
        }
        go (inr t) = absurd (let le = low (sym (ap is_tilde_or_caret (mark_same (shown_run (get_or stack j d)) c agree)) ∙ gone (is_tilde_or_caret (get_or stack j d).delimiter) t.2) in omega (arith, le, t.1))
          where
            gone : (b : Bool) → not b ≡ false → b ≡ true
            gone true h = refl
            gone false h = absurd (true≢false h)

    pub passed_at : agrees (shown_run (get_or stack j d)) c ≡ false → (next : List Run) × (open_runs (active_runs n stack) ≡ next ++ open_runs (active_runs n (take j stack))) × NoneAgree c next
    passed_at agree = go (tops_at n stack j d lt)
      where
        go : (open_runs (active_runs n (take (j + 1) stack)) ≡ shown_run (get_or stack j d) ∷ open_runs (active_runs n (take j stack))) × ((n ≤ j) ⊎ (stays (get_or stack j d) ≡ true))
            ⊎ (open_runs (active_runs n (take (j + 1) stack)) ≡ open_runs (active_runs n (take j stack))) × (j < n) × (stays (get_or stack j d) ≡ false)
            → (next : List Run) × (open_runs (active_runs n stack) ≡ next ++ open_runs (active_runs n (take j stack))) × NoneAgree c next
        go (inl t) = (
          passed ++ shown_run (get_or stack j d) ∷ [],
          now ∙ ap (λ l. passed ++ l) t.0 ∙ sym (append_assoc passed (shown_run (get_or stack j d) ∷ []) (open_runs (active_runs n (take j stack)))),
          agree-append c (shown_run (get_or stack j d)) passed miss agree,
        )
        go (inr t) = (passed, now ∙ ap (λ l. passed ++ l) t.0, miss)

agree-both : (c : Run) (xs ys : List Run) → NoneAgree c xs → NoneAgree c ys → NoneAgree c (xs ++ ys)
agree-both c [] ys h k = k
agree-both c (x ∷ xs) ys h k = (h.0, agree-both c xs ys h.1 k)

-- at the bottom no run is left that agrees
pub none_left : (c : Run) (bottoms : OpenersBottom) (stack : List code_run.Run) (passed : List Run) (i : ℕ) → AreBottoms bottoms stack → i ≤ length stack → i ≤ bottom_of bottoms c → open_runs (active_runs bottoms.inactive_below stack) ≡ passed ++ open_runs (active_runs bottoms.inactive_below (take i stack)) → NoneAgree c passed → NoneAgree c (open_runs (active_runs bottoms.inactive_below stack))
none_left c bottoms stack passed i h le low cut miss =
    subst (NoneAgree c) (sym cut) (agree-both c passed (open_runs (active_runs bottoms.inactive_below (take i stack))) miss (by_class (class_of c) refl low))
  where
    Left : Type 0
    Left = NoneAgree c (open_runs (active_runs bottoms.inactive_below (take i stack)))

    by_kind : (b : Bool) → is_tilde_or_caret c.delimiter ≡ b → i ≤ (if b then bottoms.inactive_below else 0) → Left
    by_kind true e l = none_inactive c bottoms.inactive_below stack e i le l
    by_kind false e l = none_of c bottoms.inactive_below stack i le (λ k d lt. absurd (omega (arith, l, lt)))

    by_class : (o : Option ℕ) → class_of c ≡ o → i ≤ or_other o bottoms.heights (if is_tilde_or_caret c.delimiter then bottoms.inactive_below else 0) → Left
    by_class None e l = by_kind (is_tilde_or_caret c.delimiter) refl l
    by_class (Some class) e l =
        let b = h.emphasis c class e in
        none_of c bottoms.inactive_below stack i le (λ k d lt. b.none k d (omega (arith, l, lt)))

-- a search that ends at the bottom of tildes and carets stays above those that are inactive
pub above_inactive : (c : Run) (bottoms : OpenersBottom) (j : ℕ) → bottom_of bottoms c ≤ j → is_tilde_or_caret c.delimiter ≡ true → bottoms.inactive_below ≤ j
above_inactive c bottoms j le tilde = by_class (class_of c) refl le
  where
    by_class : (o : Option ℕ) → class_of c ≡ o → or_other o bottoms.heights (if is_tilde_or_caret c.delimiter then bottoms.inactive_below else 0) ≤ j → bottoms.inactive_below ≤ j
    by_class None e l = let s : bottoms.inactive_below ≡ (if is_tilde_or_caret c.delimiter then bottoms.inactive_below else 0) = rw tilde refl in omega (arith, l, s)
    by_class (Some class) e l = absurd (true≢false (sym tilde ∙ class_no_tilde c class e))

pub nearest_in : (c : Run) (n : ℕ) (stack : List code_run.Run) (i : ℕ) → IsNearest c n stack i → i < length stack
nearest_in c n stack i h = slice_get_within stack i h.opener h.read

-- one pair, with all facts that the loop needs
pub course_next : (c : Run) (o r : code_run.Run) (stack front next : List code_run.Run) (pairs more : List code_pair.Pair) (m : code_pair.Pair) (i n k : ℕ) → IsNearest c n stack i → i < length stack → o ≡ get_or stack i o → front ≡ take i stack → k ≤ length front → active_runs k front ≡ active_runs n front → next ≡ with_rest r front → shown_run r ≡ rest_of_opener (shown_run o) c → more ≡ pairs ++ m ∷ [] → shown_pair m ≡ pair_of (shown_run o) c
    → (course_from (rest_of_closer (shown_run o) c) (active_runs k next) more ≡ course_from c (active_runs n stack) pairs) × (length next + (rest_of_closer (shown_run o) c).left < length stack + c.left)
course_next c o r stack front next pairs more m i n k h lt at f low sh ne re mo s =
    let read : slice_get stack i ≡ Some o = slice_get-get_or stack i o lt ∙ ap (λ r. Some r) (sym at) in
    let same : h.opener ≡ o = (let q : Some h.opener ≡ Some o = sym h.read ∙ read in cc) in
    let opens : open_runs (active_runs k next) ≡ put (rest_of_opener (shown_run o) c) (open_runs (active_runs n (take i stack))) =
    ap (λ l. open_runs (active_runs k l)) ne ∙ open-rest k front r low ∙ ap (λ q. put q (open_runs (active_runs k front))) re ∙ ap (λ l. put (rest_of_opener (shown_run o) c) (open_runs l)) (sh ∙ ap (active_runs n) f) in
    let plain : open_runs next ≡ put (rest_of_opener (shown_run o) c) (open_runs (take i stack)) =
    ap open_runs (sym (active_runs-none next)) ∙ ap (λ l. open_runs (active_runs 0 l)) ne ∙ open-rest 0 front r (omega arith) ∙ ap (λ q. put q (open_runs (active_runs 0 front))) re ∙ ap (λ l. put (rest_of_opener (shown_run o) c) (open_runs l)) (active_runs-none front ∙ f) in (
      ap (course_from (rest_of_closer (shown_run o) c) (active_runs k next)) mo ∙ course_step c o stack next pairs i n k h read opens m s,
      course_smaller c (shown_run o) stack next i lt (subst (λ r. agrees (shown_run r) c ≡ true) same h.agree) plain,
    )

-- one more run
pub round : (runs : List PlacedRun) (i : ℕ) (d : PlacedRun) (stack : List code_run.Run) (old new : List code_pair.Pair) (rest : Run) (opens next : List Run) (all : List Pair) → i < length runs
    → course_from (shown_placed (get_or runs i d)) stack old ≡ record { rest = rest; opens = opens; pairs = map shown_pair new } → next ≡ rest_on rest opens
    → map shown_pair old ++ pair_all (map shown_placed (drop i runs)) (open_runs stack) ≡ all → map shown_pair new ++ pair_all (map shown_placed (drop (i + 1) runs)) next ≡ all
round runs i d stack old new rest opens next all lt course on so =
    ap (λ l. l ++ pair_all more next) (sym pairs)
    ∙ append_assoc (map shown_pair old) mine.pairs (pair_all more next)
    ∙ ap (λ l. map shown_pair old ++ (mine.pairs ++ pair_all more l)) (on ∙ ap (λ r. rest_on r opens) (sym rest_is) ∙ ap (rest_on mine.rest) (sym opens_are))
    ∙ ap (λ l. map shown_pair old ++ pair_all (map shown_placed l) (open_runs stack)) (sym step)
    ∙ so
  where
    step : drop i runs ≡ get_or runs i d ∷ drop (i + 1) runs
    step = drop-cons runs i d lt ∙ ap (λ k. get_or runs i d ∷ drop k runs) (let e : suc i ≡ i + 1 = omega arith in e)

    mine : Chased
    mine = chased (shown_placed (get_or runs i d)) (open_runs stack)

    more : List Run
    more = map shown_placed (drop (i + 1) runs)

    pairs : map shown_pair old ++ mine.pairs ≡ map shown_pair new
    pairs = ap (λ (c : Chased). c.pairs) course

    rest_is : mine.rest ≡ rest
    rest_is = ap (λ (c : Chased). c.rest) course

    opens_are : mine.opens ≡ opens
    opens_are = ap (λ (c : Chased). c.opens) course
