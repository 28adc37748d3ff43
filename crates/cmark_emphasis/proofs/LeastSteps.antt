-- A lower bound of the open runs that searches examine.
use Rattle.std.proofs.Common.{◌≡◌, ◌⊎◌, inl, inr, ℕ, zero, suc, ◌+◌, ◌-◌, ◌<◌, ◌≤◌, Bool, true, false, not, ◌==◌, ◌&&◌, nat_lt, if◌then◌else◌, List, [], ◌∷◌, ◌++◌, length, length-append, Option, Some, None, get_or, refl, sym, ap, ◌∙◌, subst, arith, append_assoc, true≢false, eqb-true, drop-cons}
use Rattle.std.specs.Prelude.{drop, take, map, filter, reverse, min, slice_get, slice_set}
use Rattle.std.proofs.Math.ListN.{drop_of_length-le}
use Rattle.std.proofs.lemmas.Bool.{cases_eq, cases_lt, lt-ltb}
use Rattle.std.proofs.lemmas.List.{append-nil, append_cancel_right, get_or-map, get_or-set_other, get_or-take, get_or_append_left, length-map, length-reverse, length-take-le, map-append, reverse-append, take-map}
use Rattle.std.proofs.lemmas.List.Elements.{filter-append}
use Rattle.std.proofs.lemmas.Option.{slice_get-get_or}
use Rattle.cmark_grammar.specs.Emphasis.{Run, agrees, deactivates, is_tilde_or_caret, rest_of_closer, rest_of_opener}
use Rattle.cmark_inline_model.proofs.EmphasisSound.{one_empty}
use Rattle.cmark_emphasis.specs.Bottoms.{AreBottoms, active_runs, bottom_of, class_of, or_other, stays}
use Rattle.cmark_emphasis.specs.Counts.{examined_of_two, searches}
use Rattle.cmark_emphasis.specs.Least.{AreStanding, HasSought, IsOfKind, Seeking, Standing, active_in, count_of, fresh_in, is_fresh, least_examined, least_from, left_standing, passed_by, put_open, put_up, run_of, seek, sought, stays_standing, takes_none, with_more}
use Rattle.cmark_emphasis.specs.Nearest.{IsNearest, with_opener, with_rest}
use Rattle.cmark_emphasis.specs.Shown.{open_runs, shown_placed, shown_run}
use Rattle.cmark_emphasis.specs.Stack.{NoneAgree, stays_open}
use Rattle.cmark_emphasis.specs.declared.bottom.OpenersBottom.{OpenersBottom}
use Rattle.cmark_emphasis.specs.declared.run.PlacedRun.{PlacedRun}
use Rattle.cmark_emphasis.specs.declared.run.Run as code_run
use Rattle.cmark_emphasis.proofs.Agreeing.{class-delimiter, class_low, closing}
use Rattle.cmark_emphasis.proofs.Counting.{bottom-within, tilde-deactivates}
use Rattle.cmark_emphasis.proofs.Stacks.{empty-agree, nearest_in}

-- ## Searches over a list

seek-skip : (c : Run) (n : ℕ) (all xs ys : List Standing) → NoneAgree c (map run_of xs) → seek c n all (xs ++ ys) ≡ seek c (length xs + n) all ys
seek-skip c n all [] ys h = ap (λ k. seek c k all ys) (let q : n ≡ 0 + n = omega arith in q)
seek-skip c n all (x ∷ xs) ys h = rw h.0 (seek-skip c (suc n) all xs ys h.1 ∙ ap (λ k. seek c k all ys) (let q : length xs + suc n ≡ suc (length xs) + n = omega arith in q))

seek-none : (c : Run) (n : ℕ) (all ss : List Standing) → NoneAgree c (map run_of ss) → seek c n all ss ≡ takes_none c all
seek-none c n all [] h = refl
seek-none c n all (s ∷ ss) h = rw h.0 (seek-none c (suc n) all ss h.1)

pub sought-none : (c : Run) (ss : List Standing) → NoneAgree c (map run_of ss) → sought c ss ≡ takes_none c ss
sought-none c ss h = seek-none c 0 ss ss h

pub sought-pair : (c : Run) (s : Standing) (xs ys : List Standing) → NoneAgree c (map run_of xs) → agrees s.run c ≡ true → sought c (xs ++ (s ∷ ys)) ≡ with_more (suc (length xs)) (sought (rest_of_closer s.run c) (put_up (rest_of_opener s.run c) ys))
sought-pair c s xs ys h e =
    seek-skip c 0 (xs ++ (s ∷ ys)) xs (s ∷ ys) h
    ∙ rw e (ap (λ k. with_more (suc k) (seek d (count_of o) (put_up o ys) ys)) (let q : length xs + 0 ≡ length xs = omega arith in q) ∙ ap (with_more (suc (length xs))) (again (one_empty s.run c)))
  where
    d : Run
    d = rest_of_closer s.run c

    o : Run
    o = rest_of_opener s.run c

    again : ((rest_of_opener s.run c).left ≡ 0) ⊎ ((rest_of_closer s.run c).left ≡ 0) → seek d (count_of o) (put_up o ys) ys ≡ sought d (put_up o ys)
    again (inl z) =
        let none : count_of o ≡ 0 = rw z refl in
        let same : put_up o ys ≡ ys = rw z refl in
        ap (λ k. seek d k (put_up o ys) ys) none ∙ ap (seek d 0 (put_up o ys)) (sym same)
    again (inr z) = seek-none d (count_of o) (put_up o ys) ys (empty-agree d (map run_of ys) z) ∙ sym (seek-none d 0 (put_up o ys) (put_up o ys) (empty-agree d (map run_of (put_up o ys)) z))

pub more-more : (m n : ℕ) (s : Seeking) → with_more (m + n) s ≡ with_more m (with_more n s)
more-more m n s = ap {B = Seeking} (λ k. record { rest = s.rest; standing = s.standing; least = k }) (let q : m + n + s.least ≡ m + (n + s.least) = omega arith in q)

-- ## The open runs of a stack

lengths : (ss : List Standing) (stack : List code_run.Run) → map run_of ss ≡ map shown_run stack → length ss ≡ length stack
lengths ss stack e = sym (length-map ss run_of) ∙ ap length e ∙ length-map stack shown_run

active-none : (ss : List Standing) → active_in 0 ss ≡ ss
active-none [] = refl
active-none (s ∷ ss) = refl

active-short : (n : ℕ) (ss : List Standing) → length (active_in n ss) ≤ length ss
active-short n [] = omega arith
active-short zero (s ∷ ss) = omega arith
active-short (suc n) (s ∷ ss) = go (stays_standing s) (active-short n ss)
  where
    go : (b : Bool) → length (active_in n ss) ≤ length ss → length (if b then s ∷ active_in n ss else active_in n ss) ≤ suc (length ss)
    go true i = omega (arith, i)
    go false i = omega (arith, i)

active-front : (n i : ℕ) (ss : List Standing) → i ≤ length ss → (back : List Standing) × (active_in n ss ≡ active_in n (take i ss) ++ back) × (length back + i ≤ length ss)
active-front n zero ss le = (active_in n ss, refl, (let h = active-short n ss in omega (arith, h)))
active-front n (suc i) [] le = absurd (omega (arith, le))
active-front zero (suc i) (s ∷ ss) le =
    let r = active-front zero i ss (omega (arith, le)) in
    let w = r.2 in
    (r.0, ap (λ l. s ∷ l) (sym (active-none ss) ∙ r.1 ∙ ap (λ l. l ++ r.0) (active-none (take i ss))), omega (arith, w))
active-front (suc n) (suc i) (s ∷ ss) le = go (stays_standing s) refl (active-front n i ss (omega (arith, le)))
  where
    go : (b : Bool) → stays_standing s ≡ b → (back : List Standing) × (active_in n ss ≡ active_in n (take i ss) ++ back) × (length back + i ≤ length ss) → (back : List Standing) × (active_in (suc n) (s ∷ ss) ≡ active_in (suc n) (s ∷ take i ss) ++ back) × (length back + suc i ≤ suc (length ss))
    go true e r = let w = r.2 in (r.0, rw e (ap (λ l. s ∷ l) r.1), omega (arith, w))
    go false e r = let w = r.2 in (r.0, rw e r.1, omega (arith, w))

active-all : (n : ℕ) (ss : List Standing) → length ss ≤ n → active_in n ss ≡ filter stays_standing ss
active-all n [] le = refl
active-all zero (s ∷ ss) le = absurd (omega (arith, le))
active-all (suc n) (s ∷ ss) le = go (stays_standing s) refl (active-all n ss (omega (arith, le)))
  where
    go : (b : Bool) → stays_standing s ≡ b → active_in n ss ≡ filter stays_standing ss → active_in (suc n) (s ∷ ss) ≡ filter stays_standing (s ∷ ss)
    go true e h = rw e (ap (λ l. s ∷ l) h)
    go false e h = rw e h

filter-active : (n : ℕ) (ss : List Standing) → filter stays_standing (active_in n ss) ≡ filter stays_standing ss
filter-active n [] = refl
filter-active zero (s ∷ ss) = refl
filter-active (suc n) (s ∷ ss) = go (stays_standing s) refl (filter-active n ss)
  where
    go : (b : Bool) → stays_standing s ≡ b → filter stays_standing (active_in n ss) ≡ filter stays_standing ss → filter stays_standing (active_in (suc n) (s ∷ ss)) ≡ filter stays_standing (s ∷ ss)
    go true e h = rw e (rw e (ap (λ l. s ∷ l) h))
    go false e h = rw e h

active-lower : (n m : ℕ) (ss : List Standing) → length ss ≤ m → active_in (min n m) ss ≡ active_in n ss
active-lower n m ss le = go (cases_lt m n)
  where
    go : (m < n) ⊎ (n ≤ m) → active_in (min n m) ss ≡ active_in n ss
    go (inl lt) = active-all (min n m) ss (omega (arith, le, lt)) ∙ sym (active-all n ss (omega (arith, le, lt)))
    go (inr h) = ap (λ k. active_in k ss) (let e : min n m ≡ n = omega (arith, h) in e)

active-push : (n : ℕ) (ss : List Standing) (s : Standing) → n ≤ length ss → active_in n (ss ++ s ∷ []) ≡ active_in n ss ++ s ∷ []
active-push zero [] s le = refl
active-push (suc n) [] s le = absurd (omega (arith, le))
active-push zero (x ∷ ss) s le = refl
active-push (suc n) (x ∷ ss) s le = go (stays_standing x) (active-push n ss s (omega (arith, le)))
  where
    go : (b : Bool) → active_in n (ss ++ s ∷ []) ≡ active_in n ss ++ s ∷ [] → (if b then x ∷ active_in n (ss ++ s ∷ []) else active_in n (ss ++ s ∷ [])) ≡ (if b then x ∷ active_in n ss else active_in n ss) ++ s ∷ []
    go true h = ap (λ l. x ∷ l) h
    go false h = h

map-reverse : {B : Type 0} (f : Standing → B) (ss : List Standing) → map f (reverse ss) ≡ reverse (map f ss)
map-reverse f [] = refl
map-reverse f (s ∷ ss) = ap (map f) (reverse-append (s ∷ []) ss) ∙ map-append f (reverse ss) (s ∷ []) ∙ ap (λ l. l ++ f s ∷ []) (map-reverse f ss) ∙ sym (reverse-append (f s ∷ []) (map f ss))

head-same : (s : Standing) (ss : List Standing) (r : code_run.Run) (rs : List code_run.Run) → map run_of (s ∷ ss) ≡ map shown_run (r ∷ rs) → s.run ≡ shown_run r
head-same s ss r rs e = ap (λ (l : List Run). get_or l 0 s.run) e

tail-same : (s : Standing) (ss : List Standing) (r : code_run.Run) (rs : List code_run.Run) → map run_of (s ∷ ss) ≡ map shown_run (r ∷ rs) → map run_of ss ≡ map shown_run rs
tail-same s ss r rs e = ap (λ (l : List Run). drop 1 l) e

runs-active : (n : ℕ) (ss : List Standing) (stack : List code_run.Run) → map run_of ss ≡ map shown_run stack → map run_of (active_in n ss) ≡ map shown_run (active_runs n stack)
runs-active n [] [] e = refl
runs-active n [] (r ∷ rs) e = absurd (let q = ap length e in omega (arith, q))
runs-active n (s ∷ ss) [] e = absurd (let q = ap length e in omega (arith, q))
runs-active zero (s ∷ ss) (r ∷ rs) e = e
runs-active (suc n) (s ∷ ss) (r ∷ rs) e = go (stays r) refl (runs-active n ss rs (tail-same s ss r rs e))
  where
    same : stays_standing s ≡ stays r
    same = ap stays_open (head-same s ss r rs e)

    go : (b : Bool) → stays r ≡ b → map run_of (active_in n ss) ≡ map shown_run (active_runs n rs) → map run_of (active_in (suc n) (s ∷ ss)) ≡ map shown_run (active_runs (suc n) (r ∷ rs))
    go true f i = rw (same ∙ f) (rw f (ap (λ x. x ∷ map run_of (active_in n ss)) (head-same s ss r rs e) ∙ ap (λ l. shown_run r ∷ l) i))
    go false f i = rw (same ∙ f) (rw f i)

pub runs-standing : (n : ℕ) (ss : List Standing) (stack : List code_run.Run) → map run_of ss ≡ map shown_run stack → map run_of (reverse (active_in n ss)) ≡ open_runs (active_runs n stack)
runs-standing n ss stack e = map-reverse run_of (active_in n ss) ∙ ap reverse (runs-active n ss stack e)

pub standing-runs : (bottoms : OpenersBottom) (stack : List code_run.Run) (ss : List Standing) → AreStanding bottoms stack ss → map run_of ss ≡ open_runs (active_runs bottoms.inactive_below stack)
standing-runs bottoms stack ss h = ap (map run_of) h.are ∙ runs-standing bottoms.inactive_below h.marked stack h.runs

-- ## A search that takes a run

split-at : (back : List Standing) (passed : List Run) (o : Run) → map run_of back ≡ passed ++ o ∷ [] → (xs : List Standing) × (s : Standing) × (back ≡ xs ++ s ∷ []) × (map run_of xs ≡ passed) × (s.run ≡ o)
split-at [] [] o e = absurd (let q = ap length e in omega (arith, q))
split-at [] (p ∷ ps) o e = absurd (let q = ap length e in omega (arith, q))
split-at (s ∷ []) [] o e = ([], s, refl, refl, ap (λ (l : List Run). get_or l 0 o) e)
split-at (s ∷ t ∷ ss) [] o e = absurd (let q = ap length e in omega (arith, q))
split-at (s ∷ ss) (p ∷ ps) o e =
    let r = split-at ss ps o (ap (λ (l : List Run). drop 1 l) e) in
    (s ∷ r.0, r.1, ap (λ l. s ∷ l) r.2, ap (λ l. s.run ∷ l) r.3 ∙ ap (λ x. x ∷ ps) (ap (λ (l : List Run). get_or l 0 o) e), r.4)

pub record TakesAt (c : Run) (n i : ℕ) (marked : List Standing) (stack : List code_run.Run) (o : Run) : Type 0 where
  pub passed : List Standing
  pub opener : Standing
  pub cut : reverse (active_in n marked) ≡ passed ++ (opener ∷ reverse (active_in n (take i marked)))
  pub miss : NoneAgree c (map run_of passed)
  pub is : opener.run ≡ o
  pub few : suc (length passed) + i ≤ length stack

pub takes-at : (c : Run) (n i : ℕ) (marked : List Standing) (stack : List code_run.Run) → map run_of marked ≡ map shown_run stack → (h : IsNearest c n stack i) → TakesAt c n i marked stack (shown_run h.opener)
takes-at c n i marked stack runs h = record {
  passed = s.0;
  opener = s.1;
  cut = split ∙ ap (λ l. l ++ reverse (active_in n (take i marked))) s.2 ∙ append_assoc s.0 (s.1 ∷ []) (reverse (active_in n (take i marked)));
  miss = subst (NoneAgree c) (sym s.3) h.miss;
  is = s.4;
  few = (let a = length-reverse f.0 in let b = ap length s.2 in let d = length-append s.0 (s.1 ∷ []) in let w = f.2 in omega (arith, a, b, d, w, len));
}
  where
    len : length marked ≡ length stack
    len = lengths marked stack runs

    f : (back : List Standing) × (active_in n marked ≡ active_in n (take i marked) ++ back) × (length back + i ≤ length marked)
    f = active-front n i marked (let lt = nearest_in c n stack i h in omega (arith, len, lt))

    split : reverse (active_in n marked) ≡ reverse f.0 ++ reverse (active_in n (take i marked))
    split = ap reverse f.1 ∙ reverse-append (active_in n (take i marked)) f.0

    front : map run_of (reverse (active_in n (take i marked))) ≡ open_runs (active_runs n (take i stack))
    front = runs-standing n (take i marked) (take i stack) (sym (take-map run_of i marked) ∙ ap (take i) runs ∙ take-map shown_run i stack)

    all : map run_of (reverse f.0) ++ open_runs (active_runs n (take i stack)) ≡ (h.passed ++ shown_run h.opener ∷ []) ++ open_runs (active_runs n (take i stack))
    all =
        ap (λ l. map run_of (reverse f.0) ++ l) (sym front)
        ∙ sym (map-append run_of (reverse f.0) (reverse (active_in n (take i marked))))
        ∙ ap (map run_of) (sym split)
        ∙ runs-standing n marked stack runs
        ∙ h.cut
        ∙ sym (append_assoc h.passed (shown_run h.opener ∷ []) (open_runs (active_runs n (take i stack))))

    s : (xs : List Standing) × (s : Standing) × (reverse f.0 ≡ xs ++ s ∷ []) × (map run_of xs ≡ h.passed) × (s.run ≡ shown_run h.opener)
    s = split-at (reverse f.0) h.passed (shown_run h.opener) (append_cancel_right (map run_of (reverse f.0)) (h.passed ++ shown_run h.opener ∷ []) (open_runs (active_runs n (take i stack))) all)

-- the stack is cut
pub standing-cut : (old new : OpenersBottom) (stack : List code_run.Run) (i : ℕ) (ss : List Standing) → i ≤ length stack → (h : AreStanding old stack ss) → AreBottoms new (take i stack) → ((closer : Run) → bottom_of new closer ≤ bottom_of old closer) → new.inactive_below ≡ min old.inactive_below i
    → AreStanding new (take i stack) (reverse (active_in old.inactive_below (take i h.marked)))
standing-cut old new stack i ss le h bottoms lows inactive = record {
  marked = take i h.marked;
  runs = sym (take-map run_of i h.marked) ∙ ap (take i) h.runs ∙ take-map shown_run i stack;
  stale = λ closer k d lt.
      let low = lows closer in
      let within = bottom-within closer new (take i stack) bottoms in
      let len = length-take-le i stack le in
      ap (is_fresh closer.delimiter) (get_or-take i h.marked k d (omega (arith, lt, within, len))) ∙ h.stale closer k d (omega (arith, lt, low));
  are = ap reverse (sym (ap (λ n. active_in n (take i h.marked)) inactive ∙ active-lower old.inactive_below i (take i h.marked) (let same = lengths h.marked stack h.runs in let len = length-take-le i h.marked (omega (arith, le, same)) in omega (arith, len))));
}

-- a run that is put on the stack is above all bottoms, and is fresh
pub standing-rest : (bottoms : OpenersBottom) (stack : List code_run.Run) (ss : List Standing) (r : code_run.Run) → AreBottoms bottoms stack → AreStanding bottoms stack ss → AreStanding bottoms (with_rest r stack) (put_up (shown_run r) ss)
standing-rest bottoms stack ss r bs h = go (nat_lt 0 r.left)
  where
    top : Standing
    top = record { run = shown_run r; fresh = true }

    len : length h.marked ≡ length stack
    len = lengths h.marked stack h.runs

    go : (b : Bool) → AreStanding bottoms (if b then stack ++ r ∷ [] else stack) (if b then top ∷ ss else ss)
    go true = record {
      marked = h.marked ++ top ∷ [];
      runs = map-append run_of h.marked (top ∷ []) ∙ ap (λ l. l ++ shown_run r ∷ []) h.runs ∙ sym (map-append shown_run stack (r ∷ []));
      stale = λ closer k d lt.
          let within = bottom-within closer bottoms stack bs in
          ap (is_fresh closer.delimiter) (get_or_append_left h.marked (top ∷ []) d k (omega (arith, lt, within, len))) ∙ h.stale closer k d lt;
      are = ap (λ l. top ∷ l) h.are ∙ sym (ap reverse (active-push bottoms.inactive_below h.marked top (let low = bs.inactive_below in omega (arith, low, len))) ∙ reverse-append (active_in bottoms.inactive_below h.marked) (top ∷ []));
    }
    go false = h

pub standing-opener : (bottoms : OpenersBottom) (stack : List code_run.Run) (ss : List Standing) (r : code_run.Run) → AreBottoms bottoms stack → AreStanding bottoms stack ss → AreStanding bottoms (with_opener r stack) (put_open (shown_run r) ss)
standing-opener bottoms stack ss r bs h = go r.opens
  where
    go : (b : Bool) → AreStanding bottoms (if b then with_rest r stack else stack) (if b then put_up (shown_run r) ss else ss)
    go true = standing-rest bottoms stack ss r bs h
    go false = h

-- ## A search that takes nothing

fresh-append : (d : ℕ) (xs ys : List Standing) → fresh_in d (xs ++ ys) ≡ fresh_in d xs + fresh_in d ys
fresh-append d [] ys = let q : fresh_in d ys ≡ 0 + fresh_in d ys = omega arith in q
fresh-append d (x ∷ xs) ys = let i = fresh-append d xs ys in omega (arith, i)

fresh-reverse : (d : ℕ) (ss : List Standing) → fresh_in d (reverse ss) ≡ fresh_in d ss
fresh-reverse d [] = refl
fresh-reverse d (s ∷ ss) =
    let i = fresh-reverse d ss in
    let cut = ap (fresh_in d) (reverse-append (s ∷ []) ss) in
    let sum = fresh-append d (reverse ss) (s ∷ []) in
    omega (arith, i, cut, sum)

fresh-active : (d n : ℕ) (ss : List Standing) → fresh_in d (active_in n ss) ≤ fresh_in d ss
fresh-active d n [] = omega arith
fresh-active d zero (s ∷ ss) = omega arith
fresh-active d (suc n) (s ∷ ss) = go (stays_standing s) (is_fresh d s) (fresh-active d n ss)
  where
    go : (b f : Bool) → fresh_in d (active_in n ss) ≤ fresh_in d ss → fresh_in d (if b then s ∷ active_in n ss else active_in n ss) ≤ fresh_in d (s ∷ ss)
    go true f i = omega (arith, i)
    go false f i = omega (arith, i)

-- at least `b` runs are not fresh
fresh-above : (d b : ℕ) (e : Standing) (ss : List Standing) → b ≤ length ss → ((k : ℕ) → k < b → is_fresh d (get_or ss k e) ≡ false) → fresh_in d ss + b ≤ length ss
fresh-above d b e [] le h = omega (arith, le)
fresh-above d zero e (s ∷ ss) le h = go (is_fresh d s) (fresh-above d zero e ss (omega arith) (λ k lt. absurd (omega (arith, lt))))
  where
    go : (f : Bool) → fresh_in d ss + 0 ≤ length ss → (if f then 1 else 0) + fresh_in d ss + 0 ≤ suc (length ss)
    go true i = omega (arith, i)
    go false i = omega (arith, i)
fresh-above d (suc b) e (s ∷ ss) le h =
    let i = fresh-above d b e ss (omega (arith, le)) (λ k lt. h (suc k) (omega (arith, lt))) in
    let none : ◌≡◌ {A = ℕ} (if is_fresh d s then 1 else 0) 0 = rw (h 0 (omega arith)) refl in
    omega (arith, i, none)

pub fresh-few : (c : Run) (bottoms : OpenersBottom) (stack : List code_run.Run) (ss : List Standing) → AreBottoms bottoms stack → AreStanding bottoms stack ss → fresh_in c.delimiter ss + bottom_of bottoms c ≤ length stack
fresh-few c bottoms stack ss bs h =
    let d = c.delimiter in
    let e : Standing = record { run = c; fresh = false } in
    let len = lengths h.marked stack h.runs in
    let within = bottom-within c bottoms stack bs in
    let all = ap (fresh_in d) h.are ∙ fresh-reverse d (active_in bottoms.inactive_below h.marked) in
    let some = fresh-active d bottoms.inactive_below h.marked in
    let low = fresh-above d (bottom_of bottoms c) e h.marked (omega (arith, within, len)) (λ k lt. h.stale c k e lt) in
    omega (arith, all, some, low, len)

-- ## The state after a search that takes nothing

map-runs : (f : Standing → Standing) → ((s : Standing) → run_of (f s) ≡ run_of s) → (ss : List Standing) → map run_of (map f ss) ≡ map run_of ss
map-runs f keeps [] = refl
map-runs f keeps (s ∷ ss) = ap (λ x. x ∷ map run_of (map f ss)) (keeps s) ∙ ap (λ l. run_of s ∷ l) (map-runs f keeps ss)

map-active : (f : Standing → Standing) → ((s : Standing) → run_of (f s) ≡ run_of s) → (n : ℕ) (ss : List Standing) → active_in n (map f ss) ≡ map f (active_in n ss)
map-active f keeps n [] = refl
map-active f keeps zero (s ∷ ss) = refl
map-active f keeps (suc n) (s ∷ ss) = go (stays_standing s) refl (map-active f keeps n ss)
  where
    go : (b : Bool) → stays_standing s ≡ b → active_in n (map f ss) ≡ map f (active_in n ss) → active_in (suc n) (map f (s ∷ ss)) ≡ map f (active_in (suc n) (s ∷ ss))
    go true e i = rw (ap stays_open (keeps s) ∙ e) (rw e (ap (λ l. f s ∷ l) i))
    go false e i = rw (ap stays_open (keeps s) ∙ e) (rw e i)

-- if fewer runs are fresh, a run that was not fresh is not fresh
less-fresh : (a b c : Bool) → (a && c) ≡ false → ((a && b) && c) ≡ false
less-fresh true true c e = e
less-fresh true false c e = refl
less-fresh false b c e = refl

none-fresh : (a b : Bool) → ((a && not b) && b) ≡ false
none-fresh true true = refl
none-fresh true false = refl
none-fresh false b = refl

passed-stale : (delimiter other : ℕ) (s : Standing) → (is_fresh other s ≡ false) ⊎ (other ≡ delimiter) → is_fresh other (passed_by delimiter s) ≡ false
passed-stale delimiter other s (inl e) = less-fresh s.fresh (not (s.run.delimiter == delimiter)) (s.run.delimiter == other) e
passed-stale delimiter other s (inr same) = ap (λ k. (s.fresh && not (s.run.delimiter == delimiter)) && (s.run.delimiter == k)) same ∙ none-fresh s.fresh (s.run.delimiter == delimiter)

standing-passed : (closer : Run) (old new : OpenersBottom) (stack : List code_run.Run) (ss : List Standing) → AreBottoms new stack → AreStanding old stack ss → new.inactive_below ≡ old.inactive_below → ((other : Run) (k : ℕ) → k < bottom_of new other → (k < bottom_of old other) ⊎ (other.delimiter ≡ closer.delimiter))
    → AreStanding new stack (map (passed_by closer.delimiter) ss)
standing-passed closer old new stack ss bs h inactive kinds = record {
  marked = map (passed_by closer.delimiter) h.marked;
  runs = map-runs (passed_by closer.delimiter) (λ s. refl) h.marked ∙ h.runs;
  stale = λ other k d lt.
      let within = bottom-within other new stack bs in
      let len = lengths h.marked stack h.runs in
      ap (is_fresh other.delimiter) (get_or-map (passed_by closer.delimiter) h.marked k d d (omega (arith, lt, within, len))) ∙ passed-stale closer.delimiter other.delimiter (get_or h.marked k d) (still other k d (kinds other k lt));
  are = ap (map (passed_by closer.delimiter)) h.are ∙ map-reverse (passed_by closer.delimiter) (active_in old.inactive_below h.marked) ∙ ap reverse (sym (map-active (passed_by closer.delimiter) (λ s. refl) old.inactive_below h.marked) ∙ ap (λ n. active_in n (map (passed_by closer.delimiter) h.marked)) (sym inactive));
}
  where
    still : (other : Run) (k : ℕ) (d : Standing) → (k < bottom_of old other) ⊎ (other.delimiter ≡ closer.delimiter) → (is_fresh other.delimiter (get_or h.marked k d) ≡ false) ⊎ (other.delimiter ≡ closer.delimiter)
    still other k d (inl lt) = inl (h.stale other k d lt)
    still other k d (inr same) = inr same

-- tildes and carets are no longer fresh
abbrev shut_off : Standing → Standing
shut_off s = record { run = s.run; fresh = s.fresh && not (is_tilde_or_caret s.run.delimiter) }

shut-stale : (other : ℕ) (s : Standing) → (is_fresh other s ≡ false) ⊎ (is_tilde_or_caret other ≡ true) → is_fresh other (shut_off s) ≡ false
shut-stale other s (inl e) = less-fresh s.fresh (not (is_tilde_or_caret s.run.delimiter)) (s.run.delimiter == other) e
shut-stale other s (inr tilde) = go (s.run.delimiter == other) refl
  where
    off : (a b : Bool) → b ≡ true → ((a && not b) && true) ≡ false
    off true true e = refl
    off false b e = refl
    off true false e = absurd (true≢false (sym e))

    out : (a : Bool) → (a && false) ≡ false
    out true = refl
    out false = refl

    go : (b : Bool) → (s.run.delimiter == other) ≡ b → ((s.fresh && not (is_tilde_or_caret s.run.delimiter)) && b) ≡ false
    go true e = off s.fresh (is_tilde_or_caret s.run.delimiter) (ap is_tilde_or_caret (eqb-true s.run.delimiter other e) ∙ tilde)
    go false e = out (s.fresh && not (is_tilde_or_caret s.run.delimiter))

filter-shut : (ss : List Standing) → filter stays_standing (map shut_off ss) ≡ filter stays_standing ss
filter-shut [] = refl
filter-shut (s ∷ ss) = go (stays_standing s) refl (filter-shut ss)
  where
    whole : (b : Bool) → (b && true) ≡ b
    whole true = refl
    whole false = refl

    go : (b : Bool) → stays_standing s ≡ b → filter stays_standing (map shut_off ss) ≡ filter stays_standing ss → filter stays_standing (map shut_off (s ∷ ss)) ≡ filter stays_standing (s ∷ ss)
    go true e i = rw e (ap {A = Bool} {B = List Standing} (λ b. record { run = s.run; fresh = b } ∷ filter stays_standing (map shut_off ss)) (whole s.fresh) ∙ ap (λ l. s ∷ l) i)
    go false e i = rw e i

filter-reverse : (ss : List Standing) → filter stays_standing (reverse ss) ≡ reverse (filter stays_standing ss)
filter-reverse [] = refl
filter-reverse (s ∷ ss) = go (stays_standing s) refl (filter-reverse ss)
  where
    ends : filter stays_standing (reverse (s ∷ ss)) ≡ filter stays_standing (reverse ss) ++ filter stays_standing (s ∷ [])
    ends = ap (filter stays_standing) (reverse-append (s ∷ []) ss) ∙ filter-append stays_standing (reverse ss) (s ∷ [])

    go : (b : Bool) → stays_standing s ≡ b → filter stays_standing (reverse ss) ≡ reverse (filter stays_standing ss) → filter stays_standing (reverse (s ∷ ss)) ≡ reverse (filter stays_standing (s ∷ ss))
    go true e i = ends ∙ rw e (ap (λ l. l ++ s ∷ []) i ∙ sym (reverse-append (s ∷ []) (filter stays_standing ss)))
    go false e i = ends ∙ rw e (append-nil (filter stays_standing (reverse ss)) ∙ i)

standing-shut : (old new : OpenersBottom) (stack : List code_run.Run) (ss : List Standing) → AreBottoms new stack → AreStanding old stack ss → new.inactive_below ≡ length stack → ((other : Run) (k : ℕ) → k < bottom_of new other → (k < bottom_of old other) ⊎ (is_tilde_or_caret other.delimiter ≡ true))
    → AreStanding new stack (filter stays_standing ss)
standing-shut old new stack ss bs h inactive kinds = record {
  marked = map shut_off h.marked;
  runs = map-runs shut_off (λ s. refl) h.marked ∙ h.runs;
  stale = λ other k d lt.
      let within = bottom-within other new stack bs in
      let len = lengths h.marked stack h.runs in
      ap (is_fresh other.delimiter) (get_or-map shut_off h.marked k d d (omega (arith, lt, within, len))) ∙ shut-stale other.delimiter (get_or h.marked k d) (still other k d (kinds other k lt));
  are =
      ap (filter stays_standing) h.are
      ∙ filter-reverse (active_in old.inactive_below h.marked)
      ∙ ap reverse (filter-active old.inactive_below h.marked ∙ sym (filter-shut h.marked) ∙ sym (active-all new.inactive_below (map shut_off h.marked) (let a = length-map h.marked shut_off in let b = lengths h.marked stack h.runs in omega (arith, a, b, inactive))));
}
  where
    still : (other : Run) (k : ℕ) (d : Standing) → (k < bottom_of old other) ⊎ (is_tilde_or_caret other.delimiter ≡ true) → (is_fresh other.delimiter (get_or h.marked k d) ≡ false) ⊎ (is_tilde_or_caret other.delimiter ≡ true)
    still other k d (inl lt) = inl (h.stale other k d lt)
    still other k d (inr tilde) = inr tilde

pub standing-noted : (closer : Run) (old new : OpenersBottom) (stack : List code_run.Run) (ss : List Standing) → AreBottoms new stack → AreStanding old stack ss → (searches closer ≡ false → new ≡ old) → new.inactive_below ≡ (if deactivates closer then length stack else old.inactive_below)
    → ((other : Run) (k : ℕ) → k < bottom_of new other → (k < bottom_of old other) ⊎ IsOfKind closer other) → AreStanding new stack (left_standing closer ss)
standing-noted closer old new stack ss bs h rests inactive kinds = go (searches closer) refl (deactivates closer) refl
  where
    go : (a : Bool) → searches closer ≡ a → (b : Bool) → deactivates closer ≡ b → AreStanding new stack (left_standing closer ss)
    go true e true f =
        let is : left_standing closer ss ≡ filter stays_standing ss = rw e (rw f refl) in
        subst (AreStanding new stack) (sym is) (standing-shut old new stack ss bs h (inactive ∙ rw f refl) (λ other k lt. by other k (kinds other k lt)))
      where
        by : (other : Run) (k : ℕ) → (k < bottom_of old other) ⊎ IsOfKind closer other → (k < bottom_of old other) ⊎ (is_tilde_or_caret other.delimiter ≡ true)
        by other k (inl lt) = inl lt
        by other k (inr (inl same)) = inr (ap is_tilde_or_caret same ∙ tilde-deactivates closer f)
        by other k (inr (inr both)) = inr both.1
    go true e false f =
        let is : left_standing closer ss ≡ map (passed_by closer.delimiter) ss = rw e (rw f refl) in
        subst (AreStanding new stack) (sym is) (standing-passed closer old new stack ss bs h (inactive ∙ rw f refl) (λ other k lt. by other k (kinds other k lt)))
      where
        by : (other : Run) (k : ℕ) → (k < bottom_of old other) ⊎ IsOfKind closer other → (k < bottom_of old other) ⊎ (other.delimiter ≡ closer.delimiter)
        by other k (inl lt) = inl lt
        by other k (inr (inl same)) = inr same
        by other k (inr (inr both)) = absurd (true≢false (sym both.0 ∙ f))
    go false e b f =
        let is : left_standing closer ss ≡ ss = rw e refl in
        subst (AreStanding new stack) (sym is) (subst (λ bottoms. AreStanding bottoms stack ss) (sym (rests e)) h)

-- ## The searches of a run

-- a run searched first among the open runs `ss`, and some runs were examined since; its rest searches among the runs that are open now
pub record IsSeeking (first : Run) (ss : List Standing) (before : ℕ) (bottoms : OpenersBottom) (stack : List code_run.Run) (closer : Run) (examined : ℕ) : Type 0 where
  pub now : List Standing
  pub more : ℕ
  pub stand : AreStanding bottoms stack now
  pub is : sought first ss ≡ with_more more (sought closer now)
  pub counted : before + more ≤ examined

pub seeking-next : (first closer : Run) (ss : List Standing) (before examined later : ℕ) (old new : OpenersBottom) (o r : code_run.Run) (stack front next : List code_run.Run) (i : ℕ) → IsSeeking first ss before old stack closer examined → IsNearest closer old.inactive_below stack i → o ≡ get_or stack i o
    → front ≡ take i stack → AreBottoms new front → ((other : Run) → bottom_of new other ≤ bottom_of old other) → new.inactive_below ≡ min old.inactive_below i → next ≡ with_rest r front → shown_run r ≡ rest_of_opener (shown_run o) closer → later ≡ examined + (length stack - i)
    → IsSeeking first ss before new next (rest_of_closer (shown_run o) closer) later
seeking-next first closer ss before examined later old new o r stack front next i s h at f bs lows inactive n e count = record {
  now = put_up (rest_of_opener (shown_run o) closer) ys;
  more = s.more + suc (length t.passed);
  stand = subst (λ l. AreStanding new l (put_up (rest_of_opener (shown_run o) closer) ys)) (sym (n ∙ ap (with_rest r) f))
      (subst (λ x. AreStanding new (with_rest r (take i stack)) (put_up x ys)) e
      (standing-rest new (take i stack) ys r bottoms (standing-cut old new stack i s.now (omega (arith, lt)) s.stand bottoms lows inactive)));
  is = s.is ∙ ap (with_more s.more) step ∙ sym (more-more s.more (suc (length t.passed)) (sought (rest_of_closer (shown_run o) closer) (put_up (rest_of_opener (shown_run o) closer) ys)));
  counted = (let a = s.counted in let b = t.few in omega (arith, a, b, count));
}
  where
    lt : i < length stack
    lt = nearest_in closer old.inactive_below stack i h

    bottoms : AreBottoms new (take i stack)
    bottoms = subst (AreBottoms new) f bs

    t : TakesAt closer old.inactive_below i s.stand.marked stack (shown_run h.opener)
    t = takes-at closer old.inactive_below i s.stand.marked stack s.stand.runs h

    ys : List Standing
    ys = reverse (active_in old.inactive_below (take i s.stand.marked))

    same : h.opener ≡ o
    same = (let read : slice_get stack i ≡ Some o = slice_get-get_or stack i o lt ∙ ap (λ r. Some r) (sym at) in let q : Some h.opener ≡ Some o = sym h.read ∙ read in cc)

    step : sought closer s.now ≡ with_more (suc (length t.passed)) (sought (rest_of_closer (shown_run o) closer) (put_up (rest_of_opener (shown_run o) closer) ys))
    step =
        ap (sought closer) (s.stand.are ∙ t.cut)
        ∙ sought-pair closer t.opener t.passed ys t.miss (ap (λ x. agrees x closer) t.is ∙ h.agree)
        ∙ ap (λ x. with_more (suc (length t.passed)) (sought (rest_of_closer x closer) (put_up (rest_of_opener x closer) ys))) (t.is ∙ ap shown_run same)

pub seeking-end : (first closer : Run) (ss : List Standing) (before examined later : ℕ) (old new : OpenersBottom) (stack : List code_run.Run) → IsSeeking first ss before old stack closer examined → AreBottoms old stack → NoneAgree closer (open_runs (active_runs old.inactive_below stack))
    → later ≡ examined + (if searches closer then length stack - bottom_of old closer else 0) → ((now : List Standing) → AreStanding old stack now → AreStanding new stack (left_standing closer now)) → HasSought first ss before later new stack closer
seeking-end first closer ss before examined later old new stack s bs none count noted = record {
  rest_is = ap (λ (x : Seeking). x.rest) all;
  stand = subst (AreStanding new stack) (sym (ap (λ (x : Seeking). x.standing) all)) (noted s.now s.stand);
  least = counts (searches closer) refl count (ap (λ (x : Seeking). x.least) all);
}
  where
    all : sought first ss ≡ with_more s.more (takes_none closer s.now)
    all = s.is ∙ ap (with_more s.more) (sought-none closer s.now (subst (NoneAgree closer) (sym (standing-runs old stack s.now s.stand)) none))

    counts : (b : Bool) → searches closer ≡ b → later ≡ examined + (if b then length stack - bottom_of old closer else 0) → (sought first ss).least ≡ s.more + (if b then fresh_in closer.delimiter s.now else 0) → before + (sought first ss).least ≤ later
    counts true e k l =
        let few = fresh-few closer old stack s.now bs s.stand in
        let c = s.counted in
        omega (arith, k, l, few, c)
    counts false e k l = let c = s.counted in omega (arith, k, l, c)

-- ## The runs of a list of siblings

pub standing-none : (bottoms : OpenersBottom) → AreBottoms bottoms [] → AreStanding bottoms [] []
standing-none bottoms bs = record {
  marked = [];
  runs = refl;
  stale = λ closer k d lt. let within = bottom-within closer bottoms [] bs in absurd (omega (arith, lt, within));
  are = refl;
}

-- one more run
pub round-least : (runs : List PlacedRun) (i : ℕ) (d : PlacedRun) (ss : List Standing) (first before after bound : ℕ) (bottoms : OpenersBottom) (stack next : List code_run.Run) (rest : code_run.Run) → i < length runs → HasSought (shown_placed (get_or runs i d)) ss before after bottoms stack (shown_run rest)
    → AreBottoms bottoms stack → next ≡ with_opener rest stack → first + bound ≤ before + least_from (map shown_placed (drop i runs)) ss
    → (now : List Standing) × AreStanding bottoms next now × (first + bound ≤ after + least_from (map shown_placed (drop (i + 1) runs)) now)
round-least runs i d ss first before after bound bottoms stack next rest lt h bs n so =
    let s = sought (shown_placed (get_or runs i d)) ss in
    let step : drop i runs ≡ get_or runs i d ∷ drop (i + 1) runs = drop-cons runs i d lt ∙ ap (λ k. get_or runs i d ∷ drop k runs) (let e : suc i ≡ i + 1 = omega arith in e) in
    let all = ap (λ l. least_from (map shown_placed l) ss) step in
    let most = h.least in
    let stand : AreStanding bottoms next (put_open s.rest s.standing) =
    subst (λ l. AreStanding bottoms l (put_open s.rest s.standing)) (sym n) (subst (λ x. AreStanding bottoms (with_opener rest stack) (put_open x s.standing)) (sym h.rest_is) (standing-opener bottoms stack s.standing rest bs h.stand)) in
    (put_open s.rest s.standing, stand, omega (arith, all, most, so))

-- no run is left
pub end-least : (runs : List PlacedRun) (i : ℕ) (ss : List Standing) → length runs ≤ i → least_from (map shown_placed (drop i runs)) ss ≡ 0
end-least runs i ss le = ap (λ l. least_from (map shown_placed l) ss) (drop_of_length-le runs le)

-- a run alone, and two runs
left-none : (r : Run) → left_standing r [] ≡ []
left-none r = go (searches r) (deactivates r)
  where
    go : (a b : Bool) → (if a then (if b then filter stays_standing [] else map (passed_by r.delimiter) []) else []) ≡ []
    go true true = refl
    go true false = refl
    go false b = refl

none-least : (r : Run) → (sought r []).least ≡ 0
none-least r = go (searches r)
  where
    go : (a : Bool) → ◌≡◌ {A = ℕ} (if a then 0 else 0) 0
    go true = refl
    go false = refl

pub one-least : (r : Run) → least_examined (r ∷ []) ≡ 0
one-least r = let n = none-least r in omega (arith, n)

pub two-least : (f s : Run) → least_examined (f ∷ (s ∷ [])) ≤ examined_of_two f s
two-least f s = let n = none-least f in let l = ap (λ ss. (sought s (put_open f ss)).least) (left-none f) in let o = opened f.opens (nat_lt 0 f.left) in omega (arith, n, l, o)
  where
    top : Standing
    top = record { run = f; fresh = true }

    empty : (b : Bool) → ((b && nat_lt 0 0) ≡ false)
    empty true = refl
    empty false = refl

    rest : ((rest_of_opener f s).left ≡ 0) ⊎ ((rest_of_closer f s).left ≡ 0) → (takes_none (rest_of_closer f s) (put_up (rest_of_opener f s) [])).least ≡ 0
    rest (inl z) =
        let none : put_up (rest_of_opener f s) [] ≡ [] = rw z refl in
        ap (λ ss. (takes_none (rest_of_closer f s) ss).least) none ∙ none-least (rest_of_closer f s)
    rest (inr z) =
        let off : searches (rest_of_closer f s) ≡ false = ap (λ k. (rest_of_closer f s).closes && nat_lt 0 k) z ∙ empty (rest_of_closer f s).closes in
        ap {B = ℕ} (λ b. if b then fresh_in (rest_of_closer f s).delimiter (put_up (rest_of_opener f s) []) else 0) off

    seeks : (a : Bool) → agrees f s ≡ a → (sought s (top ∷ [])).least ≤ (if searches s then 1 else 0)
    seeks true e =
        let c = closing f s e in
        let on : searches s ≡ true = ap (λ b. b && nat_lt 0 s.left) c.closes ∙ lt-ltb 0 s.left c.left in
        let one : (sought s (top ∷ [])).least ≡ 1 + (takes_none (rest_of_closer f s) (put_up (rest_of_opener f s) [])).least = rw e refl in
        let none = rest (one_empty f s) in
        let some = ap {B = ℕ} (λ b. if b then 1 else 0) on in
        omega (arith, one, none, some)
    seeks false e =
        let is : (sought s (top ∷ [])).least ≡ (if searches s then fresh_in s.delimiter (top ∷ []) else 0) = rw e refl in
        let most = few (searches s) (is_fresh s.delimiter top) in
        omega (arith, is, most)
      where
        few : (a b : Bool) → (if a then (if b then 1 else 0) + 0 else 0) ≤ (if a then 1 else 0)
        few true true = omega arith
        few true false = omega arith
        few false b = omega arith

    opened : (b l : Bool) → (sought s (if b then (if l then top ∷ [] else []) else [])).least ≤ (if (b && l) && searches s then 1 else 0)
    opened true true = seeks (agrees f s) refl
    opened true false = let n = none-least s in omega (arith, n)
    opened false l = let n = none-least s in omega (arith, n)

-- ## Bottoms

pub lower-lows : (old new : OpenersBottom) (other : Run) (height : ℕ) → ((class : ℕ) → class < 13 → get_or new.heights class 0 ≡ min (get_or old.heights class 0) height) → new.inactive_below ≡ min old.inactive_below height → bottom_of new other ≤ bottom_of old other
lower-lows old new other height heights inactive = go (class_of other) refl
  where
    by_kind : (b : Bool) → (if b then new.inactive_below else 0) ≤ (if b then old.inactive_below else 0)
    by_kind true = omega (arith, inactive)
    by_kind false = omega arith

    go : (o : Option ℕ) → class_of other ≡ o → or_other o new.heights (if is_tilde_or_caret other.delimiter then new.inactive_below else 0) ≤ or_other o old.heights (if is_tilde_or_caret other.delimiter then old.inactive_below else 0)
    go None e = by_kind (is_tilde_or_caret other.delimiter)
    go (Some class) e = let h = heights class (class_low other class e) in omega (arith, h)

pub kinds-inactive : (closer other : Run) (bottoms : OpenersBottom) (height k : ℕ) → deactivates closer ≡ true → k < bottom_of (record { heights = bottoms.heights; inactive_below = height }) other → (k < bottom_of bottoms other) ⊎ IsOfKind closer other
kinds-inactive closer other bottoms height k on lt = go (class_of other) refl lt
  where
    go : (o : Option ℕ) → class_of other ≡ o → k < or_other o bottoms.heights (if is_tilde_or_caret other.delimiter then height else 0) → (k < bottom_of bottoms other) ⊎ IsOfKind closer other
    go None e l = by_kind (is_tilde_or_caret other.delimiter) refl l
      where
        by_kind : (b : Bool) → is_tilde_or_caret other.delimiter ≡ b → k < (if b then height else 0) → (k < bottom_of bottoms other) ⊎ IsOfKind closer other
        by_kind true t m = inr (inr (on, t))
        by_kind false t m = absurd (omega (arith, m))
    go (Some class) e l = inl (let same : bottom_of bottoms other ≡ get_or bottoms.heights class 0 = rw e refl in omega (arith, l, same))

pub kinds-class : (closer other : Run) (bottoms : OpenersBottom) (class height k : ℕ) → class_of closer ≡ Some class → k < bottom_of (record { heights = slice_set bottoms.heights class height; inactive_below = bottoms.inactive_below }) other → (k < bottom_of bottoms other) ⊎ IsOfKind closer other
kinds-class closer other bottoms class height k is lt = go (class_of other) refl lt
  where
    go : (o : Option ℕ) → class_of other ≡ o → k < or_other o (slice_set bottoms.heights class height) (if is_tilde_or_caret other.delimiter then bottoms.inactive_below else 0) → (k < bottom_of bottoms other) ⊎ IsOfKind closer other
    go None e l = inl (let same : bottom_of bottoms other ≡ (if is_tilde_or_caret other.delimiter then bottoms.inactive_below else 0) = rw e refl in omega (arith, l, same))
    go (Some n) e l = by (cases_eq n class)
      where
        by : (n ≡ class) ⊎ (n ≡ class → ⊥) → (k < bottom_of bottoms other) ⊎ IsOfKind closer other
        by (inl same) = inr (inl (class-delimiter closer other class is (e ∙ ap (λ m. Some m) same)))
        by (inr differs) = inl (let one : bottom_of bottoms other ≡ get_or bottoms.heights n 0 = rw e refl in let two = get_or-set_other bottoms.heights class n height 0 differs in omega (arith, l, one, two))
