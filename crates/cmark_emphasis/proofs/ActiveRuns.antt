-- The open runs of a stack on which the tildes and carets below a height are inactive.
use Rattle.std.proofs.Common.{◌≡◌, ◌⊎◌, inl, inr, ℕ, zero, suc, ◌+◌, ◌<◌, ◌≤◌, Bool, true, false, not, List, [], ◌∷◌, ◌++◌, length, get_or, refl, sym, ap, ◌∙◌, subst, arith, true≢false}
use Rattle.std.specs.Prelude.{reverse, take, filter, min, map}
use Rattle.std.proofs.lemmas.Bool.{cases_lt}
use Rattle.std.proofs.lemmas.List.{reverse-append, map-append, take_more, length-take-le}
use Rattle.cmark_grammar.specs.Emphasis.{Run, agrees, is_tilde_or_caret}
use Rattle.cmark_emphasis.specs.Shown.{shown_run, open_runs}
use Rattle.cmark_emphasis.specs.Stack.{NoneAgree}
use Rattle.cmark_emphasis.specs.Bottoms.{stays, active_runs}
use Rattle.cmark_emphasis.specs.declared.run.Run as code_run
use Rattle.cmark_emphasis.proofs.Agreeing.{other_kind}

pub active_runs-none : (xs : List code_run.Run) → active_runs 0 xs ≡ xs
active_runs-none [] = refl
active_runs-none (x ∷ xs) = refl

-- a run on top counts as open, or is inactive
abbrev pub Tops : ℕ → List code_run.Run → code_run.Run → Type 0
Tops n xs x =
    (active_runs n (xs ++ x ∷ []) ≡ active_runs n xs ++ x ∷ []) × ((n ≤ length xs) ⊎ (stays x ≡ true))
    ⊎ (active_runs n (xs ++ x ∷ []) ≡ active_runs n xs) × (length xs < n) × (stays x ≡ false)

pub tops : (n : ℕ) (xs : List code_run.Run) (x : code_run.Run) → Tops n xs x
tops zero [] x = inl (refl, inl (omega arith))
tops (suc n) [] x = go (stays x) refl
  where
    go : (b : Bool) → stays x ≡ b → Tops (suc n) [] x
    go true e = inl (rw e refl, inr e)
    go false e = inr (rw e refl, omega arith, e)
tops zero (y ∷ xs) x = inl (refl, inl (omega arith))
tops (suc n) (y ∷ xs) x = go (stays y) refl (tops n xs x)
  where
    go : (b : Bool) → stays y ≡ b → Tops n xs x → Tops (suc n) (y ∷ xs) x
    go true e (inl (h, inl le)) = inl (rw e (ap (λ l. y ∷ l) h), inl (omega (arith, le)))
    go true e (inl (h, inr s)) = inl (rw e (ap (λ l. y ∷ l) h), inr s)
    go true e (inr h) = inr (rw e (ap (λ l. y ∷ l) h.0), omega (arith, h.1), h.2)
    go false e (inl (h, inl le)) = inl (rw e h, inl (omega (arith, le)))
    go false e (inl (h, inr s)) = inl (rw e h, inr s)
    go false e (inr h) = inr (rw e h.0, omega (arith, h.1), h.2)

pub active_runs-all : (n : ℕ) (xs : List code_run.Run) → length xs ≤ n → active_runs n xs ≡ filter stays xs
active_runs-all n [] le = refl
active_runs-all zero (x ∷ xs) le = absurd (omega (arith, le))
active_runs-all (suc n) (x ∷ xs) le = go (stays x) refl (active_runs-all n xs (omega (arith, le)))
  where
    go : (b : Bool) → stays x ≡ b → active_runs n xs ≡ filter stays xs → active_runs (suc n) (x ∷ xs) ≡ filter stays (x ∷ xs)
    go true e h = rw e (ap (λ l. x ∷ l) h)
    go false e h = rw e h

pub filter-active_runs : (n : ℕ) (xs : List code_run.Run) → filter stays (active_runs n xs) ≡ filter stays xs
filter-active_runs n [] = refl
filter-active_runs zero (x ∷ xs) = refl
filter-active_runs (suc n) (x ∷ xs) = go (stays x) refl (filter-active_runs n xs)
  where
    go : (b : Bool) → stays x ≡ b → filter stays (active_runs n xs) ≡ filter stays xs → filter stays (active_runs (suc n) (x ∷ xs)) ≡ filter stays (x ∷ xs)
    go true e h = rw e (rw e (ap (λ l. x ∷ l) h))
    go false e h = rw e h

-- a height above the stack may be replaced by another
pub active_runs-lower : (n m : ℕ) (xs : List code_run.Run) → length xs ≤ m → active_runs (min n m) xs ≡ active_runs n xs
active_runs-lower n m xs le = go (cases_lt m n)
  where
    go : (m < n) ⊎ (n ≤ m) → active_runs (min n m) xs ≡ active_runs n xs
    go (inl lt) = active_runs-all (min n m) xs (omega (arith, le, lt)) ∙ sym (active_runs-all n xs (omega (arith, le, lt)))
    go (inr h) = ap (λ k. active_runs k xs) (let e : min n m ≡ n = omega (arith, h) in e)

pub active_runs-push : (n : ℕ) (xs : List code_run.Run) (x : code_run.Run) → n ≤ length xs → active_runs n (xs ++ x ∷ []) ≡ active_runs n xs ++ x ∷ []
active_runs-push n xs x le = go (tops n xs x)
  where
    go : Tops n xs x → active_runs n (xs ++ x ∷ []) ≡ active_runs n xs ++ x ∷ []
    go (inl h) = h.0
    go (inr h) = absurd (omega (arith, le, h.1))

pub open-push : (xs : List code_run.Run) (x : code_run.Run) → open_runs (xs ++ x ∷ []) ≡ shown_run x ∷ open_runs xs
open-push xs x = ap reverse (map-append shown_run xs (x ∷ [])) ∙ reverse-append (map shown_run xs) (shown_run x ∷ [])

abbrev pub some_run : code_run.Run
some_run = record { delimiter = 0; run_length = 0; at = 0; left = 0; opens = false; closes = false }

-- one more run of the stack
pub tops_at : (n : ℕ) (stack : List code_run.Run) (i : ℕ) (d : code_run.Run) → i < length stack
    → (open_runs (active_runs n (take (i + 1) stack)) ≡ shown_run (get_or stack i d) ∷ open_runs (active_runs n (take i stack))) × ((n ≤ i) ⊎ (stays (get_or stack i d) ≡ true))
    ⊎ (open_runs (active_runs n (take (i + 1) stack)) ≡ open_runs (active_runs n (take i stack))) × (i < n) × (stays (get_or stack i d) ≡ false)
tops_at n stack i d lt = go (tops n (take i stack) (get_or stack i d))
  where
    more : active_runs n (take (i + 1) stack) ≡ active_runs n (take i stack ++ get_or stack i d ∷ [])
    more = ap (active_runs n) (take_more stack i d lt)

    len : length (take i stack) ≡ i
    len = length-take-le i stack (omega (arith, lt))

    go : Tops n (take i stack) (get_or stack i d) → (open_runs (active_runs n (take (i + 1) stack)) ≡ shown_run (get_or stack i d) ∷ open_runs (active_runs n (take i stack))) × ((n ≤ i) ⊎ (stays (get_or stack i d) ≡ true))
        ⊎ (open_runs (active_runs n (take (i + 1) stack)) ≡ open_runs (active_runs n (take i stack))) × (i < n) × (stays (get_or stack i d) ≡ false)
    go (inl (h, inl le)) = inl (ap open_runs (more ∙ h) ∙ open-push (active_runs n (take i stack)) (get_or stack i d), inl (omega (arith, le, len)))
    go (inl (h, inr s)) = inl (ap open_runs (more ∙ h) ∙ open-push (active_runs n (take i stack)) (get_or stack i d), inr s)
    go (inr h) = inr (ap open_runs (more ∙ h.0), omega (arith, h.1, len), h.2)

module _ (c : Run) (n : ℕ) (stack : List code_run.Run) where
  -- no open run among the first ones agrees
  abbrev NoneUpTo : ℕ → Type 0
  NoneUpTo i = NoneAgree c (open_runs (active_runs n (take i stack)))

  -- the run at this index counts as open, or is inactive
  abbrev TopsAt : ℕ → code_run.Run → Type 0
  TopsAt i d =
      (open_runs (active_runs n (take (i + 1) stack)) ≡ shown_run (get_or stack i d) ∷ open_runs (active_runs n (take i stack))) × ((n ≤ i) ⊎ (stays (get_or stack i d) ≡ true))
      ⊎ (open_runs (active_runs n (take (i + 1) stack)) ≡ open_runs (active_runs n (take i stack))) × (i < n) × (stays (get_or stack i d) ≡ false)

  next : (i : ℕ) → i + 1 ≡ suc i
  next i = omega arith

  -- no open run among the first ones agrees if no run of the stack does
  pub none_of : (i : ℕ) → i ≤ length stack → ((k : ℕ) (d : code_run.Run) → k < i → agrees (shown_run (get_or stack k d)) c ≡ false) → NoneAgree c (open_runs (active_runs n (take i stack)))
  none_of zero le h = tt
  none_of (suc i) le h =
      go (tops_at n stack i some_run (omega (arith, le))) (none_of i (omega (arith, le)) (λ k d lt. h k d (omega (arith, lt))))
    where
      go : TopsAt i some_run → NoneUpTo i → NoneUpTo (suc i)
      go (inl t) r = subst NoneUpTo (next i) (subst (NoneAgree c) (sym t.0) (h i some_run (omega arith), r))
      go (inr t) r = subst NoneUpTo (next i) (subst (NoneAgree c) (sym t.0) r)

  -- below the height the search of a tilde or a caret finds nothing
  pub none_inactive : is_tilde_or_caret c.delimiter ≡ true → (i : ℕ) → i ≤ length stack → i ≤ n → NoneAgree c (open_runs (active_runs n (take i stack)))
  none_inactive tilde zero le low = tt
  none_inactive tilde (suc i) le low =
      go (tops_at n stack i some_run (omega (arith, le))) (none_inactive tilde i (omega (arith, le)) (omega (arith, low)))
    where
      back : (b : Bool) → not b ≡ true → b ≡ false
      back true h = absurd (true≢false (sym h))
      back false h = refl

      go : TopsAt i some_run → NoneUpTo i → NoneUpTo (suc i)
      go (inl (t, inl h)) r = absurd (omega (arith, h, low))
      go (inl (t, inr s)) r =
          subst NoneUpTo (next i) (subst (NoneAgree c) (sym t) (other_kind (shown_run (get_or stack i some_run)) c true (back (is_tilde_or_caret (get_or stack i some_run).delimiter) s) tilde, r))
      go (inr t) r = subst NoneUpTo (next i) (subst (NoneAgree c) (sym t.0) r)

  -- if a search finds nothing, no run of the stack agrees
  pub each_misses : is_tilde_or_caret c.delimiter ≡ false → (i : ℕ) → i ≤ length stack → NoneAgree c (open_runs (active_runs n (take i stack))) → (k : ℕ) (d : code_run.Run) → k < i → agrees (shown_run (get_or stack k d)) c ≡ false
  each_misses plain zero le none k d lt = absurd (omega (arith, lt))
  each_misses plain (suc i) le none k d lt = go (tops_at n stack i d (omega (arith, le))) (cases_lt k i) (each_misses plain i (omega (arith, le)))
    where
      back : (b : Bool) → not b ≡ false → b ≡ true
      back true h = refl
      back false h = absurd (true≢false h)

      here : i ≤ k → agrees (shown_run (get_or stack i d)) c ≡ false → agrees (shown_run (get_or stack k d)) c ≡ false
      here more h = let same : i ≡ k = omega (arith, more, lt) in subst (λ j. agrees (shown_run (get_or stack j d)) c ≡ false) same h

      now : NoneUpTo (i + 1)
      now = subst NoneUpTo (sym (next i)) none

      go : TopsAt i d → (k < i) ⊎ (i ≤ k) → (NoneUpTo i → (k : ℕ) (d : code_run.Run) → k < i → agrees (shown_run (get_or stack k d)) c ≡ false) → agrees (shown_run (get_or stack k d)) c ≡ false
      go (inl t) (inl less) further = let both : NoneAgree c (shown_run (get_or stack i d) ∷ open_runs (active_runs n (take i stack))) = subst (NoneAgree c) t.0 now in further both.1 k d less
      go (inl t) (inr more) further = let both : NoneAgree c (shown_run (get_or stack i d) ∷ open_runs (active_runs n (take i stack))) = subst (NoneAgree c) t.0 now in here more both.0
      go (inr t) (inl less) further = further (subst (NoneAgree c) t.0 now) k d less
      go (inr t) (inr more) further = here more (other_kind (shown_run (get_or stack i d)) c false (back (is_tilde_or_caret (get_or stack i d).delimiter) t.2) plain)
