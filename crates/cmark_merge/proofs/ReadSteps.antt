-- Readings one after the other.
use Rattle.std.proofs.Common.{◌≡◌, Bool, true, false, List, [], ◌∷◌, ◌++◌, Option, Some, None, option_to_list, refl, sym, ap, subst, ◌∙◌, append-nil, true≢false}
use Rattle.std.specs.Iterator.{Yields}
use Rattle.cmark_merge.specs.Reading.{Ahead, ReadsTo, Reads}
use Rattle.cmark_merge.specs.Steps.{ReadsOne, Takes}
use Rattle.cmark_merge.specs.Streams.{RangedItem}

module _ {S X : Type 0} (steps : S → Option X → S → Type 0) where
  pub yields-append : (s : S) (xs : List X) (t : S) (ys : List X) (u : S) → Yields steps s xs t → Yields steps t ys u → Yields steps s (xs ++ ys) u
  yields-append s [] t ys u h k = subst (λ v. Yields steps v ys u) (sym h) k
  yields-append s (x ∷ xs) t ys u h k = (h.0, h.1, yields-append h.0 xs t ys u h.2 k)

  pub to-append : (a b c : Bool) (s t u : S) (xs ys : List X) → ReadsTo steps a s xs b t → ReadsTo steps b t ys c u → ReadsTo steps a s (xs ++ ys) c u
  to-append true true c s t u xs ys h k = (ap (λ l. l ++ ys) h.0 ∙ k.0, k.1, k.2 ∙ h.2)
  to-append true false c s t u xs ys h k = absurd (true≢false (sym h.1))
  to-append false true c s t u xs ys h k = ended c k.1
    where
      ended : (d : Bool) → d ≡ true → ReadsTo steps false s (xs ++ ys) d u
      ended false e = absurd (true≢false (sym e))
      ended true e = (
        h.0,
        subst (λ l. Yields steps s l h.0) (sym (ap (λ l. xs ++ l) k.0 ∙ append-nil xs)) h.1,
        subst (λ v. steps h.0 None v) (sym k.2) h.2,
      )
  to-append false false c s t u xs ys h k = (k.0, yields-append s xs t ys k.0 (subst (Yields steps s xs) h.2 h.1) k.1, k.2)

  -- an iterator that is open now was open before
  pub to-open : (a b : Bool) (s t : S) (xs : List X) → ReadsTo steps a s xs b t → b ≡ false → (a ≡ false) × Yields steps s xs t
  to-open true b s t xs h e = absurd (true≢false (sym h.1 ∙ e))
  to-open false true s t xs h e = absurd (true≢false e)
  to-open false false s t xs h e = (refl, subst (Yields steps s xs) h.2 h.1)

  pub to-yields : (a b : Bool) (s t : S) (xs : List X) → a ≡ false → b ≡ false → Yields steps s xs t → ReadsTo steps a s xs b t
  to-yields true b s t xs e k h = absurd (true≢false e)
  to-yields false true s t xs e k h = absurd (true≢false k)
  to-yields false false s t xs e k h = (t, h, refl)

  -- two readings ahead, one after the other
  pub reads-append : (r s t : Ahead S X) (xs ys : List X) → Reads steps r xs s → Reads steps s ys t → Reads steps r (xs ++ ys) t
  reads-append r s t xs ys h k = to-append r.is_over s.is_over t.is_over r.iter s.iter t.iter xs ys h k

  pub reads-yields : (s t : Ahead S X) (xs : List X) → s.is_over ≡ false → t.is_over ≡ false → Yields steps s.iter xs t.iter → Reads steps s xs t
  reads-yields s t xs e k h = to-yields s.is_over t.is_over s.iter t.iter xs e k h

  pub reads-open : (s t : Ahead S X) (xs : List X) → Reads steps s xs t → t.is_over ≡ false → (s.is_over ≡ false) × Yields steps s.iter xs t.iter
  reads-open s t xs h e = to-open s.is_over t.is_over s.iter t.iter xs h e

-- the next item if none was held
module _ {S : Type 0} (steps : S → Option RangedItem → S → Type 0) (iter : S) (is_over : Bool) (held others : Option RangedItem) (new : Ahead S RangedItem) where
  abbrev old : Option RangedItem → Ahead S RangedItem
  old o = record { iter = iter; held = o; is_over = is_over }

  pub takes-read : (given : Option RangedItem) → held ≡ None → ReadsOne steps (old others) given new → new.held ≡ None → Takes steps (old held) given new
  takes-read None e h k = record { read = []; reads = h.0; items = ap (λ o. option_to_list o ++ []) e; nothing_held = k; ends = h.1 }
  takes-read (Some x) e h k = record {
    read = x ∷ [];
    reads = reads-yields steps (old held) new (x ∷ []) h.0 h.2 (new.iter, h.1, refl);
    items = ap (λ o. option_to_list o ++ x ∷ []) e;
    nothing_held = k;
    ends = tt;
  }
