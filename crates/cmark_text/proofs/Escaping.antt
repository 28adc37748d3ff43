-- A text that is escaped byte by byte, up to some point.
use Rattle.std.proofs.Common.{◌≡◌, ℕ, suc, ◌+◌, ◌-◌, ◌<◌, ◌≤◌, Bool, true, false, List, [], ◌∷◌, ◌++◌, length, get_or, take, drop, slice_range, flat_map, position, Option, None, Some, refl, sym, ap, subst, ◌∙◌, arith, add-one, append_assoc, append-nil, take-append-drop, drop-cons, drop-drop, Result, Ok, Err, OnOk, OnErr, is_ok, if◌then◌else◌}
use Rattle.std.proofs.lemmas.Bool.{false_from_ne_true}
use Rattle.std.proofs.lemmas.Grind.{flat_map-append}
use Rattle.std.proofs.lemmas.List.{get_or-take, get_or-drop, length-take-le, length-drop}
use Rattle.std.proofs.lemmas.List.Quantifiers.{position-Some}
use Rattle.memchr.specs.Find.{IsFirstByte}
use Rattle.cmark_text.specs.Appended.{AppendsFront}
use Rattle.cmark_values.proofs.Kept.{AllKept}

-- new is old with a first part of the text escaped, and this rest of the text is left
pub record Written (escape : ℕ → List ℕ) (old new text rest : List ℕ) : Type 0 where
  pub front : List ℕ
  pub cut : text ≡ front ++ rest
  pub written : new ≡ old ++ flat_map escape front

pub written_none : (escape : ℕ → List ℕ) (old text : List ℕ) → Written escape old old text text
written_none escape old text = record { front = []; cut = refl; written = sym (append-nil old) }

-- one more part
pub written_more : (escape : ℕ → List ℕ) (old mid new text part rest : List ℕ) → Written escape old mid text (part ++ rest) → new ≡ mid ++ flat_map escape part → Written escape old new text rest
written_more escape old mid new text part rest w e = record {
  front = w.front ++ part;
  cut = w.cut ∙ sym (append_assoc w.front part rest);
  written = e ∙ ap (λ l. l ++ flat_map escape part) w.written ∙ append_assoc old (flat_map escape w.front) (flat_map escape part) ∙ ap (λ l. old ++ l) (sym (flat_map-append escape w.front part));
}

-- the whole text
pub written_all : (escape : ℕ → List ℕ) (old new text : List ℕ) → Written escape old new text [] → new ≡ old ++ flat_map escape text
written_all escape old new text w = w.written ∙ ap (λ l. old ++ flat_map escape l) (sym (append-nil w.front) ∙ sym w.cut)

-- a beginning of the escaped text
pub written_front : (escape : ℕ → List ℕ) (old mid new text rest : List ℕ) → Written escape old mid text rest → new ≡ mid → AppendsFront old new (flat_map escape text)
written_front escape old mid new text rest w same =
    (flat_map escape w.front, flat_map escape rest, ap (flat_map escape) w.cut ∙ flat_map-append escape w.front rest, same ∙ w.written)

-- a beginning of the escaped text that ends in the next part
pub written_within : (escape : ℕ → List ℕ) (old mid new text part rest : List ℕ) → Written escape old mid text (part ++ rest) → AppendsFront mid new (flat_map escape part) → AppendsFront old new (flat_map escape text)
written_within escape old mid new text part rest w h = (
  flat_map escape w.front ++ h.0,
  h.1 ++ flat_map escape rest,
  ap (flat_map escape) w.cut ∙ flat_map-append escape w.front (part ++ rest)
      ∙ ap (λ l. flat_map escape w.front ++ l) (flat_map-append escape part rest ∙ ap (λ l. l ++ flat_map escape rest) h.2 ∙ append_assoc h.0 h.1 (flat_map escape rest))
      ∙ sym (append_assoc (flat_map escape w.front) h.0 (h.1 ++ flat_map escape rest)),
  h.3 ∙ ap (λ l. l ++ h.0) w.written ∙ append_assoc old (flat_map escape w.front) h.0,
)

-- a fact at one outcome
pub on_err : {T E P : Type 0} (r : Result T E) → P → OnErr r P
on_err (Ok x) p = tt
on_err (Err e) p = p

-- a fact that follows from another at the same outcome
pub then_ok : {T E P Q : Type 0} (r : Result T E) → OnOk r P → (P → Q) → OnOk r Q
then_ok (Ok x) p f = f p
then_ok (Err e) p f = tt

pub then_err : {T E P Q : Type 0} (r : Result T E) → OnErr r P → (P → Q) → OnErr r Q
then_err (Ok x) p f = tt
then_err (Err e) p f = f p

-- then_ok for a push, whose result the outcome determines
pub at_ok : {T E P : Type 0} (r : Result T E) (new more old : List ℕ) → new ≡ (if is_ok r then more else old) → (new ≡ more → P) → OnOk r P
at_ok (Ok x) new more old e fact = fact e
at_ok (Err e) new more old same fact = tt

pub at_err : {T E P : Type 0} (r : Result T E) (new more old : List ℕ) → new ≡ (if is_ok r then more else old) → (new ≡ old → P) → OnErr r P
at_err (Ok x) new more old e fact = tt
at_err (Err e) new more old same fact = fact same

-- the first marked byte of a list
pub record IsFirstMark (mark : ℕ → Bool) (xs : List ℕ) (at : ℕ) : Type 0 where
  pub below : at < length xs
  pub here : mark (get_or xs at 0) ≡ true
  pub before : (k : ℕ) → k < at → mark (get_or xs k 0) ≡ false

pub first_mark-position : (mark : ℕ → Bool) (xs : List ℕ) (at : ℕ) (r : Option ℕ) → r ≡ position mark xs → r ≡ Some at → IsFirstMark mark xs at
first_mark-position mark xs at r e is =
    let found = position-Some mark xs at 0 (sym e ∙ is) in
    record { below = found.0; here = found.1; before = found.2 }

pub first_mark-byte : (mark : ℕ → Bool) (xs : List ℕ) (at : ℕ) → IsFirstByte mark xs (Some at) → IsFirstMark mark xs at
first_mark-byte mark xs at found = record {
  below = found.0.high;
  here = found.1;
  before = λ k below. false_from_ne_true (mark (get_or xs k 0)) (found.0.before k (omega arith) below);
}

pub all_kept-byte : (mark : ℕ → Bool) (xs : List ℕ) → IsFirstByte mark xs None → AllKept mark xs
all_kept-byte mark xs none k below = false_from_ne_true (mark (get_or xs k 0)) (none k (omega arith) below)

-- a beginning of the escaped text that ends in the escape of the mark
pub written_within_mark : (escape : ℕ → List ℕ) (old mid new text : List ℕ) (at : ℕ) → at < length text → Written escape old mid text (drop at text) → AppendsFront mid new (escape (get_or text at 0)) → AppendsFront old new (flat_map escape text)
written_within_mark escape old mid new text at below w h =
    let cut : drop at text ≡ (get_or text at 0 ∷ []) ++ drop (at + 1) text = rw add-one (drop-cons text at 0 below) in
    written_within escape old mid new text (get_or text at 0 ∷ []) (drop (at + 1) text)
    (subst (Written escape old mid text) cut w)
    (subst (AppendsFront mid new) (sym (append-nil (escape (get_or text at 0)))) h)

module _ (escape : ℕ → List ℕ) (mark : ℕ → Bool) (keeps : (b : ℕ) → mark b ≡ false → escape b ≡ b ∷ []) where
  pub kept_whole : (xs : List ℕ) → AllKept mark xs → flat_map escape xs ≡ xs
  kept_whole [] all = refl
  kept_whole (x ∷ xs) all =
      ap (λ l. l ++ flat_map escape xs) (keeps x (all 0 (omega arith)))
      ∙ ap (λ l. x ∷ l) (kept_whole xs (λ k below. all (suc k) (omega arith)))

  pub kept_front : (xs : List ℕ) (n : ℕ) → n ≤ length xs → ((k : ℕ) → k < n → mark (get_or xs k 0) ≡ false) → flat_map escape (take n xs) ≡ take n xs
  kept_front xs n fits kept =
      kept_whole (take n xs) (λ k below.
      let small : k < n = omega (arith, length-take-le n xs fits) in
      ap mark (get_or-take n xs k 0 small) ∙ kept k small)

  -- the bytes before the first mark, and the mark itself
  pub written_to_mark : (old mid new text rest : List ℕ) (at : ℕ) → at ≤ length rest → ((k : ℕ) → k < at → mark (get_or rest k 0) ≡ false) → Written escape old mid text rest → new ≡ mid ++ take at rest → Written escape old new text (drop at rest)
  written_to_mark old mid new text rest at fits kept w e =
      written_more escape old mid new text (take at rest) (drop at rest)
      (subst (Written escape old mid text) (sym (take-append-drop at rest)) w)
      (e ∙ ap (λ l. mid ++ l) (sym (kept_front rest at fits kept)))

  pub written_past_mark : (old mid new text rest : List ℕ) (at : ℕ) → at < length rest → Written escape old mid text (drop at rest) → new ≡ mid ++ escape (get_or rest at 0) → Written escape old new text (drop (at + 1) rest)
  written_past_mark old mid new text rest at below w e =
      let cut : drop at rest ≡ (get_or rest at 0 ∷ []) ++ drop (at + 1) rest = rw add-one (drop-cons rest at 0 below) in
      written_more escape old mid new text (get_or rest at 0 ∷ []) (drop (at + 1) rest)
      (subst (Written escape old mid text) cut w)
      (e ∙ ap (λ l. mid ++ l) (sym (append-nil (escape (get_or rest at 0)))))

  -- no mark is left
  pub written_to_end : (old mid new text rest : List ℕ) → AllKept mark rest → Written escape old mid text rest → new ≡ mid ++ rest → new ≡ old ++ flat_map escape text
  written_to_end old mid new text rest kept w e =
      written_all escape old new text
      (written_more escape old mid new text rest []
      (subst (Written escape old mid text) (sym (append-nil rest)) w)
      (e ∙ ap (λ l. mid ++ l) (sym (kept_whole rest kept))))

  -- the bytes from one place to another
  pub written_to : (old mid new text : List ℕ) (from to : ℕ) → from ≤ to → to ≤ length text → ((k : ℕ) → from ≤ k → k < to → mark (get_or text k 0) ≡ false) → Written escape old mid text (drop from text) → new ≡ mid ++ slice_range text from to → Written escape old new text (drop to text)
  written_to old mid new text from to ordered fits kept w e =
      let there : from + (to - from) ≡ to = omega arith in
      subst (λ n. Written escape old new text (drop n text)) there
      (subst (Written escape old new text) (drop-drop (to - from) from text)
      (written_to_mark old mid new text (drop from text) (to - from) (omega (arith, length-drop from text))
      (λ k small. ap mark (get_or-drop from text k 0) ∙ kept (from + k) (omega arith) (omega arith))
      w e))
