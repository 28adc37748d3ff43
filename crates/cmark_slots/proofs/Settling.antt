-- Slots that get the characters of quotes and the marks of runs, and the facts that hold after it.
use Rattle.std.proofs.Common.{◌≡◌, ◌≢◌, ◌⊎◌, inl, inr, ⊎_elim, ℕ, zero, suc, ◌+◌, ◌<◌, ◌≤◌, List, [], ◌∷◌, ◌++◌, length, get_or, refl, sym, ap, subst, ◌∙◌, arith}
use Rattle.std.proofs.lemmas.Bool.{cases_lt}
use Rattle.std.proofs.lemmas.List.{length_push, get_or_append_left, get_or_push}
use Rattle.cmark_slots.specs.MarkedSlots.{AreWhole, EndWithin, HaveBytes, SameBefore, last_in}
use Rattle.cmark_slots.specs.QuoteSlots.{with_character, with_characters}
use Rattle.cmark_slots.specs.Standing.{CanSettle, IsPlain, NamesAs, NamesNoMore}
use Rattle.cmark_emphasis.specs.declared.run.PlacedRun.{PlacedRun}
use Rattle.cmark_slots.specs.declared.quote.PlacedQuote.{PlacedQuote}
use Rattle.cmark_slots.specs.declared.slot.Slot.{Slot}
use Rattle.cmark_slots.specs.declared.slot.SlotKind.{SlotKind}
use Rattle.cmark_slots.specs.declared.slot.SlotKind.TheVariants as kind
use Rattle.cmark_slots.proofs.Naming.{same-as}
use Rattle.cmark_slots.proofs.Placing.{KeepsRuns, have-kept, keeps-before, no-quote, runs-within, texts-kept}

-- ## Whole texts

pub nothing-text : kind.Nothing ≢ kind.Text
nothing-text e = let z : ⊥ = cc in z

-- a kind stays, or a kind other than Nothing becomes one that stands alone
abbrev pub Stays : (old new : SlotKind) → Type 0
Stays old new = (new ≡ old) ⊎ ((old ≢ kind.Nothing) × ((i : ℕ) → last_in new i ≡ i))

module _ (old new : List Slot) (size : length new ≡ length old) (stays : (k : ℕ) (d : Slot) → k < length old → Stays (get_or old k d).kind (get_or new k d).kind) where
  pub whole-stays : AreWhole old → AreWhole new
  whole-stays whole i k d ik kl lt =
      let there : k < length old = omega (arith, lt, size) in
      go i k d ik kl there (stays i d (omega (arith, ik, there))) (stays k d there)
    where
      go : (i k : ℕ) (d : Slot) → i < k → k ≤ last_in (get_or new i d).kind i → k < length old → Stays (get_or old i d).kind (get_or new i d).kind → Stays (get_or old k d).kind (get_or new k d).kind → (get_or new k d).kind ≡ kind.Nothing
      go i k d ik kl there (inr (some, alone)) other = let no_more : k ≤ i = subst (λ n. k ≤ n) (alone i) kl in absurd (omega (arith, ik, no_more))
      go i k d ik kl there (inl e) (inl f) = f ∙ whole i k d ik (subst (λ x. k ≤ last_in x i) e kl) there
      go i k d ik kl there (inl e) (inr (some, alone)) = absurd (some (whole i k d ik (subst (λ x. k ≤ last_in x i) e kl) there))

  pub within-stays : EndWithin old → EndWithin new
  within-stays within i d lt =
      let there : i < length old = omega (arith, lt, size) in
      subst (λ n. last_in (get_or new i d).kind i < n) (sym size) (go i d there (stays i d there))
    where
      go : (i : ℕ) (d : Slot) → i < length old → Stays (get_or old i d).kind (get_or new i d).kind → last_in (get_or new i d).kind i < length old
      go i d there (inl e) = subst (λ x. last_in x i < length old) (sym e) (within i d there)
      go i d there (inr (some, alone)) = subst (λ n. n < length old) (sym (alone i)) there

pub before-push : (low : ℕ) (slots : List Slot) (s : Slot) → low ≤ length slots → SameBefore low slots (slots ++ (s ∷ []))
before-push low slots s le = λ k d lt. get_or_append_left slots (s ∷ []) d k (omega (arith, lt, le))

-- one more slot, which stands alone
module _ (slots : List Slot) (s : Slot) (alone : (i : ℕ) → last_in s.kind i ≡ i) where
  pub whole-push : AreWhole slots → EndWithin slots → AreWhole (slots ++ (s ∷ []))
  whole-push whole within i k d ik kl lt =
      let n = length_push slots s in
      go i k d ik kl (let q : k ≤ length slots = omega (arith, lt, n) in q) (cases_lt i (length slots)) (cases_lt k (length slots))
    where
      go : (i k : ℕ) (d : Slot) → i < k → k ≤ last_in (get_or (slots ++ (s ∷ [])) i d).kind i → k ≤ length slots → (i < length slots) ⊎ (length slots ≤ i) → (k < length slots) ⊎ (length slots ≤ k) → (get_or (slots ++ (s ∷ [])) k d).kind ≡ kind.Nothing
      go i k d ik kl most (inr g) other = absurd (omega (arith, ik, most, g))
      go i k d ik kl most (inl lt) (inl there) =
          ap (λ (x : Slot). x.kind) (get_or_append_left slots (s ∷ []) d k there)
          ∙ whole i k d ik (subst (λ (x : Slot). k ≤ last_in x.kind i) (get_or_append_left slots (s ∷ []) d i lt) kl) there
      go i k d ik kl most (inl lt) (inr g) =
          let reach = subst (λ (x : Slot). k ≤ last_in x.kind i) (get_or_append_left slots (s ∷ []) d i lt) kl in
          let w = within i d lt in
          absurd (omega (arith, reach, w, g))

  pub within-push : EndWithin slots → EndWithin (slots ++ (s ∷ []))
  within-push within i d lt =
      let n = length_push slots s in
      subst (λ m. last_in (get_or (slots ++ (s ∷ [])) i d).kind i < m) (sym n) (go i d (let q : i ≤ length slots = omega (arith, lt, n) in q) (cases_lt i (length slots)))
    where
      go : (i : ℕ) (d : Slot) → i ≤ length slots → (i < length slots) ⊎ (length slots ≤ i) → last_in (get_or (slots ++ (s ∷ [])) i d).kind i < length slots + 1
      go i d most (inl lt) = subst (λ (x : Slot). last_in x.kind i < length slots + 1) (sym (get_or_append_left slots (s ∷ []) d i lt)) (let w = within i d lt in let q : last_in (get_or slots i d).kind i < length slots + 1 = omega (arith, w) in q)
      go i d most (inr g) =
          subst (λ (x : Slot). last_in x.kind i < length slots + 1) (sym (get_or_push slots s d i (let q : length slots ≡ i = omega (arith, g, most) in q)))
          (let a = alone i in let q : last_in s.kind i < length slots + 1 = omega (arith, a, most) in q)

-- ## Characters of quotes

pub length-character : (at character : ℕ) (slots : List Slot) → length (with_character at character slots) ≡ length slots
length-character at character [] = refl
length-character zero character (slot ∷ slots) = refl
length-character (suc at) character (slot ∷ slots) = let h = length-character at character slots in let q : suc (length (with_character at character slots)) ≡ suc (length slots) = omega (arith, h) in q

pub length-characters : (placed : List PlacedQuote) (characters : List ℕ) (slots : List Slot) → length (with_characters placed characters slots) ≡ length slots
length-characters [] characters slots = refl
length-characters (p ∷ placed) [] slots = refl
length-characters (p ∷ placed) (c ∷ characters) slots = length-characters placed characters (with_character p.slot c slots) ∙ length-character p.slot c slots

abbrev One : (at character : ℕ) → (old new : List Slot) → (k : ℕ) → Slot → Type 0
One at character old new k d = (get_or new k d ≡ get_or old k d) ⊎ ((k ≡ at) × (k < length old) × ((get_or new k d).kind ≡ kind.Character character))

one-character : (at character : ℕ) (slots : List Slot) (k : ℕ) (d : Slot) → One at character slots (with_character at character slots) k d
one-character at character [] k d = inl refl
one-character zero character (slot ∷ slots) zero d = inr (refl, (let q : 0 < length (slot ∷ slots) = omega arith in q), refl)
one-character zero character (slot ∷ slots) (suc k) d = inl refl
one-character (suc at) character (slot ∷ slots) zero d = inl refl
one-character (suc at) character (slot ∷ slots) (suc k) d = go (one-character at character slots k d)
  where
    go : One at character slots (with_character at character slots) k d → One (suc at) character (slot ∷ slots) (slot ∷ with_character at character slots) (suc k) d
    go (inl e) = inl e
    go (inr (e, lt, c)) = inr (ap suc e, (let q : suc k < length (slot ∷ slots) = omega (arith, lt) in q), c)

-- a slot stays, or it is the slot of one of the quotes and becomes a character
abbrev pub Lettered : List PlacedQuote → (old new : List Slot) → (k : ℕ) → Slot → Type 0
Lettered placed old new k d =
    (get_or new k d ≡ get_or old k d) ⊎ ((i : ℕ) × (i < length placed) × ((get_or placed i no-quote).slot ≡ k) × (k < length old) × ((character : ℕ) × ((get_or new k d).kind ≡ kind.Character character)))

pub are-lettered : (placed : List PlacedQuote) (characters : List ℕ) (slots : List Slot) (k : ℕ) (d : Slot) → Lettered placed slots (with_characters placed characters slots) k d
are-lettered [] characters slots k d = inl refl
are-lettered (p ∷ placed) [] slots k d = inl refl
are-lettered (p ∷ placed) (c ∷ characters) slots k d = go (one-character p.slot c slots k d) (are-lettered placed characters (with_character p.slot c slots) k d)
  where
    go : One p.slot c slots (with_character p.slot c slots) k d → Lettered placed (with_character p.slot c slots) (with_characters placed characters (with_character p.slot c slots)) k d
        → Lettered (p ∷ placed) slots (with_characters placed characters (with_character p.slot c slots)) k d
    go one (inr (i, lt, is, within, made)) =
        let n = length-character p.slot c slots in
        inr (suc i, (let q : suc i < length (p ∷ placed) = omega (arith, lt) in q), is, (let q : k < length slots = omega (arith, within, n) in q), made)
    go (inl e) (inl f) = inl (f ∙ e)
    go (inr (at_it, lt, made)) (inl f) = inr (0, (let q : 0 < length (p ∷ placed) = omega arith in q), sym at_it, lt, (c, ap (λ (s : Slot). s.kind) f ∙ made))

module _ (low : ℕ) (slots : List Slot) (runs : List PlacedRun) (quotes : List PlacedQuote) (h : CanSettle low slots runs quotes) where
  -- one more slot
  pub can-push : (s : Slot) → ((i : ℕ) → last_in s.kind i ≡ i) → CanSettle low (slots ++ (s ∷ [])) runs quotes
  can-push s alone =
      let new : List Slot = slots ++ (s ∷ []) in
      let n = length_push slots s in
      let longer : length slots ≤ length new = omega (arith, n) in
      let same : SameBefore (length slots) slots new = λ k d lt. get_or_append_left slots (s ∷ []) d k lt in
      record {
        whole = whole-push slots s alone h.whole h.within;
        within = within-push slots s alone h.within;
        quotes_are = texts-kept slots new quotes longer (λ k d lt e. same (get_or quotes k d).slot e (h.quotes_are k d lt).0) h.quotes_are;
        quotes_after = h.quotes_after;
        runs_are = have-kept slots new low 0 runs longer h.sizes (keeps-before (length slots) slots new runs same (runs-within slots low 0 runs h.sizes h.runs_are)) h.runs_are;
        sizes = h.sizes;
        known = h.known;
        apart = h.apart;
      }

  abbrev Letters : List ℕ → List Slot
  Letters characters = with_characters quotes characters slots

  letters-stay : (characters : List ℕ) (k : ℕ) (d : Slot) → Stays (get_or slots k d).kind (get_or (Letters characters) k d).kind
  letters-stay characters k d = go (are-lettered quotes characters slots k d)
    where
      go : Lettered quotes slots (Letters characters) k d → Stays (get_or slots k d).kind (get_or (Letters characters) k d).kind
      go (inl e) = inl (ap (λ (s : Slot). s.kind) e)
      go (inr (i, lt, is, within, (character, made))) =
          let text : (get_or slots k d).kind ≡ kind.Text = subst (λ j. (get_or slots j d).kind ≡ kind.Text) is ((h.quotes_are i no-quote lt).1 d) in
          inr ((λ e. nothing-text (sym e ∙ text)), (λ j. ap (λ x. last_in x j) made))

  pub letters-name : (characters : List ℕ) → NamesNoMore slots (Letters characters)
  letters-name characters = λ k d lt. let n = length-characters quotes characters slots in go k d (let q : k < length slots = omega (arith, lt, n) in q) (are-lettered quotes characters slots k d)
    where
      go : (k : ℕ) (d : Slot) → k < length slots → Lettered quotes slots (Letters characters) k d → IsPlain (get_or (Letters characters) k d).kind ⊎ ((k < length slots) × NamesAs (get_or slots k d) (get_or (Letters characters) k d))
      go k d there (inl e) = inr (there, same-as (get_or slots k d) (get_or (Letters characters) k d) e)
      go k d there (inr (i, lt, is, within, (character, made))) = inl (subst (λ x. IsPlain x) (sym made) (refl, refl, refl))

  pub letters-before : (characters : List ℕ) → SameBefore low slots (Letters characters)
  letters-before characters = λ k d lt. go k d lt (are-lettered quotes characters slots k d)
    where
      go : (k : ℕ) (d : Slot) → k < low → Lettered quotes slots (Letters characters) k d → get_or (Letters characters) k d ≡ get_or slots k d
      go k d lt (inl e) = e
      go k d lt (inr (i, there, is, within, made)) = let le = h.quotes_after i no-quote there in absurd (omega (arith, lt, is, le))

  letters-keep : (characters : List ℕ) → KeepsRuns slots (Letters characters) runs
  letters-keep characters = λ j e lt. λ k d from to. go j e lt k d from to (are-lettered quotes characters slots k d)
    where
      go : (j : ℕ) (e : PlacedRun) → j < length runs → (k : ℕ) (d : Slot) → (get_or runs j e).slot ≤ k → k < (get_or runs j e).slot + (get_or runs j e).run_length → Lettered quotes slots (Letters characters) k d → get_or (Letters characters) k d ≡ get_or slots k d
      go j e lt k d from to (inl same) = same
      go j e lt k d from to (inr (i, there, is, within, made)) =
          ⊎_elim (λ (before : (get_or quotes i no-quote).slot < (get_or runs j e).slot). absurd (omega (arith, before, is, from))) (λ (following : (get_or runs j e).slot + (get_or runs j e).run_length ≤ (get_or quotes i no-quote).slot). absurd (omega (arith, following, is, to)))
          (h.apart i no-quote there j e lt)

  -- the characters are written
  pub letters-settle : (characters : List ℕ) → AreWhole (Letters characters) × EndWithin (Letters characters) × HaveBytes (Letters characters) low 0 runs
  letters-settle characters =
      let n = length-characters quotes characters slots in (
        whole-stays slots (Letters characters) n (λ k d lt. letters-stay characters k d) h.whole,
        within-stays slots (Letters characters) n (λ k d lt. letters-stay characters k d) h.within,
        have-kept slots (Letters characters) low 0 runs (let q : length slots ≤ length (Letters characters) = omega (arith, n) in q) h.sizes (letters-keep characters) h.runs_are,
      )
