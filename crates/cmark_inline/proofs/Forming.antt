-- The slots, runs, quotes and brackets that links, images and footnote references leave.
use Rattle.std.proofs.Common.{◌≡◌, ◌⊎◌, inl, inr, ℕ, zero, suc, ◌+◌, ◌-◌, ◌<◌, ◌≤◌, List, [], ◌∷◌, ◌++◌, length, take, get_or, set, Some, None, refl, sym, ap, subst, ◌∙◌, arith}
use Rattle.std.specs.Prelude.{All, Bool, true, false, if◌then◌else◌, nat_lt}
use Rattle.std.proofs.lemmas.Bool.{cases_eq, cases_lt, ltb-true, ltb-false}
use Rattle.std.proofs.lemmas.List.{length_push, length-set, length-take, get_or-take, get_or_append_left, get_or_push, get_or-set_same, get_or-set_other, take_all}
use Rattle.cmark_leaf_text.specs.declared.leaf_text.LeafText.{LeafText}
use Rattle.cmark_slots.specs.Doubled.{DropsAfter}
use Rattle.cmark_inline.specs.Footnoted.{PutsReference, reference_slot, with_mark}
use Rattle.cmark_slots.specs.Slots.{put_at, AreBrackets}
use Rattle.cmark_slots.specs.MarkedSlots.{AreWhole, EndWithin, SameBefore, last_in}
use Rattle.cmark_slots.specs.SlotViews.{link_named, text_named}
use Rattle.cmark_slots.specs.Standing.{AreEnded, AreNamed, AreSound, BeginsBefore, CanSettle, EndInOrder, EndsIn, IsPlain, IsSettled, IsTaken, IsTakenPair, NamesAs, source_end}
use Rattle.cmark_slots.specs.declared.bracket.Bracket.{Bracket}
use Rattle.cmark_emphasis.specs.declared.run.PlacedRun.{PlacedRun}
use Rattle.cmark_slots.specs.declared.quote.PlacedQuote.{PlacedQuote}
use Rattle.cmark_slots.specs.declared.slot.Slot.{Slot}
use Rattle.cmark_slots.specs.declared.slot.SlotKind.TheVariants as kind
use Rattle.cmark_slots.proofs.Marks.{no-slot, whole-set, within-set}
use Rattle.cmark_slots.proofs.Naming.{AddsOne, adds-set, adds-then, named-link, named-text, one-ended, same-as}
use Rattle.cmark_slots.proofs.Placing.{have-kept, texts-kept, runs-low}
use Rattle.cmark_slots.proofs.Settling.{nothing-text}
use Rattle.cmark_slots.proofs.Soundness.{sound-back, sound-fewer}

-- a text before the settled slots becomes another slot that covers no later one
pub settle-set : (low : ℕ) (slots : List Slot) (runs : List PlacedRun) (quotes : List PlacedQuote) → CanSettle low slots runs quotes → (at : ℕ) (s : Slot) → at < low → at < length slots → ((d : Slot) → (get_or slots at d).kind ≡ kind.Text)
    → ((i : ℕ) → last_in s.kind i ≡ i) → CanSettle low (set slots at s) runs quotes
settle-set low slots runs quotes h at s before there text alone =
    let n = length-set slots at s in
    let le : length slots ≤ length (set slots at s) = omega (arith, n) in
    let r = runs-low slots low 0 runs h.runs_are low (omega arith) in
    record {
      whole = whole-set slots at s no-slot h.whole there (text no-slot) alone;
      within = within-set slots at s h.within alone;
      quotes_are = texts-kept slots (set slots at s) quotes le (λ k d lt e. let b = h.quotes_after k d lt in get_or-set_other slots at (get_or quotes k d).slot s e (λ (q : (get_or quotes k d).slot ≡ at). absurd (omega (arith, q, b, before)))) h.quotes_are;
      quotes_after = h.quotes_after;
      runs_are = have-kept slots (set slots at s) low 0 runs le h.sizes (λ k d lt. λ j e from to. let b = r k d lt in get_or-set_other slots at j s e (λ (q : j ≡ at). absurd (omega (arith, q, b, from, before)))) h.runs_are;
      sizes = h.sizes;
      known = h.known;
      apart = h.apart;
    }

-- the brackets that are kept end by the offset `place`
pub dropped-before : (place : ℕ) (old new : List Bracket) → DropsAfter place old new → EndInOrder old → All (λ (d : Bracket). d.inside ≤ place) new
dropped-before place old new drops ends = subst (λ (l : List Bracket). All (λ (d : Bracket). d.inside ≤ place) l) (sym drops.is) (λ k d lt.
    let a = length-take drops.count old in
    let w = drops.within in
    let high : k < drops.count = omega (arith, lt, a) in
    subst (λ (b : Bracket). b.inside ≤ place) (sym (get_or-take drops.count old k d high)) (go k d high (cases_lt k (drops.count - 1))))
  where
    go : (k : ℕ) (d : Bracket) → k < drops.count → (k < drops.count - 1) ⊎ (drops.count - 1 ≤ k) → (get_or old k d).inside ≤ place
    go k d high (inl lt) =
        let w = drops.within in
        let last = drops.before d (let q : 0 < drops.count = omega (arith, high) in q) in
        let less = ends k (drops.count - 1) d lt (let q : drops.count - 1 < length old = omega (arith, w, high) in q) in
        omega (arith, last, less)
    go k d high (inr g) =
        let last = drops.before d (let q : 0 < drops.count = omega (arith, high) in q) in
        subst (λ j. (get_or old j d).inside ≤ place) (let q : drops.count - 1 ≡ k = omega (arith, g, high) in q) last

-- equal slots and equal parts are sound too
pub sound-same : (texts texts1 links links1 : ℕ) (slots : List Slot) (runs runs1 : List PlacedRun) (quotes quotes1 : List PlacedQuote) (standing standing1 doubled doubled1 : List Bracket)
    → texts1 ≡ texts → links1 ≡ links → runs1 ≡ runs → quotes1 ≡ quotes → standing1 ≡ standing → doubled1 ≡ doubled → AreSound texts links slots runs quotes standing doubled → AreSound texts1 links1 slots runs1 quotes1 standing1 doubled1
sound-same texts texts1 links links1 slots runs runs1 quotes quotes1 standing standing1 doubled doubled1 t l r q s d h =
    subst (λ x. AreSound x links1 slots runs1 quotes1 standing1 doubled1) (sym t)
    (subst (λ x. AreSound texts x slots runs1 quotes1 standing1 doubled1) (sym l)
    (subst (λ x. AreSound texts links slots x quotes1 standing1 doubled1) (sym r)
    (subst (λ x. AreSound texts links slots runs x standing1 doubled1) (sym q)
    (subst (λ x. AreSound texts links slots runs quotes x doubled1) (sym s)
    (subst (λ x. AreSound texts links slots runs quotes standing x) (sym d) h)))))

-- the brackets that end before another one have slots before it
left-before : (brackets left : List Bracket) (bracket : Bracket) → EndInOrder brackets → (text : List ℕ) (at : ℕ) → AreBrackets text at brackets → All (λ (d : Bracket). BeginsBefore d bracket) brackets → DropsAfter bracket.start brackets left
    → All (λ (d : Bracket). d.slot < bracket.slot) left
left-before brackets left bracket order text at are begin drops =
    let ends = dropped-before bracket.start brackets left drops order in
    λ k d lt.
    let e = ends k d lt in
    let m = ap length drops.is ∙ length-take drops.count brackets in
    let high : k < drops.count = omega (arith, lt, m) in
    let within = drops.within in
    let there : k < length brackets = omega (arith, high, within) in
    let same : get_or left k d ≡ get_or brackets k d = ap (λ l. get_or l k d) drops.is ∙ get_or-take drops.count brackets k d high in
    let some = (are k d there).part.some in
    let past = subst (λ (b : Bracket). b.inside ≤ bracket.start) same e in
    subst (λ (b : Bracket). b.slot < bracket.slot) (sym same) (begin k d there (omega (arith, some, past)))

pub take-none : {X : Type 0} (xs : List X) → take 0 xs ≡ []
take-none [] = refl
take-none (x ∷ xs) = refl

pub take-fewer : {X : Type 0} (n m : ℕ) (xs : List X) → n ≤ m → take n (take m xs) ≡ take n xs
take-fewer zero m xs le = take-none (take m xs) ∙ sym (take-none xs)
take-fewer (suc n) zero xs le = absurd (omega (arith, le))
take-fewer (suc n) (suc m) [] le = refl
take-fewer (suc n) (suc m) (x ∷ xs) le = ap (λ l. x ∷ l) (take-fewer n m xs (omega (arith, le)))

module _ (texts links : ℕ) (slots : List Slot) (runs : List PlacedRun) (quotes : List PlacedQuote) (standing doubled : List Bracket) (h : AreSound texts links slots runs quotes standing doubled) (bracket : Bracket) where
  -- a link or an image begins in the slot of its bracket, and the slots inside it are settled
  pub link-formed : IsTaken slots runs quotes standing doubled bracket → (text : List ℕ) (at : ℕ) → AreBrackets text at doubled → (left : List Bracket) → DropsAfter bracket.start doubled left
      → (s : Slot) → text_named s.kind ≡ None → link_named s.kind ≡ Some links → (new : List Slot) → length slots ≤ length new → IsSettled (bracket.slot + 1) (set slots bracket.slot s) new
      → AreSound texts (links + 1) new (take bracket.runs runs) (take bracket.quotes quotes) standing left
  link-formed taken text at are left drops s bare is new le settled =
      let fewer : AreSound texts links slots runs quotes standing left =
      subst (λ l. AreSound texts links slots runs quotes l left) (take_all (length standing) standing (omega arith))
      (subst (λ l. AreSound texts links slots runs quotes (take (length standing) standing) l) (sym drops.is) (sound-fewer texts links slots runs quotes standing doubled h (length standing) drops.count)) in
      sound-back texts links slots runs quotes standing left fewer bracket taken.placed taken.standing_before (left-before doubled left bracket h.doubled_end text at are taken.doubled_before drops) texts (links + 1) new le
      (λ k d lt. settled.before k d (let q : k < bracket.slot + 1 = omega (arith, lt) in q) ∙ get_or-set_other slots bracket.slot k s d (λ (q : k ≡ bracket.slot). absurd (omega (arith, q, lt))))
      (named-link bracket.slot s slots new (adds-then bracket.slot s slots (set slots bracket.slot s) new (adds-set slots bracket.slot s) settled.names) texts links h.named bare is)
      settled.whole settled.within

  -- a wikilink begins in the slot of its doubled bracket and shows some of the later slots
  pub wikilink-formed : IsTakenPair slots runs quotes standing bracket → (text : List ℕ) (at : ℕ) → AreBrackets text at standing → (left : List Bracket) → DropsAfter bracket.start standing left
      → (s : Slot) → text_named s.kind ≡ None → link_named s.kind ≡ Some links → (mid new : List Slot) → length slots ≤ length mid → length mid ≤ length new → SameBefore (bracket.slot + 1) slots mid → AreNamed texts links mid → IsSettled (bracket.slot + 1) (set mid bracket.slot s) new
      → AreSound texts (links + 1) new (take bracket.runs runs) (take bracket.quotes quotes) left []
  wikilink-formed taken text at are left drops s bare is mid new le more same named settled =
      let fewer : AreSound texts links slots runs quotes left [] =
      subst (λ l. AreSound texts links slots runs quotes l []) (sym drops.is)
      (subst (λ l. AreSound texts links slots runs quotes (take drops.count standing) l) (take-none doubled) (sound-fewer texts links slots runs quotes standing doubled h drops.count 0)) in
      sound-back texts links slots runs quotes left [] fewer bracket taken.placed (left-before standing left bracket h.standing_end text at are taken.standing_before drops) (λ k d lt. absurd (omega (arith, lt))) texts (links + 1) new (omega (arith, le, more))
      (λ k d lt. let low : k < bracket.slot + 1 = omega (arith, lt) in settled.before k d low ∙ get_or-set_other mid bracket.slot k s d (λ (q : k ≡ bracket.slot). absurd (omega (arith, q, lt))) ∙ same k d low)
      (named-link bracket.slot s mid new (adds-then bracket.slot s mid (set mid bracket.slot s) new (adds-set mid bracket.slot s) settled.names) texts links named bare is)
      settled.whole settled.within

-- the ends in the source of slots that are parts of the source
pub settled-ended : (slots : List Slot) (at low : ℕ) (s : Slot) (new : List Slot) → source_end s.kind ≡ None → IsSettled low (set slots at s) new → (leaf : LeafText) → AreEnded leaf slots → AreEnded leaf new
settled-ended slots at low s new none settled leaf e =
    one-ended at s slots new (adds-then at s slots (set slots at s) new (adds-set slots at s) settled.names) leaf e (subst (λ o. EndsIn leaf s.end o) (sym none) tt)

-- ## Footnote references

-- the slots from a text on cover no later ones, and the slots before it stay
module _ (old new : List Slot) (at : ℕ) (there : at < length old) (text : (d : Slot) → (get_or old at d).kind ≡ kind.Text) (same : SameBefore at old new) (alone : (k : ℕ) (d : Slot) → at ≤ k → k < length new → (i : ℕ) → last_in (get_or new k d).kind i ≡ i) (further : at < length new)
    (whole : AreWhole old) where
  reaches : (i : ℕ) (d : Slot) → i < at → at ≤ last_in (get_or old i d).kind i → ⊥
  reaches i d lt reach = nothing-text (sym (whole i at d lt reach there) ∙ text d)

  pub whole-cut : AreWhole new
  whole-cut i k d ik kl lt = go (cases_lt i at) (cases_lt k at)
    where
      go : (i < at) ⊎ (at ≤ i) → (k < at) ⊎ (at ≤ k) → (get_or new k d).kind ≡ kind.Nothing
      go (inr g) other = let reach = subst (λ n. k ≤ n) (alone i d g (omega (arith, ik, lt)) i) kl in absurd (omega (arith, ik, reach))
      go (inl low) (inl less) =
          let reach = subst (λ (s : Slot). k ≤ last_in s.kind i) (same i d low) kl in
          ap (λ (s : Slot). s.kind) (same k d less) ∙ whole i k d ik reach (omega (arith, less, there))
      go (inl low) (inr g) =
          let reach = subst (λ (s : Slot). k ≤ last_in s.kind i) (same i d low) kl in
          absurd (reaches i d low (omega (arith, reach, g)))

  pub within-cut : EndWithin new
  within-cut i d lt = go (cases_lt i at)
    where
      short : i < at → (last_in (get_or old i d).kind i < at) ⊎ (at ≤ last_in (get_or old i d).kind i) → last_in (get_or old i d).kind i < length new
      short low (inl less) = omega (arith, less, further)
      short low (inr reach) = absurd (reaches i d low reach)

      go : (i < at) ⊎ (at ≤ i) → last_in (get_or new i d).kind i < length new
      go (inl low) = subst (λ (s : Slot). last_in s.kind i < length new) (sym (same i d low)) (short low (cases_lt (last_in (get_or old i d).kind i) at))
      go (inr g) = subst (λ n. n < length new) (sym (alone i d g lt i)) lt

-- a slot replaces another one, or is appended after the last
puts-there : (at : ℕ) (s : Slot) (slots : List Slot) → at ≤ length slots → (new : List Slot) → new ≡ put_at at s slots → (length slots ≤ length new) × (at < length new) × ((k : ℕ) (d : Slot) → (k ≡ at → ⊥) → k < length new → (k < length slots) × (get_or new k d ≡ get_or slots k d)) × ((d : Slot) → get_or new at d ≡ s)
puts-there at s slots le new e = go (nat_lt at (length slots)) refl
  where
    go : (z : Bool) → nat_lt at (length slots) ≡ z → (length slots ≤ length new) × (at < length new) × ((k : ℕ) (d : Slot) → (k ≡ at → ⊥) → k < length new → (k < length slots) × (get_or new k d ≡ get_or slots k d)) × ((d : Slot) → get_or new at d ≡ s)
    go true b =
        let lt = ltb-true at (length slots) b in
        let is : new ≡ set slots at s = e ∙ ap (λ z. if z then set slots at s else slots ++ (s ∷ [])) b in
        let n = ap length is ∙ length-set slots at s in (
          omega (arith, n),
          omega (arith, n, lt),
          (λ k d other kl. ((let q : k < length slots = omega (arith, kl, n) in q), ap (λ l. get_or l k d) is ∙ get_or-set_other slots at k s d other)),
          (λ d. ap (λ l. get_or l at d) is ∙ get_or-set_same slots at s d lt),
        )
    go false b =
        let g = ltb-false at (length slots) b in
        let is : new ≡ slots ++ (s ∷ []) = e ∙ ap (λ z. if z then set slots at s else slots ++ (s ∷ [])) b in
        let n = ap length is in
        let m = length_push slots s in
        let same : length slots ≡ at = omega (arith, g, le) in (
          omega (arith, n, m),
          omega (arith, n, m, same),
          (λ k d other kl.
              let low : k < length slots = shorter k other (let q : k ≤ at = omega (arith, kl, n, m, same) in q) same in
              (low, ap (λ l. get_or l k d) is ∙ get_or_append_left slots (s ∷ []) d k low)),
          (λ d. ap (λ l. get_or l at d) is ∙ get_or_push slots s d at same),
        )
      where
        shorter : (k : ℕ) → (k ≡ at → ⊥) → k ≤ at → length slots ≡ at → k < length slots
        shorter k other most same = go_on (cases_lt k at)
          where
            go_on : (k < at) ⊎ (at ≤ k) → k < length slots
            go_on (inl lt) = omega (arith, lt, same)
            go_on (inr g) = absurd (other (omega (arith, g, most)))

-- the slots from the bracket's on became nothing, except the `!` before a reference and the reference
module _ (old new : List Slot) (bracket : Bracket) (reference : Slot) (puts : PutsReference bracket reference old new) (there : bracket.slot < length old) where
  abbrev place : ℕ
  place = reference_slot bracket

  abbrev Put : (k : ℕ) → Slot → Type 0
  Put k d = ((k ≡ place) × (get_or new k d ≡ reference)) ⊎ (((k < bracket.slot) × (get_or new k d ≡ get_or old k d)) ⊎ ((bracket.slot ≤ k) × (((get_or new k d).kind ≡ kind.Text) ⊎ ((get_or new k d).kind ≡ kind.Nothing))))

  abbrev marked-slots : List Slot
  marked-slots = with_mark bracket puts.between

  abbrev mark : Slot
  mark = record { kind = kind.Text; start = bracket.start; end = bracket.start + 1 }

  place-is : (z : Bool) → bracket.is_image ≡ z → place ≡ (if z then bracket.slot + 1 else bracket.slot)
  place-is z e = ap (λ y. if y then bracket.slot + 1 else bracket.slot) e

  marks-are : (z : Bool) → bracket.is_image ≡ z → marked-slots ≡ (if z then set puts.between bracket.slot mark else puts.between)
  marks-are z e = ap (λ z. if z then set puts.between bracket.slot mark else puts.between) e

  abbrev Left : (k : ℕ) → Slot → Type 0
  Left k d = ((k < bracket.slot) × (get_or marked-slots k d ≡ get_or old k d)) ⊎ ((bracket.slot ≤ k) × (((get_or marked-slots k d).kind ≡ kind.Text) ⊎ ((get_or marked-slots k d).kind ≡ kind.Nothing)))

  left-there : (k : ℕ) (d : Slot) → (k ≡ place → ⊥) → k < length old → Left k d
  left-there k d other lt = go bracket.is_image refl
    where
      gone : (at : ℕ) → at ≡ place → at ≤ k → (get_or puts.between k d).kind ≡ kind.Nothing
      gone at e le = ap (λ (s : Slot). s.kind) (puts.hides.inside k d (omega (arith, e, le)) lt)

      plain : bracket.is_image ≡ false → (k < bracket.slot) ⊎ (bracket.slot ≤ k) → Left k d
      plain e (inl low) = let p = place-is false e in inl (low, ap (λ l. get_or l k d) (marks-are false e) ∙ puts.hides.before k d (omega (arith, p, low)))
      plain e (inr g) = inr (g, inr (ap (λ l. (get_or l k d).kind) (marks-are false e) ∙ gone bracket.slot (sym (place-is false e)) g))

      following : bracket.is_image ≡ true → (k ≡ bracket.slot → ⊥) → (k < bracket.slot) ⊎ (bracket.slot ≤ k) → Left k d
      following e differ (inl low) =
          let p = place-is true e in
          inl (low, ap (λ l. get_or l k d) (marks-are true e) ∙ get_or-set_other puts.between bracket.slot k mark d differ ∙ puts.hides.before k d (omega (arith, p, low)))
      following e differ (inr g) = following_it (cases_lt bracket.slot k)
        where
          following_it : (bracket.slot < k) ⊎ (k ≤ bracket.slot) → Left k d
          following_it (inl lt) = inr (g, inr (ap (λ l. (get_or l k d).kind) (marks-are true e) ∙ ap (λ (s : Slot). s.kind) (get_or-set_other puts.between bracket.slot k mark d differ) ∙ gone (bracket.slot + 1) (sym (place-is true e)) (omega (arith, lt))))
          following_it (inr le) = absurd (differ (omega (arith, g, le)))

      image : bracket.is_image ≡ true → (k ≡ bracket.slot) ⊎ (k ≡ bracket.slot → ⊥) → Left k d
      image e (inl is) =
          let n = puts.hides.size in
          inr (
            (let q : bracket.slot ≤ k = omega (arith, is) in q),
            inl (ap (λ l. (get_or l k d).kind) (marks-are true e)
                ∙ ap (λ j. (get_or (set puts.between bracket.slot mark) j d).kind) is ∙ ap (λ (s : Slot). s.kind) (get_or-set_same puts.between bracket.slot mark d (let q : bracket.slot < length puts.between = omega (arith, n, there) in q))),
          )
      image e (inr differ) = following e differ (cases_lt k bracket.slot)

      go : (z : Bool) → bracket.is_image ≡ z → Left k d
      go true e = image e (cases_eq k bracket.slot)
      go false e = plain e (cases_lt k bracket.slot)

  length-marked : length marked-slots ≡ length old
  length-marked = go bracket.is_image refl
    where
      go : (z : Bool) → bracket.is_image ≡ z → length marked-slots ≡ length old
      go true e = ap length (marks-are true e) ∙ length-set puts.between bracket.slot mark ∙ puts.hides.size
      go false e = ap length (marks-are false e) ∙ puts.hides.size

  place-within : (bracket.slot ≤ place) × (place ≤ length old)
  place-within = go bracket.is_image refl
    where
      go : (z : Bool) → bracket.is_image ≡ z → (bracket.slot ≤ place) × (place ≤ length old)
      go true e = let p = place-is true e in (omega (arith, p), omega (arith, p, there))
      go false e = let p = place-is false e in (omega (arith, p), omega (arith, p, there))

  abbrev Around : Type 0
  Around = (length marked-slots ≤ length new) × (place < length new) × ((k : ℕ) (d : Slot) → (k ≡ place → ⊥) → k < length new → (k < length marked-slots) × (get_or new k d ≡ get_or marked-slots k d)) × ((d : Slot) → get_or new place d ≡ reference)

  around : Around
  around = let p = place-within.1 in let n = length-marked in puts-there place reference marked-slots (let q : place ≤ length marked-slots = omega (arith, p, n) in q) new puts.slots_are

  put-there : (k : ℕ) (d : Slot) → k < length new → Put k d
  put-there k d lt = go (cases_eq k place)
    where
      lift : get_or new k d ≡ get_or marked-slots k d → Left k d → Put k d
      lift e (inl l) = inr (inl (l.0, e ∙ l.1))
      lift e (inr (le, inl t)) = inr (inr (le, inl (ap (λ (s : Slot). s.kind) e ∙ t)))
      lift e (inr (le, inr t)) = inr (inr (le, inr (ap (λ (s : Slot). s.kind) e ∙ t)))

      go : (k ≡ place) ⊎ (k ≡ place → ⊥) → Put k d
      go (inl e) = inl (e, ap (λ j. get_or new j d) e ∙ around.3 d)
      go (inr other) = let w = around.2 k d other lt in let n = length-marked in let a = w.0 in lift w.1 (left-there k d other (omega (arith, a, n)))

  put-before : SameBefore bracket.slot old new
  put-before = λ k d lt. go k d lt (put-there k d (let w = around.0 in let n = length-marked in omega (arith, lt, there, w, n)))
    where
      go : (k : ℕ) (d : Slot) → k < bracket.slot → Put k d → get_or new k d ≡ get_or old k d
      go k d lt (inl (e, is)) = let p = place-within.0 in absurd (omega (arith, lt, e, p))
      go k d lt (inr (inl same)) = same.1
      go k d lt (inr (inr (le, other))) = absurd (omega (arith, lt, le))

  put-adds : AddsOne place reference old new
  put-adds = λ k d lt. go k d (put-there k d lt)
    where
      go : (k : ℕ) (d : Slot) → Put k d → ((k ≡ place) × NamesAs reference (get_or new k d)) ⊎ (IsPlain (get_or new k d).kind ⊎ ((k < length old) × NamesAs (get_or old k d) (get_or new k d)))
      go k d (inl (e, is)) = inl (e, same-as reference (get_or new k d) is)
      go k d (inr (inl (low, is))) = inr (inr ((let q : k < length old = omega (arith, low, there) in q), same-as (get_or old k d) (get_or new k d) is))
      go k d (inr (inr (le, inl t))) = inr (inl (subst (λ x. IsPlain x) (sym t) (refl, refl, refl)))
      go k d (inr (inr (le, inr t))) = inr (inl (subst (λ x. IsPlain x) (sym t) (refl, refl, refl)))

  put-alone : ((i : ℕ) → last_in reference.kind i ≡ i) → (k : ℕ) (d : Slot) → bracket.slot ≤ k → k < length new → (i : ℕ) → last_in (get_or new k d).kind i ≡ i
  put-alone alone k d le lt i = go (put-there k d lt)
    where
      go : Put k d → last_in (get_or new k d).kind i ≡ i
      go (inl (e, is)) = ap (λ (s : Slot). last_in s.kind i) is ∙ alone i
      go (inr (inl (low, is))) = absurd (omega (arith, low, le))
      go (inr (inr (l, inl t))) = ap (λ x. last_in x i) t
      go (inr (inr (l, inr t))) = ap (λ x. last_in x i) t

module _ (texts links : ℕ) (old new : List Slot) (bracket : Bracket) (reference : Slot) (puts : PutsReference bracket reference old new) where
  -- a footnote reference replaces the bracket's slot and all later ones
  pub reference-formed : (runs : List PlacedRun) (quotes : List PlacedQuote) (standing doubled : List Bracket) → AreSound texts links old runs quotes standing doubled → IsTaken old runs quotes standing doubled bracket
      → (text : List ℕ) (at : ℕ) → AreBrackets text at doubled → (left : List Bracket) → DropsAfter bracket.start doubled left → reference.kind ≡ kind.FootnoteReference texts
      → AreSound (texts + 1) links new (take bracket.runs runs) (take bracket.quotes quotes) [] left
  reference-formed runs quotes standing doubled h taken text at are left drops is =
      let there = taken.placed.there in
      let a = around old new bracket reference puts there in
      let alone : (i : ℕ) → last_in reference.kind i ≡ i = λ i. ap (λ x. last_in x i) is in
      let same = put-before old new bracket reference puts there in
      let further : bracket.slot < length new = (let w = a.0 in let n = length-marked old new bracket reference puts there in omega (arith, w, n, there)) in
      let fewer : AreSound texts links old runs quotes [] left =
      subst (λ l. AreSound texts links old runs quotes l left) (take-none standing)
      (subst (λ l. AreSound texts links old runs quotes (take 0 standing) l) (sym drops.is) (sound-fewer texts links old runs quotes standing doubled h 0 drops.count)) in
      let loose = put-alone old new bracket reference puts there alone in
      sound-back texts links old runs quotes [] left fewer bracket taken.placed (λ k d lt. absurd (omega (arith, lt))) (left-before doubled left bracket h.doubled_end text at are taken.doubled_before drops) (texts + 1) links new
      (let w = a.0 in let n = length-marked old new bracket reference puts there in let q : length old ≤ length new = omega (arith, w, n) in q) same
      (named-text (reference_slot bracket) reference old new (put-adds old new bracket reference puts there) texts links h.named (ap text_named is) (ap link_named is))
      (whole-cut old new bracket.slot there taken.placed.text same loose further h.whole)
      (within-cut old new bracket.slot there taken.placed.text same loose further h.whole)

  pub reference-ended : bracket.slot < length old → source_end reference.kind ≡ None → (leaf : LeafText) → AreEnded leaf old → AreEnded leaf new
  reference-ended there none leaf e = one-ended (reference_slot bracket) reference old new (put-adds old new bracket reference puts there) leaf e (subst (λ o. EndsIn leaf reference.end o) (sym none) tt)
