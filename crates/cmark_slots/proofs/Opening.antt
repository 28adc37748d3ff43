-- An opening bracket that is appended, and a bracket that is taken.
use Rattle.std.proofs.Common.{◌≡◌, ◌⊎◌, inl, inr, ℕ, zero, suc, ◌-◌, ◌<◌, ◌≤◌, Bool, true, false, List, [], ◌∷◌, ◌++◌, length, take, get_or, Some, None, refl, sym, ap, subst, ◌∙◌, arith}
use Rattle.std.specs.Prelude.{All, Option, not, nat_lt, ◌&&◌, ◌==◌, if◌then◌else◌, slice_get}
use Rattle.std.proofs.lemmas.Bool.{cases_lt, eqb-true}
use Rattle.std.proofs.lemmas.List.{length_push, length-take, get_or_append_left, get_or_push, get_or-take, take_all}
use Rattle.std.proofs.lemmas.List.Elements.{All-push, All-take}
use Rattle.std.proofs.lemmas.Option.{get_or_from_slice_get}
use Rattle.cmark_grammar.specs.Options.{Options}
use Rattle.cmark_slots.specs.Doubled.{doubles, if_ends, nearest, nearest_of, touching, with_double}
use Rattle.cmark_slots.specs.MarkedSlots.{last_in}
use Rattle.cmark_slots.specs.SlotViews.{link_named, text_named}
use Rattle.cmark_slots.specs.Standing.{AreInOrder, AreSound, BeginsBefore, EndInOrder, IsPlaced, IsTaken, IsTakenPair}
use Rattle.cmark_slots.specs.Slots.{AreBrackets}
use Rattle.cmark_slots.specs.declared.bracket.Bracket.{Bracket}
use Rattle.cmark_slots.specs.declared.bracket.Brackets.{Brackets}
use Rattle.cmark_emphasis.specs.declared.run.PlacedRun.{PlacedRun}
use Rattle.cmark_slots.specs.declared.quote.PlacedQuote.{PlacedQuote}
use Rattle.cmark_slots.specs.declared.slot.Slot.{Slot}
use Rattle.cmark_slots.specs.declared.slot.SlotKind.TheVariants as kind
use Rattle.cmark_slots.proofs.Placing.{runs-within}
use Rattle.cmark_slots.proofs.Soundness.{sound-fewer, sound-plain}

-- ## Brackets that are doubled

-- the last bracket, if the next one touches it
abbrev pub LastOf : (place : ℕ) → List Bracket → Bracket → Type 0
LastOf place standing first = (first.inside ≡ place) × (0 < length standing) × ((d : Bracket) → get_or standing (length standing - 1) d ≡ first)

some-there : (xs : List Bracket) (i : ℕ) (x : Bracket) → slice_get xs i ≡ Some x → i < length xs
some-there [] zero x e = absurd (let z : ⊥ = cc in z)
some-there [] (suc i) x e = absurd (let z : ⊥ = cc in z)
some-there (y ∷ xs) zero x e = omega arith
some-there (y ∷ xs) (suc i) x e = let h = some-there xs i x e in omega (arith, h)

touching-is : (place : ℕ) (brackets : Brackets) (first : Bracket) → touching place brackets ≡ Some first → LastOf place brackets.standing.items first
touching-is place brackets first e = go (nat_lt brackets.inactive_below (length brackets.standing.items)) refl (slice_get brackets.standing.items (length brackets.standing.items - 1)) refl
  where
    ends : (o : Option Bracket) → slice_get brackets.standing.items (length brackets.standing.items - 1) ≡ o → if_ends place o ≡ Some first → LastOf place brackets.standing.items first
    ends None s f = absurd (let z : ⊥ = cc in z)
    ends (Some b) s f = by (b.inside == place) refl
      where
        by : (z : Bool) → (b.inside == place) ≡ z → LastOf place brackets.standing.items first
        by true t =
            let same : b ≡ first = let q : Some b ≡ Some first = sym (ap (λ z. if z then Some b else None) t) ∙ f in cc in
            let there = some-there brackets.standing.items (length brackets.standing.items - 1) b s in (
              sym (ap (λ (x : Bracket). x.inside) same) ∙ eqb-true b.inside place t,
              omega (arith, there),
              (λ d. get_or_from_slice_get brackets.standing.items (length brackets.standing.items - 1) b d s ∙ same),
            )
        by false t = absurd (let q : None ≡ Some first = sym (ap (λ z. if z then Some b else None) t) ∙ f in let z : ⊥ = cc in z)

    go : (z : Bool) → nat_lt brackets.inactive_below (length brackets.standing.items) ≡ z → (o : Option Bracket) → slice_get brackets.standing.items (length brackets.standing.items - 1) ≡ o → LastOf place brackets.standing.items first
    go true t o s = ends o s (ap (if_ends place) (sym s) ∙ sym (ap (λ z. if z then if_ends place (slice_get brackets.standing.items (length brackets.standing.items - 1)) else None) t) ∙ e)
    go false t o s = absurd (let q : None ≡ Some first = sym (ap (λ z. if z then if_ends place (slice_get brackets.standing.items (length brackets.standing.items - 1)) else None) t) ∙ e in let z : ⊥ = cc in z)

-- the doubled brackets are unchanged, or one more is added at the end
abbrev pub Doubles : (place inside : ℕ) → (standing old new : List Bracket) → Type 0
Doubles place inside standing old new = (new ≡ old) ⊎ ((first : Bracket) × LastOf place standing first × (new ≡ old ++ (record first { inside = inside } ∷ [])))

pub doubles-are : (o : Options) (brackets : Brackets) (is_image : Bool) (start inside : ℕ) (old new : List Bracket) → new ≡ doubles o brackets is_image start inside old → Doubles start inside brackets.standing.items old new
doubles-are o brackets is_image start inside old new e = go (not is_image && o.wikilinks) refl (touching start brackets) refl
  where
    go : (z : Bool) → (not is_image && o.wikilinks) ≡ z → (f : Option Bracket) → touching start brackets ≡ f → Doubles start inside brackets.standing.items old new
    go false t f s = inl (e ∙ ap (λ z. if z then with_double (touching start brackets) inside old else old) t)
    go true t None s = inl (e ∙ ap (λ z. if z then with_double (touching start brackets) inside old else old) t ∙ ap (λ f. with_double f inside old) s)
    go true t (Some first) s = inr (first, touching-is start brackets first s, e ∙ ap (λ z. if z then with_double (touching start brackets) inside old else old) t ∙ ap (λ f. with_double f inside old) s)

-- ## One more bracket

module _ (texts links : ℕ) (before : List Slot) (runs : List PlacedRun) (quotes : List PlacedQuote) (standing doubled : List Bracket) (h : AreSound texts links before runs quotes standing doubled)
    (text : List ℕ) (pending : ℕ) (are : AreBrackets text pending standing) (pairs : AreBrackets text pending doubled) (s : Slot) (is : s.kind ≡ kind.Text) (b : Bracket) (following : pending ≤ b.start) (some : b.start < b.inside)
    (slot : b.slot ≡ length before) (runs_is : b.runs ≡ length runs) (quotes_is : b.quotes ≡ length quotes) where
  abbrev slots : List Slot
  slots = before ++ (s ∷ [])

  abbrev more : List Bracket
  more = standing ++ (b ∷ [])

  plain : AreSound texts links slots runs quotes standing doubled
  plain = sound-plain texts links before runs quotes standing doubled h s (λ i. ap (λ x. last_in x i) is) (ap text_named is) (ap link_named is)

  new-placed : IsPlaced slots runs quotes b
  new-placed =
      let n = length_push before s in
      let within = runs-within before 0 0 runs h.sizes h.runs_are in
      record {
        there = omega (arith, n, slot);
        text = λ d. ap (λ (x : Slot). x.kind) (get_or_push before s d b.slot (sym slot)) ∙ is;
        runs_there = omega (arith, runs_is);
        runs_before = λ k d lt. let w = within k d (omega (arith, lt, runs_is)) in omega (arith, w, slot);
        runs_after = λ k d le lt. absurd (omega (arith, le, lt, runs_is));
        quotes_there = omega (arith, quotes_is);
        quotes_before = λ k d lt. let w = (h.quotes_are k d (omega (arith, lt, quotes_is))).0 in omega (arith, w, slot);
        quotes_after = λ k d le lt. absurd (omega (arith, le, lt, quotes_is));
      }

  -- every open bracket ends before the new one begins, and has an earlier slot
  ends-before : (bs : List Bracket) → AreBrackets text pending bs → All (IsPlaced before runs quotes) bs → (k : ℕ) (d : Bracket) → k < length bs → ((get_or bs k d).start < b.start) × ((get_or bs k d).inside ≤ b.start) × ((get_or bs k d).slot < b.slot)
  ends-before bs a p k d lt =
      let x = a k d lt in
      let w = x.before in
      let o = x.part.some in
      let t = (p k d lt).there in
      (omega (arith, w, o, following), omega (arith, w, following), omega (arith, t, slot))

  in-order : AreInOrder more
  in-order i j d less lt = let n = length_push standing b in go (let q : j ≤ length standing = omega (arith, lt, n) in q) (cases_lt j (length standing))
    where
      go : j ≤ length standing → (j < length standing) ⊎ (length standing ≤ j) → ((get_or more i d).start < (get_or more j d).start) × ((get_or more i d).slot < (get_or more j d).slot)
      go most (inl low) =
          subst (λ (x : Bracket). (x.start < (get_or more j d).start) × (x.slot < (get_or more j d).slot)) (sym (get_or_append_left standing (b ∷ []) d i (let q : i < length standing = omega (arith, less, low) in q)))
          (subst (λ (y : Bracket). ((get_or standing i d).start < y.start) × ((get_or standing i d).slot < y.slot)) (sym (get_or_append_left standing (b ∷ []) d j low)) (h.ordered i j d less low))
      go most (inr g) =
          let low : i < length standing = omega (arith, less, most) in
          let w = ends-before standing are h.standing_are i d low in
          subst (λ (x : Bracket). (x.start < (get_or more j d).start) × (x.slot < (get_or more j d).slot)) (sym (get_or_append_left standing (b ∷ []) d i low))
          (subst (λ (y : Bracket). ((get_or standing i d).start < y.start) × ((get_or standing i d).slot < y.slot)) (sym (get_or_push standing b d j (let q : length standing ≡ j = omega (arith, g, most) in q))) (w.0, w.2))

  end-more : (bs : List Bracket) (c : Bracket) → EndInOrder bs → ((k : ℕ) (d : Bracket) → k < length bs → (get_or bs k d).inside < c.inside) → EndInOrder (bs ++ (c ∷ []))
  end-more bs c e last i j d less lt = let n = length_push bs c in go (let q : j ≤ length bs = omega (arith, lt, n) in q) (cases_lt j (length bs))
    where
      go : j ≤ length bs → (j < length bs) ⊎ (length bs ≤ j) → (get_or (bs ++ (c ∷ [])) i d).inside < (get_or (bs ++ (c ∷ [])) j d).inside
      go most (inl low) =
          subst (λ (x : Bracket). x.inside < (get_or (bs ++ (c ∷ [])) j d).inside) (sym (get_or_append_left bs (c ∷ []) d i (let q : i < length bs = omega (arith, less, low) in q)))
          (subst (λ (y : Bracket). (get_or bs i d).inside < y.inside) (sym (get_or_append_left bs (c ∷ []) d j low)) (e i j d less low))
      go most (inr g) =
          let low : i < length bs = omega (arith, less, most) in
          subst (λ (x : Bracket). x.inside < (get_or (bs ++ (c ∷ [])) j d).inside) (sym (get_or_append_left bs (c ∷ []) d i low))
          (subst (λ (y : Bracket). (get_or bs i d).inside < y.inside) (sym (get_or_push bs c d j (let q : length bs ≡ j = omega (arith, g, most) in q))) (last i d low))

  abbrev Crosses : Bracket → List Bracket → Type 0
  Crosses x ds = All (λ (d : Bracket). BeginsBefore x d × BeginsBefore d x) ds

  crossed-b : Crosses b doubled
  crossed-b = λ k d lt. let w = ends-before doubled pairs h.doubled_are k d lt in let st = w.0 in let sl = w.2 in ((λ lt2. absurd (omega (arith, lt2, st))), (λ lt2. sl))

  sound-same-pairs : AreSound texts links slots runs quotes more doubled
  sound-same-pairs = record {
    named = plain.named;
    whole = plain.whole;
    within = plain.within;
    quotes_are = plain.quotes_are;
    quotes_order = plain.quotes_order;
    runs_are = plain.runs_are;
    sizes = plain.sizes;
    known = plain.known;
    apart = plain.apart;
    standing_are = All-push (IsPlaced slots runs quotes) standing b plain.standing_are new-placed;
    doubled_are = plain.doubled_are;
    ordered = in-order;
    standing_end = end-more standing b h.standing_end (λ k d lt. let w = (ends-before standing are h.standing_are k d lt).1 in omega (arith, w, some));
    doubled_end = h.doubled_end;
    crossed = All-push (λ (x : Bracket). Crosses x doubled) standing b plain.crossed crossed-b;
  }

  module _ (first : Bracket) (last : LastOf b.start standing first) where
    abbrev pair : Bracket
    pair = record first { inside = b.inside }

    first-at : (d : Bracket) → get_or standing (length standing - 1) d ≡ first
    first-at d = last.2 d

    first-there : length standing - 1 < length standing
    first-there = let o = last.1 in omega (arith, o)

    pair-placed : IsPlaced slots runs quotes pair
    pair-placed =
        let p = subst (λ (x : Bracket). IsPlaced slots runs quotes x) (first-at b) (plain.standing_are (length standing - 1) b first-there) in
        record { there = p.there; text = p.text; runs_there = p.runs_there; runs_before = p.runs_before; runs_after = p.runs_after; quotes_there = p.quotes_there; quotes_before = p.quotes_before; quotes_after = p.quotes_after }

    crosses-pair : (k : ℕ) (d : Bracket) → k < length standing → BeginsBefore (get_or standing k d) pair × BeginsBefore pair (get_or standing k d)
    crosses-pair k d lt = go (cases_lt k (length standing - 1))
      where
        go : (k < length standing - 1) ⊎ (length standing - 1 ≤ k) → BeginsBefore (get_or standing k d) pair × BeginsBefore pair (get_or standing k d)
        go (inl low) =
            let o = subst (λ (y : Bracket). ((get_or standing k d).start < y.start) × ((get_or standing k d).slot < y.slot)) (first-at d) (h.ordered k (length standing - 1) d low first-there) in
            let a = o.0 in
            let c = o.1 in
            ((λ lt2. c), (λ lt2. absurd (omega (arith, lt2, a))))
        go (inr g) =
            let same : get_or standing k d ≡ first = ap (λ j. get_or standing j d) (let q : k ≡ length standing - 1 = omega (arith, g, lt) in q) ∙ first-at d in
            let starts = ap (λ (x : Bracket). x.start) same in
            ((λ lt2. absurd (omega (arith, lt2, starts))), (λ lt2. absurd (omega (arith, lt2, starts))))

    b-crosses-pair : BeginsBefore b pair × BeginsBefore pair b
    b-crosses-pair =
        let w = subst (λ (x : Bracket). (x.start < b.start) × (x.inside ≤ b.start) × (x.slot < b.slot)) (first-at b) (ends-before standing are h.standing_are (length standing - 1) b first-there) in
        let st = w.0 in
        let sl = w.2 in
        ((λ lt2. absurd (omega (arith, lt2, st))), (λ lt2. sl))

    sound-one-pair : AreSound texts links slots runs quotes more (doubled ++ (pair ∷ []))
    sound-one-pair =
        let m = sound-same-pairs in
        record {
          named = m.named;
          whole = m.whole;
          within = m.within;
          quotes_are = m.quotes_are;
          quotes_order = m.quotes_order;
          runs_are = m.runs_are;
          sizes = m.sizes;
          known = m.known;
          apart = m.apart;
          standing_are = m.standing_are;
          doubled_are = All-push (IsPlaced slots runs quotes) doubled pair m.doubled_are pair-placed;
          ordered = m.ordered;
          standing_end = m.standing_end;
          doubled_end = end-more doubled pair h.doubled_end (λ k d lt. let w = (ends-before doubled pairs h.doubled_are k d lt).1 in omega (arith, w, some));
          crossed = All-push (λ (x : Bracket). Crosses x (doubled ++ (pair ∷ []))) standing b
              (λ k d lt. All-push (λ (x : Bracket). BeginsBefore (get_or standing k d) x × BeginsBefore x (get_or standing k d)) doubled pair (h.crossed k d lt) (crosses-pair k d lt))
              (All-push (λ (x : Bracket). BeginsBefore b x × BeginsBefore x b) doubled pair crossed-b b-crosses-pair);
        }

  pub sound-opened : (new : List Bracket) → Doubles b.start b.inside standing doubled new → AreSound texts links slots runs quotes more new
  sound-opened new (inl e) = subst (λ l. AreSound texts links slots runs quotes more l) (sym e) sound-same-pairs
  sound-opened new (inr (first, last, e)) = subst (λ l. AreSound texts links slots runs quotes more l) (sym e) (sound-one-pair first last)

-- ## A bracket that is taken

module _ (texts links : ℕ) (slots : List Slot) (runs : List PlacedRun) (quotes : List PlacedQuote) (standing doubled : List Bracket) (h : AreSound texts links slots runs quotes standing doubled) where
  pub sound-taken : (new : List Bracket) → new ≡ take (length standing - 1) standing → AreSound texts links slots runs quotes new doubled
  sound-taken new e =
      subst (λ l. AreSound texts links slots runs quotes l doubled) (sym e)
      (subst (λ l. AreSound texts links slots runs quotes (take (length standing - 1) standing) l) (take_all (length doubled) doubled (omega arith)) (sound-fewer texts links slots runs quotes standing doubled h (length standing - 1) (length doubled)))

  pub sound-pair-taken : (new : List Bracket) → new ≡ take (length doubled - 1) doubled → AreSound texts links slots runs quotes standing new
  sound-pair-taken new e =
      subst (λ l. AreSound texts links slots runs quotes standing l) (sym e)
      (subst (λ l. AreSound texts links slots runs quotes l (take (length doubled - 1) doubled)) (take_all (length standing) standing (omega arith)) (sound-fewer texts links slots runs quotes standing doubled h (length standing) (length doubled - 1)))

  -- the last of the brackets comes after those that are left
  pub is-taken : (bracket : Bracket) (new : List Bracket) → slice_get standing (length standing - 1) ≡ Some bracket → new ≡ take (length standing - 1) standing → IsTaken slots runs quotes new doubled bracket
  is-taken bracket new e is =
      let there = some-there standing (length standing - 1) bracket e in
      let at : (d : Bracket) → get_or standing (length standing - 1) d ≡ bracket = λ d. get_or_from_slice_get standing (length standing - 1) bracket d e in
      record {
        placed = subst (IsPlaced slots runs quotes) (at bracket) (h.standing_are (length standing - 1) bracket there);
        standing_before = subst (λ l. All (λ (b : Bracket). b.slot < bracket.slot) l) (sym is) (λ k d lt.
            let a = length-take (length standing - 1) standing in
            let low : k < length standing - 1 = omega (arith, lt, a) in
            subst (λ (b : Bracket). b.slot < bracket.slot) (sym (get_or-take (length standing - 1) standing k d low)) (subst (λ (c : Bracket). (get_or standing k d).slot < c.slot) (at d) (h.ordered k (length standing - 1) d low there).1));
        doubled_before = λ k d lt. subst (λ (c : Bracket). BeginsBefore (get_or doubled k d) c) (at bracket) (h.crossed (length standing - 1) bracket there k d lt).1;
      }

  pub is-pair : (bracket : Bracket) → slice_get doubled (length doubled - 1) ≡ Some bracket → IsTakenPair slots runs quotes standing bracket
  is-pair bracket e =
      let there = some-there doubled (length doubled - 1) bracket e in
      let at : (d : Bracket) → get_or doubled (length doubled - 1) d ≡ bracket = λ d. get_or_from_slice_get doubled (length doubled - 1) bracket d e in
      record {
        placed = subst (IsPlaced slots runs quotes) (at bracket) (h.doubled_are (length doubled - 1) bracket there);
        standing_before = λ k d lt. subst (λ (c : Bracket). BeginsBefore (get_or standing k d) c) (at bracket) (h.crossed k d lt (length doubled - 1) bracket there).0;
      }

-- fewer doubled brackets are left
pub taken-fewer : (slots : List Slot) (runs : List PlacedRun) (quotes : List PlacedQuote) (standing doubled new : List Bracket) (bracket : Bracket) (n : ℕ) → new ≡ take n doubled → IsTaken slots runs quotes standing doubled bracket → IsTaken slots runs quotes standing new bracket
taken-fewer slots runs quotes standing doubled new bracket n e t = record {
  placed = t.placed;
  standing_before = t.standing_before;
  doubled_before = subst (λ l. All (λ (d : Bracket). BeginsBefore d bracket) l) (sym e) (All-take (λ (d : Bracket). BeginsBefore d bracket) n doubled t.doubled_before);
}

abbrev first-in : Option (Bracket × Bool) → Option Bracket
first-in None = None
first-in (Some t) = Some t.0

first-nearest : (o : Option Bracket) (active : Bool) → first-in (nearest_of o active) ≡ o
first-nearest None active = refl
first-nearest (Some b) active = refl

pub last-nearest : (brackets : Brackets) (t : Bracket × Bool) → nearest brackets ≡ Some t → slice_get brackets.standing.items (length brackets.standing.items - 1) ≡ Some t.0
last-nearest brackets t e =
    sym (first-nearest (slice_get brackets.standing.items (length brackets.standing.items - 1)) (nat_lt brackets.inactive_below (length brackets.standing.items))) ∙ ap first-in e
