-- What holds of the slots of a leaf while it is read stays so, as slots are appended and become others.
use Rattle.std.proofs.Common.{◌≡◌, ◌⊎◌, inl, inr, ℕ, zero, suc, ◌+◌, ◌<◌, ◌≤◌, List, [], ◌∷◌, ◌++◌, length, take, drop, get_or, Some, None, refl, sym, ap, subst, ◌∙◌, arith}
use Rattle.std.specs.Prelude.{All}
use Rattle.std.proofs.Math.Seq.{drop-append_seam}
use Rattle.std.proofs.lemmas.Bool.{cases_lt}
use Rattle.std.proofs.lemmas.List.{length_push, length-take, length-drop, get_or_append_left, get_or_push, get_or-take, get_or-drop, take_all}
use Rattle.std.proofs.lemmas.List.Elements.{All-push, All-take}
use Rattle.cmark_slots.specs.MarkedSlots.{AreWhole, EndWithin, SameBefore, last_in}
use Rattle.cmark_slots.specs.SlotViews.{link_named, text_named}
use Rattle.cmark_emphasis.specs.Counts.{IsKnownPlaced}
use Rattle.cmark_slots.specs.Standing.{AreNamed, AreSound, BeginsBefore, EndInOrder, CanSettle, HaveSizes, IsPlaced}
use Rattle.cmark_slots.specs.Slots.{PushesText, byte_slots}
use Rattle.cmark_slots.specs.declared.bracket.Bracket.{Bracket}
use Rattle.cmark_emphasis.specs.declared.run.PlacedRun.{PlacedRun}
use Rattle.cmark_slots.specs.declared.quote.PlacedQuote.{PlacedQuote}
use Rattle.cmark_slots.specs.declared.slot.Slot.{Slot}
use Rattle.cmark_slots.specs.declared.slot.SlotKind.TheVariants as kind
use Rattle.cmark_slots.proofs.Naming.{adds-push, named-more, named-none, named-text, named-link}
use Rattle.cmark_slots.proofs.Placing.{all-drop, have-drop, have-kept, have-push, have-take, keeps-before, length-bytes, placed-cut, placed-quote, placed-run, placed-slots, runs-within, texts-kept}
use Rattle.cmark_slots.proofs.Settling.{whole-push, within-push}

-- ## Slots that are appended

module _ (texts links : ℕ) (slots : List Slot) (runs : List PlacedRun) (quotes : List PlacedQuote) (standing doubled : List Bracket) (h : AreSound texts links slots runs quotes standing doubled) where
  -- the slots that were there stay
  pub sound-longer : (more_texts more_links : ℕ) (new : List Slot) → length slots ≤ length new → SameBefore (length slots) slots new → AreNamed more_texts more_links new → AreWhole new → EndWithin new
      → AreSound more_texts more_links new runs quotes standing doubled
  sound-longer more_texts more_links new le same named whole within = record {
    named = named;
    whole = whole;
    within = within;
    quotes_are = texts-kept slots new quotes le (λ k d lt e. same (get_or quotes k d).slot e (h.quotes_are k d lt).0) h.quotes_are;
    quotes_order = h.quotes_order;
    runs_are = have-kept slots new 0 0 runs le h.sizes (keeps-before (length slots) slots new runs same (runs-within slots 0 0 runs h.sizes h.runs_are)) h.runs_are;
    sizes = h.sizes;
    known = h.known;
    apart = h.apart;
    standing_are = λ k d lt. kept (get_or standing k d) (h.standing_are k d lt);
    doubled_are = λ k d lt. kept (get_or doubled k d) (h.doubled_are k d lt);
    ordered = h.ordered;
    standing_end = h.standing_end;
    doubled_end = h.doubled_end;
    crossed = h.crossed;
  }
    where
      kept : (b : Bracket) → IsPlaced slots runs quotes b → IsPlaced new runs quotes b
      kept b p = placed-slots slots runs quotes b p new (let t = p.there in omega (arith, t, le)) (λ d. same b.slot d p.there)

  pub sound-push : (more_texts more_links : ℕ) (s : Slot) → ((i : ℕ) → last_in s.kind i ≡ i) → AreNamed more_texts more_links (slots ++ (s ∷ [])) → AreSound more_texts more_links (slots ++ (s ∷ [])) runs quotes standing doubled
  sound-push more_texts more_links s alone named =
      let n = length_push slots s in
      sound-longer more_texts more_links (slots ++ (s ∷ [])) (omega (arith, n)) (λ k d lt. get_or_append_left slots (s ∷ []) d k lt) named (whole-push slots s alone h.whole h.within) (within-push slots s alone h.within)

  -- a slot that names nothing
  pub sound-plain : (s : Slot) → ((i : ℕ) → last_in s.kind i ≡ i) → text_named s.kind ≡ None → link_named s.kind ≡ None → AreSound texts links (slots ++ (s ∷ [])) runs quotes standing doubled
  sound-plain s alone bare none = sound-push texts links s alone (named-none (length slots) s slots (slots ++ (s ∷ [])) (adds-push slots s) texts links h.named bare none)

  -- a slot that names the next text, or the next link
  pub sound-text : (s : Slot) → ((i : ℕ) → last_in s.kind i ≡ i) → text_named s.kind ≡ Some texts → link_named s.kind ≡ None → AreSound (texts + 1) links (slots ++ (s ∷ [])) runs quotes standing doubled
  sound-text s alone is none = sound-push (texts + 1) links s alone (named-text (length slots) s slots (slots ++ (s ∷ [])) (adds-push slots s) texts links h.named is none)

  pub sound-link : (s : Slot) → ((i : ℕ) → last_in s.kind i ≡ i) → text_named s.kind ≡ None → link_named s.kind ≡ Some links → AreSound texts (links + 1) (slots ++ (s ∷ [])) runs quotes standing doubled
  sound-link s alone bare is = sound-push texts (links + 1) s alone (named-link (length slots) s slots (slots ++ (s ∷ [])) (adds-push slots s) texts links h.named bare is)

-- there is one more link, which is not named yet
pub sound-more : (texts links more : ℕ) (slots : List Slot) (runs : List PlacedRun) (quotes : List PlacedQuote) (standing doubled : List Bracket) → links ≤ more → AreSound texts links slots runs quotes standing doubled → AreSound texts more slots runs quotes standing doubled
sound-more texts links more slots runs quotes standing doubled le h = record {
  named = named-more texts links more slots le h.named;
  whole = h.whole;
  within = h.within;
  quotes_are = h.quotes_are;
  quotes_order = h.quotes_order;
  runs_are = h.runs_are;
  sizes = h.sizes;
  known = h.known;
  apart = h.apart;
  standing_are = h.standing_are;
  doubled_are = h.doubled_are;
  ordered = h.ordered;
  standing_end = h.standing_end;
  doubled_end = h.doubled_end;
  crossed = h.crossed;
}

-- a pending text
pub sound-pending : (texts links : ℕ) (slots new : List Slot) (runs : List PlacedRun) (quotes : List PlacedQuote) (standing doubled : List Bracket) (start end : ℕ) → PushesText start end slots new
    → AreSound texts links slots runs quotes standing doubled → AreSound texts links new runs quotes standing doubled
sound-pending texts links slots new runs quotes standing doubled start end p h = go (cases_lt start end)
  where
    go : (start < end) ⊎ (end ≤ start) → AreSound texts links new runs quotes standing doubled
    go (inl lt) = subst (λ l. AreSound texts links l runs quotes standing doubled) (sym (p.0 lt)) (sound-plain texts links slots runs quotes standing doubled h (record { kind = kind.Text; start = start; end = end }) (λ i. refl) refl refl)
    go (inr le) = subst (λ l. AreSound texts links l runs quotes standing doubled) (sym (p.1 le)) h

-- ## Quotes and runs that are appended

module _ (texts links : ℕ) (before : List Slot) (runs : List PlacedRun) (quotes : List PlacedQuote) (standing doubled : List Bracket) (h : AreSound texts links before runs quotes standing doubled) where
  pub sound-quote : (s : Slot) (q : PlacedQuote) → s.kind ≡ kind.Text → q.slot ≡ length before → AreSound texts links (before ++ (s ∷ [])) runs (quotes ++ (q ∷ [])) standing doubled
  sound-quote s q is at =
      let new : List Slot = before ++ (s ∷ []) in
      let n = length_push before s in
      let m = sound-plain texts links before runs quotes standing doubled h s (λ i. ap (λ x. last_in x i) is) (ap text_named is) (ap link_named is) in
      let within = runs-within before 0 0 runs h.sizes h.runs_are in
      record {
        named = m.named;
        whole = m.whole;
        within = m.within;
        quotes_are = All-push (λ (p : PlacedQuote). (p.slot < length new) × ((d : Slot) → (get_or new p.slot d).kind ≡ kind.Text)) quotes q m.quotes_are
            ((let k : q.slot < length new = omega (arith, n, at) in k), λ d. ap (λ (x : Slot). x.kind) (get_or_push before s d q.slot (sym at)) ∙ is);
        quotes_order = λ i j d less lt. let k = length_push quotes q in order i j d less (let w : j ≤ length quotes = omega (arith, lt, k) in w) (cases_lt j (length quotes));
        runs_are = m.runs_are;
        sizes = m.sizes;
        known = m.known;
        apart = All-push (λ (p : PlacedQuote). All (λ (r : PlacedRun). (p.slot < r.slot) ⊎ (r.slot + r.run_length ≤ p.slot)) runs) quotes q m.apart (λ k d lt. let w = within k d lt in inr (omega (arith, w, at)));
        standing_are = λ k d lt. let t = (h.standing_are k d lt).there in placed-quote new runs quotes (get_or standing k d) (m.standing_are k d lt) q (omega (arith, t, at));
        doubled_are = λ k d lt. let t = (h.doubled_are k d lt).there in placed-quote new runs quotes (get_or doubled k d) (m.doubled_are k d lt) q (omega (arith, t, at));
        ordered = m.ordered;
        standing_end = m.standing_end;
        doubled_end = m.doubled_end;
        crossed = m.crossed;
      }
    where
      order : (i j : ℕ) (d : PlacedQuote) → i < j → j ≤ length quotes → (j < length quotes) ⊎ (length quotes ≤ j) → (get_or (quotes ++ (q ∷ [])) i d).slot < (get_or (quotes ++ (q ∷ [])) j d).slot
      order i j d less most (inl lt) =
          subst (λ (x : PlacedQuote). x.slot < (get_or (quotes ++ (q ∷ [])) j d).slot) (sym (get_or_append_left quotes (q ∷ []) d i (let k : i < length quotes = omega (arith, less, lt) in k)))
          (subst (λ (y : PlacedQuote). (get_or quotes i d).slot < y.slot) (sym (get_or_append_left quotes (q ∷ []) d j lt)) (h.quotes_order i j d less lt))
      order i j d less most (inr g) =
          let low : i < length quotes = omega (arith, less, most) in
          let t = (h.quotes_are i d low).0 in
          subst (λ (x : PlacedQuote). x.slot < (get_or (quotes ++ (q ∷ [])) j d).slot) (sym (get_or_append_left quotes (q ∷ []) d i low))
          (subst (λ (y : PlacedQuote). (get_or quotes i d).slot < y.slot) (sym (get_or_push quotes q d j (let k : length quotes ≡ j = omega (arith, g, most) in k))) (let k : (get_or quotes i d).slot < q.slot = omega (arith, t, at) in k))

-- each byte adds a slot
pub sound-bytes : (texts links : ℕ) (slots : List Slot) (runs : List PlacedRun) (quotes : List PlacedQuote) (standing doubled : List Bracket) (start size : ℕ) → AreSound texts links slots runs quotes standing doubled
    → AreSound texts links (slots ++ byte_slots start size) runs quotes standing doubled
sound-bytes texts links slots runs quotes standing doubled start zero h = subst (λ l. AreSound texts links l runs quotes standing doubled) (sym (append-none slots)) h
  where
    append-none : (xs : List Slot) → xs ++ [] ≡ xs
    append-none [] = refl
    append-none (x ∷ xs) = ap (λ l. x ∷ l) (append-none xs)
sound-bytes texts links slots runs quotes standing doubled start (suc size) h =
    let s : Slot = record { kind = kind.Text; start = start; end = start + 1 } in
    subst (λ l. AreSound texts links l runs quotes standing doubled) (append-one slots s (byte_slots (start + 1) size))
    (sound-bytes texts links (slots ++ (s ∷ [])) runs quotes standing doubled (start + 1) size (sound-plain texts links slots runs quotes standing doubled h s (λ i. refl) refl refl))
  where
    append-one : (xs : List Slot) (x : Slot) (ys : List Slot) → (xs ++ (x ∷ [])) ++ ys ≡ xs ++ (x ∷ ys)
    append-one [] x ys = refl
    append-one (z ∷ xs) x ys = ap (λ l. z ∷ l) (append-one xs x ys)

module _ (texts links : ℕ) (before : List Slot) (runs : List PlacedRun) (quotes : List PlacedQuote) (standing doubled : List Bracket) (h : AreSound texts links before runs quotes standing doubled) where
  pub sound-run : (start : ℕ) (r : PlacedRun) → 0 < r.run_length → IsKnownPlaced r → r.slot ≡ length before → ((k : ℕ) (d : Slot) → k < length before → (get_or before k d).end ≤ start)
      → AreSound texts links (before ++ byte_slots start r.run_length) (runs ++ (r ∷ [])) quotes standing doubled
  sound-run start r some known at ends =
      let new : List Slot = before ++ byte_slots start r.run_length in
      let m = sound-bytes texts links before runs quotes standing doubled start r.run_length h in
      let within = runs-within before 0 0 runs h.sizes h.runs_are in
      let mine : take r.run_length (drop r.slot new) ≡ byte_slots start r.run_length =
      ap (λ n. take r.run_length (drop n new)) at ∙ ap (take r.run_length) (drop-append_seam before (byte_slots start r.run_length)) ∙ take_all r.run_length (byte_slots start r.run_length) (let l = length-bytes start r.run_length in let q : length (byte_slots start r.run_length) ≤ r.run_length = omega (arith, l) in q) in
      record {
        named = m.named;
        whole = m.whole;
        within = m.within;
        quotes_are = m.quotes_are;
        quotes_order = m.quotes_order;
        runs_are = have-push new 0 0 (length before) start runs r (omega arith) (omega arith) within h.sizes (λ k d lt. subst (λ (x : Slot). x.end ≤ start) (sym (get_or_append_left before (byte_slots start r.run_length) d k lt)) (ends k d lt)) (let q : length before ≤ r.slot = omega (arith, at) in q) mine m.runs_are;
        sizes = All-push (λ (x : PlacedRun). 0 < x.run_length) runs r m.sizes some;
        known = All-push IsKnownPlaced runs r m.known known;
        apart = λ k d lt. All-push (λ (x : PlacedRun). ((get_or quotes k d).slot < x.slot) ⊎ (x.slot + x.run_length ≤ (get_or quotes k d).slot)) runs r (m.apart k d lt) (let t = (h.quotes_are k d lt).0 in inl (omega (arith, t, at)));
        standing_are = λ k d lt. let t = (h.standing_are k d lt).there in placed-run new runs quotes (get_or standing k d) (m.standing_are k d lt) r (omega (arith, t, at));
        doubled_are = λ k d lt. let t = (h.doubled_are k d lt).there in placed-run new runs quotes (get_or doubled k d) (m.doubled_are k d lt) r (omega (arith, t, at));
        ordered = m.ordered;
        standing_end = m.standing_end;
        doubled_end = m.doubled_end;
        crossed = m.crossed;
      }

-- ## What a closing bracket leaves

-- the brackets that are left are the first ones of the old list
module _ (texts links : ℕ) (slots : List Slot) (runs : List PlacedRun) (quotes : List PlacedQuote) (standing doubled : List Bracket) (h : AreSound texts links slots runs quotes standing doubled) where
  pub sound-fewer : (n m : ℕ) → AreSound texts links slots runs quotes (take n standing) (take m doubled)
  sound-fewer n m = record {
    named = h.named;
    whole = h.whole;
    within = h.within;
    quotes_are = h.quotes_are;
    quotes_order = h.quotes_order;
    runs_are = h.runs_are;
    sizes = h.sizes;
    known = h.known;
    apart = h.apart;
    standing_are = All-take (IsPlaced slots runs quotes) n standing h.standing_are;
    doubled_are = All-take (IsPlaced slots runs quotes) m doubled h.doubled_are;
    ordered = λ i j d less lt.
        let a = length-take n standing in
        let high : j < n = omega (arith, lt, a) in
        let low : i < n = omega (arith, less, high) in
        let o = h.ordered i j d less (let q : j < length standing = omega (arith, lt, a) in q) in
        subst (λ (x : Bracket). (x.start < (get_or (take n standing) j d).start) × (x.slot < (get_or (take n standing) j d).slot)) (sym (get_or-take n standing i d low))
        (subst (λ (y : Bracket). ((get_or standing i d).start < y.start) × ((get_or standing i d).slot < y.slot)) (sym (get_or-take n standing j d high)) o);
    standing_end = ends-fewer n standing h.standing_end;
    doubled_end = ends-fewer m doubled h.doubled_end;
    crossed = All-take (λ (b : Bracket). All (λ (d : Bracket). BeginsBefore b d × BeginsBefore d b) (take m doubled)) n standing
        (λ k d lt. All-take (λ (x : Bracket). BeginsBefore (get_or standing k d) x × BeginsBefore x (get_or standing k d)) m doubled (h.crossed k d lt));
  }
    where
      ends-fewer : (n : ℕ) (bs : List Bracket) → EndInOrder bs → EndInOrder (take n bs)
      ends-fewer n bs e = λ i j d less lt.
          let a = length-take n bs in
          let high : j < n = omega (arith, lt, a) in
          let low : i < n = omega (arith, less, high) in
          subst (λ (x : Bracket). x.inside < (get_or (take n bs) j d).inside) (sym (get_or-take n bs i d low))
          (subst (λ (y : Bracket). (get_or bs i d).inside < y.inside) (sym (get_or-take n bs j d high)) (e i j d less (let q : j < length bs = omega (arith, lt, a) in q)))

  -- the slots before a bracket stay, and the runs, quotes and brackets after it are removed
  pub sound-back : (bracket : Bracket) → IsPlaced slots runs quotes bracket → All (λ (b : Bracket). b.slot < bracket.slot) standing → All (λ (d : Bracket). d.slot < bracket.slot) doubled
      → (more_texts more_links : ℕ) (new : List Slot) → length slots ≤ length new → SameBefore bracket.slot slots new → AreNamed more_texts more_links new → AreWhole new → EndWithin new
      → AreSound more_texts more_links new (take bracket.runs runs) (take bracket.quotes quotes) standing doubled
  sound-back bracket p before before_too more_texts more_links new le same named whole within = record {
    named = named;
    whole = whole;
    within = within;
    quotes_are = texts-kept slots new (take bracket.quotes quotes) le
        (λ k d lt e. let a = length-take bracket.quotes quotes in let low : k < bracket.quotes = omega (arith, lt, a) in
        same (get_or (take bracket.quotes quotes) k d).slot e (subst (λ (q : PlacedQuote). q.slot < bracket.slot) (sym (get_or-take bracket.quotes quotes k d low)) (p.quotes_before k d low)))
        (All-take (λ (q : PlacedQuote). (q.slot < length slots) × ((d : Slot) → (get_or slots q.slot d).kind ≡ kind.Text)) bracket.quotes quotes h.quotes_are);
    quotes_order = λ i j d less lt.
        let a = length-take bracket.quotes quotes in
        let high : j < bracket.quotes = omega (arith, lt, a) in
        let low : i < bracket.quotes = omega (arith, less, high) in
        subst (λ (x : PlacedQuote). x.slot < (get_or (take bracket.quotes quotes) j d).slot) (sym (get_or-take bracket.quotes quotes i d low))
        (subst (λ (y : PlacedQuote). (get_or quotes i d).slot < y.slot) (sym (get_or-take bracket.quotes quotes j d high)) (h.quotes_order i j d less (let q : j < length quotes = omega (arith, lt, a) in q)));
    runs_are = have-kept slots new 0 0 (take bracket.runs runs) le sizes (keeps-before bracket.slot slots new (take bracket.runs runs) same
        (λ k d lt. let a = length-take bracket.runs runs in let low : k < bracket.runs = omega (arith, lt, a) in
        subst (λ (r : PlacedRun). r.slot + r.run_length ≤ bracket.slot) (sym (get_or-take bracket.runs runs k d low)) (p.runs_before k d low)))
        (have-take slots 0 0 bracket.runs runs h.runs_are);
    sizes = sizes;
    known = All-take IsKnownPlaced bracket.runs runs h.known;
    apart = All-take (λ (q : PlacedQuote). All (λ (r : PlacedRun). (q.slot < r.slot) ⊎ (r.slot + r.run_length ≤ q.slot)) (take bracket.runs runs)) bracket.quotes quotes
        (λ k d lt. All-take (λ (r : PlacedRun). ((get_or quotes k d).slot < r.slot) ⊎ (r.slot + r.run_length ≤ (get_or quotes k d).slot)) bracket.runs runs (h.apart k d lt));
    standing_are = λ k d lt. cut (get_or standing k d) (h.standing_are k d lt) (before k d lt);
    doubled_are = λ k d lt. cut (get_or doubled k d) (h.doubled_are k d lt) (before_too k d lt);
    ordered = h.ordered;
    standing_end = h.standing_end;
    doubled_end = h.doubled_end;
    crossed = h.crossed;
  }
    where
      sizes : HaveSizes (take bracket.runs runs)
      sizes = All-take (λ (r : PlacedRun). 0 < r.run_length) bracket.runs runs h.sizes

      cut : (b : Bracket) → IsPlaced slots runs quotes b → b.slot < bracket.slot → IsPlaced new (take bracket.runs runs) (take bracket.quotes quotes) b
      cut b q lt =
          let t = p.there in
          placed-slots slots (take bracket.runs runs) (take bracket.quotes quotes) b (placed-cut slots runs quotes b q bracket p lt) new (omega (arith, lt, t, le)) (λ d. same b.slot d lt)

  -- quotes and runs after a bracket can be settled
  pub sound-settles : (bracket : Bracket) → IsPlaced slots runs quotes bracket → CanSettle (bracket.slot + 1) slots (drop bracket.runs runs) (drop bracket.quotes quotes)
  sound-settles bracket p = record {
    whole = h.whole;
    within = h.within;
    quotes_are = all-drop (λ (q : PlacedQuote). (q.slot < length slots) × ((d : Slot) → (get_or slots q.slot d).kind ≡ kind.Text)) bracket.quotes quotes h.quotes_are;
    quotes_after = λ k d lt. let a = length-drop bracket.quotes quotes in
        subst (λ (q : PlacedQuote). bracket.slot + 1 ≤ q.slot) (sym (get_or-drop bracket.quotes quotes k d))
        (let b = p.quotes_after (bracket.quotes + k) d (omega arith) (omega (arith, lt, a)) in let q : bracket.slot + 1 ≤ (get_or quotes (bracket.quotes + k) d).slot = omega (arith, b) in q);
    runs_are = have-drop slots 0 0 (bracket.slot + 1) bracket.runs runs h.runs_are
        (λ k d lt. let a = length-drop bracket.runs runs in
        subst (λ (r : PlacedRun). bracket.slot + 1 ≤ r.slot) (sym (get_or-drop bracket.runs runs k d))
        (let b = p.runs_after (bracket.runs + k) d (omega arith) (omega (arith, lt, a)) in let q : bracket.slot + 1 ≤ (get_or runs (bracket.runs + k) d).slot = omega (arith, b) in q));
    sizes = all-drop (λ (r : PlacedRun). 0 < r.run_length) bracket.runs runs h.sizes;
    known = all-drop IsKnownPlaced bracket.runs runs h.known;
    apart = all-drop (λ (q : PlacedQuote). All (λ (r : PlacedRun). (q.slot < r.slot) ⊎ (r.slot + r.run_length ≤ q.slot)) (drop bracket.runs runs)) bracket.quotes quotes
        (λ k d lt. all-drop (λ (r : PlacedRun). ((get_or quotes k d).slot < r.slot) ⊎ (r.slot + r.run_length ≤ (get_or quotes k d).slot)) bracket.runs runs (h.apart k d lt));
  }

-- all quotes and all runs can be settled
pub sound-settles-all : (texts links : ℕ) (slots : List Slot) (runs : List PlacedRun) (quotes : List PlacedQuote) (standing doubled : List Bracket) → AreSound texts links slots runs quotes standing doubled → CanSettle 0 slots (drop 0 runs) (drop 0 quotes)
sound-settles-all texts links slots runs quotes standing doubled h = subst (λ l. CanSettle 0 slots l (drop 0 quotes)) (sym (drop-none runs)) (subst (λ l. CanSettle 0 slots runs l) (sym (drop-none quotes)) (record {
  whole = h.whole;
  within = h.within;
  quotes_are = h.quotes_are;
  quotes_after = λ k d lt. omega arith;
  runs_are = h.runs_are;
  sizes = h.sizes;
  known = h.known;
  apart = h.apart;
}))
  where
    drop-none : {X : Type 0} (xs : List X) → drop 0 xs ≡ xs
    drop-none [] = refl
    drop-none (x ∷ xs) = refl
