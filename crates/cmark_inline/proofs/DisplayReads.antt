-- The parts that the grammar's pass has read with a closing bracket that forms a wikilink with a display text.
use Rattle.std.specs.Prelude.{drop, take, map, Some}
use Rattle.std.proofs.Common.{◌≡◌, ◌⊎◌, inl, inr, ℕ, suc, ◌+◌, ◌-◌, ◌<◌, ◌≤◌, ◌==◌, Bool, true, false, true≢false, List, [], ◌∷◌, ◌++◌, length, get_or, refl, sym, ap, subst, ◌∙◌, arith, append_assoc, length-drop}
use Rattle.std.proofs.lemmas.Bool.{cases_lt}
use Rattle.std.proofs.lemmas.List.{ext_get_or, get_or-drop, get_or-take, length-take-le, take-append-drop}
use Rattle.cmark_grammar.specs.BracketDecisions.{decide, after_pipe, name_in}
use Rattle.cmark_grammar.specs.BracketReading.{Comes}
use Rattle.cmark_grammar.specs.BracketStates.{State, Forms}
use Rattle.cmark_inline_model.specs.EmphasisModel.{pairs_of, spans_of}
use Rattle.cmark_grammar.specs.InlineTokens.{token}
use Rattle.cmark_grammar.specs.Items as items
use Rattle.cmark_grammar.specs.Items.{Item}
use Rattle.cmark_grammar.specs.LeafText.{Leaf}
use Rattle.cmark_grammar.specs.Lines.{is_content}
use Rattle.cmark_grammar.specs.OpenBrackets.{Taken}
use Rattle.cmark_grammar.specs.Options.{Options}
use Rattle.cmark_grammar.specs.Parts.{Wiki}
use Rattle.cmark_grammar.specs.Questions.{AnyAnswer}
use Rattle.cmark_grammar.specs.Readers.{Reader}
use Rattle.cmark_grammar.specs.Siblings.{item, wiki_tag}
use Rattle.cmark_inline_model.proofs.EmphasisSound.{sound}
use Rattle.cmark_leaf_text.specs.Reads.{IsFirstFrom, place_of, text_of}
use Rattle.cmark_leaf_text.specs.declared.leaf_text.LeafText.{LeafText}
use Rattle.cmark_inline_model.specs.CutRanges.{IsAfterPipe}
use Rattle.cmark_inline_model.specs.Displays.{CutFacts, IsCutThere, ShowsLike}
use Rattle.cmark_inline_model.specs.LikeSlots.{AreLike, IsLike}
use Rattle.cmark_inline_model.specs.SlotRows as row
use Rattle.cmark_inline_model.proofs.ReadingPlaces.{pipe-is}
use Rattle.cmark_inline.specs.Closers.{ReadsOn}
use Rattle.cmark_inline.specs.Decided.{IsCloser}
use Rattle.cmark_slots.specs.Doubled.{nearest}
use Rattle.cmark_inline.specs.Hiding.{WritesWikilink}
use Rattle.cmark_slots.specs.MarkedSlots.{siblings_from}
use Rattle.cmark_inline.specs.Reached.{ReadsPlaces}
use Rattle.cmark_slots.specs.SlotViews.{first_of, shown_slot, shown_slots}
use Rattle.cmark_slots.specs.Standing.{AreEnded, IsTakenPair}
use Rattle.cmark_inline.specs.Sound.{IsSound}
use Rattle.cmark_slots.specs.Slots.{AreSlots}
use Rattle.cmark_inline.specs.Stands.{Stands}
use Rattle.cmark_slots.specs.Cuts.{Hides, IsFirstAfter, cut_at, cut_slot, ends_by, hidden}
use Rattle.cmark_inline.specs.Wikilinks.{Shows, ShowsFrom, display_place, has_pothole, shown_name, wiki_start, wiki_text}
use Rattle.cmark_inline.specs.FormedSlots.{dressed_after, wrapped}
use Rattle.cmark_slots.specs.declared.bracket.Bracket.{Bracket}
use Rattle.cmark_slots.specs.declared.slot.Slot.{Slot}
use Rattle.cmark_inline.specs.declared.state.InlineState.{InlineState}
use Rattle.cmark_inline.specs.declared.wikilink.Wikilink.{Wikilink}
use Rattle.cmark_inline.proofs.AfterSteps.{IsTried}
use Rattle.cmark_inline.proofs.ClosingReads.{IsFlushed, SameRows, opener-first, read-before}
use Rattle.cmark_inline.proofs.CutSlots.{cut-like}
use Rattle.cmark_slots.proofs.DisplaySlots.{IsGood, Past, FirstShown, shows-left}
use Rattle.cmark_inline.proofs.DisplaySteps.{display-read}
use Rattle.cmark_inline.proofs.HiddenSlots.{hides-next, hides-tail}
use Rattle.cmark_inline.proofs.Keeping.{ended-pending}
use Rattle.cmark_slots.proofs.Marks.{no-slot}
use Rattle.cmark_slots.proofs.Opening.{is-pair, last-nearest}

-- ## Slots of which some are hidden, and one is cut

hides-mid : (mid rest new : List Slot) → Hides 0 (length mid) (mid ++ rest) new → new ≡ map hidden mid ++ rest
hides-mid [] rest new h = ext_get_or no-slot new rest h.size (λ i lt. h.following i no-slot (omega arith))
hides-mid (s ∷ mid) rest [] h = absurd (let n = h.size in omega (arith, n))
hides-mid (s ∷ mid) rest (x ∷ new) h =
    let first : x ≡ hidden s = h.inside 0 no-slot (omega arith) (omega arith) in
    ap (λ y. y ∷ new) first ∙ ap (λ l. hidden s ∷ l) (hides-mid mid rest new (hides-next (length mid) s x (mid ++ rest) new h))

hides-part : (front mid rest new : List Slot) → Hides (length front) (length front + length mid) (front ++ (mid ++ rest)) new → new ≡ front ++ (map hidden mid ++ rest)
hides-part [] mid rest new h = hides-mid mid rest new (subst (λ n. Hides 0 n (mid ++ rest) new) (let q : 0 + length mid ≡ length mid = omega arith in q) h)
hides-part (s ∷ front) mid rest [] h = absurd (let n = h.size in omega (arith, n))
hides-part (s ∷ front) mid rest (x ∷ new) h =
    let first : x ≡ s = h.before 0 no-slot (omega arith) in
    ap (λ y. y ∷ new) first
    ∙ ap (λ l. s ∷ l) (hides-part front mid rest new (hides-tail (length front) (length front + length mid) s x (front ++ (mid ++ rest)) new
    (subst (λ n. Hides (suc (length front)) n (s ∷ (front ++ (mid ++ rest))) (x ∷ new)) (let q : suc (length front) + length mid ≡ suc (length front + length mid) = omega arith in q) h)))

cut-part : (text : List ℕ) (t k : ℕ) (front slots : List Slot) → cut_at text t (length front + k) (front ++ slots) ≡ front ++ cut_at text t k slots
cut-part text t k [] slots = ap (λ n. cut_at text t n slots) (let q : 0 + k ≡ k = omega arith in q)
cut-part text t k (s ∷ front) slots =
    ap (λ n. cut_at text t n (s ∷ (front ++ slots))) (let q : suc (length front) + k ≡ suc (length front + k) = omega arith in q) ∙ ap (λ l. s ∷ l) (cut-part text t k front slots)

length-hidden : (mid : List Slot) → length (map hidden mid) ≡ length mid
length-hidden [] = refl
length-hidden (s ∷ mid) = ap suc (length-hidden mid)

-- ## The place after the pipe

module _ (leaf : LeafText) (reader : Reader) (read : Leaf) (place : ℕ → ℕ) (places : ReadsPlaces leaf reader read place) where
  byte-order : (j k : ℕ) → j < k → k < length (text_of leaf) → place_of leaf j < place_of leaf k
  byte-order j k lt fits =
      let o = places.places.places.order j k lt (omega (arith, fits)) in
      let a = places.bytes j (omega (arith, lt, fits)) in
      let b = places.bytes k fits in
      omega (arith, o, a, b)

  record IsThere (close display t : ℕ) : Type 0 where
    within : t < length (text_of leaf)
    low : t ≤ close
    is : place_of leaf t ≡ display

  -- it is the place of a byte of the text, since the pipe is a byte of the text
  display-there : (inner close display t : ℕ) → close < length (text_of leaf) → inner < length (text_of leaf) → place_of leaf inner < display → display ≤ place_of leaf close → IsFirstFrom leaf display t → IsAfterPipe reader.options reader.source display → IsThere close display t
  display-there inner close display t close_fits inner_fits following up first pipe = go (cases_lt close t)
    where
      found : t ≤ close → IsThere close display t
      found le = after (cases_lt inner t)
        where
          fits : t < length (text_of leaf)
          fits = omega (arith, le, close_fits)

          after : (inner < t) ⊎ (t ≤ inner) → IsThere close display t
          after (inr g) = let a = first.following inner g inner_fits in absurd (omega (arith, a, following))
          after (inl l) = here (cases_lt (place (t - 1)) (display - 1))
            where
              k_fits : suc (t - 1) < length (text_of leaf)
              k_fits = omega (arith, l, fits)

              next : suc (t - 1) ≡ t
              next = omega (arith, l)

              early : place (t - 1) < display
              early = let a = first.before (t - 1) (omega (arith, l)) in let b = places.bytes (t - 1) (omega (arith, l, fits)) in omega (arith, a, b)

              late : display ≤ place (suc (t - 1))
              late = let a = first.following t (omega arith) fits in let b = places.bytes t fits in let c = ap place next in omega (arith, a, b, c)

              here : (place (t - 1) < display - 1) ⊎ (display - 1 ≤ place (t - 1)) → IsThere close display t
              here (inl gap) =
                  let s = pipe.some in
                  let none = places.pipes (t - 1) (display - 1) k_fits gap (omega (arith, late, s)) in
                  absurd (true≢false (sym (ap (λ b. b == 124) pipe.pipe) ∙ none))
              here (inr g) =
                  let s = pipe.some in
                  let same : place (t - 1) ≡ display - 1 = omega (arith, g, early) in
                  let byte : get_or (text_of leaf) (t - 1) 0 ≡ 124 = sym (places.places.bytes (t - 1) (omega (arith, l, fits))) ∙ ap (λ n. get_or reader.source n 0) same ∙ pipe.pipe in
                  let step = places.places.places.next (t - 1) (omega (arith, l, fits)) (ap is_content byte) in
                  let a = places.bytes t fits in
                  let b = ap place next in
                  record { within = fits; low = le; is = omega (arith, step, a, b, same, s) }

      go : (close < t) ⊎ (t ≤ close) → IsThere close display t
      go (inl l) = let a = first.before close l in absurd (omega (arith, a, up))
      go (inr g) = found g

  -- ## The slots that are left

  module _ (text : List ℕ) (same : text ≡ text_of leaf) (st : InlineState) (close : ℕ) (close_fits : close < length (text_of leaf)) (stands : AreSlots text close st.slots.items) (ended : AreEnded leaf st.slots.items) (b : Bracket) (there : b.slot < length st.slots.items)
      (inner : ℕ) (wikilink : Wikilink) (display t : ℕ) (shows_at : wikilink.display ≡ Some t) (shown : List Slot) (at : ℕ) (shows : Shows text (record b { inside = inner + 1 }) close wikilink st.slots.items shown at)
      (within : t < length (text_of leaf)) (low : t ≤ close) (is : place_of leaf t ≡ display) where
    abbrev slots : List Slot
    slots = st.slots.items

    abbrev n : ℕ
    n = suc b.slot

    abbrev front : List Slot
    front = take n slots

    abbrev mid : List Slot
    mid = take (at - n) (drop n slots)

    abbrev rest : List Slot
    rest = drop (at - n) (drop n slots)

    abbrev order : (j k : ℕ) → j < k → k < length (text_of leaf) → place_of leaf j < place_of leaf k
    order = byte-order

    place_is : display_place close wikilink.display ≡ t
    place_is = ap (display_place close) shows_at

    from_is : b.slot + 1 ≡ n
    from_is = omega arith

    first : IsFirstAfter slots n t at
    first = subst (λ f. IsFirstAfter slots f t at) from_is (subst (λ p. IsFirstAfter slots (b.slot + 1) p at) place_is shows.first)

    front-count : length front ≡ n
    front-count = length-take-le n slots (omega (arith, there))

    following-count : length (drop n slots) ≡ length slots - n
    following-count = length-drop n slots

    mid-count : length mid ≡ at - n
    mid-count = length-take-le (at - n) (drop n slots) (let w = first.within in let c = following-count in omega (arith, w, c))

    parts : slots ≡ front ++ (mid ++ rest)
    parts = sym (take-append-drop n slots) ∙ ap (λ l. front ++ l) (sym (take-append-drop (at - n) (drop n slots)))

    at_is : at ≡ n + length mid
    at_is = let o = first.order in let c = mid-count in omega (arith, o, c)

    between_is : shows.between ≡ front ++ (map hidden mid ++ rest)
    between_is =
        let f = front-count in
        let to : at ≡ length front + length mid = (let a = at_is in omega (arith, a, f)) in
        hides-part front mid rest shows.between
        (subst (λ l. Hides (length front) (length front + length mid) l shows.between) parts
        (subst (λ m. Hides m (length front + length mid) slots shows.between) (from_is ∙ sym f) (subst (λ m. Hides (b.slot + 1) m slots shows.between) to shows.hides)))

    name : List Slot
    name = shown_name (record b { inside = inner + 1 }) close wikilink.source_end (Some t)

    shown_is : shown ≡ front ++ ((map hidden mid ++ cut_at text t 0 rest) ++ shown_name (record b { inside = inner + 1 }) close wikilink.source_end (Some t))
    shown_is =
        let f = front-count in
        let m = length-hidden mid in
        let to : at ≡ length front + (length (map hidden mid) + 0) = (let a = at_is in omega (arith, a, f, m)) in
        let named = shown_name (record b { inside = inner + 1 }) close wikilink.source_end in
        shows.slots_are
        ∙ ap (λ p. cut_at text p at shows.between ++ named wikilink.display) place_is
        ∙ ap (λ o. cut_at text t at shows.between ++ named o) shows_at
        ∙ ap (λ l. cut_at text t at l ++ named (Some t)) between_is
        ∙ ap (λ k. cut_at text t k (front ++ (map hidden mid ++ rest)) ++ named (Some t)) to
        ∙ ap (λ l. l ++ named (Some t)) (cut-part text t (length (map hidden mid) + 0) front (map hidden mid ++ rest) ∙ ap (λ l. front ++ l) (cut-part text t 0 (map hidden mid) rest))
        ∙ append_assoc front (map hidden mid ++ cut_at text t 0 rest) (named (Some t))

    abbrev Good : Slot → Type 0
    Good slot = IsGood leaf reader.source st.texts.items st.links.items order t display within is slot

    good : (k : ℕ) (d : Slot) → k < length slots → Good (get_or slots k d)
    good k d lt =
        let s = stands k d lt in
        let e = ended k d lt in
        let p = s.part.within in
        let size = ap length same in
        record { some = s.part.some; within = omega (arith, p, size); ends = e }

    -- each slot before the display text ends by the place
    mid-past : Past leaf reader.source st.texts.items st.links.items order t display within is mid
    mid-past = by mid (λ k d lt. (one k d lt).0) (λ k d lt. (one k d lt).1)
      where
        one : (k : ℕ) (d : Slot) → k < length mid → Good (get_or mid k d) × (ends_by t (get_or mid k d) ≡ true)
        one k d lt =
            let c = mid-count in
            let w = first.within in
            let o = first.order in
            let e : get_or mid k d ≡ get_or slots (n + k) d = get_or-take (at - n) (drop n slots) k d (omega (arith, lt, c)) ∙ get_or-drop n slots k d in
            (subst Good (sym e) (good (n + k) d (omega (arith, lt, c, w, o))), subst (λ s. ends_by t s ≡ true) (sym e) (first.before (n + k) d (omega arith) (omega (arith, lt, c))))

        by : (l : List Slot) → ((k : ℕ) (d : Slot) → k < length l → Good (get_or l k d)) → ((k : ℕ) (d : Slot) → k < length l → ends_by t (get_or l k d) ≡ true) → Past leaf reader.source st.texts.items st.links.items order t display within is l
        by [] f g = tt
        by (s ∷ l) f g = (f 0 no-slot (omega arith), g 0 no-slot (omega arith), by l (λ k d lt. f (suc k) d (omega (arith, lt))) (λ k d lt. g (suc k) d (omega (arith, lt))))

    -- the first slot of the display text begins at the place, if it is cut
    slot-cut : (k : ℕ) (d : Slot) → k < length slots → t < (get_or slots k d).end → (x : Item) → IsLike reader.source (shown_slot leaf st.texts.items st.links.items (get_or slots k d)) (row.ItemSlot x) → (get_or slots k d).start < t → display < x.end → CutFacts reader.source x
        → IsLike reader.source (shown_slot leaf st.texts.items st.links.items (cut_slot text t (get_or slots k d))) (row.ItemSlot (item x.kind display x.end))
    slot-cut k d lt following x like before past facts =
        let here : place t ≡ display = sym (places.bytes t within) ∙ is in
        let g = good k d lt in
        let further : place t < x.end = omega (arith, here, past) in
        subst (λ n. IsLike reader.source (shown_slot leaf st.texts.items st.links.items (cut_slot text t (get_or slots k d))) (row.ItemSlot (item x.kind n x.end))) here
        (subst (λ l. IsLike reader.source (shown_slot leaf st.texts.items st.links.items (cut_slot l t (get_or slots k d))) (row.ItemSlot (item x.kind (place t) x.end))) (sym same)
        (cut-like leaf reader read place places st.texts.items st.links.items (get_or slots k d) t before following g.within x facts further like))

    rest-first : (rows : List row.Slot) (like : AreLike reader.source (shown_slots leaf st.texts.items st.links.items (front ++ (mid ++ rest))) rows)
        → FirstShown leaf reader.source st.texts.items st.links.items order t display within is text front mid rest rows like mid-past rest
    rest-first rows like = by rest (λ d. here d) size
      where
        here : (d : Slot) → get_or rest 0 d ≡ get_or slots at d
        here d =
            let o = first.order in
            get_or-drop (at - n) (drop n slots) 0 d ∙ get_or-drop n slots (at - n + 0) d ∙ ap (λ k. get_or slots k d) (let q : n + (at - n + 0) ≡ at = omega (arith, o) in q)

        size : 0 < length rest → at < length slots
        size lt = let a = length-drop (at - n) (drop n slots) in let c = following-count in let o = first.order in omega (arith, lt, a, c, o)

        by : (l : List Slot) → ((d : Slot) → get_or l 0 d ≡ get_or slots at d) → (0 < length l → at < length slots)
            → FirstShown leaf reader.source st.texts.items st.links.items order t display within is text front mid rest rows like mid-past l
        by [] e f = tt
        by (slot ∷ l) e f =
            let lt : at < length slots = f (omega arith) in
            let one : slot ≡ get_or slots at no-slot = e no-slot in (
              subst Good (sym one) (good at no-slot lt),
              subst (λ s. ends_by t s ≡ false) (sym one) (first.shown no-slot lt),
              subst (λ s. t < s.end) (sym one) (first.following no-slot lt),
              (λ x like1 before1 past1 facts.
                  subst (λ (s : Slot). IsLike reader.source (shown_slot leaf st.texts.items st.links.items (cut_slot text t s)) (row.ItemSlot (item x.kind display x.end))) (sym one)
                  (slot-cut at no-slot lt (first.following no-slot lt) x (subst (λ (s : Slot). IsLike reader.source (shown_slot leaf st.texts.items st.links.items s) (row.ItemSlot x)) one like1) (subst (λ (s : Slot). s.start < t) one before1) past1 facts)),
            )

    pub shows-like : (start : ℕ) → start ≡ place_of leaf close → (rows : List row.Slot) → AreLike reader.source (shown_slots leaf st.texts.items st.links.items slots) rows → IsCutThere reader.source (suc b.slot) display rows
        → ShowsLike reader.source (suc b.slot) display start at rows (shown_slots leaf st.texts.items st.links.items shown)
    shows-like start starts rows like can =
        let f = front-count in
        let split : AreLike reader.source (shown_slots leaf st.texts.items st.links.items (front ++ (mid ++ rest))) rows = subst (λ l. AreLike reader.source (shown_slots leaf st.texts.items st.links.items l) rows) parts like in
        let r = shows-left leaf reader.source st.texts.items st.links.items order t display within is text front mid rest rows split mid-past close start close_fits low starts at (let a = at_is in let q : at ≡ length front + length mid = omega (arith, a, f) in q)
        (rest-first rows split) (subst (λ k. IsCutThere reader.source k display rows) (sym f) can) in
        subst (λ l. ShowsLike reader.source (suc b.slot) display start at rows (shown_slots leaf st.texts.items st.links.items l)) (sym shown_is)
        (subst (λ k. ShowsLike reader.source k display start at rows (shown_slots leaf st.texts.items st.links.items (front ++ ((map hidden mid ++ cut_at text t 0 rest) ++ shown_name (record b { inside = inner + 1 }) close wikilink.source_end (Some t))))) f r)

-- ## The step

module _ (leaf : LeafText) (reader : Reader) (read : Leaf) (place : ℕ → ℕ) (closer : items.Bracket) (s : State) (bs : List Bracket) (from close : ℕ) (old mine st new : InlineState) (is : IsFlushed from close old mine) (rows : SameRows mine st) (text : List ℕ) (same : text ≡ text_of leaf)
    (c : IsCloser text place close closer) (past : close + 1 < length text) (first : Taken) (i : IsTried place close bs first (nearest st.doubled)) (sound_so : IsSound st) (stands : Stands text close st) (options : Options) (options_are : options ≡ reader.options)
    (writes : WritesWikilink options leaf text (record i.bracket { inside = i.inner + 1 }) close st new) (name : List ℕ) (name_is : name ≡ name_in (wiki_text leaf (record i.bracket { inside = i.inner + 1 }) close)) where
  abbrev b : Bracket
  b = i.bracket

  abbrev entry : Bracket
  entry = record b { inside = i.inner + 1 }

  abbrev wikilink : Wikilink
  wikilink = writes.wikilink

  pair : IsTakenPair st.slots.items st.delimiters.placed.items st.quotes.placed.items st.brackets.standing.items entry
  pair = is-pair (length st.texts.items) (length st.links.items) st.slots.items st.delimiters.placed.items st.quotes.placed.items st.brackets.standing.items st.doubled.standing.items sound_so entry (last-nearest st.doubled _ i.is)

  two-within : close + 1 < length (text_of leaf)
  two-within = let l = past in subst (λ (l : List ℕ). close + 1 < length l) same l

  following-close : ReadsPlaces leaf reader read place → place_of leaf (close + 1) + 1 ≡ suc closer.end
  following-close places =
      let w = two-within in
      let content : is_content (get_or (text_of leaf) close 0) ≡ true = ap (λ (l : List ℕ). is_content (get_or l close 0)) (sym same) ∙ ap is_content c.byte in
      let e = places.bytes (close + 1) w in
      let f = places.places.places.next close (omega (arith, w)) content in
      let g = ap place (let q : close + 1 ≡ suc close = omega arith in q) in
      let h = c.end in
      omega (arith, e, f, g, h)

  ended-now : AreEnded leaf old.slots.items → AreEnded leaf st.slots.items
  ended-now ended = subst (AreEnded leaf) (sym rows.slots) (ended-pending leaf old.slots.items mine.slots.items from close is.pushes ended)

  pub display-reads : (display t : ℕ) → writes.wikilink.display ≡ Some t → Some display ≡ after_pipe (wiki_start leaf (record i.bracket { inside = i.inner + 1 })) (wiki_text leaf (record i.bracket { inside = i.inner + 1 }) close) → (next : State)
      → Comes AnyAnswer s.asked (decide reader read s closer) (record { result = Forms first.nearer (Wiki name (Some display) (suc closer.end)); after = next }) → AreEnded leaf old.slots.items
      → ReadsOn leaf reader read place from close closer s bs (record { result = Forms first.nearer (Wiki name (Some display) (suc closer.end)); after = next }) old new
  display-reads display t shows_at display_is next comes ended = λ places tok before pass flushed state_is pushes others h.
      let made = Wiki name (Some display) (suc closer.end) in
      let w = writes.writes in
      let left = w.inside in
      let runs = st.delimiters.placed.items in
      let quotes = st.quotes.placed.items in
      let siblings = siblings_from 0 (drop left.runs runs) in
      let fits = two-within in
      let close_fits : close < length (text_of leaf) = omega (arith, fits) in
      let now = shown_slots leaf st.texts.items st.links.items w.shown in
      let read_so = read-before leaf reader read place closer s bs from close old mine st new is rows before pass flushed pushes others h in
      let starts = opener-first leaf reader read place before pass bs st read_so b first.nearer i.there pair.placed.there no-slot (pair.placed.text no-slot) in
      let named : wikilink.name.now ≡ name = writes.is.name ∙ sym name_is in
      let from_there : IsFirstFrom leaf display t = subst (λ o. ShowsFrom leaf o (Some t)) (sym display_is) (subst (ShowsFrom leaf (after_pipe (wiki_start leaf entry) (wiki_text leaf entry close))) shows_at writes.is.display) in
      let following : place_of leaf i.inner < display = (let q = (pipe-is (wiki_start leaf entry) (wiki_text leaf entry close) display (sym display_is)).following in let e = ap (place_of leaf) (let z : i.inner + 1 - 1 ≡ i.inner = omega arith in z) in omega (arith, q, e)) in
      let at_close : place_of leaf close ≡ closer.start = places.bytes close close_fits ∙ sym c.start in
      let dressed : Options → List row.Slot = λ o. dressed_after o left (pairs_of siblings) runs quotes now in
      let begin : List ℕ → Bool → ℕ → ℕ → row.Slot = λ n z a e. row.BeginSlot (wiki_tag b.is_image n z) a e in
      display-read leaf reader read place before pass bs st new read_so places.turn places.lines b closer first.nearer name display (suc closer.end) next i.there
      (ap (λ (x : State). token reader read x.at) state_is ∙ tok)
      (subst (λ (x : State). Comes AnyAnswer x.asked (decide reader read x closer) (record { result = Forms first.nearer made; after = next })) (sym state_is) comes)
      sound_so.sizes left w.at now
      (record {
        slot = w.left.slot;
        runs_order = w.left.runs_order;
        runs_before = w.left.runs_before;
        runs_after = w.left.runs_after;
        quotes_order = w.left.quotes_order;
        quotes_before = w.left.quotes_before;
        quotes_after = w.left.quotes_after;
      })
      (λ slots like cut pipe low.
      let th = display-there leaf reader read place places i.inner close display t close_fits (let q = i.before in omega (arith, q, close_fits)) following (omega (arith, low, at_close)) from_there pipe in
      shows-like leaf reader read place places text same st close close_fits stands.slots (ended-now ended) b pair.placed.there i.inner wikilink display t shows_at w.shown w.at w.shows th.within th.low th.is closer.start (sym at_close) slots like cut)
      (pairs_of siblings) (spans_of siblings) (sound siblings)
      (w.slots leaf (pairs_of siblings) (spans_of siblings) no-slot (sound siblings)
      ∙ ap (λ o. wrapped b.slot (begin wikilink.name.now (has_pothole wikilink.display) (first_of leaf (get_or st.slots.items b.slot no-slot)) (place_of leaf (close + 1) + 1)) (dressed o)) options_are
      ∙ ap (λ n. wrapped b.slot (begin n (has_pothole wikilink.display) (first_of leaf (get_or st.slots.items b.slot no-slot)) (place_of leaf (close + 1) + 1)) (dressed reader.options)) named
      ∙ ap (λ o. wrapped b.slot (begin name (has_pothole o) (first_of leaf (get_or st.slots.items b.slot no-slot)) (place_of leaf (close + 1) + 1)) (dressed reader.options)) shows_at
      ∙ ap (λ n. wrapped b.slot (begin name true n (place_of leaf (close + 1) + 1)) (dressed reader.options)) starts
      ∙ ap (λ n. wrapped b.slot (begin name true (place b.start) n) (dressed reader.options)) (following-close places))
      w.forgets.runs w.forgets.quotes
