-- Links from dollar signs to the next ones that may close a formula, and the number of dollar signs visited.
use Rattle.std.proofs.Common.{◌≡◌, ◌⊎◌, inl, inr, ℕ, zero, suc, ◌+◌, ◌-◌, ◌*◌, ◌<◌, ◌≤◌, Bool, true, false, ◌==◌, ◌&&◌, not, if◌then◌else◌, List, [], ◌∷◌, length, drop, get_or, Option, Some, refl, sym, ap, subst, ◌∙◌, arith, drop-cons}
use Rattle.std.specs.Prelude.{nat_lt, option_map, slice_get}
use Rattle.std.specs.List.{prefix_len}
use Rattle.std.proofs.lemmas.Bool.{cases_lt, le-leb, lt-leb, lt-ltb, ltb-true}
use Rattle.std.proofs.lemmas.List.Sums.{prefix_len-le-length, prefix_len-drop_all, prefix_len_passes}
use Rattle.cmark_grammar.specs.Formulas.{Braces, is_dollar, no_braces, context_of, after_byte}
use Rattle.cmark_grammar.specs.Letters.{first_is}
use Rattle.cmark_grammar.specs.LinkDefinitions.{escapes_next}
use Rattle.cmark_span_scan.specs.Dollars.{AreLinks, IsReached, Lists, braces_at, closing, dollars_from, dollars_in, is_passed_in, may_visit, signs_of, stands_before}
use Rattle.cmark_span_scan.specs.declared.dollars.Dollar.{Dollar}
use Rattle.cmark_span_scan.specs.declared.dollars.Dollars.{Dollars}
use Rattle.cmark_span_scan.proofs.DollarSteps.{IsListed, again, last-braces, listed-at, rest, sign, listed-here, listed-later}

-- ## Offsets increase

abbrev AreUp : (low : ℕ) → List Dollar → Type 0
AreUp low [] = Unit {0}
AreUp low (d ∷ ds) = (low ≤ d.place) × AreUp (suc d.place) ds

up-weaker : (low lower : ℕ) (ds : List Dollar) → lower ≤ low → AreUp low ds → AreUp lower ds
up-weaker low lower [] le up = tt
up-weaker low lower (d ∷ ds) le up = (omega (arith, le, up.0), up.1)

up-listed : (at : ℕ) (escaped : Bool) (braces : Braces) (bs : List ℕ) → AreUp at (dollars_from at escaped braces bs)
up-listed at escaped braces [] = tt
up-listed at escaped braces (b ∷ bs) = by_byte (is_dollar b) refl (up-listed (suc at) (escapes_next escaped b) (after_byte escaped b braces) bs)
  where
    by_byte : (t : Bool) → is_dollar b ≡ t → AreUp (suc at) (rest at escaped braces b bs) → AreUp at (dollars_from at escaped braces (b ∷ bs))
    by_byte true e up = subst (AreUp at) (sym (listed-here at escaped braces b bs e)) ((let q : at ≤ at = omega arith in q), up)
    by_byte false e up = subst (AreUp at) (sym (listed-later at escaped braces b bs e)) (up-weaker (suc at) at (rest at escaped braces b bs) (omega arith) up)

up-following : (low : ℕ) (ds : List Dollar) (i : ℕ) (d : Dollar) → AreUp low ds → i < length ds → AreUp (suc (get_or ds i d).place) (drop (suc i) ds)
up-following low [] i d up lt = absurd (omega (arith, lt))
up-following low (x ∷ xs) zero d up lt = up.1
up-following low (x ∷ xs) (suc i) d up lt = up-following (suc x.place) xs i d up.1 (omega (arith, lt))

-- at most as many dollar signs are listed as there are bytes
pub few-listed : (at : ℕ) (escaped : Bool) (braces : Braces) (bs : List ℕ) → length (dollars_from at escaped braces bs) ≤ length bs
few-listed at escaped braces [] = omega arith
few-listed at escaped braces (b ∷ bs) = by_byte (is_dollar b) refl (few-listed (suc at) (escapes_next escaped b) (after_byte escaped b braces) bs)
  where
    by_byte : (t : Bool) → is_dollar b ≡ t → length (rest at escaped braces b bs) ≤ length bs → length (dollars_from at escaped braces (b ∷ bs)) ≤ suc (length bs)
    by_byte true e le = let q = ap length (listed-here at escaped braces b bs e) in omega (arith, q, le)
    by_byte false e le = let q = ap length (listed-later at escaped braces b bs e) in omega (arith, q, le)

-- ## The dollar sign that closes

abbrev pub place_at : (i : ℕ) → List Dollar → Option ℕ
place_at i ds = option_map (λ (d : Dollar). d.place) (slice_get ds i)

-- among dollar signs that are all after an offset, the first that is not passed closes
closing-first : (from context : ℕ) (ds : List Dollar) → AreUp from ds → closing from context ds ≡ place_at (prefix_len (is_passed_in context) ds) ds
closing-first from context [] up = refl
closing-first from context (d ∷ ds) up = go (not d.is_escaped && (d.context == context)) refl (closing-first from context ds (up-weaker (suc d.place) from ds (omega (arith, up.0)) up.1))
  where
    go : (t : Bool) → (not d.is_escaped && (d.context == context)) ≡ t → closing from context ds ≡ place_at (prefix_len (is_passed_in context) ds) ds → closing from context (d ∷ ds) ≡ place_at (prefix_len (is_passed_in context) (d ∷ ds)) (d ∷ ds)
    go true e i = rw (le-leb from d.place up.0) (rw e refl)
    go false e i = rw (le-leb from d.place up.0) (rw e (i ∙ ap (λ k. place_at k (d ∷ ds)) (let q : suc (prefix_len (is_passed_in context) ds) ≡ 1 + prefix_len (is_passed_in context) ds = omega arith in q)))

place-following : (ds : List Dollar) (i k : ℕ) → place_at k (drop i ds) ≡ place_at (i + k) ds
place-following ds zero k = ap (λ n. place_at n ds) (let q : k ≡ 0 + k = omega arith in q)
place-following [] (suc i) k = refl
place-following (d ∷ ds) (suc i) k = place-following ds i k ∙ ap (λ n. place_at n (d ∷ ds)) (let q : suc (i + k) ≡ suc i + k = omega arith in q)

-- the link of the dollar sign with this index leads to the one that closes after it
pub linked-closes : (text links : List ℕ) (at index context : ℕ) (d : Dollar) → AreLinks (dollars_in text) links → index < length (dollars_in text) → (get_or (dollars_in text) index d).place ≡ at → (get_or (dollars_in text) index d).context ≡ context
    → closing (at + 1) context (drop index (dollars_in text)) ≡ place_at (get_or links index 0) (dollars_in text)
linked-closes text links at index context d h lt place-is context-is =
    let ds = dollars_in text in
    let one : suc index ≡ index + 1 = omega arith in
    let up : AreUp (at + 1) (drop (index + 1) ds) = subst (λ n. AreUp (at + 1) (drop n ds)) one (subst (λ n. AreUp n (drop (suc index) ds)) (ap suc place-is ∙ (let q : suc at ≡ at + 1 = omega arith in q)) (up-following 0 ds index d (up-listed 0 false no_braces text) lt)) in
    ap (closing (at + 1) context) (drop-cons ds index d lt)
    ∙ ap (λ y. if y && (not (get_or ds index d).is_escaped && ((get_or ds index d).context == context)) then Some (get_or ds index d).place else closing (at + 1) context (drop (suc index) ds)) (lt-leb (at + 1) (get_or ds index d).place (omega (arith, place-is)))
    ∙ ap (λ n. closing (at + 1) context (drop n ds)) one
    ∙ closing-first (at + 1) context (drop (index + 1) ds) up
    ∙ place-following ds (index + 1) (prefix_len (is_passed_in context) (drop (index + 1) ds))
    ∙ ap (λ n. place_at n ds) (ap (λ x. index + 1 + prefix_len (is_passed_in x) (drop (index + 1) ds)) (sym context-is) ∙ sym (h.each index d lt))

-- ## The links are made from the last to the first

-- the links of the dollar signs from an index on are made
abbrev pub AreMade : (from : ℕ) → (listed : List Dollar) → (links : List ℕ) → Type 0
AreMade from listed links = (i : ℕ) (d : Dollar) → from ≤ i → i < length listed → get_or links i 0 ≡ i + 1 + prefix_len (is_passed_in (get_or listed i d).context) (drop (i + 1) listed)

-- the first dollar sign from there on is known for each context
abbrev pub AreHeads : (from : ℕ) → (listed : List Dollar) → (heads : List ℕ) → Type 0
AreHeads from listed heads = (c : ℕ) → get_or heads c (length listed) ≡ from + prefix_len (is_passed_in c) (drop from listed)

-- at first no link is made, and no head is known
pub heads-end : (listed : List Dollar) → AreHeads (length listed) listed []
heads-end listed c =
    (let q : length listed ≡ length listed + 0 = omega arith in q) ∙ ap (λ k. length listed + k) (sym (prefix_len-drop_all (is_passed_in c) listed (length listed) (omega arith)))

-- ## The number of dollar signs visited

-- the dollar signs before an offset are before a greater offset too
pub before-more : (at further : ℕ) (ds : List Dollar) → at ≤ further → prefix_len (stands_before at) ds ≤ prefix_len (stands_before further) ds
before-more at further [] le = omega arith
before-more at further (d ∷ ds) le = go (nat_lt d.place at) refl (before-more at further ds le)
  where
    go : (t : Bool) → nat_lt d.place at ≡ t → prefix_len (stands_before at) ds ≤ prefix_len (stands_before further) ds → (if t then 1 + prefix_len (stands_before at) ds else 0) ≤ prefix_len (stands_before further) (d ∷ ds)
    go true e i =
        let low = ltb-true d.place at e in
        let more : prefix_len (stands_before further) (d ∷ ds) ≡ 1 + prefix_len (stands_before further) ds = rw (lt-ltb d.place further (omega (arith, low, le))) refl in
        omega (arith, more, i)
    go false e i = omega arith

-- the dollar sign that was looked up last is at or before one that is looked up later
pub reached-low : (text : List ℕ) (at reached : ℕ) (d : Dollar) → at < length text → get_or text at 0 ≡ 36 → reached ≤ prefix_len (stands_before at) (dollars_in text) → (reached < length (dollars_in text)) × ((get_or (dollars_in text) reached d).place ≤ at)
reached-low text at reached d lt is le =
    let listed : IsListed (dollars_in text) at (context_of (braces_at text at)) d = listed-at 0 false no_braces text at at d (let q : at ≡ 0 + at = omega arith in q) lt is in
    (omega (arith, le, listed.within), go listed (cases_lt reached (prefix_len (stands_before at) (dollars_in text))))
  where
    go : IsListed (dollars_in text) at (context_of (braces_at text at)) d → (reached < prefix_len (stands_before at) (dollars_in text)) ⊎ (prefix_len (stands_before at) (dollars_in text) ≤ reached) → (get_or (dollars_in text) reached d).place ≤ at
    go listed (inl less) = let before = ltb-true (get_or (dollars_in text) reached d).place at (prefix_len_passes (stands_before at) (dollars_in text) reached d less) in omega (arith, before)
    go listed (inr more) =
        let same : prefix_len (stands_before at) (dollars_in text) ≡ reached = omega (arith, more, le) in
        subst (λ k. (get_or (dollars_in text) k d).place ≤ at) same (omega (arith, listed.place_is))

-- the last sign that opens a formula, and the one that closes it
pub last-sign : (text : List ℕ) (is_display : Bool) (at : ℕ) → at < length text → get_or text at 0 ≡ 36 → (is_display ≡ true → first_is is_dollar (drop (at + 1) text) ≡ true) → (at + signs_of is_display - 1 < length text) × (get_or text (at + signs_of is_display - 1) 0 ≡ 36)
last-sign text true at lt is double =
    let h = again text at (double refl) in
    let q : at + 2 - 1 ≡ at + 1 = omega arith in
    (subst (λ n. n < length text) (sym q) h.0, ap (λ n. get_or text n 0) q ∙ h.1)
last-sign text false at lt is double =
    let q : at + 1 - 1 ≡ at = omega arith in
    (subst (λ n. n < length text) (sym q) lt, ap (λ n. get_or text n 0) q ∙ is)

pub last-closes : (text : List ℕ) (is_display : Bool) (at start : ℕ) (found : Option ℕ) → at < length text → get_or text at 0 ≡ 36 → start ≡ at + signs_of is_display → found ≡ closing (start - 1 + 1) (context_of (braces_at text (start - 1))) (dollars_in text)
    → found ≡ closing start (context_of (braces_at text at)) (dollars_in text)
last-closes text is_display at start found lt is e f =
    f
    ∙ ap (λ n. closing n (context_of (braces_at text (start - 1))) (dollars_in text)) (some is_display e)
    ∙ ap (λ n. closing start (context_of (braces_at text (n - 1))) (dollars_in text)) e
    ∙ ap (λ b. closing start (context_of b) (dollars_in text)) (last-braces text is_display at lt is)
  where
    some : (b : Bool) → start ≡ at + signs_of b → start - 1 + 1 ≡ start
    some true h = omega (arith, h)
    some false h = omega (arith, h)

-- a dollar sign that was looked up is before the one that is looked up next
pub reached-next : (text : List ℕ) (is_display : Bool) (at : ℕ) → prefix_len (stands_before (at + signs_of is_display - 1)) (dollars_in text) ≤ prefix_len (stands_before (at + 1)) (dollars_in text)
reached-next text true at = before-more (at + 2 - 1) (at + 1) (dollars_in text) (omega arith)
reached-next text false at = before-more (at + 1 - 1) (at + 1) (dollars_in text) (omega arith)

pub reached-further : (text : List ℕ) (at further : ℕ) (dollars : Dollars) → at ≤ further → IsReached text at dollars → IsReached text further dollars
reached-further text at further dollars le h on = let low = h on in let more = before-more at further (dollars_in text) le in omega (arith, low, more)

-- one search for a formula: its visits are paid for
pub formula-pays : (text : List ℕ) (old mid new : Dollars) (at sign : ℕ) → at < length text → at ≤ sign → Lists text old mid → mid.is_listed ≡ true → (IsReached text sign mid → new.visited + mid.reached ≡ mid.visited + new.reached + 1) → new.is_listed ≡ true → new.reached < length (dollars_in text)
    → IsReached text at old → new.visited + may_visit text (at + 1) new ≤ old.visited + may_visit text at old
formula-pays text old mid new at sign lt le lists listed pays on within reached = go old.is_listed refl
  where
    few : length (dollars_in text) ≤ length text
    few = few-listed 0 false no_braces text

    left : may_visit text (at + 1) new ≡ (length (dollars_in text) - new.reached) + (length text - (at + 1))
    left = rw on refl

    go : (b : Bool) → old.is_listed ≡ b → new.visited + may_visit text (at + 1) new ≤ old.visited + ((if b then length (dollars_in text) - old.reached else 3 * length text) + (length text - at))
    go true e =
        let was = lists.was e in
        let low = reached e in
        let more = before-more at sign (dollars_in text) le in
        let cost = pays (λ h. omega (arith, was.1, low, more)) in
        let inside = prefix_len-le-length (stands_before at) (dollars_in text) in
        omega (arith, left, was.0, was.1, cost, lt, within, low, inside)
    go false e =
        let made = lists.made e in
        let cost = pays (λ h. omega (arith, made.1)) in
        omega (arith, left, made.0, made.1, cost, lt, within, few)

pub signs-following : (at : ℕ) (is_display : Bool) (signs : ℕ) → signs ≡ signs_of is_display → at ≤ at + signs - 1
signs-following at true signs e = omega (arith, e)
signs-following at false signs e = omega (arith, e)
