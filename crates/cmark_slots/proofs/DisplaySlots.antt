-- The slots that a wikilink shows from a place on are like those that are left of the grammar's row.
use Rattle.std.specs.Prelude.{map, drop, take, get_or, nat_le, nat_lt, max, ◌==◌, ◌&&◌, ◌||◌, if◌then◌else◌, Some}
use Rattle.std.proofs.Common.{◌≡◌, ◌⊎◌, inl, inr, ℕ, suc, ◌+◌, ◌-◌, ◌<◌, ◌≤◌, Bool, true, false, List, [], ◌∷◌, ◌++◌, length, refl, sym, ap, subst, ◌∙◌, arith, length-append, eqb-true}
use Rattle.std.proofs.lemmas.Bool.{cases_lt, eq-eqb}
use Rattle.std.proofs.lemmas.List.{get_or_at, length-map, map-append, take-append-drop}
use Rattle.cmark_grammar.specs.Event as event
use Rattle.cmark_grammar.specs.Items as items
use Rattle.cmark_grammar.specs.Items.{Item}
use Rattle.cmark_grammar.specs.Siblings.{item}
use Rattle.cmark_grammar.specs.Tag.{Tag}
use Rattle.cmark_leaf_text.specs.Reads.{place_of, text_of}
use Rattle.cmark_leaf_text.specs.declared.leaf_text.LeafText.{LeafText}
use Rattle.cmark_values.specs.declared.text.CowStr.{CowStr}
use Rattle.cmark_inline_model.specs.Displays.{CanBeCut, CutFacts, IsCutThere, ShowsLike, begun_from, display_slots, empty_text, hidden_by, shown_from}
use Rattle.cmark_inline_model.specs.Displays as row_shows
use Rattle.cmark_inline_model.specs.LikeSlots.{AreLike, IsLike}
use Rattle.cmark_inline_model.specs.SlotRows as row
use Rattle.cmark_inline_model.proofs.DisplayRows.{EndBy, nothings, nothings-append, shown-hidden, shown-kept}
use Rattle.cmark_inline_model.proofs.RowPasses.{like-both}
use Rattle.cmark_slots.specs.Elements.{emphasis_tag}
use Rattle.cmark_slots.specs.SlotViews.{link_tag, linked_at, shown_slot, shown_slots, slot_as}
use Rattle.cmark_slots.specs.Standing.{EndsIn, source_end}
use Rattle.cmark_slots.specs.Cuts.{cut_at, cut_kind, cut_slot, ends_by, has_none_after, hidden}
use Rattle.cmark_references.specs.declared.link.Link.{Link}
use Rattle.cmark_slots.specs.declared.slot.Slot.{Slot}
use Rattle.cmark_slots.specs.declared.slot.SlotKind.{SlotKind}
use Rattle.cmark_slots.specs.declared.slot.SlotKind.TheVariants as kind

-- ## Lists that are like others

pub like-split : (source : List ℕ) (a b r : List row.Slot) → AreLike source (a ++ b) r → AreLike source a (take (length a) r) × AreLike source b (drop (length a) r)
like-split source [] b r h = (refl, h)
like-split source (x ∷ a) b [] h = absurd h
like-split source (x ∷ a) b (y ∷ r) h = let i = like-split source a b r h.1 in ((h.0, i.0), i.1)

like-length : (source : List ℕ) (a b : List row.Slot) → AreLike source a b → length a ≡ length b
like-length source [] b h = sym (ap length h)
like-length source (x ∷ a) [] h = absurd h
like-length source (x ∷ a) (y ∷ b) h = ap suc (like-length source a b h.1)

-- ## Places of the text and of the source

module _ (leaf : LeafText) (source : List ℕ) (texts : List CowStr) (links : List Link) (order : (j k : ℕ) → j < k → k < length (text_of leaf) → place_of leaf j < place_of leaf k)
    (t display : ℕ) (there : t < length (text_of leaf)) (is : place_of leaf t ≡ display) where
  early : (k : ℕ) → k < t → place_of leaf k < display
  early k lt = let a = order k t lt there in omega (arith, a, is)

  late : (k : ℕ) → t ≤ k → k < length (text_of leaf) → display ≤ place_of leaf k
  late k le lt = go (cases_lt t k)
    where
      go : (t < k) ⊎ (k ≤ t) → display ≤ place_of leaf k
      go (inl l) = let a = order t k l lt in omega (arith, a, is)
      go (inr g) = subst (λ j. display ≤ place_of leaf j) (let q : t ≡ k = omega (arith, g, le) in q) (omega (arith, is))

  past-same : (e : ℕ) → 0 < e → e ≤ length (text_of leaf) → nat_le (place_of leaf (e - 1) + 1) display ≡ nat_le e t
  past-same e some within = go (cases_lt t e)
    where
      go : (t < e) ⊎ (e ≤ t) → nat_le (place_of leaf (e - 1) + 1) display ≡ nat_le e t
      go (inl l) =
          let a = late (e - 1) (omega (arith, l)) (omega (arith, some, within)) in
          let x : nat_le (place_of leaf (e - 1) + 1) display ≡ false = grind (arith) in
          let y : nat_le e t ≡ false = grind (arith) in
          x ∙ sym y
      go (inr g) =
          let a = early (e - 1) (omega (arith, g, some)) in
          let x : nat_le (place_of leaf (e - 1) + 1) display ≡ true = grind (arith) in
          let y : nat_le e t ≡ true = grind (arith) in
          x ∙ sym y

  first-same : (s : ℕ) → s < length (text_of leaf) → nat_le (place_of leaf s) display ≡ nat_le s t
  first-same s within = go (cases_lt t s)
    where
      go : (t < s) ⊎ (s ≤ t) → nat_le (place_of leaf s) display ≡ nat_le s t
      go (inl l) =
          let a = order t s l within in
          let b : display < place_of leaf s = omega (arith, a, is) in
          let x : nat_le (place_of leaf s) display ≡ false = grind (arith) in
          let y : nat_le s t ≡ false = grind (arith) in
          x ∙ sym y
      go (inr g) =
          let b : place_of leaf s ≤ display = low (cases_lt s t) g in
          let x : nat_le (place_of leaf s) display ≡ true = grind (arith) in
          let y : nat_le s t ≡ true = grind (arith) in
          x ∙ sym y
        where
          low : (s < t) ⊎ (t ≤ s) → s ≤ t → place_of leaf s ≤ display
          low (inl l) g = let a = early s l in omega (arith, a)
          low (inr k) g = subst (λ j. place_of leaf j ≤ display) (let q : t ≡ s = omega (arith, k, g) in q) (omega (arith, is))

  source-same : (e past : ℕ) → EndsIn leaf e (Some past) → nat_le past display ≡ nat_le e t
  source-same e past h = go (cases_lt t e)
    where
      go : (t < e) ⊎ (e ≤ t) → nat_le past display ≡ nat_le e t
      go (inl l) =
          let a = h.0 t l in
          let b : display < past = omega (arith, a, is) in
          let x : nat_le past display ≡ false = grind (arith) in
          let y : nat_le e t ≡ false = grind (arith) in
          x ∙ sym y
      go (inr g) =
          let a = h.2 t g there in
          let b : past ≤ display = omega (arith, a, is) in
          let x : nat_le past display ≡ true = grind (arith) in
          let y : nat_le e t ≡ true = grind (arith) in
          x ∙ sym y

  -- ## Where slots end

  item-end : (x : Item) (y : row.Slot) → IsLike source (row.ItemSlot x) y → row_shows.ends_by display y ≡ nat_le x.end display
  item-end x (row.ItemSlot y) h = ap (λ n. nat_le n display) (sym h.end)
  item-end x _ h = absurd h

  -- a slot has some bytes of the text
  pub record IsGood (slot : Slot) : Type 0 where
    pub some : slot.start < slot.end
    pub within : slot.end ≤ length (text_of leaf)
    pub ends : EndsIn leaf slot.end (source_end slot.kind)

  either : (a b : ℕ) → a < b → (nat_le a t || nat_le b t) ≡ nat_le a t
  either a b lt = go (nat_le a t) (nat_le b t) refl refl
    where
      go : (x y : Bool) → nat_le a t ≡ x → nat_le b t ≡ y → (x || y) ≡ x
      go true y e f = refl
      go false true e f = absurd (let p : t < a = grind (arith) in let q : b ≤ t = grind (arith) in omega (arith, p, q, lt))
      go false false e f = refl

  -- the slot ends by the offset in the text if its slot of the model ends by the offset in the source
  ends-kind : (slot : Slot) (k : SlotKind) (y : row.Slot) → slot.start < slot.end → slot.end ≤ length (text_of leaf) → EndsIn leaf slot.end (source_end k) → IsLike source (slot_as leaf texts links slot k) y
      → row_shows.ends_by display y ≡ (has_none_after t slot.start k || nat_le slot.end t)
  ends-kind slot (kind.SourceHtml past) y some fits e h = item-end _ y h ∙ source-same slot.end past e
  ends-kind slot (kind.SourceText past) y some fits e h = item-end _ y h ∙ source-same slot.end past e
  ends-kind slot kind.Empty y some fits e h = item-end _ y h ∙ first-same slot.start (omega (arith, some, fits)) ∙ sym (either slot.start slot.end some)
  ends-kind slot (kind.Begin mark) y some fits e h = ap (row_shows.ends_by display) h ∙ past-same slot.end (omega (arith, some)) fits
  ends-kind slot (kind.BeginLink element index) y some fits e h = ap (row_shows.ends_by display) h ∙ past-same slot.end (omega (arith, some)) fits
  ends-kind slot kind.End y some fits e h = ap (row_shows.ends_by display) h
  ends-kind slot kind.Nothing y some fits e h = ap (row_shows.ends_by display) h
  ends-kind slot _ y some fits e h = item-end _ y h ∙ past-same slot.end (omega (arith, some)) fits

  ends-same : (slot : Slot) (y : row.Slot) → IsGood slot → IsLike source (shown_slot leaf texts links slot) y → row_shows.ends_by display y ≡ ends_by t slot
  ends-same slot y g h = ends-kind slot slot.kind y g.some g.within g.ends h

  -- these slots end by the place
  abbrev pub Past : List Slot → Type 0
  Past [] = Unit {0}
  Past (slot ∷ slots) = IsGood slot × (ends_by t slot ≡ true) × Past slots

  mid-ends : (slots : List Slot) (rows : List row.Slot) → AreLike source (shown_slots leaf texts links slots) rows → Past slots → EndBy display rows
  mid-ends [] rows h p = subst (EndBy display) (sym h) tt
  mid-ends (slot ∷ slots) [] h p = absurd h
  mid-ends (slot ∷ slots) (y ∷ rows) h p = (ends-same slot y p.0 h.0 ∙ p.1, mid-ends slots rows h.1 p.2)

  mid-like : (slots : List Slot) → AreLike source (shown_slots leaf texts links (map hidden slots)) (nothings (length slots) [])
  mid-like [] = refl
  mid-like (slot ∷ slots) = (refl, mid-like slots)

  -- ## The slot that is cut

  item-start : (slot : Slot) (k : SlotKind) (x : Item) → IsLike source (slot_as leaf texts links slot k) (row.ItemSlot x) → x.start ≡ place_of leaf slot.start
  item-start slot (kind.Begin mark) x h = absurd (let z : ⊥ = cc in z)
  item-start slot (kind.BeginLink element index) x h = absurd (let z : ⊥ = cc in z)
  item-start slot kind.End x h = absurd (let z : ⊥ = cc in z)
  item-start slot kind.Nothing x h = absurd (let z : ⊥ = cc in z)
  item-start slot _ x h = sym h.start

  -- the begin of an element
  record IsBegin (slot : Slot) (k : SlotKind) (tag : Tag) (start end : ℕ) : Type 0 where
    begins : row.BeginSlot tag start end ≡ slot_as leaf texts links slot k
    first : start ≡ place_of leaf slot.start
    cut : (text : List ℕ) → row.BeginSlot tag display end ≡ slot_as leaf texts links (record { kind = cut_kind text slot.start slot.end k; start = t; end = slot.end }) (cut_kind text slot.start slot.end k)

  begin-start : (slot : Slot) (k : SlotKind) (tag : Tag) (start end : ℕ) → IsLike source (slot_as leaf texts links slot k) (row.BeginSlot tag start end) → IsBegin slot k tag start end
  begin-start slot (kind.Begin mark) tag start end h =
      let a : tag ≡ emphasis_tag mark = cc in
      let b : start ≡ place_of leaf slot.start = cc in
      let c : end ≡ place_of leaf (slot.end - 1) + 1 = cc in
      record {
        begins = h;
        first = b;
        cut = λ text. ap (λ x. row.BeginSlot x display end) a ∙ ap (λ n. row.BeginSlot (emphasis_tag mark) n end) (sym is) ∙ ap (row.BeginSlot (emphasis_tag mark) (place_of leaf t)) c;
      }
  begin-start slot (kind.BeginLink element index) tag start end h =
      let a : tag ≡ link_tag element (linked_at links index) = cc in
      let b : start ≡ place_of leaf slot.start = cc in
      let c : end ≡ place_of leaf (slot.end - 1) + 1 = cc in
      record {
        begins = h;
        first = b;
        cut = λ text. ap (λ x. row.BeginSlot x display end) a ∙ ap (λ n. row.BeginSlot (link_tag element (linked_at links index)) n end) (sym is) ∙ ap (row.BeginSlot (link_tag element (linked_at links index)) (place_of leaf t)) c;
      }
  begin-start slot kind.End tag start end h = absurd (let z : ⊥ = cc in z)
  begin-start slot kind.Nothing tag start end h = absurd (let z : ⊥ = cc in z)
  begin-start slot _ tag start end h = absurd h

  module _ (text : List ℕ) (slot : Slot) (good : IsGood slot) (following : t < slot.end)
      (cuts : (x : Item) → IsLike source (shown_slot leaf texts links slot) (row.ItemSlot x) → slot.start < t → display < x.end → CutFacts source x → IsLike source (shown_slot leaf texts links (cut_slot text t slot)) (row.ItemSlot (item x.kind display x.end))) where
    kept : nat_lt slot.start t ≡ false → cut_slot text t slot ≡ slot
    kept e = ap (λ z. if z && nat_lt t slot.end then record { kind = cut_kind text slot.start slot.end slot.kind; start = t; end = slot.end } else slot) e

    made : nat_lt slot.start t ≡ true → cut_slot text t slot ≡ record { kind = cut_kind text slot.start slot.end slot.kind; start = t; end = slot.end }
    made e =
        let f : nat_lt t slot.end ≡ true = grind (arith) in
        ap (λ z. if z && nat_lt t slot.end then record { kind = cut_kind text slot.start slot.end slot.kind; start = t; end = slot.end } else slot) e
        ∙ ap (λ z. if z then record { kind = cut_kind text slot.start slot.end slot.kind; start = t; end = slot.end } else slot) f

    shown-cut : (y : row.Slot) → IsLike source (shown_slot leaf texts links slot) y → row_shows.ends_by display y ≡ false → CanBeCut source display y → IsLike source (shown_slot leaf texts links (cut_slot text t slot)) (begun_from display y)
    shown-cut (row.ItemSlot x) h e can = go (nat_lt slot.start t) refl can
      where
        first : x.start ≡ place_of leaf slot.start
        first = item-start slot slot.kind x h

        go : (c : Bool) → nat_lt slot.start t ≡ c → (display ≤ x.start) ⊎ CutFacts source x → IsLike source (shown_slot leaf texts links (cut_slot text t slot)) (row.ItemSlot (item x.kind (max x.start display) x.end))
        go false f can =
            let l : t ≤ slot.start = grind (arith) in
            let a = good.some in
            let b = good.within in
            let low = late slot.start l (omega (arith, a, b)) in
            subst (λ s. IsLike source (shown_slot leaf texts links s) (row.ItemSlot (item x.kind (max x.start display) x.end))) (sym (kept f))
            (subst (λ n. IsLike source (shown_slot leaf texts links slot) (row.ItemSlot (item x.kind n x.end))) (let q : x.start ≡ max x.start display = omega (arith, low, first) in q) h)
        go true f (inl le) = absurd (let l : slot.start < t = grind (arith) in let a = early slot.start l in omega (arith, a, le, first))
        go true f (inr facts) =
            let l : slot.start < t = grind (arith) in
            let a = early slot.start l in
            let lt : x.start < display = omega (arith, a, first) in
            let past : display < x.end = grind (arith) in
            subst (λ n. IsLike source (shown_slot leaf texts links (cut_slot text t slot)) (row.ItemSlot (item x.kind n x.end))) (let q : display ≡ max x.start display = omega (arith, lt) in q) (cuts x h l past facts)
    shown-cut (row.BeginSlot tag start end) h e can = go (nat_lt slot.start t) refl
      where
        b : IsBegin slot slot.kind tag start end
        b = begin-start slot slot.kind tag start end h

        like-begin : (x y : row.Slot) (n m : ℕ) → n ≡ m → row.BeginSlot tag n end ≡ x → IsLike source x (row.BeginSlot tag m end)
        like-begin (row.BeginSlot tag1 start1 end1) y n m e f = ap (λ k. row.BeginSlot tag k end) (sym e) ∙ f
        like-begin _ y n m e f = absurd (let z : ⊥ = cc in z)

        go : (c : Bool) → nat_lt slot.start t ≡ c → IsLike source (shown_slot leaf texts links (cut_slot text t slot)) (row.BeginSlot tag (max start display) end)
        go false f =
            let l : t ≤ slot.start = grind (arith) in
            let a = good.some in
            let w = good.within in
            let low = late slot.start l (omega (arith, a, w)) in
            let first = b.first in
            subst (λ s. IsLike source (shown_slot leaf texts links s) (row.BeginSlot tag (max start display) end)) (sym (kept f))
            (like-begin (shown_slot leaf texts links slot) row.EndSlot start (max start display) (let q : start ≡ max start display = omega (arith, low, first) in q) b.begins)
        go true f =
            let l : slot.start < t = grind (arith) in
            let a = early slot.start l in
            let first = b.first in
            subst (λ s. IsLike source (shown_slot leaf texts links s) (row.BeginSlot tag (max start display) end)) (sym (made f))
            (like-begin (shown_slot leaf texts links (record { kind = cut_kind text slot.start slot.end slot.kind; start = t; end = slot.end })) row.EndSlot display (max start display) (let q : display ≡ max start display = omega (arith, a, first) in q) (b.cut text))
    shown-cut row.EndSlot h e can = absurd can
    shown-cut row.NothingSlot h e can = absurd can

  -- ## The slots that are left

  module _ (text : List ℕ) (front mid rest : List Slot) (rows : List row.Slot) (like : AreLike source (shown_slots leaf texts links (front ++ (mid ++ rest))) rows) (past : Past mid) where
    abbrev L : List Slot → List row.Slot
    L slots = shown_slots leaf texts links slots

    abbrev n : ℕ
    n = length front

    abbrev front_rows : List row.Slot
    front_rows = take n rows

    abbrev mid_rows : List row.Slot
    mid_rows = take (length mid) (drop n rows)

    abbrev rest_rows : List row.Slot
    rest_rows = drop (length mid) (drop n rows)

    front-like : AreLike source (L front) front_rows
    front-like =
        let s = like-split source (L front) (L (mid ++ rest)) rows (subst (λ l. AreLike source l rows) (map-append (shown_slot leaf texts links) front (mid ++ rest)) like) in
        subst (λ k. AreLike source (L front) (take k rows)) (length-map front (shown_slot leaf texts links)) s.0

    following-like : AreLike source (L mid ++ L rest) (drop n rows)
    following-like =
        let s = like-split source (L front) (L (mid ++ rest)) rows (subst (λ l. AreLike source l rows) (map-append (shown_slot leaf texts links) front (mid ++ rest)) like) in
        subst (λ l. AreLike source l (drop n rows)) (map-append (shown_slot leaf texts links) mid rest) (subst (λ k. AreLike source (L (mid ++ rest)) (drop k rows)) (length-map front (shown_slot leaf texts links)) s.1)

    mid-rows-like : AreLike source (L mid) mid_rows
    mid-rows-like = subst (λ k. AreLike source (L mid) (take k (drop n rows))) (length-map mid (shown_slot leaf texts links)) (like-split source (L mid) (L rest) (drop n rows) following-like).0

    rest-rows-like : AreLike source (L rest) rest_rows
    rest-rows-like = subst (λ k. AreLike source (L rest) (drop k (drop n rows))) (length-map mid (shown_slot leaf texts links)) (like-split source (L mid) (L rest) (drop n rows) following-like).1

    parted : mid_rows ++ rest_rows ≡ drop n rows
    parted = take-append-drop (length mid) (drop n rows)

    mid-count : length mid_rows ≡ length mid
    mid-count = sym (like-length source (L mid) mid_rows mid-rows-like) ∙ length-map mid (shown_slot leaf texts links)

    shown-parts : (shown_from display (drop n rows) ≡ nothings (length mid) (shown_from display rest_rows)) × (hidden_by display (drop n rows) ≡ length mid + hidden_by display rest_rows)
    shown-parts =
        let s = shown-hidden display mid_rows rest_rows (mid-ends mid mid_rows mid-rows-like past) in (
          ap (shown_from display) (sym parted) ∙ s.0 ∙ ap (λ k. nothings k (shown_from display rest_rows)) mid-count,
          ap (hidden_by display) (sym parted) ∙ s.1 ∙ ap (λ k. k + hidden_by display rest_rows) mid-count,
        )

    -- the first slot that ends after the offset, if there is one
    abbrev pub FirstShown : List Slot → Type 0
    FirstShown [] = Unit {0}
    FirstShown (slot ∷ slots) =
        IsGood slot × (ends_by t slot ≡ false) × (t < slot.end)
        × ((x : Item) → IsLike source (shown_slot leaf texts links slot) (row.ItemSlot x) → slot.start < t → display < x.end → CutFacts source x
        → IsLike source (shown_slot leaf texts links (cut_slot text t slot)) (row.ItemSlot (item x.kind display x.end)))

    record RestShown (others : List Slot) (r : List row.Slot) : Type 0 where
      none : hidden_by display r ≡ 0
      others_like : AreLike source (L (cut_at text t 0 others)) (shown_from display r)

    rest-shown : (others : List Slot) (r : List row.Slot) → AreLike source (L others) r → FirstShown others → (0 < length r → CanBeCut source display (get_or r 0 row.NothingSlot)) → RestShown others r
    rest-shown [] r h f can = record { none = ap (hidden_by display) h; others_like = ap (shown_from display) h }
    rest-shown (slot ∷ slots) [] h f can = absurd h
    rest-shown (slot ∷ slots) (y ∷ r) h f can =
        let e : row_shows.ends_by display y ≡ false = ends-same slot y f.0 h.0 ∙ f.1 in
        let k = shown-kept display y r e in
        record {
          none = k.1;
          others_like = subst (λ l. AreLike source (L (cut_slot text t slot ∷ slots)) l) (sym k.0) (shown-cut text slot f.0 f.2 f.3 y h.0 e (can (omega arith)), h.1);
        }

    -- the text of no bytes
    module _ (close start : ℕ) (within : close < length (text_of leaf)) (low : t ≤ close) (starts : start ≡ place_of leaf close) where
      abbrev name : List Slot
      name = if t == close then record { kind = kind.Empty; start = close; end = close + 1 } ∷ [] else []

      empty-like : AreLike source (L name) (empty_text display start)
      empty-like = go (cases_lt t close)
        where
          both : (a b : Bool) → a ≡ b → (a ≡ true → place_of leaf close ≡ display)
              → AreLike source (L (if a then record { kind = kind.Empty; start = close; end = close + 1 } ∷ [] else [])) (if b then row.ItemSlot (item items.Own display display) ∷ [] else [])
          both true true e f =
              (record { start = f refl; end = f refl; event = ap event.Text (sym (ap (λ n. take n (drop display source)) (let q : display - display ≡ 0 = omega arith in q))); lines = λ q. refl }, refl)
          both false false e f = refl
          both true false e f = absurd (let z : ⊥ = cc in z)
          both false true e f = absurd (let z : ⊥ = cc in z)

          differ : (a b : ℕ) → a < b → (a == b) ≡ false
          differ a b lt = by (a == b) refl
            where
              by : (z : Bool) → (a == b) ≡ z → z ≡ false
              by true e = absurd (let q = eqb-true a b e in omega (arith, q, lt))
              by false e = refl

          go : (t < close) ⊎ (close ≤ t) → AreLike source (L name) (empty_text display start)
          go (inl lt) =
              let a = order t close lt within in
              both (t == close) (display == start) (differ t close lt ∙ sym (differ display start (omega (arith, a, is, starts)))) (λ e. absurd (let q = eqb-true t close e in omega (arith, q, lt)))
          go (inr ge) =
              let q : t ≡ close = omega (arith, ge, low) in
              let d : display ≡ start = sym is ∙ ap (place_of leaf) q ∙ sym starts in
              both (t == close) (display == start) (eq-eqb t close q ∙ sym (eq-eqb display start d)) (λ e. sym starts ∙ sym d)

      pub shows-left : (at : ℕ) → at ≡ n + length mid → FirstShown rest → IsCutThere source n display rows
          → ShowsLike source n display start at rows (L (front ++ ((map hidden mid ++ cut_at text t 0 rest) ++ name)))
      shows-left at at_is first can =
          let r = rest-shown rest rest_rows rest-rows-like first cut-there in
          let s = shown-parts in
          let none = r.none in
          let count = s.1 in
          let hid : AreLike source (L (map hidden mid)) (nothings (length mid) []) = mid-like mid in
          let all : AreLike source (L (map hidden mid ++ cut_at text t 0 rest)) (shown_from display (drop n rows)) =
          subst (λ l. AreLike source l (shown_from display (drop n rows))) (sym (map-append (shown_slot leaf texts links) (map hidden mid) (cut_at text t 0 rest)))
          (subst (λ l. AreLike source (L (map hidden mid) ++ L (cut_at text t 0 rest)) l) (nothings-append (length mid) [] (shown_from display rest_rows) ∙ sym s.0)
          (like-both source (L (map hidden mid)) (nothings (length mid) []) (L (cut_at text t 0 rest)) (shown_from display rest_rows) hid r.others_like)) in
          record {
            first = at_is ∙ ap (λ k. n + k) (let q : length mid ≡ hidden_by display (drop n rows) = omega (arith, none, count) in q);
            like =
                subst (λ l. AreLike source l (display_slots n display start rows)) (sym (map-append (shown_slot leaf texts links) front ((map hidden mid ++ cut_at text t 0 rest) ++ name)))
                (like-both source (L front) front_rows (L ((map hidden mid ++ cut_at text t 0 rest) ++ name)) (shown_from display (drop n rows) ++ empty_text display start) front-like
                (subst (λ l. AreLike source l (shown_from display (drop n rows) ++ empty_text display start)) (sym (map-append (shown_slot leaf texts links) (map hidden mid ++ cut_at text t 0 rest) name))
                (like-both source (L (map hidden mid ++ cut_at text t 0 rest)) (shown_from display (drop n rows)) (L name) (empty_text display start) all empty-like)));
          }
        where
          cut-there : 0 < length rest_rows → CanBeCut source display (get_or rest_rows 0 row.NothingSlot)
          cut-there lt = go rest rest_rows rest-rows-like first lt refl
            where
              go : (others : List Slot) (r : List row.Slot) → AreLike source (L others) r → FirstShown others → 0 < length r → r ≡ rest_rows → CanBeCut source display (get_or r 0 row.NothingSlot)
              go [] r h f lt e = absurd (let z = ap length h in omega (arith, z, lt))
              go (slot ∷ slots) [] h f lt e = absurd h
              go (slot ∷ slots) (y ∷ r) h f lt e =
                  let none : hidden_by display (y ∷ r) ≡ 0 = (shown-kept display y r (ends-same slot y f.0 h.0 ∙ f.1)).1 in
                  let s = shown-parts in
                  let count : hidden_by display (drop n rows) ≡ length mid = s.1 ∙ ap (λ l. length mid + hidden_by display l) (sym e) ∙ ap (λ k. length mid + k) none ∙ (let q : length mid + 0 ≡ length mid = omega arith in q) in
                  let size = length-append mid_rows rest_rows in
                  let all = ap length parted in
                  let long = ap length e in
                  let here : get_or (drop n rows) (hidden_by display (drop n rows)) row.NothingSlot ≡ y =
                  ap (λ l. get_or l (hidden_by display (drop n rows)) row.NothingSlot) (sym parted ∙ ap (λ l. mid_rows ++ l) (sym e)) ∙ get_or_at mid_rows y r row.NothingSlot (hidden_by display (drop n rows)) (mid-count ∙ sym count) in
                  subst (CanBeCut source display) here (can (let m = mid-count in omega (arith, count, size, all, long, m)))
