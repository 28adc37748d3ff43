-- If the slots of a row that end by an offset become Nothing, the row is that of the siblings that a wikilink shows from this offset on.
use Rattle.std.specs.Prelude.{nat_le, if◌then◌else◌, max, get_or}
use Rattle.std.proofs.Common.{◌≡◌, Bool, true, false, ℕ, zero, suc, ◌+◌, ◌<◌, ◌≤◌, List, [], ◌∷◌, ◌++◌, length, refl, sym, ap, ◌∙◌, subst, arith, append_assoc, length-append, rules}
use Rattle.std.proofs.lemmas.List.{get_or-append-add}
use Rattle.cmark_grammar.specs.Emphasis.{Run}
use Rattle.cmark_grammar.specs.Items.{ItemKind, Quoted, Delimiters, FootnoteReference, Item}
use Rattle.cmark_grammar.specs.Quotes.{Quote}
use Rattle.cmark_grammar.specs.Siblings.{Inline, Nil, Single, Around, item, quote_then, quotes_of, from_place}
use Rattle.cmark_grammar.specs.Tag.{Tag}
use Rattle.cmark_inline_model.specs.Displays.{ends_by, begun_from, shown_from, hidden_by, CutFacts, CanBeCut}
use Rattle.cmark_inline_model.specs.RowParts.{run_before, runs_in, bytes_in}
use Rattle.cmark_inline_model.specs.SlotRows.{Slot, ItemSlot, BeginSlot, EndSlot, NothingSlot, seen, slots_of, run_slots, run_places, LaysItem, LaysOut}
use Rattle.cmark_inline_model.proofs.PartOrders.{FreeBy, IsFree}
use Rattle.cmark_inline_model.proofs.RowParts.{run-slots-grow, run-places-grow, length-run-slots, length-run-places}
use Rattle.cmark_inline_model.proofs.SpanRanges.{InlineOrder, SiblingOrder, inline-up, begun-up}

-- ## Slots that become nothing

abbrev pub nothings : ℕ → List Slot → List Slot
nothings zero rest = rest
nothings (suc n) rest = NothingSlot ∷ nothings n rest

pub nothings-both : (n m : ℕ) (rest : List Slot) → nothings n (nothings m rest) ≡ nothings (n + m) rest
nothings-both zero m rest = ap (λ k. nothings k rest) (let e : m ≡ 0 + m = omega arith in e)
nothings-both (suc n) m rest = ap (λ l. NothingSlot ∷ l) (nothings-both n m rest) ∙ ap (λ k. nothings k rest) (let e : suc (n + m) ≡ suc n + m = omega arith in e)

pub nothings-length : (n : ℕ) (rest : List Slot) → length (nothings n rest) ≡ n + length rest
nothings-length zero rest = omega arith
nothings-length (suc n) rest = let i = nothings-length n rest in omega arith

pub nothings-append : (n : ℕ) (rest more : List Slot) → nothings n rest ++ more ≡ nothings n (rest ++ more)
nothings-append zero rest more = refl
nothings-append (suc n) rest more = ap (λ l. NothingSlot ∷ l) (nothings-append n rest more)

pub nothings-seen : (n : ℕ) (rest : List Slot) → seen (nothings n rest) ≡ seen rest
nothings-seen zero rest = refl
nothings-seen (suc n) rest = nothings-seen n rest

abbrev pub EndBy : (place : ℕ) → List Slot → Type 0
EndBy place [] = Unit {0}
EndBy place (slot ∷ slots) = (ends_by place slot ≡ true) × EndBy place slots

end-by-append : (place : ℕ) (a b : List Slot) → EndBy place a → EndBy place b → EndBy place (a ++ b)
end-by-append place [] b h k = k
end-by-append place (s ∷ a) b h k = (h.0, end-by-append place a b h.1 k)

pub shown-hidden : (place : ℕ) (front more : List Slot) → EndBy place front
    → (shown_from place (front ++ more) ≡ nothings (length front) (shown_from place more)) × (hidden_by place (front ++ more) ≡ length front + hidden_by place more)
shown-hidden place [] more h = (refl, omega arith)
shown-hidden place (s ∷ front) more h = grind (arith, shown-hidden place front more h.1)

pub shown-kept : (place : ℕ) (slot : Slot) (slots : List Slot) → ends_by place slot ≡ false
    → (shown_from place (slot ∷ slots) ≡ begun_from place slot ∷ slots) × (hidden_by place (slot ∷ slots) ≡ 0)
shown-kept place slot slots e = grind arith

-- ## Places before one, and from one on

abbrev pub Below : (at : ℕ) → List ℕ → Type 0
Below at [] = Unit {0}
Below at (k ∷ ks) = (k < at) × Below at ks

abbrev pub From : (at : ℕ) → List ℕ → Type 0
From at [] = Unit {0}
From at (k ∷ ks) = (at ≤ k) × From at ks

below-more : (at more : ℕ) (ks : List ℕ) → at ≤ more → Below at ks → Below more ks
below-more at more [] e h = tt
below-more at more (k ∷ ks) e h = ((let a = h.0 in omega arith), below-more at more ks e h.1)

below-both : (at : ℕ) (ks ls : List ℕ) → Below at ks → Below at ls → Below at (ks ++ ls)
below-both at [] ls h k = k
below-both at (x ∷ ks) ls h k = (h.0, below-both at ks ls h.1 k)

from-less : (less at : ℕ) (ks : List ℕ) → less ≤ at → From at ks → From less ks
from-less less at [] e h = tt
from-less less at (k ∷ ks) e h = ((let a = h.0 in omega arith), from-less less at ks e h.1)

places-below : (at size : ℕ) → Below (at + size) (run_places at size [])
places-below at zero = tt
places-below at (suc size) = (omega arith, subst (λ n. Below n (run_places (suc at) size [])) (let e : suc at + size ≡ at + suc size = omega arith in e) (places-below (suc at) size))

places-from : (less at size : ℕ) (others : List ℕ) → less ≤ at → From less others → From less (run_places at size others)
places-from less at zero others e h = h
places-from less at (suc size) others e h = (e, places-from less (suc at) size others (omega arith) h)

-- the offsets of a row are in order
abbrev StandFrom : Inline → Type 0
StandFrom x = (at : ℕ) (s : List Slot) (b q : List ℕ) → LaysOut at x s b q → From at b × From at q

item-from : (kind : ItemKind) (x : Item) (after : Inline) → StandFrom after → (at : ℕ) (s : List Slot) (b q : List ℕ) → LaysItem kind x (λ i j k l. LaysOut i after j k l) at s b q → From at b × From at q
item-from kind x after ih at s b q h = grind (arith, places-from, from-less)

lays-from : (x : Inline) → StandFrom x
lays-from Nil at s b q h = (subst (From at) (sym h.1) tt, subst (From at) (sym h.2) tt)
lays-from (Single x after) at s b q h = item-from x.kind x after (lays-from after) at s b q h
lays-from (Around tag start end inside after) at s b q h = search (rules, from-less, lays-from after (at + (length h.0 + 2)) h.1 b q h.4)

-- ## Siblings

-- a run has the length of its range, which is not empty
abbrev pub ExactBy : ItemKind → (start end : ℕ) → Type 0
ExactBy (Delimiters run) start end = (end ≡ start + run.run_length) × (0 < run.run_length)
ExactBy _ start end = Unit {0}

abbrev pub AreExact : Inline → Type 0
AreExact Nil = Unit {0}
AreExact (Single x after) = ExactBy x.kind x.start x.end × AreExact after
AreExact (Around tag start end inside after) = AreExact after

-- the rest of a row, with the runs and quotes that are hidden
pub record ShowsRow (place at : ℕ) (siblings : Inline) (row : List Slot) (bytes quotes : List ℕ) : Type 0 where
  pub rest : List Slot
  pub shown : shown_from place row ≡ nothings (hidden_by place row) rest
  pub front_bytes : List ℕ
  pub later_bytes : List ℕ
  pub bytes_are : bytes ≡ front_bytes ++ later_bytes
  pub bytes_before : Below (at + hidden_by place row) front_bytes
  pub bytes_after : From (at + hidden_by place row) later_bytes
  pub front_quotes : List ℕ
  pub later_quotes : List ℕ
  pub quotes_are : quotes ≡ front_quotes ++ later_quotes
  pub quotes_before : Below (at + hidden_by place row) front_quotes
  pub quotes_after : From (at + hidden_by place row) later_quotes
  pub front_runs : List Run
  pub runs_are : runs_in siblings ≡ front_runs ++ runs_in (from_place place siblings)
  pub bytes_count : length front_bytes ≡ bytes_in front_runs
  pub front_quoted : List Quote
  pub quoted_are : quotes_of siblings ≡ front_quoted ++ quotes_of (from_place place siblings)
  pub quotes_count : length front_quotes ≡ length front_quoted
  pub laid : LaysOut (at + hidden_by place row) (from_place place siblings) rest later_bytes later_quotes

-- a piece in front that is hidden
record Hidden (place at : ℕ) (row : List Slot) (bytes quotes : List ℕ) (runs : List Run) (quoted : List Quote) (After : ℕ → List Slot → List ℕ → List ℕ → Type 0) : Type 0 where
  front : List Slot
  more : List Slot
  row_is : row ≡ front ++ more
  ends : EndBy place front
  front_bytes : List ℕ
  more_bytes : List ℕ
  bytes_are : bytes ≡ front_bytes ++ more_bytes
  bytes_before : Below (at + length front) front_bytes
  front_quotes : List ℕ
  more_quotes : List ℕ
  quotes_are : quotes ≡ front_quotes ++ more_quotes
  quotes_before : Below (at + length front) front_quotes
  bytes_count : length front_bytes ≡ bytes_in runs
  quotes_count : length front_quotes ≡ length quoted
  after : After (at + length front) more more_bytes more_quotes

bytes-in-both : (a b : List Run) → bytes_in (a ++ b) ≡ bytes_in a + bytes_in b
bytes-in-both [] b = omega arith
bytes-in-both (r ∷ a) b = let i = bytes-in-both a b in omega arith

following-hidden : (place at : ℕ) (siblings after : Inline) (row : List Slot) (bytes quotes : List ℕ) (runs : List Run) (quoted : List Quote)
    → (h : Hidden place at row bytes quotes runs quoted (λ i j k l. LaysOut i after j k l)) → from_place place siblings ≡ from_place place after → runs_in siblings ≡ runs ++ runs_in after → quotes_of siblings ≡ quoted ++ quotes_of after
    → ShowsRow place (at + length h.front) after h.more h.more_bytes h.more_quotes → ShowsRow place at siblings row bytes quotes
following-hidden place at siblings after row bytes quotes runs quoted h same runs_are quoted_are i =
    let s = shown-hidden place h.front h.more h.ends in
    let count : hidden_by place row ≡ length h.front + hidden_by place h.more = ap (hidden_by place) h.row_is ∙ s.1 in
    let n : (at + length h.front) + hidden_by place h.more ≡ at + hidden_by place row = omega arith in
    let lb = length-append h.front_bytes i.front_bytes in
    let lq = length-append h.front_quotes i.front_quotes in
    let lr = bytes-in-both runs i.front_runs in
    let lt = length-append quoted i.front_quoted in
    let cb = h.bytes_count in let cq = h.quotes_count in let ib = i.bytes_count in let iq = i.quotes_count in
    record {
      rest = i.rest;
      shown = ap (shown_from place) h.row_is ∙ s.0 ∙ ap (nothings (length h.front)) i.shown ∙ nothings-both (length h.front) (hidden_by place h.more) i.rest ∙ ap (λ m. nothings m i.rest) (sym count);
      front_bytes = h.front_bytes ++ i.front_bytes;
      later_bytes = i.later_bytes;
      bytes_are = h.bytes_are ∙ ap (λ l. h.front_bytes ++ l) i.bytes_are ∙ sym (append_assoc h.front_bytes i.front_bytes i.later_bytes);
      bytes_before = subst (λ m. Below m (h.front_bytes ++ i.front_bytes)) n
          (below-both ((at + length h.front) + hidden_by place h.more) h.front_bytes i.front_bytes (below-more (at + length h.front) ((at + length h.front) + hidden_by place h.more) h.front_bytes (omega arith) h.bytes_before) i.bytes_before);
      bytes_after = subst (λ m. From m i.later_bytes) n i.bytes_after;
      front_quotes = h.front_quotes ++ i.front_quotes;
      later_quotes = i.later_quotes;
      quotes_are = h.quotes_are ∙ ap (λ l. h.front_quotes ++ l) i.quotes_are ∙ sym (append_assoc h.front_quotes i.front_quotes i.later_quotes);
      quotes_before = subst (λ m. Below m (h.front_quotes ++ i.front_quotes)) n
          (below-both ((at + length h.front) + hidden_by place h.more) h.front_quotes i.front_quotes (below-more (at + length h.front) ((at + length h.front) + hidden_by place h.more) h.front_quotes (omega arith) h.quotes_before) i.quotes_before);
      quotes_after = subst (λ m. From m i.later_quotes) n i.quotes_after;
      front_runs = runs ++ i.front_runs;
      runs_are = runs_are ∙ ap (λ l. runs ++ l) i.runs_are ∙ sym (append_assoc runs i.front_runs (runs_in (from_place place after))) ∙ ap (λ l. (runs ++ i.front_runs) ++ runs_in l) (sym same);
      bytes_count = omega arith;
      front_quoted = quoted ++ i.front_quoted;
      quoted_are = quoted_are ∙ ap (λ l. quoted ++ l) i.quoted_are ∙ sym (append_assoc quoted i.front_quoted (quotes_of (from_place place after))) ∙ ap (λ l. (quoted ++ i.front_quoted) ++ quotes_of l) (sym same);
      quotes_count = omega arith;
      laid = subst (λ m. LaysOut m (from_place place siblings) i.rest i.later_bytes i.later_quotes) n (subst (λ l. LaysOut ((at + length h.front) + hidden_by place h.more) l i.rest i.later_bytes i.later_quotes) (sym same) i.laid);
    }

-- a row all of whose slots are kept
all-kept : (place at : ℕ) (siblings : Inline) (row : List Slot) (bytes quotes : List ℕ) → hidden_by place row ≡ 0 → LaysOut at siblings row bytes quotes
    → runs_in (from_place place siblings) ≡ runs_in siblings → quotes_of (from_place place siblings) ≡ quotes_of siblings → LaysOut at (from_place place siblings) (shown_from place row) bytes quotes
    → ShowsRow place at siblings row bytes quotes
all-kept place at siblings row bytes quotes none laid runs quoted kept =
    let f = lays-from siblings at row bytes quotes laid in
    let n : at ≡ at + hidden_by place row = omega arith in
    record {
      rest = shown_from place row;
      shown = ap (λ m. nothings m (shown_from place row)) (sym none);
      front_bytes = [];
      later_bytes = bytes;
      bytes_are = refl;
      bytes_before = tt;
      bytes_after = subst (λ m. From m bytes) n f.0;
      front_quotes = [];
      later_quotes = quotes;
      quotes_are = refl;
      quotes_before = tt;
      quotes_after = subst (λ m. From m quotes) n f.1;
      front_runs = [];
      runs_are = sym runs;
      bytes_count = refl;
      front_quoted = [];
      quoted_are = sym quoted;
      quotes_count = refl;
      laid = subst (λ m. LaysOut m (from_place place siblings) (shown_from place row) bytes quotes) n kept;
    }

-- ## Items

run-ends : (place start size : ℕ) → start + size ≤ place → EndBy place (run_slots start size [])
run-ends place start zero e = tt
run-ends place start (suc size) e = ((let q : nat_le (suc start) place ≡ true = grind (arith) in q), run-ends place (suc start) size (omega arith))

unseen-ends : (place : ℕ) (slots : List Slot) → seen slots ≡ [] → EndBy place slots
unseen-ends place [] h = tt
unseen-ends place (ItemSlot x ∷ slots) h = absurd (let n = ap length h in omega arith)
unseen-ends place (BeginSlot tag start end ∷ slots) h = absurd (let n = ap length h in omega arith)
unseen-ends place (EndSlot ∷ slots) h = absurd (let n = ap length h in omega arith)
unseen-ends place (NothingSlot ∷ slots) h = (refl, unseen-ends place slots h)

-- the runs and quotes that an item is
abbrev run_of : ItemKind → List Run
run_of (Delimiters run) = run ∷ []
run_of _ = []

abbrev quote_of : ItemKind → List Quote
quote_of (Quoted quote) = quote ∷ []
quote_of _ = []

run-front : (kind : ItemKind) (runs : List Run) → run_before kind runs ≡ run_of kind ++ runs
run-front (Delimiters run) runs = refl
run-front kind runs = refl

quote-front : (kind : ItemKind) (quotes : List Quote) → quote_then kind quotes ≡ quote_of kind ++ quotes
quote-front (Quoted quote) quotes = refl
quote-front kind quotes = refl

hidden-item : (kind : ItemKind) (x : Item) (place : ℕ) (After : ℕ → List Slot → List ℕ → List ℕ → Type 0) → nat_le x.end place ≡ true → ExactBy kind x.start x.end → (at : ℕ) (s : List Slot) (b q : List ℕ)
    → LaysItem kind x After at s b q → Hidden place at s b q (run_of kind) (quote_of kind) After
hidden-item (Delimiters run) x place After le ex at s b q h =
    let n = length-run-slots x.start run.run_length [] in
    let m = length-run-places at run.run_length [] in
    let l : x.end ≤ place = grind (arith) in
    let e = ex.0 in
    let size : length (run_slots x.start run.run_length []) ≡ run.run_length = omega arith in
    record {
      front = run_slots x.start run.run_length [];
      more = h.0;
      row_is = h.2 ∙ sym (run-slots-grow x.start run.run_length [] h.0);
      ends = run-ends place x.start run.run_length (omega arith);
      front_bytes = run_places at run.run_length [];
      more_bytes = h.1;
      bytes_are = h.3 ∙ sym (run-places-grow at run.run_length [] h.1);
      bytes_before = subst (λ k. Below (at + k) (run_places at run.run_length [])) (sym size) (places-below at run.run_length);
      front_quotes = [];
      more_quotes = q;
      quotes_are = refl;
      quotes_before = tt;
      bytes_count = omega arith;
      quotes_count = refl;
      after = subst (λ k. After (at + k) h.0 h.1 q) (sym size) h.4;
    }
hidden-item (Quoted quote) x place After le ex at s b q h = record {
  front = ItemSlot x ∷ [];
  more = h.0;
  row_is = h.2;
  ends = (le, tt);
  front_bytes = [];
  more_bytes = b;
  bytes_are = refl;
  bytes_before = tt;
  front_quotes = at ∷ [];
  more_quotes = h.1;
  quotes_are = h.3;
  quotes_before = (omega arith, tt);
  bytes_count = refl;
  quotes_count = refl;
  after = subst (λ k. After k h.0 b h.1) (let e : suc at ≡ at + 1 = omega arith in e) h.4;
}
hidden-item (FootnoteReference label) x place After le ex at s b q h = record {
  front = ItemSlot x ∷ h.0;
  more = h.1;
  row_is = h.3;
  ends = (le, unseen-ends place h.0 h.2);
  front_bytes = [];
  more_bytes = b;
  bytes_are = refl;
  bytes_before = tt;
  front_quotes = [];
  more_quotes = q;
  quotes_are = refl;
  quotes_before = tt;
  bytes_count = refl;
  quotes_count = refl;
  after = subst (λ k. After k h.1 b q) (let e : at + (length h.0 + 1) ≡ at + suc (length h.0) = omega arith in e) h.4;
}
hidden-item kind x place After le ex at s b q h = record {
  front = ItemSlot x ∷ [];
  more = h.0;
  row_is = h.1;
  ends = (le, tt);
  front_bytes = [];
  more_bytes = b;
  bytes_are = refl;
  bytes_before = tt;
  front_quotes = [];
  more_quotes = q;
  quotes_are = refl;
  quotes_before = tt;
  bytes_count = refl;
  quotes_count = refl;
  after = subst (λ k. After k h.0 b q) (let e : suc at ≡ at + 1 = omega arith in e) h.2;
}

-- the item that is the first to be shown
abbrev from_there : (place : ℕ) → Item → Item
from_there place x = item x.kind (max x.start place) x.end

abbrev KeptItem : (kind : ItemKind) (x : Item) (place : ℕ) (After : ℕ → List Slot → List ℕ → List ℕ → Type 0) (at : ℕ) (s : List Slot) (b q : List ℕ) → Type 0
KeptItem kind x place After at s b q = LaysItem kind (from_there place x) After at (shown_from place s) b q × (hidden_by place s ≡ 0)

kept-run : (run : Run) (x : Item) (place : ℕ) (After : ℕ → List Slot → List ℕ → List ℕ → Type 0) → place ≤ x.start → 0 < run.run_length → (at : ℕ) (s : List Slot) (b q : List ℕ) → LaysItem (Delimiters run) x After at s b q
    → KeptItem (Delimiters run) x place After at s b q
kept-run run x place After le some at s b q h = grind (arith, shown-kept)

kept-item : (kind : ItemKind) (x : Item) (place : ℕ) (After : ℕ → List Slot → List ℕ → List ℕ → Type 0) → nat_le x.end place ≡ false → FreeBy kind place x.start x.end → ExactBy kind x.start x.end
    → (at : ℕ) (s : List Slot) (b q : List ℕ) → LaysItem kind x After at s b q → KeptItem kind x place After at s b q
kept-item (Delimiters run) x place After le free ex at s b q h =
    let l : place < x.end = grind (arith) in
    kept-run run x place After (early (nat_le place x.start) refl) ex.1 at s b q h
  where
    early : (c : Bool) → nat_le place x.start ≡ c → place ≤ x.start
    early true e = grind (arith)
    early false e = let l : place < x.end = grind (arith) in absurd (free (let r : x.start < place = grind (arith) in r) (omega arith))
kept-item (Quoted quote) x place After le free ex at s b q h = grind (arith, shown-kept)
kept-item (FootnoteReference label) x place After le free ex at s b q h = grind (arith, shown-kept)
kept-item kind x place After le free ex at s b q h = grind (arith, shown-kept)

-- ## Elements

-- if the slots other than Nothing end by an offset, all slots do
slots-end : (place : ℕ) (own : List Slot) → EndBy place (seen own) → EndBy place own
slots-end place [] h = tt
slots-end place (ItemSlot x ∷ slots) h = (h.0, slots-end place slots h.1)
slots-end place (BeginSlot tag start end ∷ slots) h = (h.0, slots-end place slots h.1)
slots-end place (EndSlot ∷ slots) h = (h.0, slots-end place slots h.1)
slots-end place (NothingSlot ∷ slots) h = (refl, slots-end place slots h)

module _ (Pipe : ℕ → Type 0) where
  spans-end : (place : ℕ) (spans : Inline) (from to : ℕ) → InlineOrder Pipe from spans to → to ≤ place → EndBy place (slots_of spans)
  spans-end place Nil from to h e = tt
  spans-end place (Single x after) from to h e = grind (arith, inline-up, spans-end place after x.end to h.2 e)
  spans-end place (Around tag start end inside after) from to h e =
      let u = inline-up Pipe end after to h.5 in (
        (let q : nat_le end place ≡ true = grind (arith) in q),
        end-by-append place (slots_of inside) (EndSlot ∷ slots_of after) (spans-end place inside h.0 end h.4 (omega arith)) (refl, spans-end place after end to h.5 e),
      )

  hidden-element : (place at : ℕ) (tag : Tag) (start end : ℕ) (inside after : Inline) (written : ℕ) → InlineOrder Pipe written inside end → nat_le end place ≡ true → (s : List Slot) (b q : List ℕ) → LaysOut at (Around tag start end inside after) s b q
      → Hidden place at s b q [] [] (λ i j k l. LaysOut i after j k l)
  hidden-element place at tag start end inside after written order le s b q h =
      let l : end ≤ place = grind (arith) in
      let n = length-append h.0 (EndSlot ∷ []) in
      let inner : EndBy place h.0 = slots-end place h.0 (subst (EndBy place) (sym h.2) (spans-end place inside written end order l)) in
      record {
        front = BeginSlot tag start end ∷ (h.0 ++ (EndSlot ∷ []));
        more = h.1;
        row_is = h.3 ∙ ap (λ l. BeginSlot tag start end ∷ l) (sym (append_assoc h.0 (EndSlot ∷ []) h.1));
        ends = (le, end-by-append place h.0 (EndSlot ∷ []) inner (refl, tt));
        front_bytes = [];
        more_bytes = b;
        bytes_are = refl;
        bytes_before = tt;
        front_quotes = [];
        more_quotes = q;
        quotes_are = refl;
        quotes_before = tt;
        bytes_count = refl;
        quotes_count = refl;
        after = subst (λ k. LaysOut k after h.1 b q) (let e : at + (length h.0 + 2) ≡ at + suc (length (h.0 ++ (EndSlot ∷ []))) = omega arith in e) h.4;
      }

  -- ## Rows

  pub shows-row : (place : ℕ) (siblings : Inline) (from to : ℕ) → SiblingOrder Pipe from siblings to → IsFree place siblings → AreExact siblings
      → (at : ℕ) (s : List Slot) (b q : List ℕ) → LaysOut at siblings s b q → ShowsRow place at siblings s b q
  shows-row place Nil from to order free ex at s b q h = grind (arith, all-kept)
  shows-row place (Single x after) from to order free ex at s b q h =
      go (nat_le x.end place) refl (λ p. shows-row place after x.end to order.3 free.1 ex.1 (at + length p.front) p.more p.more_bytes p.more_quotes p.after)
    where
      cut : Bool → Inline
      cut c = if c then from_place place after else Single (from_there place x) after

      go : (c : Bool) → nat_le x.end place ≡ c
          → ((p : Hidden place at s b q (run_of x.kind) (quote_of x.kind) (λ i j k l. LaysOut i after j k l)) → ShowsRow place (at + length p.front) after p.more p.more_bytes p.more_quotes) → ShowsRow place at (Single x after) s b q
      go true e ih =
          let p = hidden-item x.kind x place (λ i j k l. LaysOut i after j k l) e ex.0 at s b q h in
          following-hidden place at (Single x after) after s b q (run_of x.kind) (quote_of x.kind) p (ap cut e) (run-front x.kind (runs_in after)) (quote-front x.kind (quotes_of after)) (ih p)
      go false e ih = grind (arith, kept-item, cut, all-kept)
  shows-row place (Around tag start end inside after) from to order free ex at s b q h =
      go (nat_le end place) refl (λ p. shows-row place after end to order.5 free ex (at + length p.front) p.more p.more_bytes p.more_quotes p.after)
    where
      cut : Bool → Inline
      cut c = if c then from_place place after else Around tag (max start place) end inside after

      go : (c : Bool) → nat_le end place ≡ c
          → ((p : Hidden place at s b q [] [] (λ i j k l. LaysOut i after j k l)) → ShowsRow place (at + length p.front) after p.more p.more_bytes p.more_quotes) → ShowsRow place at (Around tag start end inside after) s b q
      go true e ih =
          let p = hidden-element place at tag start end inside after order.0 order.4 e s b q h in
          following-hidden place at (Around tag start end inside after) after s b q [] [] p (ap cut e) refl refl (ih p)
      go false e ih = grind (arith, shown-kept, cut, all-kept)

  -- ## The first slot that is shown

  module _ (source : List ℕ) where
    -- an item can be cut if it is not an autolink and the offset is inside it
    abbrev pub IsKnown : (place : ℕ) → Item → Type 0
    IsKnown place x = x.start < place → place < x.end → CutFacts source x

    abbrev pub AreKnown : (place : ℕ) → Inline → Type 0
    AreKnown place Nil = Unit {0}
    AreKnown place (Single x after) = IsKnown place x × AreKnown place after
    AreKnown place (Around tag start end inside after) = AreKnown place after

    abbrev IsFirst : (place : ℕ) → List Slot → Type 0
    IsFirst place row = hidden_by place row < length row → CanBeCut source place (get_or row (hidden_by place row) NothingSlot)

    first-following : (place : ℕ) (front more row : List Slot) → row ≡ front ++ more → EndBy place front → IsFirst place more → IsFirst place row
    first-following place front more row e ends h = λ lt.
        let s = shown-hidden place front more ends in
        let n = ap (hidden_by place) e ∙ s.1 in
        let l = ap length e ∙ length-append front more in
        subst (CanBeCut source place) (sym (get_or-append-add front more (hidden_by place more) NothingSlot) ∙ ap (λ i. get_or (front ++ more) i NothingSlot) (sym n) ∙ ap (λ r. get_or r (hidden_by place row) NothingSlot) (sym e)) (h (omega arith))

    first-here : (place : ℕ) (slot : Slot) (more row : List Slot) → row ≡ slot ∷ more → hidden_by place row ≡ 0 → CanBeCut source place slot → IsFirst place row
    first-here place slot more row e n h = λ lt. subst (CanBeCut source place) (sym (ap (λ r. get_or r 0 NothingSlot) e) ∙ ap (λ i. get_or row i NothingSlot) (sym n)) h

    known-cut : (place : ℕ) (x : Item) → nat_le x.end place ≡ false → IsKnown place x → CanBeCut source place (ItemSlot x)
    known-cut place x e known = grind arith

    first-item : (kind : ItemKind) (x : Item) (place : ℕ) (After : ℕ → List Slot → List ℕ → List ℕ → Type 0) → nat_le x.end place ≡ false → FreeBy kind place x.start x.end → ExactBy kind x.start x.end → IsKnown place x
        → (at : ℕ) (s : List Slot) (b q : List ℕ) → LaysItem kind x After at s b q → IsFirst place s
    first-item (Delimiters run) x place After e free ex known at s b q h = go run.run_length refl
      where
        early : (c : Bool) → nat_le place x.start ≡ c → place ≤ x.start
        early true f = grind (arith)
        early false f = let l : place < x.end = grind (arith) in absurd (free (let r : x.start < place = grind (arith) in r) (omega arith))

        go : (n : ℕ) → run.run_length ≡ n → IsFirst place s
        go zero f = absurd (let z = ex.1 in omega arith)
        go (suc n) f = grind (arith, kept-run, early, first-here)
    first-item (Quoted quote) x place After e free ex known at s b q h = first-here place (ItemSlot x) h.0 s h.2 (ap (hidden_by place) h.2 ∙ (shown-kept place (ItemSlot x) h.0 e).1) (known-cut place x e known)
    first-item (FootnoteReference label) x place After e free ex known at s b q h = first-here place (ItemSlot x) (h.0 ++ h.1) s h.3 (ap (hidden_by place) h.3 ∙ (shown-kept place (ItemSlot x) (h.0 ++ h.1) e).1) (known-cut place x e known)
    first-item kind x place After e free ex known at s b q h = first-here place (ItemSlot x) h.0 s h.1 (ap (hidden_by place) h.1 ∙ (shown-kept place (ItemSlot x) h.0 e).1) (known-cut place x e known)

    pub first-shown : (place : ℕ) (siblings : Inline) (from to : ℕ) → SiblingOrder Pipe from siblings to → IsFree place siblings → AreExact siblings → AreKnown place siblings
        → (at : ℕ) (s : List Slot) (b q : List ℕ) → LaysOut at siblings s b q → IsFirst place s
    first-shown place Nil from to order free ex known at s b q h = λ lt. absurd (let n = ap length h.0 in omega arith)
    first-shown place (Single x after) from to order free ex known at s b q h =
        go (nat_le x.end place) refl (λ p. first-shown place after x.end to order.3 free.1 ex.1 known.1 (at + length p.front) p.more p.more_bytes p.more_quotes p.after)
      where
        go : (c : Bool) → nat_le x.end place ≡ c → ((p : Hidden place at s b q (run_of x.kind) (quote_of x.kind) (λ i j k l. LaysOut i after j k l)) → IsFirst place p.more) → IsFirst place s
        go true e ih =
            let p = hidden-item x.kind x place (λ i j k l. LaysOut i after j k l) e ex.0 at s b q h in
            first-following place p.front p.more s p.row_is p.ends (ih p)
        go false e ih = first-item x.kind x place (λ i j k l. LaysOut i after j k l) e free.0 ex.0 known.0 at s b q h
    first-shown place (Around tag start end inside after) from to order free ex known at s b q h =
        go (nat_le end place) refl (λ p. first-shown place after end to order.5 free ex known (at + length p.front) p.more p.more_bytes p.more_quotes p.after)
      where
        go : (c : Bool) → nat_le end place ≡ c → ((p : Hidden place at s b q [] [] (λ i j k l. LaysOut i after j k l)) → IsFirst place p.more) → IsFirst place s
        go true e ih =
            let p = hidden-element place at tag start end inside after order.0 order.4 e s b q h in
            first-following place p.front p.more s p.row_is p.ends (ih p)
        go false e ih = first-here place (BeginSlot tag start end) (h.0 ++ (EndSlot ∷ h.1)) s h.3 (ap (hidden_by place) h.3 ∙ (shown-kept place (BeginSlot tag start end) (h.0 ++ (EndSlot ∷ h.1)) e).1) tt

  -- ## The text of no bytes

  sibling-up : (from : ℕ) (siblings : Inline) (to : ℕ) → SiblingOrder Pipe from siblings to → from ≤ to
  sibling-up from Nil to h = h
  sibling-up from (Single x after) to h = let a = h.0 in let b = h.1 in let c = sibling-up x.end after to h.3 in omega arith
  sibling-up from (Around tag start end inside after) to h = let c = sibling-up end after to h.5 in let a = h.1 in let d = h.3 in let b = begun-up Pipe tag h.0 start h.2 in omega arith

  -- after all siblings no sibling is shown
  pub none-from : (place : ℕ) (siblings : Inline) (from : ℕ) → SiblingOrder Pipe from siblings place → from_place place siblings ≡ Nil
  none-from place Nil from order = refl
  none-from place (Single x after) from order = grind (arith, sibling-up, none-from place after x.end order.3)
  none-from place (Around tag start end inside after) from order = grind (arith, sibling-up, none-from place after end order.5)
