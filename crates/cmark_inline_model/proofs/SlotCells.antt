-- Siblings that are laid out as slots, cut at the bytes of their runs: the slots before them, and each byte with the slots after it.
use Rattle.std.proofs.Common.{◌≡◌, ℕ, zero, suc, ◌+◌, List, [], ◌∷◌, ◌++◌, length, get_or, refl, sym, ap, ◌∙◌, subst, arith, append_assoc, length-append}
use Rattle.cmark_grammar.specs.Emphasis.{StandFrom, places_taken}
use Rattle.cmark_grammar.specs.Items.{ItemKind, Own, Quoted, Delimiters, FootnoteReference, Item}
use Rattle.cmark_grammar.specs.Siblings.{Inline, Nil, Single, Around, append, item}
use Rattle.cmark_inline_model.specs.RunSpans.{run_then, runs_from, bytes_then, run_bytes_then, run_bytes, put_gap, no_gaps, gap_then, gaps_of, no_item}
use Rattle.cmark_inline_model.specs.SlotRows.{Slot, ItemSlot, BeginSlot, EndSlot, NothingSlot, seen, slots_of, run_slots, run_places, LaysItem, LaysOut, item_slots, row_of, item_places, byte_places, item_quotes, quote_places}
use Rattle.cmark_inline_model.proofs.SlotMarks.{Cell, no_cell, flatten, places_from}
use Rattle.cmark_inline_model.proofs.TightSpans.{put-rest}

pub slots-append : (a b : Inline) → slots_of (append a b) ≡ slots_of a ++ slots_of b
slots-append Nil b = refl
slots-append (Single x after) b = ap (λ l. ItemSlot x ∷ l) (slots-append after b)
slots-append (Around tag start end inside after) b = cc (slots-append after b, append_assoc (slots_of inside) (EndSlot ∷ slots_of after) (slots_of b))

pub seen-append : (a b : List Slot) → seen (a ++ b) ≡ seen a ++ seen b
seen-append [] b = refl
seen-append (ItemSlot x ∷ a) b = ap (λ l. ItemSlot x ∷ l) (seen-append a b)
seen-append (BeginSlot tag start end ∷ a) b = ap (λ l. BeginSlot tag start end ∷ l) (seen-append a b)
seen-append (EndSlot ∷ a) b = ap (λ l. EndSlot ∷ l) (seen-append a b)
seen-append (NothingSlot ∷ a) b = seen-append a b

pub seen-slots : (x : Inline) → seen (slots_of x) ≡ slots_of x
seen-slots Nil = refl
seen-slots (Single x after) = ap (λ l. ItemSlot x ∷ l) (seen-slots after)
seen-slots (Around tag start end inside after) = cc (seen-append (slots_of inside) (EndSlot ∷ slots_of after), seen-slots inside, seen-slots after)

-- slots before other slots, both without Nothing
pub seen-both : (g d : Inline) (s o : List Slot) → seen s ≡ slots_of g → seen o ≡ slots_of d → seen (s ++ o) ≡ slots_of (append g d)
seen-both g d s o h k = seen-append s o ∙ ap (λ l. l ++ seen o) h ∙ ap (λ l. slots_of g ++ l) k ∙ sym (slots-append g d)

abbrev pub cell_at : List Cell → ℕ → Cell
cell_at cells i = get_or cells i no_cell

abbrev pub byte_at : List Item → ℕ → Item
byte_at bytes i = get_or bytes i no_item

abbrev pub gap_at : List Inline → ℕ → Inline
gap_at gaps i = get_or gaps i Nil

-- slots and indices of these bytes, with the slots between them
pub record AreCells (at : ℕ) (gaps : List Inline) (bytes : List Item) (slots : List Slot) (places : List ℕ) : Type 0 where
  pub front : List Slot
  pub cells : List Cell
  pub cut : slots ≡ front ++ flatten cells
  pub places_are : places ≡ places_from (at + length front) cells
  pub front_is : seen front ≡ slots_of (gap_at gaps 0)
  pub byte_is : (i : ℕ) → (cell_at cells i).byte ≡ byte_at bytes i
  pub gap_is : (i : ℕ) → seen (cell_at cells i).gap ≡ slots_of (gap_at gaps (suc i))
  pub as_many : length cells ≡ length bytes

-- slots before all of them
put-first : (put : Inline → Inline) (gaps : List Inline) → gap_at (put_gap put gaps) 0 ≡ put (gap_at gaps 0)
put-first put [] = refl
put-first put (g ∷ gaps) = refl

put-cells : (at : ℕ) (own : List Slot) (put : Inline → Inline) (gaps : List Inline) (bytes : List Item) (slots : List Slot) (places : List ℕ) → ((g : Inline) → seen own ++ slots_of g ≡ slots_of (put g))
    → AreCells (at + length own) gaps bytes slots places → AreCells at (put_gap put gaps) bytes (own ++ slots) places
put-cells at own put gaps bytes slots places e c = record {
  front = own ++ c.front;
  cells = c.cells;
  cut = ap (λ l. own ++ l) c.cut ∙ sym (append_assoc own c.front (flatten c.cells));
  places_are = (let l = length-append own c.front in let n : (at + length own) + length c.front ≡ at + length (own ++ c.front) = omega (arith, l) in c.places_are ∙ ap (λ p. places_from p c.cells) n);
  front_is = seen-append own c.front ∙ ap (λ l. seen own ++ l) c.front_is ∙ e (gap_at gaps 0) ∙ ap slots_of (sym (put-first put gaps));
  byte_is = c.byte_is;
  gap_is = λ i. c.gap_is i ∙ ap slots_of (sym (put-rest put gaps i));
  as_many = c.as_many;
}

run-cells : (size start at : ℕ) (gaps : List Inline) (bytes : List Item) (slots : List Slot) (places : List ℕ) → AreCells (at + size) gaps bytes slots places
    → AreCells at (no_gaps size gaps) (bytes_then start size bytes) (run_slots start size slots) (run_places at size places)
run-cells zero start at gaps bytes slots places c = let e : at + 0 ≡ at = omega arith in subst (λ n. AreCells n gaps bytes slots places) e c
run-cells (suc size) start at gaps bytes slots places c =
    let e : at + suc size ≡ suc at + size = omega arith in
    let r = run-cells size (suc start) (suc at) gaps bytes slots places (subst (λ n. AreCells n gaps bytes slots places) e c) in
    let x : Item = item Own start (suc start) in
    let first : Cell = record { byte = x; gap = r.front } in
    record {
      front = [];
      cells = first ∷ r.cells;
      cut = ap (λ l. ItemSlot x ∷ l) r.cut;
      places_are = (
          let a : at ≡ at + 0 = omega arith in
          let b : suc at + length r.front ≡ (at + 0) + suc (length r.front) = omega arith in
          ap (λ l. at ∷ l) (r.places_are ∙ ap (λ n. places_from n r.cells) b) ∙ ap (λ n. n ∷ places_from ((at + 0) + suc (length r.front)) r.cells) a);
      front_is = refl;
      byte_is = bytes_are r x;
      gap_is = gaps_are r x;
      as_many = ap suc r.as_many;
    }
  where
    bytes_are : (r : AreCells (suc at) (no_gaps size gaps) (bytes_then (suc start) size bytes) (run_slots (suc start) size slots) (run_places (suc at) size places)) (x : Item) (i : ℕ)
        → (cell_at (record { byte = x; gap = r.front } ∷ r.cells) i).byte ≡ byte_at (x ∷ bytes_then (suc start) size bytes) i
    bytes_are r x zero = refl
    bytes_are r x (suc i) = r.byte_is i

    gaps_are : (r : AreCells (suc at) (no_gaps size gaps) (bytes_then (suc start) size bytes) (run_slots (suc start) size slots) (run_places (suc at) size places)) (x : Item) (i : ℕ)
        → seen (cell_at (record { byte = x; gap = r.front } ∷ r.cells) i).gap ≡ slots_of (gap_at (Nil ∷ no_gaps size gaps) (suc i))
    gaps_are r x zero = r.front_is
    gaps_are r x (suc i) = r.gap_is i

-- an item's slots
abbrev Cells : Inline → Type 0
Cells siblings = (at : ℕ) (slots : List Slot) (places quotes : List ℕ) → LaysOut at siblings slots places quotes → AreCells at (gaps_of siblings) (run_bytes siblings) slots places

single-cells : (x : Item) (at : ℕ) (gaps : List Inline) (bytes : List Item) (more slots : List Slot) (places : List ℕ) → slots ≡ ItemSlot x ∷ more → AreCells (suc at) gaps bytes more places
    → AreCells at (put_gap (Single x) gaps) bytes slots places
single-cells x at gaps bytes more slots places s c =
    let e : suc at ≡ at + 1 = omega arith in
    subst (λ l. AreCells at (put_gap (Single x) gaps) bytes l places) (sym s) (put-cells at (ItemSlot x ∷ []) (Single x) gaps bytes more places (λ g. refl) (subst (λ n. AreCells n gaps bytes more places) e c))

item-cells : (kind : ItemKind) (x : Item) (after : Inline) → Cells after → (at : ℕ) (slots : List Slot) (places quotes : List ℕ) → LaysItem kind x (λ a b c d. LaysOut a after b c d) at slots places quotes
    → AreCells at (gap_then kind x (gaps_of after)) (run_bytes_then kind x.start (run_bytes after)) slots places
item-cells (Delimiters run) x after ih at slots places quotes h = grind (arith, run-cells)
item-cells (Quoted quote) x after ih at slots places quotes h = single-cells x at (gaps_of after) (run_bytes after) h.0 slots places h.2 (ih (suc at) h.0 places h.1 h.4)
item-cells (FootnoteReference label) x after ih at slots places quotes h =
    let own = ItemSlot x ∷ h.0 in
    let e : at + (length h.0 + 1) ≡ at + length own = omega arith in
    subst (λ l. AreCells at (put_gap (Single x) (gaps_of after)) (run_bytes after) l places) (sym h.3)
    (put-cells at own (Single x) (gaps_of after) (run_bytes after) h.1 places (λ g. ap (λ l. ItemSlot x ∷ (l ++ slots_of g)) h.2)
    (subst (λ n. AreCells n (gaps_of after) (run_bytes after) h.1 places) e (ih (at + (length h.0 + 1)) h.1 places quotes h.4)))
item-cells kind x after ih at slots places quotes h = single-cells x at (gaps_of after) (run_bytes after) h.0 slots places h.1 (ih (suc at) h.0 places quotes h.2)

pub cells-of : (siblings : Inline) → Cells siblings
cells-of Nil at slots places quotes h = record {
  front = [];
  cells = [];
  cut = h.0;
  places_are = h.1;
  front_is = refl;
  byte_is = λ i. refl;
  gap_is = λ i. refl;
  as_many = refl;
}
cells-of (Single x after) at slots places quotes h = item-cells x.kind x after (cells-of after) at slots places quotes h
cells-of (Around tag start end inside after) at slots places quotes h =
    let inner = h.0 in
    let own = BeginSlot tag start end ∷ (inner ++ (EndSlot ∷ [])) in
    let l = length-append inner (EndSlot ∷ []) in
    let e : at + (length inner + 2) ≡ at + suc (length (inner ++ (EndSlot ∷ []))) = omega (arith, l) in
    let c = subst (λ n. AreCells n (gaps_of after) (run_bytes after) h.1 places) e (cells-of after (at + (length inner + 2)) h.1 places quotes h.4) in
    let put = put-cells at own (Around tag start end inside) (gaps_of after) (run_bytes after) h.1 places (element_seen inner h.2) c in
    subst (λ k. AreCells at (put_gap (Around tag start end inside) (gaps_of after)) (run_bytes after) k places) (ap (λ k. BeginSlot tag start end ∷ k) (append_assoc inner (EndSlot ∷ []) h.1) ∙ sym h.3) put
  where
    element_seen : (inner : List Slot) → seen inner ≡ slots_of inside → (g : Inline) → seen (BeginSlot tag start end ∷ (inner ++ (EndSlot ∷ []))) ++ slots_of g ≡ slots_of (Around tag start end inside g)
    element_seen inner e g = cc (seen-append inner (EndSlot ∷ []), append_assoc (slots_of inside) (EndSlot ∷ []) (slots_of g))

-- ## Siblings have such slots

abbrev HasRow : Inline → Type 0
HasRow siblings = (at : ℕ) → LaysOut at siblings (row_of siblings) (byte_places at siblings) (quote_places at siblings)

item-laid : (kind : ItemKind) (x : Item) (after : Inline) → HasRow after
    → (at : ℕ) → LaysItem kind x (λ a b c d. LaysOut a after b c d) at (item_slots kind x (row_of after)) (item_places kind at (λ a. byte_places a after)) (item_quotes kind at (λ a. quote_places a after))
item-laid (Delimiters run) x after ih at = (row_of after, byte_places (at + run.run_length) after, refl, refl, ih (at + run.run_length))
item-laid (Quoted quote) x after ih at = (row_of after, quote_places (suc at) after, refl, refl, ih (suc at))
item-laid (FootnoteReference label) x after ih at = ([], row_of after, refl, refl, subst (λ n. LaysOut n after (row_of after) (byte_places (suc at) after) (quote_places (suc at) after)) (let e : suc at ≡ at + 1 = omega arith in e) (ih (suc at)))
item-laid kind x after ih at = (row_of after, refl, ih (suc at))

pub laid-out : (siblings : Inline) → HasRow siblings
laid-out Nil at = (refl, refl, refl)
laid-out (Single x after) at = item-laid x.kind x after (laid-out after) at
laid-out (Around tag start end inside after) at = (slots_of inside, row_of after, seen-slots inside, refl, laid-out after (at + (length (slots_of inside) + 2)))

-- ## The indices of the runs are those of their bytes

length-bytes : (size start : ℕ) (bytes : List Item) → length (bytes_then start size bytes) ≡ size + length bytes
length-bytes zero start bytes = omega arith
length-bytes (suc size) start bytes = let i = length-bytes size (suc start) bytes in omega (arith, i)

item-taken : (kind : ItemKind) (x : Item) (after : Inline) (n : ℕ) → ((m : ℕ) → places_taken (runs_from after m) ≡ length (run_bytes after))
    → places_taken (run_then n kind (runs_from after)) ≡ length (run_bytes_then kind x.start (run_bytes after))
item-taken (Delimiters run) x after n ih = let i = ih (n + run.run_length) in let l = length-bytes run.run_length x.start (run_bytes after) in omega (arith, i, l)
item-taken kind x after n ih = ih n

pub bytes-taken : (siblings : Inline) (n : ℕ) → places_taken (runs_from siblings n) ≡ length (run_bytes siblings)
bytes-taken Nil n = refl
bytes-taken (Single x after) n = item-taken x.kind x after n (bytes-taken after)
bytes-taken (Around tag start end inside after) n = bytes-taken after n

item-stands : (kind : ItemKind) (after : Inline) (n : ℕ) → ((m : ℕ) → StandFrom m (runs_from after m)) → StandFrom n (run_then n kind (runs_from after))
item-stands (Delimiters run) after n ih = (refl, refl, ih (n + run.run_length))
item-stands kind after n ih = ih n

pub runs-stand : (siblings : Inline) (n : ℕ) → StandFrom n (runs_from siblings n)
runs-stand Nil n = tt
runs-stand (Single x after) n = item-stands x.kind after n (runs-stand after)
runs-stand (Around tag start end inside after) n = runs-stand after n
