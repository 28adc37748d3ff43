-- The characters of quotes, written into their slots, make the slots of the siblings in which the quotes are these characters.
use Rattle.std.proofs.Common.{◌≡◌, ℕ, zero, suc, ◌+◌, List, [], ◌∷◌, ◌++◌, length, drop, get_or, set, refl, sym, ap, ◌∙◌, subst, arith, append_assoc, length-append}
use Rattle.std.specs.Prelude.{encode_utf8}
use Rattle.cmark_grammar.specs.Items.{ItemKind, Own, Written, Quoted, Delimiters, FootnoteReference, Item}
use Rattle.cmark_grammar.specs.Siblings.{Inline, Nil, Single, Around, item, with_characters}
use Rattle.cmark_inline_model.specs.SlotRows.{Slot, ItemSlot, BeginSlot, EndSlot, NothingSlot, run_slots, LaysItem, LaysOut, character_slot, quoted}
use Rattle.cmark_inline_model.proofs.SlotMarks.{set_here, get_here}

run-slots-append : (size start : ℕ) (more : List Slot) → run_slots start size more ≡ run_slots start size [] ++ more
run-slots-append zero start more = refl
run-slots-append (suc size) start more = ap (λ l. ItemSlot (item Own start (suc start)) ∷ l) (run-slots-append size (suc start) more)

length-run-slots : (size start : ℕ) → length (run_slots start size []) ≡ size
length-run-slots zero start = refl
length-run-slots (suc size) start = ap suc (length-run-slots size (suc start))

-- after some slots the quotes at these indices become these characters, and the slots are laid out as these siblings, without quotes
pub record AreQuoted (before slots : List Slot) (bytes quotes : List ℕ) (cs : List ℕ) (result : Inline) : Type 0 where
  pub now : List Slot
  pub cut : quoted quotes cs (before ++ slots) ≡ before ++ now
  pub laid : LaysOut (length before) result now bytes []

-- a slot before others, which the quotes leave
abbrev Quotes : Inline → Type 0
Quotes siblings = (before slots : List Slot) (bytes quotes cs : List ℕ) → LaysOut (length before) siblings slots bytes quotes → AreQuoted before slots bytes quotes cs (with_characters siblings cs)

regroup : (before own more now : List Slot) (quotes cs : List ℕ) → quoted quotes cs ((before ++ own) ++ more) ≡ (before ++ own) ++ now → quoted quotes cs (before ++ (own ++ more)) ≡ before ++ (own ++ now)
regroup before own more now quotes cs e = ap (quoted quotes cs) (sym (append_assoc before own more)) ∙ e ∙ append_assoc before own now

following : (before own : List Slot) (n : ℕ) → length own ≡ n → length (before ++ own) ≡ length before + n
following before own n e = length-append before own ∙ ap (λ k. length before + k) e

after_one : (before : List Slot) (s : Slot) → length (before ++ (s ∷ [])) ≡ suc (length before)
after_one before s = let l = length-append before (s ∷ []) in omega (arith, l)

abbrev character_item : Item → (cs : List ℕ) → Item
character_item x cs = item (Written (encode_utf8 (get_or cs 0 0))) x.start x.end

item-quoted : (kind : ItemKind) (start end : ℕ) (after : Inline) → Quotes after → (before slots : List Slot) (bytes quotes cs : List ℕ)
    → LaysItem kind (record { kind = kind; start = start; end = end }) (λ a b c d. LaysOut a after b c d) (length before) slots bytes quotes
    → AreQuoted before slots bytes quotes cs (with_characters (Single (record { kind = kind; start = start; end = end }) after) cs)
item-quoted (Delimiters run) start end after ih before slots bytes quotes cs h =
    let own = run_slots start run.run_length [] in
    let n = following before own run.run_length (length-run-slots run.run_length start) in
    let r = ih (before ++ own) h.0 h.1 quotes cs (subst (λ k. LaysOut k after h.0 h.1 quotes) (sym n) h.4) in
    record {
      now = run_slots start run.run_length r.now;
      cut =
          ap (λ l. quoted quotes cs (before ++ l)) (h.2 ∙ run-slots-append run.run_length start h.0)
          ∙ regroup before own h.0 r.now quotes cs r.cut
          ∙ ap (λ l. before ++ l) (sym (run-slots-append run.run_length start r.now));
      laid = (r.now, h.1, refl, h.3, subst (λ k. LaysOut k (with_characters after cs) r.now h.1 []) n r.laid);
    }
item-quoted (Quoted quote) start end after ih before slots bytes quotes cs h =
    let x : Item = record { kind = Quoted quote; start = start; end = end } in
    let own = ItemSlot (character_item x cs) ∷ [] in
    let n = after_one before (ItemSlot (character_item x cs)) in
    let r = ih (before ++ own) h.0 bytes h.1 (drop 1 cs) (subst (λ k. LaysOut k after h.0 bytes h.1) (sym n) h.4) in
    let there : get_or (before ++ (ItemSlot x ∷ h.0)) (length before) NothingSlot ≡ ItemSlot x = get_here before (length before) (ItemSlot x) NothingSlot h.0 refl in
    record {
      now = ItemSlot (character_item x cs) ∷ r.now;
      cut =
          ap (λ l. quoted quotes cs (before ++ l)) h.2
          ∙ ap (λ l. quoted l cs (before ++ (ItemSlot x ∷ h.0))) h.3
          ∙ ap (λ s. quoted h.1 (drop 1 cs) (set (before ++ (ItemSlot x ∷ h.0)) (length before) (character_slot (get_or cs 0 0) s))) there
          ∙ ap (quoted h.1 (drop 1 cs)) (set_here before (length before) (ItemSlot x) (ItemSlot (character_item x cs)) h.0 refl)
          ∙ regroup before own h.0 r.now h.1 (drop 1 cs) r.cut;
      laid = (r.now, refl, subst (λ k. LaysOut k (with_characters after (drop 1 cs)) r.now bytes []) n r.laid);
    }
item-quoted (FootnoteReference label) start end after ih before slots bytes quotes cs h =
    let x : Item = record { kind = FootnoteReference label; start = start; end = end } in
    let own = ItemSlot x ∷ h.0 in
    let n = following before own (length h.0 + 1) (let e : length own ≡ length h.0 + 1 = omega arith in e) in
    let r = ih (before ++ own) h.1 bytes quotes cs (subst (λ k. LaysOut k after h.1 bytes quotes) (sym n) h.4) in
    record {
      now = ItemSlot x ∷ (h.0 ++ r.now);
      cut = ap (λ l. quoted quotes cs (before ++ l)) h.3 ∙ regroup before own h.1 r.now quotes cs r.cut;
      laid = (h.0, r.now, h.2, refl, subst (λ k. LaysOut k (with_characters after cs) r.now bytes []) n r.laid);
    }
item-quoted kind start end after ih before slots bytes quotes cs h =
    let x : Item = record { kind = kind; start = start; end = end } in
    let n = after_one before (ItemSlot x) in
    let r = ih (before ++ (ItemSlot x ∷ [])) h.0 bytes quotes cs (subst (λ k. LaysOut k after h.0 bytes quotes) (sym n) h.2) in
    record {
      now = ItemSlot x ∷ r.now;
      cut = ap (λ l. quoted quotes cs (before ++ l)) h.1 ∙ regroup before (ItemSlot x ∷ []) h.0 r.now quotes cs r.cut;
      laid = (r.now, refl, subst (λ k. LaysOut k (with_characters after cs) r.now bytes []) n r.laid);
    }

pub quotes-written : (siblings : Inline) → Quotes siblings
quotes-written Nil before slots bytes quotes cs h =
    record { now = slots; cut = ap (λ l. quoted l cs (before ++ slots)) h.2; laid = (h.0, h.1, refl) }
quotes-written (Single x after) before slots bytes quotes cs h = item-quoted x.kind x.start x.end after (quotes-written after) before slots bytes quotes cs h
quotes-written (Around tag start end inside after) before slots bytes quotes cs h =
    let inner = h.0 in
    let own = BeginSlot tag start end ∷ (inner ++ (EndSlot ∷ [])) in
    let many : length own ≡ length inner + 2 = (let l = length-append inner (EndSlot ∷ []) in omega (arith, l)) in
    let n = following before own (length inner + 2) many in
    let r = quotes-written after (before ++ own) h.1 bytes quotes cs (subst (λ k. LaysOut k after h.1 bytes quotes) (sym n) h.4) in
    let group : (l : List Slot) → BeginSlot tag start end ∷ (inner ++ (EndSlot ∷ l)) ≡ own ++ l = λ l. ap (λ k. BeginSlot tag start end ∷ k) (sym (append_assoc inner (EndSlot ∷ []) l)) in
    record {
      now = BeginSlot tag start end ∷ (inner ++ (EndSlot ∷ r.now));
      cut = ap (λ l. quoted quotes cs (before ++ l)) (h.3 ∙ group h.1) ∙ regroup before own h.1 r.now quotes cs r.cut ∙ ap (λ l. before ++ l) (sym (group r.now));
      laid = (inner, r.now, h.2, refl, subst (λ k. LaysOut k (with_characters after cs) r.now bytes []) n r.laid);
    }
