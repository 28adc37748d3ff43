-- The results of a call that reads the next special byte.
use Rattle.std.specs.Prelude.{Option, IfOk, Ok, Err, Result as Answer}
use Rattle.std.specs.List.{position_or_len}
use Rattle.std.proofs.Common.{◌≡◌, ℕ, ◌+◌, ◌<◌, ◌≤◌, Bool, true, List, length, drop, get_or, sym, ap, ◌∙◌, subst, arith, length-drop}
use Rattle.std.proofs.lemmas.List.{get_or-drop}
use Rattle.std.proofs.lemmas.List.Sums.{passes_at_first}
use Rattle.cmark_grammar.specs.Answers.{Lookup}
use Rattle.cmark_grammar.specs.Options.{Options}
use Rattle.cmark_inline_model.specs.SpecialBytes.{is_special}
use Rattle.cmark_references.specs.declared.definitions.RefDefs.{RefDefs}
use Rattle.cmark_references.specs.declared.footnotes.FootnoteDefs.{FootnoteDefs}
use Rattle.cmark_leaf_text.specs.Reads.{is_cell_of, text_of}
use Rattle.cmark_leaf_text.specs.declared.leaf_text.LeafText.{LeafText}
use Rattle.cmark_search.specs.Sets.{in_rows}
use Rattle.cmark_values.specs.declared.text.CowStr.{CowStr}
use Rattle.cmark_grammar.specs.LeafText.{Leaf}
use Rattle.cmark_grammar.specs.Readers.{Reader}
use Rattle.cmark_inline.specs.Closers.{AsksOfCloser, Closes}
use Rattle.cmark_inline.specs.CursorProgress.{ComesOn, HasCome, StopsOn}
use Rattle.cmark_inline.specs.Decided.{ReadsSame}
use Rattle.cmark_inline.specs.LeastSteps.{PassesAt, VisitsAt}
use Rattle.cmark_inline.specs.PlainStretches.{IsSetOf, StandUpTo}
use Rattle.cmark_inline.specs.Sound.{IsSound}
use Rattle.cmark_inline.specs.SpecialReads.{ReadsSpecial}
use Rattle.cmark_inline.specs.Stands.{Flushes, Moves}
use Rattle.cmark_inline.specs.declared.callback.BrokenLink.{BrokenLink}
use Rattle.cmark_inline.specs.declared.state.InlineState.{InlineState}
use Rattle.cmark_inline.specs.declared.step.Cursor.{Cursor}
use Rattle.cmark_inline.specs.declared.step.Sought.{Sought}
use Rattle.cmark_inline.proofs.ComeSteps.{come-closing, come-rest, come-special, stops-closing, stops-there}

pub both-ok : {X E : Type 0} (r : Answer X E) (P Q S : X → Type 0) → ((x : X) → P x → Q x → S x) → IfOk r P → IfOk r Q → IfOk r S
both-ok (Ok x) P Q S f p q = f x p q
both-ok (Err e) P Q S f p q = tt

-- the offset of the next special byte, from the rows of the set. The bytes before it are literal
pub record IsNextAt (rows text : List ℕ) (from at : ℕ) : Type 0 where
  pub value : at ≡ from + position_or_len (in_rows rows) (drop from text)
  pub plain : (o : Options) (l : Lookup) (cell : Bool) → IsSetOf o rows → StandUpTo o l cell text from at
  pub order : from ≤ at
  pub within : at ≤ length text
  pub ascii : at < length text → get_or text at 0 < 128

-- the byte at this offset is special
pub special-there : (options : Options) (rows text : List ℕ) (from at : ℕ) → IsSetOf options rows → IsNextAt rows text from at → at < length text → is_special options (get_or text at 0) ≡ true
special-there options rows text from at set h lt =
    let n : ℕ = position_or_len (in_rows rows) (drop from text) in
    let d = length-drop from text in
    let value = h.value in
    sym (set (get_or text at 0) (h.ascii lt))
    ∙ ap (in_rows rows) (sym (get_or-drop from text n 0 ∙ ap (λ i. get_or text i 0) (sym value)))
    ∙ passes_at_first (in_rows rows) (drop from text) 0 (let q : n < length (drop from text) = omega (arith, lt, value, d) in q)

module _ {F : Type 0} (R : F → BrokenLink → Option (CowStr × CowStr) → F → Type 0) (options : Options) (lookup : Lookup) (references : RefDefs) (notes : FootnoteDefs) (leaf : LeafText) (rows text : List ℕ) (same_text : text ≡ text_of leaf)
    (cursor : Cursor) (old : InlineState) (at : ℕ) (set : IsSetOf options rows) (h : IsNextAt rows text cursor.at at) where
  abbrev cell : Bool
  cell = is_cell_of leaf

  module _ (reader : Reader) (read : Leaf) (place : ℕ → ℕ) (reads : ReadsSame options lookup references notes leaf reader read place) where
    stands : StandUpTo reader.options reader.lookup cell (text_of leaf) cursor.at at
    stands = subst (λ t. StandUpTo reader.options reader.lookup cell t cursor.at at) same_text (h.plain reader.options reader.lookup cell (subst (λ o. IsSetOf o rows) (sym reads.options_are) set))

    reads-own : ReadsSame reader.options reader.lookup references notes leaf reader read place
    reads-own = subst (λ o. ReadsSame o reader.lookup references notes leaf reader read place) (sym reads.options_are) (subst (λ l. ReadsSame options l references notes leaf reader read place) (sym reads.lookup_is) reads)

  pub rest-comes : (sought : Sought) (now : F) (end : ℕ) → end ≡ length text → end ≤ at → cursor.at < length text → ComesOn R options lookup references notes notes leaf sought sought cursor (record { pending = cursor.pending; at = end }) old old now now
  rest-comes sought now end e le lt = λ reader read place before begun initial reads places ended come.
      let size : end ≡ length (text_of leaf) = e ∙ ap length same_text in
      let to : at ≡ length (text_of leaf) = (let m = ap length same_text in let w = h.within in omega (arith, e, le, w, m)) in
      subst (λ n. HasCome R leaf reader read place before (record { sought = sought; begun = begun; notes = notes }) initial (record { pending = cursor.pending; at = n }) old now) (sym size)
      (come-rest leaf reader read place places reads.source R before (record { sought = sought; begun = begun; notes = notes }) initial now cursor old come (let m = ap length same_text in omega (arith, lt, m))
      (subst (λ n. StandUpTo reader.options reader.lookup cell (text_of leaf) cursor.at n) to (stands reader read place reads)))

  -- ## If memory is refused
  pub span-stops : (sought : Sought) (now : F) → StopsOn R options lookup references notes leaf sought cursor old now now
  span-stops sought now = λ reader read place before begun initial reads places come.
      stops-there leaf reader read place places reads.source R before (record { sought = sought; begun = begun; notes = notes }) initial now cursor old come

  pub close-stops : (sought : Sought) (now later : F) → at < length text → get_or text at 0 ≡ 93 → AsksOfCloser R options lookup references notes leaf text at old now later → StopsOn R options lookup references notes leaf sought cursor old now later
  close-stops sought now later lt byte asks = λ reader read place before begun initial reads places come.
      stops-closing leaf reader read place places reads.source R before (record { sought = sought; begun = begun; notes = notes }) initial now cursor old come at h.order (let m = ap length same_text in omega (arith, lt, m)) (stands reader read place reads)
      (ap (λ t. get_or t at 0) (sym same_text) ∙ byte) later references (reads-own reader read place reads)
      (subst (λ t. AsksOfCloser R reader.options reader.lookup references notes leaf t at old now later) same_text
      (subst (λ o. AsksOfCloser R o reader.lookup references notes leaf text at old now later) (sym reads.options_are) (subst (λ l. AsksOfCloser R options l references notes leaf text at old now later) (sym reads.lookup_is) asks)))

  -- ## If memory is not refused
  module _ (now : F) (new : InlineState) (next : Cursor) (lt : at < length text) (sound : IsSound old) (moves : Moves text at new next) where
    own_lt : at < length (text_of leaf)
    own_lt = let m = ap length same_text in omega (arith, lt, m)

    own_moves : Moves (text_of leaf) at new next
    own_moves = subst (λ t. Moves t at new next) same_text moves

    own_special : is_special options (get_or (text_of leaf) at 0) ≡ true
    own_special = ap (λ t. is_special options (get_or t at 0)) (sym same_text) ∙ special-there options rows text cursor.at at set h lt

    pub span-comes : (sought found : Sought) → VisitsAt text at sought found → PassesAt options.email_autolinks leaf at sought.unclosed found.unclosed → ReadsSpecial options lookup leaf (record { pending = cursor.pending; at = at }) old new next → ComesOn R options lookup references notes notes leaf sought found cursor next old new now now
    span-comes sought found visits passes own = λ reader read place before begun initial reads places ended come.
        come-special leaf reader read place places reads.source R before (record { sought = sought; begun = begun; notes = notes }) initial now cursor old come at h.order own_lt (stands reader read place reads) (ap (λ o. is_special o (get_or (text_of leaf) at 0)) reads.options_are ∙ own_special) new next sound own_moves found (subst (λ t. VisitsAt t at sought found) same_text visits)
        (subst (λ (o : Options). PassesAt o.email_autolinks leaf at sought.unclosed found.unclosed) (sym reads.options_are) passes)
        (subst (λ o. ReadsSpecial o reader.lookup leaf (record { pending = cursor.pending; at = at }) old new next) (sym reads.options_are) (subst (λ l. ReadsSpecial options l leaf (record { pending = cursor.pending; at = at }) old new next) (sym reads.lookup_is) own))

    pub close-comes : (sought : Sought) (others : FootnoteDefs) (later : F) → get_or text at 0 ≡ 93 → Flushes cursor.pending at old → Closes R options lookup references notes others leaf text cursor.pending at old new next now later → ComesOn R options lookup references notes others leaf sought sought cursor next old new now later
    close-comes sought others later byte flush closes = λ reader read place before begun initial reads places ended come.
        come-closing leaf reader read place places reads.source R before (record { sought = sought; begun = begun; notes = notes }) initial now cursor old come at h.order own_lt (stands reader read place reads) (ap (λ o. is_special o (get_or (text_of leaf) at 0)) reads.options_are ∙ own_special) new next sound own_moves
        later references others (ap (λ t. get_or t at 0) (sym same_text) ∙ byte) (reads-own reader read place reads) flush
        (subst (λ t. Closes R reader.options reader.lookup references notes others leaf t cursor.pending at old new next now later) same_text
        (subst (λ o. Closes R o reader.lookup references notes others leaf text cursor.pending at old new next now later) (sym reads.options_are) (subst (λ l. Closes R options l references notes others leaf text cursor.pending at old new next now later) (sym reads.lookup_is) closes))) ended
