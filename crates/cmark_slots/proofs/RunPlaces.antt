-- The bytes of placed runs, and their slots.
use Rattle.std.proofs.Common.{◌≡◌, ⊎_elim, ℕ, zero, suc, ◌+◌, ◌<◌, ◌≤◌, List, [], ◌∷◌, length, drop, take, get_or, refl, sym, ap, subst, ◌∙◌, arith}
use Rattle.std.proofs.Math.Seq.{drop-cons}
use Rattle.std.proofs.lemmas.Bool.{cases_lt}
use Rattle.std.proofs.lemmas.List.{drop_all, get_or_default}
use Rattle.cmark_emphasis.specs.declared.run.PlacedRun.{PlacedRun}
use Rattle.cmark_grammar.specs.Emphasis.{Pair, IsEmphasis, StandFrom, places_taken}
use Rattle.cmark_grammar.specs.Spans.{SpanKind, Emphasis, Strong, SingleTilde, DoubleTilde, Caret, DoubleEquals, Spans, span_width}
use Rattle.cmark_inline_model.proofs.EmphasisOne.{one}
use Rattle.cmark_inline_model.proofs.SpanEntries.{pairs-marked}
use Rattle.cmark_inline_model.specs.SlotRows.{Mark, Stays, closing, marks_by, marks_of, opening, run_places}
use Rattle.cmark_slots.specs.MarkedSlots.{AreAhead, HaveBytes, SameBefore, places_of, siblings_from}
use Rattle.cmark_slots.specs.Slots.{byte_slots}
use Rattle.cmark_slots.specs.declared.slot.Slot.{Slot}
use Rattle.cmark_slots.specs.declared.slot.SlotKind.TheVariants as kind

-- ## Runs as siblings

pub stand-so : (at : ℕ) (placed : List PlacedRun) → StandFrom at (siblings_from at placed)
stand-so at [] = tt
stand-so at (p ∷ placed) = (refl, refl, stand-so (at + p.run_length) placed)

length-run : (at size : ℕ) (following : List ℕ) → length (run_places at size following) ≡ size + length following
length-run at zero following = let e : length following ≡ 0 + length following = omega arith in e
length-run at (suc size) following = let h = length-run (suc at) size following in let e : suc (length (run_places (suc at) size following)) ≡ suc size + length following = omega (arith, h) in e

pub length-places : (at : ℕ) (placed : List PlacedRun) → length (places_of placed) ≡ places_taken (siblings_from at placed)
length-places at [] = refl
length-places at (p ∷ placed) = length-run p.slot p.run_length (places_of placed) ∙ ap (λ n. p.run_length + n) (length-places (at + p.run_length) placed)

-- ## Their marks

opening-wide : (k : SpanKind) → length (opening k) ≡ span_width k
opening-wide Emphasis = refl
opening-wide Strong = refl
opening-wide SingleTilde = refl
opening-wide DoubleTilde = refl
opening-wide Caret = refl
opening-wide DoubleEquals = refl

closing-wide : (k : SpanKind) → length (closing k) ≡ span_width k
closing-wide Emphasis = refl
closing-wide Strong = refl
closing-wide SingleTilde = refl
closing-wide DoubleTilde = refl
closing-wide Caret = refl
closing-wide DoubleEquals = refl

-- the pairs write the marks of the spans
pub marks-are : (placed : List PlacedRun) (pairs : List Pair) (spans : Spans) → IsEmphasis (siblings_from 0 placed) pairs spans → marks_by (length (places_of placed)) pairs ≡ marks_of spans
marks-are placed pairs spans e =
    let sib = siblings_from 0 placed in
    ap (λ n. marks_by n pairs) (length-places 0 placed)
    ∙ ap (λ ps. marks_by (places_taken sib) ps) (one sib pairs spans e).0
    ∙ pairs-marked Mark Stays opening closing opening-wide closing-wide sib (stand-so 0 placed)
    ∙ ap marks_of (sym (one sib pairs spans e).1)

-- ## Their slots

ahead-earlier : (slots : List Slot) (from from1 end end1 : ℕ) (places : List ℕ) → from1 ≤ from → end1 ≤ end → AreAhead slots from end places → AreAhead slots from1 end1 places
ahead-earlier slots from from1 end end1 [] f e h = tt
ahead-earlier slots from from1 end end1 (at ∷ places) f e h = let a = h.1 in let b = h.5 in (h.0, omega (arith, a, f), h.2, h.3, h.4, omega (arith, b, e), h.6)

abbrev byte : (at : ℕ) → Slot
byte at = record { kind = kind.Text; start = at; end = at + 1 }

bytes-ahead : (size s at from end : ℕ) (slots : List Slot) (following : List ℕ) → from ≤ s → end ≤ at → take size (drop s slots) ≡ byte_slots at size → AreAhead slots (s + size) (at + size) following
    → AreAhead slots from end (run_places s size following)
bytes-ahead zero s at from end slots following f e is h = ahead-earlier slots (s + 0) from (at + 0) end following (omega (arith, f)) (omega (arith, e)) h
bytes-ahead (suc size) s at from end slots following f e is h =
    ⊎_elim (λ (lt : s < length slots). there lt (λ others more. bytes-ahead size (suc s) (at + 1) (suc s) (at + 1) slots following (omega arith) (omega arith) others more)) (λ (le : length slots ≤ s). absurd (none (sym (ap (take (suc size)) (drop_all s slots le)) ∙ is))) (cases_lt s (length slots))
  where
    none : [] ≡ byte at ∷ byte_slots (at + 1) size → ⊥
    none q = cc

    there : s < length slots → (take size (drop (suc s) slots) ≡ byte_slots (at + 1) size → AreAhead slots (suc s + size) ((at + 1) + size) following → AreAhead slots (suc s) (at + 1) (run_places (suc s) size following))
        → AreAhead slots from end (s ∷ run_places (suc s) size following)
    there lt go =
        let split : get_or slots s (byte 0) ∷ take size (drop (suc s) slots) ≡ byte at ∷ byte_slots (at + 1) size = sym (ap (take (suc size)) (drop-cons slots s (byte 0) lt)) ∙ is in
        let first : get_or slots s (byte 0) ≡ byte at = cc in
        let others : take size (drop (suc s) slots) ≡ byte_slots (at + 1) size = cc in
        let same : (d : Slot) → get_or slots s d ≡ byte at = λ d. get_or_default slots s d (byte 0) lt ∙ first in
        let more : AreAhead slots (suc s + size) ((at + 1) + size) following = subst (λ n. AreAhead slots n ((at + 1) + size) following) (let q : s + suc size ≡ suc s + size = omega arith in q) (subst (λ n. AreAhead slots (s + suc size) n following) (let q : at + suc size ≡ (at + 1) + size = omega arith in q) h) in (
          at + 1,
          f,
          lt,
          (λ d. ap (λ (x : Slot). x.kind) (same d)),
          (λ d. ap (λ (x : Slot). x.end) (same d)),
          omega (arith, e),
          go others more,
        )

pub all-ahead : (slots : List Slot) (from place : ℕ) (placed : List PlacedRun) → HaveBytes slots from place placed → AreAhead slots from place (places_of placed)
all-ahead slots from place [] h = tt
all-ahead slots from place (p ∷ placed) h = bytes-ahead p.run_length p.slot h.0 from place slots (places_of placed) h.1 h.2 h.3 (all-ahead slots (p.slot + p.run_length) (h.0 + p.run_length) placed h.4)

-- if runs have their bytes from a later slot and offset on, they have them from the first ones on
pub have-all : (slots : List Slot) (from place : ℕ) (placed : List PlacedRun) → HaveBytes slots from place placed → HaveBytes slots 0 0 placed
have-all slots from place [] h = tt
have-all slots from place (p ∷ placed) h = (h.0, (let q : 0 ≤ p.slot = omega arith in q), (let q : 0 ≤ h.0 = omega arith in q), h.3, h.4)

-- slots before an index that are unchanged twice are unchanged
pub same-on : (low : ℕ) (old mid new : List Slot) → SameBefore low old mid → SameBefore low mid new → SameBefore low old new
same-on low old mid new a b k d lt = b k d lt ∙ a k d lt
