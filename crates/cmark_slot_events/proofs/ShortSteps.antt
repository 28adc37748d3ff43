-- An event that owns nothing, which is given without an `Event`.
use Rattle.std.proofs.Common.{◌≡◌, ℕ, zero, suc, ◌+◌, ◌-◌, ◌<◌, List, [], ◌∷◌, ◌++◌, get_or, length, refl, sym, ap, ◌∙◌, arith}
use Rattle.cmark_inline_model.specs.LeafSpans.{IsInline, IsRange, IsSpan}
use Rattle.cmark_grammar.specs.TagEnd.{end_of}
use Rattle.cmark_leaf_text.specs.declared.leaf_text.LeafText.{LeafText}
use Rattle.cmark_leaf_text.specs.Reads.{IsRead, IsPart, place_of, source_of, text_of}
use Rattle.cmark_text.specs.declared.event.TagEnd.{TagEnd}
use Rattle.cmark_text.specs.declared.short.Step.{Step}
use Rattle.cmark_text.specs.declared.short.Step.TheVariants as next
use Rattle.cmark_text.specs.declared.short.PlainTag.{PlainTag}
use Rattle.cmark_text.specs.declared.short.Short.{Short}
use Rattle.cmark_text.specs.declared.short.Short.TheVariants as short
use Rattle.cmark_text.specs.Short.{IsShortZeroCopy, ranged_short, shown_plain, shown_short}
use Rattle.cmark_text.specs.Shown.{shown_end}
use Rattle.cmark_slot_events.specs.Opens.{Opens}
use Rattle.cmark_slot_events.specs.Shorts.{GivesNext, GivesShort, IfShort, PassesShort, StandsFor}
use Rattle.cmark_slot_events.specs.declared.leaf_events.Opened.{Opened}
use Rattle.cmark_slots.specs.declared.slot.Slot.{Slot}
use Rattle.cmark_slots.proofs.Lending.{there}

-- the elements that are open stay so
pub short-opens : (s : Short) (opened : List Opened) (start end : ℕ) → IsInline (shown_short s) → Opens opened (shown_short s) start end opened
short-opens (short.Start tag) opened start end inline = absurd inline
short-opens (short.End tag) opened start end inline = absurd inline
short-opens (short.Html text) opened start end inline = absurd inline
short-opens short.Rule opened start end inline = absurd inline
short-opens _ opened start end inline = (tt, refl)

pub part-range : (source : List ℕ) (start end : ℕ) → IsPart source start end → IsRange source start end
part-range source start end part = record { ordered = let h = part.some in omega (arith, h); within = part.within; starts = part.starts; ends = part.ends }

-- the event over these bytes of a leaf's text
pub single-gives : (leaf : LeafText) (from to : ℕ) (s : Short) (opened : List Opened) → IsRead leaf → IsPart (text_of leaf) from to → IsInline (shown_short s)
    → IsShortZeroCopy (source_of leaf) s (place_of leaf from) (place_of leaf (to - 1) + 1) → (start end : ℕ) → start ≡ place_of leaf from → end ≡ place_of leaf (to - 1) + 1 → GivesShort (source_of leaf) opened s start end opened
single-gives leaf from to s opened read part inline lent start end a b = record {
  given = ranged_short s (place_of leaf from) (place_of leaf (to - 1) + 1);
  is = ap (λ n. ranged_short s n (place_of leaf (to - 1) + 1)) (sym a) ∙ ap (ranged_short s start) (sym b);
  follows = record { range = part-range (source_of leaf) (place_of leaf from) (place_of leaf (to - 1) + 1) (there leaf from to read part); opens = short-opens s opened (place_of leaf from) (place_of leaf (to - 1) + 1) inline };
  lent = lent;
}

-- an element begins
pub begin-gives : (source : List ℕ) (start stop : ℕ) (tag : PlainTag) (end : TagEnd) (opened : List Opened) → IsPart source start stop → IsSpan (shown_plain tag) → end_of (shown_plain tag) ≡ shown_end end
    → GivesShort source opened (short.Start tag) start stop (opened ++ (record { tag = end; start = start; end = stop } ∷ []))
begin-gives source start stop tag end opened part span same = record {
  given = ranged_short (short.Start tag) start stop;
  is = refl;
  follows = record {
    range = part-range source start stop part;
    opens = (span, (record { tag = end; start = start; end = stop }, record { tag_is = sym same; start_is = refl; end_is = refl }, refl));
  };
  lent = tt;
}

-- the element that began last ends
pub end-gives : (source : List ℕ) (one : Opened) (old new : List Opened) → IsPart source one.start one.end → old ≡ new ++ (one ∷ []) → GivesShort source old (short.End one.tag) one.start one.end new
end-gives source one old new part last = record {
  given = ranged_short (short.End one.tag) one.start one.end;
  is = refl;
  follows = record { range = part-range source one.start one.end part; opens = (one, record { tag_is = refl; start_is = refl; end_is = refl }, last) };
  lent = tt;
}

-- an element of a list does not depend on the default for indices past its end
pub get_or-any : {X : Type 0} (xs : List X) (i : ℕ) (d e : X) → i < length xs → get_or xs i d ≡ get_or xs i e
get_or-any [] i d e lt = absurd (omega (arith, lt))
get_or-any (x ∷ xs) zero d e lt = refl
get_or-any (x ∷ xs) (suc i) d e lt = get_or-any xs i d e (omega (arith, lt))

-- an end, or nothing
pub passes : (source : List ℕ) (old new : List Opened) (n : Step) → GivesNext source old n new → PassesShort source old n new
passes source old new next.Over h = h.1 ∙ sym h.0
passes source old new _ h = h

-- a short event that belongs to any slot
pub any-slot : (n : Step) (leaf : LeafText) (slots : List Slot) (i : ℕ) → ((text : LeafText) (slot : Slot) → IfShort n (StandsFor text slot)) → IfShort n (λ s. (d : Slot) → StandsFor leaf (get_or slots i d) s)
any-slot (next.Short s start end) leaf slots i h = λ d. h leaf (get_or slots i d)
any-slot _ leaf slots i h = tt
