-- Slots that represent the formula that a dollar sign opens, or the dollar sign.
use Rattle.std.specs.Prelude.{Option, Some, None, option_map, if◌then◌else◌}
use Rattle.std.proofs.Common.{◌≡◌, ℕ, suc, ◌+◌, ◌-◌, ◌<◌, ◌≤◌, ◌&&◌, Bool, true, false, List, [], length, drop, get_or, refl, sym, ap, subst, ◌∙◌, arith, length-drop, drop-drop}
use Rattle.std.specs.Str.{IsCharBoundary}
use Rattle.cmark_grammar.specs.Answers.{Lookup}
use Rattle.cmark_grammar.specs.Formulas.{Braces, is_dollar, no_braces, braces_after, inline_in, display_in}
use Rattle.cmark_grammar.specs.InlineTokens.{as_in, is_plain, item_at, before, dollar, formula_or, place_of}
use Rattle.cmark_grammar.specs.Items.{ItemKind, Plain, Own, InlineMath, DisplayMath, Token, Stands}
use Rattle.cmark_grammar.specs.Letters.{first_is}
use Rattle.cmark_grammar.specs.LinkDefinitions.{Parsed}
use Rattle.cmark_grammar.specs.Options.{Options}
use Rattle.cmark_grammar.specs.Readers.{Reader}
use Rattle.cmark_grammar.specs.Tokens.{slice}
use Rattle.cmark_span_scan.specs.Dollars.{IsFormulaAt, braces_at, formula_at, shown_formula, signs_of}
use Rattle.cmark_span_scan.specs.declared.dollars.Formula.{Formula}
use Rattle.cmark_values.specs.declared.text.CowStr.{CowStr}
use Rattle.cmark_inline.specs.Tokens.{whole, reading, begins_at, Says, Puts, Appends}
use Rattle.cmark_slots.specs.Slots.{IsContent}
use Rattle.cmark_slots.specs.declared.slot.SlotKind.{SlotKind}
use Rattle.cmark_slots.specs.declared.slot.SlotKind.TheVariants as kind
use Rattle.cmark_inline.specs.declared.state.InlineState.{InlineState}
use Rattle.cmark_inline.specs.declared.step.Cursor.{Cursor}
use Rattle.cmark_inline.proofs.Appended.{at-byte, no-texts, slots-alone, own-appends}
use Rattle.cmark_inline.proofs.ReadingOn.{before-is}
use Rattle.cmark_inline.proofs.TokenSteps.{begins-with}

abbrev pub kind_by : (is_display : Bool) → List ℕ → ItemKind
kind_by true = DisplayMath
kind_by false = InlineMath

abbrev pub slot_kind_by : (is_display : Bool) → (from : ℕ) → SlotKind
slot_kind_by is_display from = if is_display then kind.DisplayMath from else kind.InlineMath from

-- the content of a formula is a part of the text
pub formula-content : (text : List ℕ) (at : ℕ) (formula : Formula) → IsFormulaAt text at formula → IsContent text formula.end (slot_kind_by formula.is_display formula.content_start)
formula-content text at formula h = go formula.is_display h.closes
  where
    go : (z : Bool) → formula.end ≡ formula.content_end + signs_of z → IsContent text formula.end (slot_kind_by z formula.content_start)
    go true e = record { starts = h.starts; signs_there = omega (arith, e); ends = subst (IsCharBoundary text) (let q : formula.content_end ≡ formula.end - 2 = omega (arith, e) in q) h.stops }
    go false e = record { starts = h.starts; signs_there = omega (arith, e); ends = subst (IsCharBoundary text) (let q : formula.content_end ≡ formula.end - 1 = omega (arith, e) in q) h.stops }

module _ (o : Options) (l : Lookup) (cell : Bool) (text : List ℕ) (at : ℕ) (lt : at < length text) (is : get_or text at 0 ≡ 36) (math : o.math ≡ true) where
  abbrev r : Reader
  r = reading o l text

  abbrev opens : Bool → List ℕ → Braces → Token
  opens double bs braces = if double then formula_or r (whole cell text) DisplayMath at (display_in braces (drop 1 bs)) else formula_or r (whole cell text) InlineMath at (inline_in braces bs)

  sign-begins : begins_at o l cell text at ≡ dollar r (whole cell text) at (drop (suc at) text) (braces_after false (before r (whole cell text) at) no_braces)
  sign-begins =
      begins-with o l cell text at 36 lt is
      ∙ ap (λ z. if z && true then dollar r (whole cell text) at (drop (suc at) text) (braces_after false (before r (whole cell text) at) no_braces) else if o.smart_punctuation then item_at Plain at (suc at) else item_at Plain at (suc at)) math

  by-places : begins_at o l cell text at ≡ opens (first_is is_dollar (drop (at + 1) text)) (drop (at + 1) text) (braces_at text at)
  by-places =
      sign-begins
      ∙ ap (λ bs. dollar r (whole cell text) at (drop (suc at) text) (braces_after false bs no_braces)) (before-is text at (omega (arith, lt)))
      ∙ ap (λ n. dollar r (whole cell text) at (drop n text) (braces_at text at)) (let q : suc at ≡ at + 1 = omega arith in q)

  pub formula-begins : (double : Bool) → double ≡ first_is is_dollar (drop (at + 1) text) → begins_at o l cell text at ≡ formula_or r (whole cell text) (kind_by double) at (formula_at text at)
  formula-begins double e = by-places ∙ ap (λ z. opens z (drop (at + 1) text) (braces_at text at)) (sym e) ∙ chosen double ∙ ap (formula_or r (whole cell text) (kind_by double) at) (ap (by double) e)
    where
      by : Bool → Bool → Option Parsed
      by d z = if z then display_in (braces_at text at) (drop (at + 2) text) else inline_in (braces_at text at) (drop (at + 1) text)

      chosen : (d : Bool) → opens d (drop (at + 1) text) (braces_at text at) ≡ formula_or r (whole cell text) (kind_by d) at (if d then display_in (braces_at text at) (drop (at + 2) text) else inline_in (braces_at text at) (drop (at + 1) text))
      chosen true = ap (λ bs. formula_or r (whole cell text) DisplayMath at (display_in (braces_at text at) bs)) (drop-drop 1 (at + 1) text ∙ ap (λ n. drop n text) (let q : at + 1 + 1 ≡ at + 2 = omega arith in q))
      chosen false = refl

module _ (o : Options) (l : Lookup) (cell : Bool) (text : List ℕ) (here : Cursor) (old new : InlineState) (next : Cursor) where
  formula-ends : (end : ℕ) → end ≤ length text → place_of (reading o l text) (whole cell text) (drop end text) ≡ end
  formula-ends end le = let d = length-drop end text in let q : length text - length (drop end text) ≡ end = omega (arith, d, le) in q

  says-by : (texts : List CowStr) (start end from to : ℕ) (double : Bool) → end ≡ to + signs_of double → Says cell text texts start end (kind_by double (as_in cell (slice text from to))) (slot_kind_by double from)
  says-by texts start end from to true e = ap (λ n. as_in cell (slice text from n)) (let q : end - 2 ≡ to = omega (arith, e) in q)
  says-by texts start end from to false e = ap (λ n. as_in cell (slice text from n)) (let q : end - 1 ≡ to = omega (arith, e) in q)

  not-plain : (double : Bool) (bytes : List ℕ) → is_plain (kind_by double bytes) ≡ false
  not-plain true bytes = refl
  not-plain false bytes = refl

  pub formula-appends : (formula : Formula) (k : SlotKind)
      → here.pending ≤ here.at → here.at < length text → get_or text here.at 0 ≡ 36 → o.math ≡ true
      → option_map (shown_formula text) (Some formula) ≡ formula_at text here.at → formula.is_display ≡ first_is is_dollar (drop (here.at + 1) text) → IsFormulaAt text here.at formula
      → k ≡ slot_kind_by formula.is_display formula.content_start
      → next.at ≡ formula.end → next.pending ≡ next.at
      → Puts here.pending here.at (record { kind = k; start = here.at; end = formula.end }) old.slots.items new.slots.items → new ≡ record old { slots = new.slots }
      → Appends o l cell text here old new next
  formula-appends formula k following lt byte math value kind-is places k-is at pending slots others =
      let bytes : List ℕ = as_in cell (slice text formula.content_start formula.content_end) in
      record {
        from = here.at;
        item = record { kind = kind_by formula.is_display bytes; start = here.at; end = formula.end };
        slot = record { kind = k; start = here.at; end = formula.end };
        following = following;
        before = omega arith;
        blanks = λ n le high. absurd (omega (arith, le, high));
        there = at-byte text here 36 byte refl refl refl;
        own = not-plain formula.is_display bytes;
        token =
            formula-begins o l cell text here.at lt byte math formula.is_display kind-is
            ∙ ap (formula_or (reading o l text) (whole cell text) (kind_by formula.is_display) here.at) (sym value)
            ∙ ap (item_at (kind_by formula.is_display bytes) here.at) (formula-ends formula.end places.ends.0)
            ∙ ap (Stands (record { kind = kind_by formula.is_display bytes; start = here.at; end = formula.end })) (sym at);
        pending = pending;
        slots = slots;
        owned = [];
        texts = no-texts o l cell text here old new next others;
        is = record { start = refl; end = refl; says = subst (Says cell text new.texts.items here.at formula.end (kind_by formula.is_display bytes)) (sym k-is) (says-by new.texts.items here.at formula.end formula.content_start formula.content_end formula.is_display places.closes) };
        others = slots-alone old new others;
      }

  -- a dollar sign that opens no formula
  pub sign-appends : (end : ℕ) → here.pending ≤ here.at → here.at < length text → get_or text here.at 0 ≡ 36 → o.math ≡ true → None ≡ formula_at text here.at → end ≡ here.at + 1
      → next.at ≡ end → next.pending ≡ next.at
      → Puts here.pending here.at (record { kind = kind.Text; start = here.at; end = end }) old.slots.items new.slots.items → new ≡ record old { slots = new.slots }
      → Appends o l cell text here old new next
  sign-appends end following lt byte math none one at pending slots others =
      own-appends o l cell text here old new next here.at end following (at-byte text here 36 byte refl refl refl)
      (formula-begins o l cell text here.at lt byte math (first_is is_dollar (drop (here.at + 1) text)) refl
      ∙ ap (formula_or (reading o l text) (whole cell text) (kind_by (first_is is_dollar (drop (here.at + 1) text))) here.at) (sym none)
      ∙ ap (item_at Own here.at) (let q : suc here.at ≡ end = omega (arith, one) in q))
      at pending slots others
