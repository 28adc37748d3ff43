use Rattle.std.proofs.Common.{rules, ◌≡◌, ◌≤◌, ◌+◌, ◌*◌, List, ℕ, length, take, refl, sym, ap, subst, ◌∙◌, arith}
use Rattle.std.proofs.lemmas.List.{length_push, length-take}
use Rattle.cmark_slots.specs.Doubled.{DropsAfter}
use Rattle.cmark_inline.specs.Footnoted.{PutsReference, reference_as}
use Rattle.cmark_leaf_text.specs.Reads.{IsPart}
use Rattle.cmark_slots.specs.Slots.{AreBrackets, AreFree, IsBracket, IsSlot, bytes_of}
use Rattle.cmark_slots.specs.declared.bracket.Bracket.{Bracket}
use Rattle.cmark_slots.specs.declared.bracket.Brackets.{Brackets}
use Rattle.cmark_slots.specs.declared.slot.Slot.{Slot}
use Rattle.cmark_inline.specs.declared.state.InlineState.{InlineState}
use Rattle.cmark_inline.proofs.FootnoteSteps.{reference-part}
use Rattle.cmark_inline.proofs.HiddenSlots.{writes-reference}
use Rattle.cmark_inline.proofs.Forming.{reference-ended, reference-formed, sound-same}
use Rattle.cmark_slots.proofs.Steps.{brackets-on, free-on, slots-on}
use Rattle.cmark_inline.specs.Closers.{Drops}
use Rattle.cmark_inline.proofs.state.InlineState.form_footnote.Goals as goal

pub returns-clause-at : goal.returns-clause-at
returns-clause-at c = record {
  stands = (let s = c.requires.at.stands in
      let b = c.requires.opening.bracket in
      let p = c.requires.close in
      let text : List ℕ = c.args.text.now in
      let close : ℕ = c.args.close in
      let resume : ℕ = close + 1 in
      let le : close ≤ resume = omega arith in
      let old : List Slot = c.args.self.now.slots.items in
      let ss : List Slot = c.put_reference.new.self.slots.items in
      let put = c.in_ok-put_reference.ensures in
      let few = s.few in
      let fewer = s.runs in
      let most = put.length in
      let least = put.longer in
      let cut = c.truncate-2.ensures.bytes in
      let seen = s.examined in
      let looked = c.truncate-2.ensures.examined in
      let less = ap length c.truncate-2.ensures.placed ∙ length-take c.args.bracket.runs c.put_reference.new.self.delimiters.placed.items in
      let same-seen = ap (λ (s : InlineState). s.delimiters.examined) c.put_reference.ensures.others in
      let same-count = ap (λ (s : InlineState). length s.delimiters.placed.items) c.put_reference.ensures.others in
      let kept = ap (λ (s : InlineState). bytes_of s.delimiters.placed.items) c.put_reference.ensures.others in
      let same = ap (λ (s : InlineState). s.doubled) c.put_reference.ensures.others in
      let before = b.before in
      let is : IsBracket text resume c.args.bracket = record { part = b.part; mark = b.mark; before = (let q : c.args.bracket.inside ≤ resume = omega (arith, before) in q) } in
      let reference : IsSlot text resume _ = record {
        part = subst (λ k. IsPart text k resume) (sym c.reference_start.ensures) (reference-part text close c.args.bracket b p);
        before = (let q : resume ≤ resume = omega arith in q);
        content = tt;
      } in
      record {
        slots = put.slots text resume (slots-on text close resume old s.slots le) is reference;
        brackets = subst (AreBrackets text resume) (sym c.clear.ensures.standing) (λ k d lt. absurd (omega (arith, lt)));
        few = (let q : length ss ≤ resume = omega (arith, most, few) in q);
        free = subst (λ (l : List Bracket). AreFree ss l c.clear.new.self.inactive_below) (sym c.clear.ensures.standing) (λ k d low lt. absurd (omega (arith, lt)));
        doubled = c.drop_after.ensures.brackets text resume (subst (λ (v : Brackets). AreBrackets text resume v.standing.items) (sym same) (brackets-on text close resume c.args.self.now.doubled.standing.items s.doubled le));
        doubled_free = c.drop_after.ensures.free ss (subst (λ (v : Brackets). AreFree ss v.standing.items v.inactive_below) (sym same) (free-on old ss c.args.self.now.doubled.standing.items c.args.self.now.doubled.inactive_below s.doubled_free put.links));
        runs = (let q : bytes_of c.truncate-2.new.self.placed.items ≤ length ss = omega (arith, cut, kept, fewer, least) in q);
        examined = (let q : c.truncate-2.new.self.examined + 15 * length c.truncate-2.new.self.placed.items ≤ 15 * resume = omega (arith, seen, looked, less, same-seen, same-count) in q);
      });
  sound = (let old : InlineState = c.args.self.now in
      let put : InlineState = c.put_reference.new.self in
      let b : Bracket = c.args.bracket in
      let o = c.put_reference.ensures.others in
      let puts : PutsReference b (reference_as b (length old.texts.items) (c.args.close + 1)) old.slots.items put.slots.items = search rules in
      let drops : DropsAfter b.start old.doubled.standing.items c.drop_after.new.self.standing.items = subst (λ (v : Brackets). DropsAfter b.start v.standing.items c.drop_after.new.self.standing.items) (ap (λ (s : InlineState). s.doubled) o) c.drop_after.ensures.drops in
      sound-same (length old.texts.items + 1) _ (length old.links.items) _ put.slots.items _ _ _ _ _ _ _ _
      (ap (λ (s : InlineState). length s.texts.items) o ∙ ap length c.in_ok-push.ensures.items ∙ length_push old.texts.items c.args.name) (ap (λ (s : InlineState). length s.links.items) o)
      (c.truncate-2.ensures.placed ∙ ap (λ (s : InlineState). take b.runs s.delimiters.placed.items) o) (c.truncate.ensures ∙ ap (λ (s : InlineState). take b.quotes s.quotes.placed.items) o) c.clear.ensures.standing (let q : c.drop_after.new.self.standing.items ≡ c.drop_after.new.self.standing.items = refl in q)
      (reference-formed (length old.texts.items) (length old.links.items) old.slots.items put.slots.items b (reference_as b (length old.texts.items) (c.args.close + 1)) puts old.delimiters.placed.items old.quotes.placed.items old.brackets.standing.items old.doubled.standing.items c.requires.at.sound c.requires.opening.taken
      c.args.text.now c.args.close c.requires.at.stands.doubled c.drop_after.new.self.standing.items drops refl));
}

pub returns-clause-ends : goal.returns-clause-ends
returns-clause-ends c =
    let old : InlineState = c.args.self.now in
    let put : InlineState = c.put_reference.new.self in
    let b : Bracket = c.args.bracket in
    let puts : PutsReference b (reference_as b (length old.texts.items) (c.args.close + 1)) old.slots.items put.slots.items = search rules in
    reference-ended (length old.texts.items) (length old.links.items) old.slots.items put.slots.items b (reference_as b (length old.texts.items) (c.args.close + 1)) puts c.requires.opening.taken.placed.there refl

pub returns-clause-writes : goal.returns-clause-writes
returns-clause-writes c =
    let old : InlineState = c.args.self.now in
    let put : InlineState = c.put_reference.new.self in
    let b : Bracket = c.args.bracket in
    let o = c.put_reference.ensures.others in
    let puts : PutsReference b (reference_as b (length old.texts.items) (c.args.close + 1)) old.slots.items put.slots.items = search rules in
    writes-reference b c.args.name (c.args.close + 1) old _ c.requires.opening.taken.placed.there c.requires.at.sound.named puts
    (ap (λ (s : InlineState). s.texts.items) o ∙ c.in_ok-push.ensures.items) (ap (λ (s : InlineState). s.links.items) o)
    (c.truncate-2.ensures.placed ∙ ap (λ (s : InlineState). take b.runs s.delimiters.placed.items) o) (c.truncate.ensures ∙ ap (λ (s : InlineState). take b.quotes s.quotes.placed.items) o)
    (let e = c.truncate-2.ensures.examined ∙ ap (λ (s : InlineState). s.delimiters.examined) o in omega (arith, e))

pub returns-clause-leaves : goal.returns-clause-leaves
returns-clause-leaves c =
    let same = ap (λ (s : InlineState). s.doubled) c.put_reference.ensures.others in
    record {
      none = record { standing = c.clear.ensures.standing; inactive_below = c.clear.ensures.inactive_below };
      drops = subst (λ (v : Brackets). Drops c.args.bracket.start v c.drop_after.new.self) same (record { drops = c.drop_after.ensures.drops; inactive_below = c.drop_after.ensures.inactive_below });
    }

pub returns-clause-limits : goal.returns-clause-limits
returns-clause-limits c = record {
  expansion_left = (ap (λ (s : InlineState). s.expansion_left) c.put_reference.ensures.others);
  steps = search rules;
  label_close = (ap (λ (s : InlineState). s.label_close) c.put_reference.ensures.others);
}

pub returns-clause-texts : goal.returns-clause-texts
returns-clause-texts c = ap (λ (s : InlineState). s.texts.items) c.put_reference.ensures.others ∙ c.in_ok-push.ensures.items
