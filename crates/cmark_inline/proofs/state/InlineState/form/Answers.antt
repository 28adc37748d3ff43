use Rattle.std.proofs.Common.{rules, ◌≡◌, ◌≤◌, ◌<◌, ◌+◌, ◌*◌, ◌++◌, ◌∷◌, [], true, List, ℕ, Some, drop, length, set, get_or, refl, sym, ap, subst, ◌∙◌, arith}
use Rattle.std.specs.Prelude.{if◌then◌else◌}
use Rattle.std.proofs.lemmas.List.{length_push}
use Rattle.cmark_inline.specs.Closers.{Drops}
use Rattle.cmark_slots.specs.Slots.{HoldNoLink, IsSlot, AreBrackets, AreFree, bytes_of, is_link}
use Rattle.cmark_inline.specs.Sound.{IsSound}
use Rattle.cmark_inline.specs.Stands.{IsTarget, Stands}
use Rattle.cmark_leaf_text.specs.Reads.{IsPart}
use Rattle.cmark_leaf_text.specs.declared.leaf_text.LeafText.{LeafText}
use Rattle.cmark_slots.specs.declared.bracket.Brackets.{Brackets}
use Rattle.cmark_inline.specs.declared.link.Target.{Target}
use Rattle.cmark_inline.specs.declared.state.InlineState.{InlineState}
use Rattle.cmark_slots.specs.declared.slot.Slot.{Slot}
use Rattle.cmark_slots.specs.declared.slot.SlotKind.TheVariants as kind
use Rattle.cmark_slots.proofs.Steps.{slots-on, brackets-on, free-on, part-from}
use Rattle.cmark_slots.specs.MarkedSlots.{begun_as}
use Rattle.cmark_values.specs.Shown.{shown_options}
use Rattle.cmark_slots.specs.SlotViews.{link_tag, linked_at, shown_slots}
use Rattle.cmark_inline.specs.FormedSlots.{WritesElement, dressed_after, end_slot}
use Rattle.cmark_slots.specs.Standing.{AreEnded, CanSettle, IsSettled}
use Rattle.cmark_slots.specs.declared.slot.LinkElement.TheVariants as element
use Rattle.cmark_inline.proofs.Deactivating.{leaves-element, linked-shown, still-brackets, still-free, still-standing}
use Rattle.cmark_inline.proofs.ElementWrites.{writes-element}
use Rattle.cmark_inline.proofs.Forming.{link-formed, settle-set, settled-ended, sound-same}
use Rattle.cmark_slots.proofs.Marks.{no-slot}
use Rattle.cmark_slots.proofs.Soundness.{sound-settles}
use Rattle.cmark_inline.proofs.state.InlineState.form.Goals as goal

last-slot : (text : List ℕ) (close : ℕ) (target : Target) → IsPart text close (close + 1) → IsTarget text close target → IsSlot text target.resume (record { kind = kind.End; start = close; end = target.end })
last-slot text close target p t = record { part = part-from text close target.end p.starts t.ends t.following; before = t.ordered; content = tt }

pub returns-clause-at : goal.returns-clause-at
returns-clause-at c =
    let formed : InlineState = c.finish.new.self in
    let new : InlineState = c.deactivate_after.new.self in
    let d = c.deactivate_after.ensures in
    record {
      stands = (let t = c.requires.target in
          let s = c.requires.at.stands in
          let text : List ℕ = c.args.text.now in
          let resume : ℕ = c.args.target.resume in
          let image = c.args.bracket.is_image in
          let b = t.following in
          let o = t.ordered in
          let few = s.few in
          let fewer = s.runs in
          let lt : c.args.close < resume = omega (arith, b, o) in
          let le : c.args.close ≤ resume = omega (arith, lt) in
          let ss : List Slot = c.args.self.now.slots.items in
          let brackets : Brackets = c.args.self.now.brackets in
          let dropped : Brackets = c.drop_after.new.self in
          let i = c.begin.ensures.length in
          let j = c.in_ok-finish.ensures.ends.length_is in
          let r = c.in_ok-finish.ensures.drops.runs in
          let seen = s.examined in
          let looked = c.in_ok-finish.ensures.examines.examined in
          let plain = λ (is : image ≡ true). ap is_link c.linked_element-element.ensures ∙ ap (λ z. is_link (if z then element.Image else element.Link)) is in
          subst (Stands text resume) (sym d.others) (record {
            slots = c.in_ok-finish.ensures.ends.slots text resume (c.begin.ensures.slots text resume (slots-on text c.args.close resume ss s.slots le) t.ends o) (last-slot text c.args.close c.args.target c.requires.close t);
            brackets = still-brackets image text resume formed.brackets new.brackets d.brackets (subst (λ (v : Brackets). AreBrackets text resume v.standing.items) (sym (ap (λ (s : InlineState). s.brackets) c.finish.ensures.others)) (brackets-on text c.args.close resume brackets.standing.items s.brackets le));
            few = (let q : length formed.slots.items ≤ resume = omega (arith, i, j, few, lt) in q);
            free = still-free image formed.slots.items formed.brackets new.brackets d.brackets (λ is. subst (λ (v : Brackets). AreFree formed.slots.items v.standing.items v.inactive_below) (sym (ap (λ (s : InlineState). s.brackets) c.finish.ensures.others))
                (free-on ss formed.slots.items brackets.standing.items brackets.inactive_below s.free (λ from h. c.in_ok-finish.ensures.ends.links from (c.begin.ensures.links (plain is) from h))));
            doubled = still-brackets image text resume formed.doubled new.doubled d.doubled (subst (λ (w : Brackets). AreBrackets text resume w.standing.items) (sym (ap (λ (s : InlineState). s.doubled) c.finish.ensures.others))
                (c.drop_after.ensures.brackets text resume (brackets-on text c.args.close resume c.args.self.now.doubled.standing.items s.doubled le)));
            doubled_free = still-free image formed.slots.items formed.doubled new.doubled d.doubled (λ is. subst (λ (w : Brackets). AreFree formed.slots.items w.standing.items w.inactive_below) (sym (ap (λ (s : InlineState). s.doubled) c.finish.ensures.others))
                (free-on ss formed.slots.items dropped.standing.items dropped.inactive_below (c.drop_after.ensures.free ss s.doubled_free) (λ from h. c.in_ok-finish.ensures.ends.links from (c.begin.ensures.links (plain is) from h))));
            runs = (let q : bytes_of formed.delimiters.placed.items ≤ length formed.slots.items = omega (arith, i, j, r, fewer) in q);
            examined = (let q : formed.delimiters.examined + 15 * length formed.delimiters.placed.items ≤ 15 * resume = omega (arith, seen, looked, le) in q);
          }));
      sound = (let old = c.args.self.now in
          let p = c.requires.taken.placed in
          let b = c.args.bracket in
          let f = c.in_ok-finish.ensures in
          let s : Slot = begun_as (kind.BeginLink c.linked_element-element.result c.len.result) c.args.target.end (get_or old.slots.items b.slot no-slot) in
          let settled : IsSettled (b.slot + 1) (set old.slots.items b.slot s) formed.slots.items = subst (λ l. IsSettled (b.slot + 1) l formed.slots.items) (c.begin.ensures.value no-slot) f.settled in
          let m = f.ends.length_is in
          let n = c.begin.ensures.length in
          let index : c.len.result ≡ length old.links.items = search rules in
          let more = ap (λ v. length v.items) (ap (λ (s : InlineState). s.links) c.finish.ensures.others) ∙ ap length c.in_ok-push.ensures.items ∙ length_push old.links.items c.args.target.link in
          subst IsSound (sym d.others)
          (sound-same (length old.texts.items) (length formed.texts.items) (length old.links.items + 1) (length formed.links.items) formed.slots.items _ formed.delimiters.placed.items _ formed.quotes.placed.items old.brackets.standing.items _ c.drop_after.new.self.standing.items _
          (ap (λ v. length v.items) (ap (λ (s : InlineState). s.texts) c.finish.ensures.others)) (let q : length formed.links.items ≡ length old.links.items + 1 = omega (arith, more) in q) f.drops.placed f.drops.quotes
          (still-standing b.is_image formed.brackets new.brackets d.brackets ∙ ap (λ (v : Brackets). v.standing.items) (ap (λ (s : InlineState). s.brackets) c.finish.ensures.others)) (still-standing b.is_image formed.doubled new.doubled d.doubled ∙ ap (λ (v : Brackets). v.standing.items) (ap (λ (s : InlineState). s.doubled) c.finish.ensures.others))
          (link-formed (length old.texts.items) (length old.links.items) old.slots.items old.delimiters.placed.items old.quotes.placed.items old.brackets.standing.items old.doubled.standing.items c.requires.at.sound b c.requires.taken c.args.text.now c.args.close c.requires.at.stands.doubled
          c.drop_after.new.self.standing.items c.drop_after.ensures.drops s refl (ap Some index) formed.slots.items (let q : length old.slots.items ≤ length formed.slots.items = omega (arith, m, n) in q) settled)));
    }

pub returns-clause-forms : goal.returns-clause-forms
returns-clause-forms c = record {
  kept = (ap (λ (s : InlineState). s.links.items) c.deactivate_after.ensures.others ∙ ap (λ v. v.items) (ap (λ (s : InlineState). s.links) c.finish.ensures.others) ∙ c.in_ok-push.ensures.items);
  link = (λ plain. subst (λ (s : InlineState). HoldNoLink s.slots.items (c.args.bracket.slot + 1)) (sym c.deactivate_after.ensures.others)
      (c.in_ok-finish.ensures.ends.links (c.args.bracket.slot + 1) (c.begin.ensures.following (c.requires.free plain))));
  leaves = (let d = c.deactivate_after.ensures in
      leaves-element c.args.bracket.is_image c.args.bracket.start c.args.self.now c.finish.new.self c.deactivate_after.new.self (ap (λ (s : InlineState). s.brackets) c.finish.ensures.others)
      (subst (Drops c.args.bracket.start c.args.self.now.doubled) (sym (ap (λ (s : InlineState). s.doubled) c.finish.ensures.others)) (record { drops = c.drop_after.ensures.drops; inactive_below = c.drop_after.ensures.inactive_below })) d.brackets d.doubled);
  writes = (let old = c.args.self.now in
      let formed : InlineState = c.finish.new.self in
      let new : InlineState = c.deactivate_after.new.self in
      let b = c.args.bracket in
      let p = c.requires.taken.placed in
      let f = c.in_ok-finish.ensures in
      let t = c.requires.target in
      let begins = c.begin.ensures.value no-slot in
      let index : c.len.result ≡ length old.links.items = search rules in
      let texts = ap (λ v. v.items) (ap (λ (s : InlineState). s.texts) c.finish.ensures.others) in
      let links = ap (λ v. v.items) (ap (λ (s : InlineState). s.links) c.finish.ensures.others) ∙ c.in_ok-push.ensures.items in
      let can = sound-settles (length old.texts.items) (length old.links.items) old.slots.items old.delimiters.placed.items old.quotes.placed.items old.brackets.standing.items old.doubled.standing.items c.requires.at.sound b p in
      subst (WritesElement (shown_options c.args.options) b c.args.target old) (sym c.deactivate_after.ensures.others)
      (writes-element (shown_options c.args.options) b c.args.target old (record formed { brackets = new.brackets; doubled = new.doubled }) c.linked_element-element.result c.len.result p.there c.args.close c.args.text.now c.requires.at.stands.slots t.following c.requires.at.sound.named can texts links
      (ap (λ m. link_tag m (linked_at (old.links.items ++ (c.args.target.link ∷ [])) c.len.result)) c.linked_element-element.ensures ∙ linked-shown b.is_image old.links.items c.args.target.link c.len.result index) f.drops.placed f.drops.quotes
      (λ leaf pairs spans emphasis. f.dressed leaf formed.texts.items formed.links.items pairs spans emphasis ∙ ap (λ l. dressed_after (shown_options c.args.options) b pairs old.delimiters.placed.items old.quotes.placed.items (shown_slots leaf formed.texts.items formed.links.items (l ++ (end_slot c.args.close c.args.target.end ∷ [])))) begins) f.examines.least));
}

pub returns-clause-limits : goal.returns-clause-limits
returns-clause-limits c = record {
  expansion_left = (ap (λ (s : InlineState). s.expansion_left) c.deactivate_after.ensures.others ∙ (ap (λ (s : InlineState). s.expansion_left) c.finish.ensures.others));
  steps = search rules;
  label_close = (ap (λ (s : InlineState). s.label_close) c.deactivate_after.ensures.others ∙ (ap (λ (s : InlineState). s.label_close) c.finish.ensures.others));
}

pub finish-requires-clause-within : goal.finish-requires-clause-within
finish-requires-clause-within c = record {
  runs = search rules;
  there = (let t = c.requires.taken.placed.there in
      let n = c.begin.ensures.length in
      omega (arith, t, n));
  runs_there = search rules;
  quotes_there = search rules;
}

pub finish-requires-clause-settles : goal.finish-requires-clause-settles
finish-requires-clause-settles c =
    let old = c.args.self.now in
    let h = c.requires.at.sound in
    let p = c.requires.taken.placed in
    let b = c.args.bracket in
    let s : Slot = begun_as (kind.BeginLink c.linked_element-element.result c.len.result) c.args.target.end (get_or old.slots.items b.slot no-slot) in
    subst (λ l. CanSettle (b.slot + 1) l (drop b.runs old.delimiters.placed.items) (drop b.quotes old.quotes.placed.items)) (sym (c.begin.ensures.value no-slot))
    (settle-set (b.slot + 1) old.slots.items (drop b.runs old.delimiters.placed.items) (drop b.quotes old.quotes.placed.items)
    (sound-settles (length old.texts.items) (length old.links.items) old.slots.items old.delimiters.placed.items old.quotes.placed.items old.brackets.standing.items old.doubled.standing.items h b p) b.slot s (omega arith) p.there p.text (λ i. refl))

pub returns-clause-ends : goal.returns-clause-ends
returns-clause-ends c =
    let old = c.args.self.now in
    let formed : InlineState = c.finish.new.self in
    let b = c.args.bracket in
    let s : Slot = begun_as (kind.BeginLink c.linked_element-element.result c.len.result) c.args.target.end (get_or old.slots.items b.slot no-slot) in
    subst (λ (x : InlineState). (leaf : LeafText) → AreEnded leaf old.slots.items → AreEnded leaf x.slots.items) (sym c.deactivate_after.ensures.others)
    (settled-ended old.slots.items b.slot (b.slot + 1) s formed.slots.items refl (subst (λ l. IsSettled (b.slot + 1) l formed.slots.items) (c.begin.ensures.value no-slot) c.in_ok-finish.ensures.settled))
