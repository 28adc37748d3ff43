use Rattle.std.proofs.Common.{rules, ◌≡◌, ◌++◌, ◌∷◌, ◌≤◌, ◌<◌, ◌+◌, ◌*◌, List, [], ℕ, Some, drop, take, length, get_or, set, refl, sym, ap, subst, ◌∙◌, arith}
use Rattle.std.proofs.lemmas.List.{length_push, length-take}
use Rattle.cmark_grammar.specs.Emphasis.{IsEmphasis}
use Rattle.cmark_values.specs.Shown.{shown_options}
use Rattle.cmark_slots.specs.Doubled.{DropsAfter}
use Rattle.cmark_slots.specs.MarkedSlots.{begun_as, siblings_from}
use Rattle.cmark_slots.specs.SlotViews.{shown_slots}
use Rattle.cmark_slots.specs.Standing.{CanSettle, IsSettled}
use Rattle.cmark_slots.specs.Slots.{IsEnd, AreBrackets, AreFree, bytes_of}
use Rattle.cmark_inline.specs.FormedSlots.{dressed_after, end_slot}
use Rattle.cmark_slots.specs.declared.bracket.Bracket.{Bracket}
use Rattle.cmark_slots.specs.declared.bracket.Brackets.{Brackets}
use Rattle.cmark_slots.specs.declared.slot.Slot.{Slot}
use Rattle.cmark_inline.specs.declared.state.InlineState.{InlineState}
use Rattle.cmark_slots.specs.declared.slot.SlotKind.TheVariants as kind
use Rattle.cmark_inline.proofs.Forming.{settle-set, settled-ended, sound-same, take-fewer, wikilink-formed}
use Rattle.cmark_slots.proofs.Marks.{no-slot}
use Rattle.cmark_slots.proofs.Soundness.{sound-more}
use Rattle.cmark_slots.proofs.Steps.{brackets-on}
use Rattle.cmark_inline.proofs.WikiSlots.{writes-shown}
use Rattle.cmark_inline.proofs.state.InlineState.form_wikilink.Goals as goal

pub returns-clause-at : goal.returns-clause-at
returns-clause-at c = record {
  stands = (let s = c.requires.at.stands in
      let text : List ℕ = c.args.text.now in
      let close : ℕ = c.args.close in
      let resume : ℕ = close + 2 in
      let e = c.requires.end in
      let few = s.few in
      let fewer = s.runs in
      let a = c.in_ok-inside.ensures.hides.most in
      let b = c.in_ok-inside.ensures.hides.longer in
      let i = c.begin.ensures.length in
      let j = c.in_ok-finish.ensures.ends.length_is in
      let r = c.in_ok-finish.ensures.drops.runs in
      let t = c.truncate-2.ensures.bytes in
      let seen = s.examined in
      let looked = c.in_ok-finish.ensures.examines.examined in
      let kept-seen = c.truncate-2.ensures.examined in
      let less = ap length c.truncate-2.ensures.placed ∙ length-take c.args.doubled.runs c.finish.new.self.delimiters.placed.items in
      let same-seen = ap (λ (s : InlineState). s.delimiters.examined) c.show.ensures.others in
      let same-count = ap (λ (s : InlineState). length s.delimiters.placed.items) c.show.ensures.others in
      let kept = ap (λ (s : InlineState). bytes_of s.delimiters.placed.items) c.show.ensures.others in
      let same = (ap (λ (s : InlineState). s.brackets) c.finish.ensures.others) ∙ ap (λ (s : InlineState). s.brackets) c.show.ensures.others in
      let ss : List Slot = c.finish.new.self.slots.items in
      let last : IsEnd text resume close resume = record { part = e; before = omega arith; content = tt } in
      record {
        slots = c.in_ok-finish.ensures.ends.slots text resume (c.begin.ensures.slots text resume (c.in_ok-inside.ensures.hides.slots resume s.slots (let q : close < resume = omega arith in q)) e.ends (let q : resume ≤ resume = omega arith in q)) last;
        brackets = subst (AreBrackets text resume) (sym (ap (λ v. v.items) c.deactivate_all.ensures.standing))
            (c.drop_after.ensures.brackets text resume (subst (λ (v : Brackets). AreBrackets text resume v.standing.items) (sym same) (brackets-on text close resume c.args.self.now.brackets.standing.items s.brackets (let q : close ≤ resume = omega arith in q))));
        few = (let q : length ss ≤ resume = omega (arith, a, i, j, few) in q);
        free = c.deactivate_all.ensures.free ss;
        doubled = subst (AreBrackets text resume) (sym c.clear.ensures.standing) (λ k d lt. absurd (omega (arith, lt)));
        doubled_free = subst (λ (l : List Bracket). AreFree ss l c.clear.new.self.inactive_below) (sym c.clear.ensures.standing) (λ k d le lt. absurd (omega (arith, lt)));
        runs = (let q : bytes_of c.truncate-2.new.self.placed.items ≤ length ss = omega (arith, b, i, j, r, t, kept, fewer) in q);
        examined = (let q : c.truncate-2.new.self.examined + 15 * length c.truncate-2.new.self.placed.items ≤ 15 * resume = omega (arith, seen, looked, kept-seen, less, same-seen, same-count) in q);
      });
  sound = (let old : InlineState = c.args.self.now in
      let d : Bracket = c.args.doubled in
      let p = c.requires.pair.taken.placed in
      let shown : InlineState = c.show.new.self in
      let o = c.show.ensures.others in
      let i = c.in_ok-inside.ensures in
      let size = i.hides.longer in
      let there = p.there in
      let within : d.slot < length shown.slots.items = omega (arith, size, there) in
      let s : Slot = begun_as (kind.BeginLink c.linked_element-element.result c.len-index.result) (c.args.close + 2) (get_or shown.slots.items d.slot no-slot) in
      let begun : c.begin.new.slots.items ≡ set shown.slots.items d.slot s = c.begin.ensures.value no-slot in
      let h = c.requires.at.sound in
      let new : InlineState = c.finish.new.self in
      let f = c.in_ok-finish.ensures in
      let settled : IsSettled (d.slot + 1) (set shown.slots.items d.slot s) new.slots.items = subst (λ l. IsSettled (d.slot + 1) l new.slots.items) begun (subst (λ k. IsSettled (k + 1) c.begin.new.slots.items new.slots.items) i.inside.bracket f.settled) in
      let drops : DropsAfter d.start old.brackets.standing.items c.drop_after.new.self.standing.items = subst (λ (v : Brackets). DropsAfter d.start v.standing.items c.drop_after.new.self.standing.items) ((ap (λ (s : InlineState). s.brackets) c.finish.ensures.others) ∙ ap (λ (x : InlineState). x.brackets) o) c.drop_after.ensures.drops in
      let more = ap length c.in_ok-push.ensures.items ∙ length_push old.links.items _ in
      let kept = ap (λ v. length v.items) (ap (λ (s : InlineState). s.links) c.finish.ensures.others) ∙ ap (λ (x : InlineState). length x.links.items) o in
      let index : c.len-index.result ≡ length old.links.items = search rules in
      let n = c.begin.ensures.length in
      let l = f.ends.length_is in
      sound-same (length old.texts.items) (length new.texts.items) (length old.links.items + 1) (length new.links.items) new.slots.items (take d.runs old.delimiters.placed.items) _ (take d.quotes old.quotes.placed.items) _ c.drop_after.new.self.standing.items _ [] _
      (ap (λ v. length v.items) (ap (λ (s : InlineState). s.texts) c.finish.ensures.others) ∙ ap (λ (x : InlineState). length x.texts.items) o)
      (let q : length new.links.items ≡ length old.links.items + 1 = omega (arith, kept, more) in q)
      (c.truncate-2.ensures.placed ∙ ap (take d.runs) f.drops.placed ∙ take-fewer d.runs c.in_ok-inside.inside.runs shown.delimiters.placed.items i.inside.runs ∙ ap (λ (x : InlineState). take d.runs x.delimiters.placed.items) o)
      (c.truncate.ensures ∙ ap (take d.quotes) f.drops.quotes ∙ take-fewer d.quotes c.in_ok-inside.inside.quotes shown.quotes.placed.items i.inside.quotes ∙ ap (λ (x : InlineState). take d.quotes x.quotes.placed.items) o)
      (ap (λ v. v.items) c.deactivate_all.ensures.standing) c.clear.ensures.standing
      (wikilink-formed (length old.texts.items) (length old.links.items) old.slots.items old.delimiters.placed.items old.quotes.placed.items old.brackets.standing.items old.doubled.standing.items h d c.requires.pair.taken c.args.text.now c.args.close c.requires.at.stands.brackets
      c.drop_after.new.self.standing.items drops s refl (ap Some index) shown.slots.items new.slots.items size (let q : length shown.slots.items ≤ length new.slots.items = omega (arith, n, l) in q) i.hides.before (i.hides.names (length old.texts.items) (length old.links.items) h.named) settled));
}

pub returns-clause-forms : goal.returns-clause-forms
returns-clause-forms c = record {
  parts = search rules;
  link = (λ plain. c.in_ok-finish.ensures.ends.links (c.args.doubled.slot + 1) (c.begin.ensures.following (c.in_ok-inside.ensures.hides.links c.args.doubled.slot (c.requires.free plain))));
  leaves = (let start : ℕ = c.args.doubled.start in
      let same = (ap (λ (s : InlineState). s.brackets) c.finish.ensures.others) ∙ ap (λ (s : InlineState). s.brackets) c.show.ensures.others in
      let drops = subst (λ (v : Brackets). DropsAfter start v.standing.items c.drop_after.new.self.standing.items) same c.drop_after.ensures.drops in
      let standing = ap (λ v. v.items) c.deactivate_all.ensures.standing in
      record {
        drops = subst (DropsAfter start c.args.self.now.brackets.standing.items) (sym standing) drops;
        inactive_below = c.deactivate_all.ensures.inactive_below ∙ ap length (sym standing);
        none = record { standing = c.clear.ensures.standing; inactive_below = c.clear.ensures.inactive_below };
      });
  writes = (let old : InlineState = c.args.self.now in
      let d : Bracket = c.args.doubled in
      let p = c.requires.pair.taken.placed in
      let shown : InlineState = c.show.new.self in
      let o = c.show.ensures.others in
      let i = c.in_ok-inside.ensures in
      let size = i.hides.longer in
      let there = p.there in
      let within : d.slot < length shown.slots.items = omega (arith, size, there) in
      let inside : Bracket = c.in_ok-inside.inside in
      let close : ℕ = c.args.close in
      let options = shown_options c.args.options in
      let s : Slot = begun_as (kind.BeginLink c.linked_element-element.result c.len-index.result) (close + 2) (get_or shown.slots.items d.slot no-slot) in
      let begun : c.begin.new.slots.items ≡ set shown.slots.items d.slot s = c.begin.ensures.value no-slot in
      let new : InlineState = c.finish.new.self in
      let f = c.in_ok-finish.ensures in
      let index : c.len-index.result ≡ length old.links.items = search rules in
      writes-shown options c.args.text.now d close c.args.wikilink old _ c.named_link.result c.len-index.result c.linked_element-element.result shown.slots.items inside i.shows
      there size i.hides.before c.requires.at.stands.slots (i.hides.names (length old.texts.items) (length old.links.items) c.requires.at.sound.named) i.inside.settles
      (ap (λ v. v.items) (ap (λ (s : InlineState). s.texts) c.finish.ensures.others) ∙ ap (λ (x : InlineState). x.texts.items) o)
      (ap (λ v. v.items) (ap (λ (s : InlineState). s.links) c.finish.ensures.others) ∙ ap (λ (x : InlineState). x.links.items) o ∙ c.in_ok-push.ensures.items)
      c.named_link.ensures index c.linked_element-element.ensures
      (record {
        runs = c.truncate-2.ensures.placed ∙ ap (take d.runs) f.drops.placed ∙ take-fewer d.runs inside.runs shown.delimiters.placed.items i.inside.runs ∙ ap (λ (x : InlineState). take d.runs x.delimiters.placed.items) o;
        quotes = c.truncate.ensures ∙ ap (take d.quotes) f.drops.quotes ∙ take-fewer d.quotes inside.quotes shown.quotes.placed.items i.inside.quotes ∙ ap (λ (x : InlineState). take d.quotes x.quotes.placed.items) o;
        examined = (let e = c.truncate-2.ensures.examined in let l = f.examines.least in let s = ap (λ (x : InlineState). x.delimiters.examined) o in omega (arith, e, l, s));
      })
      (λ leaf pairs spans emphasis.
      f.dressed leaf new.texts.items new.links.items pairs spans (subst (λ (x : InlineState). IsEmphasis (siblings_from 0 (drop inside.runs x.delimiters.placed.items)) pairs spans) (sym o) emphasis)
      ∙ ap (λ (x : InlineState). dressed_after options inside pairs x.delimiters.placed.items x.quotes.placed.items (shown_slots leaf new.texts.items new.links.items (c.begin.new.slots.items ++ (end_slot close (close + 2) ∷ [])))) o
      ∙ ap (λ l. dressed_after options inside pairs old.delimiters.placed.items old.quotes.placed.items (shown_slots leaf new.texts.items new.links.items (l ++ (end_slot close (close + 2) ∷ [])))) begun));
}

pub show-requires-clause-at : goal.show-requires-clause-at
show-requires-clause-at c = record {
  stands = search rules;
  sound = (let old : InlineState = c.args.self.now in
      let more = ap length c.in_ok-push.ensures.items ∙ length_push old.links.items _ in
      let n = c.push.new.self.items in
      sound-more (length old.texts.items) (length old.links.items) (length n) old.slots.items old.delimiters.placed.items old.quotes.placed.items old.brackets.standing.items old.doubled.standing.items (let q : length old.links.items ≤ length n = omega (arith, more) in q) c.requires.at.sound);
}

pub finish-requires-clause-within : goal.finish-requires-clause-within
finish-requires-clause-within c = record {
  runs = (let longer = c.in_ok-inside.ensures.hides.longer in
      let begun = c.begin.ensures.length in
      let runs = c.requires.at.stands.runs in
      let kept = ap (λ (s : InlineState). bytes_of s.delimiters.placed.items) c.show.ensures.others in
      omega (arith, longer, begun, runs, kept));
  there = (let d : Bracket = c.args.doubled in
      let p = c.requires.pair.taken.placed in
      let shown : InlineState = c.show.new.self in
      let o = c.show.ensures.others in
      let i = c.in_ok-inside.ensures in
      let size = i.hides.longer in
      let there = p.there in
      let within : d.slot < length shown.slots.items = omega (arith, size, there) in
      let n = c.begin.ensures.length in
      subst (λ k. k < length c.begin.new.slots.items) (sym i.inside.bracket) (omega (arith, n, within)));
  runs_there = (let there = c.in_ok-inside.ensures.inside.runs_there in
      let kept = ap (λ (s : InlineState). length s.delimiters.placed.items) c.show.ensures.others in
      omega (arith, there, kept));
  quotes_there = (let there = c.in_ok-inside.ensures.inside.quotes_there in
      let kept = ap (λ (s : InlineState). length s.quotes.placed.items) c.show.ensures.others in
      omega (arith, there, kept));
}

pub finish-requires-clause-settles : goal.finish-requires-clause-settles
finish-requires-clause-settles c =
    let old : InlineState = c.args.self.now in
    let d : Bracket = c.args.doubled in
    let p = c.requires.pair.taken.placed in
    let shown : InlineState = c.show.new.self in
    let o = c.show.ensures.others in
    let i = c.in_ok-inside.ensures in
    let size = i.hides.longer in
    let there = p.there in
    let within : d.slot < length shown.slots.items = omega (arith, size, there) in
    let s : Slot = begun_as (kind.BeginLink c.linked_element-element.result c.len-index.result) (c.args.close + 2) (get_or shown.slots.items d.slot no-slot) in
    let begun : c.begin.new.slots.items ≡ set shown.slots.items d.slot s = c.begin.ensures.value no-slot in
    let n : ℕ = c.in_ok-inside.inside.runs in
    let m : ℕ = c.in_ok-inside.inside.quotes in
    let text : (e : Slot) → (get_or shown.slots.items d.slot e).kind ≡ kind.Text = λ e. ap (λ (x : Slot). x.kind) (i.hides.before d.slot e (omega arith)) ∙ p.text e in
    let can : CanSettle (d.slot + 1) (set shown.slots.items d.slot s) (drop n old.delimiters.placed.items) (drop m old.quotes.placed.items) = settle-set (d.slot + 1) shown.slots.items (drop n old.delimiters.placed.items) (drop m old.quotes.placed.items) i.inside.settles d.slot s (omega arith) within text (λ j. refl) in
    subst (λ k. CanSettle (k + 1) c.begin.new.slots.items (drop n shown.delimiters.placed.items) (drop m shown.quotes.placed.items)) (sym i.inside.bracket)
    (subst (λ l. CanSettle (d.slot + 1) l (drop n shown.delimiters.placed.items) (drop m shown.quotes.placed.items)) (sym begun)
    (subst (λ (x : InlineState). CanSettle (d.slot + 1) (set shown.slots.items d.slot s) (drop n x.delimiters.placed.items) (drop m x.quotes.placed.items)) (sym o) can))

pub returns-clause-ends : goal.returns-clause-ends
returns-clause-ends c = λ leaf ends source.
    let old : InlineState = c.args.self.now in
    let d : Bracket = c.args.doubled in
    let p = c.requires.pair.taken.placed in
    let shown : InlineState = c.show.new.self in
    let o = c.show.ensures.others in
    let i = c.in_ok-inside.ensures in
    let size = i.hides.longer in
    let there = p.there in
    let within : d.slot < length shown.slots.items = omega (arith, size, there) in
    let s : Slot = begun_as (kind.BeginLink c.linked_element-element.result c.len-index.result) (c.args.close + 2) (get_or shown.slots.items d.slot no-slot) in
    let begun : c.begin.new.slots.items ≡ set shown.slots.items d.slot s = c.begin.ensures.value no-slot in
    let new : InlineState = c.finish.new.self in
    let settled : IsSettled (d.slot + 1) (set shown.slots.items d.slot s) new.slots.items = subst (λ l. IsSettled (d.slot + 1) l new.slots.items) begun (subst (λ k. IsSettled (k + 1) c.begin.new.slots.items new.slots.items) i.inside.bracket c.in_ok-finish.ensures.settled) in
    settled-ended shown.slots.items d.slot (d.slot + 1) s new.slots.items refl settled leaf (i.hides.ends leaf ends source)

pub returns-clause-limits : goal.returns-clause-limits
returns-clause-limits c = record {
  expansion_left = ((ap (λ (s : InlineState). s.expansion_left) c.finish.ensures.others) ∙ ap (λ (s : InlineState). s.expansion_left) c.show.ensures.others);
  steps = search rules;
  label_close = ((ap (λ (s : InlineState). s.label_close) c.finish.ensures.others) ∙ ap (λ (s : InlineState). s.label_close) c.show.ensures.others);
}
