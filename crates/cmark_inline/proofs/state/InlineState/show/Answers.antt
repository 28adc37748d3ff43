use Rattle.std.proofs.Common.{rules, ◌≡◌, ◌≤◌, ◌+◌, ◌++◌, ◌∷◌, [], ℕ, List, drop, length, refl, sym, ap, subst, ◌∙◌, arith}
use Rattle.std.proofs.lemmas.List.{length_push}
use Rattle.cmark_slots.specs.MarkedSlots.{SameBefore}
use Rattle.cmark_slots.specs.Standing.{AreEnded, AreNamed, CanSettle, NamesNoMore}
use Rattle.cmark_slots.specs.Cuts.{Hides, cut_at}
use Rattle.cmark_slots.specs.declared.bracket.Bracket.{Bracket}
use Rattle.cmark_emphasis.specs.declared.run.PlacedRun.{PlacedRun}
use Rattle.cmark_slots.specs.declared.quote.PlacedQuote.{PlacedQuote}
use Rattle.cmark_slots.specs.declared.slot.Slot.{Slot}
use Rattle.cmark_inline.specs.declared.state.InlineState.{InlineState}
use Rattle.cmark_slots.proofs.Naming.{adds-push, ended-on, named-none, named-on, one-ended}
use Rattle.cmark_slots.proofs.RunPlaces.{same-on}
use Rattle.cmark_slots.proofs.Settling.{before-push, can-push}
use Rattle.cmark_slots.proofs.Showing.{shown-before, shown-length, shown-names, shown-settles}
use Rattle.cmark_slots.specs.declared.slot.SlotKind.TheVariants as kind
use Rattle.cmark_slots.proofs.Steps.{no-new, part-from, slots-on, slots-push}
use Rattle.cmark_inline.proofs.state.InlineState.show.Goals as goal

pub cut-requires-clause-slots : goal.cut-requires-clause-slots
cut-requires-clause-slots c = (c.args.close, c.hide.ensures.slots c.args.text.now c.args.close c.requires.at.stands.slots)

pub returns-in_ok-push_slot-in-None-clause-hides : goal.returns-in_ok-push_slot-in-None-clause-hides
returns-in_ok-push_slot-in-None-clause-hides c =
    let old : InlineState = c.args.self.now in
    let d : Bracket = c.args.doubled in
    let p = c.requires.pair.taken.placed in
    let at : ℕ = c.first_after-shown.result in
    let most : at ≤ length old.slots.items = subst (λ (l : List Slot). at ≤ length l) c.deref.ensures.value c.first_after-shown.ensures.within in
    let between : List Slot = c.hide.new.slots.items in
    let cut : List Slot = c.cut.new.slots.items in
    let hides : Hides (d.slot + 1) at old.slots.items between = c.hide.ensures.hides in
    let order : d.slot + 1 ≤ at = c.first_after-shown.ensures.order in
    let is : cut ≡ cut_at c.args.text.now c.unwrap_or-place.result at between = c.cut.ensures.value in
    let names : NamesNoMore old.slots.items cut = subst (NamesNoMore old.slots.items) (sym is) (shown-names (length old.texts.items) (length old.links.items) old.slots.items old.delimiters.placed.items old.quotes.placed.items old.brackets.standing.items old.doubled.standing.items c.requires.at.sound (d.slot + 1) at order most between hides c.args.text.now c.unwrap_or-place.result) in
    let slot : Slot = record { kind = kind.SourceText c.args.wikilink.source_end; start = c.args.doubled.inside; end = c.args.close } in
    let pushed = ap length c.in_ok-push_slot-in-None.ensures ∙ length_push c.cut.new.slots.items _ in
    let hidden = c.hide.ensures.hides.size in
    record {
      names = (λ texts links named. subst (AreNamed texts links) (sym c.in_ok-push_slot-in-None.ensures) (named-none (length cut) slot cut (cut ++ (slot ∷ [])) (adds-push cut slot) texts links (named-on old.slots.items cut names texts links named) refl refl));
      ends = (λ leaf ends source. subst (AreEnded leaf) (sym c.in_ok-push_slot-in-None.ensures) (one-ended (length cut) slot cut (cut ++ (slot ∷ [])) (adds-push cut slot) leaf (ended-on old.slots.items cut names leaf ends) source));
      before = (let before : SameBefore (d.slot + 1) old.slots.items cut = subst (SameBefore (d.slot + 1) old.slots.items) (sym is) (shown-before (length old.texts.items) (length old.links.items) old.slots.items old.delimiters.placed.items old.quotes.placed.items old.brackets.standing.items old.doubled.standing.items c.requires.at.sound (d.slot + 1) at order most between hides c.args.text.now c.unwrap_or-place.result) in
          let size = ap length is ∙ shown-length (length old.texts.items) (length old.links.items) old.slots.items old.delimiters.placed.items old.quotes.placed.items old.brackets.standing.items old.doubled.standing.items c.requires.at.sound (d.slot + 1) at order most between hides c.args.text.now c.unwrap_or-place.result in
          let there = p.there in
          let long : d.slot + 1 ≤ length cut = omega (arith, size, there) in
          subst (SameBefore (d.slot + 1) old.slots.items) (sym c.in_ok-push_slot-in-None.ensures) (same-on (d.slot + 1) old.slots.items cut (cut ++ (slot ∷ [])) before (before-push (d.slot + 1) cut slot long)));
      slots = (λ end h lt.
          let text = c.args.text.now in
          let le : c.args.close ≤ end = omega (arith, lt) in
          slots-push text c.args.close end c.cut.new.slots.items c.push_slot.new.slots.items slot (c.cut.ensures.slots c.args.close (c.hide.ensures.slots text c.args.close h)) le
          (record { part = part-from text c.args.doubled.inside c.args.close c.requires.pair.bracket.part.ends c.requires.end.starts c.requires.pair.inside; before = le; content = tt }) c.in_ok-push_slot-in-None.ensures);
      most = (let cut = c.cut.ensures.length in
          omega (arith, pushed, cut, hidden));
      longer = (let cut = c.cut.ensures.length in
          omega (arith, pushed, cut, hidden));
      links = (λ from h. no-new c.cut.new.slots.items c.push_slot.new.slots.items slot refl c.in_ok-push_slot-in-None.ensures from (c.cut.ensures.links from (c.hide.ensures.links from h)));
    }

pub returns-in_ok-push_slot-in-Some-clause-hides : goal.returns-in_ok-push_slot-in-Some-clause-hides
returns-in_ok-push_slot-in-Some-clause-hides c =
    let old : InlineState = c.args.self.now in
    let d : Bracket = c.args.doubled in
    let p = c.requires.pair.taken.placed in
    let at : ℕ = c.first_after-shown.result in
    let most : at ≤ length old.slots.items = subst (λ (l : List Slot). at ≤ length l) c.deref.ensures.value c.first_after-shown.ensures.within in
    let between : List Slot = c.hide.new.slots.items in
    let cut : List Slot = c.cut.new.slots.items in
    let hides : Hides (d.slot + 1) at old.slots.items between = c.hide.ensures.hides in
    let order : d.slot + 1 ≤ at = c.first_after-shown.ensures.order in
    let is : cut ≡ cut_at c.args.text.now c.unwrap_or-place.result at between = c.cut.ensures.value in
    let names : NamesNoMore old.slots.items cut = subst (NamesNoMore old.slots.items) (sym is) (shown-names (length old.texts.items) (length old.links.items) old.slots.items old.delimiters.placed.items old.quotes.placed.items old.brackets.standing.items old.doubled.standing.items c.requires.at.sound (d.slot + 1) at order most between hides c.args.text.now c.unwrap_or-place.result) in
    let slot : Slot = record { kind = kind.Empty; start = c.args.close; end = c.args.close + 1 } in
    let pushed = ap length c.in_ok-push_slot-in-Some.ensures ∙ length_push c.cut.new.slots.items _ in
    let hidden = c.hide.ensures.hides.size in
    record {
      names = (λ texts links named. subst (AreNamed texts links) (sym c.in_ok-push_slot-in-Some.ensures) (named-none (length cut) slot cut (cut ++ (slot ∷ [])) (adds-push cut slot) texts links (named-on old.slots.items cut names texts links named) refl refl));
      ends = (λ leaf ends source. subst (AreEnded leaf) (sym c.in_ok-push_slot-in-Some.ensures) (one-ended (length cut) slot cut (cut ++ (slot ∷ [])) (adds-push cut slot) leaf (ended-on old.slots.items cut names leaf ends) tt));
      before = (let before : SameBefore (d.slot + 1) old.slots.items cut = subst (SameBefore (d.slot + 1) old.slots.items) (sym is) (shown-before (length old.texts.items) (length old.links.items) old.slots.items old.delimiters.placed.items old.quotes.placed.items old.brackets.standing.items old.doubled.standing.items c.requires.at.sound (d.slot + 1) at order most between hides c.args.text.now c.unwrap_or-place.result) in
          let size = ap length is ∙ shown-length (length old.texts.items) (length old.links.items) old.slots.items old.delimiters.placed.items old.quotes.placed.items old.brackets.standing.items old.doubled.standing.items c.requires.at.sound (d.slot + 1) at order most between hides c.args.text.now c.unwrap_or-place.result in
          let there = p.there in
          let long : d.slot + 1 ≤ length cut = omega (arith, size, there) in
          subst (SameBefore (d.slot + 1) old.slots.items) (sym c.in_ok-push_slot-in-Some.ensures) (same-on (d.slot + 1) old.slots.items cut (cut ++ (slot ∷ [])) before (before-push (d.slot + 1) cut slot long)));
      slots = (λ end h lt.
          let text = c.args.text.now in
          slots-push text c.args.close end c.cut.new.slots.items c.push_slot-in-Some.new.slots.items slot (c.cut.ensures.slots c.args.close (c.hide.ensures.slots text c.args.close h)) (let q : c.args.close ≤ end = omega (arith, lt) in q)
          (record { part = c.requires.end; before = (let q : c.args.close + 1 ≤ end = omega (arith, lt) in q); content = tt }) c.in_ok-push_slot-in-Some.ensures);
      most = (let cut = c.cut.ensures.length in
          omega (arith, pushed, cut, hidden));
      longer = (let cut = c.cut.ensures.length in
          omega (arith, pushed, cut, hidden));
      links = (λ from h. no-new c.cut.new.slots.items c.push_slot-in-Some.new.slots.items slot refl c.in_ok-push_slot-in-Some.ensures from (c.cut.ensures.links from (c.hide.ensures.links from h)));
    }

pub returns-else-place-close-clause-hides : goal.returns-else-place-close-clause-hides
returns-else-place-close-clause-hides c =
    let old : InlineState = c.args.self.now in
    let d : Bracket = c.args.doubled in
    let p = c.requires.pair.taken.placed in
    let at : ℕ = c.first_after-shown.result in
    let most : at ≤ length old.slots.items = subst (λ (l : List Slot). at ≤ length l) c.deref.ensures.value c.first_after-shown.ensures.within in
    let between : List Slot = c.hide.new.slots.items in
    let cut : List Slot = c.cut.new.slots.items in
    let hides : Hides (d.slot + 1) at old.slots.items between = c.hide.ensures.hides in
    let order : d.slot + 1 ≤ at = c.first_after-shown.ensures.order in
    let is : cut ≡ cut_at c.args.text.now c.unwrap_or-place.result at between = c.cut.ensures.value in
    let names : NamesNoMore old.slots.items cut = subst (NamesNoMore old.slots.items) (sym is) (shown-names (length old.texts.items) (length old.links.items) old.slots.items old.delimiters.placed.items old.quotes.placed.items old.brackets.standing.items old.doubled.standing.items c.requires.at.sound (d.slot + 1) at order most between hides c.args.text.now c.unwrap_or-place.result) in
    record {
      names = (λ texts links named. named-on old.slots.items cut names texts links named);
      ends = (λ leaf ends source. ended-on old.slots.items cut names leaf ends);
      before = (let before : SameBefore (d.slot + 1) old.slots.items cut = subst (SameBefore (d.slot + 1) old.slots.items) (sym is) (shown-before (length old.texts.items) (length old.links.items) old.slots.items old.delimiters.placed.items old.quotes.placed.items old.brackets.standing.items old.doubled.standing.items c.requires.at.sound (d.slot + 1) at order most between hides c.args.text.now c.unwrap_or-place.result) in
          before);
      slots = (λ end h lt.
          let text = c.args.text.now in
          slots-on text c.args.close end c.cut.new.slots.items (c.cut.ensures.slots c.args.close (c.hide.ensures.slots text c.args.close h)) (let q : c.args.close ≤ end = omega (arith, lt) in q));
      most = search rules;
      longer = search rules;
      links = search rules;
    }

pub returns-in_ok-push_slot-in-None-clause-inside : goal.returns-in_ok-push_slot-in-None-clause-inside
returns-in_ok-push_slot-in-None-clause-inside c = record {
  bracket = search rules;
  settles = (let old : InlineState = c.args.self.now in
      let d : Bracket = c.args.doubled in
      let p = c.requires.pair.taken.placed in
      let at : ℕ = c.first_after-shown.result in
      let most : at ≤ length old.slots.items = subst (λ (l : List Slot). at ≤ length l) c.deref.ensures.value c.first_after-shown.ensures.within in
      let between : List Slot = c.hide.new.slots.items in
      let cut : List Slot = c.cut.new.slots.items in
      let hides : Hides (d.slot + 1) at old.slots.items between = c.hide.ensures.hides in
      let order : d.slot + 1 ≤ at = c.first_after-shown.ensures.order in
      let is : cut ≡ cut_at c.args.text.now c.unwrap_or-place.result at between = c.cut.ensures.value in
      let runs : List PlacedRun = drop c.first_from.result old.delimiters.placed.items in
      let quotes : List PlacedQuote = drop c.first_from-2.result old.quotes.placed.items in
      let can : CanSettle (d.slot + 1) cut runs quotes = subst (λ l. CanSettle (d.slot + 1) l runs quotes) (sym is) (shown-settles (length old.texts.items) (length old.links.items) old.slots.items old.delimiters.placed.items old.quotes.placed.items old.brackets.standing.items old.doubled.standing.items c.requires.at.sound (d.slot + 1) at order most between hides c.args.text.now c.unwrap_or-place.result c.first_from.result c.first_from-2.result c.first_from.ensures.following c.first_from-2.ensures.following) in
      let slot : Slot = record { kind = kind.SourceText c.args.wikilink.source_end; start = c.args.doubled.inside; end = c.args.close } in
      subst (λ l. CanSettle (d.slot + 1) l runs quotes) (sym c.in_ok-push_slot-in-None.ensures) (can-push (d.slot + 1) cut runs quotes can slot (λ i. refl)));
  runs = search rules;
  runs_there = search rules;
  quotes = search rules;
  quotes_there = search rules;
}

pub returns-in_ok-push_slot-in-Some-clause-inside : goal.returns-in_ok-push_slot-in-Some-clause-inside
returns-in_ok-push_slot-in-Some-clause-inside c = record {
  bracket = search rules;
  settles = (let old : InlineState = c.args.self.now in
      let d : Bracket = c.args.doubled in
      let p = c.requires.pair.taken.placed in
      let at : ℕ = c.first_after-shown.result in
      let most : at ≤ length old.slots.items = subst (λ (l : List Slot). at ≤ length l) c.deref.ensures.value c.first_after-shown.ensures.within in
      let between : List Slot = c.hide.new.slots.items in
      let cut : List Slot = c.cut.new.slots.items in
      let hides : Hides (d.slot + 1) at old.slots.items between = c.hide.ensures.hides in
      let order : d.slot + 1 ≤ at = c.first_after-shown.ensures.order in
      let is : cut ≡ cut_at c.args.text.now c.unwrap_or-place.result at between = c.cut.ensures.value in
      let runs : List PlacedRun = drop c.first_from.result old.delimiters.placed.items in
      let quotes : List PlacedQuote = drop c.first_from-2.result old.quotes.placed.items in
      let can : CanSettle (d.slot + 1) cut runs quotes = subst (λ l. CanSettle (d.slot + 1) l runs quotes) (sym is) (shown-settles (length old.texts.items) (length old.links.items) old.slots.items old.delimiters.placed.items old.quotes.placed.items old.brackets.standing.items old.doubled.standing.items c.requires.at.sound (d.slot + 1) at order most between hides c.args.text.now c.unwrap_or-place.result c.first_from.result c.first_from-2.result c.first_from.ensures.following c.first_from-2.ensures.following) in
      let slot : Slot = record { kind = kind.Empty; start = c.args.close; end = c.args.close + 1 } in
      subst (λ l. CanSettle (d.slot + 1) l runs quotes) (sym c.in_ok-push_slot-in-Some.ensures) (can-push (d.slot + 1) cut runs quotes can slot (λ i. refl)));
  runs = search rules;
  runs_there = search rules;
  quotes = search rules;
  quotes_there = search rules;
}

pub returns-else-place-close-clause-inside : goal.returns-else-place-close-clause-inside
returns-else-place-close-clause-inside c = record {
  bracket = search rules;
  settles = (let old : InlineState = c.args.self.now in
      let d : Bracket = c.args.doubled in
      let p = c.requires.pair.taken.placed in
      let at : ℕ = c.first_after-shown.result in
      let most : at ≤ length old.slots.items = subst (λ (l : List Slot). at ≤ length l) c.deref.ensures.value c.first_after-shown.ensures.within in
      let between : List Slot = c.hide.new.slots.items in
      let cut : List Slot = c.cut.new.slots.items in
      let hides : Hides (d.slot + 1) at old.slots.items between = c.hide.ensures.hides in
      let order : d.slot + 1 ≤ at = c.first_after-shown.ensures.order in
      let is : cut ≡ cut_at c.args.text.now c.unwrap_or-place.result at between = c.cut.ensures.value in
      let runs : List PlacedRun = drop c.first_from.result old.delimiters.placed.items in
      let quotes : List PlacedQuote = drop c.first_from-2.result old.quotes.placed.items in
      let can : CanSettle (d.slot + 1) cut runs quotes = subst (λ l. CanSettle (d.slot + 1) l runs quotes) (sym is) (shown-settles (length old.texts.items) (length old.links.items) old.slots.items old.delimiters.placed.items old.quotes.placed.items old.brackets.standing.items old.doubled.standing.items c.requires.at.sound (d.slot + 1) at order most between hides c.args.text.now c.unwrap_or-place.result c.first_from.result c.first_from-2.result c.first_from.ensures.following c.first_from-2.ensures.following) in
      can);
  runs = search rules;
  runs_there = search rules;
  quotes = search rules;
  quotes_there = search rules;
}
