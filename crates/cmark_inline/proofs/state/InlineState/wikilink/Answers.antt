use Rattle.std.proofs.Common.{rules, ◌-◌, length, ap, sym, ◌∙◌, arith, ◌+◌, ℕ, List, subst}
use Rattle.cmark_values.specs.Shown.{shown_options}
use Rattle.cmark_inline.specs.Hiding.{WritesWikilink}
use Rattle.cmark_slots.specs.declared.bracket.Bracket.{Bracket}
use Rattle.cmark_inline.specs.declared.state.InlineState.{InlineState}
use Rattle.cmark_slots.proofs.Opening.{is-pair, last-nearest, sound-pair-taken, taken-fewer}
use Rattle.cmark_inline.proofs.WikiSlots.{writes-taken}
use Rattle.cmark_inline.proofs.WikiSteps.{two-brackets}
use Rattle.std.specs.Prelude.{Some, IfSome, Option, Bool, ◌&&◌, ◌==◌, drop, nat_lt}
use Rattle.cmark_grammar.specs.BracketDecisions.{name_in}
use Rattle.cmark_grammar.specs.Letters.{first_is}
use Rattle.cmark_inline.specs.Closers.{LeavesWikilink, TriesDoubled}
use Rattle.cmark_inline.specs.Wikilinks.{is_wikilink, wiki_text}
use Rattle.cmark_slots.specs.Doubled.{nearest}
use Rattle.cmark_leaf_text.specs.Reads.{IsPart, text_of}
use Rattle.cmark_slots.specs.Standing.{EndsIn}
use Rattle.cmark_inline.proofs.SourceOrder.{ends-at-byte}
use Rattle.cmark_inline.proofs.state.InlineState.wikilink.Goals as goal

pub form_wikilink-requires-clause-end : goal.form_wikilink-requires-clause-end
form_wikilink-requires-clause-end c =
    let follows = c.if-not-is_followed_by.false in
    two-brackets c.args.text.now c.args.close c.utf8.text c.requires.close (c.is_followed_by.ensures.within follows) (c.is_followed_by.ensures.byte follows)

pub returns-clause-pair : goal.returns-clause-pair
returns-clause-pair c = record {
  pending = search rules;
  at = search rules;
  moves = (let follows = c.if-not-is_followed_by.false in
      let e = two-brackets c.args.text.now c.args.close c.utf8.text c.requires.close (c.is_followed_by.ensures.within follows) (c.is_followed_by.ensures.byte follows) in
      record {
        stands = c.in_ok-form_wikilink.ensures.at.stands;
        cursor = record { pending = e.ends; at = e.ends; ordered = omega arith };
        further = omega arith;
      });
  leaves = (let left = c.in_ok-form_wikilink.ensures.forms.leaves in
      subst (λ (o : Option (Bracket × Bool)). IfSome o (λ tried. LeavesWikilink tried.0.start c.args.self.now c.form_wikilink.new.self)) (sym c.in-Some.is ∙ c.take.ensures.value) (record { drops = left.drops; inactive_below = left.inactive_below; none = left.none }));
  writes = (let old : InlineState = c.args.self.now in
      let new : InlineState = c.form_wikilink.new.self in
      let options = shown_options c.args.options in
      subst (λ (o : Option (Bracket × Bool)). IfSome o (λ tried. WritesWikilink options c.args.leaf.now c.args.text.now tried.0 c.args.close old new)) (sym c.in-Some.is ∙ c.take.ensures.value) (record {
        wikilink = c.in-Some-wikilink_at.wikilink;
        is = c.in-Some-wikilink_at.ensures.is;
        writes = writes-taken options c.args.text.now c.in-Some.doubled c.args.close c.in-Some-wikilink_at.wikilink old new c.take.new.self c.in_ok-form_wikilink.ensures.forms.writes;
      }));
}

pub returns-then-not-forms-clause-sound : goal.returns-then-not-forms-clause-sound
returns-then-not-forms-clause-sound c =
    let old : InlineState = c.args.self.now in
    sound-pair-taken (length old.texts.items) (length old.links.items) old.slots.items old.delimiters.placed.items old.quotes.placed.items old.brackets.standing.items old.doubled.standing.items c.requires.at.sound c.take.new.self.standing.items c.take.ensures.others

pub returns-then-not-forms-clause-tries : goal.returns-then-not-forms-clause-tries
returns-then-not-forms-clause-tries c = λ none. record {
  taken = (let old : InlineState = c.args.self.now in
      λ bracket t. taken-fewer old.slots.items old.delimiters.placed.items old.quotes.placed.items old.brackets.standing.items old.doubled.standing.items c.take.new.self.standing.items bracket (length old.doubled.standing.items - 1) c.take.ensures.others t);
  stands = (let s = c.requires.at.stands in record { slots = s.slots; brackets = s.brackets; few = s.few; free = s.free; doubled = c.take.ensures.brackets c.args.text.now c.args.close s.doubled; doubled_free = c.take.ensures.free c.args.self.now.slots.items s.doubled_free; runs = s.runs; examined = s.examined });
  others = search rules;
  tried = (let follows = sym c.is_followed_by.ensures.value ∙ c.if-not-is_followed_by.false in
      let on = sym (c.contains.ensures tt) ∙ c.if-not-contains.false in
      let read = ap (λ x. x && first_is (λ b. b == 93) (drop (c.args.close + 1) c.args.text.now)) on ∙ follows in
      subst (λ z. TriesDoubled z c.args.self.now.doubled c.take.new.self) (sym read) (record { others = c.take.ensures.others; inactive_below = c.take.ensures.inactive_below }));
}

pub returns-in_default-wikilink_at-clause-sound : goal.returns-in_default-wikilink_at-clause-sound
returns-in_default-wikilink_at-clause-sound c =
    let old : InlineState = c.args.self.now in
    sound-pair-taken (length old.texts.items) (length old.links.items) old.slots.items old.delimiters.placed.items old.quotes.placed.items old.brackets.standing.items old.doubled.standing.items c.requires.at.sound c.take.new.self.standing.items c.take.ensures.others

pub returns-in_default-wikilink_at-clause-tries : goal.returns-in_default-wikilink_at-clause-tries
returns-in_default-wikilink_at-clause-tries c = λ none. record {
  taken = (let old : InlineState = c.args.self.now in
      λ bracket t. taken-fewer old.slots.items old.delimiters.placed.items old.quotes.placed.items old.brackets.standing.items old.doubled.standing.items c.take.new.self.standing.items bracket (length old.doubled.standing.items - 1) c.take.ensures.others t);
  stands = (let s = c.requires.at.stands in record { slots = s.slots; brackets = s.brackets; few = s.few; free = s.free; doubled = c.take.ensures.brackets c.args.text.now c.args.close s.doubled; doubled_free = c.take.ensures.free c.args.self.now.slots.items s.doubled_free; runs = s.runs; examined = s.examined });
  others = search rules;
  tried = (let follows = sym c.is_followed_by.ensures.value ∙ c.if-not-is_followed_by.false in
      let on = sym (c.contains.ensures tt) ∙ c.if-not-contains.false in
      let read = ap (λ x. x && first_is (λ b. b == 93) (drop (c.args.close + 1) c.args.text.now)) on ∙ follows in
      subst (λ z. TriesDoubled z c.args.self.now.doubled c.take.new.self) (sym read) (record { others = c.take.ensures.others; inactive_below = c.take.ensures.inactive_below }));
}

pub wikilink_at-requires-clause-doubled : goal.wikilink_at-requires-clause-doubled
wikilink_at-requires-clause-doubled c =
    let old : InlineState = c.args.self.now in
    c.in-Some.ensures.bracket c.args.text.now c.args.close c.requires.at.stands.doubled

pub returns-clause-ends : goal.returns-clause-ends
returns-clause-ends c = λ e.
    let leaf = c.args.leaf.now in
    let close : ℕ = c.args.close in
    let part = subst (λ (t : List ℕ). IsPart t close (close + 1)) c.requires.text.same c.requires.close in
    c.in_ok-form_wikilink.ensures.ends leaf e (subst (λ (p : ℕ). EndsIn leaf close (Some p)) (sym c.in-Some-wikilink_at.ensures.is.ends) (ends-at-byte leaf c.requires.text.read close part))

pub returns-in_default-clause-sound : goal.returns-in_default-clause-sound
returns-in_default-clause-sound c =
    let old : InlineState = c.args.self.now in
    sound-pair-taken (length old.texts.items) (length old.links.items) old.slots.items old.delimiters.placed.items old.quotes.placed.items old.brackets.standing.items old.doubled.standing.items c.requires.at.sound c.take.new.self.standing.items c.take.ensures.others

pub returns-in_default-clause-tries : goal.returns-in_default-clause-tries
returns-in_default-clause-tries c = λ none. record {
  taken = (let old : InlineState = c.args.self.now in
      λ bracket t. taken-fewer old.slots.items old.delimiters.placed.items old.quotes.placed.items old.brackets.standing.items old.doubled.standing.items c.take.new.self.standing.items bracket (length old.doubled.standing.items - 1) c.take.ensures.others t);
  stands = (let s = c.requires.at.stands in record { slots = s.slots; brackets = s.brackets; few = s.few; free = s.free; doubled = c.take.ensures.brackets c.args.text.now c.args.close s.doubled; doubled_free = c.take.ensures.free c.args.self.now.slots.items s.doubled_free; runs = s.runs; examined = s.examined });
  others = search rules;
  tried = (let follows = sym c.is_followed_by.ensures.value ∙ c.if-not-is_followed_by.false in
      let on = sym (c.contains.ensures tt) ∙ c.if-not-contains.false in
      let read = ap (λ x. x && first_is (λ b. b == 93) (drop (c.args.close + 1) c.args.text.now)) on ∙ follows in
      subst (λ z. TriesDoubled z c.args.self.now.doubled c.take.new.self) (sym read) (record { others = c.take.ensures.others; inactive_below = c.take.ensures.inactive_below }));
}

pub returns-in_default-clause-forms : goal.returns-in_default-clause-forms
returns-in_default-clause-forms c =
    let follows = sym c.is_followed_by.ensures.value ∙ c.if-not-is_followed_by.false in
    let on = sym (c.contains.ensures tt) ∙ c.if-not-contains.false in
    let leaf = c.args.leaf.now in
    let close : ℕ = c.args.close in
    let there = sym (ap (λ t. first_is (λ b. b == 93) (drop (close + 1) t)) c.requires.text.same) ∙ follows in
    let tried = is_wikilink leaf close (nearest c.args.self.now.doubled) in
    sym (ap (λ x. x && (first_is (λ b. b == 93) (drop (close + 1) (text_of leaf)) && tried)) on ∙ ap (λ x. x && tried) there ∙ ap (is_wikilink leaf close) (sym c.take.ensures.value ∙ c.in_default.is))

pub returns-then-not-forms-clause-forms : goal.returns-then-not-forms-clause-forms
returns-then-not-forms-clause-forms c =
    let follows = sym c.is_followed_by.ensures.value ∙ c.if-not-is_followed_by.false in
    let on = sym (c.contains.ensures tt) ∙ c.if-not-contains.false in
    let leaf = c.args.leaf.now in
    let close : ℕ = c.args.close in
    let there = sym (ap (λ t. first_is (λ b. b == 93) (drop (close + 1) t)) c.requires.text.same) ∙ follows in
    let tried = is_wikilink leaf close (nearest c.args.self.now.doubled) in
    let rest = nat_lt c.in-Some.doubled.inside close && nat_lt 0 (length (name_in (wiki_text leaf c.in-Some.doubled close))) in
    sym (ap (λ x. x && (first_is (λ b. b == 93) (drop (close + 1) (text_of leaf)) && tried)) on ∙ ap (λ x. x && tried) there ∙ ap (is_wikilink leaf close) (sym c.take.ensures.value ∙ c.in-Some.is) ∙ ap (λ x. x && rest) c.if-not-forms.true)

pub form_wikilink-requires-clause-pair : goal.form_wikilink-requires-clause-pair
form_wikilink-requires-clause-pair c = record {
  bracket = (c.in-Some.ensures.bracket c.args.text.now c.args.close c.requires.at.stands.doubled);
  inside = search rules;
  display = search rules;
  taken = (let old : InlineState = c.args.self.now in
      is-pair (length old.texts.items) (length old.links.items) old.slots.items old.delimiters.placed.items old.quotes.placed.items old.brackets.standing.items old.doubled.standing.items c.requires.at.sound c.in-Some.doubled (last-nearest old.doubled _ (sym c.take.ensures.value ∙ c.in-Some.is)));
}

pub form_wikilink-requires-clause-at : goal.form_wikilink-requires-clause-at
form_wikilink-requires-clause-at c = record {
  stands = (let s = c.requires.at.stands in record { slots = s.slots; brackets = s.brackets; few = s.few; free = s.free; doubled = c.take.ensures.brackets c.args.text.now c.args.close s.doubled; doubled_free = c.take.ensures.free c.args.self.now.slots.items s.doubled_free; runs = s.runs; examined = s.examined });
  sound = (let old : InlineState = c.args.self.now in
      sound-pair-taken (length old.texts.items) (length old.links.items) old.slots.items old.delimiters.placed.items old.quotes.placed.items old.brackets.standing.items old.doubled.standing.items c.requires.at.sound c.take.new.self.standing.items c.take.ensures.others);
}
