use Rattle.std.proofs.Common.{rules, ◌≡◌, ◌≤◌, ◌<◌, List, [], ◌∷◌, ◌++◌, ℕ, length, refl, sym, ap, subst, ◌∙◌, arith}
use Rattle.std.proofs.lemmas.List.Elements.{All-push}
use Rattle.cmark_values.specs.Shown.{shown_options}
use Rattle.cmark_slots.specs.Doubled.{doubles}
use Rattle.cmark_slots.specs.declared.bracket.Bracket.{Bracket}
use Rattle.cmark_inline.specs.declared.state.InlineState.{InlineState}
use Rattle.cmark_inline.proofs.CloserSteps.{opens-as}
use Rattle.cmark_slots.specs.Slots.{AreBrackets, AreFree, HoldNoLink, IsBracket, bytes_of}
use Rattle.cmark_slots.specs.declared.bracket.Brackets.{Brackets}
use Rattle.cmark_slots.specs.declared.slot.Slot.{Slot}
use Rattle.cmark_slots.specs.declared.slot.SlotKind.TheVariants as kind
use Rattle.cmark_slots.proofs.Steps.{Keeps, free-push, keeps-push, last-holds-none}
use Rattle.cmark_slots.specs.Standing.{AreEnded, AreSound}
use Rattle.cmark_inline.proofs.Keeping.{keeps-pending}
use Rattle.cmark_slots.proofs.Naming.{ended-on, no-more-push}
use Rattle.cmark_slots.proofs.Opening.{doubles-are, sound-opened}
use Rattle.cmark_inline.proofs.state.InlineState.open_bracket.Goals as goal

pub returns-clause-opens : goal.returns-clause-opens
returns-clause-opens c =
    let o = shown_options c.args.options in
    let b : Bracket = record { slot = c.len.result; runs = c.len-2.result; quotes = c.len-3.result; start = c.args.here.at; inside = c.args.inside; is_image = c.args.is_image } in
    let kept = c.in_ok-flush.ensures.others in
    let before : c.flush.new.self.brackets ≡ c.args.self.now.brackets = ap (λ (s : InlineState). s.brackets) kept in
    let pairs : c.flush.new.self.doubled ≡ c.args.self.now.doubled = ap (λ (s : InlineState). s.doubled) kept in
    opens-as o.wikilinks c.args.is_image c.args.text.now c.args.here.at c.args.inside c.args.self.now (record c.flush.new.self { slots = c.push_slot.new.slots; brackets = c.push.new.self; doubled = c.double.new.self }) b refl refl refl
    (c.in_ok-push.ensures.brackets ∙ ap (λ (v : Brackets). v.standing.items ++ (b ∷ [])) before)
    (c.push.ensures.inactive_below ∙ ap (λ (v : Brackets). v.inactive_below) before)
    (c.in_ok-double.ensures.doubled ∙ ap (λ (v : Brackets). doubles o v c.args.is_image c.args.here.at c.args.inside c.flush.new.self.doubled.standing.items) before ∙ ap (λ (v : Brackets). doubles o c.args.self.now.brackets c.args.is_image c.args.here.at c.args.inside v.standing.items) pairs)
    (c.double.ensures.inactive_below ∙ ap (λ (v : Brackets). v.inactive_below) pairs)
    c.flush.ensures.expansion_left
    (ap (λ (s : InlineState). s.label_close) kept)

pub returns-clause-reads_on : goal.returns-clause-reads_on
returns-clause-reads_on c = record {
  expansion_left = search rules;
  steps = search rules;
  keeps = (let old : InlineState = c.args.self.now in
      let mid : InlineState = c.flush.new.self in
      let new : InlineState = record mid { slots = c.push_slot.new.slots; brackets = c.push.new.self; doubled = c.double.new.self } in
      let slot : Slot = record { kind = kind.Text; start = c.args.here.at; end = c.args.inside } in
      let b : Bracket = record { slot = c.len.result; runs = c.len-2.result; quotes = c.len-3.result; start = c.args.here.at; inside = c.args.inside; is_image = c.args.is_image } in
      let flushed = keeps-pending old mid c.in_ok-flush.ensures.others c.args.here.pending c.args.here.at c.in_ok-flush.ensures.slots in
      let stands = c.in_ok-flush.ensures.stands in
      let e = c.in_ok-push_slot.ensures in
      record {
        sound = λ h.
            subst (λ l. AreSound (length mid.texts.items) (length mid.links.items) c.push_slot.new.slots.items mid.delimiters.placed.items mid.quotes.placed.items l c.double.new.self.standing.items) (sym c.in_ok-push.ensures.brackets)
            (subst (λ l. AreSound (length mid.texts.items) (length mid.links.items) l mid.delimiters.placed.items mid.quotes.placed.items (mid.brackets.standing.items ++ (b ∷ [])) c.double.new.self.standing.items) (sym e)
            (sound-opened (length mid.texts.items) (length mid.links.items) mid.slots.items mid.delimiters.placed.items mid.quotes.placed.items mid.brackets.standing.items mid.doubled.standing.items (flushed.sound h)
            c.args.text.now c.args.here.at stands.brackets stands.doubled slot refl b (omega arith) c.requires.part.some (let q : c.len.result ≡ length mid.slots.items = search rules in q) (let q : c.len-2.result ≡ length mid.delimiters.placed.items = search rules in q) (let q : c.len-3.result ≡ length mid.quotes.placed.items = search rules in q)
            c.double.new.self.standing.items (doubles-are (shown_options c.args.options) mid.brackets c.args.is_image c.args.here.at c.args.inside mid.doubled.standing.items c.double.new.self.standing.items c.in_ok-double.ensures.doubled)));
        ends = λ leaf h. subst (AreEnded leaf) (sym e) (ended-on mid.slots.items (mid.slots.items ++ (slot ∷ [])) (no-more-push mid.slots.items slot (refl, refl, refl)) leaf (flushed.ends leaf h));
      });
  moves = (let text : List ℕ = c.args.text.now in
      let at : ℕ = c.args.here.at in
      let inside : ℕ = c.args.inside in
      let s = c.in_ok-flush.ensures.stands in
      let p = c.requires.part in
      let lt = p.some in
      let f = s.few in
      let v : Brackets = c.flush.new.self.brackets in
      let w : Brackets = c.flush.new.self.doubled in
      let n : ℕ = bytes_of c.flush.new.self.delimiters.placed.items in
      let ts : List Slot = c.push_slot.new.slots.items in
      let slot : Slot = record { kind = kind.Text; start = at; end = inside } in
      let k : Keeps text inside c.push_slot.new.slots.items v w n = keeps-push text at inside c.flush.new.self.slots.items c.push_slot.new.slots.items slot v w n (record { slots = s.slots; brackets = s.brackets; few = f; free = s.free; doubled = s.doubled; doubled_free = s.doubled_free; runs = s.runs })
      (let q : at ≤ inside = omega (arith, lt) in q) (let q : length c.flush.new.self.slots.items < inside = omega (arith, f, lt) in q) refl
      (record { part = p; before = (let q : inside ≤ inside = omega arith in q); content = tt }) c.in_ok-push_slot.ensures in
      let is : IsBracket text inside _ = record { part = p; mark = c.requires.mark; before = (let q : inside ≤ inside = omega arith in q) } in
      record {
        stands = record {
          slots = k.slots;
          brackets = subst (AreBrackets text inside) (sym c.in_ok-push.ensures.brackets) (All-push (IsBracket text inside) v.standing.items _ k.brackets is);
          few = k.few;
          free = subst (AreFree ts c.push.new.self.standing.items) (sym c.push.ensures.inactive_below)
              (free-push ts v.standing.items c.push.new.self.standing.items (record { slot = c.len.result; runs = c.len-2.result; quotes = c.len-3.result; start = at; inside = inside; is_image = c.args.is_image }) v.inactive_below k.free
              (subst (HoldNoLink ts) (let q : length c.flush.new.self.slots.items ≡ c.len.result = search rules in q) (last-holds-none c.flush.new.self.slots.items ts slot refl c.in_ok-push_slot.ensures)) c.in_ok-push.ensures.brackets);
          doubled = c.in_ok-double.ensures.brackets text inside k.brackets k.doubled is;
          doubled_free = c.in_ok-double.ensures.free ts k.free k.doubled_free;
          runs = k.runs;
          examined = (let e = s.examined in omega (arith, e, lt));
        };
        cursor = record { pending = p.ends; at = p.ends; ordered = (let q : inside ≤ inside = omega arith in q) };
        further = lt;
      });
}
