use Rattle.std.proofs.Common.{arith, ◌≡◌, rules, ℕ, ◌+◌, ◌-◌, List, ◌∷◌, [], ◌++◌, sym, subst, refl, ap, ◌∙◌, length}
use Rattle.cmark_grammar.specs.Siblings.{address_type}
use Rattle.cmark_grammar.specs.Tokens.{slice}
use Rattle.cmark_inline.specs.Stands.{Stands}
use Rattle.cmark_slots.specs.declared.slot.LinkElement.TheVariants as element
use Rattle.cmark_slots.specs.declared.slot.Slot.{Slot}
use Rattle.cmark_slots.specs.declared.slot.SlotKind.TheVariants as kind
use Rattle.cmark_inline.specs.declared.state.InlineState.{InlineState}
use Rattle.cmark_inline.proofs.state.InlineState.autolink.Goals as goal

pub put-requires-clause-stands : goal.put-requires-clause-stands
put-requires-clause-stands c = let s = c.requires.stands in record { slots = s.slots; brackets = s.brackets; few = s.few; free = s.free; doubled = s.doubled; doubled_free = s.doubled_free; runs = s.runs; examined = s.examined }

pub add-requires-clause-stands : goal.add-requires-clause-stands
add-requires-clause-stands c = subst (λ (p : ℕ). Stands c.args.text.now p c.put.new.self) c.in_ok-next.ensures.end c.in_ok-next.ensures.moves.stands

pub returns-clause-slots : goal.returns-clause-slots
returns-clause-slots c =
    let p = c.in_ok-next.ensures.slots in
    let index : c.len.result ≡ length c.args.self.now.links.items = search rules in
    let uri : Slot = record { kind = kind.Text; start = c.args.here.at + 1; end = c.args.end - 1 } in
    let last : Slot = record { kind = kind.End; start = c.args.end - 1; end = c.args.end } in
    record {
      before = p.before;
      text = p.text;
      slots_are = c.in_ok-add-2.ensures.slots
          ∙ ap (λ (l : List Slot). l ++ (last ∷ [])) (c.in_ok-add.ensures.slots ∙ ap (λ (l : List Slot). l ++ (uri ∷ [])) p.slot_is)
          ∙ ap (λ (n : ℕ). ((p.before ++ (record { kind = kind.BeginLink element.Autolink n; start = c.args.here.at; end = c.args.end } ∷ [])) ++ (uri ∷ [])) ++ (last ∷ [])) index;
    }

pub returns-clause-others : goal.returns-clause-others
returns-clause-others c =
    let table = c.in_ok-add-2.ensures.table ∙ c.in_ok-add.ensures.table ∙ ap (λ (s : InlineState). s.links) c.in_ok-next.ensures.others in
    c.in_ok-add-2.ensures.others
    ∙ ap (λ (s : InlineState). record s { slots = c.add-2.new.self.slots }) (c.in_ok-add.ensures.others ∙ ap (λ (s : InlineState). record s { slots = c.add.new.self.slots }) c.in_ok-next.ensures.others)
    ∙ ap (λ links. record c.args.self.now { slots = c.add-2.new.self.slots; links = links }) (sym table)

pub returns-clause-link : goal.returns-clause-link
returns-clause-link c =
    let value = c.in_ok-dest_url.ensures.value ∙ ap (λ (t : List ℕ). slice t (c.args.here.at + 1) (c.args.end - 1)) (sym c.requires.text.same) in (
      _,
      record { form = c.address_type.ensures ∙ ap address_type c.range.ensures.value; destination = value; title = refl; id = refl },
      ap (λ v. v.items) (c.in_ok-add-2.ensures.table ∙ c.in_ok-add.ensures.table ∙ ap (λ (s : InlineState). s.links) c.in_ok-next.ensures.others) ∙ c.in_ok-push.ensures.items,
    )

pub returns-clause-moves : goal.returns-clause-moves
returns-clause-moves c = record { stands = subst (λ (p : ℕ). Stands c.args.text.now p c.add-2.new.self) (sym c.in_ok-next.ensures.end) c.in_ok-add-2.ensures.stands; cursor = c.in_ok-next.ensures.moves.cursor; further = c.in_ok-next.ensures.moves.further }

pub add-requires-clause-slot : goal.add-requires-clause-slot
add-requires-clause-slot c =
    let inside = c.requires.inside in
    record { part = inside; before = omega arith; content = tt }

pub put-requires-clause-next : goal.put-requires-clause-next
put-requires-clause-next c = record {
  ordered = search rules;
  is = (record { part = c.requires.whole; before = omega arith; content = tt });
  further = search rules;
  kind = search rules;
}

pub add-requires-2-clause-slot : goal.add-requires-2-clause-slot
add-requires-2-clause-slot c =
    let some = c.requires.inside.some in
    record { part = record { some = omega (arith, some); within = c.requires.whole.within; starts = c.requires.inside.ends; ends = c.requires.whole.ends }; before = omega arith; content = tt }
