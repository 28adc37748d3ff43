use Rattle.std.specs.Prelude.{Some, None}
use Rattle.std.proofs.Common.{◌≡◌, inl, inr, ℕ, List, drop, refl, sym, ap, subst, ◌∙◌, length, rules, arith}
use Rattle.std.specs.Str.{IsCharBoundary}
use Rattle.std.proofs.lemmas.Str.{IsCharBoundary-from_rest}
use Rattle.cmark_grammar.specs.Answers.{Lookup}
use Rattle.cmark_scan_bytes.specs.Shown.{shown_entity}
use Rattle.cmark_inline.specs.declared.state.InlineState.{InlineState}
use Rattle.cmark_inline.specs.Stands.{Stands}
use Rattle.cmark_inline.proofs.Appended.{at-byte, kept, owned-appends, entity-is, entity-token, no-entity}
use Rattle.cmark_inline.proofs.Keeping.{keeps-owned, keeps-same}
use Rattle.std.proofs.lemmas.Result.{IfOk-weaker}
use Rattle.cmark_inline.proofs.LastCalls.{ok-by-three}
use Rattle.cmark_inline.proofs.state.InlineState.entity.Goals as goal

pub returns-in_default-clause-token : goal.returns-in_default-clause-token
returns-in_default-clause-token g c = λ o cell is.
    let l : Lookup = g.E.EntityLookup.replacement c.args.entities.now in
    let none = entity-is o l cell c.args.text.now c.args.here c.args.self.now c.args.self.now c.pass.result c.as_bytes.result.now c.range_from.result.now None c.requires.byte.within is c.as_bytes.ensures.value c.range_from.ensures.value c.in_default.ensures.value in
    inl (record {
      token = no-entity o l cell c.args.text.now c.args.here c.args.self.now c.args.self.now c.pass.result c.requires.byte.within is none c.pass.ensures.at;
      pending = c.pass.ensures.pending;
      same = refl;
    })

pub returns-in_default-following_end-clause-token : goal.returns-in_default-following_end-clause-token
returns-in_default-following_end-clause-token g c = λ o cell is.
    let boundary : IsCharBoundary (drop c.args.here.at c.args.text.now) c.in-Some.entity.len =
    subst (λ (bs : List ℕ). IsCharBoundary bs c.in-Some.entity.len) (c.as_bytes.ensures.value ∙ c.range_from.ensures.value) (c.in-Some.ensures.boundary c.as_bytes.ensures.utf8) in
    let some = c.in_default-following_end.ensures.found c.in-Some.ensures.closed.low (IsCharBoundary-from_rest c.args.text.now c.args.here.at c.in-Some.entity.len c.requires.byte.cursor.at.0 boundary) in
    absurd (let z : ⊥ = cc in z)

pub returns-clause-token : goal.returns-clause-token
returns-clause-token g c = λ o cell is.
    let l : Lookup = g.E.EntityLookup.replacement c.args.entities.now in
    ok-by-three c.put.result _ _ _ _ c.put.ensures.at c.put.ensures.end c.put.ensures.slots (λ next at end slots.
    let found = entity-is o l cell c.args.text.now c.args.here c.args.self.now c.put.new.self next c.as_bytes.result.now c.range_from.result.now (Some (shown_entity c.in-Some.entity)) c.requires.byte.within is c.as_bytes.ensures.value c.range_from.ensures.value c.in-Some.ensures.value in
    inr (owned-appends o l cell c.args.text.now c.args.here c.args.self.now c.put.new.self next (shown_entity c.in-Some.entity).bytes c.in-Some-following_end.end c.len.result c.in_ok-owned.owned c.requires.byte.cursor.ordered (at-byte c.args.text.now c.args.here 38 is refl refl refl)
    (entity-token o l cell c.args.text.now c.args.here c.args.self.now c.put.new.self next (shown_entity c.in-Some.entity) c.in-Some-following_end.end c.requires.byte.within is found c.in-Some-following_end.ensures.value)
    at (end ∙ sym at) slots (ap (λ (s : InlineState). s.texts.items) c.put.ensures.others ∙ c.in_ok-push.ensures.items) (let q : c.len.result ≡ length c.args.self.now.texts.items = search rules in q) c.in_ok-owned.ensures.value (kept c.args.self.now c.put.new.self _ c.put.ensures.others refl)))

pub returns-in_default-clause-reads_on : goal.returns-in_default-clause-reads_on
returns-in_default-clause-reads_on g c = record {
  expansion_left = refl;
  steps = refl;
  keeps = keeps-same c.args.self.now;
  moves = record { stands = subst (λ (p : ℕ). Stands c.args.text.now p c.args.self.now) (sym c.pass.ensures.pending) c.requires.byte.stands; cursor = c.pass.ensures.cursor; further = c.pass.ensures.further };
}

pub returns-in_default-following_end-clause-reads_on : goal.returns-in_default-following_end-clause-reads_on
returns-in_default-following_end-clause-reads_on g c = record {
  expansion_left = refl;
  steps = refl;
  keeps = keeps-same c.args.self.now;
  moves = record { stands = subst (λ (p : ℕ). Stands c.args.text.now p c.args.self.now) (sym c.pass-in_default-following_end.ensures.pending) c.requires.byte.stands; cursor = c.pass-in_default-following_end.ensures.cursor; further = c.pass-in_default-following_end.ensures.further };
}

pub returns-clause-reads_on : goal.returns-clause-reads_on
returns-clause-reads_on g c = record {
  expansion_left = search rules;
  steps = search rules;
  keeps = IfOk-weaker c.put.result _ _ (λ _ slots. keeps-owned c.args.self.now (record c.args.self.now { texts = c.push.new.self }) c.put.new.self c.args.here.pending c.args.here.at _ slots c.in_ok-owned.owned c.in_ok-push.ensures.items c.put.ensures.others refl (ap Some (let q : c.len.result ≡ length c.args.self.now.texts.items = search rules in q)) refl refl (λ i. refl)) c.put.ensures.slots;
  moves = c.put.ensures.moves;
}

pub put-requires-clause-next : goal.put-requires-clause-next
put-requires-clause-next g c = record {
  ordered = search rules;
  is = (record { part = c.in-Some-following_end.ensures.part; before = omega arith; content = tt });
  further = search rules;
  kind = search rules;
}
