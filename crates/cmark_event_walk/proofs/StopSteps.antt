-- If memory is refused, the questions of the call are the first questions of the events that were left.
use Rattle.std.proofs.Common.{◌≡◌, false, List, [], ◌∷◌, ◌++◌, Option, append_assoc, append-nil, ap, ◌∙◌, length, refl, subst, sym}
use Rattle.cmark_grammar.specs.Answers.{Lookup}
use Rattle.cmark_grammar.specs.Event.{Ranged}
use Rattle.cmark_grammar.specs.LeafReading.{Between}
use Rattle.cmark_grammar.specs.LeafText.{Leaf}
use Rattle.cmark_grammar.specs.Questions.{Exchange, Plan}
use Rattle.cmark_grammar.specs.Readers.{Reader}
use Rattle.cmark_grammar.specs.SpanDocuments.{Content, Given, Left, Segment}
use Rattle.cmark_inline.specs.Resolved.{Answered, StopsAs}
use Rattle.cmark_inline.specs.declared.callback.BrokenLink.{BrokenLink}
use Rattle.cmark_inline_model.specs.LeafModel.{AreLeavesInTurn}
use Rattle.cmark_inline_model.specs.PlannedAnswers.{AreByPlan}
use Rattle.cmark_inline_model.proofs.Backwards.{left-leaf}
use Rattle.cmark_inline_model.proofs.DecisionLaws.{decide-recorded}
use Rattle.cmark_inline_model.proofs.DecisionShifted.{decide-shifted}
use Rattle.cmark_inline_model.proofs.PlannedReadings.{left-planned}
use Rattle.cmark_values.specs.declared.text.CowStr.{CowStr}
use Rattle.cmark_event_walk.specs.declared.span_walk.SpanWalk.{SpanWalk}
use Rattle.cmark_event_walk.specs.Walking.{ArePlaced, IsReadBy, Passes, Remains, Stops, callback_of, expansion_left_of, spans_to_come}
use Rattle.cmark_event_walk.proofs.Readings.{answered-on, outside-remains}

-- ## Answers of a plan

-- the plan after these questions
abbrev pub following : List Exchange → Plan → Plan
following front plan asked question = plan (front ++ asked) question

planned-shifted : (plan : Plan) (front before xs : List Exchange) → AreByPlan (following front plan) before xs → AreByPlan plan (front ++ before) xs
planned-shifted plan front before [] h = tt
planned-shifted plan front before (x ∷ xs) h = (h.0, subst (λ l. AreByPlan plan l xs) (sym (append_assoc front before (x ∷ []))) (planned-shifted plan front (before ++ (x ∷ [])) xs h.1))

planned-both : (plan : Plan) (before xs ys : List Exchange) → AreByPlan plan before xs → AreByPlan plan (before ++ xs) ys → AreByPlan plan before (xs ++ ys)
planned-both plan before [] ys h k = subst (λ l. AreByPlan plan l ys) (append-nil before) k
planned-both plan before (x ∷ xs) ys h k = (h.0, planned-both plan (before ++ (x ∷ [])) xs ys h.1 (subst (λ l. AreByPlan plan l ys) (sym (append_assoc before (x ∷ []) xs)) k))

planned-on : (plan : Plan) (xs ys : List Exchange) → AreByPlan plan [] xs → AreByPlan (following xs plan) [] ys → AreByPlan plan [] (xs ++ ys)
planned-on plan xs ys h k = planned-both plan [] xs ys h (subst (λ l. AreByPlan plan l ys) (append-nil xs) (planned-shifted plan xs [] ys k))

-- ## Whatever the answers are, some events are left

pub placed-turn : (reader : Reader) (others : List Segment) → ArePlaced reader others → AreLeavesInTurn (length reader.source) others
placed-turn reader [] h = tt
placed-turn reader (Given r ∷ others) h = placed-turn reader others h.1
placed-turn reader (Content leaf ∷ others) h = (h.0.placed.turn, placed-turn reader others h.1)

module _ {E F : Type 0} (replacement : E → Lookup) (reader : Reader) where
  -- with a plan's answers, some events are left
  pub some-left : (walk : SpanWalk E F) → IsReadBy replacement reader walk → (plan : Plan) → (rest : List Exchange) × (events : List Ranged) × AreByPlan plan [] rest × Remains replacement reader walk rest events
  some-left walk r plan =
      let l = left-planned reader r.left (expansion_left_of walk) plan (placed-turn reader r.left r.placed) in
      (l.0, spans_to_come walk.in_leaf walk ++ l.1, l.2, record { read_by = r; later = l.1; reads = l.3; are = refl })

module _ {E F : Type 0} (Says : F → BrokenLink → Option (CowStr × CowStr) → F → Type 0) (replacement : E → Lookup) (reader : Reader) where
  -- memory was refused in a step that asked nothing
  pub stops-here : (old mid new : SpanWalk E F) → Passes Says replacement reader [] old mid → callback_of new ≡ callback_of mid → Stops Says replacement reader old new
  stops-here old mid new p same = record {
    taken = p.taken;
    answered = subst (Answered Says p.taken (callback_of old)) (sym same) p.answered;
    left = λ plan. let l = some-left replacement reader mid p.read_by plan in (l.0, l.1, l.2, p.back l.0 l.1 l.3);
  }

  -- memory was refused in a leaf
  pub stops-leaf : (old mid new : SpanWalk E F) (leaf : Leaf) (others : List Segment) → mid.in_leaf ≡ false → (p : Passes Says replacement reader [] old mid) → p.read_by.left ≡ Content leaf ∷ others
      → StopsAs Says reader leaf (expansion_left_of mid) (callback_of mid) (callback_of new) → Stops Says replacement reader old new
  stops-leaf old mid new leaf others out p is s = record {
    taken = p.taken ++ s.asked;
    answered = answered-on Says p.taken s.asked (callback_of old) (callback_of mid) (callback_of new) p.answered s.answered;
    left = left;
  }
    where
      placed : ArePlaced reader (Content leaf ∷ others)
      placed = subst (ArePlaced reader) is p.read_by.placed

      left : (plan : Plan) → (rest : List Exchange) × (events : List Ranged) × AreByPlan plan [] rest × Remains replacement reader old ((p.taken ++ s.asked) ++ rest) events
      left plan =
          let f = s.goes_on plan in
          let l = left-planned reader others f.left (following f.further plan) (placed-turn reader others placed.1) in
          let between : Between = record { expansion_left = f.left; asked = s.asked ++ f.further } in
          let events = f.events ++ l.1 in
          let whole : Left reader (Content leaf ∷ others) (expansion_left_of mid) ((s.asked ++ f.further) ++ l.0) events =
          left-leaf reader (decide-recorded reader) (decide-shifted reader) leaf others (expansion_left_of mid) (s.asked ++ f.further) l.0 f.events l.1 between f.reads refl l.3 in
          let there = outside-remains replacement reader mid p.read_by out ((s.asked ++ f.further) ++ l.0) events (subst (λ (x : List Segment). Left reader x (expansion_left_of mid) ((s.asked ++ f.further) ++ l.0) events) (sym is) whole) in (
            f.further ++ l.0,
            events,
            planned-on plan f.further l.0 f.planned l.2,
            subst (λ xs. Remains replacement reader old xs events)
                (ap (λ l. p.taken ++ l) (append_assoc s.asked f.further l.0) ∙ sym (append_assoc p.taken s.asked (f.further ++ l.0)))
                (p.back ((s.asked ++ f.further) ++ l.0) events there),
          )
