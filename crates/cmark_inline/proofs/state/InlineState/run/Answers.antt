use Rattle.std.proofs.Common.{◌≡◌, ◌||◌, ◌-◌, inl, inr, true, false, not, Bool, true≢false, [], ◌∷◌, ◌++◌, length, refl, sym, ap, ◌∙◌, rules, arith}
use Rattle.std.proofs.lemmas.Bool.{or_left, or_right}
use Rattle.std.proofs.lemmas.List.{length_push}
use Rattle.cmark_emphasis.specs.Shown.{shown_flanking}
use Rattle.cmark_emphasis.specs.declared.run.PlacedRun.{PlacedRun}
use Rattle.cmark_slots.specs.declared.delimiter.Delimiters.{Delimiters}
use Rattle.cmark_inline.specs.declared.state.InlineState.{InlineState}
use Rattle.cmark_values.specs.Shown.{shown_options}
use Rattle.cmark_grammar.specs.Flanking.{Flanking}
use Rattle.cmark_inline.proofs.SpecialSteps.{flanks-known, others-flank, others-last, others-stand}
use Rattle.cmark_inline.proofs.MarkSteps.{run-content, run-stays, run-begins-there}
use Rattle.cmark_inline.proofs.Keeping.{keeps-run, keeps-same}
use Rattle.cmark_inline.proofs.state.InlineState.run.Goals as goal
use Rattle.cmark_inline.proofs.state.InlineState.run.Goals.{else-not-flanking-via-then-not-flanking+else-not-flanking-2, else-not-flanking-via-else-not-flanking}

pub returns-then-not-flanking-2-clause-token : goal.returns-then-not-flanking-2-clause-token
returns-then-not-flanking-2-clause-token c = λ l cell is delimiter.
    inl (record {
      token = run-stays (shown_options c.args.options) l cell c.args.text.now c.args.here.at c.requires.byte.within c.args.delimiter c.run_end-end.result (c.run_end-end.result - c.args.here.at) c.character_before-before.result c.character_at-after.result
          (shown_flanking c.flanking_of-flanking.result)
          (record {
            byte = is;
            delimiter = delimiter;
            ends = c.run_end-end.ensures.value;
            some = c.run_end-end.ensures.further;
            sized = refl;
            left = c.character_before-before.ensures;
            right = c.character_at-after.ensures;
            flanks = c.flanking_of-flanking.ensures;
          }) c.if-not-flanking.true c.if-not-flanking-2.true;
      pending = refl;
      same = refl;
    })

not-no : (x : Bool) → not x ≡ false → x ≡ true
not-no true e = refl
not-no false e = absurd (true≢false e)

pub returns-clause-token : goal.returns-clause-token
returns-clause-token c = λ l cell is delimiter.
    let some : (c.flanking_of-flanking.result.opens || c.flanking_of-flanking.result.closes) ≡ true = elim c.else-not-flanking.branch [
      | else-not-flanking-via-then-not-flanking+else-not-flanking-2 w ↦ or_right c.flanking_of-flanking.result.opens c.flanking_of-flanking.result.closes (not-no c.flanking_of-flanking.result.closes w.if-not-flanking-2.false)
      | else-not-flanking-via-else-not-flanking w ↦ or_left c.flanking_of-flanking.result.opens c.flanking_of-flanking.result.closes (not-no c.flanking_of-flanking.result.opens w.if-not-flanking.false)
    ] in
    let same : length c.flush.new.self.slots.items ≡ c.len-first.result = search rules in
    let run : PlacedRun = record { slot = c.len-first.result; run_length = c.run_end-end.result - c.args.here.at; delimiter = c.args.delimiter; opens = c.flanking_of-flanking.result.opens; closes = c.flanking_of-flanking.result.closes } in
    inr (record {
      run = run;
      token = run-begins-there (shown_options c.args.options) l cell c.args.text.now c.args.here.at c.requires.byte.within c.args.delimiter c.run_end-end.result (c.run_end-end.result - c.args.here.at) c.character_before-before.result c.character_at-after.result
          (shown_flanking c.flanking_of-flanking.result)
          (record {
            byte = is;
            delimiter = delimiter;
            ends = c.run_end-end.ensures.value;
            some = c.run_end-end.ensures.further;
            sized = refl;
            left = c.character_before-before.ensures;
            right = c.character_at-after.ensures;
            flanks = c.flanking_of-flanking.ensures;
          }) some;
      size = (let f = c.run_end-end.ensures.further in omega (arith, f));
      bytes = run-content c.args.text.now c.args.here.at c.run_end-end.result c.args.delimiter is delimiter c.run_end-end.ensures.value;
      pending = refl;
      before = c.flush.new.self.slots.items;
      text_is = c.in_ok-flush.ensures.slots;
      there = sym same;
      slots = c.in_ok-push_bytes.ensures.bytes;
      placed =
          c.in_ok-push.ensures.placed
          ∙ ap (λ (d : Delimiters). d.placed.items ++ (run ∷ [])) (ap (λ (s : InlineState). s.delimiters) c.push_bytes.ensures.others ∙ ap (λ (s : InlineState). s.delimiters) c.in_ok-flush.ensures.others);
      examined = c.push.ensures.examined ∙ ap (λ (d : Delimiters). d.examined) (ap (λ (s : InlineState). s.delimiters) c.push_bytes.ensures.others ∙ ap (λ (s : InlineState). s.delimiters) c.in_ok-flush.ensures.others);
      others = ap (λ (s : InlineState). record s { slots = c.push_bytes.new.self.slots; delimiters = c.push.new.self }) (c.push_bytes.ensures.others ∙ ap (λ (s : InlineState). record s { slots = c.push_bytes.new.self.slots }) c.in_ok-flush.ensures.others);
    })

pub returns-then-not-flanking-2-clause-others : goal.returns-then-not-flanking-2-clause-others
returns-then-not-flanking-2-clause-others c = λ l cell is other.
    record {
      further = c.run_end-end.ensures.further;
      plain = others-stand (shown_options c.args.options) l cell c.args.text.now c.args.here.at c.args.delimiter c.run_end-end.result is other c.run_end-end.ensures.value;
      last = others-last c.args.text.now c.args.here.at c.args.delimiter c.run_end-end.result is other c.run_end-end.ensures.value c.run_end-end.ensures.further;
      pending = refl;
      same = refl;
    }

pub returns-clause-others : goal.returns-clause-others
returns-clause-others c = λ l cell is other.
    let none = c.flanking_of-flanking.ensures ∙ others-flank (shown_options c.args.options) c.args.delimiter (c.run_end-end.result - c.args.here.at) c.character_before-before.result c.character_at-after.result other in
    let opens : c.flanking_of-flanking.result.opens ≡ false = ap (λ (f : Flanking). f.opens) none in
    let closes : c.flanking_of-flanking.result.closes ≡ false = ap (λ (f : Flanking). f.closes) none in
    absurd (elim c.else-not-flanking.branch [
      | else-not-flanking-via-then-not-flanking+else-not-flanking-2 w ↦ true≢false (sym (ap not closes) ∙ w.if-not-flanking-2.false)
      | else-not-flanking-via-else-not-flanking w ↦ true≢false (sym (ap not opens) ∙ w.if-not-flanking.false)
    ])

pub returns-then-not-flanking-2-clause-reads_on : goal.returns-then-not-flanking-2-clause-reads_on
returns-then-not-flanking-2-clause-reads_on c = record {
  expansion_left = refl;
  steps = refl;
  keeps = keeps-same c.args.self.now;
  moves = search rules;
}

pub returns-clause-reads_on : goal.returns-clause-reads_on
returns-clause-reads_on c =
    let further = c.run_end-end.ensures.further in
    record {
      expansion_left = search rules;
      steps = search rules;
      keeps = (let same : length c.flush.new.self.slots.items ≡ c.len-first.result = search rules in
          let run : PlacedRun = record { slot = c.len-first.result; run_length = c.run_end-end.result - c.args.here.at; delimiter = c.args.delimiter; opens = c.flanking_of-flanking.result.opens; closes = c.flanking_of-flanking.result.closes } in
          let some : (c.flanking_of-flanking.result.opens || c.flanking_of-flanking.result.closes) ≡ true = elim c.else-not-flanking.branch [
            | else-not-flanking-via-then-not-flanking+else-not-flanking-2 w ↦ or_right c.flanking_of-flanking.result.opens c.flanking_of-flanking.result.closes (not-no c.flanking_of-flanking.result.closes w.if-not-flanking-2.false)
            | else-not-flanking-via-else-not-flanking w ↦ or_left c.flanking_of-flanking.result.opens c.flanking_of-flanking.result.closes (not-no c.flanking_of-flanking.result.opens w.if-not-flanking.false)
          ] in
          let known = flanks-known (shown_options c.args.options) c.args.delimiter (c.run_end-end.result - c.args.here.at) c.character_before-before.result c.character_at-after.result (shown_flanking c.flanking_of-flanking.result) c.flanking_of-flanking.ensures some in
          keeps-run c.args.self.now (record c.push_bytes.new.self { delimiters = c.push.new.self }) c.flush.new.self.slots.items c.args.here.pending c.args.here.at run c.args.text.now
          c.in_ok-flush.ensures.slots c.in_ok-push_bytes.ensures.bytes
          (c.in_ok-push.ensures.placed ∙ ap (λ (d : Delimiters). d.placed.items ++ (run ∷ [])) (ap (λ (s : InlineState). s.delimiters) c.push_bytes.ensures.others ∙ ap (λ (s : InlineState). s.delimiters) c.in_ok-flush.ensures.others))
          (ap (λ (s : InlineState). record s { slots = c.push_bytes.new.self.slots; delimiters = c.push.new.self }) (c.push_bytes.ensures.others ∙ ap (λ (s : InlineState). record s { slots = c.push_bytes.new.self.slots }) c.in_ok-flush.ensures.others))
          (omega (arith, further)) known (sym same) c.in_ok-flush.ensures.stands.slots);
      moves = (let s = c.in_ok-flush.ensures.stands in
          let seen = s.examined in
          let same = ap (λ (d : Delimiters). d.examined) (ap (λ (s : InlineState). s.delimiters) c.push_bytes.ensures.others) in
          let count = ap (λ (d : Delimiters). length d.placed.items) (ap (λ (s : InlineState). s.delimiters) c.push_bytes.ensures.others) in
          let kept = c.push.ensures.examined in
          let more = ap length c.in_ok-push.ensures.placed ∙ length_push c.push_bytes.new.self.delimiters.placed.items _ in
          record {
            stands = record {
              slots = search rules;
              brackets = search rules;
              few = search rules;
              free = search rules;
              doubled = search rules;
              doubled_free = search rules;
              runs = search rules;
              examined = omega (arith, seen, further, same, count, kept, more);
            };
            cursor = search rules;
            further = search rules;
          });
    }
