-- A leaf that was read in part can be read to its end, whatever the answers to further questions are.
use Rattle.std.proofs.Common.{◌≡◌, ◌+◌, ℕ, zero, suc, List, [], ◌∷◌, ◌++◌, Option, None, Some, refl, sym, ap, subst, arith, ◌∙◌, append_assoc, append-nil}
use Rattle.cmark_grammar.specs.Answers.{Destination}
use Rattle.cmark_grammar.specs.BracketDecisions.{decide}
use Rattle.cmark_grammar.specs.BracketReading.{Comes, Reads}
use Rattle.cmark_grammar.specs.BracketStates.{Asks, Decision, Forms, Outcome, Result, Settled, State, StaysText}
use Rattle.cmark_grammar.specs.InlineTokens.{token}
use Rattle.cmark_grammar.specs.Items.{Bracket, Closes, Ends, Opens, Stands, Token}
use Rattle.cmark_grammar.specs.LeafReading.{Between, ReadsLeaf, entering}
use Rattle.cmark_grammar.specs.LeafText.{InTurn, Leaf, end_of}
use Rattle.cmark_grammar.specs.Parts.{Nil}
use Rattle.cmark_grammar.specs.Questions.{AnyAnswer, ByPlan, Exchange, IsNext, Plan, Question}
use Rattle.cmark_grammar.specs.Readers.{Reader}
use Rattle.cmark_inline_model.specs.BracketPass.{Pass, formed_by, outcome_by, pass, resulting, run, step, stepped}
use Rattle.cmark_inline_model.specs.LeafModel.{leaf_after, leaf_end, leaf_events, leaf_parts}
use Rattle.cmark_inline_model.specs.PartLists.{Cut, cut_at}
use Rattle.cmark_inline_model.specs.PlannedAnswers.{AreByPlan}
use Rattle.cmark_inline_model.specs.Progress.{IsRecorded}
use Rattle.cmark_inline_model.proofs.BracketQuestions.{Adds, comes-adds, reads-next}
use Rattle.cmark_inline_model.proofs.BracketsEnd.{run-ends}
use Rattle.cmark_inline_model.proofs.BracketsOne.{reads-reach}
use Rattle.cmark_inline_model.proofs.BracketsSound.{parts-read}
use Rattle.cmark_inline_model.proofs.DecisionLaws.{decide-recorded}
use Rattle.cmark_inline_model.proofs.ForwardLaws.{leaf-forward}
use Rattle.cmark_inline_model.proofs.LeafLaws.{leaf-next, leaf-read}
use Rattle.cmark_inline_model.proofs.PlannedReadings.{reads-planned}
use Rattle.cmark_inline.specs.Resolved.{IsReadFrom, StopsAs}
use Rattle.cmark_inline.specs.declared.callback.BrokenLink.{BrokenLink}
use Rattle.cmark_values.specs.declared.text.CowStr.{CowStr}

-- ## The answers of a list, and then of a plan

abbrev pub answers_then : List Exchange → Plan → Plan
answers_then [] plan asked question = plan asked question
answers_then (x ∷ all) plan [] question = x.answer
answers_then (x ∷ all) plan (a ∷ asked) question = answers_then all plan asked question

answers-first : (x : Exchange) (plan : Plan) (asked rest : List Exchange) → answers_then (asked ++ (x ∷ rest)) plan asked x.question ≡ x.answer
answers-first x plan [] rest = refl
answers-first x plan (a ∷ asked) rest = answers-first x plan asked rest

next-is : (all : List Exchange) (plan : Plan) (asked : List Exchange) (question : Question) (answer : Option Destination) → IsNext all asked question answer → answer ≡ answers_then all plan asked question
next-is all plan asked question answer h = sym (ap (λ l. answers_then l plan asked question) h.cut ∙ answers-first (record { question = question; answer = answer }) plan asked h.rest)

answers-later : (all : List Exchange) (plan : Plan) (further : List Exchange) (question : Question) → answers_then all plan (all ++ further) question ≡ plan further question
answers-later [] plan further question = refl
answers-later (x ∷ all) plan further question = answers-later all plan further question

-- after the list, the plan answers
planned-later : (all : List Exchange) (plan : Plan) (before xs : List Exchange) → AreByPlan (answers_then all plan) (all ++ before) xs → AreByPlan plan before xs
planned-later all plan before [] h = tt
planned-later all plan before (x ∷ xs) h = (h.0 ∙ answers-later all plan before x.question, planned-later all plan (before ++ (x ∷ [])) xs (subst (λ l. AreByPlan (answers_then all plan) l xs) (append_assoc all before (x ∷ [])) h.1))

planned-following : (plan : Plan) (before xs ys : List Exchange) → AreByPlan plan before (xs ++ ys) → AreByPlan plan (before ++ xs) ys
planned-following plan before [] ys h = subst (λ l. AreByPlan plan l ys) (sym (append-nil before)) h
planned-following plan before (x ∷ xs) ys h = subst (λ l. AreByPlan plan l ys) (append_assoc before (x ∷ []) xs) (planned-following plan (before ++ (x ∷ [])) xs ys h.1)

-- ## Steps of a pass

module _ (token : ℕ → Token) (decide : State → (closer : Bracket) → Decision) (plan : Plan) where
  run-add : (n m : ℕ) (p : Pass) → run token decide plan m (run token decide plan n p) ≡ run token decide plan (n + m) p
  run-add zero m p = ap (λ k. run token decide plan k p) (let e : m ≡ 0 + m = omega arith in e)
  run-add (suc n) m p = run-add n m (step token decide plan p) ∙ ap (λ k. run token decide plan k p) (let e : suc (n + m) ≡ suc n + m = omega arith in e)

  run-ended : (n : ℕ) (p : Pass) → token p.state.at ≡ Ends → run token decide plan n p ≡ p
  run-ended zero p e = refl
  run-ended (suc n) p e = ap (run token decide plan n) (ap (λ t. stepped token decide plan t p) e) ∙ run-ended n p e

  module _ (recorded : IsRecorded decide) where
    adds-none : (s : State) → Adds s s
    adds-none s = ([], sym (append-nil s.asked))

    comes-planned : (asked : List Exchange) (d : Decision) → Comes (ByPlan plan) asked d (outcome_by plan asked d)
    comes-planned asked (Settled outcome) = refl
    comes-planned asked (Asks question answered) = (plan asked question, refl, refl)

    results-add : (p : Pass) (closer : Bracket) (result : Result) (next : State) → Adds p.state next → Adds p.state (resulting p closer result next).state
    results-add p closer StaysText next a = a
    results-add p closer (Forms nearer formed) next a = go (cut_at nearer p.here)
      where
        go : (cut : Option Cut) → Adds p.state (formed_by p closer formed next cut).state
        go None = adds-none p.state
        go (Some cut) = a

    step-adds : (p : Pass) → Adds p.state (step token decide plan p).state
    step-adds p = go (token p.state.at)
      where
        go : (t : Token) → Adds p.state (stepped token decide plan t p).state
        go (Stands item resume) = adds-none p.state
        go (Opens opener) = adds-none p.state
        go (Closes closer) =
            let d = decide p.state closer in
            let o : Outcome = outcome_by plan p.state.asked d in
            results-add p closer o.result o.after (comes-adds token decide (ByPlan plan) recorded p.state d o (recorded.keeps p.state closer) (comes-planned p.state.asked d))
        go Ends = adds-none p.state

    run-adds : (n : ℕ) (p : Pass) → Adds p.state (run token decide plan n p).state
    run-adds zero p = adds-none p.state
    run-adds (suc n) p =
        let a = step-adds p in
        let b = run-adds n (step token decide plan p) in
        (a.0 ++ b.0, b.1 ∙ ap (λ l. l ++ b.0) a.1 ∙ append_assoc p.state.asked a.0 b.0)

-- ## A leaf

module _ (reader : Reader) (leaf : Leaf) (size : ℕ) (turn : InTurn 0 leaf.stretches size) (expansion_left : ℕ) where
  abbrev before : Between
  before = record { expansion_left = expansion_left; asked = [] }

  -- some parts of the leaf were read
  module _ (p : Pass) (reads : Reads (token reader leaf) (decide reader leaf) AnyAnswer (entering leaf before) p.here p.state) (plan : Plan) where
    abbrev both : Plan
    both = answers_then p.state.asked plan

    abbrev all : ℕ
    all = end_of leaf.stretches

    abbrev goes : ℕ → Pass → Pass
    goes n q = run (token reader leaf) (decide reader leaf) both n q

    abbrev first : Pass
    first = pass (entering leaf before) Nil

    abbrev last : State
    last = leaf_end reader both leaf before

    ends : token reader leaf last.at ≡ Ends
    ends = run-ends (token reader leaf) (decide reader leaf) both all (leaf-forward reader leaf size turn) (entering leaf before) refl

    -- with these answers, the pass reads these parts and continues from there
    comes-on : last ≡ (goes all p).state
    comes-on =
        let there =
        reads-reach (token reader leaf) (decide reader leaf) (IsNext p.state.asked) both (next-is p.state.asked plan) (entering leaf before) Nil p.here p.state
        (reads-next (token reader leaf) (decide reader leaf) AnyAnswer (decide-recorded reader leaf) p.state.asked [] (entering leaf before) p.here p.state (sym (append-nil p.state.asked)) reads) in
        ap (λ (q : Pass). q.state)
        (sym (run-ended (token reader leaf) (decide reader leaf) both there.0 (goes all first) ends)
        ∙ run-add (token reader leaf) (decide reader leaf) both all there.0 first
        ∙ ap (λ k. goes k first) (let e : all + there.0 ≡ there.0 + all = omega arith in e)
        ∙ sym (run-add (token reader leaf) (decide reader leaf) both there.0 all first)
        ∙ ap (goes all) there.1)

    adds : Adds p.state last
    adds = subst (Adds p.state) (sym comes-on) (run-adds (token reader leaf) (decide reader leaf) both (decide-recorded reader leaf) all p)

    pub read-from : IsReadFrom reader leaf expansion_left p.state.asked plan
    read-from =
        let planned = reads-planned both (token reader leaf) (decide reader leaf) (decide-recorded reader leaf) (entering leaf before) (leaf_parts reader both leaf before) last
        (parts-read (token reader leaf) (decide reader leaf) (ByPlan both) both (λ asked question. refl) all (entering leaf before)) tt in
        record {
          further = adds.0;
          planned =
              planned-later p.state.asked plan [] adds.0 (subst (λ l. AreByPlan both l adds.0) (sym (append-nil p.state.asked))
              (planned-following both [] p.state.asked adds.0 (subst (AreByPlan both []) adds.1 planned)));
          events = leaf_events reader both leaf before;
          left = last.expansion_left;
          reads =
              subst (λ (l : List Exchange). ReadsLeaf reader (IsNext l) leaf before (leaf_events reader both leaf before) (record { expansion_left = last.expansion_left; asked = l })) adds.1
              (leaf-next reader leaf (decide-recorded reader leaf) (ByPlan both) before (leaf_after reader both leaf before) (leaf_events reader both leaf before) last.asked [] (sym (append-nil last.asked))
              (leaf-read reader leaf (leaf-forward reader leaf size turn) both before));
        }

-- ## If nothing was asked
pub nothing-stops : {F : Type 0} (R : F → BrokenLink → Option (CowStr × CowStr) → F → Type 0) (reader : Reader) (leaf : Leaf) (size : ℕ) → InTurn 0 leaf.stretches size → (expansion_left : ℕ) (now : F) → StopsAs R reader leaf expansion_left now now
nothing-stops R reader leaf size turn expansion_left now = record {
  asked = [];
  answered = refl;
  goes_on = read-from reader leaf size turn expansion_left (pass (entering leaf (record { expansion_left = expansion_left; asked = [] })) Nil) refl;
}
