-- A text is read as one list of parts: each that it is read as is the pass's.
use Rattle.std.proofs.Common.{◌≡◌, ℕ, zero, suc, ◌+◌, List, Option, refl, sym, ap, subst, arith, ◌∙◌}
use Rattle.cmark_grammar.specs.Answers.{Destination}
use Rattle.cmark_grammar.specs.Items.{Bracket, Token, Stands, Opens, Closes, Ends}
use Rattle.cmark_grammar.specs.Questions.{Question, Exchange, Saying, Plan}
use Rattle.cmark_grammar.specs.Parts.{Parts, Nil, Single, Form, Closing, Opening, openings}
use Rattle.cmark_inline_model.specs.PartLists.{join}
use Rattle.cmark_grammar.specs.BracketStates.{State, moved, opened, StaysText, Forms, Outcome, Decision, Settled, Asks}
use Rattle.cmark_grammar.specs.BracketReading.{Comes, Reads, ReadsWhole}
use Rattle.cmark_inline_model.specs.BracketPass.{Pass, pass, outcome_by, formed_by, resulting, stepped, step, run, parts_by, end_by}
use Rattle.cmark_inline_model.proofs.PartCuts.{join-nil, join_assoc, cut-is}

module _ (token : ℕ → Token) (decide : State → (closer : Bracket) → Decision) (Says : Saying) (plan : Plan)
    (says : (asked : List Exchange) (question : Question) (answer : Option Destination) → Says asked question answer → answer ≡ plan asked question) where
  abbrev go_on : ℕ → Pass → Pass
  go_on n p = run token decide plan n p

  run_add : (n m : ℕ) (p : Pass) → go_on m (go_on n p) ≡ go_on (n + m) p
  run_add zero m p = ap (λ k. go_on k p) (let e : m ≡ 0 + m = omega arith in e)
  run_add (suc n) m p = run_add n m (step token decide plan p) ∙ ap (λ k. go_on k p) (let e : suc (n + m) ≡ suc n + m = omega arith in e)

  step_ended : (n : ℕ) (p : Pass) → token p.state.at ≡ Ends → go_on n p ≡ p
  step_ended zero p e = refl
  step_ended (suc n) p e = ap (go_on n) (ap (λ t. stepped token decide plan t p) e) ∙ step_ended n p e

  -- some steps lead from one pass to the other
  abbrev pub Reaches : Pass → Pass → Type 0
  Reaches p q = (n : ℕ) × (go_on n p ≡ q)

  then : (p q s : Pass) → Reaches p q → Reaches q s → Reaches p s
  then p q s h k = (h.0 + k.0, sym (run_add h.0 k.0 p) ∙ ap (go_on k.0) h.1 ∙ k.1)

  -- one step, by the token there
  stepping : (p q : Pass) (t : Token) → token p.state.at ≡ t → stepped token decide plan t p ≡ q → Reaches p q
  stepping p q t e f = (1, ap (λ x. stepped token decide plan x p) e ∙ f)

  comes_is : (asked : List Exchange) (v : Decision) (o : Outcome) → Comes Says asked v o → outcome_by plan asked v ≡ o
  comes_is asked (Settled outcome) o h = sym h
  comes_is asked (Asks question answered) o h = ap answered (sym (says asked question h.0 h.1)) ∙ sym h.2

  closing : (p q : Pass) (closer : Bracket) (o : Outcome) → token p.state.at ≡ Closes closer → Comes Says p.state.asked (decide p.state closer) o → resulting p closer o.result o.after ≡ q → Reaches p q
  closing p q closer o e comes f =
      stepping p q (Closes closer) e (ap (λ (x : Outcome). resulting p closer x.result x.after) (comes_is p.state.asked (decide p.state closer) o comes) ∙ f)

  -- the pass reaches the parts that were read before, followed by these
  pub reads-reach : (s : State) (here parts : Parts) (t : State) → Reads token decide Says s parts t → Reaches (pass s here) (pass t (join here parts))
  reads-reach s here Nil t h = (0, ap (λ x. pass x here) (sym h) ∙ ap (λ x. pass t x) (sym (join-nil here)))
  reads-reach s here (Single item after) t h =
      then (pass s here) (pass (moved h.0 s) (join here (Single item Nil))) (pass t (join here (Single item after)))
      (stepping (pass s here) (pass (moved h.0 s) (join here (Single item Nil))) (Stands item h.0) h.1 refl)
      (subst (λ x. Reaches (pass (moved h.0 s) (join here (Single item Nil))) (pass t x)) (join_assoc here (Single item Nil) after)
      (reads-reach (moved h.0 s) (join here (Single item Nil)) after t h.2))
  reads-reach s here (Form opener inside closer formed after) t h =
      let begun : Parts = join here (Opening opener Nil) in
      let full : Parts = join here (Opening opener inside) in
      let piece : Parts = Form opener inside closer formed Nil in
      then (pass s here) (pass (opened opener s) begun) (pass t (join here (Form opener inside closer formed after)))
      (stepping (pass s here) (pass (opened opener s) begun) (Opens opener) h.opens refl)
      (then (pass (opened opener s) begun) (pass h.until full) (pass t (join here (Form opener inside closer formed after)))
      (subst (λ x. Reaches (pass (opened opener s) begun) (pass h.until x)) (join_assoc here (Opening opener Nil) inside)
      (reads-reach (opened opener s) begun inside h.until h.inside))
      (then (pass h.until full) (pass h.next (join here piece)) (pass t (join here (Form opener inside closer formed after)))
      (closing (pass h.until full) (pass h.next (join here piece)) closer (record { result = Forms (openings inside) formed; after = h.next }) h.closes h.comes
      (ap (formed_by (pass h.until full) closer formed h.next) (cut-is here opener inside)))
      (subst (λ x. Reaches (pass h.next (join here piece)) (pass t x)) (join_assoc here piece after)
      (reads-reach h.next (join here piece) after t h.after))))
  reads-reach s here (Closing closer after) t h =
      let piece : Parts = Closing closer Nil in
      then (pass s here) (pass h.next (join here piece)) (pass t (join here (Closing closer after)))
      (closing (pass s here) (pass h.next (join here piece)) closer (record { result = StaysText; after = h.next }) h.closes h.comes refl)
      (subst (λ x. Reaches (pass h.next (join here piece)) (pass t x)) (join_assoc here piece after)
      (reads-reach h.next (join here piece) after t h.after))
  reads-reach s here (Opening opener after) t h =
      let piece : Parts = Opening opener Nil in
      then (pass s here) (pass (opened opener s) (join here piece)) (pass t (join here (Opening opener after)))
      (stepping (pass s here) (pass (opened opener s) (join here piece)) (Opens opener) h.0 refl)
      (subst (λ x. Reaches (pass (opened opener s) (join here piece)) (pass t x)) (join_assoc here piece after)
      (reads-reach (opened opener s) (join here piece) after t h.1))

  -- a pass at the end does not change
  reached_end : (n m : ℕ) (p : Pass) → token (go_on n p).state.at ≡ Ends → token (go_on m p).state.at ≡ Ends → go_on n p ≡ go_on m p
  reached_end zero m p e f = sym (step_ended m p e)
  reached_end (suc n) zero p e f = step_ended (suc n) p f
  reached_end (suc n) (suc m) p e f = reached_end n m (step token decide plan p) e f

  -- two readings of the whole text are the same
  pub parts-same : (s : State) (first second : Parts) (t u : State) → ReadsWhole token decide Says s first t → ReadsWhole token decide Says s second u → (first ≡ second) × (t ≡ u)
  parts-same s first second t u h k =
      let a = reads-reach s Nil first t h.reads in
      let b = reads-reach s Nil second u k.reads in
      let p : token (go_on a.0 (pass s Nil)).state.at ≡ Ends = ap (λ (q : Pass). token q.state.at) a.1 ∙ h.ends in
      let q : token (go_on b.0 (pass s Nil)).state.at ≡ Ends = ap (λ (q : Pass). token q.state.at) b.1 ∙ k.ends in
      let same : pass t first ≡ pass u second = sym a.1 ∙ reached_end a.0 b.0 (pass s Nil) p q ∙ b.1 in
      (ap (λ (q : Pass). q.here) same, ap (λ (q : Pass). q.state) same)

  -- and are the pass's
  pub parts-one : (n : ℕ) (s : State) (parts : Parts) (t : State) → token (end_by token decide plan n s).at ≡ Ends → ReadsWhole token decide Says s parts t → (parts ≡ parts_by token decide plan n s) × (t ≡ end_by token decide plan n s)
  parts-one n s parts t e h =
      let a = reads-reach s Nil parts t h.reads in
      let p : token (go_on a.0 (pass s Nil)).state.at ≡ Ends = ap (λ (q : Pass). token q.state.at) a.1 ∙ h.ends in
      let same : pass t parts ≡ go_on n (pass s Nil) = sym a.1 ∙ reached_end a.0 n (pass s Nil) p e in
      (ap (λ (q : Pass). q.here) same, ap (λ (q : Pass). q.state) same)
