-- So many steps as there are bytes lead to the end of the text.
use Rattle.std.proofs.Common.{◌≡◌, ◌≢◌, ◌⊎◌, inr, ℕ, zero, suc, ◌+◌, ◌<◌, ◌≤◌, true, false, ◌==◌, List, [], length, Option, Some, None, refl, ap, arith, ◌∙◌}
use Rattle.std.proofs.lemmas.Bool.{eq-eqb}
use Rattle.cmark_grammar.specs.Items.{Bracket, Token, Ends}
use Rattle.cmark_grammar.specs.Questions.{Plan, Exchange}
use Rattle.cmark_grammar.specs.Parts.{Parts, Nil, Single, Form, Closing, Opening, openings}
use Rattle.cmark_inline_model.specs.PartLists.{Cut, following, cut_at}
use Rattle.cmark_grammar.specs.BracketStates.{State, Result, Outcome, Decision, Settled, Asks}
use Rattle.cmark_inline_model.specs.BracketPass.{Pass, outcome_by, resulting, stepped, step, run, end_by}
use Rattle.cmark_inline_model.specs.Progress.{Always, FitsBy, IsForward}
use Rattle.cmark_inline_model.proofs.PartCuts.{openings-join, cuts}

-- a list with more than `nearer` such brackets has a cut
abbrev IsThere : ℕ → ℕ → Option Cut → Type 0
IsThere nearer size None = size ≤ nearer
IsThere nearer size (Some cut) = ℕ

there_after : (nearer size : ℕ) (piece : Parts) (cut : Option Cut) → IsThere nearer size cut → IsThere nearer size (following piece cut)
there_after nearer size piece None h = h
there_after nearer size piece (Some cut) h = 0

ne_true : (a b : ℕ) → (a == b) ≡ false → a ≢ b
ne_true a b e s = let f : (a == b) ≡ true = eq-eqb a b s in let d : ⊥ = cc in d

below : (a b : ℕ) → (a == b) ≡ false → a ≤ b → suc a ≤ b
below a b e h = let n = ne_true a b e in omega (arith, n)

is_there : (nearer : ℕ) (whole : Parts) → IsThere nearer (openings whole) (cut_at nearer whole)
is_there nearer Nil = omega arith
is_there nearer (Single item after) = there_after nearer (openings after) (Single item Nil) (cut_at nearer after) (is_there nearer after)
is_there nearer (Form opener inside closer formed after) = there_after nearer (openings after) (Form opener inside closer formed Nil) (cut_at nearer after) (is_there nearer after)
is_there nearer (Closing closer after) = there_after nearer (openings after) (Closing closer Nil) (cut_at nearer after) (is_there nearer after)
is_there nearer (Opening opener after) = grind (arith, below, is_there nearer after)

module _ (token : ℕ → Token) (decide : State → (closer : Bracket) → Decision) (plan : Plan) where
  -- the state has one opening bracket for each that is a text in the list
  abbrev IsKnown : Pass → Type 0
  IsKnown p = openings p.here ≡ length p.state.openers

  always_by : (Holds : Outcome → Type 0) (asked : List Exchange) (d : Decision) → Always Holds d → Holds (outcome_by plan asked d)
  always_by Holds asked (Settled outcome) h = h
  always_by Holds asked (Asks question answered) h = h (plan asked question)

  -- if a decision fits, the pass moves on, and its state is the state of the decision
  pub record Moves (p : Pass) (q : Pass) (next : State) : Type 0 where
    pub state_is : q.state ≡ next
    pub known : IsKnown q

  results_in : (p : Pass) (closer : Bracket) (result : Result) (next : State) → IsKnown p → FitsBy (length p.state.openers) (length next.openers) result → Moves p (resulting p closer result next) next
  results_in p closer result next h f = grind (arith, openings-join, is_there, cuts)

  module _ (size : ℕ) (forward : IsForward token decide size) where
    abbrev Goes : Pass → Pass → Type 0
    Goes p q = ((token p.state.at ≡ Ends) ⊎ (p.state.at < q.state.at)) × IsKnown q

    step_goes : (p : Pass) → IsKnown p → Goes p (step token decide plan p)
    step_goes p h = grind (arith, openings-join, results_in, always_by)

    ended : (n : ℕ) (p : Pass) → token p.state.at ≡ Ends → run token decide plan n p ≡ p
    ended zero p e = refl
    ended (suc n) p e = ap (run token decide plan n) (ap (λ t. stepped token decide plan t p) e) ∙ ended n p e

    run_goes : (n : ℕ) (p : Pass) → IsKnown p → (token (run token decide plan n p).state.at ≡ Ends) ⊎ (n + p.state.at ≤ (run token decide plan n p).state.at)
    run_goes zero p h = inr (omega arith)
    run_goes (suc n) p h = go (step_goes p h).0 (run_goes n (step token decide plan p) (step_goes p h).1)
      where
        go : (token p.state.at ≡ Ends) ⊎ (p.state.at < (step token decide plan p).state.at)
            → (token (run token decide plan n (step token decide plan p)).state.at ≡ Ends) ⊎ (n + (step token decide plan p).state.at ≤ (run token decide plan n (step token decide plan p)).state.at)
            → (token (run token decide plan n (step token decide plan p)).state.at ≡ Ends) ⊎ (suc n + p.state.at ≤ (run token decide plan n (step token decide plan p)).state.at)
        go a h = grind (arith, ended)

    pub run-ends : (s : State) → s.openers ≡ [] → token (end_by token decide plan size s).at ≡ Ends
    run-ends s e = grind (arith, run_goes)
