-- The parts of the pass satisfy the definition.
use Rattle.std.proofs.Common.{◌≡◌, ℕ, zero, suc, List, refl, subst, arith}
use Rattle.cmark_grammar.specs.Items.{Bracket, Token, Closes}
use Rattle.cmark_grammar.specs.Questions.{Question, Exchange, Saying, Plan}
use Rattle.cmark_grammar.specs.Parts.{Formed, Parts, Nil, Single, Form, Closing, Opening}
use Rattle.cmark_inline_model.specs.PartLists.{join, Cut}
use Rattle.cmark_grammar.specs.BracketStates.{State, moved, opened, Result, Forms, Decision, Settled, Asks}
use Rattle.cmark_grammar.specs.BracketReading.{Comes, Reads}
use Rattle.cmark_inline_model.specs.BracketPass.{Pass, pass, outcome_by, resulting, step, run, parts_by, end_by}
use Rattle.cmark_inline_model.proofs.PartCuts.{IsCut, cuts}

module _ (token : ℕ → Token) (decide : State → (closer : Bracket) → Decision) (Says : Saying) where
  -- two readings, one after the other
  pub joined : (s : State) (a : Parts) (m : State) (b : Parts) (t : State) → Reads token decide Says s a m → Reads token decide Says m b t → Reads token decide Says s (join a b) t
  joined s Nil m b t h k = subst (λ x. Reads token decide Says x b t) h k
  joined s (Single item after) m b t h k = (h.0, h.1, joined (moved h.0 s) after m b t h.2 k)
  joined s (Form opener inside closer formed after) m b t h k = grind (arith, joined h.next after m b t h.after k)
  joined s (Closing closer after) m b t h k = record { next = h.next; closes = h.closes; comes = h.comes; after = joined h.next after m b t h.after k }
  joined s (Opening opener after) m b t h k = (h.0, joined (opened opener s) after m b t h.1 k)

  -- and apart again
  abbrev pub Splits : State → Parts → Parts → State → Type 0
  Splits s a b t = (m : State) × Reads token decide Says s a m × Reads token decide Says m b t

  pub split : (s : State) (a b : Parts) (t : State) → Reads token decide Says s (join a b) t → Splits s a b t
  split s Nil b t h = (s, refl, h)
  split s (Single item after) b t h = let k = split (moved h.0 s) after b t h.2 in (k.0, (h.0, h.1, k.1), k.2)
  split s (Form opener inside closer formed after) b t h = grind (arith, split h.next after b t h.after)
  split s (Closing closer after) b t h = grind (arith, split h.next after b t h.after)
  split s (Opening opener after) b t h = let k = split (opened opener s) after b t h.1 in (k.0, (h.0, k.1), k.2)

  -- the parts after an opening bracket become the construct that it forms with a closing one
  pub formed-reads : (start : State) (whole : Parts) (now next : State) (closer : Bracket) (formed : Formed) (cut : Cut) (nearer : ℕ) → IsCut nearer whole cut → Reads token decide Says start whole now
      → token now.at ≡ Closes closer → Comes Says now.asked (decide now closer) (record { result = Forms nearer formed; after = next })
      → Reads token decide Says start (join cut.before (Form cut.opener cut.inside closer formed Nil)) next
  formed-reads start whole now next closer formed cut nearer is h e comes = grind (arith, split, joined)

  abbrev pub Holds : State → Pass → Type 0
  Holds start p = Reads token decide Says start p.here p.state

  pub results : (start : State) (p : Pass) (closer : Bracket) (result : Result) (next : State) → token p.state.at ≡ Closes closer
      → Comes Says p.state.asked (decide p.state closer) (record { result = result; after = next }) → Holds start p → Holds start (resulting p closer result next)
  results start p closer result next e comes h = grind (arith, joined, cuts, formed-reads)

  module _ (plan : Plan) (says : (asked : List Exchange) (question : Question) → Says asked question (plan asked question)) where
    comes_by : (asked : List Exchange) (v : Decision) → Comes Says asked v (outcome_by plan asked v)
    comes_by asked (Settled outcome) = refl
    comes_by asked (Asks question answered) = (plan asked question, says asked question, refl)

    step_holds : (start : State) (p : Pass) → Holds start p → Holds start (step token decide plan p)
    step_holds start p h = grind (arith, joined, results, comes_by)

    run_holds : (start : State) (n : ℕ) (p : Pass) → Holds start p → Holds start (run token decide plan n p)
    run_holds start zero p h = h
    run_holds start (suc n) p h = run_holds start n (step token decide plan p) (step_holds start p h)

    pub parts-read : (n : ℕ) (start : State) → Reads token decide Says start (parts_by token decide plan n start) (end_by token decide plan n start)
    parts-read n start = run_holds start n (pass start Nil) refl
