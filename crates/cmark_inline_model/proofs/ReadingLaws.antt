-- Readings preserve the facts that decisions preserve: about the constructs formed, their cost, their ranges, and the number of questions.
use Rattle.std.specs.Prelude.{◌-◌, sum}
use Rattle.std.proofs.Common.{◌≡◌, ℕ, suc, ◌+◌, ◌<◌, ◌≤◌, List, [], ◌∷◌, ◌++◌, length, sym, ap, subst, arith, rules}
use Rattle.std.proofs.lemmas.List.{length-append}
use Rattle.std.proofs.lemmas.List.Sums.{sum_by-cons}
use Rattle.cmark_grammar.specs.BracketReading.{Comes, Reads}
use Rattle.cmark_grammar.specs.BracketStates.{State, moved, opened, StaysText, Forms, Outcome, Decision}
use Rattle.cmark_grammar.specs.Items.{Bracket, Token}
use Rattle.cmark_grammar.specs.Parts.{Formed, Parts, Nil, Single, Form, Closing, Opening, openings}
use Rattle.cmark_grammar.specs.Questions.{Exchange, Saying}
use Rattle.cmark_inline_model.specs.ReferenceExpansion.{costs, Spends, KeepsLimit}
use Rattle.cmark_inline_model.specs.FormedParts.{AllFormed, ResultHolds, FormsOnly, closings}
use Rattle.cmark_inline_model.specs.PartRanges.{end_of, StandBetween, Reaches, KeepsRanges}
use Rattle.cmark_inline_model.specs.Progress.{Keeps, IsRecorded}
use Rattle.cmark_inline_model.proofs.BracketQuestions.{comes-adds, added-before, reads-add}
use Rattle.cmark_inline_model.proofs.LinkNesting.{always-comes}

module _ (token : ℕ → Token) (decide : State → (closer : Bracket) → Decision) (Says : Saying) where
  -- a construct is right with all questions of the reading, if further questions change nothing
  pub formed-hold : (Holds : List Exchange → Formed → Type 0) → ((asked more : List Exchange) (formed : Formed) → Holds asked formed → Holds (asked ++ more) formed)
      → IsRecorded decide → FormsOnly Holds decide → (all rest : List Exchange) (s : State) (parts : Parts) (t : State) → all ≡ t.asked ++ rest
      → Reads token decide Says s parts t → AllFormed (Holds all) parts
  formed-hold Holds grows recorded keeps all rest s Nil t e h = tt
  formed-hold Holds grows recorded keeps all rest s (Single item after) t e h = formed-hold Holds grows recorded keeps all rest (moved h.0 s) after t e h.2
  formed-hold Holds grows recorded keeps all rest s (Form opener inside closer formed after) t e h =
      let d = decide h.until closer in
      let o : Outcome = record { result = Forms (openings inside) formed; after = h.next } in
      let following = reads-add token decide Says recorded h.next after t h.after in
      let there : all ≡ h.next.asked ++ (following.0 ++ rest) = added-before token decide Says recorded all rest h.next t following e in
      let own = comes-adds token decide Says recorded h.until d o (recorded.keeps h.until closer) h.comes in
      let before : all ≡ h.until.asked ++ (own.0 ++ (following.0 ++ rest)) = added-before token decide Says recorded all (following.0 ++ rest) h.until h.next own there in
      let right : Holds h.next.asked formed = always-comes (λ x. ResultHolds (Holds x.after.asked) x.result) Says h.until.asked d o (keeps.forms h.until closer) h.comes in (
        subst (λ xs. Holds xs formed) (sym there) (grows h.next.asked (following.0 ++ rest) formed right),
        formed-hold Holds grows recorded keeps all (own.0 ++ (following.0 ++ rest)) (opened opener s) inside h.until before h.inside,
        formed-hold Holds grows recorded keeps all rest h.next after t e h.after,
      )
  formed-hold Holds grows recorded keeps all rest s (Closing closer after) t e h = formed-hold Holds grows recorded keeps all rest h.next after t e h.after
  formed-hold Holds grows recorded keeps all rest s (Opening opener after) t e h = formed-hold Holds grows recorded keeps all rest (opened opener s) after t e h.1

  -- ## Expansion

  pub spends-then : (a b : List ℕ) (before between after : ℕ) → Spends before a between → Spends between b after → Spends before (a ++ b) after
  spends-then [] b before between after h k = subst (λ n. Spends n b after) h k
  spends-then (c ∷ a) b before between after h k = (h.0, spends-then a b (before - c) between after h.1 k)

  pub reading-spends : KeepsLimit decide → (s : State) (parts : Parts) (t : State) → Reads token decide Says s parts t → Spends s.expansion_left (costs parts) t.expansion_left
  reading-spends keeps s Nil t h = ap (λ (x : State). x.expansion_left) h
  reading-spends keeps s (Single item after) t h = reading-spends keeps (moved h.0 s) after t h.2
  reading-spends keeps s (Form opener inside closer formed after) t h = search (rules, spends-then, always-comes, reading-spends keeps (opened opener s) inside h.until h.inside, reading-spends keeps h.next after t h.after)
  reading-spends keeps s (Closing closer after) t h = grind (arith, always-comes, reading-spends keeps h.next after t h.after)
  reading-spends keeps s (Opening opener after) t h = reading-spends keeps (opened opener s) after t h.1

  -- ## Ranges

  pub reading-stands : (size : ℕ) → KeepsRanges token decide size → (s : State) (parts : Parts) (t : State) (from : ℕ) → from ≤ s.at → s.at ≤ size → Reads token decide Says s parts t → StandBetween from parts t.at × (t.at ≤ size)
  reading-stands size keeps s Nil t from f w h =
      let e : t.at ≡ s.at = ap (λ (x : State). x.at) h in (omega arith, omega arith)
  reading-stands size keeps s (Single item after) t from f w h =
      let a = keeps.stands s.at h.0 item h.1 in
      let x = a.0.begins in
      let k = reading-stands size keeps (moved h.0 s) after t item.end a.0.ends a.1 h.2 in
      ((omega arith, a.0.ordered, k.0), k.1)
  reading-stands size keeps s (Form opener inside closer formed after) t from f w h =
      let a = keeps.opens s.at opener h.opens in
      let x = a.begins in
      let i = reading-stands size keeps (opened opener s) inside h.until opener.end (omega arith) a.ends h.inside in
      let c = keeps.closes h.until.at closer h.closes in
      let r = always-comes (Reaches closer.end size) Says h.until.asked (decide h.until closer) (record { result = Forms (openings inside) formed; after = h.next }) (keeps.comes h.until closer h.closes) h.comes in
      let k = reading-stands size keeps h.next after t (end_of formed) r.following.1 r.within h.after in
      ((omega arith, a.ordered, farther opener.end inside h.until.at closer.start i.0 c.0.begins, c.1, r.following.0, k.0), k.1)
    where
      farther : (low : ℕ) (parts : Parts) (to more : ℕ) → StandBetween low parts to → to ≤ more → StandBetween low parts more
      farther low Nil to more h e = omega arith
      farther low (Single item after) to more h e = (h.0, h.1, farther item.end after to more h.2 e)
      farther low (Form opener inside closer formed after) to more h e = (h.0, h.1, h.2, h.3, h.4, farther (end_of formed) after to more h.5 e)
      farther low (Closing closer after) to more h e = (h.0, h.1, farther closer.end after to more h.2 e)
      farther low (Opening opener after) to more h e = (h.0, h.1, farther opener.end after to more h.2 e)
  reading-stands size keeps s (Closing closer after) t from f w h =
      let c = keeps.closes s.at closer h.closes in
      let x = c.0.begins in
      let r = always-comes (Reaches closer.end size) Says s.asked (decide s closer) (record { result = StaysText; after = h.next }) (keeps.comes s closer h.closes) h.comes in
      let k = reading-stands size keeps h.next after t closer.end r.following r.within h.after in
      ((omega arith, c.1, k.0), k.1)
  reading-stands size keeps s (Opening opener after) t from f w h =
      let a = keeps.opens s.at opener h.0 in
      let x = a.begins in
      let k = reading-stands size keeps (opened opener s) after t opener.end (omega arith) a.ends h.1 in
      ((omega arith, a.ordered, k.0), k.1)

  -- ## Questions

  one_question : (s : State) (d : Decision) (o : Outcome) → Keeps s.asked d → Comes Says s.asked d o → length o.after.asked ≤ suc (length s.asked)
  one_question s d o k h = grind (arith, length-append)

  pub questions-few : IsRecorded decide → (s : State) (parts : Parts) (t : State) → Reads token decide Says s parts t → length t.asked ≤ closings parts + length s.asked
  questions-few recorded s Nil t h = let e : length t.asked ≡ length s.asked = ap (λ (x : State). length x.asked) h in omega arith
  questions-few recorded s (Single item after) t h = questions-few recorded (moved h.0 s) after t h.2
  questions-few recorded s (Form opener inside closer formed after) t h = search (rules, one_question, questions-few recorded (opened opener s) inside h.until h.inside, questions-few recorded h.next after t h.after)
  questions-few recorded s (Closing closer after) t h = grind (arith, one_question, questions-few recorded h.next after t h.after)
  questions-few recorded s (Opening opener after) t h = questions-few recorded (opened opener s) after t h.1

-- all costs but the last are less than what there was
pub all-but-last : (cs : List ℕ) (last before after : ℕ) → Spends before (cs ++ (last ∷ [])) after → sum cs < before
all-but-last [] last before after h = h.0
all-but-last (c ∷ cs) last before after h =
    let k = all-but-last cs last (before - c) after h.1 in let e : sum (c ∷ cs) ≡ c + sum cs = sum_by-cons (λ n. n) c cs in omega arith
