-- The questions that a reading puts: they are only added, and a reading with any answers is a reading with the list of the answers that it
-- got.
use Rattle.std.proofs.Common.{◌≡◌, ℕ, List, [], ◌∷◌, ◌++◌, Option, None, refl, sym, ap, ◌∙◌, append_assoc, append-nil, arith}
use Rattle.cmark_grammar.specs.Answers.{Destination}
use Rattle.cmark_grammar.specs.Items.{Bracket, Token}
use Rattle.cmark_grammar.specs.Questions.{Question, Exchange, Saying, Plan, IsNext}
use Rattle.cmark_inline_model.specs.Progress.{Keeps, IsRecorded}
use Rattle.cmark_grammar.specs.Parts.{Parts, Nil, Single, Form, Closing, Opening, openings}
use Rattle.cmark_grammar.specs.BracketStates.{State, moved, opened, StaysText, Forms, Outcome, Decision, Settled, Asks}
use Rattle.cmark_grammar.specs.BracketReading.{Comes, Reads}

-- questions were added
abbrev pub Adds : State → State → Type 0
Adds s t = (more : List Exchange) × (t.asked ≡ s.asked ++ more)

adds_both : (r m s : State) → Adds r m → Adds m s → Adds r s
adds_both r m s h k = (h.0 ++ k.0, k.1 ∙ ap (λ l. l ++ k.0) h.1 ∙ append_assoc r.asked h.0 k.0)

module _ (token : ℕ → Token) (decide : State → (closer : Bracket) → Decision) (Says : Saying) (recorded : IsRecorded decide) where
  pub comes-adds : (s : State) (d : Decision) (o : Outcome) → Keeps s.asked d → Comes Says s.asked d o → Adds s o.after
  comes-adds s (Settled outcome) o k h = ([], ap (λ (x : Outcome). x.after.asked) h ∙ k ∙ sym (append-nil s.asked))
  comes-adds s (Asks question answered) o k h = (record { question = question; answer = h.0 } ∷ [], ap (λ (x : Outcome). x.after.asked) h.2 ∙ k h.0)

  pub reads-add : (s : State) (parts : Parts) (t : State) → Reads token decide Says s parts t → Adds s t
  reads-add s Nil t h = ([], ap (λ (x : State). x.asked) h ∙ sym (append-nil s.asked))
  reads-add s (Single item after) t h = reads-add (moved h.0 s) after t h.2
  reads-add s (Form opener inside closer formed after) t h =
      adds_both s h.next t
      (adds_both s h.until h.next (reads-add (opened opener s) inside h.until h.inside)
      (comes-adds h.until (decide h.until closer) (record { result = Forms (openings inside) formed; after = h.next }) (recorded.keeps h.until closer) h.comes))
      (reads-add h.next after t h.after)
  reads-add s (Closing closer after) t h =
      adds_both s h.next t (comes-adds s (decide s closer) (record { result = StaysText; after = h.next }) (recorded.keeps s closer) h.comes) (reads-add h.next after t h.after)
  reads-add s (Opening opener after) t h = reads-add (opened opener s) after t h.1

  comes_next : (s : State) (d : Decision) (o : Outcome) (all rest : List Exchange) → Keeps s.asked d → Comes Says s.asked d o → all ≡ o.after.asked ++ rest → Comes (IsNext all) s.asked d o
  comes_next s d o all rest k h e = grind (arith, append_assoc)

  pub added-before : (all rest : List Exchange) (s t : State) (a : Adds s t) → all ≡ t.asked ++ rest → all ≡ s.asked ++ (a.0 ++ rest)
  added-before all rest s t a e = e ∙ ap (λ l. l ++ rest) a.1 ∙ append_assoc s.asked a.0 rest

  pub reads-next : (all rest : List Exchange) (s : State) (parts : Parts) (t : State) → all ≡ t.asked ++ rest → Reads token decide Says s parts t → Reads token decide (IsNext all) s parts t
  reads-next all rest s Nil t e h = h
  reads-next all rest s (Single item after) t e h = (h.0, h.1, reads-next all rest (moved h.0 s) after t e h.2)
  reads-next all rest s (Form opener inside closer formed after) t e h =
      let d = decide h.until closer in
      let o : Outcome = record { result = Forms (openings inside) formed; after = h.next } in
      let k = recorded.keeps h.until closer in
      let following : Adds h.next t = reads-add h.next after t h.after in
      let there : all ≡ h.next.asked ++ (following.0 ++ rest) = added-before all rest h.next t following e in
      let own : Adds h.until h.next = comes-adds h.until d o k h.comes in
      let before : all ≡ h.until.asked ++ (own.0 ++ (following.0 ++ rest)) = added-before all (following.0 ++ rest) h.until h.next own there in
      record {
        until = h.until;
        next = h.next;
        opens = h.opens;
        inside = reads-next all (own.0 ++ (following.0 ++ rest)) (opened opener s) inside h.until before h.inside;
        closes = h.closes;
        comes = comes_next h.until d o all (following.0 ++ rest) k h.comes there;
        after = reads-next all rest h.next after t e h.after;
      }
  reads-next all rest s (Closing closer after) t e h =
      let following : Adds h.next t = reads-add h.next after t h.after in
      record {
        next = h.next;
        closes = h.closes;
        comes = comes_next s (decide s closer) (record { result = StaysText; after = h.next }) all (following.0 ++ rest) (recorded.keeps s closer) h.comes (added-before all rest h.next t following e);
        after = reads-next all rest h.next after t e h.after;
      }
  reads-next all rest s (Opening opener after) t e h = (h.0, reads-next all rest (opened opener s) after t e h.1)

-- the plan that gives the answers of a list, in order
abbrev pub answer_at : (all asked : List Exchange) → Option Destination
answer_at [] asked = None
answer_at (x ∷ xs) [] = x.answer
answer_at (x ∷ xs) (a ∷ asked) = answer_at xs asked

abbrev pub plan_of : List Exchange → Plan
plan_of all asked question = answer_at all asked

answer_next : (x : Exchange) (asked rest : List Exchange) → answer_at (asked ++ (x ∷ rest)) asked ≡ x.answer
answer_next x [] rest = refl
answer_next x (a ∷ asked) rest = answer_next x asked rest

pub next-plan : (all asked : List Exchange) (question : Question) (answer : Option Destination) → IsNext all asked question answer → answer ≡ plan_of all asked question
next-plan all asked question answer h =
    sym (ap (λ l. answer_at l asked) h.cut ∙ answer_next (record { question = question; answer = answer }) asked h.rest)
