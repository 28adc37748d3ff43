-- Where decisions keep links apart, no link of a reading holds another.
use Rattle.std.specs.Prelude.{◌||◌}
use Rattle.std.proofs.Common.{◌≡◌, ℕ, zero, suc, true, List, [], ◌∷◌, drop, refl, sym, ap, subst, ◌∙◌, arith, rules}
use Rattle.cmark_grammar.specs.BracketReading.{Comes, Reads}
use Rattle.cmark_grammar.specs.BracketStates.{Opener, new_opener, State, moved, opened, Forms, Outcome, Decision, Settled, Asks}
use Rattle.cmark_grammar.specs.Items.{Bracket, Token}
use Rattle.cmark_grammar.specs.Parts.{Formed, Parts, Nil, Single, Form, Closing, Opening, openings}
use Rattle.cmark_grammar.specs.Questions.{Exchange, Saying}
use Rattle.cmark_inline_model.specs.NestedLinks.{holds_link, HasLinksApart, Persist, OpenNoLink, FormsApart, KeepsApart, KeepsLinksApart}
use Rattle.cmark_inline_model.specs.Progress.{Always}

pub persist-same : (os : List Opener) → Persist os os
persist-same [] = refl
persist-same (o ∷ os) = (refl, λ e. e, persist-same os)

pub persist-then : (a b c : List Opener) → Persist a b → Persist b c → Persist a c
persist-then [] [] c h k = k
persist-then [] (x ∷ b) c h k = absurd (let d : ⊥ = cc in d)
persist-then (o ∷ a) [] c h k = absurd h
persist-then (o ∷ a) (n ∷ b) [] h k = absurd k
persist-then (o ∷ a) (n ∷ b) (m ∷ c) h k = (k.0 ∙ h.0, λ e. k.1 (h.1 e), persist-then a b c h.2 k.2)

still : (o n : Opener) → n.bracket ≡ o.bracket → (o.is_inactive ≡ true → n.is_inactive ≡ true) → (o.is_inactive || o.bracket.is_image) ≡ true → (n.is_inactive || n.bracket.is_image) ≡ true
still o n e f h = grind arith

pub no_link-persists : (a b : List Opener) → Persist a b → OpenNoLink a → OpenNoLink b
no_link-persists [] b h k = subst OpenNoLink (sym h) tt
no_link-persists (o ∷ a) [] h k = absurd h
no_link-persists (o ∷ a) (n ∷ b) h k = (still o n h.0 h.1 k.0, no_link-persists a b h.2 k.1)

-- the openers after the first ones
dropped_more : (n : ℕ) (os : List Opener) (o : Opener) (more : List Opener) → drop n os ≡ o ∷ more → drop (suc n) os ≡ more
dropped_more zero [] o more e = cc
dropped_more zero (x ∷ os) o more e = ap (drop 1) e
dropped_more (suc n) [] o more e = cc
dropped_more (suc n) (x ∷ os) o more e = dropped_more n os o more e

pub always-comes : (Holds : Outcome → Type 0) (Says : Saying) (asked : List Exchange) (d : Decision) (o : Outcome) → Always Holds d → Comes Says asked d o → Holds o
always-comes Holds Says asked (Settled outcome) o h k = subst Holds (sym k) h
always-comes Holds Says asked (Asks question answered) o h k = subst Holds (sym k.2) (h k.0)

module _ (token : ℕ → Token) (decide : State → (closer : Bracket) → Decision) (Says : Saying) (keeps : KeepsLinksApart decide) where
  -- of the openers at the end those from before the parts
  pub record Nests (before : List Opener) (parts : Parts) (after : List Opener) : Type 0 where
    pub persist : Persist before (drop (openings parts) after)
    pub links : holds_link parts ≡ true → OpenNoLink (drop (openings parts) after)
    pub apart : HasLinksApart parts

  begun : (s : State) (opener : Bracket) (parts : Parts) (after : List Opener) → Nests (new_opener opener ∷ s.openers) parts after → (o : Opener) × (more : List Opener) × (drop (openings parts) after ≡ o ∷ more)
  begun s opener parts after h = grind arith

  form_nests : (s : State) (opener closer : Bracket) (inside after : Parts) (formed : Formed) (until next t : State) (o : Opener) (more : List Opener)
      → drop (openings inside) until.openers ≡ o ∷ more → Nests (new_opener opener ∷ s.openers) inside until.openers → FormsApart o more formed next.openers → Nests next.openers after t.openers
      → Nests s.openers (Form opener inside closer formed after) t.openers
  form_nests s opener closer inside after formed until next t o more e h f k = grind (arith, persist-then, no_link-persists)

  pub reading-nests : (s : State) (parts : Parts) (t : State) → Reads token decide Says s parts t → Nests s.openers parts t.openers
  reading-nests s Nil t h = record { persist = subst (λ (x : State). Persist s.openers x.openers) (sym h) (persist-same s.openers); links = λ e. cc; apart = tt }
  reading-nests s (Single item after) t h = let k = reading-nests (moved h.0 s) after t h.2 in record { persist = k.persist; links = k.links; apart = k.apart }
  reading-nests s (Form opener inside closer formed after) t h =
      let i = reading-nests (opened opener s) inside h.until h.inside in
      let k = reading-nests h.next after t h.after in
      let b = begun s opener inside h.until.openers i in
      let a = always-comes (KeepsApart h.until.openers) Says h.until.asked (decide h.until closer) (record { result = Forms (openings inside) formed; after = h.next }) (keeps.keeps h.until closer) h.comes in
      form_nests s opener closer inside after formed h.until h.next t b.0 b.1 b.2 i (a b.0 b.1 b.2) k
  reading-nests s (Closing closer after) t h = grind (arith, always-comes, persist-then, reading-nests h.next after t h.after)
  reading-nests s (Opening opener after) t h = search (rules, begun, dropped_more, reading-nests (opened opener s) after t h.1)
