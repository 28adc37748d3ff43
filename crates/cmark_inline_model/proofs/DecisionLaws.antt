-- The grammar's decisions take brackets that are there, record their questions, keep links apart and keep the reference expansion limit.
use Rattle.std.specs.Prelude.{suc, zero, ◌-◌, ◌==◌, not, drop, map}
use Rattle.std.proofs.Common.{◌≡◌, ◌<◌, ◌+◌, ℕ, Bool, true, false, List, [], ◌∷◌, ◌++◌, length, refl, sym, ap, subst, arith, ◌∙◌}
use Rattle.std.proofs.lemmas.List.{length-map}
use Rattle.cmark_grammar.specs.Answers.{Destination}
use Rattle.cmark_grammar.specs.BracketDecisions.{Named, decide}
use Rattle.cmark_grammar.specs.BracketStates.{Opener, State, Outcome, Decision, Settled, Asks}
use Rattle.cmark_grammar.specs.Items.{Bracket}
use Rattle.cmark_grammar.specs.LeafText.{Leaf}
use Rattle.cmark_grammar.specs.LinkType.{LinkType}
use Rattle.cmark_grammar.specs.OpenBrackets.{Taken, undoubled, inactive, after_link, dropped}
use Rattle.cmark_grammar.specs.Parts.{Formed, Footnote}
use Rattle.cmark_grammar.specs.Questions.{Exchange}
use Rattle.cmark_grammar.specs.Readers.{Reader}
use Rattle.cmark_inline_model.specs.ReferenceExpansion.{cost_as, Pays, KeepsLimit}
use Rattle.cmark_inline_model.specs.NestedLinks.{is_link, Persist, OpenNoLink, FormsApart, KeepsApart, KeepsLinksApart}
use Rattle.cmark_inline_model.specs.Progress.{Always, Fits, Keeps, IsRecorded}
use Rattle.cmark_inline_model.proofs.DecisionShape.{exchange, IsNamed, Leads, Defined, Answered, Takes, Shape, Stays, ToInline, ToReference, ToFootnote, ToWiki, DecisionShape, decide-shape}
use Rattle.cmark_inline_model.proofs.LinkNesting.{persist-then, no_link-persists}
use Rattle.cmark_inline_model.proofs.Openers.{Alike, alike-length, alike-drop, alike-persist, dropped-persist, inactive-persist, undoubled-persist, link-persist, inactive-opens-none, left-then}

module _ (reader : Reader) (leaf : Leaf) where
  -- a fact that holds of each shape holds of the outcome of a decision
  pub always-by : (s : State) (closer : Bracket) (Holds : Outcome → Type 0) → ((asked : List Exchange) (o : Outcome) → Shape reader leaf s closer asked o → Holds o) → Always Holds (decide reader leaf s closer)
  always-by s closer Holds keeps = go (decide reader leaf s closer) (decide-shape reader leaf s closer)
    where
      go : (d : Decision) → DecisionShape reader leaf s closer d → Always Holds d
      go (Settled o) h = keeps s.asked o h
      go (Asks q answered) h = λ answer. keeps (s.asked ++ (exchange q answer ∷ [])) (answered answer) (h.1 answer)

  -- ## Questions

  asked_is : (s : State) (closer : Bracket) (asked : List Exchange) (o : Outcome) → Shape reader leaf s closer asked o → o.after.asked ≡ asked
  asked_is s closer asked o h = grind arith

  pub decide-recorded : IsRecorded (decide reader leaf)
  decide-recorded = record { keeps = λ s closer. go s closer (decide reader leaf s closer) (decide-shape reader leaf s closer) }
    where
      go : (s : State) (closer : Bracket) (d : Decision) → DecisionShape reader leaf s closer d → Keeps s.asked d
      go s closer (Settled o) h = asked_is s closer s.asked o h
      go s closer (Asks q answered) h = λ answer. asked_is s closer (s.asked ++ (exchange q answer ∷ [])) (answered answer) (h.1 answer)

  -- ## Opening brackets that are there

  link_length : (is_image : Bool) (os : List Opener) → length (after_link is_image os) ≡ length os
  link_length true os = refl
  link_length false os = length-map os inactive

  taken_fits : (s : State) (os : List Opener) (taken : Taken) (change : List Opener → List Opener) → Alike s.openers os → Takes reader leaf s.openers taken → ((l : List Opener) → length (change l) ≡ length l)
      → length (change (drop (suc taken.nearer) os)) + suc taken.nearer ≡ length s.openers
  taken_fits s os taken change h t keeps =
      let e = alike-length (drop (suc taken.nearer) s.openers) (drop (suc taken.nearer) os) (alike-drop (suc taken.nearer) s.openers os h) in
      left-then (length s.openers) taken.nearer s.openers (change (drop (suc taken.nearer) os)) t.is_taken.opener t.is_taken.before refl t.is_taken.there (keeps (drop (suc taken.nearer) os) ∙ e)

  shape_fits : (s : State) (closer : Bracket) (asked : List Exchange) (o : Outcome) → Shape reader leaf s closer asked o → Fits (length s.openers) o
  shape_fits s closer asked o (Stays label os h e) = subst (Fits (length s.openers)) (sym e) (alike-length s.openers os h)
  shape_fits s closer asked o (ToInline label os taken tail h t found e) =
      subst (Fits (length s.openers)) (sym e) (taken_fits s os taken (after_link taken.opener.bracket.is_image) h t (link_length taken.opener.bracket.is_image))
  shape_fits s closer asked o (ToReference label os taken named link_type found h t n some l e) =
      subst (Fits (length s.openers)) (sym e) (taken_fits s os taken (after_link taken.opener.bracket.is_image) h t (link_length taken.opener.bracket.is_image))
  shape_fits s closer asked o (ToFootnote label os taken name h t on e) = subst (Fits (length s.openers)) (sym e) (taken_fits s os taken (map dropped) h t (λ l. length-map l dropped))
  shape_fits s closer asked o (ToWiki label os first far h t on next touched e) =
      subst (Fits (length s.openers)) (sym e) (taken_fits s os first (λ l. map undoubled (map inactive l)) h t (λ l. length-map (map inactive l) undoubled ∙ length-map l inactive))

  pub decide-fits : (s : State) (closer : Bracket) → Always (Fits (length s.openers)) (decide reader leaf s closer)
  decide-fits s closer = always-by s closer (Fits (length s.openers)) (shape_fits s closer)

  -- ## Links apart

  taken_apart : (s : State) (os : List Opener) (taken : Taken) (formed : Formed) (change : List Opener → List Opener) → Alike s.openers os → Takes reader leaf s.openers taken
      → ((l : List Opener) → Persist l (change l)) → (is_link taken.opener.bracket formed ≡ true → (l : List Opener) → OpenNoLink (change l))
      → (opener : Opener) (before : List Opener) → drop taken.nearer s.openers ≡ opener ∷ before → FormsApart opener before formed (change (drop (suc taken.nearer) os))
  taken_apart s os taken formed change h t keeps none opener before e =
      let there : opener ∷ before ≡ t.is_taken.opener ∷ t.is_taken.before = sym e ∙ t.is_taken.there in
      let same : opener ≡ t.is_taken.opener = ap (first opener) there in
      let rest : drop (suc taken.nearer) s.openers ≡ before = dropped_more taken.nearer s.openers opener before e in
      record {
        active = ap (λ (x : Opener). x.is_inactive) same ∙ t.is_taken.inactive ∙ t.active;
        persist = persist-then before (drop (suc taken.nearer) os) (change (drop (suc taken.nearer) os))
            (subst (λ l. Persist l (drop (suc taken.nearer) os)) rest (alike-persist (drop (suc taken.nearer) s.openers) (drop (suc taken.nearer) os) (alike-drop (suc taken.nearer) s.openers os h)))
            (keeps (drop (suc taken.nearer) os));
        links = λ x. none (ap (λ (b : Bracket). is_link b formed) (sym (ap (λ (y : Opener). y.bracket) same ∙ t.is_taken.bracket)) ∙ x) (drop (suc taken.nearer) os);
      }
    where
      first : Opener → List Opener → Opener
      first x [] = x
      first x (y ∷ ys) = y

      dropped_more : (n : ℕ) (l : List Opener) (x : Opener) (more : List Opener) → drop n l ≡ x ∷ more → drop (suc n) l ≡ more
      dropped_more zero [] x more e = cc
      dropped_more zero (y ∷ l) x more e = ap (drop 1) e
      dropped_more (suc n) [] x more e = cc
      dropped_more (suc n) (y ∷ l) x more e = dropped_more n l x more e

  no_link_after : (is_image : Bool) → not is_image ≡ true → (l : List Opener) → OpenNoLink (after_link is_image l)
  no_link_after true e l = cc
  no_link_after false e l = inactive-opens-none l

  shape_apart : (s : State) (closer : Bracket) (asked : List Exchange) (o : Outcome) → Shape reader leaf s closer asked o → KeepsApart s.openers o
  shape_apart s closer asked o (Stays label os h e) = subst (KeepsApart s.openers) (sym e) (alike-persist s.openers os h)
  shape_apart s closer asked o (ToInline label os taken tail h t found e) =
      subst (KeepsApart s.openers) (sym e)
      (taken_apart s os taken _ (after_link taken.opener.bracket.is_image) h t (link-persist taken.opener.bracket.is_image) (no_link_after taken.opener.bracket.is_image))
  shape_apart s closer asked o (ToReference label os taken named link_type found h t n some l e) =
      subst (KeepsApart s.openers) (sym e)
      (taken_apart s os taken _ (after_link taken.opener.bracket.is_image) h t (link-persist taken.opener.bracket.is_image) (no_link_after taken.opener.bracket.is_image))
  shape_apart s closer asked o (ToFootnote label os taken name h t on e) =
      subst (KeepsApart s.openers) (sym e) (taken_apart s os taken (Footnote name closer.end) (map dropped) h t dropped-persist (λ x. cc))
  shape_apart s closer asked o (ToWiki label os first far h t on next touched e) =
      let change : List Opener → List Opener = λ l. map undoubled (map inactive l) in
      subst (KeepsApart s.openers) (sym e)
      (taken_apart s os first _ change h t (λ l. persist-then l (map inactive l) (change l) (inactive-persist l) (undoubled-persist (map inactive l)))
      (λ x l. no_link-persists (map inactive l) (change l) (undoubled-persist (map inactive l)) (inactive-opens-none l)))

  pub decide-apart : KeepsLinksApart (decide reader leaf)
  decide-apart = record { keeps = λ s closer. always-by s closer (KeepsApart s.openers) (shape_apart s closer) }

  -- ## The reference expansion limit

  minus_twice : (n a b : ℕ) → n - a - b ≡ n - (a + b)
  minus_twice n a b = omega arith

  some_left : (n : ℕ) → (n == 0) ≡ false → 0 < n
  some_left zero e = cc
  some_left (suc n) e = omega arith

  lead_costs : (s : State) (named : Named) (link_type : LinkType) (found : Destination) (closer : Bracket) → IsNamed reader leaf closer named → (asked : List Exchange) → Leads reader leaf named link_type found asked
      → cost_as link_type (length found.url + length found.title) ≡ (length found.url + length found.title) ∷ []
  lead_costs s named link_type found closer n asked (Defined definition d e f) = ap (λ t. cost_as t (length found.url + length found.title)) e ∙ (n.costs (length found.url + length found.title)).0
  lead_costs s named link_type found closer n asked (Answered d e earlier q put f g) = ap (λ t. cost_as t (length found.url + length found.title)) e ∙ (n.costs (length found.url + length found.title)).1

  shape_pays : (s : State) (closer : Bracket) (asked : List Exchange) (o : Outcome) → Shape reader leaf s closer asked o → Pays s.expansion_left o
  shape_pays s closer asked o h = grind (arith, lead_costs, some_left, minus_twice)

  pub decide-pays : KeepsLimit (decide reader leaf)
  decide-pays = record { pays = λ s closer. always-by s closer (Pays s.expansion_left) (shape_pays s closer) }
