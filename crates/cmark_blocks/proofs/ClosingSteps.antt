-- Containers that are closed one after the other, the innermost first.
use Rattle.std.proofs.Common.{◌≡◌, ℕ, suc, ◌<◌, ◌≤◌, List, [], ◌∷◌, ◌++◌, length, refl, sym, ap, ◌∙◌, subst, arith, append_assoc, append-nil, length-append}
use Rattle.std.proofs.lemmas.List.{nil_from_length}
use Rattle.cmark_grammar.specs.Answers.{Lookup}
use Rattle.cmark_grammar.specs.Options.{Options}
use Rattle.cmark_block_model.specs.BlockPass.{container_closed, containers_closed}
use Rattle.cmark_block_model.specs.OpenBlocks as model
use Rattle.cmark_blocks.specs.declared.state.OpenContainer.{OpenContainer}
use Rattle.cmark_blocks.specs.declared.state.Pass.{Pass}
use Rattle.cmark_blocks.specs.Shown.{ShowsContainers}
use Rattle.cmark_blocks.specs.Runs.{Runs}
use Rattle.cmark_blocks.specs.Steps.{ClosesLast, ClosesAll, ClosesTowards}

pub shows-length : (cs : List OpenContainer) (ms : List model.OpenContainer) → ShowsContainers cs ms → length cs ≡ length ms
shows-length [] [] s = refl
shows-length [] (m ∷ ms) s = absurd s
shows-length (c ∷ cs) [] s = absurd s
shows-length (c ∷ cs) (m ∷ ms) s = ap suc (shows-length cs ms s.1)

last-of : {A : Type 0} → (y : A) (ys : List A) → (xs : List A) × (x : A) × (y ∷ ys ≡ xs ++ x ∷ [])
last-of y [] = ([], y, refl)
last-of y (z ∷ ys) = let r = last-of z ys in (y ∷ r.0, r.1, ap (λ l. y ∷ l) r.2)

module _ (text : List ℕ) (options : Options) (lookup : Lookup) where
  closed-last : (outer xs : List model.OpenContainer) (x : model.OpenContainer) (p : model.Pass) → containers_closed text options lookup outer (xs ++ x ∷ []) p ≡ containers_closed text options lookup outer xs (container_closed x (outer ++ xs) p)
  closed-last outer [] x p = ap (λ o. container_closed x o p) (sym (append-nil outer))
  closed-last outer (c ∷ cs) x p =
      ap (container_closed c outer) (closed-last (outer ++ c ∷ []) cs x p
      ∙ ap (λ o. containers_closed text options lookup (outer ++ c ∷ []) cs (container_closed x o p)) (append_assoc outer (c ∷ []) cs))

module _ {E : Type 0} (replacement : E → Lookup) (kept : ℕ) (old : Pass E) where
  pub towards-start : ClosesTowards replacement kept old old
  towards-start text options lookup m outer inner split long runs = (inner, m, split, runs, refl)

  pub towards-step : (mid new : Pass E) → ClosesTowards replacement kept old mid → ClosesLast replacement mid new → kept < length mid.outer.items → ClosesTowards replacement kept old new
  towards-step mid new towards closes more text options lookup m outer inner split long runs =
      let r = towards text options lookup m outer inner split long runs in
      go r.0 r.1 r.2 r.3 r.4
    where
      go : (left : List model.OpenContainer) (p : model.Pass) → p.outer ≡ outer ++ left → Runs replacement text options lookup p mid → containers_closed text options lookup outer inner m ≡ containers_closed text options lookup outer left p →
          (left : List model.OpenContainer) × (p : model.Pass) × (p.outer ≡ outer ++ left) × Runs replacement text options lookup p new × (containers_closed text options lookup outer inner m ≡ containers_closed text options lookup outer left p)
      go [] p is now same = absurd (omega (arith, more, long, shows-length mid.outer.items p.outer now.outer, ap length (is ∙ append-nil outer)))
      go (y ∷ ys) p is now same =
          let l = last-of y ys in (
            l.0,
            container_closed l.1 (outer ++ l.0) p,
            refl,
            closes text options lookup p (outer ++ l.0) l.1 (is ∙ ap (λ z. outer ++ z) l.2 ∙ sym (append_assoc outer l.0 (l.1 ∷ []))) now,
            same ∙ ap (λ z. containers_closed text options lookup outer z p) l.2 ∙ closed-last text options lookup outer l.0 l.1 p,
          )

  pub towards-end : (new : Pass E) → ClosesTowards replacement kept old new → length new.outer.items ≤ kept → ClosesAll replacement kept old new
  towards-end new towards few text options lookup m outer inner split long runs =
      let r = towards text options lookup m outer inner split long runs in
      let none : r.0 ≡ [] = nil_from_length r.0 (omega (arith, few, long, shows-length new.outer.items r.1.outer r.3.outer, ap length r.2, length-append outer r.0)) in
      subst (λ p. Runs replacement text options lookup p new) (sym (r.4 ∙ ap (λ z. containers_closed text options lookup outer z r.1) none)) r.3
