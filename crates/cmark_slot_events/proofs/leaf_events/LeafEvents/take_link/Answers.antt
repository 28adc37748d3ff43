use Rattle.std.specs.List.{slice_get}
use Rattle.std.proofs.Common.{◌≡◌, ◌≢◌, ℕ, zero, suc, List, [], ◌∷◌, Some, set, refl, sym, ap, ◌∙◌, length-set}
use Rattle.std.proofs.lemmas.Option.{slice_get-get_or}
use Rattle.cmark_references.specs.Links.{shown_link}
use Rattle.cmark_slots.specs.SlotViews.{linked_or_none}
use Rattle.cmark_slot_events.proofs.leaf_events.LeafEvents.take_link.Goals as goal

-- the other elements are unchanged if one is set
set-apart : {X : Type 0} (xs : List X) (index i : ℕ) (x : X) → index ≢ i → slice_get (set xs index x) i ≡ slice_get xs i
set-apart [] zero i x ne = refl
set-apart [] (suc index) i x ne = refl
set-apart (y ∷ ys) zero zero x ne = absurd (ne refl)
set-apart (y ∷ ys) zero (suc i) x ne = refl
set-apart (y ∷ ys) (suc index) zero x ne = refl
set-apart (y ∷ ys) (suc index) (suc i) x ne = set-apart ys index i x (λ e. ne (ap suc e))

pub returns-clause-value : goal.returns-clause-value
returns-clause-value c =
    ap shown_link (c.replace.ensures.value ∙ c.index_mut.ensures.value) ∙ sym (ap linked_or_none (slice_get-get_or c.args.self.now.links.items c.args.index _ c.requires))

pub returns-clause-links : goal.returns-clause-links
returns-clause-links c = record { size = simp length-set; others = λ i ne. set-apart c.args.self.now.links.items c.args.index i _ (λ e. ne (ap Some e)) }
