-- The containers that keep a line, one after the other.
use Rattle.std.proofs.Common.{◌≡◌, ℕ, zero, suc, ◌+◌, ◌<◌, ◌≤◌, Bool, ◌&&◌, List, [], ◌∷◌, ◌++◌, take, drop, length, Some, None, refl, sym, ap, ◌∙◌, subst, arith, drop-drop}
use Rattle.std.specs.Prelude.{slice_get, ◌==◌}
use Rattle.std.proofs.lemmas.Option.{same_Some}
use Rattle.cmark_grammar.specs.Answers.{Lookup}
use Rattle.cmark_grammar.specs.Options.{Options}
use Rattle.cmark_block_model.proofs.RowPlaces.{after_prefix, kept-following}
use Rattle.cmark_grammar.specs.Columns.{Column}
use Rattle.cmark_grammar.specs.Rows.{Row}
use Rattle.cmark_grammar.specs.Containers.{keeps}
use Rattle.cmark_grammar.specs.Containers as grammar
use Rattle.cmark_line_rules.specs.Rests.{row_of}
use Rattle.cmark_line_rules.specs.Starts.{Shows}
use Rattle.cmark_line_rules.specs.declared.container.Container.{Container}
use Rattle.cmark_line_rules.specs.declared.container.Container.TheVariants as container
use Rattle.cmark_line_rules.specs.declared.line_rest.LineRest.{LineRest}
use Rattle.cmark_block_model.specs.BlockPass.{LineKeepers, kept_by, kept_if, is_last}
use Rattle.cmark_block_model.specs.OpenBlocks as model
use Rattle.cmark_blocks.specs.declared.state.OpenContainer.{OpenContainer}
use Rattle.cmark_blocks.specs.KeepingContainers.{IsAfter}
use Rattle.cmark_blocks.specs.Shown.{ShowsContainer, ShowsContainers}

following-next : (line rest inside : LineRest) (g : grammar.Container) (bare : Bool) → Some (row_of inside) ≡ keeps g bare (row_of rest) → IsAfter line rest → IsAfter line inside
following-next line rest inside g bare e h =
    let n = kept-following g bare (row_of rest) (row_of inside) (sym e) in (
      h.0 + n.0,
      (
        n.1.0,
        ap {A = List Column} {B = Row} (λ cs. record (row_of line) { columns = cs; held = n.1.0 }) (sym (drop-drop n.0 h.0 (row_of line).columns)) ∙ ap (after_prefix n.0 n.1.0) h.1.1 ∙ n.1.1,
      ),
    )

-- the container at a place, with those before it and after it
pub record At (c : OpenContainer) (k : ℕ) (ms : List model.OpenContainer) : Type 0 where
  pub m : model.OpenContainer
  pub shows : ShowsContainer c m
  pub following : drop k ms ≡ m ∷ drop (suc k) ms
  pub before : take (suc k) ms ≡ take k ms ++ m ∷ []

pub shows-at : (cs : List OpenContainer) (ms : List model.OpenContainer) (k : ℕ) (c : OpenContainer) → ShowsContainers cs ms → slice_get cs k ≡ Some c → At c k ms
shows-at [] ms k c s e = absurd (let q : None ≡ Some c = e in cc)
shows-at (b ∷ cs) [] k c s e = absurd s
shows-at (b ∷ cs) (m ∷ ms) zero c s e = record { m = m; shows = subst (λ x. ShowsContainer x m) (same_Some b c e) s.0; following = refl; before = refl }
shows-at (b ∷ cs) (m ∷ ms) (suc k) c s e =
    let r = shows-at cs ms k c s.1 e in
    record { m = r.m; shows = r.shows; following = r.following; before = ap (λ l. m ∷ l) r.before }

-- the container of the model at a place is shown by the container at that place
pub shows-there : (cs : List OpenContainer) (ms : List model.OpenContainer) (k : ℕ) (c : OpenContainer) (last : model.OpenContainer) (others : List model.OpenContainer) → ShowsContainers cs ms → slice_get cs k ≡ Some c → drop k ms ≡ last ∷ others → Shows c.container last.container
shows-there cs ms k c last others s e split =
    let at = shows-at cs ms k c s e in
    let same : at.m ∷ drop (suc k) ms ≡ last ∷ others = sym at.following ∙ split in
    subst (λ (x : model.OpenContainer). Shows c.container x.container) (let q : at.m ≡ last = cc in q) at.shows.0

pub shows-all : (cs : List OpenContainer) (ms : List model.OpenContainer) (k : ℕ) → ShowsContainers cs ms → length cs ≤ k → (take k ms ≡ ms) × (drop k ms ≡ [])
shows-all [] [] zero s le = (refl, refl)
shows-all [] [] (suc k) s le = (refl, refl)
shows-all [] (m ∷ ms) k s le = absurd s
shows-all (b ∷ cs) [] k s le = absurd s
shows-all (b ∷ cs) (m ∷ ms) zero s le = absurd (omega (arith, le))
shows-all (b ∷ cs) (m ∷ ms) (suc k) s le = let r = shows-all cs ms k s.1 (omega (arith, le)) in (ap (λ l. m ∷ l) r.0, r.1)

pub shows-some : (cs : List OpenContainer) (ms : List model.OpenContainer) (k : ℕ) → ShowsContainers cs ms → k < length cs → (m : model.OpenContainer) × (others : List model.OpenContainer) × (drop k ms ≡ m ∷ others)
shows-some [] ms k s lt = absurd (omega (arith, lt))
shows-some (b ∷ cs) [] k s lt = absurd s
shows-some (b ∷ cs) (m ∷ ms) zero s lt = (m, ms, refl)
shows-some (b ∷ cs) (m ∷ ms) (suc k) s lt = shows-some cs ms k s.1 (omega (arith, lt))

module _ (text : List ℕ) (options : Options) (lookup : Lookup) where
  last-is : (cs : List OpenContainer) (ms : List model.OpenContainer) (k : ℕ) → ShowsContainers cs ms → k < length cs → is_last text options lookup (drop (suc k) ms) ≡ (suc k == length cs)
  last-is [] ms k s lt = absurd (omega (arith, lt))
  last-is (b ∷ cs) [] k s lt = absurd s
  last-is (b ∷ []) (m ∷ []) zero s lt = refl
  last-is (b ∷ []) (m ∷ (n ∷ ms)) zero s lt = absurd s.1
  last-is (b ∷ (d ∷ cs)) (m ∷ []) zero s lt = absurd s.1
  last-is (b ∷ (d ∷ cs)) (m ∷ (n ∷ ms)) zero s lt = sym (let ne : suc zero ≡ suc (suc (length cs)) → ⊥ = (λ e. omega (arith, e)) in grind (arith))
  last-is (b ∷ cs) (m ∷ ms) (suc k) s lt = last-is cs ms k s.1 (omega (arith, lt)) ∙ grind (arith)

  -- another container keeps the line, or does not
  pub keeps-on : (cs : List OpenContainer) (ms : List model.OpenContainer) (k : ℕ) (c : OpenContainer) (bare : Bool) (rest inside : LineRest) → ShowsContainers cs ms → slice_get cs k ≡ Some c → k < length cs →
      ((g : grammar.Container) → Shows c.container g → Some (row_of inside) ≡ keeps g (bare && (suc k == length cs)) (row_of rest)) → (n : ℕ) → n ≡ suc k →
      kept_by text options lookup (take k ms) (drop k ms) bare (row_of rest) ≡ kept_by text options lookup (take n ms) (drop n ms) bare (row_of inside)
  keeps-on cs ms k c bare rest inside s e lt keep n next =
      subst (λ n. kept_by text options lookup (take k ms) (drop k ms) bare (row_of rest) ≡ kept_by text options lookup (take n ms) (drop n ms) bare (row_of inside)) (sym next)
      (let at = shows-at cs ms k c s e in
      ap (λ l. kept_by text options lookup (take k ms) l bare (row_of rest)) at.following
      ∙ ap (λ o. kept_if text options lookup o (λ t. kept_by text options lookup (take k ms ++ at.m ∷ []) (drop (suc k) ms) bare t) (record { kept = take k ms; missed = at.m ∷ drop (suc k) ms; left = row_of rest }))
      (ap (λ b. keeps at.m.container (bare && b) (row_of rest)) (last-is cs ms k s lt) ∙ sym (keep at.m.container at.shows.0))
      ∙ ap (λ l. kept_by text options lookup l (drop (suc k) ms) bare (row_of inside)) (sym at.before))

  pub keeps-not : (cs : List OpenContainer) (ms : List model.OpenContainer) (k : ℕ) (c : OpenContainer) (bare : Bool) (rest : LineRest) → ShowsContainers cs ms → slice_get cs k ≡ Some c → k < length cs →
      ((g : grammar.Container) → Shows c.container g → None ≡ keeps g (bare && (suc k == length cs)) (row_of rest)) →
      kept_by text options lookup (take k ms) (drop k ms) bare (row_of rest) ≡ record { kept = take k ms; missed = drop k ms; left = row_of rest }
  keeps-not cs ms k c bare rest s e lt keep =
      let at = shows-at cs ms k c s e in
      ap (λ l. kept_by text options lookup (take k ms) l bare (row_of rest)) at.following
      ∙ ap (λ o. kept_if text options lookup o (λ t. kept_by text options lookup (take k ms ++ at.m ∷ []) (drop (suc k) ms) bare t) (record { kept = take k ms; missed = at.m ∷ drop (suc k) ms; left = row_of rest }))
      (ap (λ b. keeps at.m.container (bare && b) (row_of rest)) (last-is cs ms k s lt) ∙ sym (keep at.m.container at.shows.0))
      ∙ ap {A = List model.OpenContainer} {B = LineKeepers text options lookup} (λ l. record { kept = take k ms; missed = l; left = row_of rest }) (sym at.following)

  pub keeps-all : (cs : List OpenContainer) (ms : List model.OpenContainer) (k : ℕ) (bare : Bool) (rest : LineRest) → ShowsContainers cs ms → length cs ≤ k →
      kept_by text options lookup (take k ms) (drop k ms) bare (row_of rest) ≡ record { kept = take k ms; missed = drop k ms; left = row_of rest }
  keeps-all cs ms k bare rest s le =
      let e = (shows-all cs ms k s le).1 in
      ap (λ l. kept_by text options lookup (take k ms) l bare (row_of rest)) e
      ∙ ap {A = List model.OpenContainer} {B = LineKeepers text options lookup} (λ l. record { kept = take k ms; missed = l; left = row_of rest }) (sym e)

-- the rest comes after the prefixes of the containers that keep the line
pub following-more : (line rest inside : LineRest) (k : Container) (bare : Bool) → ((g : grammar.Container) → Shows k g → Some (row_of inside) ≡ keeps g bare (row_of rest)) → IsAfter line rest → IsAfter line inside
following-more line rest inside container.BlockQuote bare keep h = following-next line rest inside (grammar.BlockQuote None) bare (keep (grammar.BlockQuote None) tt) h
following-more line rest inside (container.Footnote old) bare keep h =
    following-next line rest inside (grammar.Footnote [] old 0) bare (keep (grammar.Footnote [] old 0) refl) h
following-more line rest inside (container.Item width) bare keep h =
    following-next line rest inside (grammar.Item 45 None width None) bare (keep (grammar.Item 45 None width None) refl) h
following-more line rest inside (container.Definition width) bare keep h =
    following-next line rest inside (grammar.ListDefinition width) bare (keep (grammar.ListDefinition width) refl) h
