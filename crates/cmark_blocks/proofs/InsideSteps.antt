-- So many of the open containers, the outermost ones, one by one.
use Rattle.std.proofs.Common.{◌≡◌, ℕ, zero, suc, ◌<◌, ◌≤◌, Bool, false, List, [], ◌∷◌, take, drop, length, slice_get, Some, None, refl, sym, ap, ◌∙◌, subst, arith}
use Rattle.cmark_grammar.specs.Answers.{Lookup}
use Rattle.cmark_grammar.specs.Containers as grammar
use Rattle.cmark_grammar.specs.Containers.{keeps}
use Rattle.cmark_grammar.specs.Options.{Options}
use Rattle.cmark_grammar.specs.Rows.{Row}
use Rattle.cmark_blocks.specs.TablesAhead.{block_interrupts}
use Rattle.cmark_line_rules.specs.Rests.{row_of}
use Rattle.cmark_line_rules.specs.Starts.{Shows}
use Rattle.cmark_line_rules.specs.declared.line_rest.LineRest.{LineRest}
use Rattle.cmark_line_rules.proofs.RestSteps.{whole}
use Rattle.cmark_block_model.specs.BlockPass.{ahead_in}
use Rattle.cmark_block_model.specs.OpenBlocks as model
use Rattle.cmark_blocks.specs.declared.state.OpenContainer.{OpenContainer}
use Rattle.cmark_blocks.specs.Shown.{ShowsContainers}
use Rattle.cmark_blocks.proofs.AheadSteps.{Inside, inside-keeps, inside-misses, inside-all}
use Rattle.cmark_blocks.proofs.KeepingSteps.{shows-at, shows-all}

none-left : (ms : List model.OpenContainer) (n k : ℕ) → n ≤ k → drop k (take n ms) ≡ []
none-left ms zero zero le = refl
none-left ms zero (suc k) le = refl
none-left ms (suc n) zero le = absurd (omega (arith, le))
none-left [] (suc n) (suc k) le = refl
none-left (m ∷ ms) (suc n) (suc k) le = none-left ms n k (omega (arith, le))

one-first : (ms : List model.OpenContainer) (n k : ℕ) (m : model.OpenContainer) → k < n → drop k ms ≡ m ∷ drop (suc k) ms → drop k (take n ms) ≡ m ∷ drop (suc k) (take n ms)
one-first ms zero k m lt e = absurd (omega (arith, lt))
one-first [] (suc n) zero m lt e = absurd (let q : [] ≡ m ∷ [] = e in cc)
one-first [] (suc n) (suc k) m lt e = absurd (let q : [] ≡ m ∷ [] = e in cc)
one-first (x ∷ xs) (suc n) zero m lt e = ap (λ c. c ∷ take n xs) (let q : x ∷ xs ≡ m ∷ xs = e in cc)
one-first (x ∷ xs) (suc n) (suc k) m lt e = one-first xs n k m (omega (arith, lt)) e

module _ (text : List ℕ) (options : Options) (lookup : Lookup) (cs : List OpenContainer) (ms : List model.OpenContainer) (shows : ShowsContainers cs ms)
    (count at : ℕ) (c : OpenContainer) (r : Row) (more : List Row) (rest : LineRest) (here : slice_get cs at ≡ Some c) (further : at < count) where
  -- another container keeps the line, or does not
  pub first-keeps : (inside : LineRest) → ((g : grammar.Container) → Shows c.container g → Some (row_of inside) ≡ keeps g false (row_of rest)) → (next : ℕ) → next ≡ suc at →
      Inside text options lookup (take count ms) at r more (row_of rest) → Inside text options lookup (take count ms) next r more (row_of inside)
  first-keeps inside keep next more_by_one i =
      let w = shows-at cs ms at c shows here in
      subst (λ n. Inside text options lookup (take count ms) n r more (row_of inside)) (sym more_by_one)
      (inside-keeps text options lookup (take count ms) at w.m (drop (suc at) (take count ms)) r more (row_of rest) (row_of inside)
      (one-first ms count at w.m further w.following) refl (keep w.m.container w.shows.0) (whole inside) i)

  pub first-misses : ((g : grammar.Container) → Shows c.container g → None ≡ keeps g false (row_of rest)) →
      Inside text options lookup (take count ms) at r more (row_of rest) → ahead_in text options lookup (take count ms) (r ∷ more) ≡ []
  first-misses keep i =
      let w = shows-at cs ms at c shows here in
      inside-misses text options lookup (take count ms) at w.m (drop (suc at) (take count ms)) r more (row_of rest)
      (one-first ms count at w.m further w.following) (keep w.m.container w.shows.0) i

-- all of them keep it
pub first-all : (text : List ℕ) (options : Options) (lookup : Lookup) (ms : List model.OpenContainer) (count at : ℕ) (r : Row) (more : List Row) (rest : LineRest) → count ≤ at →
    Inside text options lookup (take count ms) at r more (row_of rest) → ahead_in text options lookup (take count ms) (r ∷ more) ≡ row_of rest ∷ ahead_in text options lookup (take count ms) more
first-all text options lookup ms count at r more rest le i = inside-all text options lookup (take count ms) at r more (row_of rest) (none-left ms count at le) i

-- inside of all of them
pub in_text-inside : (text : List ℕ) (options : Options) (lookup : Lookup) (cs : List OpenContainer) (ms : List model.OpenContainer) (count : ℕ) (r : Row) (next : List Row) (in_text : Bool) → ShowsContainers cs ms → length cs ≤ count →
    in_text ≡ block_interrupts options r (ahead_in text options lookup (take count ms) next) → in_text ≡ block_interrupts options r (ahead_in text options lookup ms next)
in_text-inside text options lookup cs ms count r next in_text shows all is = is ∙ ap (λ l. block_interrupts options r (ahead_in text options lookup l next)) (shows-all cs ms count shows all).0
