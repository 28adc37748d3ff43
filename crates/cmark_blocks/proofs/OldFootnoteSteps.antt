-- The runs of footnote definitions in the old style, and the lines that a run keeps.
use Rattle.std.proofs.Common.{◌≡◌, ◌⊎◌, ⊎_elim, inr, ℕ, zero, suc, ◌+◌, ◌-◌, ◌<◌, ◌≤◌, Bool, true, false, ◌&&◌, ◌||◌, List, [], ◌∷◌, ◌++◌, Option, take, drop, length, Some, None, refl, sym, ap, ◌∙◌, subst, arith, length-append}
use Rattle.std.specs.Prelude.{slice_get, slice_set, min, ◌==◌, if◌then◌else◌}
use Rattle.std.proofs.Math.Nat.{min-le_left, min-le_right, le-min, eq-or-lt_of_le}
use Rattle.std.proofs.lemmas.Option.{same_Some}
use Rattle.cmark_grammar.specs.Answers.{Lookup}
use Rattle.cmark_grammar.specs.Options.{Options}
use Rattle.cmark_grammar.specs.Rows.{Row, hold, is_blank_line}
use Rattle.cmark_grammar.specs.Containers.{keeps}
use Rattle.cmark_grammar.specs.Containers as grammar
use Rattle.cmark_line_rules.specs.Rests.{row_of}
use Rattle.cmark_line_rules.specs.Starts.{Shows}
use Rattle.cmark_line_rules.specs.declared.container.Container.{Container}
use Rattle.cmark_line_rules.specs.declared.container.Container.TheVariants as container
use Rattle.cmark_line_rules.specs.declared.line_rest.LineRest.{LineRest}
use Rattle.cmark_block_model.specs.BlockPass.{kept_by}
use Rattle.cmark_block_model.specs.OpenBlocks as model
use Rattle.cmark_blocks.specs.declared.state.FootnoteRun.{FootnoteRun}
use Rattle.cmark_blocks.specs.declared.state.OpenContainer.{OpenContainer}
use Rattle.cmark_blocks.specs.FootnoteRuns.{is_old, is_old_at, AreOld, AreRuns, KeepAlike}
use Rattle.cmark_blocks.specs.Shown.{ShowsContainers}
use Rattle.cmark_blocks.proofs.AheadSteps.{Inside}
use Rattle.cmark_blocks.proofs.EmptySteps.{not-lazy}
use Rattle.cmark_blocks.proofs.InsideSteps.{first-keeps}
use Rattle.cmark_blocks.proofs.KeepingSteps.{keeps-on}

-- ## The containers

-- a footnote definition in the old style at an index
record OldAt (cs : List OpenContainer) (k : ℕ) : Type 0 where
  c : OpenContainer
  there : slice_get cs k ≡ Some c
  is : is_old c.container ≡ true
  within : k < length cs

old-at : (cs : List OpenContainer) (k : ℕ) → is_old_at cs k ≡ true → OldAt cs k
old-at [] k e = absurd (let q : false ≡ true = e in cc)
old-at (c ∷ cs) zero e = record { c = c; there = refl; is = e; within = omega arith }
old-at (c ∷ cs) (suc k) e = let r = old-at cs k e in record { c = r.c; there = r.there; is = r.is; within = omega (arith, r.within) }

-- further containers change nothing
old-more : (cs ds : List OpenContainer) (k : ℕ) → is_old_at cs k ≡ true → is_old_at (cs ++ ds) k ≡ true
old-more [] ds k e = absurd (let q : false ≡ true = e in cc)
old-more (c ∷ cs) ds zero e = e
old-more (c ∷ cs) ds (suc k) e = old-more cs ds k e

-- nor do those that are closed
old-fewer : (cs ds : List OpenContainer) (k : ℕ) → k < length cs → is_old_at (cs ++ ds) k ≡ true → is_old_at cs k ≡ true
old-fewer [] ds k lt e = absurd (omega (arith, lt))
old-fewer (c ∷ cs) ds zero lt e = e
old-fewer (c ∷ cs) ds (suc k) lt e = old-fewer cs ds k (omega (arith, lt)) e

-- the last one of these containers
pub old-last : (cs : List OpenContainer) (c : OpenContainer) → is_old c.container ≡ true → is_old_at (cs ++ c ∷ []) (length cs) ≡ true
old-last [] c e = e
old-last (b ∷ cs) c e = old-last cs c e

-- ## The runs

-- no container is open, and there is no run
pub no-runs : (cs : List OpenContainer) (from : ℕ) (rs : List FootnoteRun) → rs ≡ [] → AreRuns cs from rs
no-runs cs from rs none = subst (AreRuns cs from) (sym none) tt

-- a run ends among the containers
run-within : (cs : List OpenContainer) (start end : ℕ) → start < end → AreOld cs start end → end ≤ length cs
run-within cs start end lt old = let r = old-at cs (end - 1) (old (end - 1) (omega (arith, lt)) (omega (arith, lt))) in omega (arith, r.within, lt)

-- one more container
pub runs-more : (cs ds : List OpenContainer) (from : ℕ) (rs : List FootnoteRun) → AreRuns cs from rs → AreRuns (cs ++ ds) from rs
runs-more cs ds from [] h = tt
runs-more cs ds from (r ∷ rs) h = (h.0, h.1, λ i ge lt. old-more cs ds i (h.2 i ge lt), runs-more cs ds r.end rs h.3)

-- the last run becomes longer or shorter, and the containers before it stay
runs-set : (cs new : List OpenContainer) (from k : ℕ) (rs : List FootnoteRun) (r q : FootnoteRun) → AreRuns cs from rs → slice_get rs k ≡ Some r → suc k ≡ length rs
    → q.start ≡ r.start → q.start < q.end → AreOld new q.start q.end → ((i : ℕ) → i < r.start → is_old_at cs i ≡ true → is_old_at new i ≡ true) → AreRuns new from (slice_set rs k q)
runs-set cs new from k [] r q h there last same some old before = absurd (omega (arith, last))
runs-set cs new from zero (p ∷ []) r q h there last same some old before =
    let first : p ≡ r = same_Some p r there in
    (omega (arith, h.0, same, ap (λ x. x.start) first), some, old, tt)
runs-set cs new from zero (p ∷ (s ∷ rs)) r q h there last same some old before = absurd (omega (arith, last))
runs-set cs new from (suc k) (p ∷ rs) r q h there last same some old before =
    let le = starts cs p.end k rs r h.3 there in (
      h.0,
      h.1,
      λ i ge lt. before i (omega (arith, lt, le)) (h.2 i ge lt),
      runs-set cs new p.end k rs r q h.3 there (omega (arith, last)) same some old before,
    )
  where
    starts : (cs : List OpenContainer) (from k : ℕ) (rs : List FootnoteRun) (r : FootnoteRun) → AreRuns cs from rs → slice_get rs k ≡ Some r → from ≤ r.start
    starts cs from k [] r h e = absurd (let q : None ≡ Some r = e in cc)
    starts cs from zero (p ∷ rs) r h e = omega (arith, h.0, ap (λ x. x.start) (same_Some p r e))
    starts cs from (suc k) (p ∷ rs) r h e = let le = starts cs p.end k rs r h.3 e in omega (arith, le, h.0, h.1)

-- a run at its number
record RunAt (cs : List OpenContainer) (r : FootnoteRun) : Type 0 where
  some : r.start < r.end
  old : AreOld cs r.start r.end

run-at : (cs : List OpenContainer) (from k : ℕ) (rs : List FootnoteRun) (r : FootnoteRun) → AreRuns cs from rs → slice_get rs k ≡ Some r → RunAt cs r
run-at cs from k [] r h e = absurd (let q : None ≡ Some r = e in cc)
run-at cs from zero (p ∷ rs) r h e = subst (RunAt cs) (same_Some p r e) (record { some = h.1; old = h.2 })
run-at cs from (suc k) (p ∷ rs) r h e = run-at cs p.end k rs r h.3 e

-- the last run goes on with one more container
pub runs-longer : (cs : List OpenContainer) (c : OpenContainer) (k count : ℕ) (rs : List FootnoteRun) (r : FootnoteRun) → suc (length cs) ≡ count → is_old c.container ≡ true → AreRuns cs 0 rs
    → slice_get rs k ≡ Some r → suc k ≡ length rs → r.end ≡ count - 1 → AreRuns (cs ++ c ∷ []) 0 (slice_set rs k (record r { end = count }))
runs-longer cs c k count rs r all is h there last ends =
    let run = run-at cs 0 k rs r h there in
    runs-set cs (cs ++ c ∷ []) 0 k rs r (record r { end = count }) h there last refl (omega (arith, run.some, ends))
    (λ i ge lt. ⊎_elim (λ at. subst (λ n. is_old_at (cs ++ c ∷ []) n ≡ true) (sym at) (old-last cs c is)) (λ less. old-more cs (c ∷ []) i (run.old i ge (omega (arith, less, ends, all)))) (last-or i lt))
    (λ i lt e. old-more cs (c ∷ []) i e)
  where
    last-or : (i : ℕ) → i < count → (i ≡ length cs) ⊎ (i < length cs)
    last-or i lt = eq-or-lt_of_le (omega (arith, lt, all))

-- another run begins with one more container
pub runs-begun : (cs : List OpenContainer) (c : OpenContainer) (from count : ℕ) (rs : List FootnoteRun) → suc (length cs) ≡ count → is_old c.container ≡ true → from ≤ length cs → AreRuns cs from rs
    → AreRuns (cs ++ c ∷ []) from (rs ++ record { start = count - 1; end = count } ∷ [])
runs-begun cs c from count [] all is le h = (omega (arith, le, all), omega (arith, all), λ i ge lt. subst (λ n. is_old_at (cs ++ c ∷ []) n ≡ true) (let at : length cs ≡ i = omega (arith, all, ge, lt) in at) (old-last cs c is), tt)
runs-begun cs c from count (r ∷ rs) all is le h =
    (h.0, h.1, λ i ge lt. old-more cs (c ∷ []) i (h.2 i ge lt), runs-begun cs c r.end count rs all is (run-within cs r.start r.end h.1 h.2) h.3)

-- the last run ends before a container that was closed
pub runs-shorter : (cs : List OpenContainer) (c : OpenContainer) (k count : ℕ) (rs : List FootnoteRun) (r : FootnoteRun) → length cs ≡ count → AreRuns (cs ++ c ∷ []) 0 rs
    → slice_get rs k ≡ Some r → suc k ≡ length rs → r.start < count → count < r.end → AreRuns cs 0 (slice_set rs k (record r { end = count }))
runs-shorter cs c k count rs r all h there last some long =
    let run = run-at (cs ++ c ∷ []) 0 k rs r h there in
    runs-set (cs ++ c ∷ []) cs 0 k rs r (record r { end = count }) h there last refl some
    (λ i ge lt. old-fewer cs (c ∷ []) i (omega (arith, lt, all)) (run.old i ge (omega (arith, lt, long))))
    (λ i lt e. old-fewer cs (c ∷ []) i (omega (arith, lt, some, all)) e)

-- the runs end before a container that was closed
pub runs-fewer : (cs : List OpenContainer) (c : OpenContainer) (from k : ℕ) (rs : List FootnoteRun) → ((r : FootnoteRun) → slice_get rs k ≡ Some r → r.end ≤ length cs) → suc k ≡ length rs
    → AreRuns (cs ++ c ∷ []) from rs → AreRuns cs from rs
runs-fewer cs c from k [] ends last h = tt
runs-fewer cs c from zero (p ∷ []) ends last h = (h.0, h.1, λ i ge lt. let le = ends p refl in old-fewer cs (c ∷ []) i (omega (arith, lt, le)) (h.2 i ge lt), tt)
runs-fewer cs c from zero (p ∷ (q ∷ rs)) ends last h = absurd (omega (arith, last))
runs-fewer cs c from (suc k) (p ∷ []) ends last h = absurd (omega (arith, last))
runs-fewer cs c from (suc k) (p ∷ (q ∷ rs)) ends last h =
    let later = runs-fewer cs c p.end k (q ∷ rs) ends (omega (arith, last)) h.3 in
    let le = run-within cs q.start q.end later.1 later.2 in
    (h.0, h.1, λ i ge lt. old-fewer cs (c ∷ []) i (omega (arith, lt, le, later.0, later.1)) (h.2 i ge lt), later)

-- the last run had the closed container alone
pub runs-taken : (cs : List OpenContainer) (c : OpenContainer) (from k : ℕ) (rs : List FootnoteRun) → suc k ≡ length rs → AreRuns (cs ++ c ∷ []) from rs → AreRuns cs from (take k rs)
runs-taken cs c from zero rs last h = tt
runs-taken cs c from (suc k) [] last h = absurd (omega (arith, last))
runs-taken cs c from (suc k) (p ∷ []) last h = absurd (omega (arith, last))
runs-taken cs c from (suc k) (p ∷ (q ∷ rs)) last h =
    let le = run-within (cs ++ c ∷ []) q.start q.end h.3.1 h.3.2 in (
      h.0,
      h.1,
      λ i ge lt. old-fewer cs (c ∷ []) i (omega (arith, lt, le, h.3.0, h.3.1, length-append cs (c ∷ []))) (h.2 i ge lt),
      runs-taken cs c p.end k (q ∷ rs) (omega (arith, last)) h.3,
    )

-- the containers of the run that begins at this index
pub run-alike : (cs : List OpenContainer) (k n : ℕ) (rs : List FootnoteRun) (r : FootnoteRun) → AreRuns cs 0 rs → slice_get rs n ≡ Some r → r.start ≡ k → KeepAlike cs k r.end
run-alike cs k n rs r h there starts =
    let run = run-at cs 0 n rs r h there in
    let old = subst (λ s. AreOld cs s r.end) starts run.old in
    record { some = omega (arith, run.some, starts); within = run-within cs r.start r.end run.some run.old; alike = inr old }

-- ## The line

-- what such a definition does with a line that is not lazy
abbrev keep_old : (bare blank : Bool) → Row → Option Row
keep_old bare blank r = if bare && blank then None else (if blank then None else Some (hold r))

keeps-old : (label : List ℕ) (size : ℕ) (bare : Bool) (r : Row) → r.lazy ≡ false → keeps (grammar.Footnote label true size) bare r ≡ keep_old bare (is_blank_line r) r
unfolding keeps
keeps-old label size bare r whole = ap {A = Bool} {B = Option Row} (λ l. if l || (bare && is_blank_line r) then None else (if is_blank_line r then None else Some (hold r))) whole

-- such a definition keeps the line, and holds it. Then the next one also keeps it, and changes nothing more
held-again : (label other : List ℕ) (size width : ℕ) (b d : Bool) (r s : Row) → r.lazy ≡ false → Some s ≡ keeps (grammar.Footnote label true size) b r → Some s ≡ keeps (grammar.Footnote other true width) d s
held-again label other size width b d r s whole keep = go b (is_blank_line r) refl (keep ∙ keeps-old label size b r whole)
  where
    held : (d : Bool) → Some (hold r) ≡ keep_old d false (hold r)
    held true = refl
    held false = refl

    on : is_blank_line r ≡ false → hold r ≡ s → Some s ≡ keeps (grammar.Footnote other true width) d s
    on e is = subst (λ t. Some t ≡ keeps (grammar.Footnote other true width) d t) is (held d ∙ ap (λ z. keep_old d z (hold r)) (sym e) ∙ sym (keeps-old other width d (hold r) whole))

    go : (b z : Bool) → is_blank_line r ≡ z → Some s ≡ keep_old b z r → Some s ≡ keeps (grammar.Footnote other true width) d s
    go true true e is = absurd (let q : Some s ≡ None = is in cc)
    go false true e is = absurd (let q : Some s ≡ None = is in cc)
    go true false e is = on e (same_Some (hold r) s (sym is))
    go false false e is = on e (same_Some (hold r) s (sym is))

-- such definitions keep this line, and change nothing
abbrev IsHeld : Row → Type 0
IsHeld r = (label : List ℕ) (size : ℕ) (bare : Bool) → Some r ≡ keeps (grammar.Footnote label true size) bare r

old-holds : (k : Container) (g : grammar.Container) (bare : Bool) (r : Row) → is_old k ≡ true → Shows k g → IsHeld r → Some r ≡ keeps g bare r
old-holds container.BlockQuote g bare r is shows held = absurd (let q : false ≡ true = is in cc)
old-holds (container.Item w) g bare r is shows held = absurd (let q : false ≡ true = is in cc)
old-holds (container.Definition w) g bare r is shows held = absurd (let q : false ≡ true = is in cc)
old-holds (container.Footnote o) (grammar.BlockQuote alert) bare r is shows held = absurd shows
old-holds (container.Footnote o) (grammar.Item delimiter number width task) bare r is shows held = absurd shows
old-holds (container.Footnote o) (grammar.ListDefinition width) bare r is shows held = absurd shows
old-holds (container.Footnote o) (grammar.Footnote label old size) bare r is shows held = subst (λ z. Some r ≡ keeps (grammar.Footnote label z size) bare r) (sym is ∙ shows) (held label size bare)

-- a line that such a definition has kept
old-held : (k : Container) (bare : Bool) (r s : Row) → is_old k ≡ true → r.lazy ≡ false → ((g : grammar.Container) → Shows k g → Some s ≡ keeps g bare r) → IsHeld s
old-held container.BlockQuote bare r s is whole keep = absurd (let q : false ≡ true = is in cc)
old-held (container.Item w) bare r s is whole keep = absurd (let q : false ≡ true = is in cc)
old-held (container.Definition w) bare r s is whole keep = absurd (let q : false ≡ true = is in cc)
old-held (container.Footnote o) bare r s is whole keep = λ label size d. held-again [] label 0 size bare d r s whole (keep (grammar.Footnote [] true 0) is)

module _ (text : List ℕ) (options : Options) (lookup : Lookup) where
  held-on : (cs : List OpenContainer) (ms : List model.OpenContainer) (d k n : ℕ) (bare : Bool) (rest : LineRest) → ShowsContainers cs ms → n ≡ k + d → AreOld cs k n → IsHeld (row_of rest)
      → kept_by text options lookup (take k ms) (drop k ms) bare (row_of rest) ≡ kept_by text options lookup (take n ms) (drop n ms) bare (row_of rest)
  held-on cs ms zero k n bare rest s is old held =
      ap (λ j. kept_by text options lookup (take j ms) (drop j ms) bare (row_of rest)) (let same : k ≡ n = omega (arith, is) in same)
  held-on cs ms (suc d) k n bare rest s is old held =
      let at = old-at cs k (old k (omega arith) (omega (arith, is))) in
      keeps-on text options lookup cs ms k at.c bare rest rest s at.there at.within (λ g shows. old-holds at.c.container g _ (row_of rest) at.is shows held) (suc k) refl
      ∙ held-on cs ms d (suc k) n bare rest s (omega (arith, is)) (λ i ge lt. old i (omega (arith, ge)) lt) held

  -- a container keeps the line, and so do those that keep the same lines
  pub keeps-alike : (cs : List OpenContainer) (ms : List model.OpenContainer) (k n : ℕ) (c : OpenContainer) (bare : Bool) (rest inside : LineRest) → ShowsContainers cs ms → slice_get cs k ≡ Some c → k < length cs →
      ((g : grammar.Container) → Shows c.container g → Some (row_of inside) ≡ keeps g (bare && (suc k == length cs)) (row_of rest)) → KeepAlike cs k n →
      kept_by text options lookup (take k ms) (drop k ms) bare (row_of rest) ≡ kept_by text options lookup (take n ms) (drop n ms) bare (row_of inside)
  keeps-alike cs ms k n c bare rest inside s there lt keep alike = ⊎_elim (λ is. keeps-on text options lookup cs ms k c bare rest inside s there lt keep n is) run alike.alike
    where
      run : AreOld cs k n → kept_by text options lookup (take k ms) (drop k ms) bare (row_of rest) ≡ kept_by text options lookup (take n ms) (drop n ms) bare (row_of inside)
      run old =
          let at = old-at cs k (old k (omega arith) alike.some) in
          let is = ap (λ x. is_old x.container) (same_Some c at.c (sym there ∙ at.there)) ∙ at.is in
          keeps-on text options lookup cs ms k c bare rest inside s there lt keep (suc k) refl
          ∙ held-on cs ms (n - suc k) (suc k) n bare inside s (omega (arith, alike.some)) (λ i ge less. old i (omega (arith, ge)) less) (old-held c.container _ (row_of rest) (row_of inside) is (not-lazy rest) keep)

-- of the containers of a list the first few
module _ (text : List ℕ) (options : Options) (lookup : Lookup) (cs : List OpenContainer) (ms : List model.OpenContainer) (shows : ShowsContainers cs ms) (count : ℕ) (r : Row) (more : List Row) where
  first-held : (d at n : ℕ) (rest : LineRest) → n ≡ at + d → n ≤ count → AreOld cs at n → IsHeld (row_of rest)
      → Inside text options lookup (take count ms) at r more (row_of rest) → Inside text options lookup (take count ms) n r more (row_of rest)
  first-held zero at n rest is le old held i = subst (λ j. Inside text options lookup (take count ms) j r more (row_of rest)) (let same : at ≡ n = omega (arith, is) in same) i
  first-held (suc d) at n rest is le old held i =
      let w = old-at cs at (old at (omega arith) (omega (arith, is))) in
      first-held d (suc at) n rest (omega (arith, is)) le (λ j ge lt. old j (omega (arith, ge)) lt) held
      (first-keeps text options lookup cs ms shows count at w.c r more rest w.there (omega (arith, is, le)) rest (λ g same. old-holds w.c.container g _ (row_of rest) w.is same held) (suc at) refl i)

  pub first-alike : (at n after : ℕ) (c : OpenContainer) (rest inside : LineRest) → slice_get cs at ≡ Some c → at < count → ((g : grammar.Container) → Shows c.container g → Some (row_of inside) ≡ keeps g false (row_of rest))
      → KeepAlike cs at n → after ≡ min n count → Inside text options lookup (take count ms) at r more (row_of rest) → Inside text options lookup (take count ms) after r more (row_of inside)
  first-alike at n after c rest inside there lt keep alike is i = ⊎_elim one run alike.alike
    where
      left : after ≤ n
      left = omega (arith, is, min-le_left n count)

      right : after ≤ count
      right = omega (arith, is, min-le_right n count)

      some : suc at ≤ after
      some = omega (arith, is, le-min {k = suc at} {a = n} {b = count} (omega (arith, alike.some)) (omega (arith, lt)))

      next : Inside text options lookup (take count ms) (suc at) r more (row_of inside)
      next = first-keeps text options lookup cs ms shows count at c r more rest there lt inside keep (suc at) refl i

      one : n ≡ suc at → Inside text options lookup (take count ms) after r more (row_of inside)
      one e = subst (λ j. Inside text options lookup (take count ms) j r more (row_of inside)) (let same : suc at ≡ after = omega (arith, e, left, some) in same) next

      run : AreOld cs at n → Inside text options lookup (take count ms) after r more (row_of inside)
      run old =
          let w = old-at cs at (old at (omega arith) alike.some) in
          let is_same = ap (λ x. is_old x.container) (same_Some c w.c (sym there ∙ w.there)) ∙ w.is in
          first-held (after - suc at) (suc at) after inside (omega (arith, some)) right (λ j ge less. old j (omega (arith, ge)) (omega (arith, less, left)))
          (old-held c.container _ (row_of rest) (row_of inside) is_same (not-lazy rest) keep) next
