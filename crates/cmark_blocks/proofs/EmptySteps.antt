-- Lines of which nothing is left, and the containers that keep them.
use Rattle.std.proofs.Common.{◌≡◌, ⊎_elim, ℕ, zero, suc, ◌≤◌, Bool, true, false, List, [], ◌∷◌, ◌++◌, Option, take, drop, length, Some, None, refl, sym, ap, ◌∙◌, subst, arith}
use Rattle.std.specs.Prelude.{slice_get, min, ◌==◌, if◌then◌else◌}
use Rattle.std.proofs.Math.Nat.{min-le_left, min-le_right, le-min, eq-or-lt_of_le}
use Rattle.std.proofs.Math.Seq.{drop-nil}
use Rattle.std.proofs.lemmas.List.{append_assoc, append-nil, take-append-drop}
use Rattle.std.proofs.lemmas.Option.{same_Some}
use Rattle.cmark_grammar.specs.Answers.{Lookup}
use Rattle.cmark_grammar.specs.Options.{Options}
use Rattle.cmark_grammar.specs.Columns.{Column, bytes_of}
use Rattle.cmark_grammar.specs.Rows.{Row, without}
use Rattle.cmark_grammar.specs.Containers.{keeps}
use Rattle.cmark_grammar.specs.Containers as grammar
use Rattle.cmark_line_rules.specs.Rests.{row_of}
use Rattle.cmark_line_rules.specs.Starts.{Shows}
use Rattle.cmark_line_rules.specs.declared.container.Container.{Container}
use Rattle.cmark_line_rules.specs.declared.container.Container.TheVariants as container
use Rattle.cmark_line_rules.specs.declared.line_rest.LineRest.{LineRest}
use Rattle.cmark_scan_lines.specs.LineStart.{cut_columns}
use Rattle.cmark_block_model.specs.BlockPass.{LineKeepers, kept_by, kept_if}
use Rattle.cmark_block_model.specs.OpenBlocks as model
use Rattle.cmark_blocks.specs.declared.state.OpenContainer.{OpenContainer}
use Rattle.cmark_blocks.specs.EmptyLines.{keeps_empty, KeepEmpty, KeepEmptyFrom}
use Rattle.cmark_blocks.specs.Shown.{ShowsContainers}
use Rattle.cmark_blocks.proofs.KeepingSteps.{shows-all}

-- ## The containers

keep-snoc : (cs : List OpenContainer) (c : OpenContainer) → KeepEmpty cs → keeps_empty c.container ≡ true → KeepEmpty (cs ++ c ∷ [])
keep-snoc [] c h e = (e, tt)
keep-snoc (b ∷ cs) c h e = (h.0, keep-snoc cs c h.1 e)

-- none is after all of them
keep-none : (cs : List OpenContainer) (n : ℕ) → length cs ≤ n → KeepEmptyFrom n cs
keep-none [] zero le = tt
keep-none [] (suc n) le = tt
keep-none (b ∷ cs) zero le = absurd (omega (arith, le))
keep-none (b ∷ cs) (suc n) le = keep-none cs n (omega (arith, le))

-- no container is open
pub keep-nothing : (cs : List OpenContainer) (n : ℕ) → cs ≡ [] → KeepEmptyFrom n cs
keep-nothing cs n none = keep-none cs n (omega (arith, ap length none))

-- one more container, which keeps an empty line
keep-more : (cs : List OpenContainer) (c : OpenContainer) (n : ℕ) → KeepEmptyFrom n cs → keeps_empty c.container ≡ true → KeepEmptyFrom n (cs ++ c ∷ [])
keep-more cs c zero h e = keep-snoc cs c h e
keep-more [] c (suc n) h e = keep-none [] n (omega arith)
keep-more (b ∷ cs) c (suc n) h e = keep-more cs c n h e

keep-front : (cs ds : List OpenContainer) → KeepEmpty (cs ++ ds) → KeepEmpty cs
keep-front [] ds h = tt
keep-front (b ∷ cs) ds h = (h.0, keep-front cs ds h.1)

-- one container less
pub keep-fewer : (cs : List OpenContainer) (c : OpenContainer) (n : ℕ) → KeepEmptyFrom n (cs ++ c ∷ []) → KeepEmptyFrom n cs
keep-fewer cs c zero h = keep-front cs (c ∷ []) h
keep-fewer [] c (suc n) h = tt
keep-fewer (b ∷ cs) c (suc n) h = keep-fewer cs c n h

-- after more of them
keep-later : (cs : List OpenContainer) (n k : ℕ) → n ≤ k → KeepEmptyFrom n cs → KeepEmptyFrom k cs
keep-later [] n zero le h = tt
keep-later [] n (suc k) le h = tt
keep-later (b ∷ cs) zero zero le h = h
keep-later (b ∷ cs) (suc n) zero le h = absurd (omega (arith, le))
keep-later (b ∷ cs) zero (suc k) le h = keep-later cs zero k (omega arith) h.1
keep-later (b ∷ cs) (suc n) (suc k) le h = keep-later cs n k (omega (arith, le)) h

-- one more container, of which it is known whether it keeps an empty line
pub keep-entered : (cs new : List OpenContainer) (c : OpenContainer) (strict count n : ℕ) → new ≡ cs ++ c ∷ [] → count ≡ length new → n ≡ (if keeps_empty c.container then strict else count)
    → KeepEmptyFrom strict cs → KeepEmptyFrom n new
keep-entered cs new c strict count n items all is h = go (keeps_empty c.container) refl is
  where
    go : (z : Bool) → keeps_empty c.container ≡ z → n ≡ (if z then strict else count) → KeepEmptyFrom n new
    go true e is = subst (KeepEmptyFrom n) (sym items) (keep-more cs c n (subst (λ k. KeepEmptyFrom k cs) (sym is) h) e)
    go false e is = keep-none new n (omega (arith, is, all))

-- no more than there are
pub keep-least : (cs : List OpenContainer) (strict n : ℕ) → n ≡ min strict (length cs) → KeepEmptyFrom strict cs → KeepEmptyFrom n cs × (n ≤ length cs)
keep-least cs strict n is h =
    let below : n ≤ strict = omega (arith, is, min-le_left strict (length cs)) in
    let within : n ≤ length cs = omega (arith, is, min-le_right strict (length cs)) in (
      ⊎_elim (λ e. keep-none cs n (omega (arith, e)))
          (λ short. ⊎_elim (λ e. subst (λ k. KeepEmptyFrom k cs) (sym e) h) (λ less. absurd (omega (arith, is, le-min {k = suc n} {a = strict} {b = length cs} (omega (arith, less)) (omega (arith, short))))) (eq-or-lt_of_le below)) (eq-or-lt_of_le within),
      within,
    )

-- the container before those that keep an empty line also does
pub keep-earlier : (cs : List OpenContainer) (n : ℕ) (c : OpenContainer) → slice_get cs n ≡ Some c → keeps_empty c.container ≡ true → KeepEmptyFrom (suc n) cs → KeepEmptyFrom n cs
keep-earlier [] n c there e h = absurd (let q : None ≡ Some c = there in cc)
keep-earlier (b ∷ cs) zero c there e h = (ap (λ x. keeps_empty x.container) (same_Some b c there) ∙ e, h)
keep-earlier (b ∷ cs) (suc n) c there e h = keep-earlier cs n c there e h

-- ## The line

-- no column is left if no byte and no part of a tab is left
pub none-left : (cs : List Column) → bytes_of cs ≡ [] → cut_columns cs ≡ 0 → cs ≡ []
none-left [] bytes cut = refl
none-left (c ∷ cs) bytes cut = go (c.part == 0) bytes cut
  where
    go : (z : Bool) → (if z then c.byte ∷ bytes_of cs else bytes_of cs) ≡ [] → (if z then 0 else suc (cut_columns cs)) ≡ 0 → c ∷ cs ≡ []
    go true bytes cut = absurd (let q : c.byte ∷ bytes_of cs ≡ [] = bytes in cc)
    go false bytes cut = absurd (omega (arith, cut))

pub not-lazy : (rest : LineRest) → (row_of rest).lazy ≡ false
unfolding row_of
not-lazy rest = refl

-- a line of which nothing is left
record IsUsedUp (r : Row) : Type 0 where
  columns : r.columns ≡ []
  whole : r.lazy ≡ false

as-empty : (r : Row) → IsUsedUp r → r ≡ record r { columns = []; lazy = false }
as-empty r h = ap {A = List Column} {B = Row} (λ l. record r { columns = l }) h.columns ∙ ap {A = Bool} {B = Row} (λ z. record r { columns = []; lazy = z }) h.whole

-- an item, a definition or a footnote definition keeps an empty line, of which nothing is left then
without-none : (n : ℕ) (r : Row) → Some (without n (record r { columns = [] })) ≡ Some (record r { columns = [] })
without-none n r = ap {A = List Column} {B = Option Row} (λ l. Some (record r { columns = l })) (drop-nil n)

empty-row-kept : (k : Container) (g : grammar.Container) (r : Row) → Shows k g → keeps_empty k ≡ true
    → keeps g false (record r { columns = []; lazy = false }) ≡ Some (record r { columns = []; lazy = false })
unfolding keeps
empty-row-kept container.BlockQuote g r s e = absurd (let q : false ≡ true = e in cc)
empty-row-kept (container.Item w) (grammar.BlockQuote alert) r s e = absurd s
empty-row-kept (container.Item w) (grammar.Item delimiter number width task) r s e = without-none width (record r { lazy = false })
empty-row-kept (container.Item w) (grammar.Footnote label old size) r s e = absurd s
empty-row-kept (container.Item w) (grammar.ListDefinition width) r s e = absurd s
empty-row-kept (container.Definition w) (grammar.BlockQuote alert) r s e = absurd s
empty-row-kept (container.Definition w) (grammar.Item delimiter number width task) r s e = absurd s
empty-row-kept (container.Definition w) (grammar.Footnote label old size) r s e = absurd s
empty-row-kept (container.Definition w) (grammar.ListDefinition width) r s e = without-none width (record r { lazy = false })
empty-row-kept (container.Footnote o) (grammar.BlockQuote alert) r s e = absurd s
empty-row-kept (container.Footnote o) (grammar.Item delimiter number width task) r s e = absurd s
empty-row-kept (container.Footnote o) (grammar.ListDefinition width) r s e = absurd s
empty-row-kept (container.Footnote true) (grammar.Footnote label old size) r s e = absurd (let q : false ≡ true = e in cc)
empty-row-kept (container.Footnote false) (grammar.Footnote label true size) r s e = absurd (let q : false ≡ true = s in cc)
empty-row-kept (container.Footnote false) (grammar.Footnote label false size) r s e = without-none 4 (record r { lazy = false })

used-up-kept : (k : Container) (g : grammar.Container) (r : Row) → Shows k g → keeps_empty k ≡ true → IsUsedUp r → keeps g false r ≡ Some r
used-up-kept k g r s e h = subst (λ x. keeps g false x ≡ Some x) (sym (as-empty r h)) (empty-row-kept k g r s e)

-- ## The containers that keep the line

shows-later : (cs : List OpenContainer) (ms : List model.OpenContainer) (k : ℕ) → ShowsContainers cs ms → ShowsContainers (drop k cs) (drop k ms)
shows-later cs ms zero s = s
shows-later [] [] (suc k) s = tt
shows-later [] (m ∷ ms) (suc k) s = absurd s
shows-later (c ∷ cs) [] (suc k) s = absurd s
shows-later (c ∷ cs) (m ∷ ms) (suc k) s = shows-later cs ms k s.1

module _ (text : List ℕ) (options : Options) (lookup : Lookup) where
  used-up-kept-by : (cs : List OpenContainer) (ms outer : List model.OpenContainer) (r : Row) → ShowsContainers cs ms → KeepEmpty cs → IsUsedUp r
      → kept_by text options lookup outer ms false r ≡ record { kept = outer ++ ms; missed = []; left = r }
  used-up-kept-by [] [] outer r s k h = ap {A = List model.OpenContainer} {B = LineKeepers text options lookup} (λ l. record { kept = l; missed = []; left = r }) (sym (append-nil outer))
  used-up-kept-by [] (m ∷ ms) outer r s k h = absurd s
  used-up-kept-by (c ∷ cs) [] outer r s k h = absurd s
  used-up-kept-by (c ∷ cs) (m ∷ ms) outer r s k h =
      ap (λ o. kept_if text options lookup o (λ t. kept_by text options lookup (outer ++ m ∷ []) ms false t) (record { kept = outer; missed = m ∷ ms; left = r }))
      (used-up-kept c.container m.container r s.0.0 k.0 h)
      ∙ used-up-kept-by cs ms (outer ++ m ∷ []) r s.1 k.1 h
      ∙ ap {A = List model.OpenContainer} {B = LineKeepers text options lookup} (λ l. record { kept = l; missed = []; left = r }) (append_assoc outer (m ∷ []) ms)

  -- a line of which nothing is left is kept by all containers, if those that are not known yet keep an empty line
  pub all-keep-used-up : (cs : List OpenContainer) (ms : List model.OpenContainer) (strict k n : ℕ) (bare : Bool) (rest : LineRest) → ShowsContainers cs ms → KeepEmptyFrom strict cs → strict ≤ k → length cs ≤ n
      → bare ≡ false → (row_of rest).columns ≡ [] → kept_by text options lookup (take k ms) (drop k ms) bare (row_of rest) ≡ record { kept = take n ms; missed = drop n ms; left = row_of rest }
  all-keep-used-up cs ms strict k n bare rest s keep le all whole none =
      let e = shows-all cs ms n s all in
      ap (λ b. kept_by text options lookup (take k ms) (drop k ms) b (row_of rest)) whole
      ∙ used-up-kept-by (drop k cs) (drop k ms) (take k ms) (row_of rest) (shows-later cs ms k s) (keep-later cs strict k le keep) (record { columns = none; whole = not-lazy rest })
      ∙ ap {A = List model.OpenContainer} {B = LineKeepers text options lookup} (λ l. record { kept = l; missed = []; left = row_of rest }) (take-append-drop k ms ∙ sym e.0)
      ∙ ap {A = List model.OpenContainer} {B = LineKeepers text options lookup} (λ l. record { kept = take n ms; missed = l; left = row_of rest }) (sym e.1)
