-- The runs of footnote definitions in the old style among the open containers.
use Rattle.std.specs.Prelude.{◌≡◌, ℕ, zero, suc, ◌≤◌, ◌<◌, Bool, true, false, ◌⊎◌, List, [], ◌∷◌, length}
use Rattle.std.proofs.Props.{props}
use Rattle.cmark_line_rules.specs.declared.container.Container.{Container}
use Rattle.cmark_line_rules.specs.declared.container.Container.TheVariants as container
use Rattle.cmark_blocks.specs.declared.state.FootnoteRun.{FootnoteRun}
use Rattle.cmark_blocks.specs.declared.state.OpenContainer.{OpenContainer}

-- a footnote definition in the old style, which keeps each line that is not blank, and takes nothing of it (this profile's own)
abbrev pub is_old : Container → Bool
is_old container.BlockQuote = false
is_old (container.Item width) = false
is_old (container.Footnote old) = old
is_old (container.Definition width) = false

-- the container at this index is such a definition
abbrev pub is_old_at : List OpenContainer → ℕ → Bool
is_old_at [] k = false
is_old_at (c ∷ cs) zero = is_old c.container
is_old_at (c ∷ cs) (suc k) = is_old_at cs k

-- all containers from `start` up to `end` are such definitions
abbrev pub AreOld : List OpenContainer → (start end : ℕ) → Type 0
AreOld outer start end = (i : ℕ) → start ≤ i → i < end → is_old_at outer i ≡ true

-- each of these runs has such definitions alone, and at least one. They come in order, and the first of them not before `from`
abbrev pub AreRuns : List OpenContainer → (from : ℕ) → List FootnoteRun → Type 0
AreRuns outer from [] = Unit {0}
AreRuns outer from (r ∷ rs) = (from ≤ r.start) × (r.start < r.end) × AreOld outer r.start r.end × AreRuns outer r.end rs

-- this has one proof at most, so it may be a ghost field
pub AreRuns-prop : (outer : List OpenContainer) (from : ℕ) (runs : List FootnoteRun) → IsProp (AreRuns outer from runs)
AreRuns-prop outer from [] = Prim.hlevel props
AreRuns-prop outer from (r ∷ rs) = Prim.hlevel (props, AreRuns-prop outer r.end rs)

-- the containers from `index` up to `end` keep the same lines: it is one container, or all are footnote definitions in the old style
pub record KeepAlike (outer : List OpenContainer) (index end : ℕ) : Type 0 where
  pub some : index < end
  pub within : end ≤ length outer
  pub alike : (end ≡ suc index) ⊎ AreOld outer index end
