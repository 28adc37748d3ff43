-- Going through special bytes.
use Rattle.std.proofs.Common.{◌≡◌, ℕ, ◌+◌, ◌<◌, ◌≤◌, Bool, List, length, get_or, Option, None, sym, subst, ◌∙◌, arith}
use Rattle.std.specs.Prelude.{min}
use Rattle.cmark_span_scan.specs.Special.{next_in, Iterates, Finishes, Breaks, Skips}
use Rattle.cmark_span_scan.specs.declared.special.LoopInstruction.{LoopInstruction}
use Rattle.cmark_span_scan.specs.declared.special.LoopInstruction.TheVariants.{ContinueAndSkip, BreakAtWith}

module _ {F T : Type 0} (step : F → ℕ → ℕ → LoopInstruction (Option T) → F → Type 0) (table : List Bool) (bytes : List ℕ) (callback : F) (at place : ℕ) (is : place ≡ next_in table bytes at) where
  pub finishes : place ≡ length bytes → Iterates step table bytes callback at place None
  finishes e = subst (λ n. Iterates step table bytes callback at n None) (sym e) (Finishes callback at (sym is ∙ e))

  module _ (within : place ≤ length bytes) (inside : place ≡ length bytes → ⊥) (next : F) where
    below : place < length bytes
    below = omega (arith, within, inside)

    pub breaks : (end : ℕ) (value : Option T) → step callback place (get_or bytes place 0) (BreakAtWith end value) next → Iterates step table bytes callback at end value
    breaks end value called = Breaks callback next at end value (subst (λ n. n < length bytes) is below) (subst (λ n. step callback n (get_or bytes n 0) (BreakAtWith end value) next) is called)

    pub skips : (skipped further end : ℕ) (value : Option T) → step callback place (get_or bytes place 0) (ContinueAndSkip skipped) next → further ≡ min (place + 1 + skipped) (length bytes)
        → Iterates step table bytes next further end value → Iterates step table bytes callback at end value
    skips skipped further end value called size rest =
        Skips callback next at skipped end value (subst (λ n. n < length bytes) is below) (subst (λ n. step callback n (get_or bytes n 0) (ContinueAndSkip skipped) next) is called)
        (subst (λ n. Iterates step table bytes next (min (n + 1 + skipped) (length bytes)) end value) is (subst (λ n. Iterates step table bytes next n end value) size rest))
