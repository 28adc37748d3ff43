-- Tables of special bytes, and iteration over a text with a table.
use Rattle.std.specs.Prelude.{◌≡◌, ◌<◌, ◌+◌, ℕ, Bool, false, not, min, List, length, drop, get_or, Option, None}
use Rattle.std.specs.List.{prefix_len}
use Rattle.cmark_grammar.specs.Options.{Options}
use Rattle.cmark_inline_model.specs.SpecialBytes.{is_special}
use Rattle.cmark_span_scan.specs.declared.special.LoopInstruction.{LoopInstruction}
use Rattle.cmark_span_scan.specs.declared.special.LoopInstruction.TheVariants.{ContinueAndSkip, BreakAtWith}

abbrev pub has_byte : (table : List Bool) → ℕ → Bool
has_byte table b = get_or table b false

-- the table has the special bytes
abbrev pub IsTableOf : Options → (table : List Bool) → Type 0
IsTableOf options table = (b : ℕ) → b < 256 → has_byte table b ≡ is_special options b

-- the first offset from `at` on whose byte is in the table, or the length
abbrev pub next_in : (table : List Bool) → (bytes : List ℕ) → (at : ℕ) → ℕ
next_in table bytes at = at + prefix_len (λ b. not (has_byte table b)) (drop at bytes)

module _ {F T : Type 0} (step : F → ℕ → ℕ → LoopInstruction (Option T) → F → Type 0) (table : List Bool) (bytes : List ℕ) where
  -- from the offset `at` on the callback is called at each byte that is in the table, in order, with the state after its last call. The
  -- result is `end` and `value`
  pub data Iterates : (callback : F) → (at : ℕ) → (end : ℕ) → (value : Option T) → Type 0 where
    Finishes : (callback : F) (at : ℕ) → next_in table bytes at ≡ length bytes → Iterates callback at (length bytes) None
    Breaks : (callback next : F) (at end : ℕ) (value : Option T) → next_in table bytes at < length bytes
        → step callback (next_in table bytes at) (get_or bytes (next_in table bytes at) 0) (BreakAtWith end value) next → Iterates callback at end value
    Skips : (callback next : F) (at skipped end : ℕ) (value : Option T) → next_in table bytes at < length bytes
        → step callback (next_in table bytes at) (get_or bytes (next_in table bytes at) 0) (ContinueAndSkip skipped) next
        → Iterates next (min (next_in table bytes at + 1 + skipped) (length bytes)) end value → Iterates callback at end value
