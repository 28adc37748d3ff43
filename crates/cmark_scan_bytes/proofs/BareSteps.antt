-- The bytes of a bare destination that a search passes.
use Rattle.std.proofs.Common.{◌≡◌, ℕ, zero, suc, ◌-◌, ◌<◌, ◌≤◌, Bool, false, ◌==◌, ◌&&◌, ◌||◌, nat_le, if◌then◌else◌, List, [], ◌∷◌, length, take, drop, get_or, Option, None, Some, refl, sym, ap, ◌∙◌, inl, inr, arith}
use Rattle.std.proofs.lemmas.Bool.{agree_below_at, cases_lt}
use Rattle.cmark_grammar.specs.LinkDefinitions.{Parsed, put, bare_in, ends_bare}
use Rattle.cmark_search.specs.Sets.{in_rows}
use Rattle.cmark_scan_bytes.specs.Steps.{puts}
use Rattle.cmark_scan_bytes.specs.declared.destination.TheConstants.{MARKS}
use Rattle.cmark_scan_bytes.proofs.Lists.{or_false}

-- the bytes at which more than one byte is read
abbrev is_mark : ℕ → Bool
is_mark b = ends_bare b || ((b == 40) || ((b == 41) || (b == 92)))

no_mark : (b : ℕ) → in_rows MARKS b ≡ false → is_mark b ≡ false
no_mark b none = elim (cases_lt b 128) [
  | inl ascii ↦ sym (agree_below_at (in_rows MARKS) is_mark 128 b refl ascii) ∙ none
  | inr above ↦ grind arith
]

-- a byte that is none belongs to the destination
module _ (depth b : ℕ) (bs : List ℕ) where
  abbrev following : (ends opens closes escapes : Bool) → Option Parsed
  following ends opens closes escapes =
      if ends || (closes && (depth == 0)) then (if depth == 0 then Some (record { bytes = []; following = b ∷ bs }) else None)
      else if opens && nat_le 32 depth then None
      else put b (bare_in escapes (if opens then suc depth else if closes then depth - 1 else depth) bs)

  plain_byte : is_mark b ≡ false → bare_in false depth (b ∷ bs) ≡ put b (bare_in false depth bs)
  plain_byte none =
      let first = or_false (ends_bare b) ((b == 40) || ((b == 41) || (b == 92))) none in
      let second = or_false (b == 40) ((b == 41) || (b == 92)) first.1 in
      let third = or_false (b == 41) (b == 92) second.1 in
      ap (λ t. following t (b == 40) (b == 41) (b == 92)) first.0
      ∙ ap (λ t. following false t (b == 41) (b == 92)) second.0
      ∙ ap (λ t. following false false t (b == 92)) third.0
      ∙ ap (λ t. following false false false t) third.1

pub plain_bytes : (depth : ℕ) (bs : List ℕ) (n : ℕ) → n ≤ length bs → ((k : ℕ) → k < n → in_rows MARKS (get_or bs k 0) ≡ false)
    → bare_in false depth bs ≡ puts (take n bs) (bare_in false depth (drop n bs))
plain_bytes depth bs zero within none = refl
plain_bytes depth [] (suc n) within none = absurd (omega arith)
plain_bytes depth (b ∷ bs) (suc n) within none =
    plain_byte depth b bs (no_mark b (none 0 (omega arith)))
    ∙ ap (put b) (plain_bytes depth bs n (omega arith) (λ k low. none (suc k) (omega arith)))
