-- Case folding of ASCII.
use Rattle.std.proofs.Common.{◌≡◌, ◌<◌, ℕ, zero, suc, Bool, true, false, ◌&&◌, ◌||◌, nat_lt, List, [], ◌∷◌, None, map, position, refl, sym, ap, ◌∙◌, arith, inl, inr, IsAscii, encode_utf8_all}
use Rattle.std.proofs.lemmas.Bool.{cases_lt, lt-ltb, ltb-false}
use Rattle.std.specs.Char.{to_ascii_lowercase}
use Rattle.std.proofs.lemmas.Str.{chars-IsAscii}
use Rattle.std.proofs.lemmas.Str.Ascii.{All-from_ascii, IsAscii-map, lowercase_ascii, lowercase_is, encodes-IsAscii}
use Rattle.caseless.specs.Caseless.{default_case_fold}
use Rattle.caseless.proofs.CaselessLemmas.{default_case_fold-ascii}
use Rattle.cmark_grammar.specs.Labels.{case_folded}
use Rattle.cmark_values.specs.Folding.{may_fold}
use Rattle.cmark_values.proofs.Kept.{AllKept, all_kept-position}

-- an ASCII text folds to its lower case
pub folded_ascii : (text : List ℕ) → IsAscii text → map to_ascii_lowercase text ≡ case_folded text
folded_ascii text ascii =
    sym (ap encode_utf8_all (ap default_case_fold (chars-IsAscii text ascii) ∙ default_case_fold-ascii text (All-from_ascii text ascii))
    ∙ encodes-IsAscii (map to_ascii_lowercase text) (IsAscii-map to_ascii_lowercase text lowercase_ascii ascii))

or_none : (a b : Bool) → (a || b) ≡ false → (a ≡ false) × (b ≡ false)
or_none true b e = cc
or_none false b e = (refl, e)

and_none : (a b : Bool) → (a && b) ≡ false → a ≡ true → b ≡ false
and_none true b e is = e
and_none false b e is = cc

-- a byte that folding does not change
kept_byte : (b : ℕ) → may_fold b ≡ false → (b < 128) × (to_ascii_lowercase b ≡ b)
kept_byte b e = (omega (arith, ltb-false 127 b parts.1), same)
  where
    parts : ((nat_lt 64 b && nat_lt b 91) ≡ false) × (nat_lt 127 b ≡ false)
    parts = or_none (nat_lt 64 b && nat_lt b 91) (nat_lt 127 b) e

    same : to_ascii_lowercase b ≡ b
    same =
        elim (cases_lt 64 b) [
          | inl above ↦ (lowercase_is b).2 (omega (arith, ltb-false b 91 (and_none (nat_lt 64 b) (nat_lt b 91) parts.0 (lt-ltb 64 b above))))
          | inr low ↦ (lowercase_is b).1 (omega arith)
        ]

ascii_more : (b : ℕ) (text : List ℕ) → b < 128 → IsAscii text → IsAscii (b ∷ text)
ascii_more b text here rest zero = here
ascii_more b text here rest (suc i) = rest i

kept_text : (text : List ℕ) → AllKept may_fold text → IsAscii text × (map to_ascii_lowercase text ≡ text)
kept_text [] kept = ((λ i. omega arith), refl)
kept_text (b ∷ text) kept =
    let here = kept_byte b (kept 0 (omega arith)) in
    let rest = kept_text text (λ k below. kept (suc k) (omega arith)) in
    (ascii_more b text here.0 rest.0, (λ i. here.1 i ∷ rest.1 i))

-- a text without such a byte folds to itself
pub folded_none : (text : List ℕ) → position may_fold text ≡ None → text ≡ case_folded text
folded_none text none =
    let kept = kept_text text (all_kept-position may_fold text None (sym none) refl) in
    sym kept.1 ∙ folded_ascii text kept.0
