-- The marker of a footnote definition ends with its colon.
use Rattle.std.proofs.Common.{◌≡◌, ℕ, zero, suc, ◌<◌, Bool, false, List, [], ◌∷◌, length, drop, arith, Option, Some, None}
use Rattle.std.specs.Prelude.{if◌then◌else◌}
use Rattle.cmark_grammar.specs.LinkDefinitions.{Parsed, put, escapes_next, label_if, up_to}
use Rattle.cmark_grammar.specs.Footnotes.{colon_after, label_then_colon, footnote_in}

pub up-to-following : (closer refused : ℕ) (over_lines escaped : Bool) (bs : List ℕ) (f : Parsed) → up_to escaped closer refused over_lines bs ≡ Some f → drop (suc (length f.bytes)) bs ≡ f.following
up-to-following closer refused over_lines escaped [] f e = absurd (let q : None ≡ Some f = e in cc)
up-to-following closer refused over_lines escaped (b ∷ bs) f e =
    go _ _ (up_to (escapes_next escaped b) closer refused over_lines bs) (λ g eg. up-to-following closer refused over_lines (escapes_next escaped b) bs g eg) e
  where
    go : (x y : Bool) (o : Option Parsed) → ((g : Parsed) → o ≡ Some g → drop (suc (length g.bytes)) bs ≡ g.following)
        → (if x then Some (record { bytes = []; following = bs }) else if y then None else put b o) ≡ Some f → drop (suc (length f.bytes)) (b ∷ bs) ≡ f.following
    go x y o ih q = grind arith

colon-is : (label bs : List ℕ) (found : Parsed) → colon_after label bs ≡ Some found → (label ≡ found.bytes) × (bs ≡ 58 ∷ found.following)
colon-is label bs found e = grind arith

label-colon : (bs : List ℕ) (o : Option Parsed) (found : Parsed) → up_to false 93 91 false bs ≡ o → label_then_colon (label_if o) ≡ Some found → drop (suc (length found.bytes)) bs ≡ 58 ∷ found.following
label-colon bs o found eo e = grind (arith, colon-is, up-to-following)

-- after `[^`, the label and `]` comes the colon, and then the rest
pub colon-at : (bs : List ℕ) (found : Parsed) → footnote_in bs ≡ Some found → drop (suc (suc (suc (length found.bytes)))) bs ≡ 58 ∷ found.following
colon-at bs found e = grind (arith, label-colon)

-- the byte at this place is ASCII, if there is one
abbrev pub IsAsciiAt : ℕ → List ℕ → Type 0
IsAsciiAt n [] = Unit {0}
IsAsciiAt zero (b ∷ bs) = b < 128
IsAsciiAt (suc n) (b ∷ bs) = IsAsciiAt n bs

ascii-at : (n : ℕ) (bs rest : List ℕ) → drop n bs ≡ 58 ∷ rest → IsAsciiAt n bs
ascii-at n [] rest e = tt
ascii-at zero (b ∷ bs) rest e = let q : b ≡ 58 = cc in omega (arith, q)
ascii-at (suc n) (b ∷ bs) rest e = ascii-at n bs rest e

pub colon-ascii : (bs : List ℕ) (found : Parsed) → footnote_in bs ≡ Some found → IsAsciiAt (suc (suc (suc (length found.bytes)))) bs
colon-ascii bs found e = ascii-at (suc (suc (suc (length found.bytes)))) bs found.following (colon-at bs found e)
