-- The first line of some bytes, and the bytes after it.
use Rattle.std.proofs.Common.{◌≡◌, ℕ, ◌+◌, ◌<◌, Bool, true, false, List, [], ◌∷◌, ◌++◌, length, refl, sym, ap, ◌∙◌, subst, arith, append-nil, rules}
use Rattle.std.specs.Prelude.{if◌then◌else◌}
use Rattle.cmark_grammar.specs.Lines.{ends_line, onto, lines}
use Rattle.cmark_stream_model.specs.Growth.{ends_whole}
use Rattle.cmark_stream_model.specs.Settled.{BeginsWithLine}
use Rattle.cmark_stream_model.proofs.GrowingLines.{ends-alone}

-- some bytes are a line, which is not empty, and the rest
pub record Parted (bytes line : List ℕ) : Type 0 where
  pub first : ℕ
  pub others : List ℕ
  pub is : line ≡ first ∷ others
  pub rest : List ℕ
  pub are : bytes ≡ line ++ rest
  pub one : lines line ≡ line ∷ []
  pub whole : (next : ℕ) (more : List ℕ) → rest ≡ next ∷ more → ends_whole line rest ≡ true

pub first-parted : (bytes line : List ℕ) (more : List (List ℕ)) → lines bytes ≡ line ∷ more → Parted bytes line
first-parted [] line more e = absurd (let q : [] ≡ line ∷ more = e in cc)
first-parted (b ∷ bs) line more e = go (ends_line b bs) refl (lines bs) refl (λ l ls q. first-parted bs l ls q)
  where
    go : (z : Bool) → ends_line b bs ≡ z → (ls : List (List ℕ)) → lines bs ≡ ls → ((l : List ℕ) (others : List (List ℕ)) → lines bs ≡ l ∷ others → Parted bs l) → Parted (b ∷ bs) line
    go true q ls d ih =
        let was : (b ∷ []) ∷ lines bs ≡ line ∷ more = sym (ap (λ z. if z then (b ∷ []) ∷ lines bs else onto b (lines bs)) q) ∙ e in
        subst (Parted (b ∷ bs)) (let r : b ∷ [] ≡ line = cc in r) (record {
          first = b;
          others = [];
          is = refl;
          rest = bs;
          are = refl;
          one = ap (λ z. if z then (b ∷ []) ∷ lines [] else onto b (lines [])) (ends-alone b bs q);
          whole = λ next others r. q;
        })
    go false q [] d ih = search rules
    go false q (l ∷ ls) d ih =
        let was : (b ∷ l) ∷ ls ≡ line ∷ more = sym (ap (λ z. if z then (b ∷ []) ∷ lines bs else onto b (lines bs)) q ∙ ap (onto b) d) ∙ e in
        let p = ih l ls d in
        subst (Parted (b ∷ bs)) (let r : b ∷ l ≡ line = cc in r) (record {
          first = b;
          others = l;
          is = refl;
          rest = p.rest;
          are = ap (λ x. b ∷ x) p.are;
          one = ap (λ z. if z then (b ∷ []) ∷ lines l else onto b (lines l)) (same p) ∙ ap (onto b) p.one;
          whole = λ next others r. longer p ∙ p.whole next others r;
        })
      where
        same : Parted bs l → ends_line b l ≡ false
        same p = cc

        longer : (p : Parted bs l) → ends_whole (b ∷ l) p.rest ≡ ends_whole l p.rest
        longer p = ap (λ x. ends_whole (b ∷ x) p.rest) p.is ∙ ap (λ x. ends_whole x p.rest) (sym p.is)

-- the line is complete if a byte follows it
pub first-complete : (bytes line : List ℕ) (more : List (List ℕ)) → lines bytes ≡ line ∷ more → length line < length bytes → BeginsWithLine bytes line
first-complete bytes line more e lt = go p.rest refl
  where
    p : Parted bytes line
    p = first-parted bytes line more e

    go : (rest : List ℕ) → p.rest ≡ rest → BeginsWithLine bytes line
    go [] q = absurd (let s : length bytes ≡ length line = ap length (p.are ∙ ap (λ r. line ++ r) q ∙ append-nil line) in omega (arith, s, lt))
    go (next ∷ rest) q = record { next = next; rest = rest; are = p.are ∙ ap (λ r. line ++ r) q; one = p.one; whole = ap (ends_whole line) (sym q) ∙ p.whole next rest q }

-- only the last line decides whether bytes end with a whole line ending
pub whole-longer : (front : List ℕ) (b : ℕ) (line rest : List ℕ) → ends_whole (front ++ b ∷ line) rest ≡ ends_whole (b ∷ line) rest
whole-longer [] b line rest = refl
whole-longer (x ∷ []) b line rest = refl
whole-longer (x ∷ (y ∷ front)) b line rest = whole-longer (y ∷ front) b line rest
