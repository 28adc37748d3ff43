-- Reading records one after the other, as the loop does.
use Rattle.std.proofs.Common.{◌≡◌, ℕ, zero, suc, false, eqb, ◌<◌, ◌≤◌, List, [], ◌∷◌, ◌++◌, Option, Some, None, length, sym, ap, ◌∙◌, arith}
use Rattle.cmark_flat.specs.Decode.{◌>>=◌, record_at, records_within}
use Rattle.cmark_flat.specs.Records.{FlatRecord}
use Rattle.cmark_flat.proofs.Loop.{is_done, nothing_before, regroup, with_front}
use Rattle.cmark_flat.proofs.RecordLaw.{nothing_left}

-- the records so far, where at most this many are left to read
pub record SoFar (front : List FlatRecord) (rest : List ℕ) (total : Option (List FlatRecord)) : Type 0 where
  pub most : ℕ
  pub enough : length rest ≤ most
  pub is : with_front front (records_within most rest) ≡ total

goes_on_by : (front : List FlatRecord) (most : ℕ) (rest : List ℕ) (r : FlatRecord) (after : List ℕ) (total : Option (List FlatRecord)) → length rest ≤ most → with_front front (records_within most rest) ≡ total
    → record_at rest ≡ Some (r, after) → length after < length rest → SoFar (front ++ r ∷ []) after total
unfolding records_within
goes_on_by front most [] r after total enough is h shorter = absurd (omega (arith, shorter))
goes_on_by front zero (b ∷ bytes) r after total enough is h shorter = absurd (omega (arith, enough))
goes_on_by front (suc most) (b ∷ bytes) r after total enough is h shorter = record {
  most = most;
  enough = omega (arith, enough, shorter);
  is = sym (regroup front r (records_within most after))
      ∙ ap (λ o. with_front front (o >>= λ first. records_within most first.1 >>= λ others. Some (first.0 ∷ others))) (sym h)
      ∙ is;
}

-- one record more
pub goes_on : (front : List FlatRecord) (rest : List ℕ) (r : FlatRecord) (after : List ℕ) (total : Option (List FlatRecord)) → SoFar front rest total
    → record_at rest ≡ Some (r, after) → length after < length rest → SoFar (front ++ r ∷ []) after total
goes_on front rest r after total so_far = goes_on_by front so_far.most rest r after total so_far.enough so_far.is

ends_by : (front : List FlatRecord) (most : ℕ) (rest : List ℕ) (total : Option (List FlatRecord)) → with_front front (records_within most rest) ≡ total → record_at rest ≡ None → 0 < length rest → total ≡ None
unfolding records_within
ends_by front most [] total is h some = absurd (omega (arith, some))
ends_by front zero (b ∷ bytes) total is h some = sym is
ends_by front (suc most) (b ∷ bytes) total is h some = sym is ∙ ap (λ o. with_front front (o >>= λ first. records_within most first.1 >>= λ others. Some (first.0 ∷ others))) h

-- no record
pub ends : (front : List FlatRecord) (rest : List ℕ) (total : Option (List FlatRecord)) → SoFar front rest total → record_at rest ≡ None → 0 < length rest → total ≡ None
ends front rest total so_far = ends_by front so_far.most rest total so_far.is

-- no bytes
pub all_read : (front : List FlatRecord) (rest : List ℕ) (total : Option (List FlatRecord)) → SoFar front rest total → length rest ≡ 0 → total ≡ Some front
all_read front [] total so_far none = is_done front (records_within so_far.most []) total (nothing_left so_far.most) so_far.is
all_read front (b ∷ bytes) total so_far none = absurd (omega (arith, none))

pub begins : (bytes : List ℕ) → SoFar [] bytes (records_within (length bytes) bytes)
begins bytes = record { most = length bytes; enough = omega arith; is = nothing_before (records_within (length bytes) bytes) }

pub some_left : (n : ℕ) → eqb n 0 ≡ false → 0 < n
some_left zero h = absurd cc
some_left (suc n) h = omega arith
