-- Offsets in a leaf whose stretches are in order: the bytes that are left after an offset are after it, and end with the leaf.
use Rattle.std.specs.Prelude.{◌-◌, nat_lt, max, if◌then◌else◌, drop}
use Rattle.std.proofs.Common.{◌≡◌, ◌⊎◌, inl, inr, ℕ, suc, ◌+◌, ◌<◌, ◌≤◌, List, [], ◌∷◌, length, refl, arith, length-drop, rules}
use Rattle.std.proofs.lemmas.Bool.{ltb-true, ltb-false}
use Rattle.std.proofs.lemmas.List.{length-append, length-take}
use Rattle.cmark_grammar.specs.LeafText.{Stretch, bytes_from, size_of, place_with, begin_of, end_of, InTurn}
use Rattle.cmark_grammar.specs.Tokens.{slice}

slice_size : (source : List ℕ) (start end : ℕ) → length (slice source start end) ≤ end - start
slice_size source start end = let e = length-take (end - start) (drop start source) in omega arith

-- at most one byte is between an offset and the next
slice_next : (source : List ℕ) (at start end : ℕ) → length (slice source (max at start) end) ≤ suc (length (slice source (max (suc at) start) end))
slice_next source at start end = grind (arith, length-take, length-drop)

pub lower : (from low : ℕ) (st : List Stretch) (size : ℕ) → low ≤ from → InTurn from st size → InTurn low st size
lower from low [] size h k = omega arith
lower from low (s ∷ more) size h k = (omega arith, k.1, k.2)

-- which part of a place is taken, by a comparison
pub by_size : (P : ℕ → Type 0) (n m x y : ℕ) → (n < m → P x) → (m ≤ n → P y) → P (if nat_lt n m then x else y)
by_size P n m x y h k = grind (arith, ltb-true, ltb-false)

le_or : (a b : ℕ) → (a ≤ b) ⊎ (b < a)
le_or a b = grind (arith, ltb-true, ltb-false)

pub bytes-size : (source : List ℕ) (st : List Stretch) (at : ℕ) → length (bytes_from source st at) ≤ size_of st
bytes-size source [] at = omega arith
bytes-size source (s ∷ more) at = grind (arith, length-append, slice_size, bytes-size source more at)

start_up_to : (from : ℕ) (s : Stretch) (more : List Stretch) (size left : ℕ) → InTurn from (s ∷ more) size → left ≤ size_of (s ∷ more) → s.start ≤ place_with left (s ∷ more)
start_up_to from s [] size left h k = let x = h.1 in omega arith
start_up_to from s (t ∷ more) size left h k =
    by_size (λ p. s.start ≤ p) (size_of (t ∷ more)) left (s.end - (left - size_of (t ∷ more))) (place_with left (t ∷ more)) (λ lt. (let x = h.1 in omega arith))
    (λ le. (let i = start_up_to s.end t more size left h.2 le in let x = h.1 in let y = h.2.0 in omega arith))

-- the leaf ends where its last stretch ends
end_more : (s t : Stretch) (more : List Stretch) → end_of (s ∷ (t ∷ more)) ≡ end_of (t ∷ more)
end_more s t more = by_size (λ p. p ≡ end_of (t ∷ more)) (size_of (t ∷ more)) 0 (s.end - (0 - size_of (t ∷ more))) (end_of (t ∷ more)) (λ lt. absurd (omega arith)) (λ le. refl)

ends_after : (from : ℕ) (s : Stretch) (more : List Stretch) (size : ℕ) → InTurn from (s ∷ more) size → (s.end ≤ end_of (s ∷ more)) × (end_of (s ∷ more) ≤ size)
ends_after from s [] size h = (omega arith, let x : s.end ≤ size = h.2 in omega arith)
ends_after from s (t ∷ more) size h = grind (arith, end_more, ends_after s.end t more size h.2)

pub end-within : (st : List Stretch) (size : ℕ) → InTurn 0 st size → end_of st ≤ size
end-within [] size h = h
end-within (s ∷ more) size h = (ends_after 0 s more size h).1

-- the offset at which `left` bytes are left is at most the end
place_up_to : (from : ℕ) (st : List Stretch) (size left : ℕ) → InTurn from st size → place_with left st ≤ end_of st
place_up_to from [] size left h = omega arith
place_up_to from (s ∷ []) size left h = omega arith
place_up_to from (s ∷ (t ∷ more)) size left h =
    let e = end_more s t more in
    by_size (λ p. p ≤ end_of (s ∷ (t ∷ more))) (size_of (t ∷ more)) left (s.end - (left - size_of (t ∷ more))) (place_with left (t ∷ more))
    (λ lt. (let i = ends_after from s (t ∷ more) size h in let a = i.0 in omega arith)) (λ le. (let i = place_up_to s.end (t ∷ more) size left h.2 in omega arith))

-- the bytes that are left from an offset on begin there or later
place_after_from : (source : List ℕ) (from : ℕ) (st : List Stretch) (size left x : ℕ) → InTurn from st size → left ≤ length (bytes_from source st x) → x ≤ end_of st → x ≤ place_with left st
place_after_from source from [] size left x h k w = omega arith
place_after_from source from (s ∷ []) size left x h k w =
    let e = length-append (slice source (max x s.start) s.end) [] in
    let a = slice_size source (max x s.start) s.end in
    omega arith
place_after_from source from (s ∷ (t ∷ more)) size left x h k w =
    let e = length-append (slice source (max x s.start) s.end) (bytes_from source (t ∷ more) x) in
    let a = slice_size source (max x s.start) s.end in
    let b = bytes-size source (t ∷ more) x in
    let c = end_more s t more in
    let y = h.2.0 in
    by_size (λ p. x ≤ p) (size_of (t ∷ more)) left (s.end - (left - size_of (t ∷ more))) (place_with left (t ∷ more)) (λ lt. omega arith)
    (λ le. pick le (le_or left (length (bytes_from source (t ∷ more) x))) (λ lt. place_after_from source s.end (t ∷ more) size left x h.2 lt (omega arith)) (start_up_to s.end t more size left h.2 le))
  where
    pick : left ≤ size_of (t ∷ more) → (left ≤ length (bytes_from source (t ∷ more) x)) ⊎ (length (bytes_from source (t ∷ more) x) < left)
        → (left ≤ length (bytes_from source (t ∷ more) x) → x ≤ place_with left (t ∷ more)) → t.start ≤ place_with left (t ∷ more) → x ≤ place_with left (t ∷ more)
    pick le (inl l) i j = i l
    pick le (inr g) i j =
        let e = length-append (slice source (max x s.start) s.end) (bytes_from source (t ∷ more) x) in
        let a = slice_size source (max x s.start) s.end in
        let y = h.2.0 in
        omega arith

-- after the end there are no bytes
none_from : (source : List ℕ) (from : ℕ) (st : List Stretch) (size at : ℕ) → InTurn from st size → end_of st ≤ at → length (bytes_from source st at) ≡ 0
none_from source from [] size at h e = refl
none_from source from (s ∷ []) size at h e = let l = length-append (slice source (max at s.start) s.end) [] in let a = slice_size source (max at s.start) s.end in omega arith
none_from source from (s ∷ (t ∷ more)) size at h e =
    let l = length-append (slice source (max at s.start) s.end) (bytes_from source (t ∷ more) at) in
    let a = slice_size source (max at s.start) s.end in
    let b = (ends_after from s (t ∷ more) size h).0 in
    let c = end_more s t more in
    let i = none_from source s.end (t ∷ more) size at h.2 (omega arith) in
    omega arith

-- there is room for the bytes that are left between an offset and the end
pub fits_from : (source : List ℕ) (from : ℕ) (s : Stretch) (more : List Stretch) (size at : ℕ) → InTurn from (s ∷ more) size → at ≤ end_of (s ∷ more) → length (bytes_from source (s ∷ more) at) + max at s.start ≤ end_of (s ∷ more)
fits_from source from s [] size at h e = let l = length-append (slice source (max at s.start) s.end) [] in let a = slice_size source (max at s.start) s.end in let x = h.1 in omega arith
fits_from source from s (t ∷ more) size at h e =
    let l = length-append (slice source (max at s.start) s.end) (bytes_from source (t ∷ more) at) in
    let a = slice_size source (max at s.start) s.end in
    let c = end_more s t more in
    let i = fits_from source s.end t more size at h.2 (omega arith) in
    let x = h.1 in let y = h.2.0 in
    omega arith

-- before all stretches the next offset has the same bytes after it
same_from : (source : List ℕ) (at : ℕ) (st : List Stretch) (size : ℕ) → InTurn (suc at) st size → length (bytes_from source st at) ≡ length (bytes_from source st (suc at))
same_from source at [] size h = refl
same_from source at (s ∷ more) size h = search (rules, length-append, lower, same_from source at more size (lower s.end (suc at) more size (omega arith) h.2))

next_from : (source : List ℕ) (from : ℕ) (st : List Stretch) (size at : ℕ) → InTurn from st size → length (bytes_from source st at) ≤ suc (length (bytes_from source st (suc at)))
next_from source from [] size at h = omega arith
next_from source from (s ∷ more) size at h = go (le_or s.end at) (next_from source s.end more size at h.2)
  where
    go : (s.end ≤ at) ⊎ (at < s.end) → length (bytes_from source more at) ≤ suc (length (bytes_from source more (suc at))) → length (bytes_from source (s ∷ more) at) ≤ suc (length (bytes_from source (s ∷ more) (suc at)))
    go (inl e) i = grind (arith, length-append, slice_size)
    go (inr e) k =
        let l = length-append (slice source (max at s.start) s.end) (bytes_from source more at) in
        let m = length-append (slice source (max (suc at) s.start) s.end) (bytes_from source more (suc at)) in
        let a = slice_next source at s.start s.end in
        let i = same_from source at more size (lower s.end (suc at) more size (omega arith) h.2) in
        omega arith

module _ (source : List ℕ) (st : List Stretch) (size : ℕ) (turn : InTurn 0 st size) where
  pub none-following : (at : ℕ) → end_of st ≤ at → length (bytes_from source st at) ≡ 0
  none-following at h = none_from source 0 st size at turn h

  pub place-within : (left : ℕ) → place_with left st ≤ end_of st
  place-within left = place_up_to 0 st size left turn

  pub place-from : (left x : ℕ) → left ≤ length (bytes_from source st x) → x ≤ end_of st → x ≤ place_with left st
  place-from left x = place_after_from source 0 st size left x turn

  -- some bytes are left
  pub some-fit : (at : ℕ) → 0 < length (bytes_from source st at) → length (bytes_from source st at) + at ≤ end_of st
  some-fit at h = pick (le_or (end_of st) at)
    where
      fits : (l : List Stretch) → InTurn 0 l size → at ≤ end_of l → length (bytes_from source l at) + at ≤ end_of l
      fits [] k e = omega arith
      fits (s ∷ more) k e = let i = fits_from source 0 s more size at k e in omega arith

      pick : (end_of st ≤ at) ⊎ (at < end_of st) → length (bytes_from source st at) + at ≤ end_of st
      pick (inl e) = let n = none-following at e in omega arith
      pick (inr e) = fits st turn (omega arith)

  pub next-size : (at : ℕ) → length (bytes_from source st at) ≤ suc (length (bytes_from source st (suc at)))
  next-size at = next_from source 0 st size at turn

  pub place-following : (left at : ℕ) → left < length (bytes_from source st at) → at < place_with left st
  place-following left at h = grind (arith, some-fit, next_from, place-from)

-- a leaf does not end before it begins
pub leaf-up : (st : List Stretch) (size : ℕ) → InTurn 0 st size → begin_of st ≤ end_of st
leaf-up [] size h = omega arith
leaf-up (s ∷ more) size h = let e = (ends_after 0 s more size h).0 in let x = h.1 in omega arith
