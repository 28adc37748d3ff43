-- A leaf, byte by byte: the bytes after the offset of a byte, and the offset of the next byte, which follows directly if the byte does not
-- end a line.
use Rattle.std.specs.Prelude.{◌-◌, max, get_or, drop, take}
use Rattle.std.proofs.Common.{◌≡◌, ℕ, suc, ◌+◌, ◌<◌, ◌≤◌, true, List, [], ◌∷◌, ◌++◌, length, refl, sym, ap, ◌∙◌, subst, arith, length-drop, append-nil, drop-drop, rules}
use Rattle.std.proofs.Math.Seq.{drop-append-add, drop-cons, drop-nil}
use Rattle.std.proofs.lemmas.List.{length-append, length-take, drop-append-le, drop-take, get_or-drop}
use Rattle.cmark_grammar.specs.LeafText.{Stretch, bytes_from, size_of, place_with, InTurn}
use Rattle.cmark_grammar.specs.Lines.{is_content}
use Rattle.cmark_grammar.specs.Tokens.{slice}
use Rattle.cmark_inline_model.specs.LeafModel.{HaveLineEnds}
use Rattle.cmark_inline_model.proofs.LeafPlaces.{by_size}

-- the bytes of all stretches
abbrev pub all_bytes : (source : List ℕ) → List Stretch → List ℕ
all_bytes source [] = []
all_bytes source (s ∷ more) = slice source s.start s.end ++ all_bytes source more

pub slice-size : (source : List ℕ) (start end : ℕ) → end ≤ length source → length (slice source start end) ≡ end - start
slice-size source start end h = let t = length-take (end - start) (drop start source) in let d = length-drop start source in omega arith

pub slice_drop : (source : List ℕ) (start mid end : ℕ) → start ≤ mid → mid ≤ end → drop (mid - start) (slice source start end) ≡ slice source mid end
slice_drop source start mid end h k =
    let a : end - start ≡ (mid - start) + (end - mid) = omega arith in
    let b : start + (mid - start) ≡ mid = omega arith in
    ap (λ n. drop (mid - start) (take n (drop start source))) a
    ∙ drop-take (mid - start) (end - mid) (drop start source)
    ∙ ap (take (end - mid)) (dropped (mid - start))
    ∙ ap (λ n. take (end - mid) (drop n source)) b
  where
    dropped : (n : ℕ) → drop n (drop start source) ≡ drop (start + n) source
    dropped n = drop-drop n start source

slice_none : (source : List ℕ) (start end : ℕ) → end ≤ start → slice source start end ≡ []
slice_none source start end h = grind (arith, length-take)

-- before all stretches all their bytes come after an offset
pub bytes-low : (source : List ℕ) (at from : ℕ) (st : List Stretch) (size : ℕ) → at ≤ from → InTurn from st size → bytes_from source st at ≡ all_bytes source st
bytes-low source at from [] size h k = refl
bytes-low source at from (s ∷ more) size h k = search (rules, bytes-low source at s.end more size (omega arith) k.2)

-- the last bytes begin after the start of the stretches
pub place-low : (from : ℕ) (s : Stretch) (more : List Stretch) (size left : ℕ) → InTurn from (s ∷ more) size → left ≤ size_of (s ∷ more) → s.start ≤ place_with left (s ∷ more)
place-low from s [] size left h k = let x = h.1 in omega arith
place-low from s (t ∷ more) size left h k =
    by_size (λ p. s.start ≤ p) (size_of (t ∷ more)) left (s.end - (left - size_of (t ∷ more))) (place_with left (t ∷ more)) (λ lt. (let x = h.1 in omega arith))
    (λ le. (let i = place-low s.end t more size left h.2 le in let x = h.1 in let y = h.2.0 in omega arith))

-- the stretches begin at the offset at which all their bytes are left
pub place-first : (source : List ℕ) (s : Stretch) (more : List Stretch) → HaveLineEnds source (s ∷ more) → place_with (size_of (s ∷ more)) (s ∷ more) ≡ s.start
place-first source s more l = grind (arith, by_size)

bytes_at : (source : List ℕ) (from : ℕ) (st : List Stretch) (size left : ℕ) → InTurn from st size → size ≤ length source → left ≤ size_of st
    → bytes_from source st (place_with left st) ≡ drop (size_of st - left) (all_bytes source st)
bytes_at source from [] size left h w k = sym (drop-nil (0 - left))
bytes_at source from (s ∷ []) size left h w k =
    let x = h.1 in let y : s.end ≤ size = h.2 in
    let e : max (s.end - left) s.start ≡ s.end - left = omega arith in
    let d : size_of (s ∷ []) - left ≡ (s.end - left) - s.start = omega arith in
    ap (λ n. slice source n s.end ++ []) e
    ∙ append-nil (slice source (s.end - left) s.end)
    ∙ sym (slice_drop source s.start (s.end - left) s.end (omega arith) (omega arith))
    ∙ ap (λ n. drop n (slice source s.start s.end)) (sym d)
    ∙ ap (drop (size_of (s ∷ []) - left)) (sym (append-nil (slice source s.start s.end)))
bytes_at source from (s ∷ (t ∷ more)) size left h w k =
    by_size (λ p. bytes_from source (s ∷ (t ∷ more)) p ≡ drop (size_of (s ∷ (t ∷ more)) - left) (all_bytes source (s ∷ (t ∷ more)))) (size_of (t ∷ more)) left
    (s.end - (left - size_of (t ∷ more))) (place_with left (t ∷ more)) here (λ le. later le (bytes_at source s.end (t ∷ more) size left h.2 w le))
  where
    here : size_of (t ∷ more) < left → bytes_from source (s ∷ (t ∷ more)) (s.end - (left - size_of (t ∷ more))) ≡ drop (size_of (s ∷ (t ∷ more)) - left) (all_bytes source (s ∷ (t ∷ more)))
    here lt =
        let at = s.end - (left - size_of (t ∷ more)) in
        let x = h.1 in let y = h.2.0 in let z = h.2.1 in
        let ends : s.end ≤ length source = up s.end (t ∷ more) h.2 in
        let e : max at s.start ≡ at = omega arith in
        let d : size_of (s ∷ (t ∷ more)) - left ≡ at - s.start = omega arith in
        let l = slice-size source s.start s.end ends in
        ap (λ n. slice source n s.end ++ bytes_from source (t ∷ more) at) e
        ∙ ap (λ b. slice source at s.end ++ b) (bytes-low source at s.end (t ∷ more) size (omega arith) h.2)
        ∙ ap (λ b. b ++ all_bytes source (t ∷ more)) (sym (slice_drop source s.start at s.end (omega arith) (omega arith)))
        ∙ sym (drop-append-le (at - s.start) (slice source s.start s.end) (all_bytes source (t ∷ more)) (omega arith))
        ∙ ap (λ n. drop n (all_bytes source (s ∷ (t ∷ more)))) (sym d)
      where
        up : (low : ℕ) (st : List Stretch) → InTurn low st size → low ≤ length source
        up low [] i = let x : low ≤ size = i in omega arith
        up low (r ∷ rs) i = let j = up r.end rs i.2 in let a = i.0 in let b = i.1 in omega arith

    later : left ≤ size_of (t ∷ more) → bytes_from source (t ∷ more) (place_with left (t ∷ more)) ≡ drop (size_of (t ∷ more) - left) (all_bytes source (t ∷ more))
        → bytes_from source (s ∷ (t ∷ more)) (place_with left (t ∷ more)) ≡ drop (size_of (s ∷ (t ∷ more)) - left) (all_bytes source (s ∷ (t ∷ more)))
    later le i =
        let at = place_with left (t ∷ more) in
        let low = place-low s.end t more size left h.2 le in
        let x = h.1 in let y = h.2.0 in
        let ends : s.end ≤ length source = up s.end (t ∷ more) h.2 in
        let l = slice-size source s.start s.end ends in
        let d : size_of (s ∷ (t ∷ more)) - left ≡ length (slice source s.start s.end) + (size_of (t ∷ more) - left) = omega arith in
        ap (λ b. b ++ bytes_from source (t ∷ more) at) (slice_none source (max at s.start) s.end (omega arith))
        ∙ i
        ∙ sym (drop-append-add (slice source s.start s.end) (all_bytes source (t ∷ more)) (size_of (t ∷ more) - left))
        ∙ ap (λ n. drop n (all_bytes source (s ∷ (t ∷ more)))) (sym d)
      where
        up : (low : ℕ) (st : List Stretch) → InTurn low st size → low ≤ length source
        up low [] i = let x : low ≤ size = i in omega arith
        up low (r ∷ rs) i = let j = up r.end rs i.2 in let a = i.0 in let b = i.1 in omega arith

pub all-size : (source : List ℕ) (from : ℕ) (st : List Stretch) (size : ℕ) → InTurn from st size → size ≤ length source → length (all_bytes source st) ≡ size_of st
all-size source from [] size h w = refl
all-size source from (s ∷ more) size h w = grind (arith, length-append, slice-size, up, all-size source s.end more size h.2 w)
  where
    up : (low : ℕ) (st : List Stretch) → InTurn low st size → low ≤ length source
    up low [] i = let x : low ≤ size = i in omega arith
    up low (r ∷ rs) i = let j = up r.end rs i.2 in let a = i.0 in let b = i.1 in omega arith

-- the byte at the place of a byte
byte_at : (source : List ℕ) (from : ℕ) (st : List Stretch) (size n : ℕ) → InTurn from st size → size ≤ length source → suc n ≤ size_of st
    → (place_with (suc n) st < length source) × (get_or source (place_with (suc n) st) 0 ≡ get_or (all_bytes source st) (size_of st - suc n) 0)
byte_at source from [] size n h w k = absurd (omega arith)
byte_at source from (s ∷ more) size n h w k = go more refl (λ e. byte_at source s.end more size n h.2 w e)
  where
    up : (low : ℕ) (st : List Stretch) → InTurn low st size → low ≤ length source
    up low [] i = let x : low ≤ size = i in omega arith
    up low (r ∷ rs) i = let j = up r.end rs i.2 in let a = i.0 in let b = i.1 in omega arith

    -- a byte of the first stretch
    first : (i : ℕ) → s.start + i < s.end → (s.start + i < length source) × (get_or source (s.start + i) 0 ≡ get_or (all_bytes source (s ∷ more)) i 0)
    first i lt =
        let ends : s.end ≤ length source = up s.end more h.2 in
        let l = slice-size source s.start s.end ends in
        let at = s.start + i in
        let cut : drop i (all_bytes source (s ∷ more)) ≡ slice source at s.end ++ all_bytes source more =
        drop-append-le i (slice source s.start s.end) (all_bytes source more) (omega arith)
        ∙ ap (λ b. b ++ all_bytes source more) (ap (λ j. drop j (slice source s.start s.end)) (let j : i ≡ at - s.start = omega arith in j) ∙ slice_drop source s.start at s.end (omega arith) (omega arith)) in
        let front : slice source at s.end ≡ get_or source at 0 ∷ take (s.end - suc at) (drop (suc at) source) =
        ap (λ j. take j (drop at source)) (let j : s.end - at ≡ suc (s.end - suc at) = omega arith in j) ∙ ap (take (suc (s.end - suc at))) (drop-cons source at 0 (omega arith)) in
        let g : get_or (drop i (all_bytes source (s ∷ more))) 0 0 ≡ get_or source at 0 = ap (λ b. get_or b 0 0) (cut ∙ ap (λ b. b ++ all_bytes source more) front) in
        let z : i + 0 ≡ i = omega arith in
        (omega arith, sym g ∙ get_or-drop i (all_bytes source (s ∷ more)) 0 0 ∙ ap (λ j. get_or (all_bytes source (s ∷ more)) j 0) z)

    Goal : List Stretch → ℕ → Type 0
    Goal l p = (p < length source) × (get_or source p 0 ≡ get_or (all_bytes source (s ∷ more)) (size_of (s ∷ l) - suc n) 0)

    go : (l : List Stretch) → more ≡ l → (suc n ≤ size_of more → (place_with (suc n) more < length source) × (get_or source (place_with (suc n) more) 0 ≡ get_or (all_bytes source more) (size_of more - suc n) 0))
        → Goal l (place_with (suc n) (s ∷ l))
    go [] e ih = grind (arith, first, Goal)
    go (t ∷ rest) e ih = by_size (Goal (t ∷ rest)) (size_of (t ∷ rest)) (suc n) (s.end - (suc n - size_of (t ∷ rest))) (place_with (suc n) (t ∷ rest)) here later
      where
        here : size_of (t ∷ rest) < suc n → Goal (t ∷ rest) (s.end - (suc n - size_of (t ∷ rest)))
        here lt =
            let x = h.1 in
            let m : size_of more ≡ size_of (t ∷ rest) = ap size_of e in
            let i : ℕ = size_of (s ∷ (t ∷ rest)) - suc n in
            let f = first i (omega arith) in
            let a : s.start + i ≡ s.end - (suc n - size_of (t ∷ rest)) = omega arith in
            subst (λ p. Goal (t ∷ rest) p) a f

        later : suc n ≤ size_of (t ∷ rest) → Goal (t ∷ rest) (place_with (suc n) (t ∷ rest))
        later le =
            let m : size_of more ≡ size_of (t ∷ rest) = ap size_of e in
            let i = subst (λ l. (place_with (suc n) l < length source) × (get_or source (place_with (suc n) l) 0 ≡ get_or (all_bytes source more) (size_of l - suc n) 0)) e (ih (omega arith)) in
            let l = slice-size source s.start s.end (up s.end more h.2) in
            let x = h.1 in
            let a : length (slice source s.start s.end) + (size_of (t ∷ rest) - suc n) ≡ size_of (s ∷ (t ∷ rest)) - suc n = omega arith in
            let z : (size_of (t ∷ rest) - suc n) + 0 ≡ size_of (t ∷ rest) - suc n = omega arith in
            let y : (length (slice source s.start s.end) + (size_of (t ∷ rest) - suc n)) + 0 ≡ length (slice source s.start s.end) + (size_of (t ∷ rest) - suc n) = omega arith in (
              i.0,
              i.1
                  ∙ ap (λ j. get_or (all_bytes source more) j 0) (sym z)
                  ∙ sym (get_or-drop (size_of (t ∷ rest) - suc n) (all_bytes source more) 0 0)
                  ∙ ap (λ b. get_or b 0 0) (sym (drop-append-add (slice source s.start s.end) (all_bytes source more) (size_of (t ∷ rest) - suc n)))
                  ∙ get_or-drop (length (slice source s.start s.end) + (size_of (t ∷ rest) - suc n)) (all_bytes source (s ∷ more)) 0 0
                  ∙ ap (λ j. get_or (all_bytes source (s ∷ more)) j 0) (y ∙ a),
            )

-- the next byte is directly after a byte that does not end a line
next_at : (source : List ℕ) (from : ℕ) (st : List Stretch) (size n : ℕ) → InTurn from st size → HaveLineEnds source st → suc n ≤ size_of st
    → is_content (get_or source (place_with (suc n) st) 0) ≡ true → suc (place_with (suc n) st) ≡ place_with n st
next_at source from [] size n h l k c = absurd (omega arith)
next_at source from (s ∷ []) size n h l k c = let x = h.1 in omega arith
next_at source from (s ∷ (t ∷ more)) size n h l k c =
    by_size (λ p. is_content (get_or source p 0) ≡ true → suc p ≡ place_with n (s ∷ (t ∷ more))) (size_of (t ∷ more)) (suc n) (s.end - (suc n - size_of (t ∷ more))) (place_with (suc n) (t ∷ more))
    (λ lt d. here lt d) (λ le d. later le (next_at source s.end (t ∷ more) size n h.2 l.2 le d)) c
  where
    here : size_of (t ∷ more) < suc n → is_content (get_or source (s.end - (suc n - size_of (t ∷ more))) 0) ≡ true → suc (s.end - (suc n - size_of (t ∷ more))) ≡ place_with n (s ∷ (t ∷ more))
    here lt d = search (rules, by_size)

    later : suc n ≤ size_of (t ∷ more) → suc (place_with (suc n) (t ∷ more)) ≡ place_with n (t ∷ more) → suc (place_with (suc n) (t ∷ more)) ≡ place_with n (s ∷ (t ∷ more))
    later le i =
        by_size (λ p. suc (place_with (suc n) (t ∷ more)) ≡ p) (size_of (t ∷ more)) n (s.end - (n - size_of (t ∷ more))) (place_with n (t ∷ more)) (λ m. absurd (omega arith)) (λ m. i)

module _ (source : List ℕ) (st : List Stretch) (size : ℕ) (turn : InTurn 0 st size) (within : size ≤ length source) (lines : HaveLineEnds source st) where
  -- the offset of the first of the last `left` bytes, or the end
  abbrev pub IsAt : (left at : ℕ) → Type 0
  IsAt left at = (left ≤ size_of st) × (at ≡ place_with left st)

  pub at-size : (left at : ℕ) → IsAt left at → length (bytes_from source st at) ≡ left
  at-size left at h = grind (arith, bytes_at, length-drop, all-size)

  pub at-bytes : (left at : ℕ) → IsAt left at → bytes_from source st at ≡ drop (size_of st - left) (all_bytes source st)
  at-bytes left at h = ap (bytes_from source st) h.1 ∙ bytes_at source 0 st size left turn within h.0

  -- one byte on
  pub record IsNext (at b : ℕ) (bs : List ℕ) : Type 0 where
    pub inside : at < length source
    pub byte : get_or source at 0 ≡ b
    pub rest : bytes_from source st (place_with (length bs) st) ≡ bs
    pub fits : length bs ≤ size_of st
    pub next : is_content b ≡ true → suc at ≡ place_with (length bs) st

  pub at-next : (left at b : ℕ) (bs : List ℕ) → IsAt left at → bytes_from source st at ≡ b ∷ bs → IsNext at b bs
  at-next left at b bs h e =
      let size_is : suc (length bs) ≡ left = sym (ap length e) ∙ at-size left at h in
      let x = h.0 in
      let w : suc (length bs) ≤ size_of st = omega arith in
      let place : at ≡ place_with (suc (length bs)) st = h.1 ∙ ap (λ n. place_with n st) (sym size_is) in
      let k = byte_at source 0 st size (length bs) turn within w in
      let bytes : drop (size_of st - suc (length bs)) (all_bytes source st) ≡ b ∷ bs =
      ap (λ n. drop (size_of st - n) (all_bytes source st)) size_is ∙ sym (at-bytes left at h) ∙ e in
      let z : (size_of st - suc (length bs)) + 0 ≡ size_of st - suc (length bs) = omega arith in
      let byte : get_or source (place_with (suc (length bs)) st) 0 ≡ b = cc (get_or-drop (size_of st - suc (length bs)) (all_bytes source st) 0 0) in
      let one : size_of st - length bs ≡ (size_of st - suc (length bs)) + 1 = omega arith in
      record {
        inside = subst (λ p. p < length source) (sym place) k.0;
        byte = ap (λ p. get_or source p 0) place ∙ byte;
        rest = bytes_at source 0 st size (length bs) turn within (omega arith) ∙ ap (λ n. drop n (all_bytes source st)) one ∙ sym (drop-drop 1 (size_of st - suc (length bs)) (all_bytes source st)) ∙ ap (drop 1) bytes;
        fits = omega arith;
        next = λ c. ap suc place ∙ next_at source 0 st size (length bs) turn lines w (ap is_content byte ∙ c);
      }
