-- Parts up to a closer of one byte.
use Rattle.std.proofs.Common.{◌≡◌, ℕ, zero, suc, ◌+◌, ◌-◌, ◌<◌, Bool, true, false, ◌==◌, if◌then◌else◌, List, [], ◌∷◌, length, take, drop, get_or, None, Some, refl, sym, ap, ◌∙◌, arith, true≢false, eqb-true, length-take-le}
use Rattle.std.specs.Prelude.{slice_range}
use Rattle.memchr.specs.Find.{IsFirstByte, is_byte}
use Rattle.cmark_grammar.specs.Letters.{first_is}
use Rattle.cmark_grammar.specs.Autolinks.{closed_by, piped_name_in}
use Rattle.cmark_scan_bytes.specs.Shown.{Part, cut_at}
use Rattle.cmark_scan_bytes.proofs.Lists.{first_some, first_none}

-- a byte is at that place
pub byte_at : (c n : ℕ) (bs : List ℕ) → first_is (λ b. b == c) (drop n bs) ≡ true → (n < length bs) × (get_or bs n 0 ≡ c)
byte_at c zero [] e = absurd (true≢false (sym e))
byte_at c (suc n) [] e = absurd (true≢false (sym e))
byte_at c zero (b ∷ bs) e = (omega arith, eqb-true b c e)
byte_at c (suc n) (b ∷ bs) e = let h = byte_at c n bs e in (let lt = h.0 in omega arith, h.1)

pub first_there : (p : ℕ → Bool) (n : ℕ) (bs : List ℕ) → n < length bs → p (get_or bs n 0) ≡ true → first_is p (drop n bs) ≡ true
first_there p n [] lt e = absurd (omega arith)
first_there p zero (b ∷ bs) lt e = e
first_there p (suc n) (b ∷ bs) lt e = first_there p n bs (omega arith) e

nothing_there : (p : ℕ → Bool) (bs : List ℕ) → first_is p (drop (length bs) bs) ≡ false
nothing_there p [] = refl
nothing_there p (b ∷ bs) = nothing_there p bs

-- a part, as a slice of a text
pub part_is : (from cut following : List ℕ) (start size : ℕ) → cut ≡ take size from → size < length from
    → Some (let part : Part = record { end = start + size + 1; bytes = cut } in part) ≡ cut_at start (Some (record { bytes = take size from; following = following }))
part_is from cut following start size is lt = grind (arith, length-take-le)

pub cut_out : (text : List ℕ) (start size : ℕ) → slice_range text start (start + size) ≡ take size (drop start text)
cut_out text start size = ap (λ n. take n (drop start text)) (let e : start + size - start ≡ size = omega arith in e)

pub shorter_cut : (bs : List ℕ) (size len : ℕ) → size < length (take len bs) → take size bs ≡ take size (take len bs)
shorter_cut bs zero len lt = refl
shorter_cut [] (suc size) zero lt = refl
shorter_cut [] (suc size) (suc len) lt = refl
shorter_cut (b ∷ bs) (suc size) zero lt = absurd (omega arith)
shorter_cut (b ∷ bs) (suc size) (suc len) lt = ap (λ cs. b ∷ cs) (shorter_cut bs size len (omega arith))

-- the first pipe
pub pipe_found : (bs : List ℕ) (n : ℕ) → IsFirstByte (is_byte 124) bs (Some n) → Some (record { bytes = take n bs; following = drop (suc n) bs }) ≡ piped_name_in bs
pipe_found bs n h =
    sym (ap (λ k. closed_by 124 k bs) (first_some (is_byte 124) bs n h)
    ∙ ap (λ t. if t then Some (record { bytes = take n bs; following = drop (suc n) bs }) else None) (first_there (λ b. b == 124) n bs h.0.high h.1))

pub no_pipe : (bs : List ℕ) → IsFirstByte (is_byte 124) bs None → None ≡ piped_name_in bs
no_pipe bs h =
    sym (ap (λ k. closed_by 124 k bs) (first_none (is_byte 124) bs h)
    ∙ ap (λ t. if t then Some (record { bytes = take (length bs) bs; following = drop (suc (length bs)) bs }) else None) (nothing_there (λ b. b == 124) bs))
