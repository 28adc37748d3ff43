-- The first word of a text.
use Rattle.std.proofs.Common.{◌≡◌, ℕ, ◌-◌, Bool, true, false, not, List, length, take, take_while, Some, None, refl, sym, ap, ◌∙◌, subst, arith}
use Rattle.std.specs.Prelude.{slice_range}
use Rattle.std.proofs.lemmas.List.{take_all}
use Rattle.std.proofs.lemmas.List.Sums.{prefix_len_is}
use Rattle.memchr.specs.Find.{IsFirstByte, is_byte}
use Rattle.cmark_grammar.specs.Html.{is_within_word}

-- a front of some bytes
front_of : (bs : List ℕ) (n : ℕ) → slice_range bs 0 n ≡ take n bs
front_of bs n = ap (λ m. take m bs) (let z : n - 0 ≡ n = omega arith in z)

not_space : (t : Bool) → (t ≡ true → ⊥) → not t ≡ true
not_space true never = absurd (never refl)
not_space false never = refl

pub word_found : (text bytes word : List ℕ) (end : ℕ) → bytes ≡ text → word ≡ slice_range text 0 end → IsFirstByte (is_byte 32) bytes (Some end) → word ≡ take_while is_within_word text
word_found text bytes word end same is some =
    let h = subst (λ bs. IsFirstByte (is_byte 32) bs (Some end)) same some in
    let n = prefix_len_is is_within_word text end 0 (let l = h.0.high in omega arith) (λ k lt. not_space _ (h.0.before k (omega arith) lt)) (λ lt. ap not h.1) in
    is ∙ front_of text end ∙ ap (λ m. take m text) (sym n)

pub word_all : (text bytes : List ℕ) → bytes ≡ text → IsFirstByte (is_byte 32) bytes None → text ≡ take_while is_within_word text
word_all text bytes same none =
    let h = subst (λ bs. IsFirstByte (is_byte 32) bs None) same none in
    let n = prefix_len_is is_within_word text (length text) 0 (omega arith) (λ k lt. not_space _ (h k (omega arith) lt)) (λ lt. absurd (omega arith)) in
    sym (take_all (length text) text (omega arith)) ∙ ap (λ m. take m text) (sym n)
