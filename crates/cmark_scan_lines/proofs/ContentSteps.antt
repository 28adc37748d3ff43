-- Where a line's content ends.
use Rattle.std.proofs.Common.{◌≡◌, ℕ, Bool, true, false, ◌==◌, ◌&&◌, ◌||◌, not, List, [], ◌∷◌, length, take, get_or, cond, Option, Some, None, refl, sym, ap, ◌∙◌, arith}
use Rattle.std.specs.Prelude.{unwrap_or}
use Rattle.std.proofs.lemmas.List.Sums.{prefix_len_is, take_while-cons}
use Rattle.memchr.specs.Find.{IsFirstByte, is_byte2}
use Rattle.cmark_grammar.specs.Lines.{is_content, content}

content_or_ending : (b : ℕ) → is_content b ≡ not (is_byte2 10 13 b)
content_or_ending b = go (b == 10) (b == 13)
  where
    go : (p q : Bool) → (not p && not q) ≡ not (p || q)
    go true q = refl
    go false q = refl

not_true : (t : Bool) → (t ≡ true → ⊥) → not t ≡ true
not_true true never = absurd (never refl)
not_true false never = refl

-- the content ends at the first line ending
pub first_ending : (bs : List ℕ) (found : Option ℕ) → IsFirstByte (is_byte2 10 13) bs found → take (unwrap_or found (length bs)) bs ≡ content bs
first_ending bs None none =
    ap (λ n. take n bs) (sym (prefix_len_is is_content bs (length bs) 0 (omega arith) (λ k lt. content_or_ending (get_or bs k 0) ∙ not_true _ (none k (omega arith) lt)) (λ lt. absurd (omega arith))))
first_ending bs (Some n) some =
    ap (λ n. take n bs) (sym (prefix_len_is is_content bs n 0 (let h = some.0.high in omega arith) (λ k lt. content_or_ending (get_or bs k 0) ∙ not_true _ (some.0.before k (omega arith) lt))
    (λ lt. content_or_ending (get_or bs n 0) ∙ ap not some.1)))

-- content has no line ending, so that it is its own content
pub content-once : (bs : List ℕ) → content (content bs) ≡ content bs
content-once [] = refl
content-once (b ∷ bs) = go (is_content b) refl (content-once bs)
  where
    first : content (b ∷ bs) ≡ cond (is_content b) (b ∷ content bs) []
    first = take_while-cons is_content b bs

    go : (t : Bool) → is_content b ≡ t → content (content bs) ≡ content bs → content (content (b ∷ bs)) ≡ content (b ∷ bs)
    go true e ih =
        let is : content (b ∷ bs) ≡ b ∷ content bs = first ∙ ap (λ t. cond t (b ∷ content bs) []) e in
        ap content is ∙ take_while-cons is_content b (content bs) ∙ ap (λ t. cond t (b ∷ content (content bs)) []) e ∙ ap (λ l. b ∷ l) ih ∙ sym is
    go false e ih = let is : content (b ∷ bs) ≡ [] = first ∙ ap (λ t. cond t (b ∷ content bs) []) e in ap content is ∙ sym is
