-- The spans of a pair, the innermost taken off.
use Rattle.std.proofs.Common.{if◌then◌else◌, ◌≡◌, ◌≢◌, ℕ, zero, suc, ◌-◌, ◌<◌, ◌==◌, Bool, true, false, [], ◌∷◌, refl, sym, ap, ◌∙◌, arith}
use Rattle.std.proofs.lemmas.Bool.{eq-eqb, ne_eqb}
use Rattle.cmark_grammar.specs.Spans.{SpanKind, Caret, span_width}
use Rattle.cmark_grammar.specs.Emphasis.{emphasis_kinds, tilde_kinds, caret_kinds, equals_kinds, kinds_of}

kinds-tilde : (m n : ℕ) → m ≡ 126 → kinds_of m n ≡ tilde_kinds n
unfolding kinds_of
kinds-tilde m n e = rw (eq-eqb m 126 e) refl

kinds-caret : (m n : ℕ) → m ≢ 126 → m ≡ 94 → kinds_of m n ≡ caret_kinds n
unfolding kinds_of
kinds-caret m n d e = rw (ne_eqb m 126 d) (rw (eq-eqb m 94 e) refl)

kinds-equals : (m n : ℕ) → m ≢ 126 → m ≢ 94 → m ≡ 61 → kinds_of m n ≡ equals_kinds n
unfolding kinds_of
kinds-equals m n d e f = rw (ne_eqb m 126 d) (rw (ne_eqb m 94 e) (rw (eq-eqb m 61 f) refl))

kinds-emphasis : (m n : ℕ) → m ≢ 126 → m ≢ 94 → m ≢ 61 → kinds_of m n ≡ emphasis_kinds n
unfolding kinds_of
kinds-emphasis m n d e f = rw (ne_eqb m 126 d) (rw (ne_eqb m 94 e) (rw (ne_eqb m 61 f) refl))

pub first_tilde : (m n : ℕ) (k : SpanKind) → m ≡ 126 → tilde_kinds n ≡ k ∷ tilde_kinds (n - span_width k) → kinds_of m n ≡ k ∷ kinds_of m (n - span_width k)
first_tilde m n k e h = kinds-tilde m n e ∙ h ∙ ap (λ l. k ∷ l) (sym (kinds-tilde m (n - span_width k) e))

pub first_equals : (m n : ℕ) (k : SpanKind) → m ≢ 126 → m ≢ 94 → m ≡ 61 → equals_kinds n ≡ k ∷ equals_kinds (n - span_width k) → kinds_of m n ≡ k ∷ kinds_of m (n - span_width k)
first_equals m n k d e f h = kinds-equals m n d e f ∙ h ∙ ap (λ l. k ∷ l) (sym (kinds-equals m (n - span_width k) d e f))

pub first_emphasis : (m n : ℕ) (k : SpanKind) → m ≢ 126 → m ≢ 94 → m ≢ 61 → emphasis_kinds n ≡ k ∷ emphasis_kinds (n - span_width k) → kinds_of m n ≡ k ∷ kinds_of m (n - span_width k)
first_emphasis m n k d e f h = kinds-emphasis m n d e f ∙ h ∙ ap (λ l. k ∷ l) (sym (kinds-emphasis m (n - span_width k) d e f))

carets : (n : ℕ) → 0 < n → caret_kinds n ≡ Caret ∷ caret_kinds (n - 1)
carets zero lt = absurd (omega arith)
carets (suc n) lt = let e : n ≡ suc n - 1 = omega arith in ap (λ k. Caret ∷ caret_kinds k) e

pub first_caret : (m n : ℕ) → m ≢ 126 → m ≡ 94 → 0 < n → kinds_of m n ≡ Caret ∷ kinds_of m (n - 1)
first_caret m n d e lt = kinds-caret m n d e ∙ carets n lt ∙ ap (λ l. Caret ∷ l) (sym (kinds-caret m (n - 1) d e))

pub kinds-none : (m : ℕ) → kinds_of m 0 ≡ []
unfolding kinds_of
kinds-none m = go (m == 126) (m == 94) (m == 61)
  where
    go : (a b c : Bool) → (if a then tilde_kinds 0 else if b then caret_kinds 0 else if c then equals_kinds 0 else emphasis_kinds 0) ≡ []
    go true b c = refl
    go false true c = refl
    go false false true = refl
    go false false false = refl
