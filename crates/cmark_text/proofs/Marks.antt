-- Each escape keeps the bytes that it does not mark.
use Rattle.std.proofs.Common.{◌≡◌, ℕ, ◌<◌, true, false, [], ◌∷◌, ◌==◌, ◌||◌, nat_lt, inl, inr, refl, arith, lit<}
use Rattle.std.proofs.lemmas.Bool.{or_parts, or_cases, not-false, eqb-true, ltb-true, both_ways, agree_below_at}
use Rattle.cmark_grammar.specs.Escapes.{body_text_byte, html_byte, href_byte, is_url_byte}
use Rattle.cmark_text.specs.Marks.{is_body_text_mark, is_html_mark, is_href_mark}

pub keeps-body_text_byte : (b : ℕ) → is_body_text_mark b ≡ false → body_text_byte b ≡ b ∷ []
keeps-body_text_byte b unmarked =
    let last = or_parts (b == 38 || b == 60) (b == 62) unmarked in
    let first = or_parts (b == 38) (b == 60) last.0 in
    simp (first.0, first.1, last.1)

pub keeps-html_byte : (b : ℕ) → is_html_mark b ≡ false → html_byte b ≡ b ∷ []
keeps-html_byte b unmarked =
    let last = or_parts (is_body_text_mark b || b == 34) (b == 39) unmarked in
    let first = or_parts (is_body_text_mark b) (b == 34) last.0 in
    simp (first.1, last.1) (keeps-body_text_byte b first.0)

pub keeps-href_byte : (b : ℕ) → is_href_mark b ≡ false → href_byte b ≡ b ∷ []
keeps-href_byte b unmarked = simp (not-false (is_url_byte b) unmarked)

-- a marked byte of these is ASCII
ascii_of : (b code : ℕ) → code < 128 → (b == code) ≡ true → b < 128
ascii_of b code small same = omega (arith, eqb-true b code same)

pub ascii-body_text_mark : (b : ℕ) → is_body_text_mark b ≡ true → b < 128
ascii-body_text_mark b marked =
    elim (or_cases (b == 38 || b == 60) (b == 62) marked) [
      | inl first ↦ elim (or_cases (b == 38) (b == 60) first) [
        | inl e ↦ ascii_of b 38 (lit< tt) e
        | inr e ↦ ascii_of b 60 (lit< tt) e
      ]
      | inr e ↦ ascii_of b 62 (lit< tt) e
    ]

pub ascii-html_mark : (b : ℕ) → is_html_mark b ≡ true → b < 128
ascii-html_mark b marked =
    elim (or_cases (is_body_text_mark b || b == 34) (b == 39) marked) [
      | inl first ↦ elim (or_cases (is_body_text_mark b) (b == 34) first) [
        | inl e ↦ ascii-body_text_mark b e
        | inr e ↦ ascii_of b 34 (lit< tt) e
      ]
      | inr e ↦ ascii_of b 39 (lit< tt) e
    ]

-- a kept byte of a URL is ASCII
pub ascii-href_kept : (b : ℕ) → b < 256 → is_href_mark b ≡ false → b < 128
ascii-href_kept b small kept =
    elim (or_cases (nat_lt b 128) (is_href_mark b) (agree_below_at (λ n. nat_lt n 128 || is_href_mark n) (λ _. true) 256 b refl small)) [
      | inl below ↦ ltb-true b 128 below
      | inr marked ↦ absurd (both_ways (is_href_mark b) kept marked)
    ]
