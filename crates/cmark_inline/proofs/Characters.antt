-- The last character of a text.
use Rattle.std.specs.Prelude.{Some, None, reverse, chars, encode_utf8}
use Rattle.std.proofs.Common.{◌≡◌, ℕ, ◌+◌, ◌<◌, ◌≤◌, List, [], ◌∷◌, ◌++◌, length, take, get_or, sym, ap, subst, ◌∙◌, arith}
use Rattle.std.specs.Char.{IsScalar}
use Rattle.std.specs.Str.{IsCharBoundary, IsUtf8}
use Rattle.std.proofs.Math.Seq.{take-append_seam}
use Rattle.std.proofs.lemmas.List.{append-nil, length-append, get_or-append-add, reverse-append}
use Rattle.std.proofs.lemmas.Str.{IsUtf8-encode, IsUtf8-take, IsCharBoundary-start, chars-append, chars-nil, chars_from_encodes}
use Rattle.cmark_grammar.specs.InlineTokens.{first_of}

one-character : (c : ℕ) → IsScalar c → chars (encode_utf8 c) ≡ c ∷ []
one-character c is = sym (chars_from_encodes (c ∷ []) (encode_utf8 c) (IsUtf8-encode c is) (append-nil (encode_utf8 c)))

pub last-of : (old rest : List ℕ) (c : ℕ) → IsUtf8 old → IsScalar c → old ≡ rest ++ encode_utf8 c → Some c ≡ first_of (reverse (chars old))
last-of old rest c utf8 is e =
    let b = IsCharBoundary-start (encode_utf8 c) (IsUtf8-encode c is) in
    let n = length-append rest (encode_utf8 c) in
    let m = ap length e in
    let first : get_or old (length rest) 0 ≡ get_or (encode_utf8 c) 0 0 =
    ap (λ (l : List ℕ). get_or l (length rest) 0) e ∙ ap (λ k. get_or (rest ++ encode_utf8 c) k 0) (let q : length rest ≡ length rest + 0 = omega arith in q) ∙ get_or-append-add rest (encode_utf8 c) 0 0 in
    let boundary : IsCharBoundary old (length rest) = (
      (let q : length rest ≤ length old = omega (arith, n, m) in q),
      λ inside high. (
          let h = b.1 (let q : 0 < length (encode_utf8 c) = omega (arith, inside, n, m) in q) (let q : 128 ≤ get_or (encode_utf8 c) 0 0 = omega (arith, high, first) in q) in
          let q : 192 ≤ get_or old (length rest) 0 = omega (arith, h, first) in q
          ),
    ) in
    let before : IsUtf8 rest = subst IsUtf8 (ap (take (length rest)) e ∙ take-append_seam rest (encode_utf8 c)) (IsUtf8-take old (length rest) utf8 boundary) in
    sym (ap (λ l. first_of (reverse (chars l))) e ∙ ap (λ l. first_of (reverse l)) (chars-append rest (encode_utf8 c) before ∙ ap (λ l. chars rest ++ l) (one-character c is)) ∙ ap first_of (reverse-append (chars rest) (c ∷ [])))

pub none-of : (old : List ℕ) → length old ≡ 0 → None ≡ first_of (reverse (chars old))
none-of [] e = sym (ap (λ l. first_of (reverse l)) chars-nil)
none-of (b ∷ bs) e = absurd (omega (arith, e))
