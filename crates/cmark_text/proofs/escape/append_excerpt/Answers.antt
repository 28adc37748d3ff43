use Rattle.std.proofs.Common.{◌≡◌, ◌++◌, ◌+◌, ◌<◌, ◌≤◌, ℕ, List, length, string_bytes, slice_index, take, subst, sym, ap, ◌∙◌, arith}
use Rattle.std.proofs.Math.Seq.{take-append-add}
use Rattle.std.proofs.lemmas.List.{get_or-append-add, get_or-take, length-append, length-take-le, take-take}
use Rattle.std.specs.Str.{IsCharBoundary}
use Rattle.cmark_text.proofs.escape.append_excerpt.Goals as goal

-- the old text and sixteen bytes after it, cut so that only the bytes of the part remain
cut_after : (old ahead : List ℕ) (len : ℕ) → len ≤ 16 → take (length old + len) (old ++ take 16 ahead) ≡ old ++ take len ahead
cut_after old ahead len few = take-append-add old (take 16 ahead) len ∙ ap (λ l. old ++ l) (take-take len 16 ahead few)

-- the cut is at a character boundary
boundary_after : (old ahead : List ℕ) (len : ℕ) → len ≤ 16 → 16 ≤ length ahead → IsCharBoundary ahead len → IsCharBoundary (old ++ take 16 ahead) (length old + len)
boundary_after old ahead len few enough boundary =
    let many : length (take 16 ahead) ≡ 16 = length-take-le 16 ahead enough in
    let whole = length-append old (take 16 ahead) in (
      omega arith,
      λ below wide.
          let inside : len < 16 = omega arith in
          let same : slice_index (old ++ take 16 ahead) (length old + len) ≡ slice_index ahead len = get_or-append-add old (take 16 ahead) len 0 ∙ get_or-take 16 ahead len 0 inside in
          subst (λ b. 192 ≤ b) (sym same) (boundary.1 (omega arith) (subst (λ b. 128 ≤ b) same wide)),
    )

pub truncate-requires : goal.truncate-requires
truncate-requires c =
    let ahead = c.args.excerpt.ahead.now in
    let front : c.range.result.now ≡ take 16 ahead = grind (arith, c.range.ensures.value) in
    let there : string_bytes c.push_str.new.self ≡ string_bytes c.args.out.now ++ take 16 ahead = c.in_ok-push_str.ensures.bytes ∙ ap (λ l. string_bytes c.args.out.now ++ l) front in
    let place : c.len.result ≡ length (string_bytes c.args.out.now) = c.len.ensures ∙ c.args.out.now.bytes.ok.0 in
    let boundary : IsCharBoundary (string_bytes c.push_str.new.self) (c.len.result + c.args.excerpt.len)
    = rw there (rw place (boundary_after (string_bytes c.args.out.now) ahead c.args.excerpt.len c.if-excerpt-le16.true (omega arith) c.args.excerpt.boundary)) in
    λ _. (boundary.0, λ _. boundary.1)

pub returns-then-is_char_boundary-clause-ok : goal.returns-then-is_char_boundary-clause-ok
returns-then-is_char_boundary-clause-ok c =
    let ahead = c.args.excerpt.ahead.now in
    let front : c.range.result.now ≡ take 16 ahead = grind (arith, c.range.ensures.value) in
    let there : string_bytes c.push_str.new.self ≡ string_bytes c.args.out.now ++ take 16 ahead = c.in_ok-push_str.ensures.bytes ∙ ap (λ l. string_bytes c.args.out.now ++ l) front in
    let place : c.len.result ≡ length (string_bytes c.args.out.now) = c.len.ensures ∙ c.args.out.now.bytes.ok.0 in
    c.truncate.ensures.bytes ∙ ap (λ n. take (n + c.args.excerpt.len) (string_bytes c.push_str.new.self)) place
    ∙ ap (λ l. take (length (string_bytes c.args.out.now) + c.args.excerpt.len) l) there
    ∙ cut_after (string_bytes c.args.out.now) ahead c.args.excerpt.len c.if-excerpt-le16.true
