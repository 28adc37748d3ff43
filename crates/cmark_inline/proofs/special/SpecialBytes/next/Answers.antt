use Rattle.std.proofs.Common.{◌≡◌, ◌+◌, ◌<◌, ◌≤◌, ℕ, List, length, drop, take, get_or, ap, sym, ◌∙◌, arith}
use Rattle.std.specs.List.{position_or_len}
use Rattle.std.proofs.lemmas.List.{get_or-take, length-take}
use Rattle.cmark_search.specs.Sets.{in_rows}
use Rattle.cmark_inline.proofs.PlainSteps.{stands-up-to}
use Rattle.cmark_inline.proofs.special.SpecialBytes.next.Goals as goal

module _ (bytes ahead : List ℕ) (begins : take (length bytes) ahead ≡ bytes) where
  -- `ahead` has at least the length of `bytes`
  enough : length bytes ≤ length ahead
  enough = omega (arith, ap length begins, length-take (length bytes) ahead)

  -- `ahead` has the bytes of `bytes` at their offsets
  same-byte : (at : ℕ) → at < length bytes → get_or ahead at 0 ≡ get_or bytes at 0
  same-byte at within = sym (get_or-take (length bytes) ahead at 0 within) ∙ ap (λ l. get_or l at 0) begins

  byte-ascii : (at : ℕ) → (at < length bytes → get_or ahead at 0 < 128) → at < length bytes → get_or bytes at 0 < 128
  byte-ascii at small within = let is = same-byte at within in let less = small within in omega (arith, is, less)

pub find_within-requires-clause-inside : goal.find_within-requires-clause-inside
find_within-requires-clause-inside c = enough c.args.bytes.now c.args.ahead.now c.requires.ahead

pub returns-clause-plain : goal.returns-clause-plain
returns-clause-plain c = λ o l cell rows.
    let bytes : List ℕ = c.args.bytes.now in
    stands-up-to c.args.self.now o l cell bytes c.args.from c.find_within.result rows c.requires.from
    (c.find_within.ensures.value ∙ ap (λ set. c.args.from + position_or_len (in_rows set) (drop c.args.from (take (length bytes) c.args.ahead.now))) c.self.view_is
    ∙ ap (λ (l : List ℕ). c.args.from + position_or_len (in_rows c.args.self.now) (drop c.args.from l)) c.requires.ahead)
    c.find_within.ensures.within (byte-ascii bytes c.args.ahead.now c.requires.ahead c.find_within.result c.find_within.ensures.ascii)
