-- Where the backticks begin that end at an offset.
use Rattle.std.specs.Prelude.{if◌then◌else◌}
use Rattle.std.proofs.Common.{◌≡◌, ◌<◌, ◌+◌, ◌-◌, ℕ, zero, suc, true, false, List, get_or, refl, sym, ap, ◌∙◌, arith}
use Rattle.cmark_grammar.specs.CodeSpans.{is_backtick}
use Rattle.cmark_slots.specs.Slots.{before_backticks}

-- the byte before an offset is a backtick
pub before-step : (text : List ℕ) (at : ℕ) → 0 < at → is_backtick (get_or text (at - 1) 0) ≡ true → before_backticks text (at - 1) ≡ before_backticks text at
before-step text zero lt is = absurd (omega (arith, lt))
before-step text (suc at) lt is =
    let q : suc at - 1 ≡ at = omega arith in
    ap (before_backticks text) q ∙ sym (ap (λ z. if z then before_backticks text at else suc at) (ap (λ n. is_backtick (get_or text n 0)) (sym q) ∙ is))

-- it is none
pub before-stop : (text : List ℕ) (at : ℕ) → is_backtick (get_or text (at - 1) 0) ≡ false → before_backticks text at ≡ at
before-stop text zero is = refl
before-stop text (suc at) is =
    let q : suc at - 1 ≡ at = omega arith in
    ap (λ z. if z then before_backticks text at else suc at) (ap (λ n. is_backtick (get_or text n 0)) (sym q) ∙ is)

-- so many bytes from an offset on are backticks, and the byte before them is none
pub before-run : (text : List ℕ) (at size : ℕ) → is_backtick (get_or text (at - 1) 0) ≡ false → ((i : ℕ) → i < size → is_backtick (get_or text (at + i) 0) ≡ true) → before_backticks text (at + size) ≡ at
before-run text at zero stop all = ap (before_backticks text) (let q : at + 0 ≡ at = omega arith in q) ∙ before-stop text at stop
before-run text at (suc size) stop all =
    ap (before_backticks text) (let q : at + suc size ≡ suc (at + size) = omega arith in q)
    ∙ ap (λ z. if z then before_backticks text (at + size) else suc (at + size)) (all size (omega arith))
    ∙ before-run text at size stop (λ i lt. all i (omega (arith, lt)))
