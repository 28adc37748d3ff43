-- Without an opening parenthesis, there is no inline link.
use Rattle.std.proofs.Common.{◌≡◌, ◌==◌, ℕ, List, [], ◌∷◌, false, if◌then◌else◌, None, Some, refl, ap}
use Rattle.cmark_grammar.specs.Letters.{and_then, first_is}
use Rattle.cmark_grammar.specs.LinkTails.{link_tail_in, tail_inside}

pub no_tail : (bs : List ℕ) → first_is (λ b. b == 40) bs ≡ false → link_tail_in bs ≡ None
no_tail [] e = refl
no_tail (b ∷ bs) e = ap (λ opens. and_then (if opens then Some bs else None) tail_inside) e
