use Rattle.std.specs.Prelude.{reverse, chars}
use Rattle.std.proofs.Common.{◌≡◌, ℕ, ◌-◌, List, length, take, sym, ap, ◌∙◌, rules, arith}
use Rattle.std.specs.Char.{IsScalar}
use Rattle.cmark_grammar.specs.InlineTokens.{first_of}
use Rattle.cmark_inline.proofs.Characters.{last-of, none-of}
use Rattle.cmark_inline.proofs.place.character_before.Goals as goal

pub returns-in-Some : goal.returns-in-Some
returns-in-Some c =
    let cut : c.range.result.now ≡ take c.args.at c.args.text.now = c.range.ensures.value ∙ ap (λ (n : ℕ). take n c.args.text.now) (let q : c.args.at - 0 ≡ c.args.at = omega arith in q) in
    let value = rw c.in-Some.is at c.next_back.type_inv in
    let is : IsScalar c.in-Some.character = search rules in
    last-of c.range.result.now c.next_back.new.self.rest.now c.in-Some.character c.range.utf8 is (sym c.chars.ensures.rest ∙ c.in-Some.ensures.steps) ∙ ap (λ (bs : List ℕ). first_of (reverse (chars bs))) cut

pub returns-in-None : goal.returns-in-None
returns-in-None c =
    let cut : c.range.result.now ≡ take c.args.at c.args.text.now = c.range.ensures.value ∙ ap (λ (n : ℕ). take n c.args.text.now) (let q : c.args.at - 0 ≡ c.args.at = omega arith in q) in
    none-of c.range.result.now (ap length (sym c.chars.ensures.rest) ∙ c.in-None.ensures.steps.0) ∙ ap (λ (bs : List ℕ). first_of (reverse (chars bs))) cut
