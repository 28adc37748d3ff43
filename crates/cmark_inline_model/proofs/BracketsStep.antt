-- Steps preserve the reading of a pass, whatever the answers are.
use Rattle.std.proofs.Common.{ℕ, arith}
use Rattle.cmark_grammar.specs.BracketReading.{Reads}
use Rattle.cmark_grammar.specs.BracketStates.{State, Decision}
use Rattle.cmark_grammar.specs.Items.{Bracket, Token}
use Rattle.cmark_grammar.specs.Questions.{Saying}
use Rattle.cmark_inline_model.specs.BracketPass.{Pass}
use Rattle.cmark_inline_model.specs.PassSteps.{Steps}
use Rattle.cmark_inline_model.proofs.BracketsSound.{joined, results}

module _ (token : ℕ → Token) (decide : State → (closer : Bracket) → Decision) (Says : Saying) where
  pub steps-hold : (start : State) (p q : Pass) → Reads token decide Says start p.here p.state → Steps token decide Says p q → Reads token decide Says start q.here q.state
  steps-hold start p q h k = grind (arith, joined, results)
