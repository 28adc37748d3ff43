-- Answers given by a plan.
use Rattle.std.specs.Prelude.{◌≡◌, List, [], ◌∷◌, ◌++◌}
use Rattle.cmark_grammar.specs.Questions.{Exchange, Plan}

-- after these questions and answers each of the others was answered as the plan says
abbrev pub AreByPlan : Plan → (before : List Exchange) → List Exchange → Type 0
AreByPlan plan before [] = Unit {0}
AreByPlan plan before (x ∷ xs) = (x.answer ≡ plan before x.question) × AreByPlan plan (before ++ (x ∷ [])) xs
