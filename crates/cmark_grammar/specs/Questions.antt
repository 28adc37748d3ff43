-- The questions about references whose label no definition has, and their answers (this profile's own). Example: if no definition has the
-- label `b`, the callback is asked about `[a][b]`.
use Rattle.std.specs.Prelude.{◌≡◌, ℕ, List, ◌∷◌, ◌++◌, Option}
use Rattle.cmark_grammar.specs.Answers.{Destination}
use Rattle.cmark_grammar.specs.LinkType.{LinkType}

-- the range of the reference in the source, its written form, and its label's normal form
pub record Question : Type 0 where
  pub start : ℕ
  pub end : ℕ
  pub link_type : LinkType
  pub reference : List ℕ

-- a question with its answer
pub record Exchange : Type 0 where
  pub question : Question
  pub answer : Option Destination

-- the answers that a question may get after the questions before it
abbrev pub Saying : Type 1
Saying = List Exchange → Question → Option Destination → Type 0

-- an answer for each question, after the questions before it
abbrev pub Plan : Type 0
Plan = List Exchange → Question → Option Destination

-- the answer is the plan's
abbrev pub ByPlan : Plan → Saying
ByPlan plan asked question answer = answer ≡ plan asked question

-- the answers are those of a list, in order
pub record IsNext (all : List Exchange) (asked : List Exchange) (question : Question) (answer : Option Destination) : Type 0 where
  pub rest : List Exchange
  pub cut : all ≡ asked ++ (record { question = question; answer = answer } ∷ rest)

-- any answer may be given
abbrev pub AnyAnswer : Saying
AnyAnswer asked question answer = Unit {0}
