-- The law of a text that grows, if the answers are those of a plan.
use Rattle.std.proofs.Common.{◌≡◌, ℕ, List, [], ◌∷◌, ◌++◌, sym, ap, ◌∙◌, subst, append_assoc, append-nil, Option, arith}
use Rattle.cmark_grammar.specs.Answers.{Destination}
use Rattle.cmark_block_model.specs.DocumentModel.{document}
use Rattle.cmark_grammar.specs.Event.{Ranged}
use Rattle.cmark_grammar.specs.Questions.{Exchange, Question, Plan, ByPlan, IsNext}
use Rattle.cmark_grammar.specs.SpanDocuments.{Profile, segments, IsReading}
use Rattle.cmark_inline_model.specs.PlannedAnswers.{AreByPlan}
use Rattle.cmark_inline_model.proofs.GivenAnswers.{all-wider, all-one}
use Rattle.cmark_stream_model.specs.Continued.{AskAlike, definitions_of, footnotes_of}
use Rattle.cmark_stream_model.specs.Growth.{IsJoined}
use Rattle.cmark_stream_model.proofs.JoinedReadings.{reading-grow}
use Rattle.cmark_stream_model.proofs.SettledReadings.{documents-stay, events-stay}

module _ (plan : Plan) where
  -- the answer to a question after others is the answer of the plan
  planned-at : (before asked rest : List Exchange) (x : Exchange) → AreByPlan plan before (asked ++ (x ∷ rest)) → x.answer ≡ plan (before ++ asked) x.question
  planned-at before [] rest x h = h.0 ∙ ap (λ l. plan l x.question) (sym (append-nil before))
  planned-at before (y ∷ asked) rest x h = planned-at (before ++ (y ∷ [])) asked rest x h.1 ∙ ap (λ l. plan l x.question) (append_assoc before (y ∷ []) asked)

  planned-next : (all : List Exchange) → AreByPlan plan [] all → (asked : List Exchange) (question : Question) (answer : Option Destination) → IsNext all asked question answer → ByPlan plan asked question answer
  planned-next all h asked question answer n = planned-at [] asked n.rest (record { question = question; answer = answer }) (subst (AreByPlan plan []) n.cut h)

  pub readings-share-planned : (profile : Profile) (front one other : List ℕ) (asked others_asked : List Exchange) (first second : List Ranged)
      → IsJoined profile.options profile.lookup front one → IsJoined profile.options profile.lookup front other
      → AreByPlan plan [] asked → AreByPlan plan [] others_asked
      → (h : IsReading (front ++ one) profile asked first) → (k : IsReading (front ++ other) profile others_asked second)
      → AskAlike profile (front ++ one) (definitions_of h.document) (definitions_of k.document) (footnotes_of h.document) (footnotes_of k.document) (segments (document front profile.options profile.lookup))
      → (settled later others : List Ranged) × (first ≡ settled ++ later) × (second ≡ settled ++ others)
  readings-share-planned profile front one other asked others_asked first second e1 e2 p q h k alike = grind (arith, reading-grow, all-wider, planned-next, documents-stay, events-stay, all-one)
