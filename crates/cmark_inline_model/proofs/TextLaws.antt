-- Each text has a reading with the answers of a plan.
use Rattle.std.proofs.Common.{ℕ, List, [], length, refl, arith}
use Rattle.cmark_block_model.specs.BlocksModel.{blocks}
use Rattle.cmark_grammar.specs.Derivation.{Derives}
use Rattle.cmark_block_model.specs.DocumentModel.{document}
use Rattle.cmark_grammar.specs.Event.{Ranged}
use Rattle.cmark_grammar.specs.Questions.{Exchange, Plan}
use Rattle.cmark_grammar.specs.SpanDocuments.{Profile, reader_of, segments, IsReading}
use Rattle.cmark_block_model.proofs.BlocksSound.{blocks-body}
use Rattle.cmark_block_model.proofs.RangeLaws.{derived-order}
use Rattle.cmark_inline_model.specs.PlannedAnswers.{AreByPlan}
use Rattle.cmark_inline_model.proofs.DocumentLeaves.{segments-turn}
use Rattle.cmark_inline_model.proofs.PlannedReadings.{left-planned}

pub text-planned : (text : List ℕ) (profile : Profile) (plan : Plan) → (exchanges : List Exchange) × (events : List Ranged) × AreByPlan plan [] exchanges × IsReading text profile exchanges events
text-planned text profile plan =
    let d = document text profile.options profile.lookup in
    let derives : Derives text profile.options profile.lookup d = (blocks profile.options text, blocks-body profile.options text, refl) in
    let turn = segments-turn (length text) 0 d (length text) (omega arith) (derived-order text profile.options profile.lookup d derives) in
    let l = left-planned (reader_of text profile d) (segments d) profile.reference_expansion_limit plan turn in
    (l.0, l.1, l.2, record { document = d; after = l.3.after; derives = derives; reads = l.3.reads; asked = l.3.asked })
