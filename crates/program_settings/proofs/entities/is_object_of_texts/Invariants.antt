use Rattle.std.proofs.Common.{◌≡◌}
use Rattle.serde_json.specs.View.{view}
use Rattle.program_settings.specs.Entities.{holds_texts}
use Rattle.program_settings.proofs.EntitySteps.{all_texts}
use Rattle.program_settings.proofs.entities.is_object_of_texts.Given as goal

-- all values are texts exactly if the remaining ones are
abbrev pub invariant-loop-member : goal.invariant-loop-member
invariant-loop-member l = holds_texts (view l.value) ≡ all_texts l.member-iterator
