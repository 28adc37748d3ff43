use Rattle.std.proofs.Common.{◌≡◌, ◌∙◌, rules, sym, ap}
use Rattle.std.specs.BTreeMap.{values}
use Rattle.serde_json.specs.View.{view}
use Rattle.program_settings.proofs.EntitySteps.{all_texts, texts_of}
use Rattle.program_settings.proofs.entities.is_object_of_texts.Goals as goal

pub loop-member-init : goal.loop-member-init
loop-member-init c =
    let all : c.into_iter-member-iterator.result ≡ values c.in-Some.members.now = search rules in
    texts_of (view c.args.value.now) c.in-Some.members.now.entries c.in-Some.ensures ∙ ap all_texts (sym all)
