use Rattle.std.proofs.Common.{◌++◌, ap, ◌∙◌, string_bytes}
use Rattle.cmark_text.specs.Shown.{shown}
use Rattle.cmark_json.specs.Lines.{line_around}
use Rattle.cmark_json.proofs.PlainData.{event-plain}
use Rattle.serde_json.specs.Written.{compact_text, has_float}
use Rattle.cmark_json.proofs.line.append_line.Goals as goal

pub returns : goal.returns
returns c =
    let plain = ap has_float c.in_ok-event_value.ensures ∙ event-plain (shown c.args.event.now) in
    let text = c.in_ok-json.ensures.text plain ∙ ap compact_text c.in_ok-event_value.ensures in
    c.in_ok-append_around.ensures
    ∙ ap (λ t. string_bytes c.args.out.now ++ line_around c.args.range.now.start c.args.range.now.end t) (c.as_str.ensures.value ∙ text)
