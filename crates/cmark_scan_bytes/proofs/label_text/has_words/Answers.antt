use Rattle.std.proofs.Common.{not, ap, ◌∙◌}
use Rattle.cmark_scan_bytes.proofs.Labels.{words_if_not_white}
use Rattle.cmark_scan_bytes.proofs.label_text.has_words.Goals as goal

pub returns : goal.returns
returns c = ap not c.is_white.ensures ∙ words_if_not_white c.args.bytes.now
