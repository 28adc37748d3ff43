-- The meaning of structs.
use Rattle.std.specs.Prelude.{◌≡◌, suc, length}
use Rattle.cmark_grammar.specs.InlineHtml.{OwnedTag}
use Rattle.cmark_values.specs.Shown.{text_bytes}
use Rattle.cmark_scan_bytes.specs.Shown.{Part}
use Rattle.cmark_scan.specs.declared.label.LinkLabelRest.{LinkLabelRest}
use Rattle.cmark_scan.specs.declared.owned.HtmlTag.{HtmlTag}

abbrev pub shown_tag : HtmlTag → OwnedTag
shown_tag tag = record { end = tag.end; buffer = tag.buffer.items }

abbrev pub shown_label : LinkLabelRest → Part
shown_label label = record { end = label.end; bytes = text_bytes label.text }

-- a label with all bytes up to its closing bracket, so that no byte is left out
abbrev pub IsWhole : LinkLabelRest → Type 0
IsWhole label = suc (length (text_bytes label.text)) ≡ label.end
