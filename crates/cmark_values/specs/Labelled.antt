-- The two texts of a label: its normal form, and the text by which it is compared.
use Rattle.std.specs.Prelude.{ℕ, List, string_bytes}
use Rattle.cmark_grammar.specs.Labels.{case_folded}
use Rattle.cmark_values.specs.declared.label.LinkLabel.{LinkLabel}
use Rattle.cmark_values.specs.declared.label.FootnoteLabel.{FootnoteLabel}

abbrev pub link_text : LinkLabel → List ℕ
link_text label = string_bytes label.link.text

abbrev pub link_key : LinkLabel → List ℕ
link_key label = case_folded (string_bytes label.link.text)

abbrev pub footnote_text : FootnoteLabel → List ℕ
footnote_text label = string_bytes label.footnote.text

abbrev pub footnote_key : FootnoteLabel → List ℕ
footnote_key label = case_folded (string_bytes label.footnote.text)
