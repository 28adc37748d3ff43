-- The spans of a leaf, as a function of its parts.
use Rattle.std.specs.Prelude.{true, false, Some, None}
use Rattle.cmark_inline_model.specs.EmphasisModel.{spans_of}
use Rattle.cmark_grammar.specs.Options.{Options}
use Rattle.cmark_grammar.specs.Parts.{Parts, Nil as NoParts, Single as SinglePart, Form, Closing, Opening, Linking, Footnote, Wiki}
use Rattle.cmark_grammar.specs.Siblings.{Inline, Nil, Around, with_quotes, item_then, text_then, tag_by, footnote_then, wiki_tag, name_text, display_from}
use Rattle.cmark_inline_model.specs.RunSpans.{runs_from, dressed_all}

module _ (options : Options) where
  abbrev pub dress : Inline → Inline
  dress siblings = dressed_all options (with_quotes siblings) (spans_of (runs_from (with_quotes siblings) 0))

  abbrev pub siblings_of : Parts → Inline
  siblings_of NoParts = Nil
  siblings_of (SinglePart x after) = item_then x.kind x (siblings_of after)
  siblings_of (Form opener inside closer (Linking target) after) =
      Around (tag_by opener.is_image target.linked) opener.start target.end (dress (siblings_of inside)) (siblings_of after)
  siblings_of (Form opener inside closer (Footnote label end) after) = footnote_then opener.is_image opener.start label end (siblings_of after)
  siblings_of (Form opener inside closer (Wiki name None end) after) =
      Around (wiki_tag opener.is_image name false) opener.start end (name_text opener closer) (siblings_of after)
  siblings_of (Form opener inside closer (Wiki name (Some place) end) after) =
      Around (wiki_tag opener.is_image name true) opener.start end (dress (display_from place closer.start (siblings_of inside))) (siblings_of after)
  siblings_of (Closing closer after) = text_then closer (siblings_of after)
  siblings_of (Opening opener after) = text_then opener (siblings_of after)

  abbrev pub spans_in : Parts → Inline
  spans_in parts = dress (siblings_of parts)
