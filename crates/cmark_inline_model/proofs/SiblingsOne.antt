-- The parts of a text have exactly one list of spans, that of the model.
use Rattle.std.proofs.Common.{◌≡◌, false, refl, sym, ap, ◌∙◌, Some, None, arith}
use Rattle.cmark_inline_model.specs.EmphasisModel.{pairs_of, spans_of}
use Rattle.cmark_grammar.specs.Options.{Options}
use Rattle.cmark_grammar.specs.Parts.{Parts, Nil as NoParts, Single as SinglePart, Form, Closing, Opening, Linking, Footnote, Wiki}
use Rattle.cmark_grammar.specs.Siblings.{Inline, Around, with_quotes, item_then, text_then, footnote_then, wiki_tag, name_text, display_from, AreSiblings, AreSpans, IsDressed, siblings_from, one_by_one, with_spans}
use Rattle.cmark_inline_model.specs.SiblingsModel.{dress, siblings_of, spans_in}
use Rattle.cmark_inline_model.proofs.EmphasisSound.{sound}
use Rattle.cmark_inline_model.proofs.EmphasisOne.{one}
use Rattle.cmark_inline_model.proofs.SpanPlacing.{spans-placed}

module _ (options : Options) where
  pub dress-sound : (siblings : Inline) → IsDressed options siblings (dress options siblings)
  dress-sound siblings = record {
    pairs = pairs_of (siblings_from (with_quotes siblings) 0);
    spans_are = spans_of (siblings_from (with_quotes siblings) 0);
    emphasis = sound (siblings_from (with_quotes siblings) 0);
    result_is = sym (spans-placed options (with_quotes siblings));
  }

  pub dress-one : (siblings result : Inline) → IsDressed options siblings result → result ≡ dress options siblings
  dress-one siblings result h =
      h.result_is
      ∙ ap (with_spans options (one_by_one (with_quotes siblings))) (one (siblings_from (with_quotes siblings) 0) h.pairs h.spans_are h.emphasis).1
      ∙ spans-placed options (with_quotes siblings)

  pub siblings-sound : (parts : Parts) → AreSiblings options parts (siblings_of options parts)
  siblings-sound NoParts = refl
  siblings-sound (SinglePart x after) = (siblings_of options after, siblings-sound after, refl)
  siblings-sound (Form opener inside closer (Linking target) after) =
      (siblings_of options inside, dress options (siblings_of options inside), siblings_of options after, siblings-sound inside, dress-sound (siblings_of options inside), siblings-sound after, refl)
  siblings-sound (Form opener inside closer (Footnote label end) after) = (siblings_of options after, siblings-sound after, refl)
  siblings-sound (Form opener inside closer (Wiki name None end) after) = (siblings_of options after, siblings-sound after, refl)
  siblings-sound (Form opener inside closer (Wiki name (Some place) end) after) = grind (arith, dress-sound, siblings-sound inside, siblings-sound after)
  siblings-sound (Closing closer after) = (siblings_of options after, siblings-sound after, refl)
  siblings-sound (Opening opener after) = (siblings_of options after, siblings-sound after, refl)

  pub siblings-one : (parts : Parts) (siblings : Inline) → AreSiblings options parts siblings → siblings ≡ siblings_of options parts
  siblings-one NoParts siblings h = h
  siblings-one (SinglePart x after) siblings h = h.2 ∙ ap (item_then x.kind x) (siblings-one after h.0 h.1)
  siblings-one (Form opener inside closer (Linking target) after) siblings h = cc (dress-one h.0 h.1 h.4, siblings-one inside h.0 h.3, siblings-one after h.2 h.5)
  siblings-one (Form opener inside closer (Footnote label end) after) siblings h = h.2 ∙ ap (footnote_then opener.is_image opener.start label end) (siblings-one after h.0 h.1)
  siblings-one (Form opener inside closer (Wiki name None end) after) siblings h =
      h.2 ∙ ap (Around (wiki_tag opener.is_image name false) opener.start end (name_text opener closer)) (siblings-one after h.0 h.1)
  siblings-one (Form opener inside closer (Wiki name (Some place) end) after) siblings h = cc (dress-one (display_from place closer.start h.0) h.1 h.4, siblings-one inside h.0 h.3, siblings-one after h.2 h.5)
  siblings-one (Closing closer after) siblings h = h.2 ∙ ap (text_then closer) (siblings-one after h.0 h.1)
  siblings-one (Opening opener after) siblings h = h.2 ∙ ap (text_then opener) (siblings-one after h.0 h.1)

  pub spans-sound : (parts : Parts) → AreSpans options parts (spans_in options parts)
  spans-sound parts = record { siblings = siblings_of options parts; are = siblings-sound parts; dressed_so = dress-sound (siblings_of options parts) }

  pub spans-one : (parts : Parts) (spans : Inline) → AreSpans options parts spans → spans ≡ spans_in options parts
  spans-one parts spans h = dress-one h.siblings spans h.dressed_so ∙ ap (dress options) (siblings-one parts h.siblings h.are)
