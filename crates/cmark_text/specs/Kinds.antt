-- The events that hold a text and nothing else, and the tags of elements with a destination.
use Rattle.std.specs.Prelude.{ℕ, List}
use Rattle.cmark_grammar.specs.Event as event
use Rattle.cmark_grammar.specs.Tag as tag
use Rattle.cmark_text.specs.declared.copies.LinkKind.{LinkKind}
use Rattle.cmark_text.specs.declared.copies.LinkKind.TheVariants as link
use Rattle.cmark_text.specs.declared.copies.TextKind.{TextKind}
use Rattle.cmark_text.specs.declared.copies.TextKind.TheVariants as text

abbrev pub shown_text : TextKind → List ℕ → event.Event
shown_text text.Text bytes = event.Text bytes
shown_text text.Code bytes = event.Code bytes
shown_text text.InlineMath bytes = event.InlineMath bytes
shown_text text.DisplayMath bytes = event.DisplayMath bytes
shown_text text.Html bytes = event.Html bytes
shown_text text.InlineHtml bytes = event.InlineHtml bytes
shown_text text.FootnoteReference bytes = event.FootnoteReference bytes

abbrev pub shown_link_tag : LinkKind → tag.Linked → tag.Tag
shown_link_tag link.Link linked = tag.Link linked
shown_link_tag link.Image linked = tag.Image linked
