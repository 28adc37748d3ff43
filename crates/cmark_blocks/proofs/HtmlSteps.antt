-- Further lines of HTML in the block pass.
use Rattle.std.proofs.Common.{◌≡◌, ◌≢◌, ℕ, List, refl, sym, ap, ◌∙◌}
use Rattle.cmark_grammar.specs.Answers.{Lookup}
use Rattle.cmark_grammar.specs.Options.{Options}
use Rattle.cmark_grammar.specs.Rows.{Row}
use Rattle.cmark_grammar.specs.HtmlBlocks.{html_continuation}
use Rattle.cmark_line_rules.specs.Continuations.{shown_continuation}
use Rattle.cmark_line_rules.specs.declared.continuation.Continuation.{Continuation}
use Rattle.cmark_line_rules.specs.declared.continuation.Continuation.TheVariants.{GoesOn, Closes, Waits, Stops}
use Rattle.cmark_block_model.specs.BlockPass.{leaf_fed, leaf_closed, html_goes_on, html_line, node_closed, begin}
use Rattle.cmark_block_model.specs.OpenBlocks as model

module _ (text : List ℕ) (options : Options) (lookup : Lookup) (kind : ℕ) (r : Row) (next : List Row) (m : model.Pass)
    (x : Continuation) (is : m.leaf ≡ model.InHtml kind) (continuation : shown_continuation x ≡ html_continuation kind r) where
  html-fed : (y : Continuation) → x ≡ y → leaf_fed text options lookup m.leaf r next m ≡ html_goes_on text options lookup (shown_continuation y) r next m
  html-fed y e = ap (λ l. leaf_fed text options lookup l r next m) is ∙ ap (λ f. html_goes_on text options lookup f r next m) (sym continuation ∙ ap shown_continuation e)

  pub html-goes-on : x ≢ Stops → x ≢ Closes → leaf_fed text options lookup m.leaf r next m ≡ html_line text options lookup r m
  html-goes-on not_stops not_closes = go x refl
    where
      go : (y : Continuation) → x ≡ y → leaf_fed text options lookup m.leaf r next m ≡ html_line text options lookup r m
      go GoesOn e = html-fed GoesOn e
      go Closes e = absurd (not_closes e)
      go Waits e = html-fed Waits e
      go Stops e = absurd (not_stops e)

  pub html-closes : x ≡ Closes → leaf_fed text options lookup m.leaf r next m ≡ node_closed r.line_end (html_line text options lookup r m)
  html-closes e = html-fed Closes e

  pub html-stops : x ≡ Stops → leaf_fed text options lookup m.leaf r next m ≡ begin text options lookup r next (leaf_closed text options lookup m)
  html-stops e = html-fed Stops e
