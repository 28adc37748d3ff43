use Rattle.std.proofs.Common.{◌≡◌, ◌+◌, ◌-◌, [], ◌∷◌, ◌++◌, ◌∙◌, ℕ, List, ap, length, length-append, refl, rules, sym, subst}
use Rattle.cmark_grammar.specs.Tokens.{slice}
use Rattle.cmark_leaf_text.specs.Stretches.{AreLines, IsOpen, PlacesMore, joined, end_in_leaf}
use Rattle.cmark_leaf_text.specs.declared.stretch.LeafLine.{LeafLine}
use Rattle.cmark_leaf_text.specs.declared.stretch.Stretch.{Stretch}
use Rattle.cmark_leaf_text.proofs.PlaceSteps.{begin-lines, stand-more}
use Rattle.cmark_leaf_text.proofs.StretchSteps.{line-bytes, line-part, lines-following, slice-length}
use Rattle.cmark_leaf_text.proofs.leaf_text.LeafText.push_lines.Goals as goal

pub loop-line-init : goal.loop-line-init
loop-line-init c =
    let b = begin-lines c.args.self.now.source.now c.args.lines.now c.args.self.now.stretches.items c.requires.none c.in-len1-up.len_at_least c.requires.lines in
    record { source = refl; lines = b.are; now = b.now; text = b.text; places = b.places }

pub loop-line-preserved : goal.loop-line-preserved
loop-line-preserved c =
    let source : List ℕ = c.args.self.now.source.now in
    let i = c.loop-line.invariant in
    let rest : List LeafLine = c.loop-line.rest.now in
    let line = c.in-Some.line.now in
    let others = c.in-Some.others.now in
    let next = c.in_ok-opened.opened in
    let old : List Stretch = c.loop-line.self.stretches.items ++ (c.loop-line.opened ∷ []) in
    let new : List Stretch = c.push_part.new.self.stretches.items ++ (next ∷ []) in
    let content_end = end_in_leaf line others in
    let is : rest ≡ line ∷ others = search rules in
    let are : AreLines source c.loop-line.opened.end (line ∷ others) = subst (AreLines source c.loop-line.opened.end) is i.lines in
    let h = c.in_ok-opened.ensures in
    let told : joined source new ≡ joined source old ++ slice source line.start content_end =
    subst (λ (n : ℕ). joined source new ≡ joined source old ++ slice source line.start n) c.end_in_leaf.ensures (subst (λ (t : List ℕ). joined t new ≡ joined t old ++ slice t line.start c.end_in_leaf.result) i.source h.text) in
    let more : PlacesMore source old line.start (content_end - line.start) new =
    subst (λ (n : ℕ). PlacesMore source old line.start (n - line.start) new) c.end_in_leaf.ensures (subst (λ (t : List ℕ). PlacesMore t old line.start (c.end_in_leaf.result - line.start) new) i.source h.places) in
    record {
      source = h.source ∙ i.source;
      lines = subst (λ (n : ℕ). AreLines source n others) (sym (h.end ∙ c.end_in_leaf.ensures)) (lines-following source c.loop-line.opened.end line others are);
      now = subst (λ (t : List ℕ). IsOpen t c.push_part.new.self.stretches.items next) i.source h.«open»;
      text = line-bytes source (joined source old) c.args.lines.now rest line others (joined source new) is i.text told;
      places = stand-more source c.args.lines.now rest others line old new is i.places more
          (ap length told ∙ length-append (joined source old) (slice source line.start content_end) ∙ ap (λ n. length (joined source old) + n) (slice-length source line.start content_end (line-part source c.loop-line.opened.end line others are).within));
    }
