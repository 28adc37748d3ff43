-- Another line, after the open leaf.
use Rattle.std.proofs.Common.{◌≡◌, ◌≢◌, ℕ, ◌≤◌, ◌==◌, Bool, true, false, not, ◌&&◌, ◌||◌, if◌then◌else◌, List, [], ◌∷◌, take, drop, length, map, Some, None, refl, sym, ap, subst, ◌∙◌, arith, true≢false}
use Rattle.std.proofs.lemmas.List.{drop_all}
use Rattle.cmark_grammar.specs.Answers.{Lookup}
use Rattle.cmark_grammar.specs.Containers.{Container}
use Rattle.cmark_grammar.specs.DefinitionLists.{begins_definition, is_definition}
use Rattle.cmark_grammar.specs.Leaves.{underlines}
use Rattle.cmark_grammar.specs.Openings.{interrupts, texts, lazily}
use Rattle.cmark_grammar.specs.Options.{Options}
use Rattle.cmark_grammar.specs.Lines.{lines}
use Rattle.cmark_grammar.specs.Rows.{Row, begin_of, rows_from}
use Rattle.cmark_grammar.specs.TableRows.{table_interrupts}
use Rattle.cmark_blocks.specs.TablesAhead.{block_interrupts}
use Rattle.cmark_grammar.specs.Tokens.{stretch_then}
use Rattle.cmark_grammar.specs.BlockDocument.{Nil}
use Rattle.cmark_line_rules.specs.Rests.{row_of}
use Rattle.cmark_line_rules.specs.declared.line_rest.LineRest.{LineRest}
use Rattle.cmark_line_rules.proofs.LazyRows.{whole-texts, lazily-is}
use Rattle.cmark_block_model.specs.BlockPass.{ahead_in, kept_by, leaf_fed, lazy_fed, begin, leaf_closed, close_leaf, heading_made, kept_lines, paragraph_line, paragraph_begun, underlined_or, line_with, line_fed, lines_fed, containers_closed, with_drawn, is_row, table_row}
use Rattle.cmark_block_model.specs.OpenBlocks as model
use Rattle.cmark_block_model.specs.OpenBlocks.{takes_lazy}
use Rattle.cmark_blocks.specs.declared.state.OpenLeaf.TheVariants as leaf
use Rattle.cmark_blocks.specs.declared.state.OpenContainer.{OpenContainer}
use Rattle.cmark_blocks.specs.declared.state.Pass.{Pass}
use Rattle.cmark_blocks.specs.Shown.{ShowsContainers}
use Rattle.cmark_blocks.specs.Ahead.{lines_at}
use Rattle.cmark_blocks.specs.LineByLine.{Feeds, FeedsSoFar, FeedsAll}
use Rattle.cmark_blocks.specs.Runs.{Runs, ShowsLeaf}
use Rattle.std.proofs.lemmas.Bool.{eq-eqb, ne_eqb}

module _ {E : Type 0} (replacement : E → Lookup) (text : List ℕ) (options : Options) (lookup : Lookup) (m : model.Pass) (pass : Pass E) (runs : Runs replacement text options lookup m pass) where
  pub in_paragraph : (from : ℕ) (last : LineRest) → pass.leaf ≡ leaf.Paragraph from last → m.leaf ≡ model.InParagraph (map row_of pass.blank_lines.items) from (row_of last)
  in_paragraph from last is = subst (λ l. ShowsLeaf text l pass.blank_lines.items m.leaf) is runs.leaf

  pub after_tag : pass.leaf ≡ leaf.AfterTag → m.leaf ≡ model.AfterTag
  after_tag is = (subst (λ l. ShowsLeaf text l pass.blank_lines.items m.leaf) is runs.leaf).0

  pub in_definition : (left : ℕ) → pass.leaf ≡ leaf.Definition left → m.leaf ≡ model.InDefinition left
  in_definition left is = (subst (λ l. ShowsLeaf text l pass.blank_lines.items m.leaf) is runs.leaf).0

  pub in_table : (columns left : ℕ) (has_delimiter : Bool) → pass.leaf ≡ leaf.Table columns left has_delimiter → m.leaf ≡ model.InTable columns left has_delimiter
  in_table columns left has_delimiter is = (subst (λ l. ShowsLeaf text l pass.blank_lines.items m.leaf) is runs.leaf).0

module _ (text : List ℕ) (options : Options) (lookup : Lookup) (r : Row) (m : model.Pass) where
  -- a line that touches the last one, or not
  pub line-touches : (before : List Row) (from : ℕ) (last : Row) → begin_of r ≡ last.line_end → paragraph_line text options lookup before from last r m ≡ record m { leaf = model.InParagraph (kept_lines options.heading_attributes before last) from r }
  line-touches before from last e =
      ap (λ z. if z then record m { leaf = model.InParagraph (kept_lines options.heading_attributes before last) from r } else record (with_drawn (stretch_then text from last.line_end Nil) m) { leaf = model.InParagraph (kept_lines options.heading_attributes before last) (begin_of r) r }) (eq-eqb (begin_of r) last.line_end e)

  pub line-apart : (before : List Row) (from : ℕ) (last : Row) → begin_of r ≢ last.line_end
      → paragraph_line text options lookup before from last r m ≡ record (with_drawn (stretch_then text from last.line_end Nil) m) { leaf = model.InParagraph (kept_lines options.heading_attributes before last) (begin_of r) r }
  line-apart before from last e =
      ap (λ z. if z then record m { leaf = model.InParagraph (kept_lines options.heading_attributes before last) from r } else record (with_drawn (stretch_then text from last.line_end Nil) m) { leaf = model.InParagraph (kept_lines options.heading_attributes before last) (begin_of r) r }) (ne_eqb (begin_of r) last.line_end e)

module _ (text : List ℕ) (options : Options) (lookup : Lookup) (r : Row) (next : List Row) (m : model.Pass) where
  -- after a paragraph
  pub feeds-underline : (before : List Row) (from : ℕ) (last : Row) (level : ℕ) → Some level ≡ underlines r → m.leaf ≡ model.InParagraph before from last → leaf_fed text options lookup m.leaf r next m ≡ heading_made text options lookup level before from last r m
  feeds-underline before from last level under is =
      ap (λ l. leaf_fed text options lookup l r next m) is
      ∙ ap (λ u. underlined_or text options lookup u (λ level. heading_made text options lookup level before from last r m) (if texts options r (ahead_in text options lookup m.outer next) then paragraph_line text options lookup before from last r m else begin text options lookup r next (leaf_closed text options lookup m))) (sym under)

  feeds-other : (before : List Row) (from : ℕ) (last : Row) (goes_on : Bool) → None ≡ underlines r → r.lazy ≡ false → not (interrupts options true r (ahead_in text options lookup m.outer next) || block_interrupts options r (ahead_in text options lookup m.outer next)) ≡ goes_on → m.leaf ≡ model.InParagraph before from last →
      leaf_fed text options lookup m.leaf r next m ≡ (if goes_on then paragraph_line text options lookup before from last r m else begin text options lookup r next (leaf_closed text options lookup m))
  feeds-other before from last goes_on under whole on is =
      ap (λ l. leaf_fed text options lookup l r next m) is
      ∙ ap (λ u. underlined_or text options lookup u (λ level. heading_made text options lookup level before from last r m) (if texts options r (ahead_in text options lookup m.outer next) then paragraph_line text options lookup before from last r m else begin text options lookup r next (leaf_closed text options lookup m))) (sym under)
      ∙ ap (λ t. if t then paragraph_line text options lookup before from last r m else begin text options lookup r next (leaf_closed text options lookup m)) (whole-texts options r (ahead_in text options lookup m.outer next) whole ∙ on)

  pub feeds-interrupted : (before : List Row) (from : ℕ) (last : Row) → None ≡ underlines r → r.lazy ≡ false → true ≡ (interrupts options true r (ahead_in text options lookup m.outer next) || block_interrupts options r (ahead_in text options lookup m.outer next)) → m.leaf ≡ model.InParagraph before from last →
      leaf_fed text options lookup m.leaf r next m ≡ begin text options lookup r next (leaf_closed text options lookup m)
  feeds-interrupted before from last under whole on is = feeds-other before from last false under whole (ap not (sym on)) is

  pub feeds-text : (before : List Row) (from : ℕ) (last : Row) → None ≡ underlines r → r.lazy ≡ false → false ≡ (interrupts options true r (ahead_in text options lookup m.outer next) || block_interrupts options r (ahead_in text options lookup m.outer next)) → m.leaf ≡ model.InParagraph before from last →
      leaf_fed text options lookup m.leaf r next m ≡ paragraph_line text options lookup before from last r m
  feeds-text before from last under whole on is = feeds-other before from last true under whole (ap not (sym on)) is

  feeds-table : (columns left : ℕ) (is_another : Bool) → m.leaf ≡ model.InTable columns left true → is_row options columns left r ≡ is_another
      → leaf_fed text options lookup m.leaf r next m ≡ (if is_another then table_row text options lookup columns left r m else begin text options lookup r next (leaf_closed text options lookup m))
  feeds-table columns left is_another is row =
      ap (λ l. leaf_fed text options lookup l r next m) is
      ∙ ap (λ z. if z then table_row text options lookup columns left r m else begin text options lookup r next (leaf_closed text options lookup m)) row

  pub feeds-row : (columns left : ℕ) → m.leaf ≡ model.InTable columns left true → is_row options columns left r ≡ true → leaf_fed text options lookup m.leaf r next m ≡ table_row text options lookup columns left r m
  feeds-row columns left is row = feeds-table columns left true is row

  -- lazy lines
  pub lazy-paragraph : (before : List Row) (from : ℕ) (last : Row) → m.leaf ≡ model.InParagraph before from last → lazy_fed text options lookup m.leaf r m ≡ paragraph_line text options lookup before from last r m
  lazy-paragraph before from last is = ap (λ l. lazy_fed text options lookup l r m) is

  pub lazy-definition : (left : ℕ) → m.leaf ≡ model.InDefinition left → lazy_fed text options lookup m.leaf r m ≡ paragraph_begun text options lookup r (leaf_closed text options lookup m)
  lazy-definition left is =
      ap (λ l. lazy_fed text options lookup l r m) is
      ∙ ap (λ l. paragraph_begun text options lookup r (close_leaf text options lookup l m)) (sym is)

  pub lazy-following : m.leaf ≡ model.AfterTag → lazy_fed text options lookup m.leaf r m ≡ paragraph_begun text options lookup r (leaf_closed text options lookup m)
  lazy-following is =
      ap (λ l. lazy_fed text options lookup l r m) is
      ∙ ap (λ l. paragraph_begun text options lookup r (close_leaf text options lookup l m)) (sym is)

  -- if some containers do not keep the line, or all do
  pub rest-kept : (k : ℕ) → drop k m.outer ≡ [] → line_with text options lookup (drop k m.outer) (take k m.outer) r next m ≡ leaf_fed text options lookup m.leaf r next m
  rest-kept k none = ap (λ cs. line_with text options lookup cs (take k m.outer) r next m) none

  missed : (k : ℕ) (c : model.OpenContainer) (cs : List model.OpenContainer) (on : Bool) → drop k m.outer ≡ c ∷ cs → (lazily options c.container r (ahead_in text options lookup (take k m.outer) next) && takes_lazy m.leaf) ≡ on →
      line_with text options lookup (drop k m.outer) (take k m.outer) r next m
      ≡ (if on then lazy_fed text options lookup m.leaf r m else begin text options lookup r next (containers_closed text options lookup (take k m.outer) (drop k m.outer) (leaf_closed text options lookup m)))
  missed k c cs on some is =
      ap (λ cs. line_with text options lookup cs (take k m.outer) r next m) some
      ∙ ap (λ t. if t then lazy_fed text options lookup m.leaf r m else begin text options lookup r next (containers_closed text options lookup (take k m.outer) (c ∷ cs) (leaf_closed text options lookup m))) is
      ∙ ap (λ cs. if on then lazy_fed text options lookup m.leaf r m else begin text options lookup r next (containers_closed text options lookup (take k m.outer) cs (leaf_closed text options lookup m))) (sym some)

  pub rest-lazy : (k : ℕ) (c : model.OpenContainer) (cs : List model.OpenContainer) → drop k m.outer ≡ c ∷ cs → (lazily options c.container r (ahead_in text options lookup (take k m.outer) next) && takes_lazy m.leaf) ≡ true →
      line_with text options lookup (drop k m.outer) (take k m.outer) r next m ≡ lazy_fed text options lookup m.leaf r m
  rest-lazy k c cs some is = missed k c cs true some is

  pub rest-ends : (k : ℕ) (c : model.OpenContainer) (cs : List model.OpenContainer) → drop k m.outer ≡ c ∷ cs → (lazily options c.container r (ahead_in text options lookup (take k m.outer) next) && takes_lazy m.leaf) ≡ false →
      line_with text options lookup (drop k m.outer) (take k m.outer) r next m
      ≡ begin text options lookup r next (containers_closed text options lookup (take k m.outer) (drop k m.outer) (leaf_closed text options lookup m))
  rest-ends k c cs some is = missed k c cs false some is

module _ (text : List ℕ) (options : Options) (lookup : Lookup) (m : model.Pass) where
  -- closing a leaf closes no container
  pub closed-outer : (l : model.OpenLeaf) → (close_leaf text options lookup l m).outer ≡ m.outer
  closed-outer model.Closed = refl
  closed-outer model.AfterTag = refl
  closed-outer (model.InParagraph before from last) = refl
  closed-outer (model.InDefinition left) = refl
  closed-outer (model.InTable columns left has_delimiter) = refl
  closed-outer (model.InIndented waits end blank) = refl
  closed-outer (model.InFenced fence waits) = refl
  closed-outer (model.InHtml kind) = refl
  closed-outer (model.InMetadata kind waits) = refl

-- the lines of a text from a place on
pub first-line : (T text : List ℕ) (start place : ℕ) (r : Row) → T ≡ text → start ≡ place → lines_at T start ≡ r ∷ lines_at T r.line_end → lines_at text place ≡ r ∷ lines_at text r.line_end
first-line T text start place r is at first =
    subst (λ p. lines_at text p ≡ r ∷ lines_at text r.line_end) at (subst (λ t. lines_at t start ≡ r ∷ lines_at t r.line_end) is first)

pub no-lines : (text : List ℕ) (place : ℕ) → length text ≤ place → lines_at text place ≡ []
no-lines text place le = ap (λ (l : List ℕ). rows_from place (lines l)) (drop_all place text le)

module _ {E : Type 0} (replacement : E → Lookup) (old : Pass E) where
  pub feeds-start : FeedsSoFar replacement old old
  feeds-start text options lookup m runs = (m, runs, refl)

  pub feeds-step : (line : LineRest) (T : List ℕ) (mid new : Pass E) → FeedsSoFar replacement old mid → Feeds replacement line mid new → T ≡ mid.text.now →
      lines_at T mid.line_end ≡ row_of line ∷ lines_at T (row_of line).line_end → FeedsSoFar replacement old new
  feeds-step line T mid new so_far feeds is first text options lookup m runs =
      let before = so_far text options lookup m runs in
      let r = row_of line in
      let there = first-line T text mid.line_end before.0.line_end r (is ∙ before.1.text_is) before.1.line_end first in (
        line_fed text options lookup r (lines_at text r.line_end) before.0,
        feeds text options lookup before.0 before.1,
        before.2 ∙ ap (λ (rs : List Row). lines_fed text options lookup rs before.0) there,
      )

  pub feeds-end : (mid : Pass E) → FeedsSoFar replacement old mid → length mid.text.now ≤ mid.line_end → FeedsAll replacement old mid
  feeds-end mid so_far end text options lookup m runs =
      let before = so_far text options lookup m runs in
      let over : length text ≤ before.0.line_end = omega (arith, end, before.1.line_end, ap length before.1.text_is) in
      subst (λ p. Runs replacement text options lookup p mid) (sym (before.2 ∙ ap (λ (rs : List Row). lines_fed text options lookup rs before.0) (no-lines text before.0.line_end over))) before.1

-- outside of containers
pub is-zero : (n : ℕ) → (n == 0) ≡ true → n ≡ 0
is-zero n e = grind (arith)

shows-none : (cs : List OpenContainer) (ms : List model.OpenContainer) → length cs ≡ 0 → ShowsContainers cs ms → ms ≡ []
shows-none [] [] e s = refl
shows-none [] (m ∷ ms) e s = absurd s
shows-none (c ∷ cs) ms e s = absurd (omega (arith, e))

pub fed-outside : (text : List ℕ) (options : Options) (lookup : Lookup) (r : Row) (next : List Row) (m : model.Pass) (cs : List OpenContainer) → length cs ≡ 0 → ShowsContainers cs m.outer →
    record (leaf_fed text options lookup m.leaf r next (record m { bare = false })) { line_end = r.line_end } ≡ line_fed text options lookup r next m
fed-outside text options lookup r next m cs none shows =
    ap (λ outer. let w = kept_by text options lookup [] outer m.bare r in let q = line_with text options lookup w.missed w.kept w.left next (record m { bare = false }) in record q { line_end = r.line_end })
    (sym (shows-none cs m.outer none shows))

-- a line that some containers do not keep continues a paragraph unless it, or a table that it begins, interrupts it
module _ (options : Options) (k : Container) (r : Row) (ahead : List Row) (takes : Bool) where
  regrouped : (i t d : Bool) → (not (i || (t || d)) && takes) ≡ ((takes && (not i && not d)) && not t)
  regrouped i t d = go i t d takes
    where
      go : (i t d z : Bool) → (not (i || (t || d)) && z) ≡ ((z && (not i && not d)) && not t)
      go true t d true = refl
      go true t d false = refl
      go false true true true = refl
      go false true false true = refl
      go false false true true = refl
      go false false false true = refl
      go false true d false = refl
      go false false true false = refl
      go false false false false = refl

  pub lazily-may : (interrupting another : Bool) → interrupting ≡ interrupts options false r ahead → another ≡ (is_definition k && begins_definition options r) →
      (lazily options k r ahead && takes) ≡ ((takes && (not interrupting && not another)) && not (table_interrupts options r ahead))
  lazily-may interrupting another e f =
      ap (λ z. z && takes) (lazily-is options r ahead k)
      ∙ ap (λ z. not (z || (table_interrupts options r ahead || (is_definition k && begins_definition options r))) && takes) (sym e)
      ∙ ap (λ z. not (interrupting || (table_interrupts options r ahead || z)) && takes) (sym f)
      ∙ regrouped interrupting (table_interrupts options r ahead) another

pub is-not : (a b : Bool) → not a ≡ b → a ≡ not b
is-not true true e = absurd (true≢false (sym e))
is-not true false e = refl
is-not false true e = refl
is-not false false e = absurd (true≢false e)

pub or-first : (a b : Bool) → a ≡ true → true ≡ (a || b)
or-first true b e = refl
or-first false b e = absurd (true≢false (sym e))

pub or-second : (a b z : Bool) → a ≡ false → z ≡ b → z ≡ (a || b)
or-second true b z e f = absurd (true≢false e)
or-second false b z e f = f

pub or-last : (a b : Bool) → b ≡ true → true ≡ (a || b)
or-last true b e = refl
or-last false b e = sym e
