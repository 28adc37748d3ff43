-- Link reference definitions that begin.
use Rattle.std.proofs.Common.{◌≡◌, ℕ, zero, suc, ◌+◌, ◌-◌, ◌<◌, ◌≤◌, Bool, true, false, ◌&&◌, List, [], ◌∷◌, ◌++◌, Option, Some, None, option_map, length, map, take, refl, sym, ap, ◌∙◌, subst, arith, append-nil, length-append, true≢false}
use Rattle.std.specs.Prelude.{string_bytes}
use Rattle.cmark_grammar.specs.Answers.{Lookup}
use Rattle.cmark_grammar.specs.BlockDocument.{Reference}
use Rattle.cmark_grammar.specs.Containers.{Container}
use Rattle.cmark_grammar.specs.Derivation.{last_content_end}
use Rattle.cmark_grammar.specs.Labels.{fold}
use Rattle.cmark_grammar.specs.Leaves.{underlines}
use Rattle.cmark_grammar.specs.LinkDefinitions.{Defined, definition_in, further_bytes, bytes_over, line_ends}
use Rattle.cmark_grammar.specs.Openings.{is_none, put_if, texts, text_lines, defined_if, table_if, or_else}
use Rattle.cmark_grammar.specs.TableRows.{table_head}
use Rattle.cmark_grammar.specs.Options.{Options}
use Rattle.cmark_grammar.specs.References.{first_with}
use Rattle.cmark_grammar.specs.Rows.{Row, start_of}
use Rattle.cmark_tree.specs.Building.{IsPlaced}
use Rattle.cmark_items.specs.ItemNodes.{shown_forest}
use Rattle.cmark_items.specs.Tables.{Tables}
use Rattle.cmark_builder.specs.Drawn.{shown_open}
use Rattle.cmark_blocks.specs.Footnotes.{HasLabels}
use Rattle.cmark_references.specs.Definitions.{reference_at}
use Rattle.cmark_link_definitions.specs.Settled.{defined_before}
use Rattle.cmark_line_rules.specs.Opened.{bracket_of}
use Rattle.cmark_line_rules.specs.Rests.{row_of}
use Rattle.cmark_line_rules.specs.declared.line_rest.LineRest.{LineRest}
use Rattle.cmark_block_model.specs.BlockPass.{begin_as}
use Rattle.cmark_block_model.specs.OpenBlocks as model
use Rattle.cmark_blocks.specs.declared.state.Pass.{Pass}
use Rattle.cmark_blocks.specs.declared.gathered.Gathered.{Gathered}
use Rattle.cmark_blocks.specs.LinkDefinitions.{definition_begun}
use Rattle.cmark_blocks.specs.Gathered.{texts_at, Holds, Gathers, GathersMore, IsWhole}
use Rattle.cmark_blocks.proofs.GatherSteps.{bytes-split}
use Rattle.cmark_blocks.proofs.LineFeeds.{texts-end, ends-following}
use Rattle.cmark_blocks.specs.Runs.{State, RunsIn}

-- the lines that continue a paragraph are the first of those ahead
take-texts : (options : Options) (ahead : List Row) (n : ℕ) → n ≤ length (text_lines options ahead) → take n (text_lines options ahead) ≡ take n ahead
take-texts options [] n le = refl
take-texts options (r ∷ ahead) n le = go (texts options r ahead && is_none (underlines r)) n le (take-texts options ahead)
  where
    go : (z : Bool) (n : ℕ) → n ≤ length (put_if z r (text_lines options ahead)) → ((k : ℕ) → k ≤ length (text_lines options ahead) → take k (text_lines options ahead) ≡ take k ahead) →
        take n (put_if z r (text_lines options ahead)) ≡ take n (r ∷ ahead)
    go z zero le ih = refl
    go true (suc n) le ih = ap (λ rs. r ∷ rs) (ih n (omega (arith, le)))
    go false (suc n) le ih = absurd (omega (arith, le))

module _ (text : List ℕ) (options : Options) (lookup : Lookup) (m : model.Pass) (inside : Container → model.Pass) (r : Row) (ahead : List Row) (bare : Bool) where
  -- a definition at the beginning of the paragraph's text
  pub begins-definition : (found : Defined) (start content_end more : ℕ) → Some found ≡ definition_in (bytes_over r (text_lines options ahead)) → start ≡ start_of r →
      more ≡ length (text_lines options ahead) - line_ends found.following → content_end ≡ last_content_end r (take more (text_lines options ahead)) →
      definition_begun lookup found.definition start content_end more m ≡ begin_as text options lookup (bracket_of options r ahead) inside r ahead bare m
  begins-definition found start content_end more is first count last =
      ap (λ s. definition_begun lookup found.definition s content_end more m) first
      ∙ ap (λ e. definition_begun lookup found.definition (start_of r) e more m) (last ∙ ap (last_content_end r) (take-texts options ahead more (omega (arith, count))))
      ∙ ap (λ n. definition_begun lookup found.definition (start_of r) (last_content_end r (take n ahead)) n m) count
      ∙ ap (λ o. begin_as text options lookup (or_else (defined_if (length (text_lines options ahead)) o) (table_if options (table_head options r ahead) ahead)) inside r ahead bare m) is

  -- no definition at the beginning of the paragraph's text
  pub begins-none : None ≡ definition_in (bytes_over r (text_lines options ahead)) →
      begin_as text options lookup (table_if options (table_head options r ahead) ahead) inside r ahead bare m ≡ begin_as text options lookup (bracket_of options r ahead) inside r ahead bare m
  begins-none is = ap (λ o. begin_as text options lookup (or_else (defined_if (length (text_lines options ahead)) o) (table_if options (table_head options r ahead) ahead)) inside r ahead bare m) is

module _ {E : Type 0} (replacement : E → Lookup) (text : List ℕ) (options : Options) (lookup : Lookup) (m : model.Pass) (pass : State E) where
  -- another table of definitions
  pub runs-references : (tables : Tables) (refs : List Reference) {placed : IsPlaced pass.builder.tree} → RunsIn replacement text options lookup m pass →
      tables ≡ record pass.builder.allocations { references = tables.references } → ((folded : List ℕ) → reference_at tables.references folded ≡ first_with fold folded refs) →
      RunsIn replacement text options lookup (record m { references = refs }) (record pass { builder = record pass.builder { allocations = tables; placed = placed } })
  runs-references tables refs {placed} runs others same = record {
    text_is = runs.text_is;
    options_is = runs.options_is;
    lookup_is = runs.lookup_is;
    drawing = record {
      here = runs.drawing.here;
      up = runs.drawing.up;
      is = runs.drawing.is;
      here_is = ap (λ t. shown_forest text t.texts runs.drawing.here) others ∙ runs.drawing.here_is;
      up_is = ap (λ t. map (shown_open text t.texts) runs.drawing.up) others ∙ runs.drawing.up_is;
    };
    inner = runs.inner;
    outer = runs.outer;
    bare = runs.bare;
    leaf = runs.leaf;
    line_end = runs.line_end;
    references = same;
    footnotes = subst (HasLabels m.footnotes) (sym (ap (λ t. t.footnotes) others)) runs.footnotes;
  }

-- if no line is left, the whole text was gathered
none-following : (o : Option Defined) → option_map (defined_before []) o ≡ o
none-following None = refl
none-following (Some found) = ap {A = List ℕ} {B = Option Defined} (λ l. Some (record { definition = found.definition; following = l })) (append-nil found.following)

pub whole-decides : (bs : List ℕ) (r : Row) (rs : List Row) → rs ≡ [] → definition_in (bs ++ further_bytes r rs) ≡ option_map (defined_before (further_bytes r rs)) (definition_in bs)
whole-decides bs r rs none =
    subst (λ (l : List Row). definition_in (bs ++ further_bytes r l) ≡ option_map (defined_before (further_bytes r l)) (definition_in bs)) (sym none)
    (ap definition_in (append-nil bs) ∙ sym (none-following (definition_in bs)))

pub whole-of : {E : Type 0} (replacement : E → Lookup) (pass : Pass E) (old new : Gathered) (more : Bool) → more ≡ false → GathersMore replacement pass old more new → IsWhole replacement pass new
whole-of replacement pass old new true e h = absurd (true≢false e)
whole-of replacement pass old new false e h = h.1

-- the text gathered before is a prefix of the text gathered then, whether or not another line continues
pub kept-of : {E : Type 0} (replacement : E → Lookup) (pass : Pass E) (old new : Gathered) (more : Bool) → GathersMore replacement pass old more new → (first : LineRest) → Gathers replacement pass first old → Gathers replacement pass first new
kept-of replacement pass old new true h = h.0
kept-of replacement pass old new false h = h.0

pub further-of : {E : Type 0} (replacement : E → Lookup) (pass : Pass E) (old new : Gathered) (more : Bool) → more ≡ true → GathersMore replacement pass old more new → (row_of old.last).line_end < (row_of new.last).line_end
further-of replacement pass old new true e h = h.1
further-of replacement pass old new false e h = absurd (true≢false (sym e))

module _ (text : List ℕ) (options : Options) (lookup : Lookup) (m : model.Pass) (first : LineRest) (gathered : Gathered) (holds : Holds text options lookup m first gathered) where
  -- the lines that were not gathered
  abbrev pub left : List Row
  left = texts_at text options lookup m (row_of gathered.last).line_end

  abbrev pub left_bytes : List ℕ
  left_bytes = further_bytes (row_of gathered.last) left

  -- the definition at the beginning of the gathered text is the paragraph's
  pub decided : (paragraph : List ℕ) → paragraph ≡ string_bytes gathered.text →
      definition_in (string_bytes gathered.text ++ left_bytes) ≡ option_map (defined_before left_bytes) (definition_in (string_bytes gathered.text)) →
      option_map (defined_before left_bytes) (definition_in paragraph) ≡ definition_in (bytes_over (row_of first) (texts_at text options lookup m (row_of first).line_end))
  decided paragraph is decides =
      ap (λ bs. option_map (defined_before left_bytes) (definition_in bs)) is ∙ sym decides
      ∙ ap definition_in (ap (λ bs. bs ++ left_bytes) holds.bytes ∙ ap (λ r. bytes_over (row_of first) holds.lines ++ further_bytes r left) (sym holds.last)
      ∙ sym (bytes-split (row_of first) holds.lines left) ∙ ap (bytes_over (row_of first)) (sym holds.ahead))

  -- it takes the same number of lines
  pub lines-taken : (following : List ℕ) → gathered.lines - line_ends following ≡ length (texts_at text options lookup m (row_of first).line_end) - line_ends (following ++ left_bytes)
  lines-taken following =
      let count = holds.count in
      let all : length (texts_at text options lookup m (row_of first).line_end) ≡ length holds.lines + length left = ap length holds.ahead ∙ length-append holds.lines left in
      let ends : line_ends (following ++ left_bytes) ≡ line_ends following + length left =
      ends-following following left_bytes ∙ ap (λ n. line_ends following + n) (texts-end text options lookup m.outer (row_of gathered.last).line_end (row_of gathered.last)) in
      ap (λ n. n - line_ends following) (sym count) ∙ same (length holds.lines) (line_ends following) (length left) ∙ ap (λ n. n - (line_ends following + length left)) (sym all)
      ∙ ap (λ n. length (texts_at text options lookup m (row_of first).line_end) - n) (sym ends)
    where
      same : (a b k : ℕ) → a - b ≡ a + k - (b + k)
      same a b k = omega arith
