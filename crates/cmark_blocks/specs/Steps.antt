-- The effect of a call of the block pass on the state of its model.
use Rattle.std.specs.Prelude.{◌≡◌, ℕ, Bool, false, List, [], ◌∷◌, ◌++◌, length, map, Some}
use Rattle.cmark_block_model.specs.BlockPass.{container_closed, containers_closed, paragraph_begun, paragraph_line, heading_made, leaf_begun, leaf_closed, ahead_in, begin, begin_as, leaf_fed, lazy_fed, with_drawn}
use Rattle.cmark_leaf_nodes.specs.TextColumns.{IsRead}
use Rattle.cmark_line_rules.specs.Opened.{bracket_of}
use Rattle.cmark_line_rules.specs.Rests.{row_of}
use Rattle.cmark_line_rules.specs.declared.line_rest.LineRest.{LineRest}
use Rattle.cmark_grammar.specs.Answers.{Lookup}
use Rattle.cmark_grammar.specs.BlockDocument.{Nil}
use Rattle.cmark_grammar.specs.Containers.{Container}
use Rattle.cmark_grammar.specs.Derivation.{task_then}
use Rattle.cmark_grammar.specs.Openings.{Leaf, table_if}
use Rattle.cmark_grammar.specs.Options.{Options}
use Rattle.cmark_grammar.specs.Rows.{Row, begin_of}
use Rattle.cmark_grammar.specs.TableRows.{table_head}
use Rattle.cmark_block_model.specs.OpenBlocks as model
use Rattle.cmark_blocks.specs.declared.state.OpenLeaf.TheVariants as leaf
use Rattle.cmark_blocks.specs.declared.state.Pass.{Pass}
use Rattle.cmark_blocks.specs.Ahead.{lines_at}
use Rattle.cmark_blocks.specs.Runs.{Runs}

module _ {E : Type 0} where
  -- a step among the containers leaves the text, the open leaf and whether the last item is bare unchanged
  pub record Keeps (old new : Pass E) : Type 0 where
    pub text : new.text ≡ old.text
    pub leaf : new.leaf ≡ old.leaf
    pub bare : new.bare ≡ old.bare

  -- a step among the blocks of the innermost container leaves the tables, the lines that wait and the open leaf unchanged
  pub record LeavesTheRest (old new : Pass E) : Type 0 where
    pub tables : new.builder.allocations ≡ old.builder.allocations
    pub text : new.text ≡ old.text
    pub blank_lines : new.blank_lines ≡ old.blank_lines
    pub leaf : new.leaf ≡ old.leaf
    pub bare : new.bare ≡ old.bare

  -- a line of the text comes after an open paragraph with this last line, whose touching lines begin at this byte offset
  pub record IsAfterParagraph (pass : Pass E) (from : ℕ) (last rest : LineRest) : Type 0 where
    pub line : IsRead pass.text.now rest
    pub is : pass.leaf ≡ leaf.Paragraph from last
    pub bare : pass.bare ≡ false

module _ {E : Type 0} (replacement : E → Lookup) where
  -- from each state of the model, over each text, the call makes this step
  abbrev pub StepsOver : Pass E → Pass E → (List ℕ → Options → Lookup → model.Pass → model.Pass) → Type 0
  StepsOver old new step = (text : List ℕ) (options : Options) (lookup : Lookup) (m : model.Pass) → Runs replacement text options lookup m old → Runs replacement text options lookup (step text options lookup m) new

  abbrev pub Steps : Pass E → Pass E → (model.Pass → model.Pass) → Type 0
  Steps old new step = StepsOver old new (λ text options lookup. step)

  -- the innermost container was closed
  abbrev pub ClosesLast : Pass E → Pass E → Type 0
  ClosesLast old new =
      (text : List ℕ) (options : Options) (lookup : Lookup) (m : model.Pass) (outer : List model.OpenContainer) (c : model.OpenContainer) →
      m.outer ≡ outer ++ c ∷ [] → Runs replacement text options lookup m old → Runs replacement text options lookup (container_closed c outer m) new

  -- the containers except the `kept` outermost ones were closed
  abbrev pub ClosesAll : ℕ → Pass E → Pass E → Type 0
  ClosesAll kept old new =
      (text : List ℕ) (options : Options) (lookup : Lookup) (m : model.Pass) (outer inner : List model.OpenContainer) →
      m.outer ≡ outer ++ inner → length outer ≡ kept → Runs replacement text options lookup m old → Runs replacement text options lookup (containers_closed text options lookup outer inner m) new

  -- the containers except the `kept` outermost ones are being closed; some of them are left
  abbrev pub ClosesTowards : ℕ → Pass E → Pass E → Type 0
  ClosesTowards kept old now =
      (text : List ℕ) (options : Options) (lookup : Lookup) (m : model.Pass) (outer inner : List model.OpenContainer) →
      m.outer ≡ outer ++ inner → length outer ≡ kept → Runs replacement text options lookup m old →
      (left : List model.OpenContainer) × (p : model.Pass) × (p.outer ≡ outer ++ left) × Runs replacement text options lookup p now
      × (containers_closed text options lookup outer inner m ≡ containers_closed text options lookup outer left p)

  -- a paragraph was begun on a line
  abbrev pub BeginsParagraph : LineRest → Pass E → Pass E → Type 0
  BeginsParagraph rest old new =
      (text : List ℕ) (options : Options) (lookup : Lookup) (m : model.Pass) → Runs replacement text options lookup m old → Runs replacement text options lookup (paragraph_begun text options lookup (row_of rest) m) new

  -- a task marker was drawn, whose box begins at this place, and a paragraph was begun on the line after the box
  abbrev pub BeginsTask : (is_checked : Bool) → (start : ℕ) → LineRest → Pass E → Pass E → Type 0
  BeginsTask is_checked start following old new =
      (text : List ℕ) (options : Options) (lookup : Lookup) (m : model.Pass) → Runs replacement text options lookup m old →
      Runs replacement text options lookup (paragraph_begun text options lookup (row_of following) (with_drawn (task_then (Some is_checked) start (begin_of (row_of following)) Nil) m)) new

  -- the leaf was closed
  abbrev pub ClosesLeaf : Pass E → Pass E → Type 0
  ClosesLeaf old new =
      (text : List ℕ) (options : Options) (lookup : Lookup) (m : model.Pass) → Runs replacement text options lookup m old → Runs replacement text options lookup (leaf_closed text options lookup m) new

  -- a leaf was begun on a line, whatever lines are ahead
  abbrev pub BeginsLeaf : Leaf → (more : ℕ) → LineRest → Pass E → Pass E → Type 0
  BeginsLeaf leaf more rest old new =
      (text : List ℕ) (options : Options) (lookup : Lookup) (m : model.Pass) (ahead : List Row) → Runs replacement text options lookup m old →
      Runs replacement text options lookup (leaf_begun text options lookup leaf more (row_of rest) ahead m) new

  -- the next line of a paragraph, after the kept lines and this last one, whose touching lines begin at this place
  abbrev pub AddsLine : (from : ℕ) → (last rest : LineRest) → Pass E → Pass E → Type 0
  AddsLine from last rest old new =
      (text : List ℕ) (options : Options) (lookup : Lookup) (m : model.Pass) → Runs replacement text options lookup m old →
      Runs replacement text options lookup (paragraph_line text options lookup (map row_of old.blank_lines.items) from (row_of last) (row_of rest) m) new

  -- a paragraph with the kept lines and this last one was underlined
  abbrev pub MakesHeading : (level from : ℕ) → (last rest : LineRest) → Pass E → Pass E → Type 0
  MakesHeading level from last rest old new =
      (text : List ℕ) (options : Options) (lookup : Lookup) (m : model.Pass) → Runs replacement text options lookup m old →
      Runs replacement text options lookup (heading_made text options lookup level (map row_of old.blank_lines.items) from (row_of last) (row_of rest) m) new

  -- a line that begins no other leaf began a table, or else a paragraph
  abbrev pub BeginsText : LineRest → Pass E → Pass E → Type 0
  BeginsText rest old new =
      (text : List ℕ) (options : Options) (lookup : Lookup) (m : model.Pass) (inside : Container → model.Pass) (bare : Bool) → Runs replacement text options lookup m old →
      let ahead = ahead_in text options lookup m.outer (lines_at text (row_of rest).line_end) in
      Runs replacement text options lookup (begin_as text options lookup (table_if options (table_head options (row_of rest) ahead) ahead) inside (row_of rest) ahead bare m) new

  -- a line that may begin a link reference definition began one, or else a table or a paragraph
  abbrev pub BeginsBracket : LineRest → Pass E → Pass E → Type 0
  BeginsBracket rest old new =
      (text : List ℕ) (options : Options) (lookup : Lookup) (m : model.Pass) (inside : Container → model.Pass) (bare : Bool) → Runs replacement text options lookup m old →
      let ahead = ahead_in text options lookup m.outer (lines_at text (row_of rest).line_end) in
      Runs replacement text options lookup (begin_as text options lookup (bracket_of options (row_of rest) ahead) inside (row_of rest) ahead bare m) new

  -- all blocks of the line were begun
  abbrev pub Begins : LineRest → Pass E → Pass E → Type 0
  Begins rest old new =
      (text : List ℕ) (options : Options) (lookup : Lookup) (m : model.Pass) → Runs replacement text options lookup m old →
      Runs replacement text options lookup (begin text options lookup (row_of rest) (lines_at text (row_of rest).line_end) m) new

  -- the leaf was closed, and all blocks of the line were begun
  abbrev pub BeginsAnew : LineRest → Pass E → Pass E → Type 0
  BeginsAnew rest old new =
      (text : List ℕ) (options : Options) (lookup : Lookup) (m : model.Pass) → Runs replacement text options lookup m old →
      Runs replacement text options lookup (begin text options lookup (row_of rest) (lines_at text (row_of rest).line_end) (leaf_closed text options lookup m)) new

  -- a line that lacks no prefix was fed to the open leaf
  abbrev pub FeedsLeaf : LineRest → Pass E → Pass E → Type 0
  FeedsLeaf rest old new =
      (text : List ℕ) (options : Options) (lookup : Lookup) (m : model.Pass) → Runs replacement text options lookup m old →
      Runs replacement text options lookup (leaf_fed text options lookup m.leaf (row_of rest) (lines_at text (row_of rest).line_end) m) new

  -- a lazy line was fed to the open leaf
  abbrev pub FeedsLazily : LineRest → Pass E → Pass E → Type 0
  FeedsLazily rest old new =
      (text : List ℕ) (options : Options) (lookup : Lookup) (m : model.Pass) → Runs replacement text options lookup m old →
      Runs replacement text options lookup (lazy_fed text options lookup m.leaf (row_of rest) m) new
