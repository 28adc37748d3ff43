-- What a line begins, one container after the other.
use Rattle.std.specs.Prelude.{if◌then◌else◌, nat_le, ◌||◌, is_some, option_map, IfSome}
use Rattle.std.proofs.Common.{◌≡◌, ℕ, zero, suc, ◌<◌, ◌≤◌, Bool, true, false, List, [], ◌∷◌, length, Option, Some, None, refl, sym, ap, subst, ◌∙◌, arith}
use Rattle.cmark_grammar.specs.Options.{Options}
use Rattle.cmark_grammar.specs.Answers.{Lookup}
use Rattle.cmark_grammar.specs.Alerts.{alert_in}
use Rattle.cmark_grammar.specs.BlockQuoteKind.{BlockQuoteKind}
use Rattle.cmark_grammar.specs.Blocks.{place_in}
use Rattle.cmark_grammar.specs.Containers.{BlockQuote, is_alert, marker_width, enter}
use Rattle.cmark_grammar.specs.Leaves.{run, underline_of, underlines}
use Rattle.cmark_grammar.specs.Metadata.{metadata_kind}
use Rattle.cmark_grammar.specs.Openings.{Leaf, Blank, Takes, Plain, or_else, interrupts, metadata_begun, whole_opens, opens}
use Rattle.cmark_grammar.specs.Options.{Options, no_options}
use Rattle.cmark_grammar.specs.DefinitionLists.{definition_at}
use Rattle.cmark_grammar.specs.Places.{Place, Apart}
use Rattle.cmark_blocks.proofs.DefinitionRows.{opens-anywhere, inside-place, blank-defines-not}
use Rattle.cmark_grammar.specs.Columns.{Column, bytes_of, without_indent}
use Rattle.cmark_grammar.specs.Rows.{Row, without, is_bare, is_blank_line, indent_of, words_of}
use Rattle.cmark_block_model.proofs.BlockLaws.{no_metadata}
use Rattle.cmark_line_rules.proofs.OpeningRows.{opens-blank, none_ahead}
use Rattle.cmark_line_rules.specs.Opened.{opened, HasInside, IsMarked, InsideIsIn}
use Rattle.cmark_line_rules.specs.Rests.{row_of, IsIn}
use Rattle.cmark_line_rules.specs.Starts.{shown_start, inside_of, Enters, HasMarker}
use Rattle.cmark_line_rules.specs.declared.container.ContainerStart.{ContainerStart}
use Rattle.cmark_line_rules.specs.declared.container.ContainerStart.TheVariants as begun
use Rattle.cmark_line_rules.specs.declared.line_rest.LineRest.{LineRest}
use Rattle.cmark_line_rules.specs.declared.opening.Opening.{Opening}
use Rattle.cmark_line_rules.specs.declared.opening.Opening.TheVariants as opening
use Rattle.cmark_values.specs.declared.kind.BlockQuoteKind as found
use Rattle.cmark_values.specs.declared.kind.HeadingLevel.{HeadingLevel}
use Rattle.cmark_values.specs.Shown.{level_number, shown_block_quote_kind, shown_options}
use Rattle.cmark_leaf_nodes.specs.TextColumns.{StandInText}
use Rattle.cmark_leaf_nodes.proofs.TextColumnSteps.{without-in_text}
use Rattle.cmark_block_model.specs.BlockPass.{ahead_in, begin, begin_as, begin_in, leaf_begun, container_begun, inside_begun, is_item, place_of}
use Rattle.cmark_block_model.specs.OpenBlocks as model
use Rattle.cmark_blocks.specs.Ahead.{lines_at}
use Rattle.cmark_blocks.specs.declared.state.Pass.{Pass}
use Rattle.cmark_blocks.specs.Entered.{OpensAs, HasNumber, DefinesAs, TellsMetadata, takes_line, line_taken, BeginsContainer, BeginsFirst, BeginsSoFar}
use Rattle.cmark_blocks.specs.Runs.{Runs}
use Rattle.cmark_leaf_nodes.specs.TextColumns.{IsRead}
use Rattle.cmark_blocks.specs.Steps.{Begins}
use Rattle.cmark_blocks.proofs.OpeningSteps.{Fits, opens-fits}
use Rattle.cmark_blocks.proofs.TaskSteps.{start-text, nested, nested-on, nested-taken}

opened-fits : (options : Options) (r : Row) (open_as is : Opening) → OpensAs options open_as r → open_as ≡ is → Fits (run 35 (words_of r)) (opened options is r [])
opened-fits options r open_as is opens_as e =
    subst (λ (x : Opening). Fits (run 35 (words_of r)) (opened options x r [])) e
    (subst (Fits (run 35 (words_of r))) (opens_as [] ∙ none_ahead (metadata_kind options r) (opened options open_as r [])) (opens-fits options r []))

-- the number of an item that begins is told by its character
pub start-numbered : (options : Options) (r : Row) (open_as : Opening) (start : ContainerStart) → OpensAs options open_as r → open_as ≡ opening.Nests start → HasNumber start
start-numbered options r open_as (begun.Item item inside) opens_as e = opened-fits options r open_as (opening.Nests (begun.Item item inside)) opens_as e
start-numbered options r open_as _ opens_as e = tt

-- the label of a footnote definition that begins is between brackets
pub start-marked : (r : Row) (open_as : Opening) (start : ContainerStart) → open_as ≡ opening.Nests start → IsMarked open_as r → HasMarker r start
start-marked r open_as start nests has = subst (λ (x : Opening). IsMarked x r) nests has

-- the line inside a container that begins comes after its marker
pub start-enters : (r : Row) (open_as : Opening) (start : ContainerStart) → open_as ≡ opening.Nests start → HasInside open_as r → Enters r start
start-enters r open_as start nests has = subst (λ (x : Opening). HasInside x r) nests has

-- the kind of a block quote that begins
pub block_quote-in_text : (options : Options) (r : Row) (start : ContainerStart) (inside : LineRest) (alert : Option BlockQuoteKind) → start ≡ begun.BlockQuote inside → alert ≡ alert_in options (row_of inside) → shown_start options r start ≡ BlockQuote alert
block_quote-in_text options r start inside alert is in_text = ap (shown_start options r) is ∙ ap BlockQuote (sym in_text)

pub alert-in_text : (kind : Option found.BlockQuoteKind) (some : Bool) → is_some kind ≡ some → is_alert (BlockQuote (option_map shown_block_quote_kind kind)) ≡ some
alert-in_text None some e = e
alert-in_text (Some kind) some e = e

-- the level of a heading
pub heading-level : (options : Options) (r : Row) (open_as : Opening) (level : HeadingLevel) → OpensAs options open_as r → open_as ≡ opening.AtxHeading level → level_number level ≡ run 35 (words_of r)
heading-level options r open_as level opens_as e = opened-fits options r open_as (opening.AtxHeading level) opens_as e

module _ (r : Row) (open_as : Opening) (start : ContainerStart) (nests : open_as ≡ opening.Nests start) (has : HasInside open_as r) where
  enters : Enters r start
  enters = start-enters r open_as start nests has

  module _ (inside : LineRest) (following : inside ≡ inside_of start) where
    pub inside-row : (options : Options) → row_of inside ≡ without (marker_width (shown_start options r start) r) r
    inside-row options = ap row_of following ∙ enters options

    pub inside-line_end : (row_of inside).line_end ≡ r.line_end
    inside-line_end = ap (λ (s : Row). s.line_end) (inside-row no_options)

    pub inside-read : (text : List ℕ) → InsideIsIn text open_as → StandInText text r.columns → IsRead text inside
    inside-read text placed in_text = record {
      placed = subst (IsIn text) (sym following) (subst (InsideIsIn text) nests placed);
      in_text = subst (λ (s : Row). StandInText text s.columns) (sym (inside-row no_options)) (without-in_text text (marker_width (shown_start no_options r start) r) r in_text);
    }

  module _ (text : List ℕ) (options : Options) (lookup : Lookup) (bare : Bool) (columns : ℕ) (m : model.Pass) (opens_as : OpensAs options open_as r)
      (none : metadata_begun (metadata_kind options r) (ahead_in text options lookup m.outer (lines_at text r.line_end)) ≡ Plain) (plain : definition_at options (place_of m.inner) r ≡ None) where
    begins-nested : begin_in text options lookup (suc columns) (place_of m.inner) r (lines_at text r.line_end) bare m ≡ nested text options lookup columns (lines_at text r.line_end) r m (shown_start options r start)
    begins-nested =
        let ahead = ahead_in text options lookup m.outer (lines_at text r.line_end) in
        ap (λ o. begin_as text options lookup o (nested text options lookup columns (lines_at text r.line_end) r m) r ahead bare m)
        (opens-anywhere options m.inner r ahead plain ∙ opens_as ahead ∙ ap (λ o. or_else o (opened options open_as r ahead)) none ∙ ap (λ (x : Opening). opened options x r ahead) nests)

    pub taken-begins : length r.columns ≤ columns → takes_line (shown_start options r start) ≡ true →
        begin_in text options lookup (suc columns) (place_of m.inner) r (lines_at text r.line_end) bare m ≡ line_taken text options lookup (shown_start options r start) r (container_begun (shown_start options r start) r m)
    taken-begins le taken =
        begins-nested ∙ nested-taken text options lookup columns (lines_at text r.line_end) r m (shown_start options r start) le (start-text options r start enters) taken

    pub inside-begins : (inside : LineRest) → inside ≡ inside_of start → (item : Bool) → takes_line (shown_start options r start) ≡ false → item ≡ is_item (shown_start options r start) →
        begin_in text options lookup (suc columns) (place_of m.inner) r (lines_at text r.line_end) bare m
        ≡ begin_in text options lookup columns (place_of (container_begun (shown_start options r start) r m).inner) (row_of inside) (lines_at text (row_of inside).line_end) item (container_begun (shown_start options r start) r m)
    inside-begins inside following item left is =
        let k = shown_start options r start in
        begins-nested
        ∙ nested-on text options lookup columns (lines_at text r.line_end) r m k left
        ∙ ap (λ (s : Row). begin_in text options lookup columns Apart s (lines_at text r.line_end) (is_item k) (container_begun k r m)) (sym (inside-row inside following options))
        ∙ ap (λ (p : ℕ). begin_in text options lookup columns Apart (row_of inside) (lines_at text p) (is_item k) (container_begun k r m)) (sym (inside-line_end inside following))
        ∙ ap (λ (b : Bool). begin_in text options lookup columns Apart (row_of inside) (lines_at text (row_of inside).line_end) b (container_begun k r m)) (sym is)
        ∙ ap (λ (pl : Place). begin_in text options lookup columns pl (row_of inside) (lines_at text (row_of inside).line_end) item (container_begun k r m)) (inside-place k r m)

-- a container was begun, and this is the rest of its line
module _ {E : Type 0} (replacement : E → Lookup) (rest : LineRest) (open_as : Opening) (start : ContainerStart) (nests : open_as ≡ opening.Nests start) (has : HasInside open_as (row_of rest)) (old new : Pass E) (opens_as : OpensAs (shown_options old.options) open_as (row_of rest)) where
  abbrev opens_here : (text : List ℕ) (options : Options) (lookup : Lookup) (m : model.Pass) → Runs replacement text options lookup m old → OpensAs options open_as (row_of rest)
  opens_here text options lookup m runs = subst (λ o. OpensAs o open_as (row_of rest)) runs.options_is opens_as

  pub container-begins : (bare : Bool) (entered : Option (LineRest × Bool)) → DefinesAs replacement old rest None → TellsMetadata replacement old rest None → IfSome entered (λ inside. inside.0 ≡ inside_of start) →
      BeginsContainer replacement start rest entered old new → BeginsFirst replacement bare rest entered old new
  container-begins bare None plain none following begins text options lookup columns m le runs =
      let b = begins text options lookup m runs in
      subst (λ p. Runs replacement text options lookup p new) (sym (taken-begins (row_of rest) open_as start nests has text options lookup bare columns m (opens_here text options lookup m runs) (none text options lookup m runs) (sym (plain text options lookup m runs)) le b.0)) b.1
  container-begins bare (Some inside) plain none following begins text options lookup columns m le runs =
      let b = begins text options lookup m runs in (
        container_begun (shown_start options (row_of rest) start) (row_of rest) m,
        b.2,
        inside-line_end (row_of rest) open_as start nests has inside.0 following,
        inside-begins (row_of rest) open_as start nests has text options lookup bare columns m (opens_here text options lookup m runs) (none text options lookup m runs) (sym (plain text options lookup m runs)) inside.0 following inside.1 b.0 b.1,
      )

pub container-read : (r : Row) (open_as : Opening) (start : ContainerStart) → open_as ≡ opening.Nests start → HasInside open_as r → (entered : Option (LineRest × Bool)) (text : List ℕ) → IfSome entered (λ inside. inside.0 ≡ inside_of start) →
    InsideIsIn text open_as → StandInText text r.columns → IfSome entered (λ inside. IsRead text inside.0)
container-read r open_as start nests has None text following placed in_text = tt
container-read r open_as start nests has (Some inside) text following placed in_text = inside-read r open_as start nests has inside.0 following text placed in_text

-- a line that begins no container, or metadata
module _ (text : List ℕ) (options : Options) (lookup : Lookup) (r : Row) (next : List Row) (columns : ℕ) (bare : Bool) (m : model.Pass) where
  pub leaf-begins : (open_as : Opening) → OpensAs options open_as r → definition_at options (place_of m.inner) r ≡ None → metadata_begun (metadata_kind options r) (ahead_in text options lookup m.outer next) ≡ Plain →
      begin_as text options lookup (opened options open_as r (ahead_in text options lookup m.outer next)) (λ k. inside_begun (is_alert k) (container_begun k r m) (begin_in text options lookup columns (place_in k) (enter k r) next (is_item k) (container_begun k r m))) r (ahead_in text options lookup m.outer next) bare m
      ≡ begin_in text options lookup (suc columns) (place_of m.inner) r next bare m
  leaf-begins open_as opens_as plain none =
      let ahead = ahead_in text options lookup m.outer next in
      ap (λ o. begin_as text options lookup o (λ k. inside_begun (is_alert k) (container_begun k r m) (begin_in text options lookup columns (place_in k) (enter k r) next (is_item k) (container_begun k r m))) r ahead bare m)
      (sym (opens-anywhere options m.inner r ahead plain ∙ opens_as ahead ∙ ap (λ o. or_else o (opened options open_as r ahead)) none))

  pub metadata-begins : (leaf : Leaf) (more : ℕ) → r.lazy ≡ false → definition_at options (place_of m.inner) r ≡ None → metadata_begun (metadata_kind options r) (ahead_in text options lookup m.outer next) ≡ Takes leaf more →
      leaf_begun text options lookup leaf more r (ahead_in text options lookup m.outer next) m ≡ begin_in text options lookup (suc columns) (place_of m.inner) r next bare m
  unfolding opens
  metadata-begins leaf more whole plain is =
      let ahead = ahead_in text options lookup m.outer next in
      ap (λ o. begin_as text options lookup o (λ k. inside_begun (is_alert k) (container_begun k r m) (begin_in text options lookup columns (place_in k) (enter k r) next (is_item k) (container_begun k r m))) r ahead bare m)
      (sym (opens-anywhere options m.inner r ahead plain ∙ ap (λ z. if z then Plain else or_else (metadata_begun (metadata_kind options r) ahead) (whole_opens options r ahead)) whole ∙ ap (λ o. or_else o (whole_opens options r ahead)) is))

module _ {E : Type 0} (replacement : E → Lookup) (line : LineRest) (old : Pass E) where
  pub begins-start : BeginsSoFar replacement line false line old old
  begins-start text options lookup m runs = (length (row_of line).columns, m, leq-refl (length (row_of line).columns), runs, refl)
    where
      leq-refl : (n : ℕ) → n ≤ n
      leq-refl n = omega arith

  pub begins-step : (rest inside : LineRest) (bare item : Bool) (mid new : Pass E) → BeginsSoFar replacement line bare rest old mid →
      BeginsFirst replacement bare rest (Some (inside, item)) mid new → length (row_of inside).columns < length (row_of rest).columns → BeginsSoFar replacement line item inside old new
  begins-step rest inside bare item mid new so_far first shorter text options lookup m runs =
      let before = so_far text options lookup m runs in
      go before.0 before.1 before.2 before.3 before.4
    where
      go : (columns : ℕ) (p : model.Pass) → length (row_of rest).columns ≤ columns → Runs replacement text options lookup p mid →
          (begin text options lookup (row_of line) (lines_at text (row_of line).line_end) m ≡ begin_in text options lookup (suc columns) (place_of p.inner) (row_of rest) (lines_at text (row_of rest).line_end) bare p) →
          (columns : ℕ) × (p : model.Pass) × (length (row_of inside).columns ≤ columns) × Runs replacement text options lookup p new
          × (begin text options lookup (row_of line) (lines_at text (row_of line).line_end) m ≡ begin_in text options lookup (suc columns) (place_of p.inner) (row_of inside) (lines_at text (row_of inside).line_end) item p)
      go zero p le now same = absurd (omega (arith, le, shorter))
      go (suc n) p le now same = let r = first text options lookup (suc n) p le now in (n, r.0, omega (arith, le, shorter), r.1, same ∙ r.3)

  pub begins-end : (rest : LineRest) (bare : Bool) (mid new : Pass E) → BeginsSoFar replacement line bare rest old mid → BeginsFirst replacement bare rest None mid new → Begins replacement line old new
  begins-end rest bare mid new so_far first text options lookup m runs =
      let before = so_far text options lookup m runs in
      subst (λ p. Runs replacement text options lookup p new) (sym before.4) (first text options lookup before.0 before.1 before.2 before.3)

blank-words : (r : Row) → is_blank_line r ≡ true → words_of r ≡ []
blank-words r e = go (without_indent r.columns) e
  where
    go : (cs : List Column) → is_bare cs ≡ true → bytes_of cs ≡ []
    go [] e = refl
    go (c ∷ cs) e = absurd (let q : false ≡ true = e in cc)

-- a blank line begins nothing
pub begins-blank : (text : List ℕ) (options : Options) (lookup : Lookup) (r : Row) (next : List Row) (m : model.Pass) → r.lazy ≡ false → is_blank_line r ≡ true →
    begin text options lookup r next m ≡ record m { inner = record m.inner { has_line = true; blank = m.inner.has_line }; bare = false }
begins-blank text options lookup r next m whole blank =
    ap (λ o. begin_as text options lookup o (λ k. inside_begun (is_alert k) (container_begun k r m) (begin_in text options lookup (length r.columns) (place_in k) (enter k r) next (is_item k) (container_begun k r m))) r (ahead_in text options lookup m.outer next) false m)
    (opens-anywhere options m.inner r (ahead_in text options lookup m.outer next) (blank-defines-not options (place_of m.inner) r (blank-words r blank)) ∙ opens-blank options r (ahead_in text options lookup m.outer next) whole blank ∙ ap (λ kind. or_else (metadata_begun kind (ahead_in text options lookup m.outer next)) Blank) (no_metadata options r blank))

-- nor does it underline a paragraph: it interrupts one
pub blank-underlines-not : (r : Row) → is_blank_line r ≡ true → underlines r ≡ None
unfolding underlines
blank-underlines-not r blank =
    let deep : Bool = r.lazy || nat_le 4 (indent_of r) in
    ap (λ ws. if deep then None else underline_of ws) (blank-words r blank) ∙ go deep
  where
    none : Option ℕ
    none = None

    go : (z : Bool) → (if z then none else none) ≡ none
    go true = refl
    go false = refl

pub blank-interrupts : (options : Options) (r : Row) (ahead : List Row) → is_blank_line r ≡ true → interrupts options true r ahead ≡ true
blank-interrupts options r ahead blank = or-true (is_blank_line r) _ blank
  where
    or-true : (a b : Bool) → a ≡ true → (a || b) ≡ true
    or-true a b e = ap (λ z. z || b) e
