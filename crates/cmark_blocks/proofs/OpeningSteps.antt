-- What a line begins, as far as the items of lists and headings go.
use Rattle.std.proofs.Common.{◌≡◌, ℕ, suc, Bool, true, false, ◌==◌, ◌&&◌, ◌||◌, nat_lt, nat_le, not, if◌then◌else◌, List, [], ◌∷◌, length, drop, Option, Some, None, refl, sym, ap, ◌∙◌, eqb-true, true≢false}
use Rattle.std.specs.Prelude.{unwrap_or}
use Rattle.cmark_grammar.specs.Rows.{Row, words_of, is_blank_line, indent_of}
use Rattle.cmark_grammar.specs.BlockQuoteKind.{BlockQuoteKind}
use Rattle.cmark_grammar.specs.Containers.{Container, BlockQuote, Item, Footnote, ListDefinition, Marker, is_bullet, is_delimiter, digits, number_of, delimited, marker_of, item_with, item_of, container_with, container_of, footnote_or, footnote_with, footnote_of, is_block_quote, width_with, with_task}
use Rattle.cmark_grammar.specs.Footnotes.{Footnotes, Off, Gfm, Old, footnotes_in, footnote_in}
use Rattle.cmark_grammar.specs.HtmlBlocks.{html_kind}
use Rattle.cmark_grammar.specs.Leaves.{Fence, is_parted, run, is_thematic_break, is_atx_heading, fence_of, counted, code_continuation}
use Rattle.cmark_grammar.specs.LinkDefinitions.{Parsed, Defined, definition_in, bytes_over}
use Rattle.cmark_grammar.specs.Openings.{AtxHeading, ThematicBreak, IndentedCode, FencedCode, HtmlBlock, LinkDefinition, MetadataBlock, Table, Opening, Blank, Nests, Takes, Plain, or_else, nests_if, html_if, break_if, heading_if, fenced_if, defined_if, begins_no_link, metadata_begun, text_lines, definition_of, table_if, text_of, leaf_of, whole_opens, opens}
use Rattle.cmark_grammar.specs.Metadata.{metadata_kind, metadata_continuation, holds_metadata}
use Rattle.cmark_grammar.specs.MetadataBlockKind.{MetadataBlockKind}
use Rattle.cmark_grammar.specs.Options.{Options}
use Rattle.cmark_grammar.specs.Alignment.{Alignment}
use Rattle.cmark_grammar.specs.TableRows.{table_head}
use Rattle.cmark_items.specs.ItemNodes.{list_number}

-- the number of an item is told by its character
abbrev pub Numbered : (delimiter : ℕ) → Option ℕ → Type 0
Numbered delimiter number = list_number delimiter (unwrap_or number 0) ≡ number

abbrev pub MarkerNumbered : Option Marker → Type 0
MarkerNumbered None = Unit {0}
MarkerNumbered (Some m) = Numbered m.delimiter m.number

abbrev pub ContainerNumbered : Option Container → Type 0
ContainerNumbered None = Unit {0}
ContainerNumbered (Some (BlockQuote alert)) = Unit {0}
ContainerNumbered (Some (Footnote label old size)) = Unit {0}
ContainerNumbered (Some (ListDefinition width)) = Unit {0}
ContainerNumbered (Some (Item delimiter number width task)) = Numbered delimiter number

-- an item has a number that its character tells, a heading this level
abbrev pub Fits : (level : ℕ) → Opening → Type 0
Fits level (Nests (BlockQuote alert)) = Unit {0}
Fits level (Nests (Footnote label old size)) = Unit {0}
Fits level (Nests (ListDefinition width)) = Unit {0}
Fits level (Nests (Item delimiter number width task)) = Numbered delimiter number
Fits level (Takes ThematicBreak more) = Unit {0}
Fits level (Takes (AtxHeading n) more) = n ≡ level
Fits level (Takes IndentedCode more) = Unit {0}
Fits level (Takes (FencedCode fence) more) = Unit {0}
Fits level (Takes (HtmlBlock kind) more) = Unit {0}
Fits level (Takes (LinkDefinition definition) more) = Unit {0}
Fits level (Takes (MetadataBlock kind) more) = Unit {0}
Fits level (Takes (Table alignments) more) = Unit {0}
Fits level _ = Unit {0}

bullet_no_delimiter : (b : ℕ) → is_bullet b ≡ true → is_delimiter b ≡ false
bullet_no_delimiter b e = go (b == 45) (b == 43) (b == 42) refl refl refl e
  where
    at : (k : ℕ) → is_delimiter k ≡ false → (b == k) ≡ true → is_delimiter b ≡ false
    at k off f = ap is_delimiter (eqb-true b k f) ∙ off

    go : (x y z : Bool) → (b == 45) ≡ x → (b == 43) ≡ y → (b == 42) ≡ z → (x || (y || z)) ≡ true → is_delimiter b ≡ false
    go true y z ex ey ez q = at 45 refl ex
    go false true z ex ey ez q = at 43 refl ey
    go false false true ex ey ez q = at 42 refl ez
    go false false false ex ey ez q = absurd (true≢false (sym q))

delimited-numbered : (ds : List ℕ) (rest : List ℕ) → MarkerNumbered (delimited ds rest)
delimited-numbered ds [] = tt
delimited-numbered ds (b ∷ bs) = go (nat_lt 0 (length ds)) (nat_le (length ds) 9) (is_delimiter b) refl
  where
    go : (x y z : Bool) → is_delimiter b ≡ z → MarkerNumbered (if x && (y && z) then Some (record { delimiter = b; number = Some (number_of ds); size = suc (length ds) }) else None)
    go true true true ez = ap (λ t. if t then Some (number_of ds) else None) ez
    go true true false ez = tt
    go true false z ez = tt
    go false y z ez = tt

marker-numbered : (bs : List ℕ) → MarkerNumbered (marker_of bs)
marker-numbered [] = tt
marker-numbered (b ∷ bs) = go (is_bullet b) refl
  where
    go : (z : Bool) → is_bullet b ≡ z → MarkerNumbered (if z then Some (record { delimiter = b; number = None; size = 1 }) else delimited (digits (b ∷ bs)) (drop (length (digits (b ∷ bs))) (b ∷ bs)))
    go true e = ap (λ t. if t then Some 0 else None) (bullet_no_delimiter b e)
    go false e = delimited-numbered (digits (b ∷ bs)) (drop (length (digits (b ∷ bs))) (b ∷ bs))

item-numbered : (r : Row) (m : Option Marker) → MarkerNumbered m → ContainerNumbered (item_with r m)
item-numbered r None n = tt
item-numbered r (Some m) n = by (is_parted (drop m.size (words_of r)) && not (is_thematic_break (words_of r)))
  where
    by : (t : Bool) → ContainerNumbered (if t then Some (Item m.delimiter m.number (width_with m.size r) None) else None)
    by true = n
    by false = tt

task-numbered : (options : Options) (r : Row) (k : Option Container) → ContainerNumbered k → ContainerNumbered (with_task options r k)
task-numbered options r None n = tt
task-numbered options r (Some (BlockQuote alert)) n = tt
task-numbered options r (Some (Footnote label old size)) n = tt
task-numbered options r (Some (ListDefinition width)) n = tt
task-numbered options r (Some (Item delimiter number width task)) n = n

container-numbered : (k : Option Container) (quoted : Bool) (alert : Option BlockQuoteKind) → ContainerNumbered k → ContainerNumbered (container_with k quoted alert)
container-numbered (Some k) quoted alert n = n
container-numbered None true alert n = tt
container-numbered None false alert n = tt

footnote-numbered : (footnotes : Footnotes) (r : Row) (other : Option Container) → ContainerNumbered other → ContainerNumbered (footnote_or (footnote_of footnotes r) other)
footnote-numbered Off r other n = n
footnote-numbered Gfm r other n = by (footnote_in (words_of r))
  where
    by : (o : Option Parsed) → ContainerNumbered (footnote_or (footnote_with false r o) other)
    by None = n
    by (Some found) = tt
footnote-numbered Old r other n = by (footnote_in (words_of r))
  where
    by : (o : Option Parsed) → ContainerNumbered (footnote_or (footnote_with true r o) other)
    by None = n
    by (Some found) = tt

module _ (level : ℕ) where
  else-fits : (first second : Opening) → Fits level first → Fits level second → Fits level (or_else first second)
  else-fits Plain second f g = g
  else-fits _ second f g = f

  nests-fits : (k : Option Container) → ContainerNumbered k → Fits level (nests_if k)
  nests-fits (Some (BlockQuote alert)) n = tt
  nests-fits (Some (Footnote label old size)) n = tt
  nests-fits (Some (ListDefinition width)) n = tt
  nests-fits (Some (Item delimiter number width task)) n = n
  nests-fits None n = tt

  html-fits : (r : Row) (ahead : List Row) (kind : Option ℕ) → Fits level (html_if r ahead kind)
  html-fits r ahead (Some kind) = tt
  html-fits r ahead None = tt

  break-fits : (t : Bool) → Fits level (break_if t)
  break-fits true = tt
  break-fits false = tt

  heading-fits : (t : Bool) → Fits level (heading_if t level)
  heading-fits true = refl
  heading-fits false = tt

  fenced-fits : (fence : Option Fence) (ahead : List Row) → Fits level (fenced_if fence ahead)
  fenced-fits (Some fence) ahead = tt
  fenced-fits None ahead = tt

  metadata-fits : (o : Option MetadataBlockKind) (ahead : List Row) → Fits level (metadata_begun o ahead)
  metadata-fits None ahead = tt
  metadata-fits (Some kind) ahead = by (holds_metadata kind ahead)
    where
      by : (t : Bool) → Fits level (if t then Takes (MetadataBlock kind) (counted (metadata_continuation kind) ahead) else Plain)
      by true = tt
      by false = tt

  defined-fits : (lines : ℕ) (found : Option Defined) → Fits level (defined_if lines found)
  defined-fits lines (Some found) = tt
  defined-fits lines None = tt

table-fits : (level : ℕ) (options : Options) (o : Option (List Alignment)) (ahead : List Row) → Fits level (table_if options o ahead)
table-fits level options (Some alignments) ahead = tt
table-fits level options None ahead = tt

text-fits : (level : ℕ) (options : Options) (r : Row) (ahead : List Row) → Fits level (text_of options r ahead)
text-fits level options r ahead =
    else-fits level (definition_of options r ahead) (table_if options (table_head options r ahead) ahead)
    (unless (begins_no_link (footnotes_in options) (words_of r))) (table-fits level options (table_head options r ahead) ahead)
  where
    found : Opening
    found = defined_if (length (text_lines options ahead)) (definition_in (bytes_over r (text_lines options ahead)))

    unless : (z : Bool) → Fits level (if z then Plain else found)
    unless true = tt
    unless false = defined-fits level (length (text_lines options ahead)) (definition_in (bytes_over r (text_lines options ahead)))

leaf-fits : (options : Options) (r : Row) (ahead : List Row) → Fits (run 35 (words_of r)) (leaf_of options r ahead)
leaf-fits options r ahead =
    let level = run 35 (words_of r) in
    let text = text_of options r ahead in
    let fenced = fenced_if (fence_of (indent_of r) (words_of r)) ahead in
    let heading = heading_if (is_atx_heading (words_of r)) level in
    let rule = break_if (is_thematic_break (words_of r)) in
    else-fits level (html_if r ahead (html_kind (words_of r))) (or_else rule (or_else heading (or_else fenced text))) (html-fits level r ahead (html_kind (words_of r)))
    (else-fits level rule (or_else heading (or_else fenced text)) (break-fits level (is_thematic_break (words_of r)))
    (else-fits level heading (or_else fenced text) (heading-fits level (is_atx_heading (words_of r)))
    (else-fits level fenced text (fenced-fits level (fence_of (indent_of r) (words_of r)) ahead)
    (text-fits level options r ahead))))

pub opens-fits : (options : Options) (r : Row) (ahead : List Row) → Fits (run 35 (words_of r)) (opens options r ahead)
unfolding opens
opens-fits options r ahead = by r.lazy
  where
    level : ℕ
    level = run 35 (words_of r)

    whole : (blank indented : Bool) → Fits level (if blank then Blank else if indented then Takes IndentedCode (counted code_continuation ahead) else or_else (nests_if (container_of options r)) (leaf_of options r ahead))
    whole true indented = tt
    whole false true = tt
    whole false false =
        else-fits level (nests_if (container_of options r)) (leaf_of options r ahead)
        (nests-fits level (container_of options r)
        (footnote-numbered (footnotes_in options) r _ (container-numbered (with_task options r (item_of r)) (is_block_quote r) _
        (task-numbered options r (item_of r) (item-numbered r (marker_of (words_of r)) (marker-numbered (words_of r)))))))
        (leaf-fits options r ahead)

    by : (lazy : Bool) → Fits level (if lazy then Plain else or_else (metadata_begun (metadata_kind options r) ahead) (whole_opens options r ahead))
    by true = tt
    by false = else-fits level (metadata_begun (metadata_kind options r) ahead) (whole_opens options r ahead) (metadata-fits level (metadata_kind options r) ahead) (whole (is_blank_line r) (nat_le 4 (indent_of r)))
