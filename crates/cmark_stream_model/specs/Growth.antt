-- A text that grows at its end. The definitions say which blocks are open after its first lines, and at which lines the earlier blocks stay
-- as they are.
use Rattle.std.specs.Prelude.{length, ◌≡◌, ℕ, Bool, true, false, ◌==◌, ◌&&◌, ◌||◌, not, List, [], ◌∷◌, ◌++◌, Option, Some, None}
use Rattle.cmark_grammar.specs.Characters.{left_bracket, pipe}
use Rattle.cmark_grammar.specs.Answers.{Lookup}
use Rattle.cmark_grammar.specs.BlockDocument.{BlockDocument, Reference, join}
use Rattle.cmark_grammar.specs.Derivation.{document_of}
use Rattle.cmark_block_model.specs.DocumentModel.{document}
use Rattle.cmark_grammar.specs.Event.{Ranged}
use Rattle.cmark_grammar.specs.LeafReading.{Between as BetweenLeaves}
use Rattle.cmark_grammar.specs.Questions.{Saying}
use Rattle.cmark_grammar.specs.Readers.{Reader}
use Rattle.cmark_grammar.specs.SpanDocuments.{Segment, ReadsAll}
use Rattle.cmark_grammar.specs.Lines.{lines, ends_line}
use Rattle.cmark_grammar.specs.Metadata.{is_ended, metadata_kind}
use Rattle.cmark_grammar.specs.MetadataBlockKind.{MetadataBlockKind}
use Rattle.cmark_grammar.specs.Options.{Options}
use Rattle.cmark_grammar.specs.Places.{Apart}
use Rattle.cmark_grammar.specs.Columns.{Column}
use Rattle.cmark_grammar.specs.Rows.{Row, rows, rows_from, shown, is_blank_line}
use Rattle.cmark_grammar.specs.Leaves.{Stops, underlines}
use Rattle.cmark_grammar.specs.Containers.{BlockQuote, Item, Footnote, ListDefinition, keeps, is_bare_start, bare_after}
use Rattle.cmark_grammar.specs.Openings.{Opening, Blank, Nests, Takes, Plain, opens_at, texts, lazily}
use Rattle.cmark_grammar.specs.Blocks.{Blocks, Nil, BlankLine, Paragraph, SetextHeading, LeafBlock, ContainerBlock}
use Rattle.cmark_grammar.specs.Lists.{definition_delimiter, is_title, goes_on}
use Rattle.cmark_block_model.specs.BlocksModel.{place_after, blocks}
use Rattle.cmark_block_model.specs.BlocksByLine.{OpenLines, Between, AfterTag, InParagraph, InLeaf, InVerbatim, InContainer, continuation_if, close_lines, lines_take_lazy, lines_feed, lines_feed_all}

-- the first bytes end with a whole line ending if the tail follows. A carriage return at their end is not the first half of a line ending
abbrev pub ends_whole : (front tail : List ℕ) → Bool
ends_whole [] tail = true
ends_whole (b ∷ []) tail = ends_line b tail
ends_whole (b ∷ (c ∷ bs)) tail = ends_whole (c ∷ bs) tail

abbrev pub is_blank : Opening → Bool
is_blank Blank = true
is_blank (Nests container) = false
is_blank (Takes leaf more) = false
is_blank Plain = false

module _ (options : Options) where
  -- more lines are read, before the lines of the tail
  abbrev pub fed_before : (tail : List Row) → OpenLines → List Row → OpenLines
  fed_before tail o [] = o
  fed_before tail o (r ∷ rs) = fed_before tail (lines_feed options o r (shown (rs ++ tail))) rs

  -- the blocks of a tail, at this offset of the whole text
  abbrev pub blocks_at : (at : ℕ) → List ℕ → Blocks
  blocks_at at text = close_lines (lines_feed_all options (Between Nil) (rows_from at (lines text)))

  -- the open blocks after the last line of a text, before the end of the text closes them
  abbrev pub open_after : List ℕ → OpenLines
  open_after text = lines_feed_all options (Between Nil) (rows text)

  -- a line, with these lines ahead, continues no open block: it begins a block after all of them
  abbrev pub Parts : OpenLines → Row → List Row → Type 0
  Parts (Between closed) r ahead = Unit {0}
  Parts AfterTag r ahead = ⊥
  Parts (InParagraph closed first more) r ahead = (underlines r ≡ None) × (texts options r ahead ≡ false)
  Parts (InLeaf closed leaf first had left) r ahead = left ≡ 0
  Parts (InVerbatim closed verbatim first had waiting) r ahead = continuation_if r.lazy verbatim r ≡ Stops
  Parts (InContainer closed k first more inside) r ahead =
      (keeps k (bare_after (is_bare_start k first) more) r ≡ None) × ((lazily options k r ahead && lines_take_lazy inside) ≡ false)

  -- a text has a cut after its first bytes if a block begins there. The first bytes have the same effect before these lines as alone. The first
  -- of these lines continues no open block, is not blank, and begins the same block as at the beginning of a text
  pub record IsCut (front : List ℕ) (r : Row) (rs : List Row) : Type 0 where
    pub settled : fed_before (r ∷ rs) (Between Nil) (rows front) ≡ open_after front
    pub parts : Parts (open_after front) r (shown rs)
    pub same : opens_at options (place_after Apart (close_lines (open_after front))) r (shown rs) ≡ opens_at options Apart r (shown rs)
    pub begins : is_blank (opens_at options Apart r (shown rs)) ≡ false

-- these blocks continue no list: the first of them, blank lines aside, is no list item, no definition, and no title of one
abbrev pub begins_apart : Blocks → Bool
begins_apart Nil = true
begins_apart (BlankLine line after) = begins_apart after
begins_apart (Paragraph first more after) = not (is_title after)
begins_apart (SetextHeading level first more underline after) = true
begins_apart (LeafBlock leaf first more after) = true
begins_apart (ContainerBlock (BlockQuote alert) first more inside after) = true
begins_apart (ContainerBlock (Footnote label old size) first more inside after) = true
begins_apart (ContainerBlock (Item delimiter number width task) first more inside after) = false
begins_apart (ContainerBlock (ListDefinition width) first more inside after) = false

-- two lists of segments are read in turn. The second is read with the rest of the reference expansion limit, and after the questions of the
-- first
pub record ReadInTurn (reader : Reader) (Says : Saying) (first second : List Segment) (before : BetweenLeaves) (events : List Ranged) (after : BetweenLeaves) : Type 0 where
  pub earlier : List Ranged
  pub later : List Ranged
  pub between : BetweenLeaves
  pub reads_first : ReadsAll reader Says first before earlier between
  pub reads_second : ReadsAll reader Says second between later after
  pub joined : events ≡ earlier ++ later

module _ (options : Options) (lookup : Lookup) where
  -- the documents of the bytes before a cut and after it, as parts of the whole text
  abbrev pub document_before : (text front : List ℕ) → BlockDocument
  document_before text front = document_of text options lookup false None (blocks options front)

  abbrev pub document_of_tail : (text : List ℕ) → (at : ℕ) → (tail : List ℕ) → BlockDocument
  document_of_tail text at tail = document_of text options lookup false None (blocks_at options at tail)

-- a line looks at later lines only if it has an opening bracket or a pipe. The bracket may begin a link reference definition, and the pipe
-- may begin a table
abbrev pub looks_ahead : ℕ → Bool
looks_ahead b = (b == left_bracket) || (b == pipe)

abbrev pub are_blind : List Column → Bool
are_blind [] = true
are_blind (c ∷ cs) = not (looks_ahead c.byte) && are_blind cs

abbrev pub has_blank_line : List Row → Bool
has_blank_line [] = false
has_blank_line (r ∷ rs) = is_blank_line r || has_blank_line rs

-- each line looks at no later line, or has a blank line after it; no line looks at the lines after a blank one
abbrev pub are_resolved : List Row → Bool
are_resolved [] = true
are_resolved (r ∷ rs) = (are_blind r.columns || has_blank_line rs) && are_resolved rs

-- these lines decide whether a block of metadata begins before them: the first of them is blank or ends it, or a later one ends it
abbrev pub decide_kind : MetadataBlockKind → List Row → Bool
decide_kind kind [] = false
decide_kind kind (r ∷ rs) = is_blank_line r || is_ended kind (r ∷ rs)

abbrev pub decide : Option MetadataBlockKind → List Row → Bool
decide None rs = true
decide (Some kind) rs = decide_kind kind rs

module _ (options : Options) where
  -- Lines that decide by themselves which of them begin metadata, though further lines follow. The end of metadata is searched for in all later
  -- lines. So each line that continues no open block, and may begin metadata, has its end among these lines
  abbrev pub AreDecided : (following : List Row) → OpenLines → List Row → Type 0
  AreDecided following o [] = Unit {0}
  AreDecided following o (r ∷ rs) =
      (Parts options o r (shown (rs ++ following)) → decide (metadata_kind options r) rs ≡ true) × AreDecided following (lines_feed options o r (shown (rs ++ following))) rs

-- no metadata is read
abbrev pub HasNoMetadata : Options → Type 0
HasNoMetadata options = (options.yaml_style_metadata_blocks ≡ false) × (options.pluses_delimited_metadata_blocks ≡ false)

-- the first definition, or else the other one
abbrev pub definition_or : Option Reference → Option Reference → Option Reference
definition_or (Some reference) other = Some reference
definition_or None other = other

-- this opening continues no list: it is no list item and no definition
abbrev pub is_outside_of_lists : Opening → Bool
is_outside_of_lists Blank = false
is_outside_of_lists (Nests (BlockQuote alert)) = true
is_outside_of_lists (Nests (Item delimiter number width task)) = false
is_outside_of_lists (Nests (Footnote label old size)) = true
is_outside_of_lists (Nests (ListDefinition width)) = false
is_outside_of_lists (Takes leaf more) = true
is_outside_of_lists Plain = true

-- the character of the list that could continue after these blocks, if there is one; `list` is the character of the list before them
abbrev pub last_list : (list : Option ℕ) → Blocks → Option ℕ
last_list list Nil = list
last_list list (BlankLine line after) = last_list list after
last_list list (Paragraph first more after) = last_list None after
last_list list (SetextHeading level first more underline after) = last_list None after
last_list list (LeafBlock leaf first more after) = last_list None after
last_list list (ContainerBlock (BlockQuote alert) first more inside after) = last_list None after
last_list list (ContainerBlock (Footnote label old size) first more inside after) = last_list None after
last_list list (ContainerBlock (Item delimiter number width task) first more inside after) = last_list (Some delimiter) after
last_list list (ContainerBlock (ListDefinition width) first more inside after) = last_list (Some definition_delimiter) after

-- whether these blocks continue this list
abbrev pub continues : (list : Option ℕ) → Blocks → Bool
continues None blocks = false
continues (Some delimiter) blocks = goes_on delimiter blocks

-- whether the blocks that begin with this opening may continue this list. If definition lists are read, a paragraph may be the next title of
-- one
abbrev pub may_continue : (titles : Bool) → (list : Option ℕ) → Opening → Bool
may_continue titles None opening = false
may_continue titles (Some delimiter) Blank = true
may_continue titles (Some delimiter) (Nests (BlockQuote alert)) = false
may_continue titles (Some delimiter) (Nests (Item other number width task)) = other == delimiter
may_continue titles (Some delimiter) (Nests (Footnote label old size)) = false
may_continue titles (Some delimiter) (Nests (ListDefinition width)) = true
may_continue titles (Some delimiter) (Takes leaf more) = false
may_continue titles (Some delimiter) Plain = titles && (definition_delimiter == delimiter)

-- this opening continues no list, and begins no paragraph, which may be a title
abbrev pub stands_apart : Opening → Bool
stands_apart Blank = false
stands_apart (Nests (BlockQuote alert)) = true
stands_apart (Nests (Item delimiter number width task)) = false
stands_apart (Nests (Footnote label old size)) = true
stands_apart (Nests (ListDefinition width)) = false
stands_apart (Takes leaf more) = true
stands_apart Plain = false

-- the document of a text is the document of its first bytes, joined with the document of the tail
abbrev pub IsJoined : Options → Lookup → (front tail : List ℕ) → Type 0
IsJoined options lookup front tail =
    document (front ++ tail) options lookup ≡ join (document_before options lookup (front ++ tail) front) (document_of_tail options lookup (front ++ tail) (length front) tail)
