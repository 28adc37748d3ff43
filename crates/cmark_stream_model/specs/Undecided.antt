-- What the lines so far leave undecided about metadata. Each line is judged once.
use Rattle.std.specs.Prelude.{Bool, true, false, ◌||◌, if◌then◌else◌, List, Option, Some, None}
use Rattle.cmark_grammar.specs.Metadata.{ends_metadata, is_ended, metadata_kind}
use Rattle.cmark_grammar.specs.MetadataBlockKind.{MetadataBlockKind}
use Rattle.cmark_grammar.specs.Options.{Options}
use Rattle.cmark_grammar.specs.Rows.{Row, is_blank_line}
use Rattle.cmark_stream_model.specs.Growth.{decide_kind}

-- nothing; or the last line may begin metadata of this kind; or an earlier line may begin it, and no line so far ends it; or it stays undecided
-- after all lines
pub data Undecided : Type 0 where
  Nothing : Undecided
  Begun : (kind : MetadataBlockKind) → Undecided
  Open : (kind : MetadataBlockKind) → Undecided
  Forever : Undecided

abbrev pub is_nothing : Undecided → Bool
is_nothing Nothing = true
is_nothing (Begun kind) = false
is_nothing (Open kind) = false
is_nothing Forever = false

-- whether lines after those so far decide what is undecided
abbrev pub decided_by : Undecided → List Row → Bool
decided_by Nothing ahead = true
decided_by (Begun kind) ahead = decide_kind kind ahead
decided_by (Open kind) ahead = is_ended kind ahead
decided_by Forever ahead = false

-- after a line that begins a block or not, and that may begin metadata
abbrev pub begun_by : (begins : Bool) → Option MetadataBlockKind → Undecided
begun_by true (Some kind) = Begun kind
begun_by true None = Nothing
begun_by false kind = Nothing

-- after a further line of what may be metadata. If the line begins a block, this reader has found no end of the metadata in the text
abbrev pub left_open : (begins ends : Bool) → MetadataBlockKind → Undecided
left_open true ends kind = Forever
left_open false true kind = Nothing
left_open false false kind = Open kind

-- after the next line, which begins a block or not
abbrev pub undecided_after : Options → (begins : Bool) → Row → Undecided → Undecided
undecided_after options begins r Nothing = begun_by begins (metadata_kind options r)
undecided_after options begins r (Begun kind) = if is_blank_line r || ends_metadata kind r then begun_by begins (metadata_kind options r) else left_open begins false kind
undecided_after options begins r (Open kind) = left_open begins (ends_metadata kind r) kind
undecided_after options begins r Forever = Forever
