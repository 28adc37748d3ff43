-- The contents of a table of link reference definitions (CommonMark 4.7), and of a table of footnote definitions.
use Rattle.std.specs.Prelude.{ℕ, List, map, bytes_eq, if◌then◌else◌, Option, Some, None, option_map}
use Rattle.std.specs.Borrow.{Bor}
use Rattle.std.specs.BTreeMap.{is_at}
use Rattle.std.specs.Map.{lookup, lookup_entry}
use Rattle.std.specs.Cmp.Lexicographic.{slice_cmp}
use Rattle.std.specs.Ordering.{nat_cmp}
use Rattle.cmark_grammar.specs.BlockDocument.{Reference}
use Rattle.cmark_values.specs.Labelled.{link_text, link_key}
use Rattle.cmark_values.specs.declared.label.LinkLabel.{LinkLabel}
use Rattle.cmark_references.specs.declared.definitions.LinkDef.{LinkDef}
use Rattle.cmark_references.specs.declared.definitions.RefDefs.{RefDefs}
use Rattle.cmark_references.specs.declared.definitions.RefDefsIter.{RefDefsIter}
use Rattle.cmark_values.specs.Shown.{text_bytes}

-- the definition of a folded label
abbrev pub definition : RefDefs → List ℕ → Option LinkDef
definition table folded = lookup (is_at (λ label. slice_cmp nat_cmp folded (link_key label))) table

-- the label that has this folded form, with its spelling, and its definition
abbrev pub entry_of : RefDefs → List ℕ → Option (LinkLabel × LinkDef)
entry_of table folded = lookup_entry (is_at (λ label. slice_cmp nat_cmp folded (link_key label))) table

-- a label's normal form with its definition
abbrev pub entry : LinkLabel × LinkDef → List ℕ × LinkDef
entry e = (link_text e.0, e.1)

-- all definitions, each with its label
abbrev pub definitions : RefDefs → List (List ℕ × LinkDef)
definitions table = map entry table

-- the first definition if there is one, else the second
abbrev pub first_of : {D : Type 0} → Option D → Option D → Option D
first_of (Some def) other = Some def
first_of None other = other

-- the definition, if the folded labels are equal
abbrev pub at_label : {D : Type 0} → (label : List ℕ) → D → (folded : List ℕ) → Option D
at_label label def folded = if bytes_eq folded label then Some def else None

-- the definitions that an iterator has not returned yet
abbrev pub left : RefDefsIter → List (List ℕ × LinkDef)
left iter = map entry iter.entries

-- the label and the definition that an iterator returns
abbrev pub seen : Bor (List ℕ) × Bor LinkDef → List ℕ × LinkDef
seen given = (given.0.now, given.1.now)

-- a definition by its destination, its title and its range
pub record ShownDefinition : Type 0 where
  pub destination : List ℕ
  pub title : Option (List ℕ)
  pub start : ℕ
  pub end : ℕ

abbrev pub shown_definition : LinkDef → ShownDefinition
shown_definition def = record { destination = text_bytes def.dest; title = option_map text_bytes def.title; start = def.span.start; end = def.span.end }

-- an entry as in a document: the label's normal form, with the destination, the title and the range of the definition
abbrev pub labelled : List ℕ → ShownDefinition → Reference
labelled label d = record { label = label; destination = d.destination; title = d.title; start = d.start; end = d.end }

abbrev pub shown_entry : LinkLabel × LinkDef → Reference
shown_entry e = labelled (link_text e.0) (shown_definition e.1)

-- the entry of a folded label, as in a document
abbrev pub reference_at : RefDefs → List ℕ → Option Reference
reference_at table folded = option_map shown_entry (entry_of table folded)
