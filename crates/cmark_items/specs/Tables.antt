-- The contents of the tables.
use Rattle.std.specs.Prelude.{◌≡◌, ℕ, List, [], ◌∷◌, ◌++◌, slice_set}
use Rattle.cmark_values.specs.Shown.{text_bytes}
use Rattle.cmark_values.specs.declared.text.CowStr.{CowStr}
use Rattle.cmark_values.specs.declared.kind.Alignment.{Alignment}
use Rattle.cmark_references.specs.Links.{IsUnknown}
use Rattle.cmark_references.specs.declared.link.Link.{Link}
use Rattle.cmark_references.specs.declared.definitions.RefDefs.{RefDefs}
use Rattle.cmark_references.specs.declared.footnotes.FootnoteDefs.{FootnoteDefs}

-- the texts, the links and images, and the alignments of tables, each at its index; and the definitions of links and of footnotes
pub record Tables : Type 0 where
  pub texts : List CowStr
  pub links : List Link
  pub alignments : List (List Alignment)
  pub references : RefDefs
  pub footnotes : FootnoteDefs

-- the definitions in the tables
pub record Defined : Type 0 where
  pub references : RefDefs
  pub footnotes : FootnoteDefs

abbrev pub defined : Tables → Defined
defined t = record { references = t.references; footnotes = t.footnotes }

abbrev pub with_text : CowStr → Tables → Tables
with_text text t = record t { texts = t.texts ++ text ∷ [] }

abbrev pub with_link : Link → Tables → Tables
with_link link t = record t { links = t.links ++ link ∷ [] }

abbrev pub with_alignments : List Alignment → Tables → Tables
with_alignments row t = record t { alignments = t.alignments ++ row ∷ [] }

-- an empty text is at the index instead
abbrev pub LeavesNoText : ℕ → Tables → Tables → Type 0
LeavesNoText index old new = (left : CowStr) × (text_bytes left ≡ []) × (new ≡ record old { texts = slice_set old.texts index left })

-- an unknown shortcut without texts is at the index instead
abbrev pub LeavesNoLink : ℕ → Tables → Tables → Type 0
LeavesNoLink index old new = (left : Link) × IsUnknown left × (new ≡ record old { links = slice_set old.links index left })

-- an empty list of alignments is at the index instead
abbrev pub without_alignments : ℕ → Tables → Tables
without_alignments index t = record t { alignments = slice_set t.alignments index [] }
