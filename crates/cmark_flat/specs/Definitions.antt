-- The flat records of link reference definitions, and the definitions that records stand for.
use Rattle.std.specs.Prelude.{ℕ, ◌==◌, ◌&&◌, if◌then◌else◌, List, [], ◌∷◌, ◌++◌, Option, Some, None}
use Rattle.std.specs.List.{flat_map}
use Rattle.cmark_grammar.specs.BlockDocument.{Reference}
use Rattle.cmark_flat.specs.Decode.{Group, ◌>>=◌, each, groups, part_text, records_of}
use Rattle.cmark_flat.specs.Flat.{part}
use Rattle.cmark_flat.specs.Numbers as number
use Rattle.cmark_flat.specs.Records.{FlatRecord, spelled}

-- the title, if there is one
abbrev pub title_parts : Option (List ℕ) → List FlatRecord
title_parts None = []
title_parts (Some title) = part number.title_part title ∷ []

abbrev pub definition_parts : (title : Option (List ℕ)) → (label : List ℕ) → List FlatRecord
definition_parts title label = title_parts title ++ (part number.label_part label ∷ [])

-- the record of a definition, without its further records
abbrev pub definition_record : Reference → FlatRecord
definition_record d = record { kind = number.definition_kind; tag = number.no_tag; datum = number.no_data; start = d.start; end = d.end; text = d.destination }

abbrev pub definition_records : Reference → List FlatRecord
definition_records d = definition_record d ∷ definition_parts d.title d.label

-- the bytes of definitions
abbrev pub flat_definitions : List Reference → List ℕ
flat_definitions ds = spelled (flat_map definition_records ds)

-- ---- and back

-- a title and a label, or a label alone
abbrev pub named_of : List FlatRecord → Option (Option (List ℕ) × List ℕ)
named_of [] = None
named_of (label ∷ []) = part_text number.label_part label >>= λ name. Some (None, name)
named_of (title ∷ label ∷ []) = do
  called ← part_text number.title_part title
  name ← part_text number.label_part label
  Some (Some called, name)
named_of (title ∷ label ∷ (third ∷ parts)) = None

abbrev pub definition_of : Group → Option Reference
definition_of g =
    if g.own.kind == number.definition_kind && (g.own.tag == number.no_tag && g.own.datum == number.no_data)
    then (named_of g.parts >>= λ named. Some (record { label = named.1; destination = g.own.text; title = named.0; start = g.own.start; end = g.own.end }))
    else None

-- the definitions that bytes stand for
abbrev pub decode_definitions : List ℕ → Option (List Reference)
decode_definitions bytes = records_of bytes >>= λ rs. each definition_of (groups rs)
