-- A flat record and its bytes.
use Rattle.std.specs.Prelude.{ℕ, List, [], ◌∷◌, ◌++◌, length}
use Rattle.std.specs.List.{flat_map}
use Rattle.std.specs.Int.{w64, to_le_bytes}
use Rattle.cmark_flat.specs.declared.record.Record.{Record}

pub record FlatRecord : Type 0 where
  pub kind : ℕ
  pub tag : ℕ
  pub datum : ℕ
  pub start : ℕ
  pub end : ℕ
  pub text : List ℕ

-- a record of the code
abbrev pub shown_record : Record → FlatRecord
shown_record r = record { kind = r.kind; tag = r.tag; datum = r.datum; start = r.start; end = r.end; text = r.text.now }

-- the bytes of the head that have no meaning
abbrev pub unused : List ℕ
unused = 0 ∷ 0 ∷ 0 ∷ 0 ∷ 0 ∷ []

-- a number as eight bytes, the lowest first
unfoldable pub wide : ℕ → List ℕ
wide n = to_le_bytes w64 n

-- the bytes of a record before its text
abbrev pub head : (kind tag datum start end size : ℕ) → List ℕ
head kind tag datum start end size = kind ∷ tag ∷ datum ∷ unused ++ wide start ++ wide end ++ wide size

abbrev pub record_bytes : FlatRecord → List ℕ
record_bytes r = head r.kind r.tag r.datum r.start r.end (length r.text) ++ r.text

-- records, one after the other
abbrev pub spelled : List FlatRecord → List ℕ
spelled rs = flat_map record_bytes rs
