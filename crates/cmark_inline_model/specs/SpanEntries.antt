-- A row of entries, one for each of some siblings, and the entries that their pairs write into it. At first each sibling has its own entry.
-- Then each pair replaces its bytes' entries with those that open and close its spans, from the inside outwards (CommonMark 6.2, rules 13
-- and 14).
use Rattle.std.specs.Prelude.{ℕ, zero, suc, ◌+◌, ◌-◌, ◌≤◌, List, [], ◌∷◌, ◌++◌, slice_set}
use Rattle.cmark_grammar.specs.Emphasis.{Pair, kinds_of}
use Rattle.cmark_grammar.specs.Spans.{SpanKind, span_width, Spans, Nil, Single, Around}

-- these entries in place of the ones from a place on
abbrev pub write : {Entry : Type 0} → (at : ℕ) → List Entry → List Entry → List Entry
write at [] entries = entries
write at (x ∷ xs) entries = write (suc at) xs (slice_set entries at x)

-- the bytes of the pair are among the first `count` siblings
pub record IsWithin (count : ℕ) (pair : Pair) : Type 0 where
  pub opens : pair.count ≤ pair.from
  pub ordered : pair.from ≤ pair.to
  pub closes : pair.to + pair.count ≤ count

abbrev pub AllWithin : ℕ → List Pair → Type 0
AllWithin count [] = Unit {0}
AllWithin count (pair ∷ pairs) = IsWithin count pair × AllWithin count pairs

-- the entry of an unchanged sibling, and those of the bytes that open and close a span
module _ (Entry : Type 0) (single : Entry) (opening closing : SpanKind → List Entry) where
  -- `n` siblings, each unchanged
  abbrev pub stays : ℕ → List Entry
  stays zero = []
  stays (suc n) = single ∷ stays n

  -- the entries of siblings with these spans around them
  abbrev pub entries_of : Spans → List Entry
  entries_of Nil = []
  entries_of (Single at after) = single ∷ entries_of after
  entries_of (Around span inside after) = (opening span.kind ++ (entries_of inside ++ closing span.kind)) ++ entries_of after

  -- spans around the entries between two places, the innermost first
  abbrev pub mark_spans : List SpanKind → (from to : ℕ) → List Entry → List Entry
  mark_spans [] from to entries = entries
  mark_spans (kind ∷ kinds) from to entries =
      mark_spans kinds (from - span_width kind) (to + span_width kind)
      (write to (closing kind) (write (from - span_width kind) (opening kind) entries))

  abbrev pub mark_pair : Pair → List Entry → List Entry
  mark_pair pair entries = mark_spans (kinds_of pair.delimiter pair.count) pair.from pair.to entries

  abbrev pub mark_pairs : List Pair → List Entry → List Entry
  mark_pairs [] entries = entries
  mark_pairs (pair ∷ pairs) entries = mark_pairs pairs (mark_pair pair entries)
