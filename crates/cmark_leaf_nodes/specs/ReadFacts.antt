-- That a line is read from a text has one proof at most, so it may be a ghost field.
use Rattle.std.specs.Prelude.{ℕ, suc, List, [], ◌∷◌}
use Rattle.std.specs.Str.{IsCharBoundary}
use Rattle.std.proofs.Props.{props}
use Rattle.cmark_grammar.specs.Columns.{Column}
use Rattle.cmark_block_model.proofs.RowEdges.{AreGood}
use Rattle.cmark_block_model.proofs.RowPlaces.{Runs}
use Rattle.cmark_line_rules.specs.declared.line_rest.LineRest.{LineRest}
use Rattle.cmark_leaf_nodes.specs.Contents.{AreRead}
use Rattle.cmark_leaf_nodes.specs.TextColumns.{IsRead, StandInText}

Runs-prop : (from : ℕ) (cs : List Column) (to : ℕ) → IsProp (Runs from cs to)
Runs-prop from [] to = Prim.hlevel props
Runs-prop from (c ∷ cs) to = Prim.hlevel (props, Runs-prop (suc c.at) cs to)

AreGood-prop : (text : List ℕ) (cs : List Column) → IsProp (AreGood (IsCharBoundary text) cs)
AreGood-prop text [] = Prim.hlevel props
AreGood-prop text (c ∷ cs) = Prim.hlevel (props, AreGood-prop text cs)

StandInText-prop : (text : List ℕ) (cs : List Column) → IsProp (StandInText text cs)
StandInText-prop text [] = Prim.hlevel props
StandInText-prop text (c ∷ cs) = Prim.hlevel (props, StandInText-prop text cs)

pub IsRead-prop : (text : List ℕ) (rest : LineRest) → IsProp (IsRead text rest)
IsRead-prop text rest = Prim.hlevel (props, Runs-prop, AreGood-prop, StandInText-prop)

pub AreRead-prop : (text : List ℕ) (lines : List LineRest) → IsProp (AreRead text lines)
AreRead-prop text [] = Prim.hlevel props
AreRead-prop text (rest ∷ lines) = Prim.hlevel (props, IsRead-prop text rest, AreRead-prop text lines)
