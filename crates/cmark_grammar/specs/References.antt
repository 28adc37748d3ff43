-- The link reference definitions of a document: the first of each label counts (CommonMark 4.7). Example: of `[a]: /b` and a later
-- `[A]: /c` only the first counts.
use Rattle.std.specs.Prelude.{ℕ, Bool, true, false, List, [], ◌∷◌, ◌++◌, bytes_eq, Option, Some, None}
use Rattle.cmark_grammar.specs.BlockDocument.{Reference, BlockKind, LinkDefinition, BlockDocument, Nil, Node}

abbrev pub reference_of_kind : BlockKind → List Reference
reference_of_kind (LinkDefinition reference) = reference ∷ []
reference_of_kind _ = []

-- all definitions of a document, in order
abbrev pub references : BlockDocument → List Reference
references Nil = []
references (Node node inside after) = reference_of_kind node.kind ++ (references inside ++ references after)

-- the first of these definitions that has the folded label
abbrev pub found_or : Bool → Reference → Option Reference → Option Reference
found_or true reference other = Some reference
found_or false reference other = other

-- the first definition of a folded label (CommonMark 4.7)
abbrev pub first_with : (fold : List ℕ → List ℕ) → (folded : List ℕ) → List Reference → Option Reference
first_with fold folded [] = None
first_with fold folded (reference ∷ rs) = found_or (bytes_eq (fold reference.label) folded) reference (first_with fold folded rs)
