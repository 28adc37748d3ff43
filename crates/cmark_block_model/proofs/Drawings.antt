-- What is drawn is read as the document is, and its ranges lie as those of the document do.
use Rattle.std.proofs.Common.{◌≡◌, ℕ, ◌+◌, ◌*◌, ◌≤◌, Bool, true, false, List, [], ◌∷◌, ◌++◌, length, refl, ap, ◌∙◌, sym, subst, arith, length-append, zero, suc}
use Rattle.std.specs.Str.{IsCharBoundary, IsUtf8}
use Rattle.cmark_grammar.specs.Answers.{Lookup}
use Rattle.cmark_grammar.specs.Options.{Options}
use Rattle.cmark_grammar.specs.Event.{End, Ranged}
use Rattle.cmark_grammar.specs.TagEnd.{end_of}
use Rattle.cmark_grammar.specs.BlockDocument.{BlockKind, LinkDefinition, BlockNode, BlockDocument, Nil, Node}
use Rattle.cmark_grammar.specs.BlockReading.{Reads, Around, Inside, First, Silent, read_as, over, node_events, starts_of, starts_as, starts_before, first_event, first_in, with_first, block_reading, is_title, title_as, begins_title}
use Rattle.cmark_grammar.specs.Derivation.{Derives}
use Rattle.cmark_block_model.specs.DocumentModel.{document}
use Rattle.cmark_block_model.specs.DrawnDocument.{is_definition, node_unless, settled, without_definitions}
use Rattle.cmark_block_model.specs.Tightness.{tight_within}
use Rattle.cmark_block_model.specs.Ranges.{AllAt, InOrder, count_nodes, count_tables}
use Rattle.cmark_block_model.specs.BlocksModel.{blocks}
use Rattle.cmark_block_model.proofs.BlocksSound.{blocks-body}
use Rattle.cmark_block_model.proofs.BoundaryLaws.{derived-boundaries}
use Rattle.cmark_block_model.proofs.CountLaws.{derived-count}
use Rattle.cmark_block_model.proofs.RangeLaws.{derived-order}
use Rattle.cmark_block_model.proofs.TokenRanges.{InOrder-lower}
use Rattle.cmark_block_model.specs.BlockPass.{pass_over}
use Rattle.cmark_block_model.proofs.Theorem.{pass-draws}

-- a definition is not read
pub silent : (k : BlockKind) → is_definition k ≡ true → read_as k ≡ Silent
silent (LinkDefinition reference) e = refl
silent _ e = absurd (let q : false ≡ true = e in cc)

-- so a title comes first after definitions if it comes first without them
whole-titled : (d : BlockDocument) → begins_title (without_definitions d) ≡ begins_title d
whole-titled Nil = refl
whole-titled (Node n inside after) = go (is_definition n.kind) refl (whole-titled after)
  where
    go : (b : Bool) → is_definition n.kind ≡ b → begins_title (without_definitions after) ≡ begins_title after
        → begins_title (node_unless b n (without_definitions inside) (without_definitions after)) ≡ title_as (is_title n.kind) (read_as n.kind) (begins_title after)
    go true e a = a ∙ ap (λ r. title_as (is_title n.kind) r (begins_title after)) (sym (silent n.kind e))
    go false e a = ap (title_as (is_title n.kind) (read_as n.kind)) a

-- and the number of starts before it is the same
pub whole-begins : (d : BlockDocument) → starts_before (without_definitions d) ≡ starts_before d
whole-begins Nil = refl
whole-begins (Node n inside after) = go (is_definition n.kind) refl (whole-begins after)
  where
    go : (b : Bool) → is_definition n.kind ≡ b → starts_before (without_definitions after) ≡ starts_before after
        → starts_before (node_unless b n (without_definitions inside) (without_definitions after)) ≡ starts_as (starts_of n.kind (begins_title inside)) (read_as n.kind) (starts_before after)
    go true e a = a ∙ ap (λ r. starts_as (starts_of n.kind (begins_title inside)) r (starts_before after)) (sym (silent n.kind e))
    go false e a =
        ap (λ z. starts_as (starts_of n.kind z) (read_as n.kind) (starts_before (without_definitions after))) (whole-titled inside)
        ∙ ap (starts_as (starts_of n.kind (begins_title inside)) (read_as n.kind)) a

-- and a document without its definitions is read as the document is
pub whole-read : (d : BlockDocument) → block_reading (without_definitions d) ≡ block_reading d
whole-read Nil = refl
whole-read (Node n inside after) = go (is_definition n.kind) refl (whole-read inside) (whole-read after)
  where
    go : (b : Bool) → is_definition n.kind ≡ b → block_reading (without_definitions inside) ≡ block_reading inside → block_reading (without_definitions after) ≡ block_reading after
        → block_reading (node_unless b n (without_definitions inside) (without_definitions after)) ≡ with_first (first_event (read_as n.kind)) (starts_before after) n (node_events (read_as n.kind) n (block_reading inside) ++ block_reading after)
    go true e i a = a ∙ ap (λ r. with_first (first_event r) (starts_before after) n (node_events r n (block_reading inside) ++ block_reading after)) (sym (silent n.kind e))
    go false e i a =
        ap (λ z. with_first (first_event (read_as n.kind)) z n (node_events (read_as n.kind) n (block_reading (without_definitions inside)) ++ block_reading (without_definitions after))) (whole-begins after)
        ∙ ap (λ l. with_first (first_event (read_as n.kind)) (starts_before after) n (node_events (read_as n.kind) n l ++ block_reading (without_definitions after))) i
        ∙ ap (λ l. with_first (first_event (read_as n.kind)) (starts_before after) n (node_events (read_as n.kind) n (block_reading inside) ++ l)) a

order-le : (from : ℕ) (d : BlockDocument) (to : ℕ) → InOrder from d to → from ≤ to
order-le from Nil to h = h
order-le from (Node n inside after) to h =
    let a : from ≤ n.start = h.0 in let b = order-le n.start inside n.end h.1 in let c = order-le n.end after to h.2 in omega (arith, a, b, c)

whole-order : (from : ℕ) (d : BlockDocument) (to : ℕ) → InOrder from d to → InOrder from (without_definitions d) to
whole-order from Nil to h = h
whole-order from (Node n inside after) to h = go (is_definition n.kind) (whole-order n.start inside n.end h.1) (whole-order n.end after to h.2)
  where
    go : (b : Bool) → InOrder n.start (without_definitions inside) n.end → InOrder n.end (without_definitions after) to → InOrder from (node_unless b n (without_definitions inside) (without_definitions after)) to
    go true i a = let p : from ≤ n.start = h.0 in let q = order-le n.start inside n.end h.1 in InOrder-lower from n.end (without_definitions after) to (omega (arith, p, q)) a
    go false i a = (h.0, i, a)

whole-edges : (Place : ℕ → Type 0) (d : BlockDocument) → AllAt Place d → AllAt Place (without_definitions d)
whole-edges Place Nil h = h
whole-edges Place (Node n inside after) h = go (is_definition n.kind) (whole-edges Place inside h.2) (whole-edges Place after h.3)
  where
    go : (b : Bool) → AllAt Place (without_definitions inside) → AllAt Place (without_definitions after) → AllAt Place (node_unless b n (without_definitions inside) (without_definitions after))
    go true i a = a
    go false i a = (h.0, h.1, i, a)

-- to settle paragraphs changes no range
settled-order : (tight : Bool) (from : ℕ) (d : BlockDocument) (to : ℕ) → InOrder from (settled tight d) to → InOrder from d to
settled-order tight from Nil to h = h
settled-order tight from (Node n inside after) to h = (h.0, settled-order (tight_within tight n.kind) n.start inside n.end h.1, settled-order tight n.end after to h.2)

settled-edges : (Place : ℕ → Type 0) (tight : Bool) (d : BlockDocument) → AllAt Place (settled tight d) → AllAt Place d
settled-edges Place tight Nil h = h
settled-edges Place tight (Node n inside after) h = (h.0, h.1, settled-edges Place (tight_within tight n.kind) inside h.2, settled-edges Place tight after h.3)

-- a node is read as two events at most
node-few : (r : Reads) (n : BlockNode) (l : List Ranged) → length (node_events r n l) ≤ 2 + length l
node-few (Around tag) n l = let e = length-append l (over n (End (end_of tag)) ∷ []) in omega (arith, e)
node-few _ n l = omega arith

-- a further event comes first in the events after it
first-few : (starts : ℕ) (e : Ranged) (others : List Ranged) → length (first_in starts e others) ≤ 1 + length others
first-few zero e others = omega arith
first-few (suc starts) e [] = omega arith
first-few (suc starts) e (r ∷ others) = let f = first-few starts e others in omega (arith, f)

with-few : (r : Reads) (element : ℕ) (n : BlockNode) (l others : List Ranged) → length (with_first (first_event r) element n (node_events r n l ++ others)) ≤ 2 + (length l + length others)
with-few (Around tag) element n l others = let e = length-append (node_events (Around tag) n l) others in let f = node-few (Around tag) n l in omega (arith, e, f)
with-few Inside element n l others = let e = length-append l others in omega (arith, e)
with-few (First event) element n l others = let f = first-few element (over n event) others in omega (arith, f)
with-few _ element n l others = omega arith

-- a drawing is in order if the document is that it draws, and its ranges begin and end at the same kind of places
module _ (d whole : BlockDocument) (settles : settled false d ≡ without_definitions whole) where
  pub drawing-order : (to : ℕ) → InOrder 0 whole to → InOrder 0 d to
  drawing-order to h = settled-order false 0 d to (subst (λ x. InOrder 0 x to) (sym settles) (whole-order 0 whole to h))

  pub drawing-edges : (Place : ℕ → Type 0) → AllAt Place whole → AllAt Place d
  drawing-edges Place h = settled-edges Place false d (subst (AllAt Place) (sym settles) (whole-edges Place whole h))

read-few : (d : BlockDocument) → length (block_reading d) ≤ 2 * count_nodes d
read-few Nil = omega arith
read-few (Node n inside after) =
    let f = with-few (read_as n.kind) (starts_before after) n (block_reading inside) (block_reading after) in
    let i = read-few inside in
    let a = read-few after in
    omega (arith, f, i, a)

pub derived-few : (text : List ℕ) (options : Options) (lookup : Lookup) (d : BlockDocument) → Derives text options lookup d → length (block_reading d) ≤ 8 * length text + 524288 * count_tables d
derived-few text options lookup d h = let a = read-few d in let b = derived-count text options lookup d h in omega (arith, a, b)

module _ (text : List ℕ) (options : Options) (lookup : Lookup) where
  pub derived : Derives text options lookup (document text options lookup)
  derived = (blocks options text, blocks-body options text, refl)

  pub drawn-read : block_reading (settled false (pass_over text options lookup).drawing.here) ≡ block_reading (document text options lookup)
  drawn-read = ap block_reading (pass-draws text options lookup).0 ∙ whole-read (document text options lookup)

  pub drawn-order : InOrder 0 (pass_over text options lookup).drawing.here (length text)
  drawn-order =
      drawing-order (pass_over text options lookup).drawing.here (document text options lookup) (pass-draws text options lookup).0 (length text)
      (derived-order text options lookup (document text options lookup) derived)

  pub drawn-edges : IsUtf8 text → AllAt (IsCharBoundary text) (pass_over text options lookup).drawing.here
  drawn-edges utf8 =
      drawing-edges (pass_over text options lookup).drawing.here (document text options lookup) (pass-draws text options lookup).0 (IsCharBoundary text)
      (derived-boundaries text options lookup (document text options lookup) utf8 derived)
