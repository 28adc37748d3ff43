-- The events of a document of blocks are balanced.
use Rattle.std.proofs.Common.{◌≡◌, ◌⊎◌, inl, inr, ⊎_elim, ℕ, zero, suc, List, [], ◌∷◌, ◌++◌, refl, ap, sym, subst, arith}
use Rattle.std.specs.Prelude.{map}
use Rattle.std.proofs.lemmas.List.{append_assoc, map-append}
use Rattle.cmark_grammar.specs.Tag.{Tag}
use Rattle.cmark_grammar.specs.TagEnd.{end_of}
use Rattle.cmark_grammar.specs.Event.{Event, Start, End, Ranged}
use Rattle.cmark_grammar.specs.BlockDocument.{BlockKind, BlockNode, BlockDocument, Nil, Node}
use Rattle.cmark_grammar.specs.BlockReading.{Reads, Around, Inside, Alone, First, read_as, over, node_events, first_event, starts_before, first_in, with_first, block_reading}
use Rattle.cmark_block_model.specs.Balance.{IsSingle, Balanced, Nothing, Single, Element}

abbrev events : List Ranged → List Event
events rs = map Ranged.event rs

pub balanced-append : (first second : List Event) → Balanced first → Balanced second → Balanced (first ++ second)
balanced-append _ second Nothing b = b
balanced-append _ second (Single event after single a) b = Single event (after ++ second) single (balanced-append after second a b)
balanced-append _ second (Element tag inside after i a) b =
    subst (λ es. Balanced (Start tag ∷ es)) (sym (append_assoc inside (End (end_of tag) ∷ after) second)) (Element tag inside (after ++ second) i (balanced-append after second a b))

-- an event of its own is neither a start nor an end
abbrev pub IsFit : Reads → Type 0
IsFit (Alone event) = IsSingle event
IsFit (First event) = IsSingle event
IsFit _ = Unit {0}

pub fit : (kind : BlockKind) → IsFit (read_as kind)
fit kind = grind arith

node-balanced : (reads : Reads) (node : BlockNode) (inside : List Ranged) → IsFit reads → Balanced (events inside) → Balanced (events (node_events reads node inside))
node-balanced (Around tag) node inside fits b =
    subst (λ es. Balanced (Start tag ∷ es)) (sym (map-append Ranged.event inside (record { event = End (end_of tag); start = node.start; end = node.end } ∷ []))) (Element tag (events inside) [] b Nothing)
node-balanced Inside node inside fits b = b
node-balanced (Alone event) node inside fits b = Single event [] fits Nothing
node-balanced _ node inside fits b = Nothing

abbrev put_event : (starts : ℕ) → Event → List Event → List Event
put_event zero e others = e ∷ others
put_event (suc starts) e [] = e ∷ []
put_event (suc starts) e (x ∷ others) = x ∷ put_event starts e others

-- a single event may come anywhere: in the element that begins first, or after it
put-within : (starts : ℕ) (e : Event) (tag : Tag) (inside after : List Event) → IsSingle e → ((n : ℕ) → Balanced (put_event n e inside)) → ((n : ℕ) → Balanced (put_event n e after)) → Balanced inside → Balanced after
    → Balanced (Start tag ∷ put_event starts e (inside ++ (End (end_of tag) ∷ after)))
put-within starts e tag inside after s pi pa i a = ⊎_elim (λ l. subst (λ es. Balanced (Start tag ∷ es)) (sym l) (Element tag (put_event starts e inside) after (pi starts) a))
    (λ r. subst (λ es. Balanced (Start tag ∷ es)) (sym r.1) (Element tag inside (put_event r.0 e after) i (pa r.0))) (split starts inside)
  where
    split : (starts : ℕ) (inside : List Event) → (put_event starts e (inside ++ (End (end_of tag) ∷ after)) ≡ put_event starts e inside ++ (End (end_of tag) ∷ after))
        ⊎ ((n : ℕ) × (put_event starts e (inside ++ (End (end_of tag) ∷ after)) ≡ inside ++ (End (end_of tag) ∷ put_event n e after)))
    split zero inside = inl refl
    split (suc starts) [] = inr (starts, refl)
    split (suc starts) (x ∷ inside) = ⊎_elim (λ l. inl (ap (λ es. x ∷ es) l)) (λ r. inr (r.0, ap (λ es. x ∷ es) r.1)) (split starts inside)

put-balanced : (starts : ℕ) (e : Event) (others : List Event) → IsSingle e → Balanced others → Balanced (put_event starts e others)
put-balanced zero e others s b = Single e others s b
put-balanced (suc starts) e _ s Nothing = Single e [] s Nothing
put-balanced (suc starts) e _ s (Single x after single b) = Single x (put_event starts e after) single (put-balanced starts e after s b)
put-balanced (suc starts) e _ s (Element tag inside after i a) = put-within starts e tag inside after s (λ n. put-balanced n e inside s i) (λ n. put-balanced n e after s a) i a

events-put : (starts : ℕ) (e : Ranged) (others : List Ranged) → put_event starts e.event (events others) ≡ events (first_in starts e others)
events-put zero e others = refl
events-put (suc starts) e [] = refl
events-put (suc starts) e (r ∷ others) = ap (λ es. r.event ∷ es) (events-put starts e others)

first-balanced : (reads : Reads) (starts : ℕ) (node : BlockNode) (others : List Ranged) → IsFit reads → Balanced (events others) → Balanced (events (with_first (first_event reads) starts node others))
first-balanced (First event) starts node others fits b = subst Balanced (events-put starts (over node event) others) (put-balanced starts event (events others) fits b)
first-balanced _ starts node others fits b = b

pub reading-balanced : (document : BlockDocument) → Balanced (events (block_reading document))
reading-balanced Nil = Nothing
reading-balanced (Node node inside after) =
    first-balanced (read_as node.kind) (starts_before after) node (node_events (read_as node.kind) node (block_reading inside) ++ block_reading after) (fit node.kind)
    (subst Balanced (sym (map-append Ranged.event (node_events (read_as node.kind) node (block_reading inside)) (block_reading after)))
    (balanced-append (events (node_events (read_as node.kind) node (block_reading inside))) (events (block_reading after))
    (node-balanced (read_as node.kind) node (block_reading inside) (fit node.kind) (reading-balanced inside)) (reading-balanced after)))
