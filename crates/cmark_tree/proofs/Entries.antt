-- The nodes after a write to where they are stored. No other file of lemmas knows how they are stored.
use Rattle.std.proofs.Common.{◌≡◌, ◌≢◌, Option, ◌⊎◌, inl, inr, ℕ, zero, suc, ◌-◌, ◌<◌, ◌≤◌, List, [], ◌∷◌, ◌++◌, length, slice_set, get_or, Some, None, Result, Ok, Err, OnErr, refl, sym, ap, ◌∙◌, subst, arith, length-append, length-set}
use Rattle.std.specs.Prelude.{slice_get}
use Rattle.std.specs.Coded.{le_prop}
use Rattle.std.specs.List.{swap}
use Rattle.std.proofs.lemmas.List.Edits.{swap_is}
use Rattle.std.proofs.lemmas.Option.{slice_get-get_or, slice_get_past, same_Some}
use Rattle.cmark_tree.specs.declared.links.Link.{Link}
use Rattle.cmark_tree.specs.declared.nodes.Nodes.{Nodes}
use Rattle.cmark_tree.specs.Arena.{Entry}
use Rattle.cmark_tree.specs.Links.{links_of, links_room, no_links, linked_next, linked_child}
use Rattle.cmark_tree.specs.Nodes.{entry_of, entry_in, node_at, node_count, HasNumber, IsGrown, IsChanged, IsMoved, SameNodes, with_next, with_child, with_other_item}
use Rattle.cmark_tree.specs.Lending.{with_stored_item}

slice_get-set_same : {A : Type 0} → (xs : List A) (i : ℕ) (v : A) → i < length xs → slice_get (slice_set xs i v) i ≡ Some v
slice_get-set_same [] i v h = absurd (omega arith)
slice_get-set_same (x ∷ xs) zero v h = refl
slice_get-set_same (x ∷ xs) (suc i) v h = slice_get-set_same xs i v (omega arith)

slice_get-set_other : {A : Type 0} → (xs : List A) (i j : ℕ) (v : A) → i ≢ j → slice_get (slice_set xs i v) j ≡ slice_get xs j
slice_get-set_other [] i j v h = refl
slice_get-set_other (x ∷ xs) zero zero v h = absurd (h refl)
slice_get-set_other (x ∷ xs) zero (suc j) v h = refl
slice_get-set_other (x ∷ xs) (suc i) zero v h = refl
slice_get-set_other (x ∷ xs) (suc i) (suc j) v h = slice_get-set_other xs i j v (λ e. h (ap suc e))

pub slice_get-end : {A : Type 0} → (xs : List A) (y : A) → slice_get (xs ++ y ∷ []) (length xs) ≡ Some y
slice_get-end [] y = refl
slice_get-end (x ∷ xs) y = slice_get-end xs y

slice_get-pushed : {A : Type 0} → (xs : List A) (y : A) (i : ℕ) → i ≢ length xs → slice_get (xs ++ y ∷ []) i ≡ slice_get xs i
slice_get-pushed [] y zero h = absurd (h refl)
slice_get-pushed [] y (suc i) h = refl
slice_get-pushed (x ∷ xs) y zero h = refl
slice_get-pushed (x ∷ xs) y (suc i) h = slice_get-pushed xs y i (λ e. h (ap suc e))

pub on_err : {A E : Type 0} → (r : Result A E) (P : Type 0) → P → OnErr r P
on_err (Ok x) P p = tt
on_err (Err e) P p = p

le_or_lt : (a b : ℕ) → (a ≤ b) ⊎ (b < a)
le_or_lt zero b = inl (omega arith)
le_or_lt (suc a) zero = inr (omega arith)
le_or_lt (suc a) (suc b) = elim (le_or_lt a b) [ inl l ↦ inl (omega (arith, l)) | inr l ↦ inr (omega (arith, l)) ]

-- the elements of a list after two of them are exchanged
swap_second : {A : Type 0} → (xs : List A) (a b : ℕ) → a < length xs → b < length xs → slice_get (swap xs a b) b ≡ slice_get xs a
swap_second xs a b in_a in_b = grind (arith, swap_is, slice_get-set_same, slice_set, length-set, slice_get-get_or)

swap_first : {A : Type 0} → (xs : List A) (a b : ℕ) → a ≢ b → a < length xs → b < length xs → slice_get (swap xs a b) a ≡ slice_get xs b
swap_first xs a b ne in_a in_b = grind (arith, swap_is, slice_get-set_other, slice_set, slice_get-set_same, slice_get-get_or)

swap_others : {A : Type 0} → (xs : List A) (a b i : ℕ) → i ≢ a → i ≢ b → a < length xs → b < length xs → slice_get (swap xs a b) i ≡ slice_get xs i
swap_others xs a b i not_a not_b in_a in_b = grind (arith, swap_is, slice_get-set_other, slice_set)

swap_length : {A : Type 0} → (xs : List A) (a b : ℕ) → a < length xs → b < length xs → length (swap xs a b) ≡ length xs
swap_length xs a b in_a in_b = grind (arith, swap_is, length-set, slice_set)

-- an element of a list
get_there : {A : Type 0} → (xs : List A) (i : ℕ) → i < length xs → (x : A) × (slice_get xs i ≡ Some x)
get_there [] i lt = absurd (omega (arith, lt))
get_there (x ∷ xs) zero lt = (x, refl)
get_there (x ∷ xs) (suc i) lt = get_there xs i (omega (arith, lt))

module _ {T : Type 0} where
  -- there is no node 0
  pub node_at-zero : (v : Nodes T) → node_at v 0 ≡ None
  unfolding node_at
  node_at-zero v = refl

  -- there is no node after the last
  pub node_at-past : (v : Nodes T) (i : ℕ) → node_count v < i → node_at v i ≡ None
  unfolding node_at node_count
  node_at-past v zero lt = refl
  node_at-past v (suc i) lt = ap (λ o. entry_of o (slice_get (links_of v.links) i)) (slice_get_past v.items.items i (omega (arith, lt)))

  -- a node that is read has been made
  pub node_at-within : (v : Nodes T) (i : ℕ) (e : Entry T) → node_at v i ≡ Some e → HasNumber v i
  node_at-within v i e is = grind (arith, above, le_or_lt, node_at-past)
    where
      above : (j : ℕ) → node_at v j ≡ Some e → 0 < j
      above zero h = absurd (let q : None ≡ Some e = sym (node_at-zero v) ∙ h in cc)
      above (suc j) h = omega arith

  -- the places of a number
  pub HasNumber-prop : (v : Nodes T) (ix : ℕ) → IsProp (HasNumber v ix)
  HasNumber-prop v ix = hlevel le_prop

  pub stored_place : (v : Nodes T) (ix : ℕ) → HasNumber v ix → ix - 1 < length v.items.items
  unfolding node_count
  stored_place v ix has = omega (arith, has.0, has.1)

  pub link_place : (v : Nodes T) (ix : ℕ) → HasNumber v ix → ix - 1 < length (links_of v.links)
  link_place v ix has = omega (arith, stored_place v ix has, v.even.0)

  -- a node as the elements at its place
  entry_is : (o : Option T) (n : Option (Link ℕ)) (e : Entry T) → entry_of o n ≡ Some e → (o ≡ Some e.item) × (n ≡ Some (record { next = e.next; child = e.child }))
  entry_is o n e is = grind (arith, same_Some)

  pub at_place : (v : Nodes T) (ix : ℕ) (e : Entry T) → HasNumber v ix → node_at v ix ≡ Some e
      → (slice_get v.items.items (ix - 1) ≡ Some e.item) × (slice_get (links_of v.links) (ix - 1) ≡ Some (record { next = e.next; child = e.child }))
  unfolding node_at
  at_place v ix e has is = grind (arith, entry_is)

  -- the item that is read
  pub read_item : (v : Nodes T) (ix : ℕ) (x : T) (e : Entry T) → HasNumber v ix → x ≡ get_or v.items.items (ix - 1) x → node_at v ix ≡ Some e → x ≡ e.item
  read_item v ix x e has is at = is ∙ same_Some _ _ (sym (slice_get-get_or v.items.items (ix - 1) x (stored_place v ix has)) ∙ (at_place v ix e has at).0)

  -- the nodes over other items and links
  entries : (v : Nodes T) (xs : List T) (ls : List (Link ℕ)) → v.items.items ≡ xs → links_of v.links ≡ ls → (i : ℕ) → entry_in v.items.items (links_of v.links) i ≡ entry_in xs ls i
  entries v xs ls e n i = ap (λ k. entry_in k (links_of v.links) i) e ∙ ap (λ k. entry_in xs k i) n

  -- a node pushed
  pub push_grows : (v w : Nodes T) (ix : ℕ) (x : T) → w.items.items ≡ v.items.items ++ x ∷ [] → links_of w.links ≡ links_of v.links ++ no_links ∷ [] → ix ≡ length w.items.items → IsGrown v w ix x
  unfolding node_at node_count
  push_grows v w ix x e n at = grind (arith, len, entries, slice_get-end, last_link, others)
    where
      len : length w.items.items ≡ suc (length v.items.items)
      len = ap length e ∙ (let l = length-append v.items.items (x ∷ []) in omega (arith, l))

      last_link : (ls : List (Link ℕ)) → length ls ≡ length v.items.items → slice_get (ls ++ no_links ∷ []) (length v.items.items) ≡ Some no_links
      last_link ls l = subst (λ k. slice_get (ls ++ no_links ∷ []) k ≡ Some no_links) l (slice_get-end ls no_links)

      others : (i : ℕ) → i ≢ suc (length v.items.items) → entry_in w.items.items (links_of w.links) i ≡ entry_in v.items.items (links_of v.links) i
      others i h = grind (arith, entries, slice_get-pushed)

  -- an item is written at a node
  pub item_changes : (v : Nodes T) (ix : ℕ) (x : T) → HasNumber v ix → IsChanged v (with_stored_item v ix x) ix (with_other_item x)
  unfolding node_at node_count
  item_changes v ix x has = grind (arith, slice_set, slice_get-set_same, length-set, same_Some, slice_get-set_other)

  -- A link is written at a node: `f` is the change of its links, and `change` that of its entry.
  links_change : (v w : Nodes T) (ix : ℕ) (f : Link ℕ → Link ℕ) (change : Entry T → Entry T)
      → ((x : T) (l : Link ℕ) → record { item = x; child = (f l).child; next = (f l).next } ≡ change (record { item = x; child = l.child; next = l.next }))
      → HasNumber v ix → w.items.items ≡ v.items.items → ((l : Link ℕ) → slice_get (links_of v.links) (ix - 1) ≡ Some l → links_of w.links ≡ slice_set (links_of v.links) (ix - 1) (f l)) → IsChanged v w ix change
  unfolding node_at node_count
  links_change v w zero f change fits has e n = absurd (omega (arith, has.0))
  links_change v w (suc j) f change fits has e n = grind (arith, entries, set, slice_get-set_same, in_j, changed, others)
    where
      at : suc j - 1 ≡ j
      at = omega arith

      in_j : j < length (links_of v.links)
      in_j = omega (arith, has.1, v.even.0)

      was_there : (l : Link ℕ) × (slice_get (links_of v.links) j ≡ Some l)
      was_there = get_there (links_of v.links) j in_j

      set : links_of w.links ≡ slice_set (links_of v.links) j (f was_there.0)
      set = n was_there.0 (ap (slice_get (links_of v.links)) at ∙ was_there.1) ∙ ap (λ k. slice_set (links_of v.links) k (f was_there.0)) at

      changed : (m : Option T) (o : Entry T) → entry_of m (Some was_there.0) ≡ Some o → entry_of m (Some (f was_there.0)) ≡ Some (change o)
      changed m o was = grind (arith, same_Some)

      others : (i : ℕ) → i ≢ suc j → entry_in w.items.items (links_of w.links) i ≡ entry_in v.items.items (links_of v.links) i
      others zero h = refl
      others (suc i) h = entries w _ _ e set (suc i) ∙ ap (λ m. entry_of (slice_get v.items.items i) m) (slice_get-set_other (links_of v.links) j i (f was_there.0) (λ q. h (ap suc (sym q))))

  pub next_changes : (v w : Nodes T) (ix to : ℕ) → HasNumber v ix → w.items.items ≡ v.items.items
      → ((l : Link ℕ) → slice_get (links_of v.links) (ix - 1) ≡ Some l → links_of w.links ≡ slice_set (links_of v.links) (ix - 1) (linked_next to l)) → IsChanged v w ix (with_next to)
  next_changes v w ix to = links_change v w ix (linked_next to) (with_next to) (λ x l. refl)

  pub child_changes : (v w : Nodes T) (ix to : ℕ) → HasNumber v ix → w.items.items ≡ v.items.items
      → ((l : Link ℕ) → slice_get (links_of v.links) (ix - 1) ≡ Some l → links_of w.links ≡ slice_set (links_of v.links) (ix - 1) (linked_child to l)) → IsChanged v w ix (with_child to)
  child_changes v w ix to = links_change v w ix (linked_child to) (with_child to) (λ x l. refl)

  -- a node that is exchanged with a new one
  pub swap_moves : (v u w : Nodes T) (ix n : ℕ) (x : T) → HasNumber v ix → IsGrown v u n x → w.items.items ≡ swap u.items.items (ix - 1) (n - 1) → links_of w.links ≡ swap (links_of u.links) (ix - 1) (n - 1) → IsMoved v w ix n x
  unfolding node_at node_count
  swap_moves v u w zero n x has g e en = absurd (omega (arith, has.0))
  swap_moves v u w (suc a) zero x has g e en = absurd (omega (arith, g.place))
  swap_moves v u w (suc a) (suc b) x has g e en = record {
    place = g.place;
    moved = entries w _ _ e' en' (suc b) ∙ both (swap_second u.items.items a b in_a in_b) (swap_second (links_of u.links) a b link_a link_b)
        ∙ g.others (suc a) (λ q. other (let r : a ≡ b = omega (arith, q) in r));
    left = entries w _ _ e' en' (suc a) ∙ both (swap_first u.items.items a b other in_a in_b) (swap_first (links_of u.links) a b other link_a link_b) ∙ g.written;
    others = λ i not_a not_b. others i not_a not_b ∙ g.others i not_b;
    count = ap length e' ∙ swap_length u.items.items a b in_a in_b ∙ g.count;
  }
    where
      in_a : a < length u.items.items
      in_a = omega (arith, has.1, g.count)

      in_b : b < length u.items.items
      in_b = omega (arith, g.place, g.count)

      link_a : a < length (links_of u.links)
      link_a = omega (arith, in_a, u.even.0)

      link_b : b < length (links_of u.links)
      link_b = omega (arith, in_b, u.even.0)

      other : a ≢ b
      other q = omega (arith, q, has.1, g.place)

      at_swap : {A : Type 0} → (xs : List A) → swap xs (suc a - 1) (suc b - 1) ≡ swap xs a b
      at_swap xs = ap (λ k. swap xs k (suc b - 1)) (let q : suc a - 1 ≡ a = omega arith in q) ∙ ap (swap xs a) (let q : suc b - 1 ≡ b = omega arith in q)

      e' : w.items.items ≡ swap u.items.items a b
      e' = e ∙ at_swap u.items.items

      en' : links_of w.links ≡ swap (links_of u.links) a b
      en' = en ∙ at_swap (links_of u.links)

      both : {m m' : Option T} {n n' : Option (Link ℕ)} → m ≡ m' → n ≡ n' → entry_of m n ≡ entry_of m' n'
      both {m} {m'} {n} {n'} p q = ap (λ k. entry_of k n) p ∙ ap (λ k. entry_of m' k) q

      others : (i : ℕ) → i ≢ suc a → i ≢ suc b → entry_in w.items.items (links_of w.links) i ≡ entry_in u.items.items (links_of u.links) i
      others zero not_a not_b = refl
      others (suc i) not_a not_b =
          let na : i ≢ a = (λ q. not_a (ap suc q)) in
          let nb : i ≢ b = (λ q. not_b (ap suc q)) in
          entries w _ _ e' en' (suc i) ∙ both (swap_others u.items.items a b i na nb in_a in_b) (swap_others (links_of u.links) a b i na nb link_a link_b)

  -- a failed growth
  pub same_nodes : (v w : Nodes T) → w.items.items ≡ v.items.items → links_of w.links ≡ links_of v.links → SameNodes v w
  unfolding node_at node_count
  same_nodes v w e n = grind arith

  pub no_nodes : (v : Nodes T) → v.items.items ≡ [] → node_count v ≡ 0
  unfolding node_count
  no_nodes v e = ap length e

  -- the places of an older node and of the new one
  pub grown_place : (v u : Nodes T) (n ix : ℕ) (x : T) → HasNumber v ix → IsGrown v u n x → HasNumber u ix
  unfolding node_count
  grown_place v u n ix x has g = (has.0, omega (arith, has.1, g.count))

  pub grown_end : (v u : Nodes T) (n : ℕ) (x : T) → IsGrown v u n x → HasNumber u n
  unfolding node_count
  grown_end v u n x g = (omega (arith, g.place), omega (arith, g.place, g.count))

  pub count_items : (v : Nodes T) (n : ℕ) → n ≡ length v.items.items → n ≡ node_count v
  unfolding node_count
  count_items v n e = e

  -- a node that has been made is read
  pub entry_there : (v : Nodes T) (ix : ℕ) → HasNumber v ix → (e : Entry T) × (node_at v ix ≡ Some e)
  unfolding node_at node_count
  entry_there v zero has = absurd (omega (arith, has.0))
  entry_there v (suc j) has =
      let x = get_there v.items.items j (omega (arith, has.1)) in
      let l = get_there (links_of v.links) j (omega (arith, has.1, v.even.0)) in
      (record { item = x.0; child = l.0.child; next = l.0.next }, ap (λ o. entry_of o (slice_get (links_of v.links) j)) x.1 ∙ ap (λ o. entry_of (Some x.0) o) l.1)

  -- the numbers of nodes are within the room for links
  pub number_has_room : (v : Nodes T) (to : ℕ) → to ≤ node_count v → to ≤ links_room v.links
  unfolding node_count
  number_has_room v to le = omega (arith, le, v.even.1.0, v.even.1.1.1)
