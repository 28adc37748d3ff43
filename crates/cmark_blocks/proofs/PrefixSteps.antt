-- The containers on a tree's path, the outermost first, and which of them keep a line.
use Rattle.std.proofs.Common.{◌≡◌, ℕ, suc, ◌+◌, false, List, [], ◌∷◌, ◌++◌, Option, Some, None, refl, sym, ap, subst, ◌∙◌, length, arith}
use Rattle.cmark_grammar.specs.Containers as grammar
use Rattle.cmark_grammar.specs.Containers.{keeps}
use Rattle.cmark_grammar.specs.Rows.{Row}
use Rattle.cmark_tree.specs.declared.tree.Tree.{Tree}
use Rattle.cmark_tree.specs.declared.tree_index.TreeIndex.{TreeIndex}
use Rattle.cmark_tree.specs.Forest.{Forest, Node, join}
use Rattle.cmark_tree.specs.Arena.{Entry, first, Stands, Placed}
use Rattle.cmark_tree.specs.Zip.{Level, Zip, plug, siblings}
use Rattle.cmark_tree.specs.Tree.{Holds, entry_at, HasNode, spine_of}
use Rattle.cmark_tree.proofs.StandsLemmas.{Stands-inner, Stands-right}
use Rattle.cmark_tree.proofs.Entries.{node_at-within}
use Rattle.cmark_items.specs.declared.item.Item.{Item}
use Rattle.cmark_scan_lines.specs.LineStart.{row_from}
use Rattle.cmark_scan_lines.specs.declared.line_start.LineStart.{LineStart}
use Rattle.cmark_blocks.specs.Prefixes.{container_in, preceding, containers_of, LineKeepers, one_more, kept_if, kept}
use Rattle.cmark_grammar.specs.Options.{Options}

-- a node of the tree has this item
abbrev pub HasItem : Tree Item → ℕ → Item → Type 0
HasItem tree ix item = (e : Entry Item) × (entry_at tree ix ≡ Some e) × (e.item ≡ item)

-- these nodes have these items
abbrev pub HaveItems : Tree Item → List TreeIndex → List Item → Type 0
HaveItems tree [] [] = Unit {0}
HaveItems tree [] (i ∷ is) = ⊥
HaveItems tree (ix ∷ ixs) [] = ⊥
HaveItems tree (ix ∷ ixs) (i ∷ is) = HasItem tree ix.ix i × HaveItems tree ixs is

have-push : (tree : Tree Item) (ixs : List TreeIndex) (is : List Item) (ix : TreeIndex) (i : Item) → HaveItems tree ixs is → HasItem tree ix.ix i → HaveItems tree (ixs ++ ix ∷ []) (is ++ i ∷ [])
have-push tree [] [] ix i h has = (has, tt)
have-push tree [] (j ∷ is) ix i h has = absurd h
have-push tree (k ∷ ixs) [] ix i h has = absurd h
have-push tree (k ∷ ixs) (j ∷ is) ix i h has = (h.0, have-push tree ixs is ix i h.1 has)

-- the items of a path, the outermost first
abbrev pub items_on : List (Level Item) → List Item
items_on [] = []
items_on (v ∷ up) = items_on up ++ v.place.item ∷ []

have-path : (tree : Tree Item) (up : List (Level Item)) (f : Forest (Placed Item)) → Stands (entry_at tree) (plug up f) → HaveItems tree (spine_of up) (items_on up)
have-path tree [] f st = tt
have-path tree (v ∷ up) f st =
    let here = Stands-right (entry_at tree) v.left (Node v.place f v.right) (Stands-inner (entry_at tree) up (join v.left (Node v.place f v.right)) st) in
    have-push tree (spine_of up) (items_on up) (record { ix = v.place.ix }) v.place.item (have-path tree up (join v.left (Node v.place f v.right)) st)
    (record { item = v.place.item; child = first f; next = first v.right }, here.0, refl)

module _ (options : Options) where
  -- the containers among these items
  abbrev pub containers_in : List Item → List grammar.Container
  containers_in [] = []
  containers_in (i ∷ is) = preceding (container_in options i.body) (containers_in is)

  containers-push : (is : List Item) (i : Item) → containers_in (is ++ i ∷ []) ≡ containers_in is ++ preceding (container_in options i.body) []
  containers-push [] i = refl
  containers-push (j ∷ is) i = go (container_in options j.body) (containers-push is i)
    where
      go : (o : Option grammar.Container) → containers_in (is ++ i ∷ []) ≡ containers_in is ++ preceding (container_in options i.body) [] → preceding o (containers_in (is ++ i ∷ [])) ≡ preceding o (containers_in is) ++ preceding (container_in options i.body) []
      go None e = e
      go (Some k) e = ap (λ ks. k ∷ ks) e

  containers-path : (up : List (Level Item)) → containers_of options up ≡ containers_in (items_on up)
  containers-path [] = refl
  containers-path (v ∷ up) =
      ap (λ ks. ks ++ preceding (container_in options v.place.item.body) []) (containers-path up) ∙ sym (containers-push (items_on up) v.place.item)

  -- the lines kept after a number of containers
  abbrev pub following : ℕ → LineKeepers → LineKeepers
  following n k = record { count = n + k.count; rest = k.rest }

  following-none : (k : LineKeepers) → k ≡ following 0 k
  following-none k = ap {A = ℕ} {B = LineKeepers} (λ n. record { count = n; rest = k.rest }) (let e : k.count ≡ 0 + k.count = omega arith in e)

  following-end : (n : ℕ) (r : Row) → following n (record { count = 0; rest = r }) ≡ record { count = n; rest = r }
  following-end n r = ap {A = ℕ} {B = LineKeepers} (λ m. record { count = m; rest = r }) (let e : n + 0 ≡ n = omega arith in e)

  following-more : (n m : ℕ) (k : LineKeepers) → m ≡ suc n → following n (one_more k) ≡ following m k
  following-more n m k e = ap {A = ℕ} {B = LineKeepers} (λ c. record { count = c; rest = k.rest }) (let q : n + suc k.count ≡ m + k.count = omega (arith, e) in q)

  -- the first `count` containers of a path keep a line, whose rest after their prefixes is this; these nodes of the path are left
  pub record Continuation (tree : Tree Item) (up : List (Level Item)) (old line : LineStart) (count : ℕ) (rest : List TreeIndex) : Type 0 where
    pub items : List Item
    pub have : HaveItems tree rest items
    pub same : (at line_end : ℕ) → kept (containers_of options up) (row_from at line_end old) ≡ following count (kept (containers_in items) (row_from at line_end line))

  pub further-first : (tree : Tree Item) (z : Zip Item) (line : LineStart) (rest : List TreeIndex) → Holds tree z → rest ≡ spine_of z.up → Continuation tree z.up line line 0 rest
  further-first tree z line rest h e = record {
    items = items_on z.up;
    have = subst (λ ixs. HaveItems tree ixs (items_on z.up)) (sym e) (have-path tree z.up (siblings z) h.forest.stands);
    same = λ at line_end. ap (λ ks. kept ks (row_from at line_end line)) (containers-path z.up) ∙ following-none (kept (containers_in (items_on z.up)) (row_from at line_end line));
  }

  module _ (tree : Tree Item) (up : List (Level Item)) (old line : LineStart) (count : ℕ) where
    -- the next node
    pub record Next (ix : TreeIndex) (rest : List TreeIndex) : Type 0 where
      pub item : Item
      pub items : List Item
      pub has : HasItem tree ix.ix item
      pub have : HaveItems tree rest items
      pub same : (at line_end : ℕ) → kept (containers_of options up) (row_from at line_end old) ≡ following count (kept (preceding (container_in options item.body) (containers_in items)) (row_from at line_end line))

    pub next : (ix : TreeIndex) (rest : List TreeIndex) → Continuation tree up old line count (ix ∷ rest) → Next ix rest
    next ix rest f = go f.items f.have f.same
      where
        go : (items : List Item) → HaveItems tree (ix ∷ rest) items → ((at line_end : ℕ) → kept (containers_of options up) (row_from at line_end old) ≡ following count (kept (containers_in items) (row_from at line_end line))) → Next ix rest
        go [] h s = absurd h
        go (i ∷ is) h s = record { item = i; items = is; has = h.0; have = h.1; same = s }

    -- all nodes of the path were passed
    pub over : (rest : List TreeIndex) → length rest ≡ 0 → Continuation tree up old line count rest → (at line_end : ℕ) → kept (containers_of options up) (row_from at line_end old) ≡ record { count = count; rest = row_from at line_end line }
    over (ix ∷ rest) none f at line_end = absurd (omega (arith, none))
    over [] none f at line_end = go f.items f.have (f.same at line_end)
      where
        go : (items : List Item) → HaveItems tree [] items → kept (containers_of options up) (row_from at line_end old) ≡ following count (kept (containers_in items) (row_from at line_end line))
            → kept (containers_of options up) (row_from at line_end old) ≡ record { count = count; rest = row_from at line_end line }
        go [] h s = s ∙ following-end count (row_from at line_end line)
        go (i ∷ is) h s = absurd h

    module _ (ix : TreeIndex) (rest : List TreeIndex) (f : Continuation tree up old line count (ix ∷ rest)) where
      pub next-node : HasNode tree ix.ix
      next-node = let n = next ix rest f in node_at-within tree.nodes ix.ix n.has.0 n.has.1

      module _ (item : Item) (is : (e : Entry Item) → entry_at tree ix.ix ≡ Some e → item ≡ e.item) (o : Option grammar.Container) (found : o ≡ container_in options item.body) where
        -- the result for the containers from the next node on
        ahead : (n : Next ix rest) (at line_end : ℕ) → kept (containers_of options up) (row_from at line_end old) ≡ following count (kept (preceding o (containers_in n.items)) (row_from at line_end line))
        ahead n at line_end =
            n.same at line_end
            ∙ ap (λ z. following count (kept (preceding z (containers_in n.items)) (row_from at line_end line))) (ap (λ i. container_in options i.body) (sym (is n.has.0 n.has.1 ∙ n.has.2)) ∙ sym found)

        -- the node is no container
        pub passed : o ≡ None → Continuation tree up old line count rest
        passed none =
            let n = next ix rest f in
            record {
              items = n.items;
              have = n.have;
              same = λ at line_end. ahead n at line_end ∙ ap (λ z. following count (kept (preceding z (containers_in n.items)) (row_from at line_end line))) none;
            }

        module _ (k : grammar.Container) (some : o ≡ Some k) where
          tried : (n : Next ix rest) (at line_end : ℕ) → kept (containers_of options up) (row_from at line_end old)
              ≡ following count (kept_if (keeps k false (row_from at line_end line)) (kept (containers_in n.items)) (record { count = 0; rest = row_from at line_end line }))
          tried n at line_end = ahead n at line_end ∙ ap (λ z. following count (kept (preceding z (containers_in n.items)) (row_from at line_end line))) some

          -- the container keeps the line
          pub taken : (new : LineStart) → ((at line_end : ℕ) → Some (row_from at line_end new) ≡ keeps k false (row_from at line_end line)) → (more : ℕ) → more ≡ suc count → Continuation tree up old new more rest
          taken new keep more one =
              let n = next ix rest f in
              record {
                items = n.items;
                have = n.have;
                same = λ at line_end.
                    tried n at line_end
                    ∙ ap (λ z. following count (kept_if z (kept (containers_in n.items)) (record { count = 0; rest = row_from at line_end line }))) (sym (keep at line_end))
                    ∙ following-more count more (kept (containers_in n.items) (row_from at line_end new)) one;
              }

          -- it lacks its prefix
          pub lacked : ((at line_end : ℕ) → None ≡ keeps k false (row_from at line_end line)) → (at line_end : ℕ) → kept (containers_of options up) (row_from at line_end old) ≡ record { count = count; rest = row_from at line_end line }
          lacked keep at line_end =
              let n = next ix rest f in
              tried n at line_end
              ∙ ap (λ z. following count (kept_if z (kept (containers_in n.items)) (record { count = 0; rest = row_from at line_end line }))) (sym (keep at line_end))
              ∙ following-end count (row_from at line_end line)
