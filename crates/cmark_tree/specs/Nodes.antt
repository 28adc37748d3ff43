-- The nodes of a tree by their numbers, from 1 on. Besides Links, no other file of specs/ knows how they are stored.
use Rattle.std.specs.Prelude.{◌≡◌, ◌≢◌, ℕ, zero, suc, ◌<◌, ◌≤◌, List, length, slice_get, Option, Some, None}
use Rattle.cmark_tree.specs.declared.links.Link.{Link}
use Rattle.cmark_tree.specs.declared.nodes.Nodes.{Nodes}
use Rattle.cmark_tree.specs.Arena.{Entry}
use Rattle.cmark_tree.specs.Links.{links_of}

module _ {T : Type 0} where
  abbrev pub entry_of : Option T → Option (Link ℕ) → Option (Entry T)
  entry_of None l = None
  entry_of (Some x) None = None
  entry_of (Some x) (Some l) = Some (record { item = x; child = l.child; next = l.next })

  abbrev pub entry_in : List T → List (Link ℕ) → ℕ → Option (Entry T)
  entry_in items links zero = None
  entry_in items links (suc i) = entry_of (slice_get items i) (slice_get links i)

  -- the node of this number
  unfoldable pub node_at : Nodes T → ℕ → Option (Entry T)
  node_at nodes = entry_in nodes.items.items (links_of nodes.links)

  -- the number of nodes
  unfoldable pub node_count : Nodes T → ℕ
  node_count nodes = length nodes.items.items

  -- there is a node of this number
  abbrev pub HasNumber : Nodes T → ℕ → Type 0
  HasNumber nodes ix = (0 < ix) × (ix ≤ node_count nodes)

  -- every node except the one of this number is unchanged
  abbrev pub SameBut : Nodes T → Nodes T → ℕ → Type 0
  SameBut old new ix = (i : ℕ) → i ≢ ix → node_at new i ≡ node_at old i

  -- a new node after the others, without links
  pub record IsGrown (old new : Nodes T) (ix : ℕ) (x : T) : Type 0 where
    pub place : ix ≡ suc (node_count old)
    pub written : node_at new ix ≡ Some (record { item = x; child = 0; next = 0 })
    pub others : SameBut old new ix
    pub count : node_count new ≡ suc (node_count old)

  -- a new node after the others takes the content of the node `ix`, which gets this item and no links
  pub record IsMoved (old new : Nodes T) (ix to : ℕ) (x : T) : Type 0 where
    pub place : to ≡ suc (node_count old)
    pub moved : node_at new to ≡ node_at old ix
    pub left : node_at new ix ≡ Some (record { item = x; child = 0; next = 0 })
    pub others : (i : ℕ) → i ≢ ix → i ≢ to → node_at new i ≡ node_at old i
    pub count : node_count new ≡ suc (node_count old)

  -- one node is changed
  pub record IsChanged (old new : Nodes T) (ix : ℕ) (change : Entry T → Entry T) : Type 0 where
    pub written : (e : Entry T) → node_at old ix ≡ Some e → node_at new ix ≡ Some (change e)
    pub others : SameBut old new ix
    pub count : node_count new ≡ node_count old

  -- the same nodes
  pub record SameNodes (old new : Nodes T) : Type 0 where
    pub nodes : node_at new ≡ node_at old
    pub count : node_count new ≡ node_count old

  -- the node with another link, or with another item
  abbrev pub with_next : ℕ → Entry T → Entry T
  with_next to e = record e { next = to }

  abbrev pub with_child : ℕ → Entry T → Entry T
  with_child to e = record e { child = to }

  abbrev pub with_other_item : T → Entry T → Entry T
  with_other_item w e = record e { item = w }
