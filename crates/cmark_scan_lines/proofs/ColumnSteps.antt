-- The columns of some bytes, and the properties of bytes in them.
use Rattle.std.proofs.Common.{◌≡◌, ℕ, zero, suc, ◌+◌, ◌-◌, ◌%◌, ◌≤◌, Bool, true, false, ◌==◌, cond, List, [], ◌∷◌, ◌++◌, drop, refl, sym, ap, ◌∙◌, subst, arith, eqb-true, ne_eqb}
use Rattle.std.specs.Prelude.{if◌then◌else◌}
use Rattle.std.specs.List.{prefix_len}
use Rattle.cmark_grammar.specs.Characters.{tab}
use Rattle.cmark_grammar.specs.Columns.{Column, tab_columns, to_tab_stop, expand, bytes_of}

-- a test of a column that looks at its byte alone
abbrev pub on_byte : (ℕ → Bool) → Column → Bool
on_byte p c = p c.byte

some_columns : (column : ℕ) → (n : ℕ) × (to_tab_stop column ≡ suc n)
some_columns column = (3 - column % 4, omega arith)

-- the columns of a byte are a tab's, up to the next stop, or one column; the columns of the bytes after it follow
data Shape (column at b : ℕ) : Type 0 where
  tabbed : b ≡ tab → (n column' : ℕ) → column' ≡ column + suc n → 4 ≤ column' → ((bs : List ℕ) → expand column at (b ∷ bs) ≡ tab_columns at 0 (suc n) ++ expand column' (suc at) bs) → Shape column at b
  plain : (b == tab) ≡ false → ((bs : List ℕ) → expand column at (b ∷ bs) ≡ record { byte = b; at = at; part = 0 } ∷ expand (suc column) (suc at) bs) → Shape column at b

shape : (column at b : ℕ) → Shape column at b
shape column at b = go (b == tab) refl
  where
    go : (t : Bool) → (b == tab) ≡ t → Shape column at b
    go true e =
        let n = some_columns column in
        tabbed (eqb-true b tab e) n.0 (column + to_tab_stop column) (ap (λ m. column + m) n.1) (omega arith)
        (λ bs. ap (λ t. if t then tab_columns at 0 (to_tab_stop column) ++ expand (column + to_tab_stop column) (suc at) bs else record { byte = b; at = at; part = 0 } ∷ expand (suc column) (suc at) bs) e
        ∙ ap (λ m. tab_columns at 0 m ++ expand (column + to_tab_stop column) (suc at) bs) n.1)
    go false e =
        plain e (λ bs. ap (λ t. if t then tab_columns at 0 (to_tab_stop column) ++ expand (column + to_tab_stop column) (suc at) bs else record { byte = b; at = at; part = 0 } ∷ expand (suc column) (suc at) bs) e)

one_more : (k : ℕ) → suc k ≡ 1 + k
one_more k = omega arith

drop_one_more : {A : Type 0} → (x : A) (xs : List A) (k : ℕ) → drop (1 + k) (x ∷ xs) ≡ drop k xs
drop_one_more x xs k = ap (λ m. drop m (x ∷ xs)) (sym (one_more k))

-- the bytes at the beginning that pass
module _ (p : ℕ → Bool) where
  tab_prefix : (at part n : ℕ) (cs : List Column) → p tab ≡ true → prefix_len (on_byte p) (tab_columns at part n ++ cs) ≡ n + prefix_len (on_byte p) cs
  tab_prefix at part zero cs e = omega arith
  tab_prefix at part (suc n) cs e = rw e (let h = tab_prefix at (suc part) n cs e in omega arith)

  tab_drop : (at part n k : ℕ) (cs : List Column) → drop (n + k) (tab_columns at part n ++ cs) ≡ drop k cs
  tab_drop at part zero k cs = ap (λ m. drop m cs) (let z : 0 + k ≡ k = omega arith in z)
  tab_drop at part (suc n) k cs =
      ap (λ m. drop m (tab_columns at part (suc n) ++ cs)) (let s : suc n + k ≡ suc (n + k) = omega arith in s) ∙ tab_drop at (suc part) n k cs

  Following : ℕ → ℕ → List ℕ → Type 0
  Following column at bs = (column' : ℕ) × (drop (prefix_len (on_byte p) (expand column at bs)) (expand column at bs) ≡ expand column' (at + prefix_len p bs) (drop (prefix_len p bs) bs))

  shift : (column at k b : ℕ) (bs : List ℕ) → expand column (suc at + k) (drop k bs) ≡ expand column (at + (1 + k)) (drop (1 + k) (b ∷ bs))
  shift column at k b bs =
      ap (λ a. expand column a (drop k bs)) (let s : suc at + k ≡ at + (1 + k) = omega arith in s)
      ∙ ap (λ l. expand column (at + (1 + k)) l) (sym (drop_one_more b bs k))

  after_while : (column column' at b : ℕ) (bs : List ℕ) (front : List Column) (n : ℕ) → p b ≡ true → expand column at (b ∷ bs) ≡ front ++ expand column' (suc at) bs
      → prefix_len (on_byte p) (front ++ expand column' (suc at) bs) ≡ n + prefix_len (on_byte p) (expand column' (suc at) bs)
      → ((k : ℕ) (cs : List Column) → drop (n + k) (front ++ cs) ≡ drop k cs) → Following column' (suc at) bs → Following column at (b ∷ bs)
  unfolding Following
  after_while column column' at b bs front n passes is count past h = (
    h.0,
    ap (λ cs. drop (prefix_len (on_byte p) cs) cs) is ∙ ap (λ k. drop k (front ++ expand column' (suc at) bs)) count
        ∙ past (prefix_len (on_byte p) (expand column' (suc at) bs)) (expand column' (suc at) bs) ∙ h.1
        ∙ shift h.0 at (prefix_len p bs) b bs ∙ ap (λ t. expand h.0 (at + cond t (1 + prefix_len p bs) 0) (drop (cond t (1 + prefix_len p bs) 0) (b ∷ bs))) (sym passes),
  )

  after_none : (column at b : ℕ) (bs : List ℕ) → p b ≡ false → prefix_len (on_byte p) (expand column at (b ∷ bs)) ≡ 0 → Following column at (b ∷ bs)
  unfolding Following
  after_none column at b bs fails count = (
    column,
    ap (λ k. drop k (expand column at (b ∷ bs))) count ∙ ap (λ a. expand column a (b ∷ bs)) (let z : at ≡ at + 0 = omega arith in z)
        ∙ ap (λ t. expand column (at + cond t (1 + prefix_len p bs) 0) (drop (cond t (1 + prefix_len p bs) 0) (b ∷ bs))) (sym fails),
  )

  following : (column at : ℕ) (bs : List ℕ) → Following column at bs
  unfolding Following
  following column at [] = (column, refl)
  following column at (b ∷ bs) = go (shape column at b) (λ column' at'. following column' at' bs)
    where
      go : Shape column at b → ((column' at' : ℕ) → Following column' at' bs) → Following column at (b ∷ bs)
      go (tabbed is n column' steps far e) ih = by (p b) refl
        where
          by : (q : Bool) → p b ≡ q → Following column at (b ∷ bs)
          by true f = after_while column column' at b bs (tab_columns at 0 (suc n)) (suc n) f (e bs) (tab_prefix at 0 (suc n) (expand column' (suc at) bs) (subst (λ x. p x ≡ true) is f)) (λ k cs. tab_drop at 0 (suc n) k cs) (ih column' (suc at))
          by false f = after_none column at b bs f (ap (prefix_len (on_byte p)) (e bs) ∙ ap (λ t. cond t (1 + prefix_len (on_byte p) (tab_columns at 1 n ++ expand column' (suc at) bs)) 0) (subst (λ x. p x ≡ false) is f))
      go (plain not_tab e) ih = by (p b) refl
        where
          by : (q : Bool) → p b ≡ q → Following column at (b ∷ bs)
          by true f = after_while column (suc column) at b bs (record { byte = b; at = at; part = 0 } ∷ []) 1 f (e bs) (ap (λ t. cond t (1 + prefix_len (on_byte p) (expand (suc column) (suc at) bs)) 0) f) (λ k cs. drop_one_more (record { byte = b; at = at; part = 0 }) cs k) (ih (suc column) (suc at))
          by false f = after_none column at b bs f (ap (prefix_len (on_byte p)) (e bs) ∙ ap (λ t. cond t (1 + prefix_len (on_byte p) (expand (suc column) (suc at) bs)) 0) f)

  -- the columns after those that pass are the columns of the bytes after those that pass
  pub drop-prefix : (column at : ℕ) (bs : List ℕ) → (column' : ℕ) × (drop (prefix_len (on_byte p) (expand column at bs)) (expand column at bs) ≡ expand column' (at + prefix_len p bs) (drop (prefix_len p bs) bs))
  unfolding Following
  drop-prefix column at bs = following column at bs

-- the text that columns spell
tab_bytes : (at part n : ℕ) (cs : List Column) → bytes_of (tab_columns at (suc part) n ++ cs) ≡ bytes_of cs
tab_bytes at part zero cs = refl
tab_bytes at part (suc n) cs = rw (ne_eqb (suc part) 0 (omega arith)) (tab_bytes at (suc part) n cs)

pub bytes_of-expand : (column at : ℕ) (bs : List ℕ) → bytes_of (expand column at bs) ≡ bs
bytes_of-expand column at [] = refl
bytes_of-expand column at (b ∷ bs) = go (shape column at b) (λ column'. bytes_of-expand column' (suc at) bs)
  where
    go : Shape column at b → ((column' : ℕ) → bytes_of (expand column' (suc at) bs) ≡ bs) → bytes_of (expand column at (b ∷ bs)) ≡ b ∷ bs
    go (tabbed is n column' steps far e) ih = ap bytes_of (e bs) ∙ ap (λ l. tab ∷ l) (tab_bytes at 0 n (expand column' (suc at) bs) ∙ ih column') ∙ ap (λ x. x ∷ bs) (sym is)
    go (plain not_tab e) ih = ap bytes_of (e bs) ∙ ap (λ l. b ∷ l) (ih (suc column))
