-- The names of footnotes, read from a map from names to numbers.
use Rattle.std.proofs.Common.{arith, ◌≡◌, ℕ, zero, suc, ◌+◌, ◌<◌, Bool, true, false, not, ◌||◌, List, [], ◌∷◌, ◌++◌, Option, Some, None, Result, Ok, Err, IfOk, OnOk, OnErr, length, nat_eq, nat_lt, cond, unwrap_or, is_some, is_ok, true≢false, All, bytes_eq, ⊎_elim, ◌≤◌, eqb, length-append, if◌then◌else◌, refl, sym, ap, subst, ◌∙◌}
use Rattle.std.specs.Cmp.Lexicographic.{pointwise, slice_cmp, bytes_decides, nat_list_cmp_total, nat_list_eq_equiv}
use Rattle.std.specs.List.{list_any, position, position_or_len}
use Rattle.std.specs.Ordering.{is_eq, match_ordering, nat_cmp}
use Rattle.std.specs.declared.cmp.Ordering.{Ordering}
use Rattle.std.specs.declared.cmp.Ordering.TheVariants.{Less, Equal, Greater}
use Rattle.std.specs.BTreeMap.{BTreeMap, get_by, insert_entry, is_at, UpdatesBy}
use Rattle.std.specs.Map.{KeepsOthers, IsKeyTest, AreApart, lookup, values_of}
use Rattle.std.proofs.lemmas.Bool.{cases_Bool, cond-true, cond-false, eq-eqb, le-ltb, lt-ltb, ltb-true, ltb-false, ne_eqb}
use Rattle.std.proofs.lemmas.Cmp.{eq_by_cmp_equiv}
use Rattle.std.proofs.lemmas.List.Elements.{All-weaker}
use Rattle.std.proofs.lemmas.List.Folds.{position_or_len_push}
use Rattle.std.proofs.lemmas.List.Sums.{prefix_len-le-length}
use Rattle.std.proofs.lemmas.Map.Text.{is_eq-slice_cmp}
use Rattle.std.proofs.lemmas.Map.Views.{All-values-insert_entry}
use Rattle.cmark_grammar.specs.Html.{footnote_number, named}
use Rattle.cmark_html.specs.Names.{IsNumbered, name_at, names_below, names_of}

-- an element is found, or it is not
module _ {A : Type 0} (p : A → Bool) where
  pub place_found : (xs : List A) (i : ℕ) → position p xs ≡ Some i → position_or_len p xs ≡ i
  place_found xs i e = go (nat_lt (position_or_len p xs) (length xs)) e
    where
      go : (b : Bool) → cond b (Some (position_or_len p xs)) None ≡ Some i → position_or_len p xs ≡ i
      go true e = ap (λ o. unwrap_or o 0) e
      go false e = absurd (true≢false (sym (ap is_some e)))

  pub place_missing : (xs : List A) → position p xs ≡ None → position_or_len p xs ≡ length xs
  place_missing xs e = go (nat_lt (position_or_len p xs) (length xs)) refl e
    where
      go : (b : Bool) → nat_lt (position_or_len p xs) (length xs) ≡ b → cond b (Some (position_or_len p xs)) None ≡ None → position_or_len p xs ≡ length xs
      go true lt e = absurd (true≢false (ap is_some e))
      go false lt e = let le = prefix_len-le-length (λ x. not (p x)) xs in let ge = ltb-false (position_or_len p xs) (length xs) lt in omega (arith, le, ge)

  -- whether an element is in the list
  pub any_is_place : (xs : List A) → list_any p xs ≡ is_some (position p xs)
  any_is_place [] = refl
  any_is_place (x ∷ xs) = go (p x) (any_is_place xs)
    where
      next : (n m : ℕ) (b : Bool) → nat_lt n m ≡ b → nat_lt (1 + n) (suc m) ≡ b
      next n m true e = let lt = ltb-true n m e in lt-ltb (1 + n) (suc m) (omega (arith, lt))
      next n m false e = let le = ltb-false n m e in le-ltb (1 + n) (suc m) (omega (arith, le))

      rest : (b : Bool) → is_some (cond b (Some (position_or_len p xs)) None) ≡ is_some (cond b (Some (1 + position_or_len p xs)) None)
      rest true = refl
      rest false = refl

      go : (b : Bool) → list_any p xs ≡ is_some (position p xs) → (b || list_any p xs) ≡ is_some (cond (nat_lt (cond (not b) (1 + position_or_len p xs) 0) (suc (length xs))) (Some (cond (not b) (1 + position_or_len p xs) 0)) None)
      go true more = ap (λ b. is_some (cond {A = Option ℕ} b (Some 0) None)) (sym (lt-ltb 0 (suc (length xs)) (omega arith)))
      go false more =
          more
          ∙ rest (nat_lt (position_or_len p xs) (length xs))
          ∙ ap (λ b. is_some (cond b (Some (1 + position_or_len p xs)) None)) (sym (next (position_or_len p xs) (length xs) (nat_lt (position_or_len p xs) (length xs)) refl))

-- an index within the others, and an index after them
placed : (n m i : ℕ) → n ≡ i → i < m → cond (nat_lt n m) (Some n) None ≡ Some i
placed n m i e lt = cond-true (nat_lt n m) (Some n) None (subst (λ k. nat_lt k m ≡ true) (sym e) (lt-ltb i m lt)) ∙ ap Some e

unplaced : (n m : ℕ) → m ≤ n → cond (nat_lt n m) (Some n) None ≡ None
unplaced n m le = cond-false (nat_lt n m) (Some n) None (le-ltb n m le)

-- one more element after the others
module _ {A : Type 0} (p : A → Bool) (xs : List A) (y : A) where
  within : (i : ℕ) → position p xs ≡ Some i → i < length xs
  within i e = go (nat_lt (position_or_len p xs) (length xs)) refl e
    where
      go : (b : Bool) → nat_lt (position_or_len p xs) (length xs) ≡ b → cond b (Some (position_or_len p xs)) None ≡ Some i → i < length xs
      go true lt e = let found : position_or_len p xs ≡ i = ap (λ o. unwrap_or o 0) e in let less = ltb-true (position_or_len p xs) (length xs) lt in omega (arith, found, less)
      go false lt e = absurd (true≢false (sym (ap is_some e)))

  pub place_push_old : (i : ℕ) → position p xs ≡ Some i → position p (xs ++ y ∷ []) ≡ Some i
  place_push_old i e =
      let found = place_found p xs i e in
      let less = within i e in
      placed _ _ i
      (position_or_len_push p xs y
      ∙ cond-false (eqb (position_or_len p xs) (length xs)) _ (position_or_len p xs) (ne_eqb (position_or_len p xs) (length xs) (λ same. omega (arith, found, less, same)))
      ∙ found)
      (let more = length-append xs (y ∷ []) in omega (arith, less, more))

  pub place_push_new : position p xs ≡ None → position p (xs ++ y ∷ []) ≡ cond (p y) (Some (length xs)) None
  place_push_new e = go (p y) refl
    where
      at : (b : Bool) → p y ≡ b → position_or_len p (xs ++ y ∷ []) ≡ length xs + cond b 0 1
      at b is =
          position_or_len_push p xs y
          ∙ cond-true (eqb (position_or_len p xs) (length xs)) (length xs + cond (p y) 0 1) (position_or_len p xs) (eq-eqb (position_or_len p xs) (length xs) (place_missing p xs e))
          ∙ ap (λ c. length xs + cond c 0 1) is

      go : (b : Bool) → p y ≡ b → position p (xs ++ y ∷ []) ≡ cond b (Some (length xs)) None
      go true is =
          let here = at true is in
          let more = length-append xs (y ∷ []) in
          placed _ _ (length xs) (omega (arith, here)) (omega (arith, more))
      go false is =
          let here = at false is in
          let more = length-append xs (y ∷ []) in
          unplaced _ _ (omega (arith, here, more))

-- a look-up that finds nothing
finds_none : {A : Type 0} (found : Option A) → is_some found ≡ false → found ≡ None
finds_none None e = refl
finds_none (Some a) e = absurd (true≢false e)

-- bytes gives the name of a key
module _ {K : Type 0} (bytes : K → List ℕ) where
  pub length-names_below : (es : List (K × ℕ)) (n : ℕ) → length (names_below bytes es n) ≡ n
  length-names_below es zero = refl
  length-names_below es (suc n) =
      let rest = length-names_below es n in
      let more = length-append (names_below bytes es n) (name_at bytes es n ∷ []) in
      omega (arith, rest, more)

  same_below : (es fs : List (K × ℕ)) (n : ℕ) → ((i : ℕ) → i < n → name_at bytes fs i ≡ name_at bytes es i) → names_below bytes fs n ≡ names_below bytes es n
  same_below es fs zero same = refl
  same_below es fs (suc n) same =
      ap (λ l. l ++ name_at bytes fs n ∷ []) (same_below es fs n (λ i lt. same i (omega (arith, lt))))
      ∙ ap (λ name. names_below bytes es n ++ name ∷ []) (same n (omega arith))

  -- the order of the keys
  abbrev pub key_cmp : K → K → Ordering
  key_cmp a b = slice_cmp nat_cmp (bytes a) (bytes b)

  -- one more key, with the number v
  module _ (k : K) (v : ℕ) where
    other_number : (i : ℕ) → nat_eq v i ≡ false → (es : List (K × ℕ)) → lookup (is_at (key_cmp k)) es ≡ None → name_at bytes (insert_entry key_cmp es k v) i ≡ name_at bytes es i
    other_number i n [] none = ap (λ b. cond b (bytes k) []) n
    other_number i n (e ∷ es) none = go (λ none. other_number i n es none) (key_cmp k e.0) none
      where
        go : (lookup (is_at (key_cmp k)) es ≡ None → name_at bytes (insert_entry key_cmp es k v) i ≡ name_at bytes es i)
            → (o : Ordering) → cond (is_eq o) (Some e.1) (lookup (is_at (key_cmp k)) es) ≡ None
            → name_at bytes (match_ordering o ((k, v) ∷ e ∷ es) ((e.0, v) ∷ es) (e ∷ insert_entry key_cmp es k v)) i ≡ name_at bytes (e ∷ es) i
        go more Less none = ap (λ b. cond b (bytes k) (name_at bytes (e ∷ es) i)) n
        go more Equal none = absurd (true≢false (ap is_some none))
        go more Greater none = ap (λ name. cond (nat_eq e.1 i) (bytes e.0) name) (more none)

    new_number : (es : List (K × ℕ)) → All (λ n. n < v) (values_of es) → lookup (is_at (key_cmp k)) es ≡ None → name_at bytes (insert_entry key_cmp es k v) v ≡ bytes k
    new_number [] below none = ap (λ b. cond b (bytes k) []) (eq-eqb v v refl)
    new_number (e ∷ es) below none = go (λ none. new_number es (λ i d lt. below (suc i) d (omega (arith, lt))) none) (key_cmp k e.0) none
      where
        go : (lookup (is_at (key_cmp k)) es ≡ None → name_at bytes (insert_entry key_cmp es k v) v ≡ bytes k)
            → (o : Ordering) → cond (is_eq o) (Some e.1) (lookup (is_at (key_cmp k)) es) ≡ None
            → name_at bytes (match_ordering o ((k, v) ∷ e ∷ es) ((e.0, v) ∷ es) (e ∷ insert_entry key_cmp es k v)) v ≡ bytes k
        go more Less none = ap (λ b. cond b (bytes k) (name_at bytes (e ∷ es) v)) (eq-eqb v v refl)
        go more Equal none = absurd (true≢false (ap is_some none))
        go more Greater none =
            let less = below 0 0 (omega arith) in
            ap (λ b. cond b (bytes e.0) (name_at bytes (insert_entry key_cmp es k v) v)) (ne_eqb e.1 v (λ same. omega (arith, less, same)))
            ∙ more none

  -- the names with a new one at the end
  pub names_more : (es : List (K × ℕ)) (k : K) → All (λ n. n < length es) (values_of es) → lookup (is_at (key_cmp k)) es ≡ None
      → length (insert_entry key_cmp es k (length es)) ≡ suc (length es)
      → names_of bytes (insert_entry key_cmp es k (length es)) ≡ names_of bytes es ++ bytes k ∷ []
  names_more es k below none len =
      let fs = insert_entry key_cmp es k (length es) in
      ap (names_below bytes fs) len
      ∙ ap (λ l. l ++ name_at bytes fs (length es) ∷ []) (same_below es fs (length es) (λ i lt. other_number k (length es) i (ne_eqb (length es) i (λ same. omega (arith, lt, same))) es none))
      ∙ ap (λ name. names_of bytes es ++ name ∷ []) (new_number k (length es) es below none)

  -- the numbers stay below the number of names
  pub below_more : (es : List (K × ℕ)) (k : K) → All (λ n. n < length es) (values_of es) → All (λ n. n < suc (length es)) (values_of (insert_entry key_cmp es k (length es)))
  below_more es k below =
      All-values-insert_entry key_cmp k (length es) (λ n. n < suc (length es)) es (All-weaker (λ n. n < length es) (λ n. n < suc (length es)) (λ n lt. omega (arith, lt)) (values_of es) below) (omega arith)

  others : (test : K → Bool) (old new : List (K × ℕ)) → KeepsOthers (λ a b. is_eq (key_cmp a b)) test old new
      → (other : K → Bool) → IsKeyTest (λ a b. is_eq (key_cmp a b)) other → AreApart test other → lookup other new ≡ lookup other old
  unfolding KeepsOthers
  others test old new h = h

  apart : (bs cs ks : List ℕ) → bytes_eq bs cs ≡ false → is_eq (slice_cmp nat_cmp bs ks) ≡ true → is_eq (slice_cmp nat_cmp cs ks) ≡ false
  apart bs cs ks n y = is_eq-slice_cmp cs ks ∙ (nat_list_eq_equiv.symm cs ks ∙ sym (nat_list_eq_equiv.congr bs ks cs (sym (is_eq-slice_cmp bs ks) ∙ y)) ∙ n)

  -- each name's number is its index in the list of names
  pub numbered_more : (m n : BTreeMap K ℕ) (k : K) → IsNumbered bytes m → get_by (key_cmp k) m ≡ None
      → UpdatesBy key_cmp (key_cmp k) m n (Some (length m.entries)) → names_of bytes n.entries ≡ names_of bytes m.entries ++ bytes k ∷ []
      → IsNumbered bytes n
  numbered_more m n k is none updates more name =
      let names = names_of bytes m.entries in
      ⊎_elim
      (λ y.
      subst (λ l. get_by (λ key. slice_cmp nat_cmp l (bytes key)) n ≡ position (pointwise nat_eq l) (names_of bytes n.entries)) (sym ((bytes_decides name (bytes k)).0 y))
      (updates.1
      ∙ sym (ap (λ l. position (pointwise nat_eq (bytes k)) l) more
      ∙ place_push_new (pointwise nat_eq (bytes k)) names (bytes k) (sym (is (bytes k)) ∙ none)
      ∙ cond-true (pointwise nat_eq (bytes k) (bytes k)) (Some (length names)) None (nat_list_eq_equiv.refl (bytes k))
      ∙ ap Some (length-names_below m.entries (length m.entries)))))
      (λ n'.
      others _ _ _ updates.3 _ (λ x y. (eq_by_cmp_equiv nat_list_cmp_total).congr name (bytes x) (bytes y)) (λ key. apart (bytes k) name (bytes key) (nat_list_eq_equiv.symm (bytes k) name ∙ n'))
      ∙ is name
      ∙ sym (ap (λ l. position (pointwise nat_eq name) l) more ∙ stays (pointwise nat_eq name) names (bytes k) n'))
      (cases_Bool (bytes_eq name (bytes k)))
    where
      stays : {A : Type 0} (p : A → Bool) (xs : List A) (y : A) → p y ≡ false → position p (xs ++ y ∷ []) ≡ position p xs
      stays p xs y other = by (position p xs) refl
        where
          by : (found : Option ℕ) → position p xs ≡ found → position p (xs ++ y ∷ []) ≡ position p xs
          by (Some i) e = place_push_old p xs y i e ∙ sym e
          by None e = place_push_new p xs y e ∙ cond-false (p y) (Some (length xs)) None other ∙ sym e

  -- a name that the map has, and one that it lacks
  pub named_kept : (m : BTreeMap K ℕ) (name : List ℕ) → IsNumbered bytes m → is_some (get_by (λ key. slice_cmp nat_cmp name (bytes key)) m) ≡ true → names_of bytes m.entries ≡ named (names_of bytes m.entries) name
  named_kept m name is there =
      let names = names_of bytes m.entries in
      sym (ap (λ b. if b then names else names ++ name ∷ []) (any_is_place (pointwise nat_eq name) names ∙ (ap is_some (sym (is name)) ∙ there)))

  pub named_more : (m : BTreeMap K ℕ) (name : List ℕ) → IsNumbered bytes m → is_some (get_by (λ key. slice_cmp nat_cmp name (bytes key)) m) ≡ false → names_of bytes m.entries ++ name ∷ [] ≡ named (names_of bytes m.entries) name
  named_more m name is lacks =
      let names = names_of bytes m.entries in
      sym (ap (λ b. if b then names else names ++ name ∷ []) (any_is_place (pointwise nat_eq name) names ∙ (ap is_some (sym (is name)) ∙ lacks)))

  -- the number of a name that the map has, and of one that it lacks
  pub number_found : (m : BTreeMap K ℕ) (name : List ℕ) (place : ℕ) → IsNumbered bytes m → get_by (λ key. slice_cmp nat_cmp name (bytes key)) m ≡ Some place → place + 1 ≡ footnote_number (names_of bytes m.entries) name
  number_found m name place is there = ap (λ n. n + 1) (sym (place_found (pointwise nat_eq name) (names_of bytes m.entries) place (sym (is name) ∙ there)))

  pub number_next : (m : BTreeMap K ℕ) (name : List ℕ) → IsNumbered bytes m → get_by (λ key. slice_cmp nat_cmp name (bytes key)) m ≡ None → length m.entries + 1 ≡ footnote_number (names_of bytes m.entries) name
  number_next m name is lacks =
      ap (λ n. n + 1) (sym (length-names_below m.entries (length m.entries)) ∙ sym (place_missing (pointwise nat_eq name) (names_of bytes m.entries) (sym (is name) ∙ lacks)))

  -- a key is absent if its name is absent
  pub absent : (m : BTreeMap K ℕ) (k : K) (name : List ℕ) (found : Bool) → found ≡ is_some (get_by (λ key. slice_cmp nat_cmp name (bytes key)) m) → found ≡ false
      → name ≡ bytes k → get_by (key_cmp k) m ≡ None
  absent m k name found is lacks same =
      subst (λ l. get_by (λ key. slice_cmp nat_cmp l (bytes key)) m ≡ None) same (finds_none (get_by (λ key. slice_cmp nat_cmp name (bytes key)) m) (sym is ∙ lacks))

  -- the facts known of a call that puts k into m with the number v, and leaves n
  pub record Inserted {E : Type 0} (r : Result (Option ℕ) E) (m n : BTreeMap K ℕ) (k : K) (v : ℕ) : Type 0 where
    pub numbered : IsNumbered bytes m
    pub below : All (λ i. i < length m.entries) (values_of m.entries)
    pub none : get_by (key_cmp k) m ≡ None
    pub place : v ≡ length m.entries
    pub old : IfOk r (λ old. old ≡ get_by (key_cmp k) m)
    pub updates : OnOk r (UpdatesBy key_cmp (key_cmp k) m n (Some v))
    pub entries : OnOk r (n.entries ≡ insert_entry key_cmp m.entries k v)
    pub len : IfOk r (λ old. length n.entries ≡ length m.entries + (if is_some old then 0 else 1))
    pub err : OnErr r (n.entries ≡ m.entries)

  module _ {E : Type 0} (m n : BTreeMap K ℕ) (k : K) (v : ℕ) where
    one_more : (o : Option ℕ) → Inserted {E = E} (Ok o) m n k v → length n.entries ≡ suc (length m.entries)
    one_more o h = let len = h.len ∙ ap (λ old. length m.entries + (if is_some old then 0 else 1)) (h.old ∙ h.none) in omega (arith, len)

    entries_more : (o : Option ℕ) → Inserted {E = E} (Ok o) m n k v → n.entries ≡ insert_entry key_cmp m.entries k (length m.entries)
    entries_more o h = h.entries ∙ ap (insert_entry key_cmp m.entries k) h.place

    pub names_after : (r : Result (Option ℕ) E) → is_ok r ≡ true → Inserted r m n k v → names_of bytes n.entries ≡ names_of bytes m.entries ++ bytes k ∷ []
    names_after (Ok o) e h =
        let is = entries_more o h in
        ap (names_of bytes) is ∙ names_more m.entries k h.below h.none (ap length (sym is) ∙ one_more o h)
    names_after (Err x) e h = absurd (true≢false (sym e))

    pub numbered_after : (r : Result (Option ℕ) E) → Inserted r m n k v → IsNumbered bytes n
    numbered_after (Ok o) h = numbered_more m n k h.numbered h.none (subst (λ i. UpdatesBy key_cmp (key_cmp k) m n (Some i)) h.place h.updates) (names_after (Ok o) refl h)
    numbered_after (Err e) h = λ name. ap (lookup (is_at (λ key. slice_cmp nat_cmp name (bytes key)))) h.err ∙ h.numbered name ∙ ap (λ es. position (pointwise nat_eq name) (names_of bytes es)) (sym h.err)

    pub below_after : (r : Result (Option ℕ) E) → Inserted r m n k v → All (λ i. i < length n.entries) (values_of n.entries)
    below_after (Ok o) h =
        subst (λ len. All (λ i. i < len) (values_of n.entries)) (sym (one_more o h))
        (subst (λ es. All (λ i. i < suc (length m.entries)) (values_of es)) (sym (entries_more o h)) (below_more m.entries k h.below))
    below_after (Err e) h = subst (λ es. All (λ i. i < length es) (values_of es)) (sym h.err) h.below
