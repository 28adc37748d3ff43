-- Reading groups of records one after the other, as the loop does.
use Rattle.std.proofs.Common.{◌≡◌, ℕ, suc, ◌+◌, ◌<◌, ◌≤◌, Bool, true, false, cond, List, [], ◌∷◌, ◌++◌, Option, Some, drop, length, map, take, refl, sym, ap, subst, ◌∙◌, arith}
use Rattle.std.specs.List.{prefix_len}
use Rattle.std.proofs.lemmas.List.{drop-drop, length-drop, nil_from_length}
use Rattle.cmark_flat.specs.Decode.{Group, each, first_by, groups, is_further, later, parts_at}
use Rattle.cmark_flat.specs.Records.{shown_record}
use Rattle.cmark_flat.specs.declared.record.Record.{Record}
use Rattle.cmark_flat.specs.declared.error.DecodeError.{DecodeError}
use Rattle.cmark_flat.specs.declared.error.DecodeError.TheVariants as errors
use Rattle.cmark_flat.specs.Gives.{Fails}
use Rattle.cmark_flat.proofs.Loop.{each_more, each_none, is_done, with_front}

abbrev pub is_part : Record → Bool
is_part r = is_further (shown_record r)

one_more : (n : ℕ) → 1 + n ≡ suc n
one_more n = omega arith

parts_by : (b : Bool) (r : Record) (rs : List Record) (n : ℕ) → map shown_record (take n rs) ≡ parts_at (map shown_record rs)
    → map shown_record (take (cond b (1 + n) 0) (r ∷ rs)) ≡ cond b (shown_record r ∷ parts_at (map shown_record rs)) []
parts_by true r rs n h = ap (λ m. map shown_record (take m (r ∷ rs))) (one_more n) ∙ ap (λ l. shown_record r ∷ l) h
parts_by false r rs n h = refl

later_by : (b : Bool) (r : Record) (rs : List Record) (n : ℕ) → groups (map shown_record (drop n rs)) ≡ later (map shown_record rs)
    → groups (map shown_record (drop (cond b (1 + n) 0) (r ∷ rs))) ≡ cond b (later (map shown_record rs)) (groups (map shown_record (r ∷ rs)))
later_by true r rs n h = ap (λ m. groups (map shown_record (drop m (r ∷ rs)))) (one_more n) ∙ h
later_by false r rs n h = refl

-- the further records that come first, by their number
parts_are : (rs : List Record) → map shown_record (take (prefix_len is_part rs) rs) ≡ parts_at (map shown_record rs)
parts_are [] = refl
parts_are (r ∷ rs) = parts_by (is_part r) r rs (prefix_len is_part rs) (parts_are rs)

-- and the groups after them
later_are : (rs : List Record) → groups (map shown_record (drop (prefix_len is_part rs) rs)) ≡ later (map shown_record rs)
later_are [] = refl
later_are (r ∷ rs) = later_by (is_part r) r rs (prefix_len is_part rs) (later_are rs)

-- the first group, whose further records have this number
first_group : (own : Record) (after : List Record) (n : ℕ) → n ≡ prefix_len is_part after
    → groups (map shown_record (own ∷ after)) ≡ record { own = shown_record own; parts = map shown_record (take n after) } ∷ groups (map shown_record (drop n after))
first_group own after n number =
    let parts : parts_at (map shown_record after) ≡ map shown_record (take n after) = sym (parts_are after) ∙ ap (λ m. map shown_record (take m after)) (sym number) in
    let more : later (map shown_record after) ≡ groups (map shown_record (drop n after)) = sym (later_are after) ∙ ap (λ m. groups (map shown_record (drop m after))) (sym number) in
    ap (λ ps. record { own = shown_record own; parts = ps } ∷ later (map shown_record after)) parts
    ∙ ap (λ gs. record { own = shown_record own; parts = map shown_record (take n after) } ∷ gs) more

-- what `f` finds in each group is read
module _ {A B : Type 0} (f : Group → Option B) (view : A → B) where
  -- what it finds in the first group
  pub first_is : (rs : List Record) (own : Record) (after : List Record) (n : ℕ) → rs ≡ own ∷ after → n ≡ prefix_len is_part after
      → first_by f (map shown_record rs) ≡ f (record { own = shown_record own; parts = map shown_record (take n after) })
  first_is rs own after n split number =
      ap (λ l. first_by f (map shown_record l)) split
      ∙ ap (λ ps. f (record { own = shown_record own; parts = ps })) (sym (parts_are after) ∙ ap (λ m. map shown_record (take m after)) (sym number))

  abbrev read_of : List Record → Option (List B)
  read_of rs = each f (groups (map shown_record rs))

  step_of : (rs : List Record) (n : ℕ) (found : List A) (e : A) (total : Option (List B)) → 0 < length rs → n ≡ prefix_len is_part (drop 1 rs) → first_by f (map shown_record rs) ≡ Some (view e)
      → with_front (map view found) (read_of rs) ≡ total → with_front (map view (found ++ e ∷ [])) (read_of (drop n (drop 1 rs))) ≡ total
  step_of [] n found e total some number h so_far = absurd (omega (arith, some))
  step_of (own ∷ after) n found e total some number h so_far =
      each_more f view (groups (map shown_record (own ∷ after))) (record { own = shown_record own; parts = map shown_record (take n after) }) (groups (map shown_record (drop n after))) found e total
      (first_group own after n number) (sym (first_is (own ∷ after) own after n refl number) ∙ h) so_far

  -- one group more
  pub step : (rs : List Record) (at n : ℕ) (found : List A) (e : A) (total : Option (List B)) → at < length rs → n ≡ prefix_len is_part (drop (at + 1) rs) → first_by f (map shown_record (drop at rs)) ≡ Some (view e)
      → with_front (map view found) (read_of (drop at rs)) ≡ total → with_front (map view (found ++ e ∷ [])) (read_of (drop (at + (1 + n)) rs)) ≡ total
  step rs at n found e total lt number h so_far =
      let some : 0 < length (drop at rs) = omega (arith, lt, length-drop at rs) in
      let place : at + 1 + n ≡ at + (1 + n) = omega arith in
      let later_is : drop n (drop 1 (drop at rs)) ≡ drop (at + (1 + n)) rs = ap (drop n) (drop-drop 1 at rs) ∙ drop-drop n (at + 1) rs ∙ ap (λ m. drop m rs) place in
      subst (λ l. with_front (map view (found ++ e ∷ [])) (read_of l) ≡ total) later_is
      (step_of (drop at rs) n found e total some (number ∙ ap (prefix_len is_part) (sym (drop-drop 1 at rs))) h so_far)

  -- a group in which it finds nothing
  group_fails : (e : DecodeError) (gs : List Group) (g : Group) (more : List Group) (front : List B) (total : Option (List B)) → gs ≡ g ∷ more → Fails e (f g)
      → with_front front (each f gs) ≡ total → Fails e total
  group_fails errors.NoMemory gs g more front total split h so_far = tt
  group_fails errors.Malformed gs g more front total split h so_far = each_none f gs g more front total split h so_far

  fails_of : (rs : List Record) (e : DecodeError) (front : List B) (total : Option (List B)) → 0 < length rs → Fails e (first_by f (map shown_record rs)) → with_front front (read_of rs) ≡ total → Fails e total
  fails_of [] e front total some h so_far = absurd (omega (arith, some))
  fails_of (own ∷ after) e front total some h so_far =
      group_fails e (groups (map shown_record (own ∷ after))) (record { own = shown_record own; parts = parts_at (map shown_record after) }) (later (map shown_record after)) front total refl h so_far

  pub fails : (rs : List Record) (at : ℕ) (e : DecodeError) (front : List B) (total : Option (List B)) → at < length rs → Fails e (first_by f (map shown_record (drop at rs))) → with_front front (read_of (drop at rs)) ≡ total → Fails e total
  fails rs at e front total lt h so_far = fails_of (drop at rs) e front total (omega (arith, lt, length-drop at rs)) h so_far

  -- no group is left
  pub all_grouped : (rs : List Record) (at : ℕ) (front : List B) (total : Option (List B)) → length rs ≤ at → with_front front (read_of (drop at rs)) ≡ total → total ≡ Some front
  all_grouped rs at front total le so_far =
      let none : drop at rs ≡ [] = nil_from_length (drop at rs) (omega (arith, le, length-drop at rs)) in
      is_done front (read_of (drop at rs)) total (ap read_of none) so_far
