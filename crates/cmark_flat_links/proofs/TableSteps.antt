-- The first reply with a range, while replies are put into a table one after the other.
use Rattle.std.proofs.Common.{◌≡◌, ◌+◌, ◌<◌, ◌≤◌, get_or, length, map, take, ℕ, Bool, true, false, ◌&&◌, ◌==◌, cond, List, [], ◌∷◌, ◌++◌, Option, Some, None, refl, sym, ap, ap₂, subst, ◌∙◌, arith}
use Rattle.std.specs.Prelude.{is_some, option_map}
use Rattle.std.specs.BTreeMap.{BTreeMap, get_by, UpdatesBy}
use Rattle.std.specs.Cmp.{tied_then}
use Rattle.std.specs.Ordering.{is_eq, nat_cmp, ordering_then}
use Rattle.std.specs.declared.cmp.Ordering.{Ordering}
use Rattle.std.proofs.lemmas.Bool.{false≢true}
use Rattle.cmark_grammar.specs.Answers.{Destination}
use Rattle.cmark_flat.specs.Questions.{Reply, answer_at}
use Rattle.cmark_flat.specs.Replies.{shown_answer, shown_reply}
use Rattle.cmark_flat.specs.declared.replies.Answer.{Answer}
use Rattle.cmark_flat.specs.declared.replies.Reply.{Reply as Given}
use Rattle.cmark_flat_links.specs.Table.{answer_in, answer_or_none}
use Rattle.cmark_flat_links.specs.declared.table.AnswerTable.{AnswerTable}
use Rattle.std.proofs.lemmas.List.{map_push, take_all, take_more}

-- the first of two, if there is one
abbrev pub first_or : {A : Type 0} → Option A → Option A → Option A
first_or None other = other
first_or (Some a) other = Some a

abbrev pub has_range : (start end : ℕ) → Reply → Bool
has_range start end r = r.start == start && r.end == end

-- what the first reply with the range says
abbrev pub found_at : (start end : ℕ) → List Reply → Option (Option Destination)
found_at start end [] = None
found_at start end (r ∷ rs) = cond (has_range start end r) (Some r.answer) (found_at start end rs)

abbrev pub said : Option (Option Destination) → Option Destination
said None = None
said (Some answer) = answer

pub answer_found : (start end : ℕ) (rs : List Reply) → answer_at start end rs ≡ said (found_at start end rs)
answer_found start end [] = refl
answer_found start end (r ∷ rs) = go (has_range start end r) (answer_found start end rs)
  where
    go : (b : Bool) → answer_at start end rs ≡ said (found_at start end rs) → cond b r.answer (answer_at start end rs) ≡ said (cond b (Some r.answer) (found_at start end rs))
    go true h = refl
    go false h = h

-- one more reply, after the others
pub found_push : (start end : ℕ) (rs : List Reply) (r : Reply) → found_at start end (rs ++ r ∷ []) ≡ first_or (found_at start end rs) (cond (has_range start end r) (Some r.answer) None)
found_push start end [] r = refl
found_push start end (s ∷ rs) r = go (has_range start end s) (found_push start end rs r)
  where
    go : (b : Bool) → found_at start end (rs ++ r ∷ []) ≡ first_or (found_at start end rs) (cond (has_range start end r) (Some r.answer) None)
        → cond b (Some s.answer) (found_at start end (rs ++ r ∷ [])) ≡ first_or (cond b (Some s.answer) (found_at start end rs)) (cond (has_range start end r) (Some r.answer) None)
    go true h = refl
    go false h = h

-- the order of ranges
abbrev pub range_cmp : ℕ × ℕ → ℕ × ℕ → Ordering
range_cmp x y = ordering_then (nat_cmp x.0 y.0) (nat_cmp x.1 y.1)

tied : (x y : ℕ) → is_eq (nat_cmp x y) ≡ (x == y)
tied x y = grind arith

same_range : (x y : ℕ × ℕ) → is_eq (range_cmp x y) ≡ (x.0 == y.0 && x.1 == y.1)
same_range x y = sym (tied_then (nat_cmp x.0 y.0) (nat_cmp x.1 y.1)) ∙ ap (λ b. b && is_eq (nat_cmp x.1 y.1)) (tied x.0 y.0) ∙ ap (λ b. x.0 == y.0 && b) (tied x.1 y.1)

module _ {X : Type 0} (view : X → Option Destination) where
  -- the table has what the replies so far say
  abbrev pub Has : BTreeMap (ℕ × ℕ) X → List Reply → Type 0
  Has m rs = (start end : ℕ) → option_map view (get_by (range_cmp (start, end)) m) ≡ found_at start end rs

  some_found : (start end : ℕ) (found : Option X) (here : Option (Option Destination)) → option_map view found ≡ here → is_some found ≡ true → (other : Option (Option Destination)) → here ≡ first_or here other
  some_found start end None here h there other = absurd (false≢true there)
  some_found start end (Some x) None h there other = absurd (let q : Some (view x) ≡ None = h in cc)
  some_found start end (Some x) (Some y) h there other = refl

  nothing_more : (here : Option (Option Destination)) → here ≡ first_or here None
  nothing_more None = refl
  nothing_more (Some y) = refl

  range_is : (start end : ℕ) (r : Reply) → has_range start end r ≡ true → (r.start ≡ start) × (r.end ≡ end)
  range_is start end r h = (grind (arith, h), grind (arith, h))

  -- a reply whose range is there already
  pub passed : (m : BTreeMap (ℕ × ℕ) X) (rs : List Reply) (r : Reply) → Has m rs → is_some (get_by (range_cmp (r.start, r.end)) m) ≡ true → Has m (rs ++ r ∷ [])
  passed m rs r has there start end = has start end ∙ go (has_range start end r) refl ∙ sym (found_push start end rs r)
    where
      go : (b : Bool) → has_range start end r ≡ b → found_at start end rs ≡ first_or (found_at start end rs) (cond b (Some r.answer) None)
      go true same =
          let p = range_is start end r same in
          some_found start end (get_by (range_cmp (start, end)) m) (found_at start end rs) (has start end) (subst (λ (k : ℕ × ℕ). is_some (get_by (range_cmp k) m) ≡ true) (ap₂ (λ a b. (a, b)) p.0 p.1) there) (Some r.answer)
      go false same = nothing_more (found_at start end rs)

  -- a reply with a new range
  pub added : (m n : BTreeMap (ℕ × ℕ) X) (rs : List Reply) (r : Reply) (x : X) → view x ≡ r.answer → Has m rs → get_by (range_cmp (r.start, r.end)) m ≡ None
      → UpdatesBy range_cmp (range_cmp (r.start, r.end)) m n (Some x) → Has n (rs ++ r ∷ [])
  added m n rs r x is has none updates start end =
      ap (option_map view) (updates.0 (start, end)) ∙ ap (λ b. option_map view (cond b (Some x) (get_by (range_cmp (start, end)) m))) (same_range (r.start, r.end) (start, end))
      ∙ go (has_range start end r) refl ∙ sym (found_push start end rs r)
    where
      go : (b : Bool) → has_range start end r ≡ b → option_map view (cond b (Some x) (get_by (range_cmp (start, end)) m)) ≡ first_or (found_at start end rs) (cond b (Some r.answer) None)
      go true same =
          let p = range_is start end r same in
          let absent : found_at start end rs ≡ None = sym (has start end) ∙ ap (option_map view) (subst (λ (k : ℕ × ℕ). get_by (range_cmp k) m ≡ None) (ap₂ (λ a b. (a, b)) p.0 p.1) none) in
          ap Some is ∙ ap (λ here. first_or here (Some r.answer)) (sym absent)
      go false same = has start end ∙ nothing_more (found_at start end rs)

-- ---- replies of the code

pub none_there : {X : Type 0} (found : Option X) → is_some found ≡ false → found ≡ None
none_there None h = refl
none_there (Some x) h = absurd (false≢true (sym h))

-- the replies so far, with one more
pub one_more : (rs : List Given) (at : ℕ) (r : Given) → at < length rs → map shown_reply (take (at + 1) rs) ≡ map shown_reply (take at rs) ++ shown_reply (get_or rs at r) ∷ []
one_more rs at r lt = ap (map shown_reply) (take_more rs at r lt) ∙ map_push shown_reply (take at rs) (get_or rs at r)

answered : (found : Option (Option Answer)) → answer_or_none found ≡ said (option_map shown_answer found)
answered None = refl
answered (Some answer) = refl

-- all replies are in the table
pub all_there : (table : AnswerTable) (rs : List Given) (at : ℕ) → length rs ≤ at → Has shown_answer table.answers (map shown_reply (take at rs)) → (start end : ℕ) → answer_in table start end ≡ answer_at start end (map shown_reply rs)
all_there table rs at le has start end =
    answered (get_by (range_cmp (start, end)) table.answers)
    ∙ ap said (has start end)
    ∙ ap (λ l. said (found_at start end (map shown_reply l))) (take_all at rs le)
    ∙ sym (answer_found start end (map shown_reply rs))
