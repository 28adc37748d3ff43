-- A task marker is ASCII.
use Rattle.std.proofs.Common.{◌≡◌, ℕ, zero, suc, Bool, true, false, ◌||◌, List, [], ◌∷◌, length, take, refl, sym, subst, arith, Some, None, rules}
use Rattle.std.specs.Prelude.{if◌then◌else◌, codes}
use Rattle.std.proofs.lemmas.Slice.Eq.{bytes_eq-Decides}
use Rattle.cmark_grammar.specs.HtmlBlocks.{starts}
use Rattle.cmark_grammar.specs.TaskMarkers.{box_of, task_of}
use Rattle.cmark_block_model.proofs.Fronts.{Front, IsAsciiByte}

-- ASCII bytes among the first bytes are ASCII bytes of the whole
whole-front : (n : ℕ) (bs : List ℕ) → Front IsAsciiByte n (take n bs) → Front IsAsciiByte n bs
whole-front n [] f = tt
whole-front zero (b ∷ bs) f = tt
whole-front (suc n) (b ∷ bs) f = (f.0, whole-front n bs f.1)

starts-front : (prefix bs : List ℕ) → Front IsAsciiByte (length prefix) prefix → starts prefix bs ≡ true → Front IsAsciiByte (length prefix) bs
starts-front prefix bs f e =
    whole-front (length prefix) bs (subst (λ l. Front IsAsciiByte (length prefix) l) (sym ((bytes_eq-Decides (take (length prefix) bs) prefix).0 e)) f)

box-front : (bs : List ℕ) (is_checked : Bool) → box_of bs ≡ Some is_checked → Front IsAsciiByte 3 bs
box-front bs is_checked e = go (starts (codes "[ ]") bs) (starts (codes "[x]") bs) (starts (codes "[X]") bs) refl refl refl e
  where
    go : (x y z : Bool) → starts (codes "[ ]") bs ≡ x → starts (codes "[x]") bs ≡ y → starts (codes "[X]") bs ≡ z → (if x then Some false else if y || z then Some true else None) ≡ Some is_checked → Front IsAsciiByte 3 bs
    go true y z ex ey ez q = starts-front (codes "[ ]") bs (omega arith, (omega arith, (omega arith, tt))) ex
    go false true z ex ey ez q = starts-front (codes "[x]") bs (omega arith, (omega arith, (omega arith, tt))) ey
    go false false true ex ey ez q = starts-front (codes "[X]") bs (omega arith, (omega arith, (omega arith, tt))) ez
    go false false false ex ey ez q = absurd (let p : None ≡ Some is_checked = q in cc)

pub task-front : (bs : List ℕ) (is_checked : Bool) → task_of bs ≡ Some is_checked → Front IsAsciiByte 3 bs
task-front bs is_checked e = search (rules, box-front)
