-- The first byte that passes a test, and whether one passes.
use Rattle.std.proofs.Common.{◌≡◌, ℕ, suc, ◌<◌, Bool, false, ◌||◌, List, [], ◌∷◌, length, get_or, Option, None, Some, is_some, refl, sym, ap, ◌∙◌, arith}
use Rattle.std.specs.List.{list_any}
use Rattle.std.proofs.lemmas.Bool.{false_from_ne_true}
use Rattle.std.proofs.lemmas.List.Folds.{list_any_at}
use Rattle.memchr.specs.Find.{IsFirstByte}

any_none : (test : ℕ → Bool) (bs : List ℕ) → ((k : ℕ) → k < length bs → test (get_or bs k 0) ≡ false) → list_any test bs ≡ false
any_none test [] fails = refl
any_none test (b ∷ bs) fails = ap (λ t. t || list_any test bs) (fails 0 (omega arith)) ∙ any_none test bs (λ k lt. fails (suc k) (omega arith))

pub any_first : (test : ℕ → Bool) (bs : List ℕ) (r : Option ℕ) → IsFirstByte test bs r → is_some r ≡ list_any test bs
any_first test bs None h = sym (any_none test bs (λ k lt. false_from_ne_true _ (h k (omega arith) lt)))
any_first test bs (Some n) h = sym (list_any_at test bs n 0 h.0.high h.1)
