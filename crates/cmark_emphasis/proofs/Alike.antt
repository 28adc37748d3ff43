-- Closing runs of one class agree with the same open runs.
use Rattle.std.proofs.Common.{◌≡◌, ℕ, ◌+◌, ◌%◌, Bool, true, false, ◌&&◌, ◌||◌, not, ◌==◌, nat_lt, refl, sym, ap, ◌∙◌, subst, arith, eqb-true, true≢false}
use Rattle.std.proofs.lemmas.Bool.{lt-ltb}
use Rattle.cmark_grammar.specs.Emphasis.{Run, can_both, is_tilde_or_equals, agrees}
use Rattle.cmark_emphasis.specs.Classes.{IsClosing, IsLike, is_emphasis_delimiter}

sums : (o c d : ℕ) → d % 3 ≡ c % 3 → (o + d) % 3 ≡ (o + c) % 3
sums o c d e = omega arith

no_tilde : (m : ℕ) → is_emphasis_delimiter m ≡ true → is_tilde_or_equals m ≡ false
no_tilde m e = go (m == 42) refl (m == 95) refl e
  where
    go : (a : Bool) → (m == 42) ≡ a → (b : Bool) → (m == 95) ≡ b → (a || b) ≡ true → is_tilde_or_equals m ≡ false
    go true p b q h = ap is_tilde_or_equals (eqb-true m 42 p)
    go false p true q h = ap is_tilde_or_equals (eqb-true m 95 q)
    go false p false q h = absurd (true≢false (sym h))

-- whether an open run agrees with a closing one of this delimiter, and of a length with this rest
abbrev test : Run → (delimiter : ℕ) → (both : Bool) → (sum rest : ℕ) → Bool
test o delimiter both sum rest =
    ((o.delimiter == delimiter) && true) && (not (can_both o || both) || (not (sum == 0) || ((o.run_length % 3 == 0) && (rest == 0))))

agrees-is : (o c : Run) → IsClosing c → is_emphasis_delimiter c.delimiter ≡ true → agrees o c ≡ test o c.delimiter (can_both c) ((o.run_length + c.run_length) % 3) (c.run_length % 3)
unfolding agrees
agrees-is o c h e =
    ap (λ a. a && (nat_lt 0 c.left && (((o.delimiter == c.delimiter) && (not (is_tilde_or_equals c.delimiter) || (o.run_length == c.run_length))) && rule))) h.closes
    ∙ ap (λ b. b && (((o.delimiter == c.delimiter) && (not (is_tilde_or_equals c.delimiter) || (o.run_length == c.run_length))) && rule)) (lt-ltb 0 c.left h.left)
    ∙ ap (λ b. ((o.delimiter == c.delimiter) && (not b || (o.run_length == c.run_length))) && rule) (no_tilde c.delimiter e)
  where
    rule : Bool
    rule = not (can_both o || can_both c) || (not ((o.run_length + c.run_length) % 3 == 0) || ((o.run_length % 3 == 0) && (c.run_length % 3 == 0)))

pub alike : (o c d : Run) → IsLike c d → IsClosing c → IsClosing d → agrees o d ≡ agrees o c
alike o c d like h k =
    agrees-is o d k (subst (λ m. is_emphasis_delimiter m ≡ true) (sym like.delimiter) like.emphasis)
    ∙ ap (λ m. test o m (can_both d) ((o.run_length + d.run_length) % 3) (d.run_length % 3)) like.delimiter
    ∙ ap (λ b. test o c.delimiter b ((o.run_length + d.run_length) % 3) (d.run_length % 3)) like.both
    ∙ ap (λ n. test o c.delimiter (can_both c) n (d.run_length % 3)) (sums o.run_length c.run_length d.run_length like.run_length)
    ∙ ap (λ n. test o c.delimiter (can_both c) ((o.run_length + c.run_length) % 3) n) like.run_length
    ∙ sym (agrees-is o c h like.emphasis)

-- runs of two `=` agree with each other, and with no other run
equals-is : (o c : Run) → IsClosing c → c.delimiter ≡ 61 → c.run_length ≡ 2 → agrees o c ≡ ((o.delimiter == 61) && (o.run_length == 2))
unfolding agrees
equals-is o c h m n =
    ap (λ a. a && (nat_lt 0 c.left && (((o.delimiter == c.delimiter) && (not (is_tilde_or_equals c.delimiter) || (o.run_length == c.run_length))) && rule c.run_length))) h.closes
    ∙ ap (λ b. b && (((o.delimiter == c.delimiter) && (not (is_tilde_or_equals c.delimiter) || (o.run_length == c.run_length))) && rule c.run_length)) (lt-ltb 0 c.left h.left)
    ∙ ap (λ d. ((o.delimiter == d) && (not (is_tilde_or_equals d) || (o.run_length == c.run_length))) && rule c.run_length) m
    ∙ ap (λ l. ((o.delimiter == 61) && (o.run_length == l)) && rule l) n
    ∙ go (o.delimiter == 61) (o.run_length == 2) refl
  where
    rule : ℕ → Bool
    rule l = not (can_both o || can_both c) || (not ((o.run_length + l) % 3 == 0) || ((o.run_length % 3 == 0) && (l % 3 == 0)))

    always : (a b : Bool) → (not a || (true || b)) ≡ true
    always true b = refl
    always false b = refl

    go : (d s : Bool) → (o.run_length == 2) ≡ s → ((d && s) && rule 2) ≡ (d && s)
    go false s e = refl
    go true false e = refl
    go true true e = ap (λ k. not (can_both o || can_both c) || (not ((k + 2) % 3 == 0) || ((k % 3 == 0) && (2 % 3 == 0)))) (eqb-true o.run_length 2 e) ∙ always (can_both o || can_both c) ((2 % 3 == 0) && (2 % 3 == 0))

pub equals_alike : (o c d : Run) → IsClosing c → c.delimiter ≡ 61 → c.run_length ≡ 2 → IsClosing d → d.delimiter ≡ 61 → d.run_length ≡ 2 → agrees o d ≡ agrees o c
equals_alike o c d h m n k p q = equals-is o d k p q ∙ sym (equals-is o c h m n)
