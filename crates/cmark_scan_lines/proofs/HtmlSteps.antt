-- Names of tags, and the bytes that begin with them.
use Rattle.std.proofs.Common.{◌≡◌, ◌⊎◌, inl, inr, ⊎_elim, ℕ, zero, suc, ◌+◌, ◌<◌, ◌≤◌, Bool, true, false, cond, ◌==◌, ◌&&◌, ◌||◌, List, [], ◌∷◌, length, take, drop, map, get_or, refl, sym, ap, ◌∙◌, subst, arith, eqb-true, ne_eqb, Option, Some, None}
use Rattle.std.specs.Prelude.{if◌then◌else◌, nat_le, codes, is_some}
use Rattle.std.proofs.Math.ListN.{drop_of_length-le}
use Rattle.memchr.specs.Find.{FindsNeedle}
use Rattle.cmark_grammar.specs.Letters.{after_first_of}
use Rattle.cmark_scan_bytes.proofs.Closers.{closer_found, no_closer}
use Rattle.std.specs.List.{prefix_len}
use Rattle.std.proofs.lemmas.Bool.{leb-true, le-leb, lt-leb}
use Rattle.std.proofs.lemmas.List.{take-map}
use Rattle.std.proofs.lemmas.List.Folds.{length-prefix_len}
use Rattle.cmark_grammar.specs.Leaves.{is_parted}
use Rattle.cmark_grammar.specs.HtmlBlocks.{lower, is_alphanumeric, first_is, starts, is_among, raw_names, block_names, name_in, after_name, begins_raw, begins_block, holds}
use Rattle.cmark_scan_lines.specs.HtmlLines.{names_from, ends_name, ends_block_name, ends_raw, closes_raw}

abbrev Each : (ℕ → Type 0) → List ℕ → Type 0
Each P [] = Unit {0}
Each P (k ∷ ks) = P k × Each P ks

by_cases : (P : ℕ → Type 0) (b : ℕ) (ks : List ℕ) → Each P ks → (Each (λ k. (b == k) ≡ false) ks → P b) → P b
by_cases P b [] each other = other tt
by_cases P b (k ∷ ks) each other = go (b == k) refl (by_cases P b ks each.1)
  where
    go : (z : Bool) → (b == k) ≡ z → ((Each (λ k. (b == k) ≡ false) ks → P b) → P b) → P b
    go true e ih = subst P (sym (eqb-true b k e)) each.0
    go false e ih = ih (λ rest. other (e, rest))

-- a block's name is among those that begin with its letter
pub names-first : (b : ℕ) (bs : List ℕ) → is_among (b ∷ bs) (names_from b) ≡ is_among (b ∷ bs) block_names
names-first b bs =
    by_cases (λ x. is_among (x ∷ bs) (names_from x) ≡ is_among (x ∷ bs) block_names) b (97 ∷ 98 ∷ 99 ∷ 100 ∷ 102 ∷ 104 ∷ 105 ∷ 108 ∷ 109 ∷ 110 ∷ 111 ∷ 112 ∷ 115 ∷ 116 ∷ 117 ∷ [])
    ((refl, (refl, (refl, (refl, (refl, (refl, (refl, (refl, (refl, (refl, (refl, (refl, (refl, (refl, (refl, tt))))))))))))))))
    (λ h. rw (h.0, h.1.0, h.1.1.0, h.1.1.1.0, h.1.1.1.1.0, h.1.1.1.1.1.0, h.1.1.1.1.1.1.0, h.1.1.1.1.1.1.1.0, h.1.1.1.1.1.1.1.1.0, h.1.1.1.1.1.1.1.1.1.0, h.1.1.1.1.1.1.1.1.1.1.0, h.1.1.1.1.1.1.1.1.1.1.1.0, h.1.1.1.1.1.1.1.1.1.1.1.1.0, h.1.1.1.1.1.1.1.1.1.1.1.1.1.0, h.1.1.1.1.1.1.1.1.1.1.1.1.1.1.0) refl)

pub names-of : (name : List ℕ) (r : Bool) → 1 ≤ length name → r ≡ is_among (map lower name) (names_from (lower (get_or name 0 0))) → r ≡ is_among (map lower name) block_names
names-of [] r some e = absurd (omega arith)
names-of (b ∷ bs) r some e = e ∙ names-first (lower b) (map lower bs)

-- a byte in its lower case is itself, or was a capital letter
lower_cases : (b : ℕ) → (lower b ≡ b) ⊎ ((lower b ≡ b + 32) × (65 ≤ b) × (b ≤ 90))
lower_cases b = go (nat_le 65 b) refl (nat_le b 90) refl
  where
    go : (x : Bool) → nat_le 65 b ≡ x → (y : Bool) → nat_le b 90 ≡ y → ((if x && y then b + 32 else b) ≡ b) ⊎ (((if x && y then b + 32 else b) ≡ b + 32) × (65 ≤ b) × (b ≤ 90))
    go true e true f = inr (refl, leb-true 65 b e, leb-true b 90 f)
    go true e false f = inl refl
    go false e y f = inl refl

small : (b : ℕ) → 91 ≤ b → lower b ≡ b
small b le = ap (λ t. if t then b + 32 else b) (ap (λ t. nat_le 65 b && t) (lt-leb b 90 (omega arith)) ∙ off (nat_le 65 b))
  where
    off : (z : Bool) → (z && false) ≡ false
    off true = refl
    off false = refl

letter : (b : ℕ) → 97 ≤ lower b → lower b ≤ 122 → is_alphanumeric b ≡ true
letter b le le' = rw (le-leb 97 (lower b) le, le-leb (lower b) 122 le') refl

alphanumeric-lower : (b : ℕ) → is_alphanumeric (lower b) ≡ is_alphanumeric b
alphanumeric-lower b = ⊎_elim (λ e. ap is_alphanumeric e) capital (lower_cases b)
  where
    capital : ((lower b ≡ b + 32) × (65 ≤ b) × (b ≤ 90)) → is_alphanumeric (lower b) ≡ is_alphanumeric b
    capital h =
        let e = h.0 in let low = h.1 in let high = h.2 in
        let again : lower (lower b) ≡ lower b = small (lower b) (omega arith) in
        letter (lower b) (omega arith) (omega arith) ∙ sym (letter b (omega arith) (omega arith))

lower-mark : (b k : ℕ) → k < 65 → (lower b == k) ≡ (b == k)
lower-mark b k lt = ⊎_elim (λ e. ap (λ x. x == k) e) (λ h. let e = h.0 in let low = h.1 in ne_eqb (lower b) k (λ q. absurd (omega arith)) ∙ sym (ne_eqb b k (λ q. absurd (omega arith)))) (lower_cases b)

prefix-lower : (bs : List ℕ) → prefix_len is_alphanumeric (map lower bs) ≡ prefix_len is_alphanumeric bs
prefix-lower [] = refl
prefix-lower (b ∷ bs) = ap (λ n. cond (is_alphanumeric (lower b)) (1 + n) 0) (prefix-lower bs) ∙ ap (λ t. cond t (1 + prefix_len is_alphanumeric bs) 0) (alphanumeric-lower b)

drop-lower : (n : ℕ) (bs : List ℕ) → drop n (map lower bs) ≡ map lower (drop n bs)
drop-lower zero bs = refl
drop-lower (suc n) [] = refl
drop-lower (suc n) (b ∷ bs) = drop-lower n bs

parted-lower : (bs : List ℕ) → is_parted (map lower bs) ≡ is_parted bs
parted-lower [] = refl
parted-lower (b ∷ bs) = ap (λ t. t || (lower b == 9)) (lower-mark b 32 (omega arith)) ∙ ap (λ t. (b == 32) || t) (lower-mark b 9 (omega arith))

first-lower : (bs : List ℕ) → first_is (λ b. b == 62) (map lower bs) ≡ first_is (λ b. b == 62) bs
first-lower [] = refl
first-lower (b ∷ bs) = lower-mark b 62 (omega arith)

slash-lower : (bs : List ℕ) → starts (codes "/>") (map lower bs) ≡ starts (codes "/>") bs
slash-lower [] = refl
slash-lower (b ∷ []) = ap (λ t. t && false) (lower-mark b 47 (omega arith))
slash-lower (b ∷ c ∷ cs) = ap (λ t. t && ((lower c == 62) && true)) (lower-mark b 47 (omega arith)) ∙ ap (λ t. (b == 47) && (t && true)) (lower-mark c 62 (omega arith))

name-lower : (bs : List ℕ) (n : ℕ) → n ≡ prefix_len is_alphanumeric bs → name_in (map lower bs) ≡ map lower (take n bs)
name-lower bs n is = ap (λ m. take m (map lower bs)) (prefix-lower bs ∙ sym is) ∙ take-map lower n bs

rest-lower : (bs : List ℕ) (n : ℕ) → n ≡ prefix_len is_alphanumeric bs → after_name (map lower bs) ≡ map lower (drop n bs)
rest-lower bs n is = ap (λ m. drop m (map lower bs)) (length-prefix_len is_alphanumeric (map lower bs) ∙ prefix-lower bs ∙ sym is) ∙ drop-lower n bs

pub raw-is : (bs : List ℕ) (n : ℕ) → n ≡ prefix_len is_alphanumeric bs → (is_among (map lower (take n bs)) raw_names && ends_name (drop n bs)) ≡ begins_raw (map lower bs)
raw-is bs n is =
    sym (ap (λ l. is_among l raw_names && ends_name (after_name (map lower bs))) (name-lower bs n is)
    ∙ ap (λ t. is_among (map lower (take n bs)) raw_names && t) (ap ends_name (rest-lower bs n is) ∙ ap (λ t. t || first_is (λ b. b == 62) (map lower (drop n bs))) (parted-lower (drop n bs)) ∙ ap (λ t. is_parted (drop n bs) || t) (first-lower (drop n bs))))

pub block-is : (bs : List ℕ) (n : ℕ) → n ≡ prefix_len is_alphanumeric bs → (is_among (map lower (take n bs)) block_names && ends_block_name (drop n bs)) ≡ begins_block (map lower bs)
block-is bs n is =
    sym (ap (λ l. is_among l block_names && ends_block_name (after_name (map lower bs))) (name-lower bs n is)
    ∙ ap (λ t. is_among (map lower (take n bs)) block_names && t)
    (ap ends_block_name (rest-lower bs n is) ∙ ap (λ t. t || (first_is (λ b. b == 62) (map lower (drop n bs)) || starts (codes "/>") (map lower (drop n bs)))) (parted-lower (drop n bs))
    ∙ ap (λ t. is_parted (drop n bs) || (t || starts (codes "/>") (map lower (drop n bs)))) (first-lower (drop n bs)) ∙ ap (λ t. is_parted (drop n bs) || (first_is (λ b. b == 62) (drop n bs) || t)) (slash-lower (drop n bs))))

-- a word that occurs is at the beginning, or occurs after the first byte
or-swap : (a b c d : Bool) → ((a || b) || (c || d)) ≡ ((a || c) || (b || d))
or-swap true b c d = refl
or-swap false true true d = refl
or-swap false true false d = refl
or-swap false false c d = refl

holds-cons : (b : ℕ) (bs : List ℕ) → ends_raw (b ∷ bs) ≡ (closes_raw (b ∷ bs) || ends_raw bs)
holds-cons b bs =
    ap (λ t. (starts (codes "</pre>") (b ∷ bs) || holds (codes "</pre>") bs) || ((starts (codes "</script>") (b ∷ bs) || holds (codes "</script>") bs) || t))
    (or-swap (starts (codes "</style>") (b ∷ bs)) (holds (codes "</style>") bs) (starts (codes "</textarea>") (b ∷ bs)) (holds (codes "</textarea>") bs))
    ∙ ap (λ t. (starts (codes "</pre>") (b ∷ bs) || holds (codes "</pre>") bs) || t)
    (or-swap (starts (codes "</script>") (b ∷ bs)) (holds (codes "</script>") bs) (starts (codes "</style>") (b ∷ bs) || starts (codes "</textarea>") (b ∷ bs)) (holds (codes "</style>") bs || holds (codes "</textarea>") bs))
    ∙ or-swap (starts (codes "</pre>") (b ∷ bs)) (holds (codes "</pre>") bs) (starts (codes "</script>") (b ∷ bs) || (starts (codes "</style>") (b ∷ bs) || starts (codes "</textarea>") (b ∷ bs))) (holds (codes "</script>") bs || (holds (codes "</style>") bs || holds (codes "</textarea>") bs))

closes-not : (b : ℕ) (bs : List ℕ) → (b == 60) ≡ false → closes_raw (b ∷ bs) ≡ false
closes-not b bs e = rw e refl

-- bytes before the first `<` change nothing
pub ends-skip : (bs : List ℕ) (n : ℕ) → n ≤ length bs → ((k : ℕ) → k < n → (get_or bs k 0 == 60) ≡ false) → ends_raw (map lower (drop n bs)) ≡ ends_raw (map lower bs)
ends-skip bs zero le other = refl
ends-skip [] (suc n) le other = absurd (omega arith)
ends-skip (b ∷ bs) (suc n) le other =
    ends-skip bs n (omega arith) (λ k lt. other (suc k) (omega arith))
    ∙ sym (holds-cons (lower b) (map lower bs) ∙ ap (λ t. t || ends_raw (map lower bs)) (closes-not (lower b) (map lower bs) (lower-mark b 60 (omega arith) ∙ other 0 (omega arith))))

pub ends-none : (bs : List ℕ) → ((k : ℕ) → k < length bs → (get_or bs k 0 == 60) ≡ false) → false ≡ ends_raw (map lower bs)
ends-none bs other = ap (λ l. ends_raw (map lower l)) (sym (drop_of_length-le bs (omega arith))) ∙ ends-skip bs (length bs) (omega arith) other

pub ends-here : (bs : List ℕ) → 0 < length bs → closes_raw (map lower bs) ≡ true → true ≡ ends_raw (map lower bs)
ends-here [] some e = absurd (omega arith)
ends-here (b ∷ bs) some e = sym (holds-cons (lower b) (map lower bs) ∙ ap (λ t. t || ends_raw (map lower bs)) e)

pub ends-next : (bs : List ℕ) → 0 < length bs → closes_raw (map lower bs) ≡ false → ends_raw (map lower (drop 1 bs)) ≡ ends_raw (map lower bs)
ends-next [] some e = absurd (omega arith)
ends-next (b ∷ bs) some e = sym (holds-cons (lower b) (map lower bs) ∙ ap (λ t. t || ends_raw (map lower bs)) e)

-- a word occurs if it is found
holds-first : (word : List ℕ) → 0 < length word → (bs : List ℕ) → is_some (after_first_of word bs) ≡ holds word bs
holds-first [] some bs = absurd (omega arith)
holds-first (w ∷ word) some [] = refl
holds-first (w ∷ word) some (b ∷ bs) = go (starts (w ∷ word) (b ∷ bs)) (holds-first (w ∷ word) some bs)
  where
    go : (z : Bool) → is_some (after_first_of (w ∷ word) bs) ≡ holds (w ∷ word) bs → is_some (if z then Some (drop (suc (length word)) (b ∷ bs)) else after_first_of (w ∷ word) bs) ≡ (z || holds (w ∷ word) bs)
    go true ih = refl
    go false ih = ih

pub holds-found : (word : List ℕ) → 0 < length word → (bs : List ℕ) (found : Option ℕ) → FindsNeedle bs word 0 found → is_some found ≡ holds word bs
holds-found word some bs None none = ap is_some (no_closer word some bs none) ∙ holds-first word some bs
holds-found word some bs (Some n) found = ap is_some (closer_found word some bs n found) ∙ holds-first word some bs
