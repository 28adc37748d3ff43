-- The numbers of list markers.
use Rattle.std.proofs.Common.{◌≡◌, ◌≢◌, ℕ, zero, suc, ◌+◌, ◌-◌, ◌*◌, ◌^◌, ◌<◌, ◌≤◌, Bool, true, false, ◌==◌, not, ◌&&◌, List, [], ◌∷◌, length, take, drop, map, get_or, refl, sym, ap, ◌∙◌, arith, ⊎_elim, true≢false}
use Rattle.std.specs.List.{prefix_len}
use Rattle.std.proofs.Math.Nat.{eq-or-lt_of_le}
use Rattle.std.proofs.lemmas.List.Sums.{prefix_len_passes}
use Rattle.std.proofs.Math.ListN.{get_or-map}
use Rattle.std.proofs.lemmas.Slice.Eq.{bytes_eq-Decides}
use Rattle.cmark_scan_lines.proofs.ByteSteps.{get_or-take}
use Rattle.cmark_grammar.specs.Leaves.{all_pass, are_blank}
use Rattle.cmark_grammar.specs.Alerts.{is_tag}
use Rattle.cmark_grammar.specs.HtmlBlocks.{lower, starts}
use Rattle.std.specs.Prelude.{nat_le}
use Rattle.std.proofs.Math.Nat.{pow-le-pow_right, pow-suc}
use Rattle.std.proofs.lemmas.Bool.{leb-true}
use Rattle.cmark_grammar.specs.Containers.{is_digit, is_delimiter}

pub digit-least : (b : ℕ) → is_digit b ≡ true → 48 ≤ b
digit-least b e = go (nat_le 48 b) refl e
  where
    go : (z : Bool) → nat_le 48 b ≡ z → (z && nat_le b 57) ≡ true → 48 ≤ b
    go true f e = leb-true 48 b f
    go false f e = let q : false ≡ true = e in absurd (cc)

pub below-power : (n i : ℕ) → n < 10 ^ i → i ≤ 8 → n < 100000000
below-power n i lt le = let p : 10 ^ i ≤ 10 ^ 8 = pow-le-pow_right (omega arith) le in omega arith

pub next-power : (n d i : ℕ) → n < 10 ^ i → d ≤ 9 → n * 10 + d < 10 ^ (i + 1)
next-power n d i lt le = let p : 10 ^ (i + 1) ≡ 10 ^ i * 10 = ap (λ m. 10 ^ m) (let e : i + 1 ≡ suc i = omega arith in e) ∙ pow-suc 10 i in omega arith

-- the bytes of a number's marker are no tabs
pub digit-plain : (b : ℕ) → is_digit b ≡ true → b ≢ 9
digit-plain b e same = let l = digit-least b e in absurd (omega arith)

pub delimiter-plain : (b : ℕ) → is_delimiter b ≡ true → b ≢ 9
delimiter-plain b e same = let q : false ≡ true = ap is_delimiter (sym same) ∙ e in absurd (cc)

pub number-plain : (bs : List ℕ) (n : ℕ) → n ≡ prefix_len is_digit bs → is_delimiter (get_or bs n 0) ≡ true → (k : ℕ) → k < n + 1 → get_or bs k 0 ≢ 9
number-plain bs n is ends k lt = ⊎_elim (λ e. delimiter-plain (get_or bs k 0) (ap (λ m. is_delimiter (get_or bs m 0)) e ∙ ends)) (λ l. digit-plain (get_or bs k 0) (prefix_len_passes is_digit bs k 0 (omega arith))) (eq-or-lt_of_le {n = k} {m = n} (omega arith))

-- the bytes of a tag are no tabs, in whatever case
abbrev pub no_tab : ℕ → Bool
no_tab b = not (b == 9)

passes-at : (cs : List ℕ) (k : ℕ) → k < length cs → all_pass no_tab cs ≡ true → no_tab (get_or cs k 0) ≡ true
passes-at [] k lt e = absurd (omega arith)
passes-at (c ∷ cs) zero lt e = go (no_tab c) refl e
  where
    go : (z : Bool) → no_tab c ≡ z → (z && all_pass no_tab cs) ≡ true → no_tab c ≡ true
    go true f e = f
    go false f e = absurd (true≢false (sym e))
passes-at (c ∷ cs) (suc k) lt e = passes-at cs k (omega arith) (go (no_tab c) e)
  where
    go : (z : Bool) → (z && all_pass no_tab cs) ≡ true → all_pass no_tab cs ≡ true
    go true e = e
    go false e = absurd (true≢false (sym e))

pub tag-plain : (tag bs : List ℕ) → starts tag (map lower bs) ≡ true → all_pass no_tab tag ≡ true → (k : ℕ) → k < length tag → get_or bs k 0 ≢ 9
tag-plain tag bs begins plain k lt tabbed =
    let same : take (length tag) (map lower bs) ≡ tag = (bytes_eq-Decides (take (length tag) (map lower bs)) tag).0 begins in
    let at : get_or tag k 0 ≡ 9 =
    ap (λ l. get_or l k 0) (sym same) ∙ get_or-take (map lower bs) (length tag) k lt ∙ get_or-map lower bs k 0 ∙ ap lower tabbed
    in
    true≢false (sym (passes-at tag k lt plain) ∙ ap no_tab at)

pub tag-begins : (tag bs : List ℕ) → is_tag tag bs ≡ true → starts tag (map lower bs) ≡ true
tag-begins tag bs e = go (starts tag (map lower bs)) refl e
  where
    go : (z : Bool) → starts tag (map lower bs) ≡ z → (z && are_blank (drop (length tag) bs)) ≡ true → starts tag (map lower bs) ≡ true
    go true f e = f
    go false f e = absurd (true≢false (sym e))
