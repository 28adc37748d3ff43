-- If highlight is off, the tokens of a leaf are those of the grammar without highlight.
use Rattle.std.specs.Prelude.{zero, suc, ◌==◌, ◌&&◌, ◌||◌, nat_lt, if◌then◌else◌, cond}
use Rattle.std.specs.List.{prefix_len}
use Rattle.std.proofs.Common.{◌≡◌, ℕ, ◌+◌, ◌<◌, ◌≤◌, Bool, true, false, List, [], ◌∷◌, length, Option, refl, sym, ap, subst, ◌∙◌, arith, eqb-true}
use Rattle.std.proofs.lemmas.Bool.{eq-eqb, ltb-true, ltb-false}
use Rattle.cmark_grammar.specs.Flanking.{flanking, is_run_delimiter, is_delimiter_run}
use Rattle.cmark_grammar.specs.InlineTokens.{item_at, is_plain, from, begins, begins_at, goes_on, plain_end, longest, token}
use Rattle.cmark_grammar.specs.Items.{Plain, Token, Stands, Opens, Closes, Ends}
use Rattle.cmark_grammar.specs.LeafText.{Leaf, InTurn, end_of}
use Rattle.cmark_grammar.specs.Lines.{is_content}
use Rattle.cmark_grammar.specs.Options.{Options}
use Rattle.cmark_grammar.specs.Readers.{Reader}
use Rattle.cmark_inline_model.specs.SpecialBytes.{is_special}
use Rattle.cmark_inline_model.specs.LeafModel.{HaveLineEnds}
use Rattle.cmark_inline_model.specs.WithoutHighlight.{is_special_without, is_run_delimiter_without, is_delimiter_run_without, flanking_without, begins_without, begins_at_without, plain_end_without, longest_without, token_without}
use Rattle.cmark_inline_model.proofs.LeafPlaces.{place-from}
use Rattle.cmark_inline_model.proofs.LeafSteps.{at-size}
use Rattle.cmark_inline_model.proofs.TokenLaws.{Onward, begins-at-onward}
use Rattle.cmark_inline_model.proofs.TokenPlaces.{IsPlace, next-place, Sits, begins-at-sits}

-- ## Bytes and delimiter runs
or_none : (x : Bool) → (x || false) ≡ x
or_none true = refl
or_none false = refl

and_none : (x : Bool) → (x && false) ≡ false
and_none true = refl
and_none false = refl

pub special-without : (o : Options) (b : ℕ) → o.highlight ≡ false → is_special o b ≡ is_special_without o b
special-without o b off = cc

pub runs-without : (o : Options) (delimiter n : ℕ) → o.highlight ≡ false → is_delimiter_run o delimiter n ≡ is_delimiter_run_without o delimiter n
runs-without o delimiter n off = grind (arith, and_none, or_none)

flanking_same : (o : Options) (delimiter n : ℕ) (left right : Option ℕ) → o.highlight ≡ false → flanking o delimiter n left right ≡ flanking_without o delimiter n left right
flanking_same o delimiter n left right off = grind (arith, runs-without)

delimiters_same : (b : ℕ) → (b == 61) ≡ false → is_run_delimiter b ≡ is_run_delimiter_without b
delimiters_same b e = ap (λ z. (b == 42) || ((b == 95) || ((b == 126) || ((b == 94) || z)))) e ∙ ap (λ z. (b == 42) || ((b == 95) || ((b == 126) || z))) (or_none (b == 94))

-- ## What begins at a place
module _ (reader : Reader) (leaf : Leaf) (off : reader.options.highlight ≡ false) where
  -- a byte other than `=`
  other_begins : (at b : ℕ) (bs : List ℕ) → (b == 61) ≡ false → begins reader leaf at (b ∷ bs) ≡ begins_without reader leaf at (b ∷ bs)
  other_begins at b bs e = grind (arith, delimiters_same, flanking_same)

  -- `=` signs are plain text
  equals_begins : (at : ℕ) (bs : List ℕ) → begins reader leaf at (61 ∷ bs) ≡ item_at Plain at (at + prefix_len (λ c. c == 61) (61 ∷ bs))
  equals_begins at bs = cc

  -- each of them without highlight
  equals_without : (at : ℕ) (bs : List ℕ) → begins_without reader leaf at (61 ∷ bs) ≡ item_at Plain at (suc at)
  equals_without at bs = grind arith

  module _ (size : ℕ) (turn : InTurn 0 leaf.stretches size) (within : size ≤ length reader.source) (lines : HaveLineEnds reader.source leaf.stretches) where
    abbrev Place : ℕ → Type 0
    Place at = IsPlace reader leaf size turn within lines at

    -- fewer bytes are left after a later offset
    fewer : (at resume : ℕ) → Place at → Place resume → at < resume → resume ≤ end_of leaf.stretches → length (from reader leaf resume) < length (from reader leaf at)
    fewer at resume h k lt le = go (nat_lt (length (from reader leaf resume)) (length (from reader leaf at))) refl
      where
        go : (z : Bool) → nat_lt (length (from reader leaf resume)) (length (from reader leaf at)) ≡ z → length (from reader leaf resume) < length (from reader leaf at)
        go true e = ltb-true (length (from reader leaf resume)) (length (from reader leaf at)) e
        go false e =
            let most = ltb-false (length (from reader leaf resume)) (length (from reader leaf at)) e in
            let left = at-size reader.source leaf.stretches size turn within lines h.0 at h.1 in
            let p = place-from reader.source leaf.stretches size turn h.0 resume (omega arith) le in
            let i = h.1.1 in
            absurd (omega arith)

    -- `=` after `=`
    equals_pass : (j m at : ℕ) (l : List ℕ) → Place at → from reader leaf at ≡ l → prefix_len (λ c. c == 61) l ≡ j → length l ≤ m
        → (n : ℕ) × Place (at + j) × (length (from reader leaf (at + j)) ≤ n) × (plain_end_without reader leaf m at ≡ plain_end_without reader leaf n (at + j))
    equals_pass zero m at l h e p w =
        let z : at ≡ at + 0 = omega arith in
        (m, subst Place z h, subst (λ k. length (from reader leaf k) ≤ m) z (subst (λ x. length x ≤ m) (sym e) w), ap (plain_end_without reader leaf m) z)
    equals_pass (suc j) m at [] h e p w = cc
    equals_pass (suc j) zero at (b ∷ bs) h e p w = absurd (omega arith)
    equals_pass (suc j) (suc m) at (b ∷ bs) h e p w = go (b == 61) refl p (λ h e p. equals_pass j m (suc at) bs h e p (omega arith))
      where
        go : (z : Bool) → (b == 61) ≡ z → cond z (1 + prefix_len (λ c. c == 61) bs) 0 ≡ suc j
            → (Place (suc at) → from reader leaf (suc at) ≡ bs → prefix_len (λ c. c == 61) bs ≡ j
            → (n : ℕ) × Place (suc at + j) × (length (from reader leaf (suc at + j)) ≤ n) × (plain_end_without reader leaf m (suc at) ≡ plain_end_without reader leaf n (suc at + j)))
            → (n : ℕ) × Place (at + suc j) × (length (from reader leaf (at + suc j)) ≤ n) × (plain_end_without reader leaf (suc m) at ≡ plain_end_without reader leaf n (at + suc j))
        go false f q later = absurd (omega arith)
        go true f q later =
            let byte = eqb-true b 61 f in
            let k = next-place reader leaf size turn within lines at b bs h e (ap is_content byte) in
            let i = later k.0 k.1 (let r : prefix_len (λ c. c == 61) bs ≡ j = omega arith in r) in
            let z : suc at + j ≡ at + suc j = omega arith in
            let t : begins_at_without reader leaf at ≡ item_at Plain at (suc at) = ap (begins_without reader leaf at) (e ∙ ap (λ c. c ∷ bs) byte) ∙ equals_without at bs in (
              i.0,
              subst Place z i.1,
              subst (λ x. length (from reader leaf x) ≤ i.0) z i.2,
              ap (λ x. goes_on reader leaf x at (plain_end_without reader leaf m)) t
                  ∙ ap (λ x. if x then plain_end_without reader leaf m (suc at) else at) (eq-eqb at at refl)
                  ∙ i.3
                  ∙ ap (plain_end_without reader leaf i.0) z,
            )

    -- ## The longest plain text
    none_left : (n at : ℕ) → from reader leaf at ≡ [] → plain_end reader leaf n at ≡ at
    none_left zero at e = refl
    none_left (suc n) at e = ap (λ l. goes_on reader leaf (begins reader leaf at l) at (plain_end reader leaf n)) e

    none_without : (n at : ℕ) → from reader leaf at ≡ [] → plain_end_without reader leaf n at ≡ at
    none_without zero at e = refl
    none_without (suc n) at e = ap (λ l. goes_on reader leaf (begins_without reader leaf at l) at (plain_end_without reader leaf n)) e

    abbrev Same : (n m at : ℕ) → Type 0
    Same n m at = Place at → length (from reader leaf at) ≤ n → length (from reader leaf at) ≤ m → plain_end reader leaf n at ≡ plain_end_without reader leaf m at

    -- after a token
    goes_same : (n m at : ℕ) → Place at → length (from reader leaf at) ≤ suc n → length (from reader leaf at) ≤ suc m → ((resume : ℕ) → Same n m resume) → (t : Token) → begins_at reader leaf at ≡ t
        → goes_on reader leaf t at (plain_end reader leaf n) ≡ goes_on reader leaf t at (plain_end_without reader leaf m)
    goes_same n m at h v w ih (Opens opener) e = refl
    goes_same n m at h v w ih (Closes closer) e = refl
    goes_same n m at h v w ih Ends e = refl
    goes_same n m at h v w ih (Stands item resume) e = by (is_plain item.kind && (item.start == at))
      where
        place : Place resume
        place = (subst (Sits reader leaf size turn within lines) e (begins-at-sits reader leaf size turn within lines at h)).0

        less : length (from reader leaf resume) < length (from reader leaf at)
        less = let o = subst (Onward reader leaf size turn at) e (begins-at-onward reader leaf size turn at) in fewer at resume h place o.1 o.2

        by : (z : Bool) → (if z then plain_end reader leaf n resume else at) ≡ (if z then plain_end_without reader leaf m resume else at)
        by true = let l = less in ih resume place (omega arith) (omega arith)
        by false = refl

    begins_same : (at b : ℕ) (bs : List ℕ) → from reader leaf at ≡ b ∷ bs → (b == 61) ≡ false → begins_at reader leaf at ≡ begins_at_without reader leaf at
    begins_same at b bs e f = ap (begins reader leaf at) e ∙ other_begins at b bs f ∙ sym (ap (begins_without reader leaf at) e)

    -- a run of `=`, and the text after it
    pub record Equals (at m : ℕ) : Type 0 where
      pub count : ℕ
      pub bytes : ℕ
      pub token_is : begins_at reader leaf at ≡ item_at Plain at (at + count)
      pub place : Place (at + count)
      pub less : length (from reader leaf (at + count)) < length (from reader leaf at)
      pub left : length (from reader leaf (at + count)) ≤ bytes
      pub passed : plain_end_without reader leaf m at ≡ plain_end_without reader leaf bytes (at + count)

    equals_at : (at b : ℕ) (bs : List ℕ) (m : ℕ) → Place at → from reader leaf at ≡ b ∷ bs → (b == 61) ≡ true → length (from reader leaf at) ≤ m → Equals at m
    equals_at at b bs m h e f w =
        let there : from reader leaf at ≡ 61 ∷ bs = e ∙ ap (λ c. c ∷ bs) (eqb-true b 61 f) in
        let n = prefix_len (λ c. c == 61) (61 ∷ bs) in
        let t : begins_at reader leaf at ≡ item_at Plain at (at + n) = ap (begins reader leaf at) there ∙ equals_begins at bs in
        let p = equals_pass n m at (61 ∷ bs) h there refl (subst (λ l. length l ≤ m) there w) in
        let o = subst (Onward reader leaf size turn at) t (begins-at-onward reader leaf size turn at) in
        record { count = n; bytes = p.0; token_is = t; place = p.1; less = fewer at (at + n) h p.1 o.1 o.2; left = p.2; passed = p.3 }

    step_same : (n m at b : ℕ) (bs : List ℕ) → from reader leaf at ≡ b ∷ bs → ((m resume : ℕ) → Same n m resume) → Same (suc n) (suc m) at
    step_same n m at b bs e ih h v w = go (b == 61) refl
      where
        go : (z : Bool) → (b == 61) ≡ z → plain_end reader leaf (suc n) at ≡ plain_end_without reader leaf (suc m) at
        go false f =
            goes_same n m at h v w (λ resume. ih m resume) (begins_at reader leaf at) refl
            ∙ ap (λ t. goes_on reader leaf t at (plain_end_without reader leaf m)) (begins_same at b bs e f)
        go true f =
            let q = equals_at at b bs (suc m) h e f w in
            let less = q.less in
            ap (λ t. goes_on reader leaf t at (plain_end reader leaf n)) q.token_is
            ∙ ap (λ z. if z then plain_end reader leaf n (at + q.count) else at) (eq-eqb at at refl)
            ∙ ih q.bytes (at + q.count) q.place (omega arith) q.left
            ∙ sym q.passed

    plain_same : (n m at : ℕ) → Same n m at
    plain_same n m at h v w = by n m at (from reader leaf at) refl h v w
      where
        by : (n m at : ℕ) (l : List ℕ) → from reader leaf at ≡ l → Same n m at
        by n m at [] e h v w = none_left n at e ∙ sym (none_without m at e)
        by zero m at (b ∷ bs) e h v w = absurd (let s = ap length e in omega arith)
        by (suc n) zero at (b ∷ bs) e h v w = absurd (let s = ap length e in omega arith)
        by (suc n) (suc m) at (b ∷ bs) e h v w = step_same n m at b bs e (λ k resume. by n k resume (from reader leaf resume) refl) h v w

    longest_same : (at : ℕ) → Place at → (t : Token) → begins_at reader leaf at ≡ t → longest reader leaf t ≡ longest_without reader leaf t
    longest_same at h (Opens opener) e = refl
    longest_same at h (Closes closer) e = refl
    longest_same at h Ends e = refl
    longest_same at h (Stands item resume) e = by (is_plain item.kind)
      where
        n : ℕ
        n = length (from reader leaf resume)

        place : Place resume
        place = (subst (Sits reader leaf size turn within lines) e (begins-at-sits reader leaf size turn within lines at h)).0

        by : (z : Bool) → (if z then item_at Plain item.start (plain_end reader leaf n resume) else Stands item resume) ≡ (if z then item_at Plain item.start (plain_end_without reader leaf n resume) else Stands item resume)
        by true = ap (item_at Plain item.start) (plain_same n n resume place (omega arith) (omega arith))
        by false = refl

    pub token-without : (at : ℕ) → Place at → token reader leaf at ≡ token_without reader leaf at
    unfolding token token_without
    token-without at h = by (from reader leaf at) refl
      where
        by : (l : List ℕ) → from reader leaf at ≡ l → longest reader leaf (begins_at reader leaf at) ≡ longest_without reader leaf (begins_at_without reader leaf at)
        by [] e = ap (λ l. longest reader leaf (begins reader leaf at l)) e ∙ sym (ap (λ l. longest_without reader leaf (begins_without reader leaf at l)) e)
        by (b ∷ bs) e = go (b == 61) refl
          where
            go : (z : Bool) → (b == 61) ≡ z → longest reader leaf (begins_at reader leaf at) ≡ longest_without reader leaf (begins_at_without reader leaf at)
            go false f = longest_same at h (begins_at reader leaf at) refl ∙ ap (longest_without reader leaf) (begins_same at b bs e f)
            go true f =
                let byte = eqb-true b 61 f in
                let t : begins_at_without reader leaf at ≡ item_at Plain at (suc at) = ap (begins_without reader leaf at) (e ∙ ap (λ c. c ∷ bs) byte) ∙ equals_without at bs in
                let s = ap length e in
                let k = next-place reader leaf size turn within lines at b bs h e (ap is_content byte) in
                let rest = length (from reader leaf (suc at)) in
                let q = equals_at at b bs (suc rest) h e f (let r = ap length k.1 in omega arith) in
                let following = length (from reader leaf (at + q.count)) in
                let ends_same : plain_end reader leaf following (at + q.count) ≡ plain_end_without reader leaf rest (suc at) = cc (plain_same following q.bytes (at + q.count) q.place (omega arith) q.left, eq-eqb at at refl) in
                ap (longest reader leaf) q.token_is ∙ ap (item_at Plain at) ends_same ∙ sym (ap (longest_without reader leaf) t)
