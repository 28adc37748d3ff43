-- Wikilinks: their names, the slots that they show, and doubled brackets.
use Rattle.std.specs.Prelude.{Option, Some, None, if◌then◌else◌, not, is_some}
use Rattle.std.proofs.Common.{◌≡◌, ℕ, suc, ◌+◌, ◌-◌, ◌≤◌, ◌<◌, ◌==◌, Bool, true, false, true≢false, List, [], ◌∷◌, length, take, drop, get_or, cond, refl, sym, ap, subst, ◌∙◌, arith, nat_lt}
use Rattle.std.specs.List.{prefix_len}
use Rattle.std.specs.Str.{IsCharBoundary, IsUtf8}
use Rattle.std.proofs.lemmas.Bool.{ltb-true, ltb-false}
use Rattle.std.proofs.lemmas.List.Folds.{length-prefix_len}
use Rattle.cmark_grammar.specs.Autolinks.{piped_name_in}
use Rattle.cmark_grammar.specs.BracketDecisions.{name_in, after_pipe}
use Rattle.cmark_grammar.specs.Letters.{first_is}
use Rattle.cmark_scan_bytes.specs.Shown.{Part, cut_at}
use Rattle.cmark_grammar.specs.Tokens.{slice}
use Rattle.cmark_leaf_text.specs.Reads.{IsPart, IsFirstFrom, place_of}
use Rattle.cmark_leaf_text.specs.declared.leaf_text.LeafText.{LeafText}
use Rattle.cmark_leaf_text.proofs.StretchSteps.{slice-length, byte-in-slice}
use Rattle.cmark_slots.proofs.Steps.{after, part-from}
use Rattle.cmark_inline.specs.Wikilinks.{IsWikilink, ShowsFrom, wiki_start, wiki_text}
use Rattle.cmark_slots.specs.declared.bracket.Bracket.{Bracket}
use Rattle.cmark_inline.specs.declared.wikilink.Wikilink.{Wikilink}

-- ## Names

-- the number of bytes before the first pipe
abbrev before_pipe : List ℕ → ℕ
before_pipe bs = prefix_len (λ b. not (b == 124)) bs

abbrev has_pipe : List ℕ → Bool
has_pipe bs = first_is (λ b. b == 124) (drop (before_pipe bs) bs)

name-front : (bs : List ℕ) → name_in bs ≡ take (before_pipe bs) bs
name-front [] = refl
name-front (b ∷ bs) = go (name-front bs) (b == 124) refl
  where
    go : name_in bs ≡ take (before_pipe bs) bs → (z : Bool) → (b == 124) ≡ z → (if b == 124 then [] else b ∷ name_in bs) ≡ take (cond (not (b == 124)) (1 + before_pipe bs) 0) (b ∷ bs)
    go more true e = ap (λ z. if z then [] else b ∷ name_in bs) e ∙ sym (ap (λ z. take (cond (not z) (1 + before_pipe bs) 0) (b ∷ bs)) e)
    go more false e = ap (λ z. if z then [] else b ∷ name_in bs) e ∙ ap (λ l. b ∷ l) more ∙ ap (λ k. take k (b ∷ bs)) (let q : suc (before_pipe bs) ≡ 1 + before_pipe bs = omega arith in q) ∙ sym (ap (λ z. take (cond (not z) (1 + before_pipe bs) 0) (b ∷ bs)) e)

pipe-there : (at : ℕ) (bs : List ℕ) → has_pipe bs ≡ true → after_pipe at bs ≡ Some (at + suc (before_pipe bs))
pipe-there at [] h = absurd (true≢false (sym h))
pipe-there at (b ∷ bs) h = go (λ more. pipe-there (suc at) bs more) (b == 124) refl
  where
    go : (has_pipe bs ≡ true → after_pipe (suc at) bs ≡ Some (suc at + suc (before_pipe bs))) → (z : Bool) → (b == 124) ≡ z → (if b == 124 then Some (suc at) else after_pipe (suc at) bs) ≡ Some (at + suc (cond (not (b == 124)) (1 + before_pipe bs) 0))
    go more true e =
        ap (λ z. if z then Some (suc at) else after_pipe (suc at) bs) e ∙ ap Some (let q : suc at ≡ at + 1 = omega arith in q)
        ∙ sym (ap (λ z. Some (at + suc (cond (not z) (1 + before_pipe bs) 0))) e)
    go more false e =
        ap (λ z. if z then Some (suc at) else after_pipe (suc at) bs) e
        ∙ more (ap (λ k. first_is (λ c. c == 124) (drop k (b ∷ bs))) (let q : suc (before_pipe bs) ≡ 1 + before_pipe bs = omega arith in q) ∙ sym (ap (λ z. first_is (λ c. c == 124) (drop (cond (not z) (1 + before_pipe bs) 0) (b ∷ bs))) e) ∙ h)
        ∙ ap Some (let q : suc at + suc (before_pipe bs) ≡ at + suc (1 + before_pipe bs) = omega arith in q)
        ∙ sym (ap (λ z. Some (at + suc (cond (not z) (1 + before_pipe bs) 0))) e)

no-pipe : (at : ℕ) (bs : List ℕ) → has_pipe bs ≡ false → (name_in bs ≡ bs) × (after_pipe at bs ≡ None)
no-pipe at [] h = (refl, refl)
no-pipe at (b ∷ bs) h = go (λ more. no-pipe (suc at) bs more) (b == 124) refl
  where
    go : (has_pipe bs ≡ false → (name_in bs ≡ bs) × (after_pipe (suc at) bs ≡ None)) → (z : Bool) → (b == 124) ≡ z → ((if b == 124 then [] else b ∷ name_in bs) ≡ b ∷ bs) × ((if b == 124 then Some (suc at) else after_pipe (suc at) bs) ≡ None)
    go more true e = absurd (true≢false (sym e ∙ sym (ap (λ z. first_is (λ c. c == 124) (drop (cond (not z) (1 + before_pipe bs) 0) (b ∷ bs))) e) ∙ h))
    go more false e =
        let rest = more (ap (λ k. first_is (λ c. c == 124) (drop k (b ∷ bs))) (let q : suc (before_pipe bs) ≡ 1 + before_pipe bs = omega arith in q) ∙ sym (ap (λ z. first_is (λ c. c == 124) (drop (cond (not z) (1 + before_pipe bs) 0) (b ∷ bs))) e) ∙ h) in
        (ap (λ z. if z then [] else b ∷ name_in bs) e ∙ ap (λ l. b ∷ l) rest.0, ap (λ z. if z then Some (suc at) else after_pipe (suc at) bs) e ∙ rest.1)

pub whole-name : (at : ℕ) (bs : List ℕ) → None ≡ cut_at 0 (piped_name_in bs) → (name_in bs ≡ bs) × (after_pipe at bs ≡ None)
whole-name at bs h = go (has_pipe bs) refl
  where
    go : (z : Bool) → has_pipe bs ≡ z → (name_in bs ≡ bs) × (after_pipe at bs ≡ None)
    go false e = no-pipe at bs e
    go true e = absurd (true≢false (sym (ap is_some (h ∙ ap (λ z. cut_at 0 (if z then Some (record { bytes = take (before_pipe bs) bs; following = drop (suc (before_pipe bs)) bs }) else None)) e))))

abbrev end_in : Option Part → ℕ
end_in None = 0
end_in (Some part) = part.end

abbrev bytes_in : Option Part → List ℕ
bytes_in None = []
bytes_in (Some part) = part.bytes

pub first-name : (at : ℕ) (bs : List ℕ) (part : Part) → Some part ≡ cut_at 0 (piped_name_in bs) → (name_in bs ≡ part.bytes) × (after_pipe at bs ≡ Some (at + part.end))
first-name at bs part h = go (has_pipe bs) refl
  where
    cut : Bool → Option Part
    cut z = cut_at 0 (if z then Some (record { bytes = take (before_pipe bs) bs; following = drop (suc (before_pipe bs)) bs }) else None)

    go : (z : Bool) → has_pipe bs ≡ z → (name_in bs ≡ part.bytes) × (after_pipe at bs ≡ Some (at + part.end))
    go true e =
        let same : Some part ≡ Some (record { end = 0 + suc (length (take (before_pipe bs) bs)); bytes = take (before_pipe bs) bs }) = h ∙ ap cut e in
        let n = length-prefix_len (λ b. not (b == 124)) bs in
        let k : part.end ≡ 0 + suc (length (take (before_pipe bs) bs)) = ap end_in same in (
          name-front bs ∙ sym (ap bytes_in same),
          pipe-there at bs e ∙ ap (λ k. Some (at + k)) (let q : suc (before_pipe bs) ≡ part.end = omega (arith, k, n) in q),
        )
    go false e = absurd (true≢false (ap is_some (h ∙ ap cut e)))

-- ## Places
pub slice-edge : (source : List ℕ) (a b k : ℕ) → IsPart source a b → IsCharBoundary (slice source a b) k → IsCharBoundary source (a + k)
slice-edge source a b k there h = go (nat_lt k (b - a)) refl
  where
    sized : length (slice source a b) ≡ b - a
    sized = slice-length source a b there.within

    go : (z : Bool) → nat_lt k (b - a) ≡ z → IsCharBoundary source (a + k)
    go true e =
        let lt = ltb-true k (b - a) e in
        let w = there.within in
        let same = byte-in-slice source a b k lt w in (
          (let q : a + k ≤ length source = omega (arith, lt, w) in q),
          (λ l big. subst (λ b. 192 ≤ b) same (h.1 (let q : k < length (slice source a b) = omega (arith, lt, sized) in q) (subst (λ b. 128 ≤ b) (sym same) big))),
        )
    go false e =
        let g = ltb-false k (b - a) e in
        let l = h.0 in
        let some = there.some in
        subst (IsCharBoundary source) (let q : b ≡ a + k = omega (arith, g, l, sized, some) in q) there.ends

-- ## The parts of a wikilink
module _ (leaf : LeafText) (doubled : Bracket) (close : ℕ) (wikilink : Wikilink) (written : List ℕ) where
  pub is-whole : written ≡ wiki_text leaf doubled close → None ≡ cut_at 0 (piped_name_in written) → wikilink.name.now ≡ written → wikilink.display ≡ None → wikilink.source_end ≡ place_of leaf close → 0 < length written
      → IsWikilink leaf doubled close wikilink
  is-whole same none name display ends some =
      let h = whole-name (wiki_start leaf doubled) written none in
      record {
        name = name ∙ sym h.0 ∙ ap name_in same;
        some = subst (λ (bs : List ℕ). 0 < length bs) (sym name) some;
        display = shows wikilink.display display (after_pipe (wiki_start leaf doubled) (wiki_text leaf doubled close)) (ap (after_pipe (wiki_start leaf doubled)) (sym same) ∙ h.1);
        ends = ends;
      }
    where
      shows : (at : Option ℕ) → at ≡ None → (place : Option ℕ) → place ≡ None → ShowsFrom leaf place at
      shows at e place f = subst (ShowsFrom leaf place) (sym e) (subst (λ (p : Option ℕ). ShowsFrom leaf p None) (sym f) tt)

  pub is-piped : (part : Part) (at : ℕ) → written ≡ wiki_text leaf doubled close → Some part ≡ cut_at 0 (piped_name_in written) → wikilink.name.now ≡ part.bytes → wikilink.display ≡ Some at
      → IsFirstFrom leaf (wiki_start leaf doubled + part.end) at → wikilink.source_end ≡ place_of leaf close → 0 < length part.bytes → IsWikilink leaf doubled close wikilink
  is-piped part at same found name display first ends some =
      let h = first-name (wiki_start leaf doubled) written part found in
      record {
        name = name ∙ sym h.0 ∙ ap name_in same;
        some = subst (λ (bs : List ℕ). 0 < length bs) (sym name) some;
        display = shows wikilink.display display (after_pipe (wiki_start leaf doubled) (wiki_text leaf doubled close)) (ap (after_pipe (wiki_start leaf doubled)) (sym same) ∙ h.1);
        ends = ends;
      }
    where
      shows : (o : Option ℕ) → o ≡ Some at → (place : Option ℕ) → place ≡ Some (wiki_start leaf doubled + part.end) → ShowsFrom leaf place o
      shows o e place f = subst (ShowsFrom leaf place) (sym e) (subst (λ (p : Option ℕ). ShowsFrom leaf p (Some at)) (sym f) first)

pub two-brackets : (text : List ℕ) (close : ℕ) → IsUtf8 text → IsPart text close (close + 1) → close + 1 < length text → get_or text (close + 1) 0 ≡ 93 → IsPart text close (close + 2)
two-brackets text close u part within byte =
    let edge = after text (close + 1) u within (let q : get_or text (close + 1) 0 < 128 = omega (arith, byte) in q) in
    part-from text close (close + 2) part.starts (subst (IsCharBoundary text) (let q : close + 1 + 1 ≡ close + 2 = omega arith in q) edge) (let q : close < close + 2 = omega arith in q)
