-- A line break covers ASCII bytes that do not end a line, followed by a line ending: one byte, or a carriage return and a line feed.
use Rattle.std.specs.Prelude.{option_map}
use Rattle.std.proofs.Common.{◌≡◌, ◌⊎◌, inl, inr, ⊎_elim, ℕ, suc, ◌+◌, ◌<◌, ◌≤◌, Bool, true, false, ◌==◌, if◌then◌else◌, List, [], ◌∷◌, length, drop, take_while, get_or, Option, None, Some, refl, sym, ap, subst, ◌∙◌, arith, eqb-true, length-drop, drop-drop}
use Rattle.std.proofs.lemmas.List.{get_or-drop}
use Rattle.cmark_grammar.specs.Columns.{is_blank_byte}
use Rattle.cmark_grammar.specs.Letters.{and_then}
use Rattle.cmark_grammar.specs.LineBreaks.{LineBreak, hard_break, blank_break, backslash_break_in, blank_break_in}
use Rattle.cmark_grammar.specs.LinkDefinitions.{after_leading_blanks}
use Rattle.cmark_grammar.specs.Tags.{after_line_feed, after_ending}
use Rattle.cmark_block_model.proofs.RowEdges.{Front}
use Rattle.cmark_inline_model.proofs.WordBytes.{or-either, IsWord, Leads, while-leads, word-is}

-- `more` further bytes belong to the line ending at `at`: 0, or 1 after a carriage return
abbrev IsEnding : List ℕ → (at more : ℕ) → Type 0
IsEnding l at more = (more ≡ 0) ⊎ ((more ≡ 1) × (get_or l at 0 ≡ 13) × (get_or l (suc at) 0 ≡ 10))

pub record TakesBreak (l : List ℕ) (found : LineBreak) : Type 0 where
  pub blanks : ℕ
  pub more : ℕ
  pub leads : Leads IsWord blanks l
  pub begins : found.before ≤ blanks
  pub following : found.following ≡ drop (blanks + suc more) l
  pub fits : blanks + suc more ≤ length l
  pub ending : IsEnding l blanks more
  pub ascii : get_or l (blanks + more) 0 < 128

abbrev pub BreakTaken : List ℕ → Option LineBreak → Type 0
BreakTaken l None = Unit {0}
BreakTaken l (Some found) = TakesBreak l found

record TakesEnding (l r : List ℕ) : Type 0 where
  more : ℕ
  following : r ≡ drop (suc more) l
  fits : suc more ≤ length l
  ending : IsEnding l 0 more
  ascii : get_or l more 0 < 128

abbrev EndingTaken : List ℕ → Option (List ℕ) → Type 0
EndingTaken l None = Unit {0}
EndingTaken l (Some r) = TakesEnding l r

when : {A : Type 0} (P : A → Type 0) (b : Bool) (x y : A) → (b ≡ true → P x) → (b ≡ false → P y) → P (if b then x else y)
when P true x y h k = h refl
when P false x y h k = k refl

return_taken : (b : ℕ) (bs : List ℕ) → b ≡ 13 → TakesEnding (b ∷ bs) (after_line_feed bs)
return_taken b bs e = grind (arith, when, eqb-true)

ending_taken : (l : List ℕ) → EndingTaken l (after_ending l)
ending_taken l = grind (arith, when, eqb-true, return_taken)

-- a line ending after some bytes
after_bytes : (found : LineBreak) (n : ℕ) (l r : List ℕ) → Leads IsWord n l → found.before ≤ n → found.following ≡ r → TakesEnding (drop n l) r → TakesBreak l found
after_bytes found n l r h b e k =
    let d = length-drop n l in
    let f = k.fits in
    let w = h.fits in record {
      blanks = n;
      more = k.more;
      leads = h;
      begins = b;
      following = e ∙ k.following ∙ drop-drop (suc k.more) n l;
      fits = omega arith;
      ending = ⊎_elim (λ z. inl z)
          (λ two. inr (
            two.0,
            ap (λ j. get_or l j 0) (let q : n ≡ n + 0 = omega arith in q) ∙ sym (get_or-drop n l 0 0) ∙ two.1,
            ap (λ j. get_or l j 0) (let q : suc n ≡ n + 1 = omega arith in q) ∙ sym (get_or-drop n l 1 0) ∙ two.2,
          )) k.ending;
      ascii = subst (λ c. c < 128) (get_or-drop n l k.more 0) k.ascii;
    }

pub blank_word : (b : ℕ) → is_blank_byte b ≡ true → IsWord b
blank_word b e = ⊎_elim (λ f. word-is b 32 refl (omega arith) f) (λ f. word-is b 9 refl (omega arith) f) (or-either (b == 32) (b == 9) e)

pub blank-taken : (l : List ℕ) → BreakTaken l (blank_break_in l)
blank-taken l = go (after_ending (after_leading_blanks l)) (ending_taken (after_leading_blanks l))
  where
    blanks : List ℕ
    blanks = take_while is_blank_byte l

    leads : Leads IsWord (length blanks) l
    leads = while-leads IsWord is_blank_byte blank_word l

    go : (o : Option (List ℕ)) → EndingTaken (after_leading_blanks l) o → BreakTaken l (option_map (blank_break blanks) o)
    go None k = tt
    go (Some r) k = grind (arith, when, blanks, after_bytes, leads)

pub backslash-taken : (l : List ℕ) → BreakTaken l (backslash_break_in l)
backslash-taken [] = tt
backslash-taken (b ∷ bs) =
    when (λ o. BreakTaken (b ∷ bs) (option_map hard_break (and_then o after_ending))) (b == 92) (Some bs) None (λ e. go (word-is b 92 refl (omega arith) e) (after_ending bs) (ending_taken bs)) (λ e. tt)
  where
    go : IsWord b → (o : Option (List ℕ)) → EndingTaken bs o → BreakTaken (b ∷ bs) (option_map hard_break o)
    go c None k = tt
    go c (Some r) k = after_bytes (hard_break r) 1 (b ∷ bs) r (record { front = (c, none bs); fits = omega arith }) (omega arith) refl k
      where
        none : (l : List ℕ) → Front IsWord 0 l
        none [] = tt
        none (x ∷ l) = tt
