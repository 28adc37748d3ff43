-- The words of a label, taken from its start one by one.
use Rattle.std.proofs.Common.{◌≡◌, ℕ, suc, ◌<◌, ◌≤◌, false, List, [], ◌∷◌, ◌++◌, length, get_or, filter, position, None, All, refl, sym, ap, subst, ◌∙◌, inl, inr, arith, length-append, append_assoc, append-nil}
use Rattle.std.specs.Char.{is_ascii_whitespace}
use Rattle.std.specs.List.{slice_split, join_with_byte, AllPass}
use Rattle.std.specs.Str.{NoCharPasses}
use Rattle.std.specs.Str.Iter.{IsAsciiSeparator}
use Rattle.std.proofs.lemmas.Bool.{cases_lt, lt-ltb, cond-true}
use Rattle.std.proofs.lemmas.Bool.Decides.{nat_tests}
use Rattle.std.proofs.lemmas.List.{nil_from_length}
use Rattle.std.proofs.lemmas.List.Elements.{All-from_get_or}
use Rattle.std.proofs.lemmas.List.Splits.{slice_split-cons_yes, slice_split_none, slice_split_at}
use Rattle.std.proofs.lemmas.Str.{NoCharPasses-byte}
use Rattle.cmark_grammar.specs.Labels.{is_nonempty, words}
use Rattle.cmark_values.proofs.Kept.{all_kept-position}

not_white : (b : ℕ) → 128 ≤ b → is_ascii_whitespace b ≡ false
not_white b high = grind (arith, nat_tests)

-- no byte of a text without white space is white space
no_white : (x : List ℕ) → NoCharPasses is_ascii_whitespace x → All (λ b. is_ascii_whitespace b ≡ false) x
no_white x none =
    All-from_get_or (λ b. is_ascii_whitespace b ≡ false) x 0 (λ k below.
    elim (cases_lt (get_or x k 0) 128) [
      | inl small ↦ NoCharPasses-byte is_ascii_whitespace x k none below small
      | inr high ↦ not_white (get_or x k 0) high
    ])

-- white space at the start
words_past_gap : (gap bs : List ℕ) → AllPass is_ascii_whitespace gap → words (gap ++ bs) ≡ words bs
words_past_gap [] bs white = refl
words_past_gap (b ∷ gap) bs white =
    ap (filter is_nonempty) (slice_split-cons_yes is_ascii_whitespace b (gap ++ bs) (white 0 b (omega arith)))
    ∙ words_past_gap gap bs (λ k d below. white (suc k) d (omega arith))

kept_word : (x : List ℕ) (parts : List (List ℕ)) → 0 < length x → filter is_nonempty (x ∷ parts) ≡ x ∷ filter is_nonempty parts
kept_word x parts some = cond-true (is_nonempty x) (x ∷ filter is_nonempty parts) (filter is_nonempty parts) (lt-ltb 0 (length x) some)

-- a word, and the text after it
words_at_word : (x sep rest : List ℕ) → 0 < length x → All (λ b. is_ascii_whitespace b ≡ false) x → IsAsciiSeparator sep rest → words (x ++ (sep ++ rest)) ≡ x ∷ words rest
words_at_word x [] rest some none following =
    let nothing : rest ≡ [] = nil_from_length rest (following.2 refl) in
    subst (λ l. words (x ++ l) ≡ x ∷ words l) (sym nothing)
    (subst (λ l. words l ≡ x ∷ words []) (sym (append-nil x))
    (ap (filter is_nonempty) (slice_split_none is_ascii_whitespace x none) ∙ kept_word x [] some))
words_at_word x (y ∷ []) rest some none following =
    ap (filter is_nonempty) (slice_split_at is_ascii_whitespace x y rest none (following.0 0 y (omega arith)))
    ∙ kept_word x (slice_split is_ascii_whitespace rest) some
words_at_word x (y ∷ (z ∷ zs)) rest some none following = absurd (omega (arith, following.1))

words_white : (bs : List ℕ) → AllPass is_ascii_whitespace bs → words bs ≡ []
words_white bs white = subst (λ l. words l ≡ []) (append-nil bs) (words_past_gap bs [] white)

-- a text is the words of the label so far, joined, and this rest of the label is left
pub record Joined (label text rest : List ℕ) : Type 0 where
  pub seen : List (List ℕ)
  pub cut : words label ≡ seen ++ words rest
  pub joined : text ≡ join_with_byte 32 seen
  pub none : length text ≡ 0 → seen ≡ []

join-push : (s : List ℕ) (ss : List (List ℕ)) (x : List ℕ) → join_with_byte 32 ((s ∷ ss) ++ x ∷ []) ≡ join_with_byte 32 (s ∷ ss) ++ (32 ∷ x)
join-push s [] x = refl
join-push s (t ∷ ts) x =
    ap (λ l. s ++ (32 ∷ l)) (join-push t ts x) ∙ sym (append_assoc s (32 ∷ join_with_byte 32 (t ∷ ts)) (32 ∷ x))

join_more : (seen : List (List ℕ)) (text new x : List ℕ) → text ≡ join_with_byte 32 seen → (length text ≡ 0 → seen ≡ []) → (length text ≡ 0 → new ≡ x) → (0 < length text → new ≡ text ++ (32 ∷ x)) → new ≡ join_with_byte 32 (seen ++ x ∷ [])
join_more [] text new x joined none first further = first (ap length joined)
join_more (s ∷ ss) text new x joined none first further =
    elim (cases_lt 0 (length text)) [
      | inl some ↦ further some ∙ ap (λ l. l ++ (32 ∷ x)) joined ∙ sym (join-push s ss x)
      | inr zero_long ↦ absurd (cons_not_nil s ss (none (omega arith)))
    ]
  where
    cons_not_nil : (t : List ℕ) (ts : List (List ℕ)) → t ∷ ts ≡ [] → ⊥
    cons_not_nil t ts e = cc

-- one word more
pub joined_more : (label text new bs gap x sep rest : List ℕ) → Joined label text bs → bs ≡ gap ++ (x ++ (sep ++ rest)) → AllPass is_ascii_whitespace gap → 0 < length x → NoCharPasses is_ascii_whitespace x → IsAsciiSeparator sep rest → (length text ≡ 0 → new ≡ x) → (0 < length text → new ≡ text ++ (32 ∷ x)) → Joined label new rest
joined_more label text new bs gap x sep rest j cut white some none following first further = record {
  seen = j.seen ++ x ∷ [];
  cut = j.cut
      ∙ ap (λ l. j.seen ++ l) (ap words cut ∙ words_past_gap gap (x ++ (sep ++ rest)) white ∙ words_at_word x sep rest some (no_white x none) following)
      ∙ sym (append_assoc j.seen (x ∷ []) (words rest));
  joined = join_more j.seen text new x j.joined j.none first further;
  none = λ empty. absurd (elim (cases_lt 0 (length text)) [
    | inl more ↦ longer more empty
    | inr nothing ↦ shorter (omega arith) empty
  ]);
}
  where
    shorter : length text ≡ 0 → length new ≡ 0 → ⊥
    shorter e empty = omega (arith, ap length (first e))

    longer : 0 < length text → length new ≡ 0 → ⊥
    longer more empty = omega (arith, ap length (further more), length-append text (32 ∷ x))

-- all words
pub joined_all : (label text bs : List ℕ) → Joined label text bs → AllPass is_ascii_whitespace bs → text ≡ join_with_byte 32 (words label)
joined_all label text bs j white =
    j.joined ∙ ap (join_with_byte 32) (sym (append-nil j.seen) ∙ ap (λ l. j.seen ++ l) (sym (words_white bs white)) ∙ sym j.cut)

-- a label without white space is its own normal form
pub one_word : (label : List ℕ) → position is_ascii_whitespace label ≡ None → label ≡ join_with_byte 32 (words label)
one_word [] none = refl
one_word (b ∷ bs) none = sym (ap (join_with_byte 32) (sym (ap words (append-nil (b ∷ bs))) ∙ words_at_word (b ∷ bs) [] [] (omega arith) plain ((λ k d below. absurd (omega arith)), omega arith, λ e. refl)))
  where
    plain : All (λ c. is_ascii_whitespace c ≡ false) (b ∷ bs)
    plain = All-from_get_or (λ c. is_ascii_whitespace c ≡ false) (b ∷ bs) 0 (all_kept-position is_ascii_whitespace (b ∷ bs) None (sym none) refl)
