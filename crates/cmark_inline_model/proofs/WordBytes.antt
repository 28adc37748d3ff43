-- ASCII bytes at the start of a text that do not end a line: those of entities, escapes and runs.
use Rattle.std.specs.Prelude.{suc, zero, ◌-◌, ◌==◌, ◌&&◌, ◌||◌, not, nat_lt, nat_le, if◌then◌else◌, drop, take, take_while}
use Rattle.std.specs.List.{prefix_len}
use Rattle.std.proofs.Common.{◌≡◌, ◌⊎◌, inl, inr, ◌<◌, ◌≤◌, ◌+◌, ℕ, Bool, true, false, List, [], ◌∷◌, length, Option, Some, None, refl, sym, subst, arith, length-drop, eqb-true, rules}
use Rattle.std.proofs.lemmas.List.{length-take}
use Rattle.std.proofs.lemmas.List.Sums.{prefix_len-le-length, take_while-cons}
use Rattle.std.proofs.lemmas.Slice.Eq.{bytes_eq-Decides}
use Rattle.cmark_grammar.specs.Answers.{Lookup}
use Rattle.cmark_grammar.specs.Leaves.{is_empty}
use Rattle.cmark_grammar.specs.Letters.{lower, is_letter, is_number, is_alphanumeric, first_is, starts}
use Rattle.cmark_grammar.specs.Lines.{is_content}
use Rattle.cmark_grammar.specs.Tokens.{Entity, entity_if, is_hexadecimal, character, value_of, numeric, hexadecimal_in, decimal_in, numeric_in, named, entity_in, is_punctuation}
use Rattle.cmark_block_model.proofs.RowEdges.{Front, front-add, prefix-front}

-- ## Bytes

-- a byte that is ASCII and ends no line
pub record IsWord (b : ℕ) : Type 0 where
  pub content : is_content b ≡ true
  pub ascii : b < 128

-- a word byte that comes before the braces and the pipe in ASCII
pub record IsName (b : ℕ) : Type 0 where
  pub word : IsWord b
  pub low : b < 123

le : (a b : ℕ) → nat_le a b ≡ true → a ≤ b
le a b e = grind (arith)

pub and-left : (a b : Bool) → (a && b) ≡ true → a ≡ true
and-left true b e = refl
and-left false b e = cc

pub and-right : (a b : Bool) → (a && b) ≡ true → b ≡ true
and-right true b e = e
and-right false b e = cc

pub or-either : (a b : Bool) → (a || b) ≡ true → (a ≡ true) ⊎ (b ≡ true)
or-either true b e = inl refl
or-either false b e = inr e

pub word-is : (b c : ℕ) → is_content c ≡ true → c < 128 → (b == c) ≡ true → IsWord b
word-is b c h k e = subst IsWord (sym (eqb-true b c e)) (record { content = h; ascii = k })

word_between : (b : ℕ) → 14 ≤ b → b < 128 → IsWord b
word_between b h k = grind (arith, eqb-true)

name_between : (b : ℕ) → 14 ≤ b → b < 123 → IsName b
name_between b h k = record { word = word_between b h (omega arith); low = k }

pub name-is : (b c : ℕ) → is_content c ≡ true → c < 123 → (b == c) ≡ true → IsName b
name-is b c h k e = subst IsName (sym (eqb-true b c e)) (record { word = record { content = h; ascii = omega arith }; low = k })

number_name : (b : ℕ) → is_number b ≡ true → IsName b
number_name b e = let x = le 48 b (and-left (nat_le 48 b) (nat_le b 57) e) in let y = le b 57 (and-right (nat_le 48 b) (nat_le b 57) e) in name_between b (omega arith) (omega arith)

-- by its lower case
lower_name : (b low high : ℕ) → 97 ≤ low → high ≤ 122 → (nat_le low (lower b) && nat_le (lower b) high) ≡ true → IsName b
lower_name b low high h k e = grind (arith, le, and-left, and-right, name_between)

letter_name : (b : ℕ) → is_letter b ≡ true → IsName b
letter_name b e = lower_name b 97 122 (omega arith) (omega arith) e

hexadecimal_name : (b : ℕ) → is_hexadecimal b ≡ true → IsName b
hexadecimal_name b e = grind (arith, or-either, number_name, lower_name)

alphanumeric_name : (b : ℕ) → is_alphanumeric b ≡ true → IsName b
alphanumeric_name b e = search (rules, or-either, letter_name, number_name)

range_word : (b low high : ℕ) → 14 ≤ low → high < 128 → (nat_le low b && nat_le b high) ≡ true → IsWord b
range_word b low high h k e =
    let x = le low b (and-left (nat_le low b) (nat_le b high) e) in let y = le b high (and-right (nat_le low b) (nat_le b high) e) in word_between b (omega arith) (omega arith)

pub punctuation-word : (b : ℕ) → is_punctuation b ≡ true → IsWord b
punctuation-word b e = grind (arith, or-either, range_word)

-- ## Bytes in front

-- there are n bytes, and Q holds of each
pub record Leads (Q : ℕ → Type 0) (n : ℕ) (l : List ℕ) : Type 0 where
  pub front : Front Q n l
  pub fits : n ≤ length l

pub front-map : (P Q : ℕ → Type 0) → ((b : ℕ) → P b → Q b) → (n : ℕ) (l : List ℕ) → Front P n l → Front Q n l
front-map P Q f n [] h = tt
front-map P Q f zero (b ∷ l) h = tt
front-map P Q f (suc n) (b ∷ l) h = (f b h.0, front-map P Q f n l h.1)

pub prefix-leads : (p : ℕ → Bool) (Q : ℕ → Type 0) → ((b : ℕ) → p b ≡ true → Q b) → (l : List ℕ) → Leads Q (prefix_len p l) l
prefix-leads p Q f l = record { front = go l; fits = prefix_len-le-length p l }
  where
    go : (l : List ℕ) → Front Q (prefix_len p l) l
    go [] = tt
    go (b ∷ l) = grind (arith, go l)

pub starts-leads : (Q : ℕ → Type 0) (prefix l : List ℕ) → Front Q (length prefix) prefix → starts prefix l ≡ true → Leads Q (length prefix) l
starts-leads Q prefix l h e = grind (arith, bytes_eq-Decides, length-take, back)
  where
    back : (n : ℕ) (l : List ℕ) → Front Q n (take n l) → Front Q n l
    back zero [] k = tt
    back zero (b ∷ l) k = tt
    back (suc n) [] k = tt
    back (suc n) (b ∷ l) k = (k.0, back n l k.1)

pub first-leads : (Q : ℕ → Type 0) (p : ℕ → Bool) (l : List ℕ) → ((b : ℕ) → p b ≡ true → Q b) → first_is p l ≡ true → Leads Q 1 l
first-leads Q p [] f e = cc
first-leads Q p (b ∷ l) f e = record { front = (f b e, none l); fits = omega arith }
  where
    none : (l : List ℕ) → Front Q 0 l
    none [] = tt
    none (c ∷ l) = tt

leads_both : (Q : ℕ → Type 0) (m n : ℕ) (l : List ℕ) → Leads Q m l → Leads Q n (drop m l) → Leads Q (m + n) l
leads_both Q m n l h k = let e = length-drop m l in let a = h.fits in let b = k.fits in record { front = front-add Q m n l h.front k.front; fits = omega arith }

pub leads-cons : (Q : ℕ → Type 0) (b n : ℕ) (l : List ℕ) → Q b → Leads Q n l → Leads Q (suc n) (b ∷ l)
leads-cons Q b n l q h = let a = h.fits in record { front = (q, h.front); fits = omega arith }

pub while-leads : (Q : ℕ → Type 0) (p : ℕ → Bool) → ((b : ℕ) → p b ≡ true → Q b) → (l : List ℕ) → Leads Q (length (take_while p l)) l
while-leads Q p f l = record { front = prefix-front p Q f l; fits = fits l }
  where
    fits : (l : List ℕ) → length (take_while p l) ≤ length l
    fits [] = omega arith
    fits (b ∷ l) = grind (arith, take_while-cons, fits l)

-- the bytes of an entity after its `&`
abbrev pub EntityNames : List ℕ → Option Entity → Type 0
EntityNames l None = Unit {0}
EntityNames l (Some entity) = (size : ℕ) × (entity.size ≡ suc size) × Leads IsName size l

closed_leads : (p : ℕ → Bool) → ((b : ℕ) → p b ≡ true → IsName b) → (l : List ℕ) → first_is (λ b. b == 59) (drop (length (take_while p l)) l) ≡ true → Leads IsName (length (take_while p l) + 1) l
closed_leads p f l e = search (rules, leads_both, while-leads, first-leads, name-is)

when : {A : Type 0} (P : A → Type 0) (b : Bool) (x y : A) → (b ≡ true → P x) → (b ≡ false → P y) → P (if b then x else y)
when P true x y h k = h refl
when P false x y h k = k refl

numeric_leads : (base most size : ℕ) (p : ℕ → Bool) → ((b : ℕ) → p b ≡ true → IsName b) → (head l : List ℕ)
    → ((n : ℕ) → Leads IsName n l → (m : ℕ) × (n + (size - 1) ≡ suc m) × Leads IsName m head) → 2 ≤ size
    → EntityNames head (numeric base most size (take_while p l) (drop (length (take_while p l)) l))
numeric_leads base most size p f head l put w =
    let n = length (take_while p l) in
    when (EntityNames head) (nat_lt 0 n && (nat_le n most && first_is (λ b. b == 59) (drop n l))) (Some (record { bytes = character (value_of base (take_while p l)); size = n + size })) None
    (λ e. (let k = put (n + 1) (closed_leads p f l (and-right (nat_le n most) (first_is (λ b. b == 59) (drop n l)) (and-right (nat_lt 0 n) (nat_le n most && first_is (λ b. b == 59) (drop n l)) e))) in
    let s = k.1 in (k.0, omega arith, k.2))) (λ e. tt)

pub entity-names : (lookup : Lookup) (l : List ℕ) → EntityNames l (entity_in lookup l)
entity-names lookup l =
    when (EntityNames l) (first_is (λ b. b == 35) l) (numeric_in (drop 1 l)) (named lookup (take_while is_alphanumeric l) (drop (length (take_while is_alphanumeric l)) l))
    (λ e. (let hash = first-leads IsName (λ b. b == 35) l (λ b x. name-is b 35 refl (omega arith) x) e in
    when (EntityNames l) (first_is (λ b. (b == 120) || (b == 88)) (drop 1 l)) (hexadecimal_in (drop 1 (drop 1 l))) (decimal_in (drop 1 l))
    (λ x. numeric_leads 16 6 4 is_hexadecimal hexadecimal_name l (drop 1 (drop 1 l))
    (λ n k. (1 + (1 + n), omega arith, leads_both IsName 1 (1 + n) l hash (leads_both IsName 1 n (drop 1 l) (first-leads IsName (λ b. (b == 120) || (b == 88)) (drop 1 l) ex x) k))) (omega arith))
    (λ x. numeric_leads 10 7 3 is_number number_name l (drop 1 l) (λ n k. (1 + n, omega arith, leads_both IsName 1 n l hash k)) (omega arith))))
    (λ e. when (EntityNames l) (not (is_empty (take_while is_alphanumeric l)) && first_is (λ b. b == 59) (drop (length (take_while is_alphanumeric l)) l))
    (entity_if (lookup (take_while is_alphanumeric l)) (length (take_while is_alphanumeric l) + 2)) None
    (λ x. if_some (lookup (take_while is_alphanumeric l))
    (closed_leads is_alphanumeric alphanumeric_name l (and-right (not (is_empty (take_while is_alphanumeric l))) (first_is (λ b. b == 59) (drop (length (take_while is_alphanumeric l)) l)) x))) (λ x. tt))
  where
    ex : (b : ℕ) → ((b == 120) || (b == 88)) ≡ true → IsName b
    ex b e = grind (arith, or-either, name-is)

    if_some : (o : Option (List ℕ)) → Leads IsName (length (take_while is_alphanumeric l) + 1) l → EntityNames l (entity_if o (length (take_while is_alphanumeric l) + 2))
    if_some None k = tt
    if_some (Some bytes) k = (length (take_while is_alphanumeric l) + 1, omega arith, k)

-- which are words
abbrev pub EntityLeads : List ℕ → Option Entity → Type 0
EntityLeads l None = Unit {0}
EntityLeads l (Some entity) = (size : ℕ) × (entity.size ≡ suc size) × Leads IsWord size l

pub entity-leads : (lookup : Lookup) (l : List ℕ) → EntityLeads l (entity_in lookup l)
entity-leads lookup l = go (entity_in lookup l) (entity-names lookup l)
  where
    go : (found : Option Entity) → EntityNames l found → EntityLeads l found
    go None h = tt
    go (Some entity) h = (h.0, h.1, record { front = front-map IsName IsWord (λ b n. n.word) h.0 l h.2.front; fits = h.2.fits })
