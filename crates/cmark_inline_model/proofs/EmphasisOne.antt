-- The definition leaves one list of pairs, and one list of spans.
use Rattle.std.proofs.Common.{◌≡◌, true, false, List, [], ◌∷◌, ◌++◌, refl, sym, ap, ◌∙◌, subst, arith}
use Rattle.cmark_grammar.specs.Spans.{Spans, Nil, Single}
use Rattle.cmark_grammar.specs.Emphasis.{Run, Pair, Sibling, Plain, Delimiter, Piece, Whole, Standing, agrees, pair_of, rest_of_opener, rest_of_closer, wrapped, row, keep, stand, Misses, Closes, Pairs, IsEmphasis}
use Rattle.cmark_inline_model.specs.EmphasisModel.{closed, resolve, pairs_of, spans_of}
use Rattle.cmark_inline_model.proofs.EmphasisSound.{closed-closes}

no_cut : (c o : Run) (b f : List Piece) → Misses c (b ++ (Standing o ∷ f)) → agrees o c ≡ true → ⊥
no_cut c o [] f m e = let q : true ≡ false = sym e ∙ m.0 in cc
no_cut c o (Whole g ∷ b) f m e = no_cut c o b f m e
no_cut c o (Standing r ∷ b) f m e = no_cut c o b f m.1 e

one_cut : (c o r : Run) (a b f g : List Piece) → Misses c a → Misses c b → agrees o c ≡ true → agrees r c ≡ true → a ++ (Standing o ∷ f) ≡ b ++ (Standing r ∷ g) → (a ≡ b) × (o ≡ r) × (f ≡ g)
one_cut c o r [] [] f g m n p q e = (refl, cc, cc)
one_cut c o r [] (Whole x ∷ b) f g m n p q e = absurd (let d : ⊥ = cc in d)
one_cut c o r [] (Standing x ∷ b) f g m n p q e = absurd (let d : x ≡ o = cc in let k : true ≡ false = sym p ∙ ap (λ y. agrees y c) (sym d) ∙ n.0 in cc)
one_cut c o r (Whole x ∷ a) [] f g m n p q e = absurd (let d : ⊥ = cc in d)
one_cut c o r (Standing x ∷ a) [] f g m n p q e = absurd (let d : x ≡ r = cc in let k : true ≡ false = sym q ∙ ap (λ y. agrees y c) (sym d) ∙ m.0 in cc)
one_cut c o r (Whole x ∷ a) (Whole y ∷ b) f g m n p q e = let h = one_cut c o r a b f g m n p q (cc) in let d : x ≡ y = cc in (cc, h.1, h.2)
one_cut c o r (Whole x ∷ a) (Standing y ∷ b) f g m n p q e = absurd (let d : ⊥ = cc in d)
one_cut c o r (Standing x ∷ a) (Whole y ∷ b) f g m n p q e = absurd (let d : ⊥ = cc in d)
one_cut c o r (Standing x ∷ a) (Standing y ∷ b) f g m n p q e = let h = one_cut c o r a b f g m.1 n.1 p q (cc) in let d : x ≡ y = cc in (cc, h.1, h.2)

pub one_course : (ms ns : List Pair) (c d e : Run) (ps qs rs : List Piece) → Closes c ps ms d qs → Closes c ps ns e rs → (ms ≡ ns) × (d ≡ e) × (qs ≡ rs)
one_course [] [] c d e ps qs rs h k = (refl, h.1 ∙ sym k.1, h.2 ∙ sym k.2)
one_course [] (n ∷ ns) c d e ps qs rs h k = absurd (no_cut c k.opener k.between k.front (subst (Misses c) k.cut h.0) k.agree)
one_course (m ∷ ms) [] c d e ps qs rs h k = absurd (no_cut c h.opener h.between h.front (subst (Misses c) h.cut k.0) h.agree)
one_course (m ∷ ms) (n ∷ ns) c d e ps qs rs h k =
    let s = one_cut c h.opener k.opener h.between k.between h.front k.front h.nearest k.nearest h.agree k.agree (sym h.cut ∙ k.cut) in
    let p : m ≡ n = h.is ∙ ap (λ o. pair_of o c) s.1 ∙ sym k.is in
    let l : rest_of_closer k.opener c ≡ rest_of_closer h.opener c = ap (λ o. rest_of_closer o c) (sym s.1) in
    let w : (Whole (wrapped n (row k.between Nil)) ∷ keep (rest_of_opener k.opener c) k.front) ≡ (Whole (wrapped m (row h.between Nil)) ∷ keep (rest_of_opener h.opener c) h.front) = cc in
    let i = one_course ms ns (rest_of_closer h.opener c) d e (Whole (wrapped m (row h.between Nil)) ∷ keep (rest_of_opener h.opener c) h.front) qs rs h.so (subst (λ xs. Closes (rest_of_closer h.opener c) xs ns e rs) w (subst (λ x. Closes x (Whole (wrapped n (row k.between Nil)) ∷ keep (rest_of_opener k.opener c) k.front) ns e rs) l k.so)) in
    (ap (λ x. x ∷ ms) p ∙ ap (λ l. n ∷ l) i.0, i.1, i.2)

pub one_result : (ts : List Sibling) (ps qs : List Piece) (pairs : List Pair) → Pairs ts ps pairs qs → (pairs ≡ (resolve ts ps).pairs) × (qs ≡ (resolve ts ps).pieces)
one_result [] ps qs pairs h = h
one_result (Plain at ∷ ts) ps qs pairs h = one_result ts (Whole (Single at Nil) ∷ ps) qs pairs h
one_result (Delimiter c ∷ ts) ps qs pairs h =
    let s = one_course h.own (closed c ps).pairs c h.rest (closed c ps).rest ps h.now (closed c ps).pieces h.closes (closed-closes c ps) in
    let e : stand h.rest h.now ≡ stand (closed c ps).rest (closed c ps).pieces = ap (λ r. stand r h.now) s.1 ∙ ap (stand (closed c ps).rest) s.2 in
    let i = one_result ts (stand (closed c ps).rest (closed c ps).pieces) qs h.others (subst (λ xs. Pairs ts xs h.others qs) e h.so) in
    (h.cut ∙ ap (λ m. m ++ h.others) s.0 ∙ ap (λ o. (closed c ps).pairs ++ o) i.0, i.1)

pub one : (ts : List Sibling) (pairs : List Pair) (f : Spans) → IsEmphasis ts pairs f → (pairs ≡ pairs_of ts) × (f ≡ spans_of ts)
one ts pairs f h = grind (arith, one_result)
