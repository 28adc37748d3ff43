-- Where a destination ends in the text.
use Rattle.std.proofs.Common.{◌≡◌, ◌⊎◌, inl, inr, ⊎_elim, ℕ, zero, suc, ◌+◌, ◌-◌, ◌<◌, Bool, true, false, ◌==◌, ◌&&◌, ◌||◌, not, nat_le, if◌then◌else◌, List, [], ◌∷◌, ◌++◌, length, drop, get_or, Option, None, Some, refl, sym, ap, subst, ◌∙◌, arith, true≢false, eqb-true, length-append}
use Rattle.std.specs.Prelude.{option_map}
use Rattle.std.specs.Str.{IsCharBoundary, IsUtf8}
use Rattle.std.proofs.Math.Seq.{drop-append_seam}
use Rattle.std.proofs.lemmas.Bool.{or_cases, and_parts, leb-true}
use Rattle.std.proofs.lemmas.Str.{IsCharBoundary-end, IsCharBoundary-before_ascii, IsCharBoundary-after_ascii}
use Rattle.cmark_grammar.specs.Destinations.{link_destination_in}
use Rattle.cmark_grammar.specs.Leaves.{is_empty}
use Rattle.cmark_grammar.specs.Letters.{first_is}
use Rattle.cmark_grammar.specs.LinkDefinitions.{Parsed, put, escapes_next, up_to, ends_bare, depth_after, bare_in, nonempty, destination_in}
use Rattle.cmark_scan_bytes.specs.Shown.{Part, cut_after}

abbrev pub found_at : List ℕ → List ℕ → Parsed
found_at bytes following = record { bytes = bytes; following = following }

put_is : (b : ℕ) (o : Option Parsed) (found : Parsed) → put b o ≡ Some found → (inner : Parsed) × (o ≡ Some inner) × (found ≡ found_at (b ∷ inner.bytes) inner.following)
put_is b None found e = cc
put_is b (Some inner) found e = (inner, refl, let same : found ≡ found_at (b ∷ inner.bytes) inner.following = cc in same)

-- a closed part, its closer and the bytes after it are the bytes
up_to-cut : (escaped : Bool) (closer refused : ℕ) (over : Bool) (bs : List ℕ) (found : Parsed) → up_to escaped closer refused over bs ≡ Some found → bs ≡ found.bytes ++ closer ∷ found.following
up_to-cut escaped closer refused over [] found e = cc
up_to-cut escaped closer refused over (b ∷ bs) found e = first (not escaped && (b == closer)) refl e (λ f. up_to-cut (escapes_next escaped b) closer refused over bs f)
  where
    go_on : put b (up_to (escapes_next escaped b) closer refused over bs) ≡ Some found → ((f : Parsed) → up_to (escapes_next escaped b) closer refused over bs ≡ Some f → bs ≡ f.bytes ++ closer ∷ f.following) → b ∷ bs ≡ found.bytes ++ closer ∷ found.following
    go_on q ih =
        let p = put_is b (up_to (escapes_next escaped b) closer refused over bs) found q in
        ap (λ l. b ∷ l) (ih p.0 p.1) ∙ ap (λ (f : Parsed). f.bytes ++ closer ∷ f.following) (sym p.2)

    second : (t : Bool) → (if t then None else put b (up_to (escapes_next escaped b) closer refused over bs)) ≡ Some found
        → ((f : Parsed) → up_to (escapes_next escaped b) closer refused over bs ≡ Some f → bs ≡ f.bytes ++ closer ∷ f.following) → b ∷ bs ≡ found.bytes ++ closer ∷ found.following
    second true q ih = cc
    second false q ih = go_on q ih

    first : (t : Bool) → (not escaped && (b == closer)) ≡ t
        → (if t then Some (found_at [] bs) else if (not escaped && (b == refused)) || (not over && ((b == 10) || (b == 13))) then None else put b (up_to (escapes_next escaped b) closer refused over bs)) ≡ Some found
        → ((f : Parsed) → up_to (escapes_next escaped b) closer refused over bs ≡ Some f → bs ≡ f.bytes ++ closer ∷ f.following)
        → b ∷ bs ≡ found.bytes ++ closer ∷ found.following
    first true t q ih =
        let same : found_at [] bs ≡ found = cc in
        ap (λ c. c ∷ bs) (eqb-true b closer (and_parts (not escaped) (b == closer) t).1) ∙ ap (λ (f : Parsed). f.bytes ++ closer ∷ f.following) same
    first false t q ih = second ((not escaped && (b == refused)) || (not over && ((b == 10) || (b == 13)))) q ih

-- a bare part and the bytes after it are the bytes; an ASCII byte ends it, or the end
abbrev pub IsEnd : List ℕ → Type 0
IsEnd [] = Unit {0}
IsEnd (b ∷ bs) = b < 128

pub record Cuts (bs : List ℕ) (found : Parsed) : Type 0 where
  pub is : bs ≡ found.bytes ++ found.following
  pub ends : IsEnd found.following

ends_ascii : (escaped : Bool) (depth b : ℕ) → (ends_bare b || (not escaped && ((b == 41) && (depth == 0)))) ≡ true → b < 128
ends_ascii escaped depth b e =
    ⊎_elim (λ x. ⊎_elim (λ y. let h = leb-true b 32 y in omega arith) (λ y. let h = eqb-true b 127 y in omega arith) (or_cases (nat_le b 32) (b == 127) x))
    (λ x. let h = eqb-true b 41 (and_parts (b == 41) (depth == 0) (and_parts (not escaped) ((b == 41) && (depth == 0)) x).1).0 in omega arith)
    (or_cases (ends_bare b) (not escaped && ((b == 41) && (depth == 0))) e)

at_once : (t : Bool) (found : Parsed) (following : List ℕ) → (if t then Some (found_at [] following) else None) ≡ Some found → found_at [] following ≡ found
at_once true found following e = cc
at_once false found following e = cc

bare_in-cut : (escaped : Bool) (depth : ℕ) (bs : List ℕ) (found : Parsed) → bare_in escaped depth bs ≡ Some found → Cuts bs found
bare_in-cut escaped depth [] found e = subst (Cuts []) (at_once (depth == 0) found [] e) (record { is = refl; ends = tt })
bare_in-cut escaped depth (b ∷ bs) found e =
    first (ends_bare b || (not escaped && ((b == 41) && (depth == 0)))) refl e (λ f. bare_in-cut (escapes_next escaped b) (depth_after escaped depth b) bs f)
  where
    go_on : put b (bare_in (escapes_next escaped b) (depth_after escaped depth b) bs) ≡ Some found → ((f : Parsed) → bare_in (escapes_next escaped b) (depth_after escaped depth b) bs ≡ Some f → Cuts bs f) → Cuts (b ∷ bs) found
    go_on q ih =
        let p = put_is b (bare_in (escapes_next escaped b) (depth_after escaped depth b) bs) found q in
        let c = ih p.0 p.1 in
        subst (Cuts (b ∷ bs)) (sym p.2) (record { is = ap (λ l. b ∷ l) c.is; ends = c.ends })

    second : (t : Bool) → (if t then None else put b (bare_in (escapes_next escaped b) (depth_after escaped depth b) bs)) ≡ Some found
        → ((f : Parsed) → bare_in (escapes_next escaped b) (depth_after escaped depth b) bs ≡ Some f → Cuts bs f) → Cuts (b ∷ bs) found
    second true q ih = cc
    second false q ih = go_on q ih

    first : (t : Bool) → (ends_bare b || (not escaped && ((b == 41) && (depth == 0)))) ≡ t
        → (if t then (if depth == 0 then Some (found_at [] (b ∷ bs)) else None) else if not escaped && ((b == 40) && nat_le 32 depth) then None else put b (bare_in (escapes_next escaped b) (depth_after escaped depth b) bs)) ≡ Some found
        → ((f : Parsed) → bare_in (escapes_next escaped b) (depth_after escaped depth b) bs ≡ Some f → Cuts bs f) → Cuts (b ∷ bs) found
    first true t q ih = subst (Cuts (b ∷ bs)) (at_once (depth == 0) found (b ∷ bs) q) (record { is = refl; ends = ends_ascii escaped depth b t })
    first false t q ih = second (not escaped && ((b == 40) && nat_le 32 depth)) q ih

-- the place after a destination
pub record Ends (text : List ℕ) (found : Parsed) : Type 0 where
  pub rest : drop (length text - length found.following) text ≡ found.following
  pub place : IsCharBoundary text (length text - length found.following)

get_front : (front others : List ℕ) (b : ℕ) → get_or (front ++ b ∷ others) (length front) 0 ≡ b
get_front [] others b = refl
get_front (c ∷ front) others b = get_front front others b

bare_ends : (text : List ℕ) (found : Parsed) → Cuts text found → Ends text found
bare_ends text found c = record {
  rest = ap (λ n. drop n text) size ∙ ap (drop (length found.bytes)) c.is ∙ drop-append_seam found.bytes found.following;
  place = subst (IsCharBoundary text) (sym size) (at found.following c.is c.ends);
}
  where
    size : length text - length found.following ≡ length found.bytes
    size = let n = ap length c.is in let l = length-append found.bytes found.following in omega arith

    at : (following : List ℕ) → text ≡ found.bytes ++ following → IsEnd following → IsCharBoundary text (length found.bytes)
    at [] is h = subst (IsCharBoundary text) (let n = ap length is in let l = length-append found.bytes [] in let e : length text ≡ length found.bytes = omega arith in e) (IsCharBoundary-end text)
    at (b ∷ bs) is h =
        let n = ap length is in let l = length-append found.bytes (b ∷ bs) in
        let here : get_or text (length found.bytes) 0 ≡ b = ap (λ bs. get_or bs (length found.bytes) 0) is ∙ get_front found.bytes bs b in
        IsCharBoundary-before_ascii text (length found.bytes) (omega arith) (omega (arith, here, h))

pointed_ends : (text : List ℕ) (found : Parsed) → IsUtf8 text → text ≡ (60 ∷ found.bytes) ++ 62 ∷ found.following → Ends text found
pointed_ends text found utf8 is =
    let n = ap length is in
    let l = length-append (60 ∷ found.bytes) (62 ∷ found.following) in
    let size : length text - length found.following ≡ suc (length found.bytes) + 1 = omega arith in
    let here : get_or text (suc (length found.bytes)) 0 ≡ 62 = ap (λ bs. get_or bs (suc (length found.bytes)) 0) is ∙ get_front (60 ∷ found.bytes) found.following 62 in
    record {
      rest = ap (λ k. drop k text) size ∙ ap (drop (suc (length found.bytes) + 1)) is ∙ following found.bytes;
      place = subst (IsCharBoundary text) (sym size) (IsCharBoundary-after_ascii text (suc (length found.bytes)) utf8 (omega arith) (omega (arith, here)));
    }
  where
    after_closer : (bs : List ℕ) (n : ℕ) → n ≡ length bs → drop (suc n) (bs ++ 62 ∷ found.following) ≡ found.following
    after_closer [] n e = ap (λ k. drop k found.following) e
    after_closer (b ∷ bs) zero e = absurd (omega arith)
    after_closer (b ∷ bs) (suc n) e = after_closer bs n (omega arith)

    following : (bs : List ℕ) → drop (suc (length bs) + 1) ((60 ∷ bs) ++ 62 ∷ found.following) ≡ found.following
    following bs = ap (λ k. drop k ((60 ∷ bs) ++ 62 ∷ found.following)) (let e : suc (length bs) + 1 ≡ suc (suc (length bs)) = omega arith in e) ∙ after_closer bs (length bs) refl

pub destination_ends : (text : List ℕ) (found : Parsed) → IsUtf8 text → link_destination_in text ≡ Some found → Ends text found
destination_ends [] found utf8 e = bare_ends [] found (bare_in-cut false 0 [] found e)
destination_ends (b ∷ bs) found utf8 e = by_case (b == 60) refl e
  where
    by_case : (t : Bool) → (b == 60) ≡ t → (if t then up_to false 62 60 false bs else bare_in false 0 (b ∷ bs)) ≡ Some found → Ends (b ∷ bs) found
    by_case true t q = pointed_ends (b ∷ bs) found utf8 (ap (λ c. c ∷ bs) (eqb-true b 60 t) ∙ ap (λ l. 60 ∷ l) (up_to-cut false 62 60 false bs found q))
    by_case false t q = bare_ends (b ∷ bs) found (bare_in-cut false 0 (b ∷ bs) found q)

-- the part that was found
pub record Cut (text : List ℕ) (end : ℕ) (part : List ℕ) : Type 0 where
  pub found : Parsed
  pub is : link_destination_in text ≡ Some found
  pub end_is : end ≡ length text - length found.following
  pub part_is : part ≡ found.bytes

cut_is : (text : List ℕ) (cut : Part) (r : Option Parsed) → Some cut ≡ option_map (cut_after text) r → r ≡ link_destination_in text → Cut text cut.end cut.bytes
cut_is text cut None e is = cc
cut_is text cut (Some found) e is =
    let same : cut ≡ cut_after text found = cc in
    record { found = found; is = sym is; end_is = ap (λ (p : Part). p.end) same; part_is = ap (λ (p : Part). p.bytes) same }

pub destination_cut : (text : List ℕ) (cut : Part) → Some cut ≡ option_map (cut_after text) (link_destination_in text) → Cut text cut.end cut.bytes
destination_cut text cut e = cut_is text cut (link_destination_in text) e refl

pub cut_place : (text part : List ℕ) (end : ℕ) → IsUtf8 text → Cut text end part → IsCharBoundary text end
cut_place text part end utf8 c = subst (IsCharBoundary text) (sym c.end_is) (destination_ends text c.found utf8 c.is).place

-- a destination that is pointed or not empty
kept : (r : Option Parsed) (found : Parsed) → r ≡ Some found → is_empty found.bytes ≡ false → Some found ≡ nonempty r
kept None found e some = cc
kept (Some other) found e some =
    let same : other ≡ found = cc in
    sym (ap (λ (f : Parsed). if is_empty f.bytes then None else Some f) same ∙ ap (λ t. if t then None else Some found) some)

destination_is : (text : List ℕ) (found : Parsed) → link_destination_in text ≡ Some found → (is_empty found.bytes ≡ false) ⊎ (first_is (λ b. b == 60) text ≡ true) → Some found ≡ destination_in text
destination_is [] found e (inl some) =
    let same : found_at [] [] ≡ found = cc in
    absurd (true≢false (ap (λ (f : Parsed). is_empty f.bytes) same ∙ some))
destination_is [] found e (inr opens) = absurd (true≢false (sym opens))
destination_is (b ∷ bs) found e how = by_case (b == 60) refl e
  where
    some : (b == 60) ≡ false → (is_empty found.bytes ≡ false) ⊎ ((b == 60) ≡ true) → is_empty found.bytes ≡ false
    some t (inl s) = s
    some t (inr o) = absurd (true≢false (sym o ∙ t))

    by_case : (t : Bool) → (b == 60) ≡ t → (if t then up_to false 62 60 false bs else bare_in false 0 (b ∷ bs)) ≡ Some found
        → Some found ≡ (if b == 60 then up_to false 62 60 false bs else nonempty (bare_in false 0 (b ∷ bs)))
    by_case true t q = sym (ap (λ t. if t then up_to false 62 60 false bs else nonempty (bare_in false 0 (b ∷ bs))) t ∙ q)
    by_case false t q = kept (bare_in false 0 (b ∷ bs)) found q (some t how) ∙ sym (ap (λ t. if t then up_to false 62 60 false bs else nonempty (bare_in false 0 (b ∷ bs))) t)

pub cut_value : (text part following : List ℕ) (end : ℕ) → IsUtf8 text → Cut text end part → following ≡ drop end text → (is_empty part ≡ false) ⊎ (first_is (λ b. b == 60) text ≡ true) → Some (found_at part following) ≡ destination_in text
cut_value text part following end utf8 c is how =
    let rest : following ≡ c.found.following = is ∙ ap (λ n. drop n text) c.end_is ∙ (destination_ends text c.found utf8 c.is).rest in
    ap (λ l. Some (found_at l following)) c.part_is ∙ ap (λ l. Some (found_at c.found.bytes l)) rest
    ∙ destination_is text c.found c.is (⊎_elim (λ s. inl (ap is_empty (sym c.part_is) ∙ s)) (λ o. inr o) how)

pub kept_how : (text part : List ℕ) (t : Bool) → t ≡ true → t ≡ (first_is (λ b. b == 60) text || not (is_empty part)) → (is_empty part ≡ false) ⊎ (first_is (λ b. b == 60) text ≡ true)
kept_how text part t holds is = ⊎_elim (λ o. inr o) (λ n. inl (not_true (is_empty part) n)) (or_cases (first_is (λ b. b == 60) text) (not (is_empty part)) (sym is ∙ holds))
  where
    not_true : (e : Bool) → not e ≡ true → e ≡ false
    not_true true q = sym q
    not_true false q = refl
