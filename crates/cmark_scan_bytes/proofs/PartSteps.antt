-- A part read from byte to byte.
use Rattle.std.proofs.Common.{◌≡◌, ℕ, suc, ◌-◌, ◌<◌, List, [], ◌∷◌, ◌++◌, length, take, drop, get_or, Option, None, Some, refl, sym, ap, ◌∙◌, arith, append_assoc, length-append, take-append-drop}
use Rattle.cmark_grammar.specs.LinkDefinitions.{Parsed, put}
use Rattle.cmark_scan_bytes.specs.Steps.{puts}

-- the part read from all bytes is a first part of them, and then the part read from this rest
pub record Reads (all here : Option Parsed) (bytes rest : List ℕ) : Type 0 where
  pub front : List ℕ
  pub cut : bytes ≡ front ++ rest
  pub same : all ≡ puts front here

pub reads_none : (all : Option Parsed) (bytes : List ℕ) → Reads all all bytes bytes
reads_none all bytes = record { front = []; cut = refl; same = refl }

pub puts-more : (front : List ℕ) (b : ℕ) (found : Option Parsed) → puts front (put b found) ≡ puts (front ++ b ∷ []) found
puts-more [] b found = refl
puts-more (c ∷ front) b found = ap (put c) (puts-more front b found)

-- one byte more
pub reads_more : (all here next : Option Parsed) (bytes rest others : List ℕ) (b : ℕ) → Reads all here bytes rest → rest ≡ b ∷ others → here ≡ put b next → Reads all next bytes others
reads_more all here next bytes rest others b r is e = grind (arith, append_assoc, puts-more)

-- any number of bytes more
puts-all : (front more : List ℕ) (found : Option Parsed) → puts front (puts more found) ≡ puts (front ++ more) found
puts-all [] more found = refl
puts-all (b ∷ front) more found = ap (put b) (puts-all front more found)

pub reads_far : (all here next : Option Parsed) (bytes rest others : List ℕ) (n : ℕ) → Reads all here bytes rest → others ≡ drop n rest → here ≡ puts (take n rest) next → Reads all next bytes others
reads_far all here next bytes rest others n r is e = grind (arith, take-append-drop, append_assoc, puts-all)

-- and no more
pub puts-none : (front : List ℕ) → puts front None ≡ None
puts-none [] = refl
puts-none (b ∷ front) = ap (put b) (puts-none front)

pub reads_fail : (all here : Option Parsed) (bytes rest : List ℕ) → Reads all here bytes rest → here ≡ None → None ≡ all
reads_fail all here bytes rest r e = sym (r.same ∙ ap (puts r.front) e ∙ puts-none r.front)

pub puts-done : (front following : List ℕ) → puts front (Some (record { bytes = []; following = following })) ≡ Some (record { bytes = front; following = following })
puts-done [] following = refl
puts-done (b ∷ front) following = ap (put b) (puts-done front following)

take-front : (front rest : List ℕ) → take (length front) (front ++ rest) ≡ front
take-front [] rest = refl
take-front (b ∷ front) rest = ap (λ l. b ∷ l) (take-front front rest)

drop-front : (front rest : List ℕ) → drop (length front) (front ++ rest) ≡ rest
drop-front [] rest = refl
drop-front (b ∷ front) rest = drop-front front rest

drop-front-suc : (front rest : List ℕ) (b : ℕ) → drop (suc (length front)) (front ++ b ∷ rest) ≡ rest
drop-front-suc [] rest b = refl
drop-front-suc (c ∷ front) rest b = drop-front-suc front rest b

front_size : (bytes front rest : List ℕ) → bytes ≡ front ++ rest → length bytes - length rest ≡ length front
front_size bytes front rest cut = let n = ap length cut in let l = length-append front rest in omega arith

-- the part ends at a closer
pub reads_closed : (all here : Option Parsed) (bytes rest others : List ℕ) (b : ℕ) → Reads all here bytes rest → rest ≡ b ∷ others → here ≡ Some (record { bytes = []; following = others })
    → Some (let found : Parsed = record { bytes = take (length bytes - length rest) bytes; following = drop (suc (length bytes - length rest)) bytes } in found) ≡ all
reads_closed all here bytes rest others b r is e = cc (front_size bytes r.front rest r.cut, take-front r.front (b ∷ others), drop-front-suc r.front others b, puts-done r.front others)

-- or at the beginning of the rest
pub reads_open : (all here : Option Parsed) (bytes rest : List ℕ) → Reads all here bytes rest → here ≡ Some (record { bytes = []; following = rest })
    → Some (let found : Parsed = record { bytes = take (length bytes - length rest) bytes; following = drop (length bytes - length rest) bytes } in found) ≡ all
reads_open all here bytes rest r e = cc (front_size bytes r.front rest r.cut, take-front r.front rest, drop-front r.front rest, puts-done r.front rest)

get_or-front : (front others : List ℕ) (b : ℕ) → get_or (front ++ b ∷ others) (length front) 0 ≡ b
get_or-front [] others b = refl
get_or-front (c ∷ front) others b = get_or-front front others b

-- the byte at this place
pub reads_byte : (all here : Option Parsed) (bytes rest others : List ℕ) (b : ℕ) → Reads all here bytes rest → rest ≡ b ∷ others
    → (length bytes - length rest < length bytes) × (get_or bytes (length bytes - length rest) 0 ≡ b)
reads_byte all here bytes rest others b r is = grind (arith, front_size, length-append, get_or-front)

pub no_bytes : (bs : List ℕ) → length bs ≡ 0 → bs ≡ []
no_bytes [] e = refl
no_bytes (b ∷ bs) e = absurd (omega arith)

-- the part continues to the end
pub reads_end : (all here : Option Parsed) (bytes rest : List ℕ) → Reads all here bytes rest → length rest ≡ 0 → here ≡ Some (record { bytes = []; following = [] })
    → Some (let found : Parsed = record { bytes = take (length bytes) bytes; following = drop (length bytes) bytes } in found) ≡ all
reads_end all here bytes rest r none e =
    ap (λ n. let found : Parsed = record { bytes = take n bytes; following = drop n bytes } in Some found) (let size : length bytes ≡ length bytes - length rest = omega arith in size)
    ∙ reads_open all here bytes rest r (e ∙ ap (λ bs. let found : Parsed = record { bytes = []; following = bs } in Some found) (sym (no_bytes rest none)))
