-- Known bytes that grow by the beginning of a text, write by write.
use Rattle.std.proofs.Common.{ℕ, ◌+◌, ◌-◌, List, ◌++◌, Option, take, drop, length, sym, ap, ◌∙◌, subst, take-append-drop}
use Rattle.std.proofs.lemmas.List.{take_rest}
use lib.Seq.{take-add}
use Rattle.std.specs.Io.KnownBytes.{Appends}
use Rattle.std.proofs.KnownBytes.{Appends-trans}
use Rattle.program_io.specs.Runs.{AppendsFrontOf}

-- the first n bytes are a beginning
pub front_at : (a b : Option (List ℕ)) (text : List ℕ) (n : ℕ) → Appends a b (take n text) → AppendsFrontOf a b text
front_at a b text n h = (take n text, drop n text, sym (take-append-drop n text), h)

-- a write takes the next n bytes
pub written_more : (a b c : Option (List ℕ)) (text : List ℕ) (at n : ℕ) → Appends a b (take at text) → Appends b c (take n (take (length text - at) (drop at text))) → Appends a c (take (at + n) text)
written_more a b c text at n p q =
    subst (Appends a c) (ap (λ l. take at text ++ take n l) (take_rest text at) ∙ sym (take-add at n text))
    (Appends-trans a b c (take at text) (take n (take (length text - at) (drop at text))) p q)
