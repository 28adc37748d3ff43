-- The status of a call for a growing text, and its meaning for the caller's room and numbers.
use Rattle.std.specs.Prelude.{◌≡◌, ◌≢◌, ◌<◌, ◌≤◌, ◌⊎◌, ℕ, List, ◌++◌, drop, length, IsCharBoundary, IsUtf8}
use Rattle.cmark_grammar.specs.Event.{Event}
use Rattle.cmark_stream.specs.Rests.{IsRestFrom}
use Rattle.program_io.specs.Statuses.{Refused}
use Rattle.pulldown_cmark_c.specs.Calls.{entities_of, options_of}

-- the caller's numbers before and after a call
pub record Numbers : Type 0 where
  pub cut : ℕ
  pub new_cut : ℕ
  pub settled : ℕ
  pub size : ℕ

abbrev pub numbers : (cut new_cut settled size : ℕ) → Numbers
numbers cut new_cut settled size = record { cut = cut; new_cut = new_cut; settled = settled; size = size }

-- nothing was written: the cut and the room are unchanged, and the other numbers are 0
pub record RefusesStream (old new : List ℕ) (n : Numbers) : Type 0 where
  pub refused : Refused old new n.size
  pub cut : n.new_cut ≡ n.cut
  pub settled : n.settled ≡ 0

-- `filtered` replaces each event
module _ (filtered : Event → Event) (limit : ℕ) (bits : ℕ) (text : List ℕ) where
  -- The settled HTML and the tail are at the beginning of the room, and the rest of the room is unchanged. The numbers are those of the output
  pub record WroteStream (old new : List ℕ) (n : Numbers) : Type 0 where
    pub settled_html : List ℕ
    pub tail : List ℕ
    pub is : IsRestFrom filtered limit text (options_of bits) (entities_of bits) n.cut settled_html tail n.new_cut
    pub settled : n.settled ≡ length settled_html
    pub size : n.size ≡ length (settled_html ++ tail)
    pub fits : n.size ≤ length old
    pub room : new ≡ (settled_html ++ tail) ++ drop n.size old

  -- the output has this size, which is more than that of the room. The room and the cut are unchanged, and nothing is settled
  pub record IsTooLongStream (old new : List ℕ) (n : Numbers) : Type 0 where
    pub settled_html : List ℕ
    pub tail : List ℕ
    pub cut_then : ℕ
    pub is : IsRestFrom filtered limit text (options_of bits) (entities_of bits) n.cut settled_html tail cut_then
    pub size : n.size ≡ length (settled_html ++ tail)
    pub longer : length old < n.size
    pub room : new ≡ old
    pub cut : n.new_cut ≡ n.cut
    pub settled : n.settled ≡ 0

  -- the status, room and numbers after a call whose options are known
  pub record AnswersStream (old new : List ℕ) (n : Numbers) (status : ℕ) : Type 0 where
    pub done : status ≡ 0 → WroteStream old new n
    pub too_long : status ≡ 1 → IsTooLongStream old new n
    pub not_utf8 : status ≡ 2 → ¬ (IsUtf8 text) × RefusesStream old new n
    pub no_memory : status ≡ 3 → RefusesStream old new n
    pub bad_cut : status ≡ 6 → ¬ (IsCharBoundary text n.cut) × RefusesStream old new n
    pub is_status : (status ≤ 3) ⊎ (status ≡ 6)
    pub utf8 : status ≢ 2 → IsUtf8 text

-- the status, room and numbers after a call with a bit that has no meaning
abbrev pub UnknownStream : (old new : List ℕ) → (n : Numbers) → (status : ℕ) → Type 0
UnknownStream old new n status = (status ≡ 5) × RefusesStream old new n
