-- Reading a sorting key: the symbols of a name's canonical sequence, one by one, each where it may stand; and where no key goes on so,
-- the place. The laws show that this place is the length of the longest beginning that some key also begins with.
use Rattle.std.specs.Prelude.{List, [], ◌∷◌, reverse, cond, ℕ, zero, suc, ◌+◌, ◌-◌}
use Rattle.name.specs.Labels.{wire}
use Rattle.name.specs.Answer.{Result, answer, refusal}
pub use Rattle.name.specs.Reader.{Read, found, stops}
use Rattle.order.specs.Sequence.{labels}
use Rattle.order.specs.Place.{Place, at, within, room, move, legal, full}

-- a symbol before those that are found
abbrev pub before : ℕ → Read → Read
before x (found s) = found (x ∷ s)
before x (stops p) = stops p

-- no octet is left at the place p: a key ends between two labels
abbrev pub at_end : Place → ℕ → Read
at_end (at d) p = found []
at_end (within d r) p = stops p

-- the symbol x, of which the last octet stands at the place p, if it may stand here; `next` is what reading on finds
abbrev pub take_if : ℕ → Place → ℕ → ℕ → Read → Read
take_if n q p x next = cond (legal full n q x) (before x next) (stops p)

unfoldable mutual
  -- reading on at the place p, where n symbols are left
  pub read_key : ℕ → Place → ℕ → List ℕ → Read
  read_key n q p [] = at_end q p
  read_key n q p (zero ∷ s) = take_if n q p 0 (read_key (n - 1) (move q 0) (p + 1) s)
  read_key n q p (suc zero ∷ s) = cond (room n q) (read_escaped n q (p + 1) s) (stops p)
  read_key n q p (suc (suc o) ∷ s) = take_if n q p (suc (suc (suc o))) (read_key (n - 1) (move q (suc (suc (suc o)))) (p + 1) s)

  -- the octet before the place p was 01, which 01 or 02 must follow
  pub read_escaped : ℕ → Place → ℕ → List ℕ → Read
  read_escaped n q p [] = stops p
  read_escaped n q p (zero ∷ s) = stops p
  read_escaped n q p (suc zero ∷ s) = before 1 (read_key (n - 1) (move q 1) (p + 1) s)
  read_escaped n q p (suc (suc zero) ∷ s) = before 2 (read_key (n - 1) (move q 2) (p + 1) s)
  read_escaped n q p (suc (suc (suc o)) ∷ s) = stops p

-- a name has at most 254 symbols and 127 labels
abbrev pub reading : List ℕ → Read
reading key = read_key 254 (at 127) 0 key

-- the name of the symbols that were found, or 10 with the place
abbrev pub name_read : Read → Result (List ℕ)
name_read (found s) = answer (wire (reverse (labels s)))
name_read (stops p) = refusal 10 (p ∷ [])

-- reading a key: 10, or the one folded name that has it
abbrev pub read_key_of : List ℕ → Result (List ℕ)
read_key_of key = name_read (reading key)
