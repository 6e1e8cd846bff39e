-- The steps to the successor and the predecessor of a name in a zone (RFC 4471 section 3.1, as document 01 corrects it), over an
-- alphabet. A name is its labels above the apex, leftmost first; n is the number of octets that the limit leaves above the apex, and d the
-- number of labels allowed there. They are the nearest members: `successor_steps_lem` and `predecessor_steps_lem` of proofs/.
use Rattle.std.specs.Prelude.{List, [], ◌∷◌, ◌++◌, Bool, cond, ◌&&◌, ℕ, zero, suc, ◌+◌, ◌-◌, min, length, take, drop, get_or, replicate}
use Rattle.std.specs.Prelude.{ltb, leb}
use Rattle.std.proofs.Math.Option.{Option, none, some}
use Rattle.zone.specs.Alphabet.{from, below}
use Rattle.zone.specs.Ring.{prefer}
use Rattle.zone.specs.Zone.{size}

-- the octet, or 0 where the alphabet has none
abbrev pub or_zero : Option ℕ → ℕ
or_zero (some o) = o
or_zero none = 0

-- a label of one octet
abbrev pub alone : Option ℕ → Option (List ℕ)
alone (some o) = some (o ∷ [])
alone none = none

-- the label before the labels ls, or else the labels one climb up
abbrev pub or_climb : Option (List ℕ) → List (List ℕ) → List (List ℕ) → List (List ℕ)
or_climb (some l) ls up = l ∷ ls
or_climb none ls up = up

-- the last d labels
abbrev pub last_labels : ℕ → List (List ℕ) → List (List ℕ)
last_labels d ls = drop (length ls - d) ls

module _ (allowed : ℕ → Bool) where
  -- the least and the greatest octet of the alphabet
  unfoldable pub least : ℕ
  least = or_zero (from allowed 0)

  unfoldable pub greatest : ℕ
  greatest = or_zero (below allowed 256)

  -- ---- the successor

  -- the last octet of a label that can be raised is raised to the next of the alphabet, and those after it are dropped
  unfoldable pub raised : List ℕ → Option (List ℕ)
  raised [] = none
  raised (o ∷ l) = prefer o (raised l) (alone (from allowed (suc o)))

  -- the least octet at the leftmost label's end if label and name have room, or else that label raised, or else its parent tried
  unfoldable pub climb : ℕ → List (List ℕ) → List (List ℕ)
  climb n [] = []
  climb n (l ∷ ls) =
      let up = climb n ls in
      cond (ltb (length l) 63 && leb (size (l ∷ ls) + 1) n) ((l ++ least ∷ []) ∷ ls) (or_climb (raised l) ls up)

  -- of at most d labels: the least label in front if it fits, or else a climb
  unfoldable pub deeper : ℕ → ℕ → List (List ℕ) → List (List ℕ)
  deeper n d ls = cond (ltb (length ls) d && leb (size ls + 2) n) ((least ∷ []) ∷ ls) (climb n ls)

  unfoldable pub successor_steps : ℕ → ℕ → List (List ℕ) → List (List ℕ)
  successor_steps n d ls = deeper n d (last_labels d ls)

  -- ---- the predecessor

  -- the greatest labels in front, where k labels and so many octets are left
  unfoldable pub fill_labels : ℕ → ℕ → List (List ℕ) → List (List ℕ)
  fill_labels zero left ls = ls
  fill_labels (suc k) left ls =
      let more = fill_labels k (left - 64) (replicate 63 greatest ∷ ls) in
      cond (leb 64 left) more (cond (leb 2 left) (replicate (left - 1) greatest ∷ ls) ls)

  -- the last member at or under ls
  abbrev pub deepest : ℕ → ℕ → List (List ℕ) → List (List ℕ)
  deepest n d ls = fill_labels (d - length ls) (n - size ls) ls

  -- the label l before the labels ls, with the greatest octet up to 63 octets or as far as n allows
  abbrev pub padded : ℕ → List ℕ → List (List ℕ) → List ℕ
  padded n l ls = l ++ replicate (min (63 - length l) (n - size (l ∷ ls))) greatest

  -- the octets l of the leftmost label but its last one, which is lowered to the octet given, or dropped where it is the least
  abbrev pub lowered : ℕ → ℕ → Option ℕ → List ℕ → List (List ℕ) → List (List ℕ)
  lowered n d (some o) l ls = deepest n d (padded n (l ++ o ∷ []) ls ∷ ls)
  lowered n d none [] ls = ls
  lowered n d none (o ∷ l) ls = deepest n d ((o ∷ l) ∷ ls)

  unfoldable pub predecessor_steps : ℕ → ℕ → List (List ℕ) → List (List ℕ)
  predecessor_steps n d [] = deepest n d []
  predecessor_steps n d (l ∷ ls) =
      cond (ltb d (length (l ∷ ls))) (last_labels d (l ∷ ls))
      (lowered n d (below allowed (get_or l (length l - 1) 0)) (take (length l - 1) l) ls)
