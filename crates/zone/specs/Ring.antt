-- The neighbours of a canonical sequence among the valid ones, over an alphabet, the number of symbols left and the place (RFC 4471
-- section 3.1 as one rule): the successor raises the last symbol that can be raised and closes its label, the predecessor lowers the last
-- symbol that can be lowered and goes on with the greatest that fit. After the last sequence comes the empty one, the apex.
use Rattle.std.specs.Prelude.{List, [], ◌∷◌, Bool, true, false, ℕ, zero, suc, min}
use Rattle.std.proofs.Math.Option.{Option, none, some}
use Rattle.order.specs.Place.{Place, at, within, room, move, legal}
use Rattle.zone.specs.Alphabet.{from, below}

-- the first answer behind the symbol x, or else the second
abbrev pub prefer : ℕ → Option (List ℕ) → Option (List ℕ) → Option (List ℕ)
prefer x (some t) m = some (x ∷ t)
prefer x none m = m

-- where the test holds, one octet and the symbol that closes its label
abbrev pub closing : Bool → Option ℕ → Option (List ℕ)
closing false m = none
closing true none = none
closing true (some o) = some (suc o ∷ 0 ∷ [])

-- the answer, where the test holds
abbrev pub when {ℓ} : {A : Type ℓ} → Bool → Option A → Option A
when false m = none
when true m = m

-- the answer, or else d
abbrev pub or_else : Option (List ℕ) → List ℕ → List ℕ
or_else (some t) d = t
or_else none d = d

module _ (allowed : ℕ → Bool) where
  -- the symbol x raised to the next one, and the label closed
  abbrev pub lift : ℕ → Place → ℕ → Option (List ℕ)
  lift n q x = closing (room n q) (from allowed x)

  -- the least valid sequence above s, which need not be valid itself: the last symbol that can be raised is
  unfoldable pub raise : ℕ → Place → List ℕ → Option (List ℕ)
  raise n (at d) [] = lift n (at d) 0
  raise zero (within d r) [] = none
  raise (suc n) (within d r) [] = some (0 ∷ [])
  raise zero q (x ∷ s) = none
  raise (suc n) q (x ∷ s) = prefer x (when (legal allowed (suc n) q x) (raise n (move q x) s)) (lift (suc n) q x)

  -- the sequence after s, and [] after the last
  unfoldable pub successor : ℕ → Place → List ℕ → List ℕ
  successor n q s = or_else (raise n q s) []

  -- the greatest octet that fits, if one does
  unfoldable pub cap : ℕ → Place → Option ℕ
  cap n q = when (room n q) (below allowed 256)

  -- the greatest completion that goes on with the octet given, or else with the end of the label, or of the name
  unfoldable pub fill : ℕ → Place → Option ℕ → List ℕ
  fill zero q m = []
  fill (suc n) q (some p) = suc p ∷ fill n (move q (suc p)) (cap n (move q (suc p)))
  fill (suc n) (at d) none = []
  fill (suc n) (within d r) none = 0 ∷ fill n (at d) (cap n (at d))

  -- the greatest completion
  unfoldable pub top : ℕ → Place → List ℕ
  top n q = fill n q (cap n q)

  -- the greatest valid sequence that goes on with a symbol below x, or ends
  unfoldable pub sink : ℕ → Place → ℕ → Option (List ℕ)
  sink n (at d) zero = some []
  sink n (within d r) zero = none
  sink n q (suc o) = some (fill n q (when (room n q) (below allowed (min o 256))))

  -- the greatest valid sequence below s, which need not be valid itself: the last symbol that can be lowered is
  unfoldable pub lower : ℕ → Place → List ℕ → Option (List ℕ)
  lower n q [] = none
  lower zero (at d) (x ∷ s) = some []
  lower zero (within d r) (x ∷ s) = none
  lower (suc n) q (x ∷ s) = prefer x (when (legal allowed (suc n) q x) (lower n (move q x) s)) (sink (suc n) q x)

  -- the sequence before s, and the last where none is before
  unfoldable pub predecessor : ℕ → Place → List ℕ → List ℕ
  predecessor n q s = or_else (lower n q s) (top n q)
