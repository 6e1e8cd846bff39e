-- What the key reader finds: exactly the valid sequence whose code the octets are (`read_found`, `read_valid`).
use mathlib.Core.Path.{◌≡◌, refl, sym, ap, ◌∙◌}
use mathlib.Core.List.{List, [], ◌∷◌}
use mathlib.Core.Bool.{Bool, true, false, cond}
use Prim.Native.Nat.{ℕ, zero, suc, ◌+◌, ◌-◌, ◌≤◌}
use native.Mathlib.Omega.{arith}
use lib.Dec.{T}
use Rattle.order.specs.Place.{Place, at, within, room, move, legal, full, Valid}
use Rattle.order.proofs.Members.{open_of}
use Rattle.name.proofs.Beginnings.{stops_not_found}
use Rattle.key.specs.ReadKey.{Read, found, stops, before, read_key, reading}
use Rattle.key.proofs.Codes.{symbol_code, code}
use Rattle.key.proofs.ReaderSteps.{NoEscape, code_induction, width, read_symbol, read_end, read_escape_lem, read_broken}

-- ---- room for the 0 that closes a label

-- in a label, a symbol is left for its 0
abbrev Closes : ℕ → Place → Type 0
Closes n (at d) = Unit {0}
Closes n (within d r) = 1 ≤ n

room_two : (n : ℕ) (q : Place) → T (room n q) → 2 ≤ n
room_two zero q h = absurd h
room_two (suc zero) q h = absurd h
room_two (suc (suc n)) q h = omega arith

legal_one : (n : ℕ) (q : Place) (x : ℕ) → Closes n q → T (legal full n q x) → 1 ≤ n
legal_one n (at d) zero c h = absurd h
legal_one n (within d r) zero c h = c
legal_one n q (suc o) c h = omega (arith, room_two n q (open_of full n q o h).0)

closes_move : (n : ℕ) (q : Place) (x : ℕ) → T (legal full n q x) → Closes (n - 1) (move q x)
closes_move n (at d) zero h = absurd h
closes_move n (within d r) zero h = tt
closes_move n (at zero) (suc o) h = tt
closes_move n (at (suc d)) (suc o) h = omega (arith, room_two n (at (suc d)) (open_of full n (at (suc d)) o h).0)
closes_move n (within d zero) (suc o) h = omega (arith, room_two n (within d zero) (open_of full n (within d zero) o h).0)
closes_move n (within d (suc r)) (suc o) h = omega (arith, room_two n (within d (suc r)) (open_of full n (within d (suc r)) o h).0)

less_one : (n : ℕ) → suc n - 1 ≡ n
less_one n = omega arith

valid_cons : (n : ℕ) (q : Place) (x : ℕ) (s : List ℕ) → Closes n q → T (legal full n q x) → Valid full (n - 1) (move q x) s
    → Valid full n q (x ∷ s)
valid_cons zero q x s c h v = absurd (omega (arith, legal_one 0 q x c h))
valid_cons (suc n) q x s c h v = (h, rw (less_one n) at v)

-- ---- the code of a valid sequence is found

pub read_valid : (s : List ℕ) (n : ℕ) (q : Place) (p : ℕ) → Valid full n q s → read_key n q p (code s) ≡ found s
unfolding code
read_valid [] n (at d) p v = read_end n (at d) p
read_valid [] n (within d r) p v = absurd v
read_valid (x ∷ s) zero q p v = absurd v
read_valid (x ∷ s) (suc n) q p v =
    read_symbol (suc n) q p x (code s)
    ∙ go (legal full (suc n) q x) v.0
    ∙ rw (less_one n, read_valid s n (move q x) (p + width x) v.1)
  where
    go : (b : Bool) → T b
        → cond b (before x (read_key (suc n - 1) (move q x) (p + width x) (code s))) (stops p)
        ≡ before x (read_key (suc n - 1) (move q x) (p + width x) (code s))
    go true h = refl
    go false h = absurd h

-- ---- and nothing else

-- the octets k are the code of the valid sequence s
pub record Coded (n : ℕ) (q : Place) (k s : List ℕ) : Type 0 where
  pub is : code s ≡ k
  pub valid : Valid full n q s

abbrev FoundCoded : List ℕ → Type 0
FoundCoded k = (n : ℕ) (q : Place) (p : ℕ) (s : List ℕ) → Closes n q → read_key n q p k ≡ found s → Coded n q k s

found_end : FoundCoded []
unfolding code
found_end n (at d) p s c e =
    let i : s ≡ [] = cc (read_end n (at d) p) in
    rw i (record { is = refl; valid = tt })
found_end n (within d r) p s c e = absurd (stops_not_found (sym (read_end n (within d r) p) ∙ e))

found_symbol : (x : ℕ) (k : List ℕ) → FoundCoded k → FoundCoded (symbol_code x k)
unfolding code
found_symbol x k ih n q p s c e =
    go (legal full n q x) (read_key (n - 1) (move q x) (p + width x) k) refl refl (sym (read_symbol n q p x k) ∙ e)
  where
    go : (b : Bool) (r : Read) → legal full n q x ≡ b → read_key (n - 1) (move q x) (p + width x) k ≡ r
        → cond b (before x r) (stops p) ≡ found s → Coded n q (symbol_code x k) s
    go true (found t) eb er i =
        let j : s ≡ x ∷ t = cc in
        let h : T (legal full n q x) = rw eb tt in
        let r : Coded (n - 1) (move q x) k t = ih (n - 1) (move q x) (p + width x) t (closes_move n q x h) er in
        rw j (record { is = ap (symbol_code x) r.is; valid = valid_cons n q x t c h r.valid })
    go true (stops m) eb er i = absurd (stops_not_found i)
    go false r eb er i = absurd (stops_not_found i)

found_broken : (k : List ℕ) → NoEscape k → FoundCoded (1 ∷ k)
found_broken k h n q p s c e = go (room n q) refl
  where
    go : (b : Bool) → room n q ≡ b → Coded n q (1 ∷ k) s
    go true eb = absurd (stops_not_found (sym (read_broken n q p k h eb) ∙ e))
    go false eb = absurd (stops_not_found (sym (read_escape_lem n q p k eb) ∙ e))

pub read_found : (k s : List ℕ) → reading k ≡ found s → Coded 254 (at 127) k s
read_found k s e = code_induction FoundCoded found_end found_symbol found_broken k 254 (at 127) 0 s tt e
