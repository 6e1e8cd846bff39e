-- A list that rises is parted at any of its types (`rises_parts`).
use mathlib.Core.Path.{◌≡◌}
use mathlib.Core.List.{List, [], ◌∷◌, ◌++◌}
use Prim.Native.Nat.{ℕ, suc, ◌+◌, ◌-◌, ◌≤◌, ◌<◌}
use native.Mathlib.Omega.{arith}
use lib.ListN.{length, take, get_or}
use lib.Seq.{take-suc}
use Rattle.types.specs.Sets.{RisesIn, none, rises, last_of}
use Rattle.types.proofs.Sets.{Last, last_behind, last_cons, last_in}

parts : (xs ys : List ℕ) {least end x : ℕ} → RisesIn least end (x ∷ xs ++ ys)
    → RisesIn least (last_of x xs + 1) (x ∷ xs) × RisesIn (last_of x xs + 1) end ys × (last_of x xs < end)
parts [] ys (rises t a b r) = let h : t < t + 1 = omega arith in (rises t a h none, r, b)
parts (u ∷ us) ys (rises t a b r) =
    let k = parts us ys r in
    let h : t < last_of u us + 1 = omega (arith, last_in k.0 (last_cons u)) in
    (rises t a h k.0, k.1, k.2)

-- up to the last type of the first part, and from there on
pub rises_parts : {least end last : ℕ} {xs ys : List ℕ} → RisesIn least end (xs ++ ys) → Last xs last
    → RisesIn least (last + 1) xs × RisesIn (last + 1) end ys × (last < end)
rises_parts {least} {end} {last} {xs} {ys} r l = go xs l.is l.ends r
  where
    go : (zs : List ℕ) → zs ≡ l.head ∷ l.tail → last_of l.head l.tail ≡ last → RisesIn least end (zs ++ ys)
        → RisesIn least (last + 1) zs × RisesIn (last + 1) end ys × (last < end)
    go zs e f q = rw (e, ← f) (parts l.tail ys (rw e at q))

-- the last of the first i types
pub last_taken : (ts : List ℕ) (i : ℕ) → 0 < i → i ≤ length ts → Last (take i ts) (get_or ts (i - 1) 0)
last_taken ts i h k =
    let e : suc (i - 1) ≡ i = omega arith in
    rw e at (rw (← take-suc ts (i - 1) 0 (omega arith)) at
    (last_behind (take (i - 1) ts) (last_cons (get_or ts (i - 1) 0) {ts = []})))
