-- Laws of rising lists: cut at a number they fall into what is below it and what is not (`below_rises`, `from_rises`), and lists that meet
-- at it are joined and cut again (`rises_append`, `cut_append`).
use mathlib.Core.Path.{◌≡◌, refl, ap}
use mathlib.Core.List.{List, [], ◌∷◌, ◌++◌}
use mathlib.Core.Bool.{Bool, true, false, cond}
use Prim.Native.Nat.{ℕ, ◌+◌, ◌≤◌, ◌<◌}
use native.Mathlib.Omega.{arith}
use borrow.Author.Tests.{ltb-true, ltb-false, lt-ltb, le-ltb}
use lib.Dec.{ltb}
use Rattle.types.specs.Sets.{RisesIn, none, rises, below, from, last_of}

pub rises_wider : {least end low high : ℕ} {ts : List ℕ} → RisesIn least end ts → low ≤ least → end ≤ high → RisesIn low high ts
rises_wider none h k = none
rises_wider {low = low} {high = high} (rises t a b r) h k =
    rises {least = low} {end = high} t (omega arith) (omega arith) (rises_wider r (omega arith) k)

pub rises_append : {least mid end : ℕ} {xs ys : List ℕ} → RisesIn least mid xs → RisesIn mid end ys → least ≤ mid → mid ≤ end
    → RisesIn least end (xs ++ ys)
rises_append none q h k = rises_wider q h (omega arith)
rises_append {end = end} (rises t a b r) q h k = rises {end = end} t a (omega arith) (rises_append r q (omega arith) k)

-- ---- cut at a number

pub below_from : (m : ℕ) (ts : List ℕ) → below m ts ++ from m ts ≡ ts
unfolding below from
below_from m [] = refl
below_from m (t ∷ ts) = go (ltb t m) (below_from m ts)
  where
    go : (b : Bool) → below m ts ++ from m ts ≡ ts → cond b (t ∷ below m ts) [] ++ cond b (from m ts) (t ∷ ts) ≡ t ∷ ts
    go true ih = ap (λ (s : List ℕ). t ∷ s) ih
    go false ih = refl

pub below_rises : (m : ℕ) {least end : ℕ} {ts : List ℕ} → RisesIn least end ts → RisesIn least m (below m ts)
unfolding below
below_rises m none = none
below_rises m {least} (rises {ts = ts} t a b r) = go (ltb t m) refl (below_rises m r)
  where
    go : (c : Bool) → ltb t m ≡ c → RisesIn (t + 1) m (below m ts) → RisesIn least m (cond c (t ∷ below m ts) [])
    go true e ih = rises t a (ltb-true t m e) ih
    go false e ih = none

pub from_rises : (m : ℕ) {least end : ℕ} {ts : List ℕ} → RisesIn least end ts → RisesIn m end (from m ts)
unfolding from
from_rises m none = none
from_rises m {least} {end} (rises {ts = ts} t a b r) = go (ltb t m) refl (from_rises m r)
  where
    go : (c : Bool) → ltb t m ≡ c → RisesIn m end (from m ts) → RisesIn m end (cond c (from m ts) (t ∷ ts))
    go true e ih = ih
    go false e ih = rises t (ltb-false t m e) b r

-- what is below the number, and what is not
pub cut_all : {least m : ℕ} {ts : List ℕ} → RisesIn least m ts → (below m ts ≡ ts) × (from m ts ≡ [])
unfolding below from
cut_all none = (refl, refl)
cut_all {m = m} (rises t a b r) = let k = cut_all r in (rw (lt-ltb t m b, k.0), rw (lt-ltb t m b, k.1))

pub cut_none : {m end : ℕ} {ts : List ℕ} → RisesIn m end ts → (below m ts ≡ []) × (from m ts ≡ ts)
unfolding below from
cut_none none = (refl, refl)
cut_none {m} (rises t a b r) = (rw (le-ltb t m a), rw (le-ltb t m a))

-- what is not stays behind
pub cut_behind : {m end : ℕ} {ys : List ℕ} (xs : List ℕ) → RisesIn m end ys
    → (below m (xs ++ ys) ≡ below m xs) × (from m (xs ++ ys) ≡ from m xs ++ ys)
unfolding below from
cut_behind [] q = cut_none q
cut_behind {m} {ys = ys} (x ∷ xs) q = let k = cut_behind xs q in (rw k.0, go (ltb x m) k.1)
  where
    go : (b : Bool) → from m (xs ++ ys) ≡ from m xs ++ ys → cond b (from m (xs ++ ys)) (x ∷ xs ++ ys) ≡ cond b (from m xs) (x ∷ xs) ++ ys
    go true ih = ih
    go false ih = refl

pub cut_append : {least m end : ℕ} {xs ys : List ℕ} → RisesIn least m xs → RisesIn m end ys
    → (below m (xs ++ ys) ≡ xs) × (from m (xs ++ ys) ≡ ys)
cut_append {xs = xs} r q = let k = cut_behind xs q in let l = cut_all r in (rw k.0 l.0, rw (k.1, l.1))

-- ---- the last type

-- the last type of the list
pub record Last (types : List ℕ) (last : ℕ) : Type 0 where
  pub head : ℕ
  pub tail : List ℕ
  pub is : types ≡ head ∷ tail
  pub ends : last_of head tail ≡ last

pub last_behind : (xs : List ℕ) {ys : List ℕ} {last : ℕ} → Last ys last → Last (xs ++ ys) last
last_behind [] l = l
last_behind (x ∷ xs) l =
    let k = last_behind xs l in
    record { head = x; tail = k.head ∷ k.tail; is = rw k.is; ends = k.ends }

pub last_cons : (t : ℕ) {ts : List ℕ} → Last (t ∷ ts) (last_of t ts)
last_cons t {ts} = record { head = t; tail = ts; is = refl; ends = refl }

last_within : {least end t : ℕ} {ts : List ℕ} → RisesIn least end (t ∷ ts) → (least ≤ last_of t ts) × (last_of t ts < end)
last_within (rises t a b none) = (a, b)
last_within (rises t a b (rises u c d r)) = let k = last_within (rises u c d r) in (omega (arith, k.0), k.1)

pub last_in : {least end : ℕ} {ts : List ℕ} {last : ℕ} → RisesIn least end ts → Last ts last → (least ≤ last) × (last < end)
last_in r l = rw l.ends at (last_within (rw l.is at r))

-- the last type decides how far the list rises
rises_until : {least end t : ℕ} {ts : List ℕ} (m : ℕ) → RisesIn least end (t ∷ ts) → last_of t ts < m → RisesIn least m (t ∷ ts)
rises_until m (rises t a b none) h = rises t a h none
rises_until m (rises t a b (rises u c d r)) h =
    let k = rises_until m (rises u c d r) h in
    rises {end = m} t a (omega (arith, last_within k)) k

pub rises_to : {least end : ℕ} {ts : List ℕ} {last : ℕ} (m : ℕ) → RisesIn least end ts → Last ts last → last < m → RisesIn least m ts
rises_to m r l h = rw l.is (rises_until m (rw l.is at r) (rw l.ends h))

-- a cut at a number that is no greater leaves the last type behind
from_last : (m t : ℕ) (ts : List ℕ) → m ≤ last_of t ts → Last (from m (t ∷ ts)) (last_of t ts)
unfolding from
from_last m t [] h = rw (le-ltb t m h) (last_cons t)
from_last m t (u ∷ ts) h = go (ltb t m) (from_last m u ts h)
  where
    go : (b : Bool) → Last (from m (u ∷ ts)) (last_of u ts) → Last (cond b (from m (u ∷ ts)) (t ∷ u ∷ ts)) (last_of u ts)
    go true ih = ih
    go false ih = last_cons t

pub last_from : (m : ℕ) {ts : List ℕ} {last : ℕ} → Last ts last → m ≤ last → Last (from m ts) last
last_from m l h = rw (l.is, ← l.ends) (from_last m l.head l.tail (rw l.ends h))
