-- The place where a reader stops. It parts octets so that what stands before can be completed to something that is found, and with the
-- octet at the place it cannot (`Stop`). Then the front is the longest beginning that something accepted also begins with
-- (`stop_longest`), and there is one (`longest_unique`). The readers of keys and of texts both cite this.
use mathlib.Core.Path.{◌≡◌, refl, ap, ◌∙◌}
use mathlib.Core.Bool.{true≢false}
use mathlib.Core.List.{List, [], ◌∷◌, ◌++◌, append_assoc}
use Prim.Native.Nat.{ℕ, zero, suc, ◌+◌, ◌≤◌, ◌<◌}
use native.Mathlib.Omega.{arith}
use native.Mathlib.Decide.{dec_lt}
use lib.ListN.{length, take, drop, length-append, take-append-drop}
use lib.Seq.{take-append-le}
use Rattle.name.specs.Reader.{Read, found, stops, Begins, Longest}

pub stops_not_found : {p : ℕ} {s : List ℕ} → stops p ≡ found s → ⊥
stops_not_found e = true≢false (cc)

-- a beginning that is longer than `front` holds the octet after it
past : (front back : List ℕ) (y n : ℕ) → length front < n → (more : List ℕ) × (take n (front ++ y ∷ back) ≡ front ++ y ∷ more)
past [] back y zero h = absurd (omega arith)
past [] back y (suc n) h = (take n back, refl)
past (x ∷ front) back y zero h = absurd (omega arith)
past (x ∷ front) back y (suc n) h =
    let r = past front back y n (omega arith) in (r.0, ap (λ (s : List ℕ). x ∷ s) r.1)

module _ (Accepted : List ℕ → Type 0) where
  begins_front : (a b : List ℕ) → Begins Accepted (a ++ b) → Begins Accepted a
  begins_front a b h = record { rest = b ++ h.rest; accepted = rw (append_assoc a b h.rest) at h.accepted }

  -- nothing accepted begins with the front and the first octet after it, if any
  abbrev Bars : List ℕ → List ℕ → Type 0
  Bars front [] = Unit {0}
  Bars front (y ∷ back) = (rest : List ℕ) → Accepted (front ++ y ∷ rest) → ⊥

  barred : (front back : List ℕ) (n : ℕ) → Bars front back → length front < n → n ≤ length (front ++ back)
      → Begins Accepted (take n (front ++ back)) → ⊥
  barred front [] n b h l g = omega (arith, length-append {A = ℕ} front [])
  barred front (y ∷ back) n b h l g =
      let r = past front back y n h in
      b (r.0 ++ g.rest) (rw (r.1, append_assoc front (y ∷ r.0) g.rest) at g.accepted)

  parted_longest : (front back : List ℕ) (p : ℕ) → length front ≡ p → Begins Accepted front → Bars front back
      → Longest Accepted (front ++ back) p
  parted_longest front back p i c b =
      record {
        within = omega (arith, length-append front back);
        begins = λ n h.
            rw (take-append-le n front back (omega arith))
            (begins_front (take n front) (drop n front) (rw (take-append-drop n front) c));
        no_longer = λ n h l g. barred front back n b (omega arith) l g;
      }

  pub longest_unique : (k : List ℕ) (p m : ℕ) → Longest Accepted k p → Longest Accepted k m → p ≡ m
  longest_unique k p m a b = go (dec_lt p m) (dec_lt m p)
    where
      go : Dec (p < m) → Dec (m < p) → p ≡ m
      go (yes h) d = absurd (a.no_longer m h b.within (b.begins m (omega arith)))
      go (no h) (yes g) = absurd (b.no_longer p g a.within (a.begins p (omega arith)))
      go (no h) (no g) = omega arith

-- ---- a reader

module _ (reads : List ℕ → Read) where
  -- some octets complete what stands before
  pub record Completes (front : List ℕ) : Type 0 where
    pub rest : List ℕ
    pub whole : List ℕ
    pub finds : reads (front ++ rest) ≡ found whole

  -- the octets after the place, if any, begin with one with which the reader stops there
  abbrev pub Blocked : List ℕ → List ℕ → ℕ → Type 0
  Blocked front [] m = Unit {0}
  Blocked front (y ∷ back) m = (rest : List ℕ) → reads (front ++ y ∷ rest) ≡ stops m

  -- the reader, which is at the place p, stops at m, which parts the octets t
  pub record Stop (p : ℕ) (t : List ℕ) (m : ℕ) : Type 0 where
    pub front : List ℕ
    pub back : List ℕ
    pub is : front ++ back ≡ t
    pub place : p + length front ≡ m
    pub completes : Completes front
    pub blocked : Blocked front back m

  pub stop_here : (p m : ℕ) (t : List ℕ) → Completes [] → stops p ≡ stops m → Blocked [] t p → Stop p t m
  stop_here p m t c e b =
      let i : m ≡ p = cc in
      record { front = []; back = t; is = refl; place = omega arith; completes = c; blocked = rw i b }

-- the reader passes the octets c, and goes on as another
module _ (reads later : List ℕ → Read) (c : List ℕ)
    (on-found : (s n : List ℕ) → later s ≡ found n → (w : List ℕ) × (reads (c ++ s) ≡ found w))
    (on-stops : (s : List ℕ) (m : ℕ) → later s ≡ stops m → reads (c ++ s) ≡ stops m) where
  pub completes_on : (front : List ℕ) → Completes later front → Completes reads (c ++ front)
  completes_on front k =
      let r = on-found (front ++ k.rest) k.whole k.finds in
      record { rest = k.rest; whole = r.0; finds = ap reads (append_assoc c front k.rest) ∙ r.1 }

  blocked_on : (front back : List ℕ) (m : ℕ) → Blocked later front back m → Blocked reads (c ++ front) back m
  blocked_on front [] m b = tt
  blocked_on front (y ∷ back) m b =
      λ rest. ap reads (append_assoc c front (y ∷ rest)) ∙ on-stops (front ++ y ∷ rest) m (b rest)

  pub stop_on : (p q : ℕ) (t : List ℕ) (m : ℕ) → q ≡ p + length c → Stop later q t m → Stop reads p (c ++ t) m
  stop_on p q t m e k =
      record {
        front = c ++ k.front;
        back = k.back;
        is = append_assoc c k.front k.back ∙ ap (λ (x : List ℕ). c ++ x) k.is;
        place = omega (arith, k.place, length-append c k.front);
        completes = completes_on k.front k.completes;
        blocked = blocked_on k.front k.back m k.blocked;
      }

-- a reader that finds exactly what is accepted
module _ (Accepted : List ℕ → Type 0) (reads : List ℕ → Read)
    (accepts : (t n : List ℕ) → reads t ≡ found n → Accepted t)
    (refuses : (t : List ℕ) (m : ℕ) → reads t ≡ stops m → Accepted t → ⊥) where
  stop_bars : (front back : List ℕ) (m : ℕ) → Blocked reads front back m → Bars Accepted front back
  stop_bars front [] m b = tt
  stop_bars front (y ∷ back) m b = λ rest. refuses (front ++ y ∷ rest) m (b rest)

  pub stop_longest : (t : List ℕ) (p : ℕ) → Stop reads 0 t p → Longest Accepted t p
  stop_longest t p k =
      let c = k.completes in
      let b : Begins Accepted k.front = record { rest = c.rest; accepted = accepts (k.front ++ c.rest) c.whole c.finds } in
      rw k.is at
      (parted_longest Accepted k.front k.back p (omega (arith, k.place)) b (stop_bars k.front k.back p k.blocked))
