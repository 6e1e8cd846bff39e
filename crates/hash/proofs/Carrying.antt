-- The walk of the carry and of the borrow from the right, octet by octet: what the code has at the index i, and what its next octet adds.
use Rattle.std.proofs.Common.{◌≡◌, ℕ, ◌+◌, ◌-◌, ◌/◌, ◌%◌, ◌<◌, ◌≤◌, cond, ltb, List, [], ◌∷◌, ◌++◌, length, get_or, take, drop, set, sym}
use Rattle.std.proofs.Common.{refl, ap, ◌∙◌, arith, take-append-drop, le-ltb, lt-ltb}
use lib.Seq.{drop-length}
use Rattle.hash.specs.Ring.{carried, after, borrowed, before}
use Rattle.hash.specs.Private.Below.{Below}
use Rattle.hash.proofs.Digits.{below_drop, below_take, below_at}
use Rattle.hash.proofs.Ring.{carried_most, borrowed_most}
use Rattle.hash.proofs.Walk.{Rewritten, drop_before, rewritten_none, rewritten_octet, rewritten_more}

-- the octets from the index i on are rewritten, and this is what they hand on
pub record Handing (f : List ℕ → List ℕ) (on : List ℕ → ℕ) (s d : List ℕ) (c i : ℕ) : Type 0 where
  pub walk : Rewritten f s d i
  pub hands : c ≡ on (drop i s)

-- at the start nothing is rewritten
pub handing_none : {f : List ℕ → List ℕ} {on : List ℕ → ℕ} (s : List ℕ) (n : ℕ) → length s ≡ n → f [] ≡ [] → on [] ≡ 1
    → Handing f on s s 1 n
handing_none s n e none one = record { walk = rewritten_none n e none; hands = rw (← e, drop-length, one) }

-- the next octet becomes x and hands k on
handing_more : {f : List ℕ → List ℕ} {on : List ℕ → ℕ} {s d : List ℕ} {c i : ℕ} (x k : ℕ) → Handing f on s d c i → 0 < i
    → f (get_or s (i - 1) 0 ∷ drop i s) ≡ x ∷ f (drop i s) → on (get_or s (i - 1) 0 ∷ drop i s) ≡ k
    → Handing f on s (set d (i - 1) x) k (i - 1)
handing_more x k w pos step hand = record {
  walk = rewritten_more w.walk pos x step;
  hands = rw (drop_before _ _ pos w.walk.within) (sym hand);
}

-- where nothing is handed on, the octets before stay as they are
module _ {f : List ℕ → List ℕ} {on : List ℕ → ℕ}
    (stays : (o : ℕ) (s : List ℕ) → o < 256 → on s ≡ 0 → (on (o ∷ s) ≡ 0) × (f (o ∷ s) ≡ o ∷ f s)) where
  front_stays : (p s : List ℕ) → Below 256 p → on s ≡ 0 → (on (p ++ s) ≡ 0) × (f (p ++ s) ≡ p ++ f s)
  front_stays [] s h e = (e, refl)
  front_stays (o ∷ p) s h e =
      let k = front_stays p s h.1 e in
      let l = stays o (p ++ s) h.0 k.0 in
      (l.0, l.1 ∙ ap (λ (t : List ℕ). o ∷ t) k.1)

  pub handing_stays : {s d : List ℕ} {c i : ℕ} → Handing f on s d c i → Below 256 s → c ≡ 0 → d ≡ f s
  handing_stays {s} {d} {c} {i} w h e =
      let k = front_stays (take i s) (drop i s) (below_take 256 i s h) (sym w.hands ∙ e) in
      w.walk.octets ∙ sym k.1 ∙ ap f (take-append-drop i s)

pub carry_stays : (o : ℕ) (s : List ℕ) → o < 256 → carried s ≡ 0 → (carried (o ∷ s) ≡ 0) × (after (o ∷ s) ≡ o ∷ after s)
unfolding after carried
carry_stays o s h e = rw e (omega arith, ap (λ (x : ℕ). x ∷ after s) (omega arith))

pub borrow_stays : (o : ℕ) (s : List ℕ) → o < 256 → borrowed s ≡ 0 → (borrowed (o ∷ s) ≡ 0) × (before (o ∷ s) ≡ o ∷ before s)
unfolding before borrowed
borrow_stays o s h e = rw (e, le-ltb o 0 (omega arith)) (refl, ap (λ (x : ℕ). x ∷ before s) (omega arith))

module _ {s d : List ℕ} {c i : ℕ} (h : Below 256 s) (pos : 0 < i) where
  -- the carry is 1 where the sum is less than the carry that came in
  module _ (w : Handing after carried s d c i) (r : ℕ) (e : r ≡ (get_or d (i - 1) 0 + c) % 256) where
    few : c ≤ 1
    few = rw w.hands (carried_most (drop i s) (below_drop 256 i s h))

    sum : (get_or s (i - 1) 0 + c) % 256 ≡ r
    sum = rw (← rewritten_octet w.walk pos) (sym e)

    carrying_more : (k : ℕ) → (get_or s (i - 1) 0 + c) / 256 ≡ k → Handing after carried s (set d (i - 1) r) k (i - 1)
    unfolding after carried
    carrying_more k ek = handing_more r k w pos (rw (← w.hands, sum)) (rw (← w.hands) ek)

    pub carry_one : r < c → Handing after carried s (set d (i - 1) r) 1 (i - 1)
    carry_one less = carrying_more 1 (omega (arith, sum, few, below_at 256 s (i - 1) h (omega arith)))

    pub carry_none : c ≤ r → Handing after carried s (set d (i - 1) r) 0 (i - 1)
    carry_none more = carrying_more 0 (omega (arith, sum, few, below_at 256 s (i - 1) h (omega arith)))

  -- one is borrowed where the octet is less than what was borrowed from it
  module _ (w : Handing before borrowed s d c i) (r : ℕ) (low : r < 256) (e : (r + c) % 256 ≡ get_or d (i - 1) 0) where
    rest : (get_or s (i - 1) 0 + 256 - c) % 256 ≡ r
    rest =
        let few : c ≤ 1 = rw w.hands (borrowed_most (drop i s)) in
        let o : (r + c) % 256 ≡ get_or s (i - 1) 0 = e ∙ rewritten_octet w.walk pos in
        omega (arith, below_at 256 s (i - 1) h (omega arith))

    borrowing_more : (k : ℕ) → cond (ltb (get_or s (i - 1) 0) c) 1 0 ≡ k → Handing before borrowed s (set d (i - 1) r) k (i - 1)
    unfolding before borrowed
    borrowing_more k ek = handing_more r k w pos (rw (← w.hands, rest)) (rw (← w.hands) ek)

    pub borrow_one : get_or d (i - 1) 0 < c → Handing before borrowed s (set d (i - 1) r) 1 (i - 1)
    borrow_one less = borrowing_more 1 (rw (← rewritten_octet w.walk pos, lt-ltb _ c less))

    pub borrow_none : c ≤ get_or d (i - 1) 0 → Handing before borrowed s (set d (i - 1) r) 0 (i - 1)
    borrow_none more = borrowing_more 0 (rw (← rewritten_octet w.walk pos, le-ltb _ c more))
