-- The halving takes as many looks as the number of indexes has bits: with k looks allowed it is the same as with any more where fewer than
-- 2 ^ k indexes are left (`halve_same`). And where the owners up to an index are not after the query and those from there on are, it finds
-- the last before it (`halve_finds`).
use mathlib.Core.Path.{◌≡◌, refl, sym, ap, ◌∙◌}
use mathlib.Core.List.{[], ◌∷◌}
use mathlib.Core.Bool.{Bool, true, false, cond, true≢false}
use Prim.Native.Nat.{ℕ, zero, suc, ◌+◌, ◌-◌, ◌/◌, ◌^◌, ◌≤◌, ◌<◌}
use native.Mathlib.Numerals.{add-one}
use native.Mathlib.Omega.{arith}
use borrow.Author.Tests.{lt-ltb, le-ltb, ltb-true, ltb-false}
use lib.Dec.{ltb}
use lib.Pow.{pow_pos}
use Rattle.name.specs.Answer.{Result, answer, refusal}
use Rattle.owners.specs.declared.Look.{Look}
use Rattle.owners.specs.declared.Look.TheVariants.{NotAfter, After, Broken}
use Rattle.owners.specs.declared.Found.{Found}
use Rattle.owners.specs.declared.Found.TheVariants.{Owner, NoOwner}
use Rattle.owners.specs.Halving.{looks, looked_again, go_on, halve}
use Rattle.owners.specs.Private.Looks.{found_below}
-- passed on, so that a wrong definition is refused at an example before any law of it is tried
pub use Rattle.owners.proofs.Examples.{finds, find_refused}

-- the index that is looked at
abbrev pub middle : ℕ → ℕ → ℕ
middle low high = (low + high) / 2

looks_below : (low n : ℕ) → looks (found_below low n) ≡ n
looks_below zero n = refl
looks_below (suc i) n = refl

again_below : (low n : ℕ) → looked_again (found_below low n) ≡ found_below low (n + 1)
again_below zero n = refl
again_below (suc i) n = refl

looks_again : (f : Found) → looks (looked_again f) ≡ looks f + 1
looks_again (Owner i n) = refl
looks_again (NoOwner n) = refl

-- a number is below its power of 2
pub below_power : (n : ℕ) → n < 2 ^ n
below_power zero = omega arith
below_power (suc n) = omega (arith, below_power n)

module _ (look : ℕ → Look) where
  -- ---- how many looks are enough

  pub halve_none : (n low high : ℕ) (f : Found) → high ≤ low → halve look n low high f ≡ answer f
  unfolding halve
  halve_none zero low high f h = refl
  halve_none (suc n) low high f h = rw (le-ltb low high h)

  pub halve_same : (m n low high : ℕ) (f : Found) → high - low < 2 ^ m → high - low < 2 ^ n
      → halve look m low high f ≡ halve look n low high f
  unfolding halve
  halve_same zero n low high f a b = sym (halve_none n low high f (omega arith))
  halve_same (suc m) zero low high f a b = halve_none (suc m) low high f (omega arith)
  halve_same (suc m) (suc n) low high f a b =
      let i : ℕ = middle low high in
      rw (
        halve_same m n (i + 1) high (Owner i (looks f + 1)) (omega (arith, pow_pos m)) (omega (arith, pow_pos n)),
        halve_same m n low i (looked_again f) (omega (arith, pow_pos m)) (omega (arith, pow_pos n)),
      )

  -- at most n looks are counted
  pub halve_looks : (n low high : ℕ) (f g : Found) → halve look n low high f ≡ answer g → looks g ≤ looks f + n
  unfolding halve
  halve_looks zero low high f g e = let d : f ≡ g = cc in omega (arith, ap looks d)
  halve_looks (suc n) low high f g e =
      go (ltb low high) (look (middle low high)) e
      (halve_looks n (middle low high + 1) high (Owner (middle low high) (looks f + 1)) g)
      (halve_looks n low (middle low high) (looked_again f) g)
    where
      go : (b : Bool) (l : Look) {above below : Result Found}
          → cond b (go_on l (middle low high) above below) (answer f) ≡ answer g
          → (above ≡ answer g → looks g ≤ looks f + 1 + n) → (below ≡ answer g → looks g ≤ looks (looked_again f) + n)
          → looks g ≤ looks f + suc n
      go true NotAfter d p q = omega (arith, p d)
      go true After d p q = omega (arith, q d, looks_again f)
      go true Broken d p q = absurd (true≢false (cc))
      go false l d p q = let k : f ≡ g = cc in omega (arith, ap looks k)

  -- ---- one look

  module _ (n low high m : ℕ) (h : low < high) where
    abbrev here : Result Found
    here = halve look (suc n) low high (found_below low m)

    pub halve_above : look (middle low high) ≡ NotAfter
        → here ≡ halve look n (middle low high + 1) high (found_below (middle low high + 1) (m + 1))
    unfolding halve
    halve_above e = rw (lt-ltb low high h, e, looks_below low m, add-one (middle low high))

    pub halve_below : look (middle low high) ≡ After → here ≡ halve look n low (middle low high) (found_below low (m + 1))
    unfolding halve
    halve_below e = rw (lt-ltb low high h, e, again_below low m)

    pub halve_broken : look (middle low high) ≡ Broken → here ≡ refusal 16 (middle low high ∷ [])
    unfolding halve
    halve_broken e = rw (lt-ltb low high h, e)

  -- the same, with as many looks allowed as there are indexes left
  module _ (low high m : ℕ) (h : low < high) where
    one_less : high - low ≡ suc (high - low - 1)
    one_less = omega arith

    pub turn_above : look (middle low high) ≡ NotAfter
        → halve look (high - low) low high (found_below low m)
        ≡ halve look (high - (middle low high + 1)) (middle low high + 1) high (found_below (middle low high + 1) (m + 1))
    turn_above e =
        ap (λ (n : ℕ). halve look n low high (found_below low m)) one_less
        ∙ halve_above (high - low - 1) low high m h e
        ∙ halve_same (high - low - 1) (high - (middle low high + 1)) (middle low high + 1) high (found_below (middle low high + 1) (m + 1))
        (omega (arith, below_power (high - low - 1))) (below_power (high - (middle low high + 1)))

    pub turn_below : look (middle low high) ≡ After
        → halve look (high - low) low high (found_below low m)
        ≡ halve look (middle low high - low) low (middle low high) (found_below low (m + 1))
    turn_below e =
        ap (λ (n : ℕ). halve look n low high (found_below low m)) one_less
        ∙ halve_below (high - low - 1) low high m h e
        ∙ halve_same (high - low - 1) (middle low high - low) low (middle low high) (found_below low (m + 1))
        (omega (arith, below_power (high - low - 1))) (below_power (middle low high - low))

    pub turn_broken : look (middle low high) ≡ Broken
        → halve look (high - low) low high (found_below low m) ≡ refusal 16 (middle low high ∷ [])
    turn_broken e = ap (λ (n : ℕ). halve look n low high (found_below low m)) one_less ∙ halve_broken (high - low - 1) low high m h e

  -- ---- what is found

  -- the last owner below an index, after some looks
  pub record Finds (end : ℕ) (r : Result Found) : Type 0 where
    pub count : ℕ
    pub is : r ≡ answer (found_below end count)

  ended : (end n low high m : ℕ) → high ≤ low → low ≡ end → Finds end (halve look n low high (found_below low m))
  ended end n low high m h e = record { count = m; is = halve_none n low high (found_below low m) h ∙ rw e }

  module _ (end : ℕ) (before : (i : ℕ) → i < end → look i ≡ NotAfter) where
    pub halve_finds : (n low high m : ℕ) → high - low < 2 ^ n → low ≤ end → end ≤ high
        → ((i : ℕ) → end ≤ i → i < high → look i ≡ After) → Finds end (halve look n low high (found_below low m))
    halve_finds zero low high m w a b behind = ended end zero low high m (omega arith) (omega arith)
    halve_finds (suc n) low high m w a b behind =
        go (ltb low high) refl (ltb (middle low high) end) refl
        (λ p. halve_finds n (middle low high + 1) high (m + 1) (omega (arith, pow_pos n)) p b behind)
        (λ p. halve_finds n low (middle low high) (m + 1) (omega (arith, pow_pos n)) a p (λ i q r. behind i q (omega arith)))
      where
        go : (t : Bool) → ltb low high ≡ t → (u : Bool) → ltb (middle low high) end ≡ u
            → (middle low high + 1 ≤ end → Finds end (halve look n (middle low high + 1) high (found_below (middle low high + 1) (m + 1))))
            → (end ≤ middle low high → Finds end (halve look n low (middle low high) (found_below low (m + 1))))
            → Finds end (halve look (suc n) low high (found_below low m))
        go true et true eu p q =
            let f = p (omega (arith, ltb-true (middle low high) end eu)) in
            record {
              count = f.count;
              is = halve_above n low high m (ltb-true low high et) (before (middle low high) (ltb-true (middle low high) end eu)) ∙ f.is;
            }
        go true et false eu p q =
            let f = q (ltb-false (middle low high) end eu) in
            record {
              count = f.count;
              is = halve_below n low high m (ltb-true low high et)
                  (behind (middle low high) (ltb-false (middle low high) end eu) (omega (arith, ltb-true low high et))) ∙ f.is;
            }
        go false et u eu p q = ended end (suc n) low high m (ltb-false low high et) (omega (arith, ltb-false low high et))
