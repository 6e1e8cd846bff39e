-- Octets that go through an array of 16, where the first of them stands last.
use mathlib.Core.Path.{◌≡◌, ◌∙◌}
use mathlib.Core.List.{List}
use Prim.Native.Nat.{ℕ, ◌+◌, ◌-◌, ◌≤◌, ◌<◌}
use native.Mathlib.Omega.{arith}
use borrow.Author.Count.{below_more}
use lib.ListN.{length, set, get_or, length-set}
use lib.Seq.{get_or-set_same, get_or-set_other}

-- the first n of the octets stand in the array from its end
pub record Taken (octets : ℕ → ℕ) (t : List ℕ) (n : ℕ) : Type 0 where
  pub size : length t ≡ 16
  pub octet : (k : ℕ) → k < n → get_or t (15 - k) 0 ≡ octets k

pub taken_none : (octets : ℕ → ℕ) (t : List ℕ) → length t ≡ 16 → Taken octets t 0
taken_none octets t e = record { size = e; octet = λ k h. absurd (omega arith) }

pub taken_more : {octets : ℕ → ℕ} {t : List ℕ} {n : ℕ} → Taken octets t n → n < 16 → (x : ℕ) → x ≡ octets n
    → Taken octets (set t (15 - n) x) (n + 1)
taken_more {octets} {t} {n} c h x ex =
    record {
      size = length-set t (15 - n) x ∙ c.size;
      octet =
          below_more (λ (k : ℕ). get_or (set t (15 - n) x) (15 - k) 0 ≡ octets k) n
          (λ k g. get_or-set_other t (15 - n) (15 - k) x 0 (omega arith) ∙ c.octet k g)
          (get_or-set_same t (15 - n) x 0 (omega arith) ∙ ex);
    }

pub taken_fewer : {octets : ℕ → ℕ} {t : List ℕ} {n m : ℕ} → Taken octets t n → m ≤ n → Taken octets t m
taken_fewer c h = record { size = c.size; octet = λ k g. c.octet k (omega arith) }
