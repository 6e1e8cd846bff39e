-- The cases of what a comparison answers, and that its number and values determine it.
use mathlib.Core.Path.{◌≡◌, sym, ap}
use mathlib.Core.Bool.{true≢false}
use mathlib.Core.List.{List}
use Prim.Native.Nat.{ℕ}
use lib.IntN.{ℤ}
use Rattle.name.specs.declared.Fault.{Fault}
use Rattle.std.specs.Prelude.{Ok, Err, Result as Outcome}
use Rattle.name.specs.Wire.{reading_of}
use Rattle.name.specs.Answer.{answer, refusal, fault_values, numbered}
use Rattle.name.specs.declared.Refusal.{Refusal}
use Rattle.name.proofs.Numbers.{numbered_injective}
use Rattle.order.specs.Order.{folded_labels}
use Rattle.order.specs.Compare.{number_of, compare_of, said}

module _ (s t : List ℕ) where
  pub first_broken : (f : Fault) → reading_of s ≡ Err f → refusal 4 (fault_values f) ≡ compare_of s t
  first_broken f e = rw e

  pub second_broken : (f : Fault) → reading_of s ≡ Ok tt → reading_of t ≡ Err f → refusal 11 (fault_values f) ≡ compare_of s t
  second_broken f e d = rw (e, d)

  pub both_whole : (z : ℤ) → reading_of s ≡ Ok tt → reading_of t ≡ Ok tt → z ≡ number_of (folded_labels s) (folded_labels t)
      → answer z ≡ compare_of s t
  both_whole z e d ez = rw (e, d) (ap answer ez)

-- ---- what is said determines the answer

number_refused : (z : ℤ) (w : Refusal) → answer z ≡ numbered w → ⊥
number_refused z w e = true≢false (cc)

pub said_injective : (c d : Outcome ℤ Refusal) → said c ≡ said d → c ≡ d
said_injective (Ok z) (Ok y) e = cc
said_injective (Ok z) (Err w) e = absurd (number_refused z w e)
said_injective (Err v) (Ok y) e = absurd (number_refused y v (sym e))
said_injective (Err v) (Err w) e = let o : v ≡ w = numbered_injective v w e in cc
