-- `qorshudan_compare` meets its contract: the number lies between -127 and 127, so 128 more fits; a refusal is packed as such.
use native.Mathlib.Omega.{arith}
use mathlib.Core.Path.{sym, ap, ◌∙◌}
use Prim.Native.Nat.{ℕ, ◌+◌, ◌*◌, ◌^◌, ◌≤◌}
use lib.IntN.{nat_abs}
use Rattle.qorshudan.specs.Packed.{shifted}
use Rattle.covering.proofs.Numbers.{number_read, answered_range}
use Rattle.qorshudan.proofs.Shifting.{shifted_small, compare_small}
use Rattle.qorshudan.proofs.qorshudan_compare.Goals as goal

pub shift-requires : goal.shift-requires
shift-requires c = let in_range : nat_abs c.in-Ok.number ≤ 127 = let a = c.args in
    answered_range a.first.now a.second.now _ (rw c.in-Ok.is at c.compare-found.ensures) in
    let h = in_range in rw (number_read _ h) h

pub pack-requires : goal.pack-requires
pack-requires c = let in_range : nat_abs c.in-Ok.number ≤ 127 = let a = c.args in
    answered_range a.first.now a.second.now _ (rw c.in-Ok.is at c.compare-found.ensures) in
    let h = in_range in (
      omega arith,
      omega arith,
      rw (c.shift.ensures, number_read _ h) (omega (arith, shifted_small c.in-Ok.number h)),
    )

pub pack_refusal-requires : goal.pack_refusal-requires
pack_refusal-requires c = let a = c.args in
    let refused = rw c.in-Err.is at c.compare-found.ensures in
    omega (arith, rw (sym refused) at (compare_small a.first.now a.second.now))

pub returns-in-Ok : goal.returns-in-Ok
returns-in-Ok c = let in_range : nat_abs c.in-Ok.number ≤ 127 = let a = c.args in
    answered_range a.first.now a.second.now _ (rw c.in-Ok.is at c.compare-found.ensures) in
    rw (sym (rw c.in-Ok.is at c.compare-found.ensures))
    (c.pack.ensures ∙ ap (λ (v : ℕ). 0 + 2 ^ 8 * 0 + 2 ^ 16 * v)
    (c.shift.ensures ∙ ap shifted (number_read c.in-Ok.number in_range)))

pub returns-in-Err : goal.returns-in-Err
returns-in-Err c = rw (sym (rw c.in-Err.is at c.compare-found.ensures)) c.pack_refusal.ensures
