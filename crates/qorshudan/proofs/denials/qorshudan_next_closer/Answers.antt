-- `qorshudan_next_closer` meets its contract: the next closer name has at most 255 octets, so packing its length loses nothing.
use mathlib.Core.Path.{ap, ◌∙◌}
use mathlib.Core.List.{List}
use Prim.Native.Nat.{ℕ}
use native.Mathlib.Omega.{arith}
use lib.ListN.{length}
use Rattle.name.specs.Answer.{answer}
use Rattle.qorshudan.specs.Packed.{packed}
use Rattle.qorshudan.proofs.PackedDenials.{closer_short}
use Rattle.qorshudan.proofs.denials.qorshudan_next_closer.Goals as goal

pub pack-requires : goal.pack-requires
pack-requires c = let a = c.args in
    (omega arith, omega arith, omega (arith, ap length c.next_closer-closer.ensures, closer_short a.encloser.now a.query.now))

pub returns : goal.returns
returns c = c.pack.ensures ∙ ap (λ (s : List ℕ). packed (answer (length s))) c.next_closer-closer.ensures
