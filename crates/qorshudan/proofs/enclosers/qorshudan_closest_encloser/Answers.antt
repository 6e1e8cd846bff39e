-- `qorshudan_closest_encloser` meets its contract: an encloser has at most 255 octets, so 256 more tells of the other name.
use mathlib.Core.Path.{sym, ap, ◌∙◌}
use Prim.Native.Nat.{◌^◌, ◌<◌}
use native.Mathlib.Omega.{arith}
use Rattle.name.specs.Answer.{value}
use Rattle.encloser.specs.declared.Encloser.{Encloser}
use Rattle.encloser.specs.declared.Encloser.TheVariants.{OfOwner, OfNext}
use Rattle.qorshudan.specs.Packed.{packed, placed}
use Rattle.qorshudan.proofs.PackedEnclosers.{encloser_short, placed_fits}
use Rattle.qorshudan.proofs.enclosers.qorshudan_closest_encloser.Goals as goal

pub pack-requires : goal.pack-requires
pack-requires c = (
  omega arith,
  omega arith,
  placed_fits (OfOwner _) (encloser_short _ _ _ (OfOwner _) (sym c.in-OfOwner.is ∙ c.encloser_of-found.ensures)),
)

pub overflow_add-n : goal.overflow_add-n
overflow_add-n c = let more : value (placed (OfNext c.in-OfNext.n)) < 2 ^ 32 =
    placed_fits (OfNext _) (encloser_short _ _ _ (OfNext _) (sym c.in-OfNext.is ∙ c.encloser_of-found.ensures)) in
    omega (arith, more)

pub pack-requires-in-OfNext : goal.pack-requires-in-OfNext
pack-requires-in-OfNext c = let more : value (placed (OfNext c.in-OfNext.n)) < 2 ^ 32 =
    placed_fits (OfNext _) (encloser_short _ _ _ (OfNext _) (sym c.in-OfNext.is ∙ c.encloser_of-found.ensures)) in
    (omega arith, omega arith, omega (arith, more))

pub returns-in-OfOwner : goal.returns-in-OfOwner
returns-in-OfOwner c = c.pack.ensures ∙ ap (λ (e : Encloser). packed (placed e)) (sym c.in-OfOwner.is ∙ c.encloser_of-found.ensures)

pub returns-in-OfNext : goal.returns-in-OfNext
returns-in-OfNext c = c.pack-in-OfNext.ensures ∙ ap (λ (e : Encloser). packed (placed e)) (sym c.in-OfNext.is ∙ c.encloser_of-found.ensures)
