-- Request Seven holds: its statements are proved in crate encloser, and the lines of the wildcard are its definition's.
use mathlib.Core.Bool.{Bool}
use mathlib.Core.List.{List, []}
use Prim.Native.Nat.{ℕ, ◌<◌}
use native.Mathlib.Omega.{arith}
use borrow.Author.Tests.{ltb-true, ltb-false}
use lib.Dec.{ltb}
use lib.ListN.{length}
use Rattle.name.specs.Wire.{reading_of}
use Rattle.name.specs.Answer.{answer, refusal, fitted, refuse_if}
use Rattle.name.proofs.Small.{fitted_broken}
use Rattle.neighbour.proofs.SmallAnswers.{fitted_if}
use Rattle.encloser.specs.Wildcard.{wildcard_name, wildcard_of}
use Rattle.encloser.proofs.Closest.{closest_enclosers}
use Rattle.encloser.proofs.Wildcards.{wildcard_names}
use Rattle.demands.specs.Lines.{Line, RoomLine}
use Rattle.demands.specs.Enclosers.{WildcardLines, Enclosers}
use Rattle.demands.proofs.Lines.{if_line, fault_line, room_line}

wildcard_lines : (encloser : List ℕ) (room : ℕ)
    → WildcardLines (fitted room (wildcard_of encloser)) encloser room (wildcard_name encloser)
wildcard_lines encloser room =
    let w : List ℕ = wildcard_name encloser in
    let long : Bool = ltb 255 (length w) in
    rw (fitted_broken (reading_of encloser) 4 room (refuse_if long 5 (answer w)))
    (fault_line (fitted room (refuse_if long 5 (answer w))) (λ r. Line r (refusal 5 []) (255 < length w) (RoomLine r room w))
    (rw (fitted_if long 5 room (answer w))
    (if_line (fitted room (answer w)) (λ r. RoomLine r room w) (room_line room w) long 5 (255 < length w)
    (ltb-true 255 (length w)) (λ e h. omega (arith, ltb-false 255 (length w) e, h))))
    encloser 4)

pub enclosers : Enclosers
enclosers = record { closest = closest_enclosers; wildcards = wildcard_names; wildcard_lines = wildcard_lines }
