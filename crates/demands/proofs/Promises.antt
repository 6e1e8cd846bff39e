-- How an operation's promise reads.
use mathlib.Core.Path.{◌≡◌, ◌∙◌}
use mathlib.Core.List.{List}
use Prim.Native.Nat.{ℕ, ◌≤◌, ◌<◌}
use borrow.Author.Tests.{le-leb, lt-leb}
use lib.ListN.{length}
use Rattle.std.specs.Prelude.{Result as Outcome, Ok, Err}
use Rattle.name.specs.declared.Refusal.{Refusal}
use Rattle.name.specs.declared.Refusal.TheVariants.{NoRoom}
use Rattle.space.specs.Octets.{overlay}
use Rattle.name.specs.Answer.{answer, numbered, said, Fills}
use Rattle.name.proofs.Numbers.{said_injective}
use Rattle.demands.specs.Promise.{Promise}

given_room : (a before after : List ℕ) (o : Outcome ℕ Refusal) → Fills (answer a) before (said o) after → length a ≤ length before
    → (o ≡ Ok (length a)) × (after ≡ overlay a before)
given_room a before after o f h =
    let t = le-leb (length a) (length before) h in
    (said_injective o (Ok (length a)) (f.says ∙ rw t), f.space ∙ rw t)

no_room : (a before after : List ℕ) (o : Outcome ℕ Refusal) → Fills (answer a) before (said o) after → length before < length a
    → (o ≡ Err NoRoom) × (after ≡ before)
no_room a before after o f h =
    let t = lt-leb (length a) (length before) h in
    (said_injective o (Err NoRoom) (f.says ∙ rw t), f.space ∙ rw t)

refused : (w : Refusal) (before after : List ℕ) (o : Outcome ℕ Refusal) → Fills (numbered w) before (said o) after
    → (o ≡ Err w) × (after ≡ before)
refused w before after o f =
    (said_injective o (Err w) f.says, f.space)

pub promise : Promise
promise = record { given_room = given_room; no_room = no_room; refused = refused }
