-- How the promise of reading is met: by 14 at a place, by a name without room, by a name that is written.
use mathlib.Core.Path.{◌≡◌, refl, sym, ap}
use mathlib.Core.List.{List}
use Prim.Native.Nat.{ℕ, ◌≤◌, ◌<◌}
use native.Mathlib.Omega.{arith}
use borrow.Author.Tests.{le-leb}
use lib.ListN.{length, take, drop}
use lib.Seq.{length-take-le}
use Rattle.name.specs.Answer.{answer, space_after}
use Rattle.name.specs.Reader.{stops}
use Rattle.name.proofs.Answers.{fills_refusal, fills_no_room, fills_answer}
use Rattle.std.specs.Prelude.{Ok, Err}
use Rattle.text.specs.declared.TextRefusal.TheVariants.{NoRoom, NotAText}
use Rattle.text.specs.ReadText.{read_text, name_read}
use Rattle.fromtext.specs.Private.Parse.{Parses}
use Rattle.text.specs.Reads.{Reads}

module _ (t : List ℕ) (at : ℕ) (before : List ℕ) where
  pub reads_stops : {p : ℕ} → read_text (drop at t) ≡ stops p → Reads t at before (record { outcome = Err (NotAText p); at = at }) before
  reads_stops e = record { fills = fills_refusal (ap name_read e); place = refl }

  module _ (octets : List ℕ) {n : ℕ} (e : Parses (drop at t) octets (Ok n)) where
    size : length (take n octets) ≡ n
    size = length-take-le n octets (omega (arith, e))

    pub reads_no_room : length before < n → Reads t at before (record { outcome = Err NoRoom; at = at }) before
    reads_no_room small = record { fills = fills_no_room (ap name_read e.0) (omega (arith, size)); place = refl }

    pub reads_answer : n ≤ length before → {after : List ℕ} → after ≡ space_after (answer (take n octets)) before
        → Reads t at before (record { outcome = Ok n; at = length t }) after
    reads_answer room i =
        let l = le-leb (length (take n octets)) (length before) (omega (arith, size)) in
        record { fills = fills_answer (ap name_read e.0) (sym size) (omega (arith, size)) (rw l at i); place = refl }
