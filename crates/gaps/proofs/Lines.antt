-- The lines of the checks 1 to 6, seen from their result: where it is an answer, each test fails (`checks_answered`).
use mathlib.Core.Path.{◌≡◌, refl}
use mathlib.Core.List.{List}
use mathlib.Core.Bool.{Bool, true, false, not, ◌||◌, true≢false}
use Prim.Native.Nat.{ℕ, ◌+◌}
use borrow.Author.Tests.{ltb-false, not-false}
use lib.Dec.{ltb}
use lib.ListN.{length}
use Rattle.facts.proofs.Booleans.{neither_true}
use Rattle.space.specs.Octets.{Octets}
use Rattle.name.specs.Wire.{Reading}
use Rattle.std.specs.Prelude.{Ok, Err}
use Rattle.name.specs.Wire.{reading_of}
use Rattle.name.specs.Answer.{Result, answer, refuse_if, refuse_broken}
use Rattle.checks.specs.Under.{is_under}
use Rattle.checks.specs.Checks.{checks}
use Rattle.neighbour.specs.Nearest.{Question}

module _ {A : Type 0} {a : A} where
  pub if_answered : (t : Bool) (n : ℕ) (next : Result A) → refuse_if t n next ≡ answer a → (t ≡ false) × (next ≡ answer a)
  if_answered true n next e = absurd (true≢false (cc))
  if_answered false n next e = (refl, e)

  broken_answered : (r : Reading) (n : ℕ) (next : Result A) → refuse_broken r n next ≡ answer a → (r ≡ Ok tt) × (next ≡ answer a)
  broken_answered (Ok _) n next e = (refl, e)
  broken_answered (Err f) n next e = absurd (true≢false (cc))

  pub checks_answered : (apex : List ℕ) (limit : ℕ) (name : List ℕ) (next : Result A) → Octets apex → Octets name
      → checks apex limit name next ≡ answer a → Question apex limit name × (next ≡ answer a)
  checks_answered apex limit name next o p e =
      let one = if_answered (ltb limit 1 || ltb 255 limit) 1 _ e in
      let two = broken_answered (reading_of apex) 2 _ one.1 in
      let three = if_answered (ltb limit (length apex + 2)) 3 _ two.1 in
      let four = broken_answered (reading_of name) 4 _ three.1 in
      let five = if_answered (ltb limit (length name)) 5 _ four.1 in
      let six = if_answered (not (is_under apex name)) 6 next five.1 in
      let l = neither_true (ltb limit 1) (ltb 255 limit) one.0 in (
        record {
          some = ltb-false limit 1 l.0;
          most = ltb-false 255 limit l.1;
          apex_formed = record { octets = o; whole = two.0 };
          apex_fits = ltb-false limit (length apex + 2) three.0;
          name_formed = record { octets = p; whole = four.0 };
          name_fits = ltb-false limit (length name) five.0;
          under = not-false (is_under apex name) six.0;
        },
        six.1,
      )
