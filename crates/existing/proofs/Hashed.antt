-- Between the hash before and the hash after lies the hash alone, as the demand on hashes says, so none of the hashes that it is not among.
use mathlib.Core.Path.{◌≡◌, refl}
use mathlib.Core.List.{List}
use Prim.Native.Nat.{ℕ}
use Rattle.facts.proofs.Booleans.{never_true}
use Rattle.hash.specs.Ring.{after, before}
use Rattle.hash.specs.Between.{lies_between}
use Rattle.demands.specs.Hashes.{IsHash}
use Rattle.demands.proofs.HashesHold.{hashes}
use Rattle.existing.specs.Hashed.{Hashed}

pub hashed : (hash : List ℕ) (all : List (List ℕ)) → IsHash hash → Hashed hash all
hashed hash all h =
    record {
      own = (hashes.lies_alone hash hash h h).1 refl;
      none_between = λ f other m g.
          never_true (lies_between (before hash) other (after hash)) (λ t.
          let e : other ≡ hash = (hashes.lies_alone hash other h g).0 t in f (rw e at m));
    }
