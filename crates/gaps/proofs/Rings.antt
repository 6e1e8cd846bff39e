-- A gap between two names of a zone covers a name of it by octets exactly where it does by labels (`covers_labels`): the next name is after
-- the owner, or it is the apex, which nothing of the zone is before.
use mathlib.Core.Path.{◌≡◌}
use mathlib.Core.List.{List, [], ◌++◌}
use mathlib.Core.Bool.{Bool, true}
use mathlib.Core.Logic.{◌⊎◌, inl, inr, ◌↔◌}
use Prim.Native.Nat.{ℕ}
use Rattle.std.specs.Prelude.{Ok}
use Rattle.name.specs.Wire.{reading_of}
use Rattle.order.specs.Order.{Before, SortsBefore, folded_labels}
use Rattle.zone.proofs.Bridge.{before_untail}
use Rattle.covered.specs.Covers.{Covers}
use Rattle.covered.proofs.Covered.{Ends, apex_first}
use Rattle.covering.specs.Between.{covers_of}
use Rattle.covering.specs.Denials.{Covered}
use Rattle.covering.proofs.Between.{covers_between}

-- names by their labels above an apex
pub record Above (apex : List (List ℕ)) (name : List ℕ) (ls : List (List ℕ)) : Type 0 where
  pub whole : reading_of name ≡ Ok tt
  pub labels : folded_labels name ≡ ls ++ apex

module _ (allowed : ℕ → Bool) (limit : ℕ) (apex : List (List ℕ)) where
  -- nothing is before the apex
  not_before : (ls ms : List (List ℕ)) → ms ≡ [] → Before (ls ++ apex) (ms ++ apex) → ⊥
  not_before ls ms e h = apex_first ls (rw e at (before_untail ls ms apex h))

  module _ {owner next u : List ℕ} {ps ms us : List (List ℕ)} (o : Above apex owner ps) (n : Above apex next ms) (k : Above apex u us)
      (ends : Ends allowed limit 127 apex ps ms) where
    sorted : {s t : List ℕ} {ls vs : List (List ℕ)} → Above apex s ls → Above apex t vs → SortsBefore s t → Before (ls ++ apex) (vs ++ apex)
    sorted a b h = rw (a.labels, b.labels) at h

    sorts : {s t : List ℕ} {ls vs : List (List ℕ)} → Above apex s ls → Above apex t vs → Before (ls ++ apex) (vs ++ apex) → SortsBefore s t
    sorts a b h = rw (a.labels, b.labels) h

    to_labels : Covered owner next u → Covers allowed limit 127 apex ps ms us
    to_labels c = go ends
      where
        side : ms ≡ [] → SortsBefore owner u ⊎ SortsBefore u next → Covers allowed limit 127 apex ps ms us
        side e (inl h) = (sorted o k h, inr e)
        side e (inr h) = absurd (not_before us ms e (sorted k n h))

        go : Ends allowed limit 127 apex ps ms → Covers allowed limit 127 apex ps ms us
        go (inl b) = let r = c.between (sorts o n b) in (sorted o k r.0, inl (sorted k n r.1))
        go (inr e) = side e (c.around (λ h. not_before ps ms e (sorted o n h)))

    of_labels : Covers allowed limit 127 apex ps ms us → Covered owner next u
    of_labels c =
        record {
          whole_owner = o.whole;
          whole_next = n.whole;
          whole_name = k.whole;
          between = λ h. (sorts o k c.0, before_next h c.1);
          around = λ f. inl (sorts o k c.0);
        }
      where
        before_next : SortsBefore owner next → Ends allowed limit 127 apex us ms → SortsBefore u next
        before_next h (inl b) = sorts k n b
        before_next h (inr e) = absurd (not_before ps ms e (sorted o n h))

    pub covers_labels : (covers_of owner next u ≡ true) ↔ Covers allowed limit 127 apex ps ms us
    covers_labels =
        (λ t. to_labels ((covers_between owner next u).0 t), λ c. (covers_between owner next u).1 (of_labels c))
