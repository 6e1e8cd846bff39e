-- Two gaps around names of which neither is under the other. Where they touch, the first member past the one name being the other name, the
-- gap from the first one's owner to the last one's next covers exactly what is at or under either (`joined_covers`), and no end of it is
-- (`joined_owner_outside`, `joined_next_outside`). Where they do not, no end of the one is at or under the other's name (`owner_outside`,
-- `next_outside`), and the owners differ (`owners_differ`).
use mathlib.Core.Path.{◌≡◌, sym, ap, ◌∙◌}
use mathlib.Core.List.{List, [], ◌∷◌, ◌++◌}
use mathlib.Core.Logic.{◌⊎◌, inl, inr, ◌↔◌}
use mathlib.Core.Bool.{Bool}
use Prim.Native.Nat.{ℕ, ◌≤◌}
use native.Mathlib.Omega.{arith}
use lib.ListN.{length, length-append}
use Rattle.name.specs.Labels.{wire}
use Rattle.order.specs.Order.{Before}
use Rattle.order.proofs.Canonical.{before_transitive, before_irreflexive, before_total, before_under}
use Rattle.zone.specs.Zone.{Member, Previous}
use Rattle.zone.proofs.Bridge.{before_tail, before_untail}
use Rattle.covered.specs.Subtree.{AtOrUnder, Past, NextPast}
use Rattle.covered.specs.Covers.{Covers}
use Rattle.covered.proofs.Subtree.{outside_beyond, under_parent}
use Rattle.covered.proofs.Covered.{Ends, before_all_under, ends_sooner, none_past, under_ends, previous_other, gap_covers}

module _ (allowed : ℕ → Bool) (limit depth : ℕ) (apex : List (List ℕ)) (fits : length (wire apex) ≤ limit) where
  -- a member that is not the apex, its predecessor, and the first member past it
  pub record Around (ls ps ms : List (List ℕ)) : Type 0 where
    pub member : Member allowed limit depth apex ls
    pub other : 1 ≤ length ls
    pub previous : Previous allowed limit depth apex ls ps
    pub next : NextPast allowed limit depth apex ls ms

  -- ---- the ends of one gap

  module _ {ls ps ms : List (List ℕ)} (g : Around ls ps ms) where
    owner_before : Before ps ls
    owner_before = before_untail ps ls apex (previous_other allowed limit depth apex fits ls ps g.other g.previous).0

    covers_under : (us : List (List ℕ)) → Member allowed limit depth apex us → Covers allowed limit depth apex ps ms us ↔ AtOrUnder ls us
    covers_under us u = gap_covers allowed limit depth apex fits ls ps g.other g.previous ms g.next us u

    none_between : (us : List (List ℕ)) → Member allowed limit depth apex us → Before ps us → Before us ls → ⊥
    none_between us u a b =
        (previous_other allowed limit depth apex fits ls ps g.other g.previous).1 us u (before_tail ps us apex a)
        (before_tail us ls apex b)

    -- the first member past ls is after it, unless it is the apex
    next_after : 1 ≤ length ms → Before ls ms
    next_after h = go (under_ends allowed limit depth apex ls ms g.next [])
      where
        go : Ends allowed limit depth apex ls ms → Before ls ms
        go (inl b) = before_untail ls ms apex b
        go (inr e) = absurd (omega (arith, ap length e))

    pub own_owner_outside : AtOrUnder ls ps → ⊥
    own_owner_outside (vs, e) = before_irreflexive ps (rw (← e) at (before_all_under ps vs ls owner_before))

    pub own_next_outside : AtOrUnder ls ms → ⊥
    own_next_outside (vs, e) = go (under_ends allowed limit depth apex ls ms g.next vs)
      where
        go : Ends allowed limit depth apex (vs ++ ls) ms → ⊥
        go (inl b) = before_irreflexive ms (rw (← e) at (before_untail (vs ++ ls) ms apex b))
        go (inr f) = omega (arith, ap length (sym e ∙ f), length-append vs ls, g.other)

  -- ---- two names, neither of which is under the other

  module _ {ls ps ms ws qs ns : List (List ℕ)} (g : Around ls ps ms) (k : Around ws qs ns) (off : AtOrUnder ls ws → ⊥)
      (back : AtOrUnder ws ls → ⊥) where
    pub owners_differ : ps ≡ qs → ⊥
    owners_differ e = go (before_total ls ws)
      where
        go : Before ls ws ⊎ ((ls ≡ ws) ⊎ Before ws ls) → ⊥
        go (inl h) = none_between k ls g.member (rw e at (owner_before g)) h
        go (inr (inl f)) = off ([], sym f)
        go (inr (inr h)) = none_between g ws k.member (rw (← e) at (owner_before k)) h

    -- ---- where they do not touch

    pub next_outside : (ms ≡ ws → ⊥) → AtOrUnder ws ms → ⊥
    next_outside apart ([], e) = apart e
    next_outside apart (v ∷ vs, e) = go (before_total ls ws)
      where
        some : 1 ≤ length ms
        some = omega (arith, ap length e, length-append (v ∷ vs) ws)

        go : Before ls ws ⊎ ((ls ≡ ws) ⊎ Before ws ls) → ⊥
        go (inl h) =
            none_past allowed limit depth apex ls ms g.next ws k.member (record { after = before_tail ls ws apex h; outside = off })
            (inl (before_tail ws ms apex (rw e (before_under (v ∷ vs) ws (omega arith)))))
        go (inr (inl f)) = off ([], sym f)
        go (inr (inr h)) =
            before_irreflexive ms
            (before_transitive ms ls ms (rw (← e) at (outside_beyond ws ls h back (v ∷ vs))) (next_after g some))

    pub owner_outside : (ns ≡ ls → ⊥) → AtOrUnder ws ps → ⊥
    owner_outside apart (vs, e) = go (under_ends allowed limit depth apex ws ns k.next vs) (before_total ns ls)
      where
        past : Past allowed limit depth apex ws ls
        past = record { after = before_tail ws ls apex (under_parent vs ws ls (rw e at (owner_before g))); outside = back }

        go : Ends allowed limit depth apex (vs ++ ws) ns → Before ns ls ⊎ ((ns ≡ ls) ⊎ Before ls ns) → ⊥
        go (inr f) d = none_past allowed limit depth apex ws ns k.next ls g.member past (inr f)
        go (inl b) (inl h) = none_between g ns k.next.member (rw (← e) at (before_untail (vs ++ ws) ns apex b)) h
        go (inl b) (inr (inl f)) = apart f
        go (inl b) (inr (inr h)) =
            none_past allowed limit depth apex ws ns k.next ls g.member past (inl (before_tail ls ns apex h))

    -- ---- where the first member past ls is ws

    module _ (touch : ms ≡ ws) where
      first : Before ls ws
      first = rw touch at (next_after g (rw touch k.other))

      owner_first : Before ps ws
      owner_first = before_transitive ps ls ws (owner_before g) first

      pub joined_covers : (us : List (List ℕ)) → Member allowed limit depth apex us
          → Covers allowed limit depth apex ps ns us ↔ (AtOrUnder ls us ⊎ AtOrUnder ws us)
      joined_covers us u = (λ c. covered c (before_total us ws), covers)
        where
          covered : Covers allowed limit depth apex ps ns us → Before us ws ⊎ ((us ≡ ws) ⊎ Before ws us)
              → AtOrUnder ls us ⊎ AtOrUnder ws us
          covered c (inl h) = inl ((covers_under g us u).0 (c.0, inl (rw touch (before_tail us ws apex h))))
          covered c (inr (inl e)) = inr ([], e)
          covered c (inr (inr h)) =
              inr ((covers_under k us u).0 (before_tail qs us apex (before_transitive qs ws us (owner_before k) h), c.1))

          sooner : Ends allowed limit depth apex us ms → Before us ws
          sooner (inl b) = rw touch at (before_untail us ms apex b)
          sooner (inr e) = absurd (omega (arith, ap length (sym touch ∙ e), k.other))

          covers : AtOrUnder ls us ⊎ AtOrUnder ws us → Covers allowed limit depth apex ps ns us
          covers (inl a) =
              let c = (covers_under g us u).1 a in
              (c.0, ends_sooner allowed limit depth apex us ws ns (sooner c.1) (under_ends allowed limit depth apex ws ns k.next []))
          covers (inr a) =
              (before_tail ps us apex (rw a.1 (before_all_under ps a.0 ws owner_first)), ((covers_under k us u).1 a).1)

      pub joined_owner_outside : AtOrUnder ws ps → ⊥
      joined_owner_outside (vs, e) = before_irreflexive ps (rw (← e) at (before_all_under ps vs ws owner_first))

      pub joined_next_outside : AtOrUnder ls ns → ⊥
      joined_next_outside (vs, e) = go (under_ends allowed limit depth apex ws ns k.next [])
        where
          go : Ends allowed limit depth apex ws ns → ⊥
          go (inl b) =
              before_irreflexive ws
              (before_transitive ws (vs ++ ls) ws (rw e at (before_untail ws ns apex b)) (outside_beyond ls ws first off vs))
          go (inr f) = omega (arith, ap length (sym e ∙ f), length-append vs ls, g.other)
