-- The gap around a name that is not the apex, from its predecessor to the first member past it, covers exactly the members at or under it
-- (`gap_covers`). A gap that ends at its successor covers it alone (`gap_alone`), and one that begins with the name nothing (`gap_empty`).
use mathlib.Core.Path.{◌≡◌}
use mathlib.Core.List.{List, [], ◌∷◌, ◌++◌, reverse}
use mathlib.Core.Logic.{◌⊎◌, inl, inr, ◌↔◌}
use mathlib.Core.Bool.{Bool}
use Prim.Native.Nat.{ℕ, ◌≤◌}
use native.Mathlib.Omega.{arith}
use lib.ListN.{length}
use Rattle.name.specs.Labels.{wire}
use Rattle.order.specs.Order.{FromRight, Before}
use Rattle.order.proofs.Canonical.{before_transitive, before_irreflexive, before_total, before_under}
use Rattle.zone.specs.Zone.{Member, Precedes, NoneBetween, NoneBefore, NoneAfter, Next, Previous}
use Rattle.zone.proofs.Bridge.{before_tail, before_untail}
use Rattle.zone.proofs.Zones.{apex_least}
use Rattle.covered.specs.Subtree.{AtOrUnder, Past, NonePast, NonePastBefore, NextPast}
use Rattle.covered.specs.Covers.{Covers}
use Rattle.covered.proofs.Subtree.{Parent, after_cases, outside_beyond}

-- what is before ls is before all under it
pub before_all_under : (ps vs ls : List (List ℕ)) → Before ps ls → Before ps (vs ++ ls)
before_all_under ps [] ls h = h
before_all_under ps (v ∷ vs) ls h = before_transitive ps ls ((v ∷ vs) ++ ls) h (before_under (v ∷ vs) ls (omega arith))

-- nothing is before the apex
pub apex_first : (ls : List (List ℕ)) → Before ls [] → ⊥
apex_first ls h = go (reverse ls) h
  where
    go : (rs : List (List ℕ)) → FromRight rs [] → ⊥
    go [] h = h
    go (r ∷ rs) h = h

module _ (allowed : ℕ → Bool) (limit depth : ℕ) (apex : List (List ℕ)) where
  abbrev In : List (List ℕ) → Type 0
  In us = Member allowed limit depth apex us

  abbrev Sorts : List (List ℕ) → List (List ℕ) → Type 0
  Sorts ls ms = Precedes allowed limit depth apex ls ms

  -- ms is where a gap ends that us lies in: after it, or the apex
  abbrev pub Ends : List (List ℕ) → List (List ℕ) → Type 0
  Ends us ms = Sorts us ms ⊎ (ms ≡ [])

  -- what ends after a name ends after one that is not later
  pub ends_sooner : (us vs ms : List (List ℕ)) → Before us vs → Ends vs ms → Ends us ms
  ends_sooner us vs ms h (inl b) = inl (before_tail us ms apex (before_transitive us vs ms h (before_untail vs ms apex b)))
  ends_sooner us vs ms h (inr e) = inr e

  not_apex : (ls ms : List (List ℕ)) → Sorts ls ms → ms ≡ [] → ⊥
  not_apex ls ms h e = apex_first ls (rw e at (before_untail ls ms apex h))

  -- ---- the end of a gap

  module _ (ls ms : List (List ℕ)) where
    -- the first member past ls: nothing that is past ls ends there, and all at or under ls does
    pub none_past : NextPast allowed limit depth apex ls ms → (us : List (List ℕ)) → In us → Past allowed limit depth apex ls us
        → Ends us ms → ⊥
    none_past next us u p c = go next.nearest c
      where
        go : (Past allowed limit depth apex ls ms × NonePastBefore allowed limit depth apex ls ms)
            ⊎ (NonePast allowed limit depth apex ls × (ms ≡ [])) → Ends us ms → ⊥
        go (inl n) (inl b) = n.1 us u p b
        go (inl n) (inr e) = not_apex ls ms n.0.after e
        go (inr n) c = n.0 us u p

    pub under_ends : NextPast allowed limit depth apex ls ms → (vs : List (List ℕ)) → Ends (vs ++ ls) ms
    under_ends next vs = go next.nearest
      where
        go : (Past allowed limit depth apex ls ms × NonePastBefore allowed limit depth apex ls ms)
            ⊎ (NonePast allowed limit depth apex ls × (ms ≡ [])) → Ends (vs ++ ls) ms
        go (inl n) =
            inl (before_tail (vs ++ ls) ms apex (outside_beyond ls ms (before_untail ls ms apex n.0.after) n.0.outside vs))
        go (inr n) = inr n.1

    -- the next member: nothing that is after ls ends there, and ls does
    none_after : Next allowed limit depth apex ls ms → (us : List (List ℕ)) → In us → Sorts ls us → Ends us ms → ⊥
    none_after next us u h c = go next.nearest c
      where
        go : (Sorts ls ms × NoneBetween allowed limit depth apex ls ms) ⊎ (NoneAfter allowed limit depth apex ls × (ms ≡ []))
            → Ends us ms → ⊥
        go (inl n) (inl b) = n.1 us u h b
        go (inl n) (inr e) = not_apex ls ms n.0 e
        go (inr n) c = n.0 us u h

    pub name_ends : Next allowed limit depth apex ls ms → Ends ls ms
    name_ends next = go next.nearest
      where
        go : (Sorts ls ms × NoneBetween allowed limit depth apex ls ms) ⊎ (NoneAfter allowed limit depth apex ls × (ms ≡ [])) → Ends ls ms
        go (inl n) = inl n.0
        go (inr n) = inr n.1

    -- from a name to its successor nothing is covered
    pub gap_empty : Next allowed limit depth apex ls ms → (us : List (List ℕ)) → In us → Covers allowed limit depth apex ls ms us → ⊥
    gap_empty next us u c = none_after next us u c.0 c.1

  -- ---- from the predecessor of a name that is not the apex

  module _ (fits : length (wire apex) ≤ limit) (ls ps : List (List ℕ)) (other : 1 ≤ length ls)
      (previous : Previous allowed limit depth apex ls ps) where
    -- some member is before it: the apex is
    pub previous_other : Sorts ps ls × NoneBetween allowed limit depth apex ps ls
    previous_other = go previous.nearest
      where
        go : (Sorts ps ls × NoneBetween allowed limit depth apex ps ls)
            ⊎ (NoneBefore allowed limit depth apex ls × NoneAfter allowed limit depth apex ps)
            → Sorts ps ls × NoneBetween allowed limit depth apex ps ls
        go (inl n) = n
        go (inr n) =
            absurd (n.0 [] (record { sizes = tt; octets = tt; few = omega arith; fits = fits })
            (apex_least allowed limit depth apex fits ls other))

    -- a member after the predecessor of ls is ls or after it
    pub after_previous : (us : List (List ℕ)) → In us → Sorts ps us → (us ≡ ls) ⊎ Before ls us
    after_previous us u h = go (before_total us ls)
      where
        go : Before us ls ⊎ ((us ≡ ls) ⊎ Before ls us) → (us ≡ ls) ⊎ Before ls us
        go (inl b) = absurd (previous_other.1 us u h (before_tail us ls apex b))
        go (inr r) = r

    pub gap_covers : (ms : List (List ℕ)) → NextPast allowed limit depth apex ls ms → (us : List (List ℕ)) → In us
        → Covers allowed limit depth apex ps ms us ↔ AtOrUnder ls us
    gap_covers ms next us u = (λ c. covered c (after_previous us u c.0), covers)
      where
        cases : Covers allowed limit depth apex ps ms us → Before ls us → AtOrUnder ls us ⊎ Parent ls us → AtOrUnder ls us
        cases c h (inl a) = a
        cases c h (inr r) =
            absurd (none_past ls ms next us u (record { after = before_tail ls us apex h; outside = out }) c.1)
          where
            out : AtOrUnder ls us → ⊥
            out (vs, e) = before_irreflexive us (rw (← e) at (r.beyond vs))

        covered : Covers allowed limit depth apex ps ms us → (us ≡ ls) ⊎ Before ls us → AtOrUnder ls us
        covered c (inl e) = ([], e)
        covered c (inr h) = cases c h (after_cases ls us h)

        covers : AtOrUnder ls us → Covers allowed limit depth apex ps ms us
        covers (vs, e) =
            rw e (
              before_tail ps (vs ++ ls) apex (before_all_under ps vs ls (before_untail ps ls apex previous_other.0)),
              under_ends ls ms next vs,
            )

    -- up to the next member: ls alone
    pub gap_alone : (ms : List (List ℕ)) → Next allowed limit depth apex ls ms → (us : List (List ℕ)) → In us
        → Covers allowed limit depth apex ps ms us ↔ (us ≡ ls)
    gap_alone ms next us u = (λ c. covered c (after_previous us u c.0), λ e. rw e (previous_other.0, name_ends ls ms next))
      where
        covered : Covers allowed limit depth apex ps ms us → (us ≡ ls) ⊎ Before ls us → us ≡ ls
        covered c (inl e) = e
        covered c (inr h) = absurd (none_after ls ms next us u (before_tail ls us apex h) c.1)
