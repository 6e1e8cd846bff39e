-- The first member past a name is its successor in the zone of no more labels than it has (`next_past`), which the steps at that depth give
-- (`steps_next_past`). For what is after a name is under it, or has a parent after it with no more labels (`after_cases`).
use mathlib.Core.Path.{◌≡◌, refl, sym, ap, ◌∙◌}
use mathlib.Core.List.{List, [], ◌∷◌, ◌++◌, reverse, reverse-append, reverse-reverse}
use mathlib.Core.Logic.{◌⊎◌, inl, inr}
use mathlib.Core.Bool.{Bool}
use Prim.Native.Nat.{ℕ, ◌≤◌}
use native.Mathlib.Omega.{arith}
use lib.ListN.{length, length-append, length-reverse}
use Rattle.name.specs.Labels.{wire, Sizes}
use Rattle.order.specs.Order.{FromRight, Before}
use Rattle.order.proofs.Canonical.{before_transitive, before_irreflexive, before_under}
use Rattle.order.proofs.Members.{Octet}
use Rattle.zone.specs.Zone.{AllSpelled, spare, Member, Precedes, NoneBetween, NoneAfter, Next}
use Rattle.zone.specs.Steps.{successor_steps}
use Rattle.zone.proofs.Bridge.{wire_append, before_tail, before_untail}
use Rattle.zone.proofs.StepsNearest.{steps_next}
use Rattle.covered.specs.Subtree.{AtOrUnder, Past, NonePast, NonePastBefore, NextPast}
-- passed on, so that a wrong step is refused at an example before any law of it is tried
pub use Rattle.covered.proofs.Examples.{past_b_a, after_b_a, past_last}

-- ---- after a name: under it, or past it with a parent of no more labels that is past it too

-- the rightmost first: us goes on from ls, or its first labels decide
RightPast : List (List ℕ) → List (List ℕ) → Type 0
RightPast ls us =
    (ws : List (List ℕ)) × (vs : List (List ℕ)) × (us ≡ ws ++ vs) × (length ws ≤ length ls) × FromRight ls ws
    × ((xs : List (List ℕ)) → FromRight (ls ++ xs) us)

right_past : (ls us : List (List ℕ)) → FromRight ls us → ((vs : List (List ℕ)) × (us ≡ ls ++ vs)) ⊎ RightPast ls us
unfolding RightPast
right_past [] us h = inl (us, refl)
right_past (l ∷ ls) [] h = absurd h
right_past (l ∷ ls) (m ∷ us) (inl h) = inr (m ∷ [], us, refl, omega arith, inl h, λ xs. inl h)
right_past (l ∷ ls) (m ∷ us) (inr h) = go (right_past ls us h.1)
  where
    go : ((vs : List (List ℕ)) × (us ≡ ls ++ vs)) ⊎ RightPast ls us
        → ((vs : List (List ℕ)) × ((m ∷ us) ≡ (l ∷ ls) ++ vs)) ⊎ RightPast (l ∷ ls) (m ∷ us)
    go (inl r) = let e : l ≡ m = h.0 in let f : us ≡ ls ++ r.0 = r.1 in inl (r.0, (cc))
    go (inr r) =
        inr (
          m ∷ r.0,
          r.1,
          ap (λ (t : List (List ℕ)). m ∷ t) r.2,
          omega (arith, r.3),
          inr (h.0, r.4),
          λ xs. inr (h.0, r.5 xs),
        )

-- what is past ls: a parent of it is, which has no more labels than ls, and it is after all that is under ls
pub record Parent (ls us : List (List ℕ)) : Type 0 where
  pub parent : List (List ℕ)
  pub front : List (List ℕ)
  pub parts : us ≡ front ++ parent
  pub few : length parent ≤ length ls
  pub after : Before ls parent
  pub beyond : (vs : List (List ℕ)) → Before (vs ++ ls) us

pub after_cases : (ls us : List (List ℕ)) → Before ls us → AtOrUnder ls us ⊎ Parent ls us
unfolding RightPast
after_cases ls us h = go (right_past (reverse ls) (reverse us) h)
  where
    back : (ws vs : List (List ℕ)) → reverse us ≡ ws ++ vs → us ≡ reverse vs ++ reverse ws
    back ws vs e = sym (reverse-reverse us) ∙ ap reverse e ∙ reverse-append ws vs

    go : ((vs : List (List ℕ)) × (reverse us ≡ reverse ls ++ vs)) ⊎ RightPast (reverse ls) (reverse us) → AtOrUnder ls us ⊎ Parent ls us
    go (inl r) = inl (reverse r.0, rw (back (reverse ls) r.0 r.1, reverse-reverse ls))
    go (inr r) =
        inr (record {
          parent = reverse r.0;
          front = reverse r.1;
          parts = back r.0 r.1 r.2;
          few = omega (arith, length-reverse r.0, length-reverse ls, r.3);
          after = rw (reverse-reverse r.0) r.4;
          beyond = λ vs. rw (reverse-append vs ls) (r.5 (reverse vs));
        })

-- what is after ls and not under it is after all under ls
pub outside_beyond : (ls us : List (List ℕ)) → Before ls us → (AtOrUnder ls us → ⊥) → (vs : List (List ℕ)) → Before (vs ++ ls) us
outside_beyond ls us h f vs = go (after_cases ls us h)
  where
    go : AtOrUnder ls us ⊎ Parent ls us → Before (vs ++ ls) us
    go (inl a) = absurd (f a)
    go (inr r) = r.beyond vs

-- a name is not before its parent
pub under_parent : (vs ws ms : List (List ℕ)) → Before (vs ++ ws) ms → Before ws ms
under_parent [] ws ms h = h
under_parent (v ∷ vs) ws ms h = before_transitive ws ((v ∷ vs) ++ ws) ms (before_under (v ∷ vs) ws (omega arith)) h

-- ---- members

sizes_tail : (vs ws : List (List ℕ)) → Sizes (vs ++ ws) → Sizes ws
sizes_tail [] ws h = h
sizes_tail (v ∷ vs) ws h = sizes_tail vs ws h.2

spelled_tail : (allowed : ℕ → Bool) (vs ws : List (List ℕ)) → AllSpelled allowed (vs ++ ws) → AllSpelled allowed ws
spelled_tail allowed [] ws h = h
spelled_tail allowed (v ∷ vs) ws h = spelled_tail allowed vs ws h.1

wire_tail : (vs ws apex : List (List ℕ)) → length (wire (ws ++ apex)) ≤ length (wire ((vs ++ ws) ++ apex))
wire_tail [] ws apex = omega arith
wire_tail (v ∷ vs) ws apex = omega (arith, wire_tail vs ws apex, wire_append (v ∷ []) ((vs ++ ws) ++ apex))

module _ (allowed : ℕ → Bool) (limit : ℕ) (apex : List (List ℕ)) where
  -- a parent of a member is one, at any depth that its labels keep
  pub member_parent : (depth few : ℕ) (vs ws : List (List ℕ)) → Member allowed limit depth apex (vs ++ ws) → length ws ≤ few
      → Member allowed limit few apex ws
  member_parent depth few vs ws h k =
      record {
        sizes = sizes_tail vs ws h.sizes;
        octets = spelled_tail allowed vs ws h.octets;
        few = k;
        fits = omega (arith, h.fits, wire_tail vs ws apex);
      }

  -- ---- the first member past ls

  module _ (depth : ℕ) (ls : List (List ℕ)) (few : length ls ≤ depth) where
    -- a member past ls has a parent past ls that is a member of the zone of no more labels than ls, and is no later
    record PastParent (us : List (List ℕ)) : Type 0 where
      pub parent : List (List ℕ)
      pub member : Member allowed limit (length ls) apex parent
      pub after : Precedes allowed limit (length ls) apex ls parent
      pub sooner : (ms : List (List ℕ)) → Precedes allowed limit depth apex us ms → Precedes allowed limit (length ls) apex parent ms

    past_parent : (us : List (List ℕ)) → Member allowed limit depth apex us → Past allowed limit depth apex ls us → PastParent us
    past_parent us u p = go (after_cases ls us (before_untail ls us apex p.after))
      where
        go : AtOrUnder ls us ⊎ Parent ls us → PastParent us
        go (inl a) = absurd (p.outside a)
        go (inr r) =
            record {
              parent = r.parent;
              member = member_parent depth (length ls) r.front r.parent (rw r.parts at u) r.few;
              after = before_tail ls r.parent apex r.after;
              sooner = λ ms h.
                  before_tail r.parent ms apex
                  (under_parent r.front r.parent ms (rw r.parts at (before_untail us ms apex h)));
            }

    -- what has no more labels than ls and is after it is not under it
    few_outside : (ms : List (List ℕ)) → length ms ≤ length ls → Before ls ms → AtOrUnder ls ms → ⊥
    few_outside ms k h (vs, e) = go vs e
      where
        go : (vs : List (List ℕ)) → ms ≡ vs ++ ls → ⊥
        go [] e = before_irreflexive ls (rw e at h)
        go (v ∷ vs) e = omega (arith, ap length e, length-append (v ∷ vs) ls)

    pub next_past : (ms : List (List ℕ)) → Next allowed limit (length ls) apex ls ms → NextPast allowed limit depth apex ls ms
    next_past ms h =
        record {
          member = member_parent (length ls) depth [] ms h.member (omega (arith, h.member.few));
          nearest = go h.nearest;
        }
      where
        go : (Precedes allowed limit (length ls) apex ls ms × NoneBetween allowed limit (length ls) apex ls ms)
            ⊎ (NoneAfter allowed limit (length ls) apex ls × (ms ≡ []))
            → (Past allowed limit depth apex ls ms × NonePastBefore allowed limit depth apex ls ms)
            ⊎ (NonePast allowed limit depth apex ls × (ms ≡ []))
        go (inl a) =
            inl (
              record { after = a.0; outside = few_outside ms h.member.few (before_untail ls ms apex a.0) },
              λ us u p b. let r = past_parent us u p in a.1 r.parent r.member r.after (r.sooner ms b),
            )
        go (inr a) = inr (λ us u p. let r = past_parent us u p in a.0 r.parent r.member r.after, a.1)

-- the steps at the depth that the name itself has
pub steps_next_past : (allowed : ℕ → Bool) (a : ℕ) → Octet allowed a → (limit depth : ℕ) (apex : List (List ℕ))
    → length (wire apex) ≤ limit → (ls : List (List ℕ)) → Member allowed limit depth apex ls
    → NextPast allowed limit depth apex ls (successor_steps allowed (spare limit apex) (length ls) ls)
steps_next_past allowed a octet limit depth apex fits ls h =
    next_past allowed limit apex depth ls h.few _
    (steps_next allowed a octet limit (length ls) apex fits ls h.sizes h.octets h.fits)
