-- The gaps of two names of which neither is under the other. Where the first touches the second, one gap for both covers exactly the names
-- at or under either (`touching_covers`), which its ends are not; where none touches the other, the ends of each are not at or under the
-- other's name, and the owners differ (`owners_apart`). So it is with their labels (covered/proofs/Joined).
use mathlib.Core.Path.{◌≡◌, refl, sym, ap, ◌∙◌}
use mathlib.Core.List.{List, [], ◌++◌, append_cancel_right}
use mathlib.Core.Bool.{true, false, true≢false}
use mathlib.Core.Logic.{◌⊎◌, inl, inr, ◌↔◌}
use Prim.Native.Nat.{ℕ, ◌≤◌}
use lib.ListN.{length}
use Rattle.std.specs.Prelude.{Ok}
use Rattle.name.specs.Wire.{reading_of}
use Rattle.name.specs.Labels.{wire}
use Rattle.order.specs.Order.{folded_labels}
use Rattle.order.specs.Place.{full}
use Rattle.zone.specs.Zone.{Member}
use Rattle.zone.proofs.Bridge.{before_untail}
use Rattle.alphabet.specs.declared.Alphabet.TheVariants.{Full}
use Rattle.checks.specs.Under.{is_under, more, above, under}
use Rattle.covered.specs.Subtree.{AtOrUnder}
use Rattle.covered.proofs.Covered.{Ends, ends_sooner}
use Rattle.covered.proofs.Joined.{Around, owners_differ, next_outside, owner_outside, joined_covers, joined_owner_outside}
use Rattle.covered.proofs.Joined.{joined_next_outside}
use Rattle.neighbour.specs.Nearest.{Question, QuestionIn, InZone}
use Rattle.neighbour.proofs.FullAlphabet.{full_question, full_zone}
use Rattle.neighbour.proofs.ZoneNames.{name_parts, member_labels, member_above}
use Rattle.neighbour.proofs.NearestNames.{apex_fits}
use Rattle.subtree.proofs.UnderNames.{labels_above_under, under_labels_above}
use Rattle.subtree.proofs.PastNames.{member_outside}
use Rattle.covering.specs.Between.{covers_of}
use Rattle.gaps.specs.Denial.{owner_of, next_of, is_same}
use Rattle.gaps.proofs.Rings.{covers_labels}
use Rattle.gaps.proofs.Gaps.{member_is_above, zone_above, zone_member}
use Rattle.gaps.proofs.SameNames.{same_labels_lem, labels_same}
use Rattle.gaps.proofs.OneGap.{owner_labels, next_labels, owner_under, next_under, owner_member, next_member, next_zone}
use Rattle.gaps.proofs.OneGap.{name_around}

-- ---- whether the gap of the first touches the second, by labels

module _ (apex : List ℕ) (limit : ℕ) (first second : List ℕ) (q : Question apex limit first) (r : Question apex limit second) where
  next_parts : folded_labels (next_of apex limit first) ≡ next_labels apex limit first q ++ folded_labels apex
  next_parts =
      ap folded_labels (next_under apex limit first q)
      ∙ member_labels apex q.apex_formed Full limit 127 q.most (next_labels apex limit first q) (next_member apex limit first q)

  second_parts : folded_labels second ≡ above apex second ++ folded_labels apex
  second_parts = name_parts apex r.apex_formed second r.name_formed r.under

  next_whole : reading_of (next_of apex limit first) ≡ Ok tt
  next_whole = (next_zone apex limit first q).formed.whole

  touch_labels : is_same (next_of apex limit first) second ≡ true → next_labels apex limit first q ≡ above apex second
  touch_labels t =
      append_cancel_right (next_labels apex limit first q) (above apex second) (folded_labels apex)
      (sym next_parts ∙ same_labels_lem (next_of apex limit first) second next_whole r.name_formed.whole t ∙ second_parts)

  apart_labels : is_same (next_of apex limit first) second ≡ false → next_labels apex limit first q ≡ above apex second → ⊥
  apart_labels f e =
      true≢false
      (sym (labels_same (next_of apex limit first) second next_whole r.name_formed.whole
      (next_parts ∙ ap (λ (vs : List (List ℕ)). vs ++ folded_labels apex) e ∙ sym second_parts))
      ∙ f)

-- ---- two names

module _ (apex : List ℕ) (limit : ℕ) (first second : List ℕ) (q : Question apex limit first) (r : Question apex limit second)
    (some : 1 ≤ more apex first) (more-some : 1 ≤ more apex second) (off : is_under first second ≡ false)
    (back : is_under second first ≡ false) where
  abbrev A : List (List ℕ)
  A = folded_labels apex

  -- the labels of the first name and of its two ends
  abbrev ls : List (List ℕ)
  ls = above apex first

  abbrev ps : List (List ℕ)
  ps = owner_labels apex limit first q

  abbrev ms : List (List ℕ)
  ms = next_labels apex limit first q

  -- those of the second
  abbrev ws : List (List ℕ)
  ws = above apex second

  abbrev qs : List (List ℕ)
  qs = owner_labels apex limit second r

  abbrev ns : List (List ℕ)
  ns = next_labels apex limit second r

  fits : length (wire A) ≤ limit
  fits = apex_fits apex limit first q

  g : Around full limit 127 A fits ls ps ms
  g = name_around apex limit first q some fits

  k : Around full limit 127 A fits ws qs ns
  k = name_around apex limit second r more-some fits

  off_labels : AtOrUnder ls ws → ⊥
  off_labels a = true≢false (sym (labels_above_under apex first second q.under r.under a) ∙ off)

  back_labels : AtOrUnder ws ls → ⊥
  back_labels a = true≢false (sym (labels_above_under apex second first r.under q.under a) ∙ back)

  asked : QuestionIn Full apex limit first
  asked = full_question apex limit first q

  -- an end of the first gap that is not at or under the second name by its labels
  outside : (vs : List (List ℕ)) → Member full limit 127 A vs → (AtOrUnder ws vs → ⊥) → is_under second (under apex vs) ≡ false
  outside vs m f = member_outside Full apex limit second (full_question apex limit second r) vs m f

  pub owners_apart : owner_of apex limit first ≡ owner_of apex limit second → ⊥
  owners_apart e =
      owners_differ full limit 127 A fits g k off_labels back_labels
      (sym (member_above apex q.apex_formed Full limit 127 q.most ps (owner_member apex limit first q))
      ∙ ap (above apex) (sym (owner_under apex limit first q) ∙ e ∙ owner_under apex limit second r)
      ∙ member_above apex q.apex_formed Full limit 127 q.most qs (owner_member apex limit second r))

  pub apart_next : is_same (next_of apex limit first) second ≡ false → is_under second (next_of apex limit first) ≡ false
  apart_next f =
      rw (next_under apex limit first q)
      (outside ms (next_member apex limit first q)
      (next_outside full limit 127 A fits g k off_labels back_labels (apart_labels apex limit first second q r f)))

  pub apart_owner : is_same (next_of apex limit second) first ≡ false → is_under second (owner_of apex limit first) ≡ false
  apart_owner f =
      rw (owner_under apex limit first q)
      (outside ps (owner_member apex limit first q)
      (owner_outside full limit 127 A fits g k off_labels back_labels (apart_labels apex limit second first r q f)))

  -- ---- where the first gap touches the second name

  module _ (touch : is_same (next_of apex limit first) second ≡ true) where
    meets : ms ≡ ws
    meets = touch_labels apex limit first second q r touch

    -- the first name lies in the joined gap, so this ends after its owner
    ends : Ends full limit 127 A ps ns
    ends =
        let c = (joined_covers full limit 127 A fits g k off_labels back_labels meets ls g.member).1 (inl ([], refl)) in
        ends_sooner full limit 127 A ps ls ns (before_untail ps ls A c.0) c.1

    pub touching_covers : (u : List ℕ) → InZone apex limit u
        → (covers_of (owner_of apex limit first) (next_of apex limit second) u ≡ true)
        ↔ ((is_under first u ≡ true) ⊎ (is_under second u ≡ true))
    touching_covers u z =
        let w = full_zone apex limit u z in
        let c =
        covers_labels full limit A
        (member_is_above Full apex limit first asked 127 ps (owner_member apex limit first q))
        (member_is_above Full apex limit first asked 127 ns (next_member apex limit second r))
        (zone_above Full apex limit first asked u w) ends in
        let j =
        joined_covers full limit 127 A fits g k off_labels back_labels meets (above apex u)
        (zone_member Full apex limit first asked u w) in
        rw (owner_under apex limit first q, next_under apex limit second r) (λ t. octets (j.0 (c.0 t)), λ t. c.1 (j.1 (labels t)))
      where
        octets : AtOrUnder ls (above apex u) ⊎ AtOrUnder ws (above apex u) → (is_under first u ≡ true) ⊎ (is_under second u ≡ true)
        octets (inl a) = inl (labels_above_under apex first u q.under z.under a)
        octets (inr a) = inr (labels_above_under apex second u r.under z.under a)

        labels : (is_under first u ≡ true) ⊎ (is_under second u ≡ true) → AtOrUnder ls (above apex u) ⊎ AtOrUnder ws (above apex u)
        labels (inl t) = inl (under_labels_above apex first u q.under z.under t)
        labels (inr t) = inr (under_labels_above apex second u r.under z.under t)

    pub touching_owner : is_under second (owner_of apex limit first) ≡ false
    touching_owner =
        rw (owner_under apex limit first q)
        (outside ps (owner_member apex limit first q) (joined_owner_outside full limit 127 A fits g k off_labels back_labels meets))

    pub touching_next : is_under first (next_of apex limit second) ≡ false
    touching_next =
        rw (next_under apex limit second r)
        (member_outside Full apex limit first asked ns (next_member apex limit second r)
        (joined_next_outside full limit 127 A fits g k off_labels back_labels meets))
