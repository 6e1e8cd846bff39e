-- The gaps of a zone cover what they are to cover: so do the gaps of labels (`gap_empty`, `gap_alone`, `gap_covers`), and names are
-- covered, and under each other, as their labels above the apex are.
use mathlib.Core.Path.{◌≡◌, sym, ap, ◌∙◌}
use mathlib.Core.List.{List, [], ◌++◌, append_cancel_right}
use mathlib.Core.Bool.{true, false}
use mathlib.Core.Logic.{◌↔◌}
use Prim.Native.Nat.{ℕ, ◌≤◌}
use native.Mathlib.Omega.{arith}
use lib.ListN.{length}
use Rattle.facts.proofs.Booleans.{never_true}
use Rattle.name.specs.Labels.{wire}
use Rattle.name.specs.Answer.{answer}
use Rattle.name.proofs.Answers.{answer_injective}
use Rattle.name.proofs.Labels.{at_most_127_labels}
use Rattle.order.specs.Order.{folded_labels}
use Rattle.zone.specs.Zone.{Member, Next, Previous}
use Rattle.zone.proofs.Bridge.{before_untail}
use Rattle.alphabet.specs.declared.Alphabet.{Alphabet}
use Rattle.alphabet.specs.Alphabets.{allowed}
use Rattle.checks.specs.Under.{is_under, more, above, under}
use Rattle.covered.specs.Subtree.{AtOrUnder}
use Rattle.covered.specs.Covers.{Covers}
use Rattle.covered.proofs.Covered.{Ends, ends_sooner, under_ends, name_ends, previous_other, gap_empty, gap_alone, gap_covers}
use Rattle.covered.proofs.Joined.{Around, own_owner_outside, own_next_outside}
use Rattle.neighbour.specs.Neighbour.{successor_in, predecessor_in}
use Rattle.neighbour.specs.Nearest.{Question, QuestionIn, InZoneOf}
use Rattle.neighbour.proofs.Questions.{question_passes}
use Rattle.neighbour.proofs.ZoneNames.{name_parts, name_member, above_count, member_labels, member_formed, member_zone}
use Rattle.neighbour.proofs.NearestNames.{apex_fits, successor_labels, successor_next, predecessor_labels, predecessor_previous}
use Rattle.neighbour.proofs.NearestNames.{Within, within_member}
use Rattle.subtree.specs.Successor.{subtree_successor_in}
use Rattle.subtree.proofs.UnderNames.{labels_above_under, under_labels_above}
use Rattle.subtree.proofs.PastNames.{zone_within, subtree_is, subtree_next, member_outside}
use Rattle.covering.specs.Between.{covers_of}
use Rattle.gaps.specs.Gaps.{Gaps}
use Rattle.gaps.proofs.Rings.{Above, covers_labels}

module _ (alphabet : Alphabet) (apex : List ℕ) (limit : ℕ) (name : List ℕ) (asked : QuestionIn alphabet apex limit name) where
  abbrev q : Question apex limit name
  q = asked.question

  abbrev A : List (List ℕ)
  A = folded_labels apex

  abbrev ls : List (List ℕ)
  ls = above apex name

  fits : length (wire (folded_labels apex)) ≤ limit
  fits = apex_fits apex limit name q

  -- the labels of the three ends, of the first at any depth
  abbrev previous : ℕ → List (List ℕ)
  previous depth = predecessor_labels alphabet apex limit name asked depth

  abbrev next : List (List ℕ)
  next = successor_labels alphabet apex limit name asked 127

  abbrev past : List (List ℕ)
  past = successor_labels alphabet apex limit name asked (length (above apex name))

  predecessor_is : predecessor_in alphabet apex limit name ≡ answer (under apex (predecessor_labels alphabet apex limit name asked 127))
  unfolding predecessor_labels
  predecessor_is = question_passes apex limit name _ q ∙ rw asked.spelled

  successor_is : successor_in alphabet apex limit name ≡ answer (under apex (successor_labels alphabet apex limit name asked 127))
  unfolding successor_labels
  successor_is = question_passes apex limit name _ q ∙ rw asked.spelled

  -- names by their labels
  name_above : Above A name ls
  name_above = record { whole = q.name_formed.whole; labels = name_parts apex q.apex_formed name q.name_formed q.under }

  pub member_is_above : (depth : ℕ) (ms : List (List ℕ)) → Member (allowed alphabet) limit depth (folded_labels apex) ms
      → Above (folded_labels apex) (under apex ms) ms
  member_is_above depth ms m =
      record {
        whole = (member_formed apex q.apex_formed alphabet limit depth q.most ms m).whole;
        labels = member_labels apex q.apex_formed alphabet limit depth q.most ms m;
      }

  pub zone_above : (u : List ℕ) → InZoneOf alphabet apex limit u → Above (folded_labels apex) u (above apex u)
  zone_above u z =
      let v = z.zone in record { whole = v.formed.whole; labels = name_parts apex q.apex_formed u v.formed v.under }

  pub zone_member : (u : List ℕ) → InZoneOf alphabet apex limit u
      → Member (allowed alphabet) limit 127 (folded_labels apex) (above apex u)
  zone_member u z = within_member alphabet apex limit name asked 127 u (zone_within alphabet apex limit name asked u z)

  -- ---- from the name

  existing : (a : List ℕ) → successor_in alphabet apex limit name ≡ answer a → (u : List ℕ) → InZoneOf alphabet apex limit u
      → covers_of name a u ≡ false
  existing a e u z =
      let n : Next (allowed alphabet) limit 127 A ls next = successor_next alphabet apex limit name asked 127 in
      rw (answer_injective (sym e ∙ successor_is))
      (never_true (covers_of name (under apex next) u) (λ t.
      gap_empty (allowed alphabet) limit 127 A ls next n (above apex u) (zone_member u z)
      ((covers_labels (allowed alphabet) limit A name_above (member_is_above 127 next n.member) (zone_above u z)
      (name_ends (allowed alphabet) limit 127 A ls next n)).0 t)))

  -- ---- from its predecessor

  module _ (other : 1 ≤ more apex name) where
    before : (depth : ℕ) → Previous (allowed alphabet) limit depth A ls (previous depth)
    before depth = predecessor_previous alphabet apex limit name asked depth

    some : 1 ≤ length ls
    some = omega (arith, above_count apex q.apex_formed name q.name_formed q.under)

    -- the name with its predecessor and the first member past it
    pub around : (fits : length (wire (folded_labels apex)) ≤ limit)
        → Around (allowed alphabet) limit 127 (folded_labels apex) fits (above apex name)
        (predecessor_labels alphabet apex limit name asked 127)
        (successor_labels alphabet apex limit name asked (length (above apex name)))
    around fits =
        record {
          member =
              name_member apex q.apex_formed name q.name_formed q.under alphabet asked.spelled limit 127 q.name_fits
              (omega (arith, at_most_127_labels name q.name_formed.whole));
          other = some;
          previous = before 127;
          next = subtree_next alphabet apex limit name asked;
        }

    -- a gap from the predecessor covers by octets what it covers by labels; what ends after the name ends after its predecessor
    from_owner : (depth : ℕ) (ms : List (List ℕ)) → Member (allowed alphabet) limit depth A ms → Ends (allowed alphabet) limit depth A ls ms
        → (u : List ℕ) → InZoneOf alphabet apex limit u
        → (covers_of (under apex (previous depth)) (under apex ms) u ≡ true)
        ↔ Covers (allowed alphabet) limit depth A (previous depth) ms (above apex u)
    from_owner depth ms m ends u z =
        let ps : List (List ℕ) = previous depth in
        covers_labels (allowed alphabet) limit A (member_is_above depth ps (before depth).member) (member_is_above depth ms m)
        (zone_above u z)
        (ends_sooner (allowed alphabet) limit depth A ps ls ms
        (before_untail ps ls A (previous_other (allowed alphabet) limit depth A fits ls ps some (before depth)).0) ends)

    -- up to its successor at the same depth, the name alone of all that have no more labels above the apex
    pub alone_at : (depth : ℕ) (u : List ℕ) → Within alphabet apex limit depth u
        → (covers_of (under apex (predecessor_labels alphabet apex limit name asked depth))
        (under apex (successor_labels alphabet apex limit name asked depth)) u ≡ true)
        ↔ (folded_labels u ≡ folded_labels name)
    alone_at depth u w =
        let n = successor_next alphabet apex limit name asked depth in
        let ms : List (List ℕ) = successor_labels alphabet apex limit name asked depth in
        let c = from_owner depth ms n.member (name_ends (allowed alphabet) limit depth A ls ms n) u w.zone in
        let g =
        gap_alone (allowed alphabet) limit depth A fits ls (previous depth) some (before depth) ms n (above apex u)
        (within_member alphabet apex limit name asked depth u w) in
        let lu = (zone_above u w.zone).labels in (
          λ t. lu ∙ ap (λ (x : List (List ℕ)). x ++ A) (g.0 (c.0 t)) ∙ sym name_above.labels,
          λ h. c.1 (g.1 (append_cancel_right (above apex u) ls A (sym lu ∙ h ∙ name_above.labels))),
        )

    alone : (owner a : List ℕ) → predecessor_in alphabet apex limit name ≡ answer owner → successor_in alphabet apex limit name ≡ answer a
        → (u : List ℕ) → InZoneOf alphabet apex limit u → (covers_of owner a u ≡ true) ↔ (folded_labels u ≡ folded_labels name)
    alone owner a e f u z =
        rw (answer_injective (sym e ∙ predecessor_is), answer_injective (sym f ∙ successor_is))
        (alone_at 127 u (zone_within alphabet apex limit name asked u z))

    missing : (owner a : List ℕ) → predecessor_in alphabet apex limit name ≡ answer owner
        → subtree_successor_in alphabet apex limit name ≡ answer a
        → (u : List ℕ) → InZoneOf alphabet apex limit u → (covers_of owner a u ≡ true) ↔ (is_under name u ≡ true)
    missing owner a e f u z =
        let n = subtree_next alphabet apex limit name asked in
        let c = from_owner 127 past n.member (under_ends (allowed alphabet) limit 127 A ls past n []) u z in
        let g =
        gap_covers (allowed alphabet) limit 127 A fits ls (previous 127) some (before 127) past n (above apex u) (zone_member u z) in
        rw (answer_injective (sym e ∙ predecessor_is), answer_injective (sym f ∙ subtree_is alphabet apex limit name asked)) (
          λ t. labels_above_under apex name u q.under z.zone.under (g.0 (c.0 t)),
          λ t. c.1 (g.1 (under_labels_above apex name u q.under z.zone.under t)),
        )

    -- ---- the ends

    end_outside : (ms : List (List ℕ)) → Member (allowed alphabet) limit 127 A ms → (AtOrUnder ls ms → ⊥)
        → InZoneOf alphabet apex limit (under apex ms) × (is_under name (under apex ms) ≡ false)
    end_outside ms m f =
        (member_zone apex q.apex_formed alphabet limit 127 q.most ms m, member_outside alphabet apex limit name asked ms m f)

    owner_outside : (owner : List ℕ) → predecessor_in alphabet apex limit name ≡ answer owner
        → InZoneOf alphabet apex limit owner × (is_under name owner ≡ false)
    owner_outside owner e =
        rw (answer_injective (sym e ∙ predecessor_is))
        (end_outside (previous 127) (before 127).member
        (own_owner_outside (allowed alphabet) limit 127 A fits (around fits)))

    next_outside : (a : List ℕ) → subtree_successor_in alphabet apex limit name ≡ answer a
        → InZoneOf alphabet apex limit a × (is_under name a ≡ false)
    next_outside a e =
        rw (answer_injective (sym e ∙ subtree_is alphabet apex limit name asked))
        (end_outside past (subtree_next alphabet apex limit name asked).member
        (own_next_outside (allowed alphabet) limit 127 A fits (around fits)))

  pub gaps : Gaps alphabet apex limit name
  gaps =
      record {
        existing = existing;
        alone = alone;
        missing = missing;
        owner_outside = owner_outside;
        next_outside = next_outside;
      }
