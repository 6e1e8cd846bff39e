-- The climb of a name's labels on its octets: at the cut it ends, and before the cut a label begins that is tried, whose parent begins
-- where it ends (`climbs_end`, `tried`).
use mathlib.Core.Path.{◌≡◌, refl, sym, ap, ◌∙◌}
use mathlib.Core.List.{List, [], ◌∷◌, ◌++◌, map}
use Prim.Native.Nat.{ℕ, ◌+◌, ◌-◌, ◌≤◌, ◌<◌}
use native.Mathlib.Omega.{arith}
use lib.ListN.{length, take, drop, get_or, length-append, length-drop, take-append-drop}
use lib.Seq.{take_at}
use Rattle.name.specs.Labels.{wire, Sizes, labels_of}
use Rattle.name.specs.Private.Standing.{Standing}
use Rattle.space.specs.Fold.{folded}
use Rattle.name.proofs.Labels.{labels_wire, label_sizes}
use Rattle.name.proofs.LabelSteps.{Here, here, stands, counted, inside}
use Rattle.name.proofs.Folding.{folded_wire}
use Rattle.zone.specs.Zone.{size}
use Rattle.zone.proofs.Bridge.{wire_append}
use Rattle.checks.specs.Private.Boundary.{before, lower, Boundary}
use Rattle.checks.specs.Private.Climbs.{between, past, Climbs}
use Rattle.facts.proofs.Lists.{map_append}
use Rattle.checks.proofs.Lists.{sizes_parts}

-- the octets from a place on, folded
pub folded_from : {s : List ℕ} {at above : ℕ} → Standing s at above → folded (drop at s) ≡ wire (map folded (labels_of (drop at s)))
folded_from {s} {at} st = ap folded (sym st.back) ∙ folded_wire (labels_of (drop at s)) st.sizes

module _ {s : List ℕ} {at cut limit : ℕ} (w : Climbs s at cut limit) where
  pub climbs_between : between s at cut ≡ map folded w.labels
  climbs_between =
      let e : length (labels_of (drop at s)) - length (labels_of (drop cut s)) ≡ length w.labels =
      omega (arith, ap length w.joins, length-append w.labels (labels_of (drop cut s))) in
      ap (map folded)
      (ap (λ (n : ℕ). take n (labels_of (drop at s))) e
      ∙ ap (take (length w.labels)) w.joins
      ∙ take_at w.labels (labels_of (drop cut s)) (length w.labels) refl)

  pub climbs_size : at + size w.labels ≡ cut
  climbs_size =
      omega (
        arith,
        ap length (sym w.stands.back ∙ ap wire w.joins),
        wire_append w.labels (labels_of (drop cut s)),
        ap length w.ends.back,
        length-drop at s,
        length-drop cut s,
        inside w.stands,
        inside w.ends,
      )

  -- the folded octets are those of the labels up to the cut and from it on
  pub climbs_octets : folded (drop at s) ≡ wire (between s at cut ++ lower s cut)
  climbs_octets =
      folded_from w.stands
      ∙ ap (λ (ls : List (List ℕ)). wire (map folded ls)) w.joins
      ∙ ap wire (map_append folded w.labels (labels_of (drop cut s)))
      ∙ ap (λ (ls : List (List ℕ)). wire (ls ++ lower s cut)) (sym climbs_between)

  pub climbs_end : cut ≤ at → between s at cut ≡ []
  climbs_end h = climbs_between ∙ ap (map folded) (none w.labels (omega (arith, climbs_size)))
    where
      none : (ls : List (List ℕ)) → size ls ≤ 0 → ls ≡ []
      none [] g = refl
      none (l ∷ ls) g = absurd (omega arith)

-- a label that is tried, and the climb on from its parent
pub record Tried (s : List ℕ) (at cut limit : ℕ) : Type 0 where
  pub label : List ℕ
  pub octet : get_or s at 0 ≡ length label
  pub octets : take (length label) (drop (at + 1) s) ≡ label
  pub small : length label ≤ 63
  pub within : past s at < length s
  pub first : between s at cut ≡ folded label ∷ between s (past s at) cut
  pub parent : Climbs s (past s at) cut limit
  pub extent : past s at + size parent.labels ≡ cut

pub tried : {s : List ℕ} {at cut limit : ℕ} → Climbs s at cut limit → at < cut → Tried s at cut limit
tried {s} {at} {cut} {limit} w h = go w.labels refl
  where
    go : (ls : List (List ℕ)) → w.labels ≡ ls → Tried s at cut limit
    go [] e = absurd (omega (arith, climbs_size w, ap size e))
    go (l ∷ ls) e =
        let j : labels_of (drop at s) ≡ l ∷ (ls ++ labels_of (drop cut s)) =
        w.joins ∙ ap (λ (us : List (List ℕ)). us ++ labels_of (drop cut s)) e in
        let f : Here s at 1 = here s at 1 (counted w.stands 1 (omega (arith, ap length j))) (omega arith) in
        let g : f.label ∷ f.rest ≡ l ∷ (ls ++ labels_of (drop cut s)) = sym f.is ∙ j in
        let r : f.rest ≡ ls ++ labels_of (drop cut s) = cc g in
        let q : past s at ≡ at + 1 + length f.label = omega (arith, f.octet) in
        let p : Climbs s (past s at) cut limit =
        record {
          stands = rw q (counted f.next 0 (omega arith));
          ends = w.ends;
          labels = ls;
          joins = rw q (f.after ∙ r);
          fits = w.fits;
        } in
        let x : f.label ≡ l = cc g in
        record {
          label = f.label;
          octet = f.octet;
          octets = f.octets;
          small = f.small;
          within = rw q f.within;
          first = climbs_between w ∙ ap (map folded) e ∙ rw (x, climbs_between p);
          parent = p;
          extent = climbs_size p;
        }

-- ---- from the front of a name

module _ {s : List ℕ} {cut : ℕ} (b : Boundary s cut) where
  boundary_labels : labels_of (drop cut s) ≡ drop (before s cut) (labels_of s)
  boundary_labels = ap labels_of (sym b.tail) ∙ labels_wire (drop (before s cut) (labels_of s)) parts.1
    where
      parts : Sizes (take (before s cut) (labels_of s)) × Sizes (drop (before s cut) (labels_of s))
      parts =
          sizes_parts (take (before s cut) (labels_of s)) (drop (before s cut) (labels_of s))
          (rw (take-append-drop (before s cut) (labels_of s)) (label_sizes s b.whole))

  pub boundary_climbs : (limit : ℕ) → length s ≤ limit → Climbs s 0 cut limit
  boundary_climbs limit h =
      let e : labels_of s ≡ take (before s cut) (labels_of s) ++ labels_of (drop cut s) =
      sym (take-append-drop (before s cut) (labels_of s))
      ∙ ap (λ (ls : List (List ℕ)). take (before s cut) (labels_of s) ++ ls) (sym boundary_labels) in
      let v = sizes_parts (take (before s cut) (labels_of s)) (labels_of (drop cut s)) (rw e at (label_sizes s b.whole)) in
      record {
        stands = stands s b.whole;
        ends = record { sizes = v.1; back = ap wire boundary_labels ∙ b.tail; count = omega arith };
        labels = take (before s cut) (labels_of s);
        joins = e;
        fits = h;
      }
