-- The last labels above the apex, by the places where a name's labels begin: the last `depth` of the first n begin where the label of index
-- n - depth does (`place_last`). From there labels lead to the cut (`last_climbs`), and that is the front exactly where there are at most
-- `depth` (`last_more`, `last_all`).
use mathlib.Core.Path.{◌≡◌, refl, sym, ap, ◌∙◌}
use mathlib.Core.List.{List, [], ◌∷◌, ◌++◌, map}
use Prim.Native.Nat.{ℕ, ◌+◌, ◌-◌, ◌≤◌, ◌<◌}
use native.Mathlib.Omega.{arith}
use lib.ListN.{length, take, drop, length-append, length-drop, length-map, take-append-drop}
use lib.Seq.{drop-append-le, take-take, length-take-le}
use Rattle.std.specs.Prelude.{Ok}
use Rattle.name.specs.Wire.{reading_of}
use Rattle.name.specs.Labels.{wire, labels_of}
use Rattle.space.specs.Fold.{folded}
use Rattle.name.proofs.LabelSteps.{inside}
use Rattle.zone.specs.Zone.{size}
use Rattle.zone.specs.Steps.{last_labels}
use Rattle.checks.specs.Private.Boundary.{before, upper, lower, Boundary}
use Rattle.checks.specs.Private.Climbs.{between, Climbs}
use Rattle.checks.specs.Private.LastAbove.{Reaches, LastAbove}
use Rattle.facts.proofs.Lists.{map_drop, map_append}
use Rattle.checks.proofs.Lists.{folded_size}
use Rattle.checks.proofs.Climbing.{climbs_between, climbs_octets}
use Rattle.checks.proofs.LabelPlaces.{place_of, place_labels, place_stands}

module _ (s : List ℕ) (whole : reading_of s ≡ Ok tt) (n : ℕ) (h : n ≤ length (labels_of s)) where
  -- the first n labels lead to this place
  abbrev cut : ℕ
  cut = place_of (labels_of s) n

  pub place_before : before s (place_of (labels_of s) n) ≡ n
  place_before = rw (place_labels s whole n) (omega (arith, length-drop n (labels_of s)))

  pub place_boundary : Boundary s (place_of (labels_of s) n)
  place_boundary =
      record {
        whole = whole;
        within = inside (place_stands s whole n);
        tail = rw place_before (ap wire (sym (place_labels s whole n)) ∙ (place_stands s whole n).back);
      }

  place_upper : upper s cut ≡ map folded (take n (labels_of s))
  place_upper = ap (λ (k : ℕ). map folded (take k (labels_of s))) place_before

  count : length (take n (labels_of s)) ≡ n
  count = length-take-le n (labels_of s) h

  module _ (i : ℕ) (g : i ≤ n) where
    place_climbs : Climbs s (place_of (labels_of s) i) cut (length s)
    place_climbs =
        record {
          stands = place_stands s whole i;
          ends = place_stands s whole n;
          labels = drop i (take n (labels_of s));
          joins =
              place_labels s whole i
              ∙ ap (drop i) (sym (take-append-drop n (labels_of s)))
              ∙ drop-append-le i (take n (labels_of s)) (drop n (labels_of s)) (omega (arith, count))
              ∙ ap (λ (ms : List (List ℕ)). drop i (take n (labels_of s)) ++ ms) (sym (place_labels s whole n));
          fits = omega arith;
        }

    place_reaches : Reaches s cut (place_of (labels_of s) i)
    unfolding place_climbs
    place_reaches =
        let ls : List (List ℕ) = take n (labels_of s) in
        record {
          climbs = place_climbs;
          passed = map folded (take i ls);
          joins =
              place_upper
              ∙ ap (map folded) (sym (take-append-drop i ls))
              ∙ map_append folded (take i ls) (drop i ls)
              ∙ ap (λ (ms : List (List ℕ)). map folded (take i ls) ++ ms) (sym (climbs_between place_climbs));
          extent = folded_size (take i ls) ∙ ap size (take-take i n (labels_of s) g);
        }

  pub place_last : (depth : ℕ) → LastAbove s (place_of (labels_of s) n) depth (place_of (labels_of s) (n - depth))
  unfolding place_climbs
  place_last depth =
      let ls : List (List ℕ) = take n (labels_of s) in
      let e : length (map folded ls) - depth ≡ n - depth = omega (arith, length-map ls folded, count) in
      record {
        reaches = place_reaches (n - depth) (omega arith);
        last =
            climbs_between (place_climbs (n - depth) (omega arith))
            ∙ map_drop folded (n - depth) ls
            ∙ sym (ap (last_labels depth) place_upper ∙ ap (λ (k : ℕ). drop k (map folded ls)) e);
      }

-- ---- what follows

no_octets : (ls : List (List ℕ)) → size ls ≡ 0 → length ls ≡ 0
no_octets [] e = refl
no_octets (l ∷ ls) e = absurd (omega arith)

module _ {s : List ℕ} {cut depth at : ℕ} (a : LastAbove s cut depth at) where
  counts : (length (upper s cut) ≡ length a.reaches.passed + length (between s at cut))
      × (length (between s at cut) ≡ length (upper s cut) - (length (upper s cut) - depth))
  counts = (
    ap length a.reaches.joins ∙ length-append a.reaches.passed (between s at cut),
    ap length a.last ∙ length-drop (length (upper s cut) - depth) (upper s cut),
  )

  pub last_climbs : (limit : ℕ) → length s ≤ limit → Climbs s at cut limit
  last_climbs limit h =
      let w = a.reaches.climbs in record { stands = w.stands; ends = w.ends; labels = w.labels; joins = w.joins; fits = h }

  -- there are others before them
  pub last_more : 0 < at → depth < length (upper s cut)
  last_more h = go a.reaches.passed a.reaches.extent counts.0
    where
      go : (ls : List (List ℕ)) → size ls ≡ at → length (upper s cut) ≡ length ls + length (between s at cut) → depth < length (upper s cut)
      go [] e g = absurd (omega arith)
      go (l ∷ ls) e g = omega (arith, counts.1)

  -- there are none before them
  pub last_all : at ≡ 0 → length (upper s cut) ≤ depth
  last_all z = omega (arith, counts.0, counts.1, no_octets a.reaches.passed (a.reaches.extent ∙ z))

  -- the octets from there on are those of these labels and of those from the cut on
  pub last_octets : folded (drop at s) ≡ wire (last_labels depth (upper s cut) ++ lower s cut)
  last_octets = climbs_octets a.reaches.climbs ∙ ap (λ (ls : List (List ℕ)). wire (ls ++ lower s cut)) a.last
