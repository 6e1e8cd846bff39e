-- A name that passes the checks: the labels of its octets up to the cut and from it on are those above the apex and the apex's, folded, and
-- every operation's answer is what its steps make of them (`placed_under`). It passes where the walk finds a label at the cut and the
-- octets from there on are the apex's, folded (`places_walked`), and nowhere else.
use mathlib.Core.Path.{◌≡◌, sym, ap, ◌∙◌}
use mathlib.Core.List.{List, ◌++◌}
use mathlib.Core.Bool.{true, false, false≢true}
use Prim.Native.Nat.{ℕ, ◌+◌, ◌-◌, ◌≤◌, ◌<◌}
use native.Mathlib.Omega.{arith}
use lib.ListN.{length, take, drop, length-drop}
use lib.Seq.{take_all}
use Rattle.name.specs.Labels.{wire, labels_of}
use Rattle.space.specs.Fold.{folded}
use Rattle.name.specs.Answer.{Result}
use Rattle.order.specs.Order.{folded_labels}
use Rattle.space.specs.Same.{same_octets}
use Rattle.checks.specs.Under.{more, above, under}
use Rattle.checks.specs.Checks.{checks}
use Rattle.checks.specs.Private.Boundary.{before, upper, lower, atop, Boundary, Passes}
use Rattle.checks.specs.Private.LastAbove.{Places}
use Rattle.checks.specs.Private.Walks.{Walks}
use Rattle.facts.proofs.Lists.{map_take}
use Rattle.checks.proofs.LabelPlaces.{place_of}
use Rattle.checks.proofs.LastAbove.{place_before}
use Rattle.space.proofs.SameBlocks.{same_octets_equal, same_octets_refl}
use Rattle.checks.proofs.Tails.{under_place, under_cut, octets_of_under, apex_labels, apex_by_octets, under_by_octets}
use Rattle.checks.proofs.CheckLines.{Admitted, checks_passed, checks_refused}

module _ {apex : List ℕ} {limit : ℕ} {name : List ℕ} {cut : ℕ} (p : Passes apex limit name cut) where
  begins : place_of (labels_of name) (more apex name) ≡ cut
  begins = under_cut apex name p.apex_whole p.boundary.whole p.is_under_lem cut p.length_apex

  pub placed_length : length name - cut ≡ length apex
  placed_length = omega (arith, p.length_apex)

  pub placed_lower : lower name cut ≡ folded_labels apex
  placed_lower =
      sym (apex_labels apex name cut p.boundary
      (octets_of_under apex name p.apex_whole p.boundary.whole p.is_under_lem cut p.length_apex).1)

  pub placed_more : before name cut ≡ more apex name
  placed_more = rw begins at (place_before name p.boundary.whole (more apex name) (omega arith))

  pub placed_upper : upper name cut ≡ above apex name
  placed_upper =
      map_take folded (before name cut) (labels_of name) ∙ ap (λ (n : ℕ). take n (folded_labels name)) placed_more

  pub placed_passes : {A : Type 0} (next : Result A) → checks apex limit name next ≡ next
  placed_passes next =
      checks_passed apex limit name (record {
        some = p.some;
        most = p.most;
        apex_whole = p.apex_whole;
        apex_fits = p.apex_fits;
        name_whole = p.boundary.whole;
        name_fits = p.name_fits;
        is_under_lem = p.is_under_lem;
      })
      next

  -- whatever the steps make of the octets that the limit leaves above the apex and the labels above it
  module _ (steps : ℕ → List (List ℕ) → List (List ℕ)) where
    pub placed_under : under apex (steps (limit - length apex) (above apex name))
        ≡ atop name cut (steps (limit - (length name - cut)) (upper name cut))
    placed_under =
        ap (λ (ls : List (List ℕ)). wire (steps (limit - length apex) (above apex name) ++ ls)) (sym placed_lower)
        ∙ ap (λ (ls : List (List ℕ)). atop name cut (steps (limit - length apex) ls)) (sym placed_upper)
        ∙ ap (λ (n : ℕ). atop name cut (steps (limit - n) (upper name cut))) (sym placed_length)

-- ---- what the checks find

module _ (apex : List ℕ) (limit : ℕ) (name : List ℕ) where
  pub places_none : {depth : ℕ} → (Admitted apex limit name → ⊥) → Places apex limit depth name 255
  places_none f =
      record {
        most = omega arith;
        passes = λ h. absurd (omega arith);
        last = λ h. absurd (omega arith);
        refuses = λ h. checks_refused apex limit name f;
      }

  pub short_out : length name < length apex → Admitted apex limit name → ⊥
  short_out h a = omega (arith, under_place apex name a.apex_whole a.name_whole a.is_under_lem)

  module _ (h : length apex ≤ length name) where
    -- where the apex's octets would begin, and those from there on
    abbrev cut : ℕ
    cut = length name - length apex

    abbrev tail : List ℕ
    tail = take (length apex) (drop (length name - length apex) name)

    all : tail ≡ drop (length name - length apex) name
    all = take_all (length apex) (drop (length name - length apex) name) (simp length-drop (omega arith))

    cuts : cut + length apex ≡ length name
    cuts = omega arith

    tails : Admitted apex limit name → Boundary name cut × (folded tail ≡ folded apex)
    tails a = rw all (octets_of_under apex name a.apex_whole a.name_whole a.is_under_lem cut cuts)

    pub unlike_out : false ≡ same_octets (folded tail) (folded apex) → Admitted apex limit name → ⊥
    unlike_out e a = false≢true (e ∙ rw (tails a).1 (same_octets_refl (folded apex)))

    pub uncut_out : (Boundary name (length name - length apex) → ⊥) → Admitted apex limit name → ⊥
    uncut_out f a = f (tails a).0

    module _ (most : limit ≤ 255) (fits : length name ≤ limit) (room : length apex + 2 ≤ limit)
        (e : true ≡ same_octets (folded tail) (folded apex)) where
      like : folded (drop cut name) ≡ folded apex
      like = rw all at (same_octets_equal (folded tail) (folded apex) (sym e))

      pub passes_cut : Boundary name (length name - length apex) → Passes apex limit name (length name - length apex)
      passes_cut b =
          record {
            some = omega (arith, b.within);
            most = most;
            apex_whole = apex_by_octets apex name cut b like (omega arith);
            apex_fits = room;
            name_fits = fits;
            boundary = b;
            length_apex = cuts;
            is_under_lem = under_by_octets apex name cut b like;
          }

      pub places_walked : {depth r : ℕ} → Walks name cut depth r → Places apex limit depth name r
      places_walked w =
          record {
            most = w.most;
            passes = λ g. passes_cut (w.begins g);
            last = w.last;
            refuses = λ g. checks_refused apex limit name (uncut_out (w.none g));
          }
