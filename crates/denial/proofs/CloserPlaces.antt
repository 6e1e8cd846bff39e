-- Where the next closer name of a query that is a name begins (`closer_begins`): where the last label before the encloser's place does, if
-- a label begins there and the octets from there on are the encloser's, folded; otherwise the encloser is no proper ancestor
-- (`improper_unmarked`, `improper_unlike`).
use mathlib.Core.Path.{◌≡◌, sym, ◌∙◌}
use mathlib.Core.List.{List}
use mathlib.Core.Bool.{true, false, false≢true}
use Prim.Native.Nat.{ℕ, zero, suc, ◌+◌, ◌-◌, ◌≤◌, ◌<◌}
use native.Mathlib.Decide.{dec_le}
use native.Mathlib.Omega.{arith}
use lib.ListN.{length, take, drop, length-drop}
use lib.Seq.{take_all}
use Rattle.space.specs.Fold.{folded}
use Rattle.space.specs.Same.{same_octets}
use Rattle.space.proofs.SameBlocks.{same_octets_equal, same_octets_refl}
use Rattle.std.specs.Prelude.{Ok}
use Rattle.name.specs.Wire.{reading_of}
use Rattle.name.specs.Labels.{labels_of}
use Rattle.name.proofs.Whole.{whole_fits}
use Rattle.name.proofs.Labels.{label_sizes}
use Rattle.name.proofs.LabelSteps.{inside}
use Rattle.checks.specs.Under.{more}
use Rattle.checks.specs.Private.Boundary.{before, Boundary}
use Rattle.checks.specs.Private.LastAbove.{Places}
use Rattle.checks.specs.Private.Walks.{Walks}
use Rattle.checks.proofs.LabelPlaces.{place_of, boundary_place}
use Rattle.checks.proofs.Tails.{under_place, octets_of_under, apex_by_octets, under_by_octets}
use Rattle.covering.specs.NextCloser.{next_closer_of}
use Rattle.covering.specs.Denials.{Proper}
use Rattle.covering.proofs.Closers.{first_least, closer_proper, closer_found}
use Rattle.denial.specs.Private.Mark.{MarkOf}

module _ {encloser query : List ℕ} {mark : ℕ} (m : MarkOf encloser query mark) (whole : reading_of query ≡ Ok tt) where
  -- the query's octets from the mark on, as many as the encloser has
  abbrev tail : List ℕ
  tail = take (length encloser) (drop mark query)

  all : mark + length encloser ≡ length query → tail ≡ drop mark query
  all e = take_all (length encloser) (drop mark query) (simp length-drop (omega arith))

  -- a proper ancestor has fewer octets
  proper_mark : Proper encloser query → mark + length encloser ≡ length query
  proper_mark p =
      m.shorter (omega (
        arith,
        first_least (labels_of query) (more encloser query) (label_sizes query whole) (omega (arith, p.more)) (omega arith),
        under_place encloser query p.whole_encloser whole p.under,
      ))

  ends : Proper encloser query → Boundary query mark × (folded (drop mark query) ≡ folded encloser)
  ends p = octets_of_under encloser query p.whole_encloser whole p.under mark (proper_mark p)

  pub improper_unlike : false ≡ same_octets (folded tail) (folded encloser) → Proper encloser query → ⊥
  improper_unlike e p = false≢true (e ∙ rw (all (proper_mark p), (ends p).1) (same_octets_refl (folded encloser)))

  module _ {r : ℕ} (w : Walks query mark 1 r) where
    pub improper_unmarked : 255 ≤ r → Proper encloser query → ⊥
    improper_unmarked h p = w.none h (ends p).0

    module _ (h : r < 255) where
      -- a label begins at the mark, which is not the query's end
      begins : Boundary query mark
      begins = w.begins h

      pub closer_within : r ≤ length query
      closer_within = omega (arith, inside (w.last h).reaches.climbs.stands)

      longer : length encloser < length query
      longer = go (dec_le (length query) (length encloser))
        where
          go : Dec (length query ≤ length encloser) → length encloser < length query
          go (yes f) = absurd (omega (arith, m.other f, begins.within))
          go (no f) = omega (arith, f)

      marked : mark + length encloser ≡ length query
      marked = m.shorter longer

      -- a label takes two octets at least
      room : 2 ≤ mark
      room =
          omega (
            arith,
            first_least (labels_of query) (before query mark) (label_sizes query whole) (some (before query mark) (boundary_place begins))
                (omega arith),
            boundary_place begins,
          )
        where
          some : (n : ℕ) → place_of (labels_of query) n ≡ mark → 1 ≤ n
          some zero e = absurd (omega (arith, longer, marked))
          some (suc n) e = omega arith

      module _ (e : true ≡ same_octets (folded tail) (folded encloser)) where
        like : folded (drop mark query) ≡ folded encloser
        like = rw (all marked) at (same_octets_equal (folded tail) (folded encloser) (sym e))

        found : Places encloser 255 1 query r
        found =
            let c : length query - length encloser ≡ mark = omega (arith, marked) in
            record {
              most = w.most;
              passes = λ g.
                  rw c (record {
                    some = omega arith;
                    most = omega arith;
                    apex_whole = apex_by_octets encloser query mark begins like (omega (arith, whole_fits query whole, longer));
                    apex_fits = omega (arith, whole_fits query whole, room, marked);
                    name_fits = whole_fits query whole;
                    boundary = begins;
                    length_apex = marked;
                    is_under_lem = under_by_octets encloser query mark begins like;
                  });
              last = λ g. rw c (w.last g);
              refuses = λ g. absurd (omega arith);
            }

        pub closer_is_proper : Proper encloser query
        closer_is_proper = closer_proper encloser query r found h longer

        pub closer_begins : drop r query ≡ next_closer_of encloser query
        closer_begins = closer_found encloser query r found h longer
