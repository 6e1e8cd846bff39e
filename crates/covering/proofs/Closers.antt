-- The next closer name is the query's ancestor with one label more than the encloser (`proper_closer`), and it begins where the last label
-- above the encloser does (`closer_found`): the labels before that are all but so many of the query's.
use mathlib.Core.Path.{◌≡◌, sym, ap, ◌∙◌}
use mathlib.Core.List.{List, [], ◌∷◌, ◌++◌, map}
use mathlib.Core.Bool.{Bool, true, ◌&&◌, true≢false}
use Prim.Native.Nat.{ℕ, zero, suc, ◌+◌, ◌-◌, ◌≤◌, ◌<◌}
use native.Mathlib.Omega.{arith}
use borrow.Author.Tests.{ltb-true, lt-ltb}
use lib.Dec.{ltb}
use lib.ListN.{length, take, drop, length-append, length-drop, length-map, take-append-drop}
use lib.Seq.{drop-append-le, take-take, take-append_seam, length-take-le}
use Rattle.facts.proofs.Booleans.{both_true, never_true}
use Rattle.facts.proofs.Lists.{map_take}
use Rattle.space.specs.Fold.{folded}
use Rattle.name.specs.Wire.{reading_of}
use Rattle.name.specs.Labels.{wire, Sizes, labels_of}
use Rattle.name.specs.Answer.{Result, answer, refusal}
use Rattle.name.proofs.Whole.{whole_fits}
use Rattle.name.proofs.Labels.{label_sizes}
use Rattle.order.specs.Order.{folded_labels}
use Rattle.zone.specs.Zone.{size}
use Rattle.checks.specs.Under.{is_under, more, above}
use Rattle.checks.specs.Checks.{checks}
use Rattle.checks.specs.Private.Boundary.{before, upper}
use Rattle.checks.specs.Private.Climbs.{between}
use Rattle.checks.specs.Private.LastAbove.{Places}
use Rattle.checks.proofs.Lists.{folded_size}
use Rattle.checks.proofs.UnderLabels.{under_labels, labels_under}
use Rattle.checks.proofs.CheckLines.{checks_passed}
use Rattle.checks.proofs.LabelPlaces.{place_of, place_labels, place_stands, boundary_place}
use Rattle.checks.proofs.Tails.{under_place}
use Rattle.checks.proofs.Placing.{placed_more}
use Rattle.encloser.specs.Gap.{is_whole}
use Rattle.encloser.specs.Encloser.{ancestor}
use Rattle.encloser.proofs.Gaps.{whole_true, true_whole}
use Rattle.encloser.proofs.Ancestors.{ancestor_end, ancestor_whole, ancestor_labels}
use Rattle.covering.specs.NextCloser.{is_proper, next_closer_of}
use Rattle.covering.specs.Denials.{Proper, NextCloser}
-- passed on, so that a wrong next closer name is refused at an example before any law of it is tried
pub use Rattle.covering.proofs.Examples.{closer_of_three, closer_itself, closer_none}

-- a label takes an octet at least
size_least : (ls : List (List ℕ)) → length ls ≤ size ls
size_least [] = omega arith
size_least (l ∷ ls) = omega (arith, size_least ls)

-- the first labels of a name, one at least, take two octets at least
pub first_least : (ls : List (List ℕ)) (n : ℕ) → Sizes ls → 1 ≤ n → n ≤ length ls → 2 ≤ place_of ls n
first_least ls zero sizes some few = absurd (omega arith)
first_least [] (suc n) sizes some few = absurd (omega arith)
first_least (l ∷ ls) (suc n) sizes some few = omega (arith, sizes.0)

module _ (encloser query : List ℕ) where
  abbrev few : ℕ
  few = length (labels_of encloser)

  abbrev many : ℕ
  many = length (labels_of query)

  -- ---- the test of a proper ancestor

  pub true_proper : is_proper encloser query ≡ true → Proper encloser query
  true_proper t =
      let e : Bool = is_whole (reading_of encloser) in
      let q : Bool = is_whole (reading_of query) in
      let c = both_true (e && q && is_under encloser query) (ltb few many) t in
      let b = both_true (e && q) (is_under encloser query) c.0 in
      let a = both_true e q b.0 in
      record {
        whole_encloser = whole_true (reading_of encloser) a.0;
        whole_query = whole_true (reading_of query) a.1;
        under = b.1;
        more = ltb-true few many c.1;
      }

  pub proper_true : Proper encloser query → is_proper encloser query ≡ true
  proper_true p =
      rw (
        true_whole (reading_of encloser) p.whole_encloser,
        true_whole (reading_of query) p.whole_query,
        p.under,
        lt-ltb few many p.more,
      )

  pub improper_closer : (Proper encloser query → ⊥) → next_closer_of encloser query ≡ []
  improper_closer f = rw (never_true (is_proper encloser query) (λ t. f (true_proper t)))

  -- ---- what the next closer name is

  module _ (p : Proper encloser query) where
    pub closer_is : next_closer_of encloser query ≡ ancestor query (few + 1)
    closer_is = rw (proper_true p)

    -- the limit of all names leaves room for a name under the encloser, since the query is one
    encloser_fits : length encloser + 2 ≤ 255
    encloser_fits =
        omega (
          arith,
          first_least (labels_of query) (more encloser query) (label_sizes query p.whole_query) (omega (arith, p.more)) (omega arith),
          under_place encloser query p.whole_encloser p.whole_query p.under,
          whole_fits query p.whole_query,
        )

    -- the query's labels before it, and its own
    abbrev front : List (List ℕ)
    front = take (many - (few + 1)) (folded_labels query)

    abbrev own : List (List ℕ)
    own = drop (many - (few + 1)) (folded_labels query)

    parts : folded_labels query ≡ front ++ own
    parts = sym (take-append-drop (many - (few + 1)) (folded_labels query))

    own_count : length own ≡ few + 1
    own_count =
        length-drop (many - (few + 1)) (folded_labels query) ∙ omega (arith, length-map (labels_of query) folded, p.more)

    closer_labels : folded_labels (ancestor query (few + 1)) ≡ own
    closer_labels = ancestor_labels query p.whole_query (few + 1) front own parts own_count

    -- the encloser's labels come behind one of its own
    own_parts : own ≡ drop (many - (few + 1)) (above encloser query) ++ folded_labels encloser
    own_parts =
        let n : length (above encloser query) ≡ many - few =
        length-take-le (more encloser query) (folded_labels query) (omega (arith, length-map (labels_of query) folded)) in
        ap (drop (many - (few + 1))) (under_labels encloser query p.under)
        ∙ drop-append-le (many - (few + 1)) (above encloser query) (folded_labels encloser) (omega arith)

    pub proper_closer : NextCloser encloser query (next_closer_of encloser query)
    proper_closer =
        rw closer_is (record {
          whole = ancestor_whole query p.whole_query (few + 1);
          part = ancestor_end query p.whole_query (few + 1);
          above_query =
              labels_under (ancestor query (few + 1)) query front
              (parts ∙ ap (λ (ls : List (List ℕ)). front ++ ls) (sym closer_labels));
          under_encloser =
              labels_under encloser (ancestor query (few + 1)) (drop (many - (few + 1)) (above encloser query))
              (closer_labels ∙ own_parts);
          one_more =
              sym (length-map (labels_of (ancestor query (few + 1))) folded) ∙ ap length closer_labels ∙ own_count;
        })

  -- ---- where it begins

  module _ (r : ℕ) (found : Places encloser 255 1 query r) where
    -- the checks refuse what is no proper ancestor
    pub closer_refused : 255 ≤ r → [] ≡ next_closer_of encloser query
    closer_refused h =
        sym (improper_closer (λ p. never (passed p (answer [])) (found.refuses h (answer [])) (passed p (refusal 6 []))))
      where
        passed : Proper encloser query → (next : Result (List ℕ)) → checks encloser 255 query next ≡ next
        passed p next =
            checks_passed encloser 255 query (record {
              some = omega arith;
              most = omega arith;
              apex_whole = p.whole_encloser;
              apex_fits = encloser_fits p;
              name_whole = p.whole_query;
              name_fits = whole_fits query p.whole_query;
              is_under_lem = p.under;
            })
            next

        never : {x y : Result (List ℕ)} → x ≡ answer [] → x ≡ y → y ≡ refusal 6 [] → ⊥
        never e f g = let h = sym e ∙ f ∙ g in true≢false (cc)

    module _ (inside : r < 255) where
      abbrev cut : ℕ
      cut = length query - length encloser

      -- the labels above the encloser lead to the cut
      leads : place_of (labels_of query) (more encloser query) ≡ cut
      leads = let p = found.passes inside in rw (placed_more p) at (boundary_place p.boundary)

      -- as many octets lead there at least
      cut_least : more encloser query ≤ cut
      cut_least =
          omega (
            arith,
            size_least (take (more encloser query) (labels_of query)),
            length-take-le (more encloser query) (labels_of query) (omega arith),
            leads,
          )

      pub closer_same : length query ≤ length encloser → [] ≡ next_closer_of encloser query
      closer_same h = sym (improper_closer (λ p. omega (arith, cut_least, p.more)))

      module _ (longer : length encloser < length query) where
        some_more : (n : ℕ) → place_of (labels_of query) n ≡ cut → 1 ≤ n
        some_more zero e = absurd (omega arith)
        some_more (suc n) e = omega arith

        pub closer_proper : Proper encloser query
        closer_proper =
            let p = found.passes inside in
            record {
              whole_encloser = p.apex_whole;
              whole_query = p.boundary.whole;
              under = p.is_under_lem;
              more = omega (arith, some_more (more encloser query) leads);
            }

        -- the labels before it
        abbrev passed : List (List ℕ)
        passed = (found.last inside).reaches.passed

        count : length passed ≡ many - (few + 1)
        count =
            let a = found.last inside in
            let u : List (List ℕ) = upper query cut in
            omega (
              arith,
              ap length a.reaches.joins,
              length-append passed (between query r cut),
              ap length a.last,
              length-drop (length u - 1) u,
              length-map (take (before query cut) (labels_of query)) folded,
              length-take-le (before query cut) (labels_of query) (omega arith),
              placed_more (found.passes inside),
              some_more (more encloser query) leads,
            )

        begins : place_of (labels_of query) (length passed) ≡ r
        begins =
            let a = found.last inside in
            let n : ℕ = before query cut in
            let ls : List (List ℕ) = labels_of query in
            sym (folded_size (take (length passed) ls))
            ∙ ap size
            (ap (map folded) (sym (take-take (length passed) n ls (omega (arith, count, placed_more (found.passes inside)))))
            ∙ map_take folded (length passed) (take n ls)
            ∙ ap (take (length passed)) a.reaches.joins
            ∙ take-append_seam passed (between query r cut))
            ∙ a.reaches.extent

        pub closer_found : drop r query ≡ next_closer_of encloser query
        closer_found =
            let w = closer_proper.whole_query in
            ap (λ (i : ℕ). drop i query) (sym begins)
            ∙ sym (place_stands query w (length passed)).back
            ∙ ap wire (place_labels query w (length passed))
            ∙ ap (λ (i : ℕ). wire (drop i (labels_of query))) count
            ∙ sym (closer_is closer_proper)
