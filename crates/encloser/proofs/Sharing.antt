-- What a query shares with a name is the longest ancestor of both (`is_shared`, `longest`): every ancestor of the query that is no longer
-- is one of the name (`shorter_shared`), and it is all of the name exactly for a query at or under it (`all_shared`, `shared_all`).
use mathlib.Core.Path.{◌≡◌, refl, sym, ap, ◌∙◌}
use mathlib.Core.List.{List, [], ◌++◌, append_assoc}
use mathlib.Core.Bool.{true}
use Prim.Native.Nat.{ℕ, ◌-◌, ◌≤◌, ◌<◌}
use native.Mathlib.Omega.{arith}
use native.Mathlib.Decide.{dec_le, dec_lt}
use lib.ListN.{length, take, length-append, length-map, take-append-drop}
use Rattle.facts.proofs.Lists.{length_none}
use Rattle.std.specs.Prelude.{Ok}
use Rattle.name.specs.Wire.{reading_of}
use Rattle.name.specs.Labels.{wire, labels_of}
use Rattle.space.specs.Fold.{folded}
use Rattle.order.specs.Order.{folded_labels}
use Rattle.checks.specs.Under.{is_under, above}
use Rattle.checks.proofs.UnderLabels.{under_labels, labels_under}
use Rattle.encloser.specs.Encloser.{shared, shared_ancestor}
use Rattle.encloser.specs.Closest.{Shared}
use Rattle.encloser.proofs.Ancestors.{Common, common, common_most, ending, as_many_octets, more_octets, octets_labels}
use Rattle.encloser.proofs.Ancestors.{ancestor_whole, ancestor_all, ancestor_labels, ancestor_octets}

module _ (query name : List ℕ) (whole : reading_of name ≡ Ok tt) where
  pub sharing : Common (folded_labels query) (folded_labels name) (shared query name)
  sharing = common (folded_labels query) (folded_labels name)

  pub sharing_labels : folded_labels (shared_ancestor query name) ≡ sharing.labels
  sharing_labels = ancestor_labels name whole (shared query name) sharing.second sharing.labels sharing.second_is sharing.count

  pub sharing_octets : length (shared_ancestor query name) ≡ length (wire sharing.labels)
  sharing_octets = ancestor_octets name whole (shared query name) sharing.second sharing.labels sharing.second_is sharing.count

  pub is_shared : Shared (shared_ancestor query name) query name
  is_shared =
      let answer : List ℕ = shared_ancestor query name in
      record {
        whole = ancestor_whole name whole (shared query name);
        of_query_lem = labels_under answer query sharing.first (rw sharing_labels sharing.first_is);
        of_name = labels_under answer name sharing.second (rw sharing_labels sharing.second_is);
      }

  pub longest : (other : List ℕ) → Shared other query name → length other ≤ length (shared_ancestor query name)
  longest other s =
      let u = under_labels other query s.of_query_lem in
      let n : length (folded_labels other) ≤ shared query name =
      common_most (folded_labels query) (folded_labels name) (above other query) (above other name) (folded_labels other) u
      (under_labels other name s.of_name) in
      rw (octets_labels other s.whole, sharing_octets)
      (as_many_octets (folded_labels query) sharing.first sharing.labels (above other query) (folded_labels other) sharing.first_is u
      (omega (arith, sharing.count)))

  -- an ancestor of the query that is no longer is shared too
  pub shorter_shared : (other : List ℕ) → reading_of other ≡ Ok tt → is_under other query ≡ true
      → length other ≤ length (shared_ancestor query name) → is_under other name ≡ true
  shorter_shared other e u h =
      let As : List (List ℕ) = folded_labels other in
      let ds : List (List ℕ) = sharing.labels in
      let n : length As ≤ length ds = fewer (dec_le (length As) (length ds)) in
      let i : ℕ = length ds - length As in
      labels_under other name (sharing.second ++ take i ds)
      (sharing.second_is
      ∙ ap (λ (x : List (List ℕ)). sharing.second ++ x)
      (sym (take-append-drop i ds)
      ∙ ap (λ (x : List (List ℕ)). take i ds ++ x)
      (ending (folded_labels query) sharing.first ds (above other query) As sharing.first_is (under_labels other query u) n))
      ∙ sym (append_assoc sharing.second (take i ds) As))
    where
      fewer : Dec (length (folded_labels other) ≤ length sharing.labels) → length (folded_labels other) ≤ length sharing.labels
      fewer (yes p) = p
      fewer (no f) =
          absurd
          (omega (
            arith,
            more_octets (folded_labels query) (above other query) (folded_labels other) sharing.first sharing.labels
                (under_labels other query u) sharing.first_is (omega arith),
            octets_labels other e,
            sharing_octets,
          ))

  -- a query at or under the name shares all of it, and no other does
  pub all_shared : is_under name query ≡ true → shared_ancestor query name ≡ name
  all_shared u =
      ancestor_all name whole (shared query name)
      (omega (
        arith,
        length-map (labels_of name) folded,
        common_most (folded_labels query) (folded_labels name) (above name query) [] (folded_labels name) (under_labels name query u) refl,
      ))

  pub shared_all : length (shared_ancestor query name) ≡ length name → is_under name query ≡ true
  shared_all e = go (dec_lt (length sharing.labels) (length (folded_labels name)))
    where
      go : Dec (length sharing.labels < length (folded_labels name)) → is_under name query ≡ true
      go (yes h) =
          absurd
          (omega (
            arith,
            more_octets (folded_labels name) [] (folded_labels name) sharing.second sharing.labels refl sharing.second_is h,
            sharing_octets,
            octets_labels name whole,
          ))
      go (no f) =
          let z : sharing.second ≡ [] =
          length_none sharing.second
          (omega (arith, ap length sharing.second_is, length-append sharing.second sharing.labels)) in
          let m : folded_labels name ≡ sharing.labels = sharing.second_is ∙ ap (λ (x : List (List ℕ)). x ++ sharing.labels) z in
          labels_under name query sharing.first (rw m sharing.first_is)

-- with names of the same labels the query shares as much
pub alike_octets : (query first second : List ℕ) → reading_of first ≡ Ok tt → reading_of second ≡ Ok tt
    → folded_labels first ≡ folded_labels second → length (shared_ancestor query first) ≡ length (shared_ancestor query second)
unfolding sharing
alike_octets query first second wf ws e =
    sharing_octets query first wf
    ∙ ap (λ (ls : List (List ℕ)). length (wire (common (folded_labels query) ls).labels)) e
    ∙ sym (sharing_octets query second ws)
