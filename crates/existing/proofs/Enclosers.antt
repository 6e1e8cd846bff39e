-- The encloser that is read off the gap of a query is the closest one in the whole zone (`closest`): what exists has an owner under it, on
-- one side of the gap, so what encloses the query too has the end of the gap on that side under it.
use mathlib.Core.Path.{◌≡◌}
use mathlib.Core.List.{List, [], Memᴰ}
use mathlib.Core.Bool.{true}
use mathlib.Core.Logic.{◌⊎◌, inl, inr, ◌↔◌}
use Prim.Native.Nat.{ℕ, ◌<◌}
use lib.ListN.{length, get_or}
use Rattle.std.specs.Prelude.{Ok}
use Rattle.name.specs.Wire.{reading_of}
use Rattle.space.specs.Fold.{folded}
use Rattle.checks.specs.Under.{is_under}
use Rattle.encloser.specs.Encloser.{closest_of}
use Rattle.encloser.specs.Closest.{InGap, Shared, Closest}
use Rattle.encloser.proofs.Closest.{closest_enclosers}
use Rattle.owners.specs.Gaps.{next_of}
use Rattle.owners.proofs.Accepting.{Listed}
use Rattle.existing.specs.Existing.{Exists, IsClosest}
use Rattle.existing.proofs.Subtrees.{amid}
use Rattle.existing.proofs.Sides.{Sides, sides, at_member, next_member}
use Rattle.existing.proofs.Gaps.{owned}
use Rattle.existing.proofs.Ancestors.{shorter_above, closest_only, own_closest, exists_alike}

module _ {apex : List ℕ} {limit : ℕ} {owners : List (List ℕ)} (va : reading_of apex ≡ Ok tt) (l : Listed apex limit owners)
    (i : ℕ) (h : i < length owners) (query : List ℕ) (uq : is_under apex query ≡ true)
    (g : InGap query (get_or owners i []) (next_of owners i)) where
  abbrev owner : List ℕ
  owner = get_or owners i []

  abbrev following : List ℕ
  following = next_of owners i

  abbrev encloser : List ℕ
  encloser = closest_of query owner following

  -- what exists and encloses the query has an end of the gap under it
  ends_share : (other : List ℕ) → Exists apex owners other → is_under other query ≡ true
      → Shared other query owner ⊎ Shared other query following
  ends_share other (w, u, (o, m, k)) e = go (sides l i h o m)
    where
      go : Sides l i h o → Shared other query owner ⊎ Shared other query following
      go (inl n) =
          inl (record { whole = w; of_query_lem = e; of_name = amid other o owner query k e n (inl g.after_owner) })
      go (inr (s, n)) =
          inr (record { whole = w; of_query_lem = e; of_name = amid other query following o e k (inl (g.before_next s)) n })

  read_off : Closest query owner following encloser
  read_off = closest_enclosers.in_gap query owner following g

  -- an ancestor that the query shares with an owner exists
  shared_exists : (name : List ℕ) → Memᴰ name owners → Shared encloser query name
      → Exists apex owners encloser × (is_under encloser query ≡ true)
  shared_exists name m s =
      let a : Shared apex query owner = record {
        whole = va;
        of_query_lem = uq;
        of_name = (owned va l owner (at_member owners i [] h)).under;
      } in (
        (
          s.whole,
          shorter_above apex encloser query va s.whole uq s.of_query_lem (read_off.longest apex (inl a)),
          (name, m, s.of_name),
        ),
        s.of_query_lem,
      )

  encloser_exists : Exists apex owners encloser × (is_under encloser query ≡ true)
  encloser_exists = go read_off.is_shared
    where
      go : Shared encloser query owner ⊎ Shared encloser query following
          → Exists apex owners encloser × (is_under encloser query ≡ true)
      go (inl s) = shared_exists owner (at_member owners i [] h) s
      go (inr s) = shared_exists following (next_member l i h) s

  pub closest : IsClosest apex owners query encloser
  closest =
      record {
        exists = encloser_exists.0;
        encloses = encloser_exists.1;
        longest = λ other e u. read_off.longest other (ends_share other e u);
      }

  -- it is the query itself exactly where the query exists
  pub itself : (folded encloser ≡ folded query) ↔ Exists apex owners query
  itself = (
    λ e. exists_alike apex owners encloser query g.whole_query uq e closest.exists,
    λ x. closest_only encloser query closest (own_closest apex owners query x),
  )
