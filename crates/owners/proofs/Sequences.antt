-- A list is accepted exactly where it lays out the apex and members of the zone in the canonical order, each once (`accepted_list`,
-- `list_accepted`); and such a list is the only one with its members (`list_unique`).
use mathlib.Core.Path.{◌≡◌, refl, sym, ap, ◌∙◌}
use mathlib.Core.List.{List, [], ◌∷◌, ◌++◌, Memᴰ}
use mathlib.Core.Bool.{true, true≢false}
use Prim.Native.Nat.{ℕ, suc, ◌+◌, ◌≤◌}
use native.Mathlib.Omega.{arith}
use borrow.Author.Tests.{eqb-true}
use lib.ListN.{length, drop}
use Rattle.std.specs.Prelude.{Ok}
use Rattle.name.specs.Wire.{read_from, reading_of}
use Rattle.name.specs.Labels.{AllOctets}
use Rattle.name.specs.Answer.{answer}
use Rattle.name.proofs.Folding.{folded_whole}
use Rattle.space.specs.Octets.{Octets}
use Rattle.space.specs.Fold.{folded}
use Rattle.owners.specs.Layout.{owners_of}
use Rattle.owners.specs.Members.{starts_at_front}
use Rattle.owners.specs.Lists.{Rises, none, next, IsList, joined, starts_from, LaysOut}
use Rattle.owners.specs.Answers.{check_within}
use Rattle.owners.proofs.Following.{Tested, zone_tested, rises_map, rises_zone}
use Rattle.owners.proofs.Placement.{AllSome, owners_lay_out, laid_out}
use Rattle.owners.proofs.Accepting.{Accepted, accepted_check}
use Rattle.owners.proofs.Uniqueness.{behind, rises_unique}

-- ---- what has octets

whole_some : (s : List ℕ) → reading_of s ≡ Ok tt → 1 ≤ length s
unfolding read_from
whole_some [] e = absurd (true≢false (cc))
whole_some (o ∷ s) e = omega arith

rises_some : {apex : List ℕ} {limit : ℕ} {before : List ℕ} {os : List (List ℕ)} → Rises (Tested apex limit) before os → AllSome os
rises_some none = tt
rises_some (next o t s r) = (whole_some o t.whole, rises_some r)

pub octets_parts : (s t : List ℕ) → Octets (s ++ t) → Octets s × Octets t
octets_parts [] t h = (tt, h)
octets_parts (o ∷ s) t h = let k = octets_parts s t h.1 in ((h.0, k.0), k.1)

octets_joined : (os : List (List ℕ)) → Octets (joined os) → AllOctets os
unfolding joined
octets_joined [] h = tt
octets_joined (o ∷ os) h = let k = octets_parts o (joined os) h in (k.0, octets_joined os k.1)

-- ---- accepted lists

module _ {owners octets : ℕ} {apex : List ℕ} {limit : ℕ} {names starts : List ℕ} (a : Accepted owners octets apex limit names starts) where
  some : AllSome (owners_of names starts)
  some = rw a.listed.first (whole_some (folded apex) (folded_whole apex a.apex_whole), rises_some a.listed.rises)

  pub accepted_laid_out : LaysOut (owners_of names starts) names starts
  accepted_laid_out = go starts a.front some
    where
      go : (ss : List ℕ) → starts_at_front ss ≡ true → AllSome (owners_of names ss) → LaysOut (owners_of names ss) names ss
      go [] f h = absurd (true≢false (sym f))
      go (s ∷ ss) f h =
          let z : s ≡ 0 = eqb-true s 0 f in
          let k = owners_lay_out names s ss h in
          record {
            octets = ap (λ (n : ℕ). drop n names) (sym z) ∙ k.0;
            places = k.1 ∙ ap (λ (n : ℕ). starts_from n (owners_of names (s ∷ ss))) z;
          }

  pub accepted_list : Octets names → IsList apex limit (owners_of names starts)
  accepted_list o =
      let all : AllOctets (folded apex ∷ a.listed.others) =
      rw a.listed.first at (octets_joined (owners_of names starts) (rw accepted_laid_out.octets at o)) in
      record { others = a.listed.others; first = a.listed.first; rises = rises_zone apex limit all.1 a.listed.rises }

-- ---- and back

starts_length : (at : ℕ) (os : List (List ℕ)) → length (starts_from at os) ≡ length os
unfolding starts_from
starts_length at [] = refl
starts_length at (o ∷ os) = ap suc (starts_length (at + length o) os)

module _ {apex : List ℕ} {limit : ℕ} {os : List (List ℕ)} (l : IsList apex limit os) where
  pub list_laid_out : owners_of (joined os) (starts_from 0 os) ≡ os
  list_laid_out = laid_out (joined os) [] 0 os refl refl

  list_front : starts_at_front (starts_from 0 os) ≡ true
  unfolding starts_from
  list_front = rw l.first

  pub list_accepted : (owners octets : ℕ) → 1 ≤ limit → limit ≤ 255 → reading_of apex ≡ Ok tt → length apex + 2 ≤ limit
      → length os ≤ owners → length (joined os) ≤ octets
      → check_within owners octets apex limit (joined os) (starts_from 0 os) ≡ answer (length os)
  list_accepted owners octets some most whole fits few small =
      accepted_check owners octets apex limit (joined os) (starts_from 0 os)
      (record {
        some = some;
        most = most;
        apex_whole = whole;
        apex_fits = fits;
        few = rw (starts_length 0 os) few;
        small = small;
        front = list_front;
        listed = rw list_laid_out (record {
          others = l.others;
          first = l.first;
          rises = rises_map (zone_tested apex limit) l.rises;
        });
      })
      ∙ ap answer (starts_length 0 os)

-- ---- one list for a set

pub list_unique : {apex : List ℕ} {limit : ℕ} {os ps : List (List ℕ)} → IsList apex limit os → IsList apex limit ps
    → ((name : List ℕ) → Memᴰ name os → Memᴰ name ps) → ((name : List ℕ) → Memᴰ name ps → Memᴰ name os) → os ≡ ps
list_unique {apex} l m f g =
    let f2 : (name : List ℕ) → Memᴰ name (folded apex ∷ l.others) → Memᴰ name (folded apex ∷ m.others) =
    rw (l.first, m.first) at f in
    let g2 : (name : List ℕ) → Memᴰ name (folded apex ∷ m.others) → Memᴰ name (folded apex ∷ l.others) =
    rw (l.first, m.first) at g in
    l.first
    ∙ ap (λ (ns : List (List ℕ)). folded apex ∷ ns) (rises_unique l.rises m.rises (behind l.rises f2) (behind m.rises g2))
    ∙ sym m.first
