-- What a lookup finds does not depend on the letter case of the query or of the owners (`find_any_case`), nor what a check says on that of
-- the apex (`check_any_case`).
use mathlib.Core.Path.{◌≡◌, refl, ap, ◌∙◌}
use mathlib.Core.List.{List, [], ◌∷◌, map}
use mathlib.Core.Bool.{Bool, true, false, cond, ◌||◌}
use Prim.Native.Nat.{ℕ, zero, suc, ◌+◌, ◌-◌}
use lib.Dec.{leb, ltb}
use lib.ListN.{length, take, drop, get_or, get_or-map}
use Rattle.facts.proofs.Lists.{map_take, map_drop}
use Rattle.name.specs.Wire.{Reading}
use Rattle.std.specs.Prelude.{Ok, Err}
use Rattle.name.specs.Wire.{reading_of}
use Rattle.name.specs.Answer.{Result, refuse_if, refuse_broken}
use Rattle.name.proofs.Folding.{folded_length, folded_idempotent}
use Rattle.space.specs.Fold.{lower_of, folded}
use Rattle.owners.specs.declared.Look.{Look}
use Rattle.owners.specs.declared.Found.{Found}
use Rattle.owners.specs.declared.Found.TheVariants.{Owner, NoOwner}
use Rattle.owners.specs.Layout.{part, owners_of}
use Rattle.owners.specs.Members.{following, unbroken}
use Rattle.owners.specs.Halving.{look_at, looks, looked_again, halve, halving}
use Rattle.owners.specs.Sizes.{is_too_large}
use Rattle.owners.specs.Answers.{refuse_at, look_in, check_laid_out, check_within, find_within}
use Rattle.owners.proofs.FoldedNames.{reading_folded, labels_folded, under_folded}
use Rattle.owners.proofs.Halvings.{middle}

-- ---- the owners

part_folded : (names : List ℕ) (start end : ℕ) → part (folded names) start end ≡ folded (part names start end)
part_folded names start end = rw (folded_length names) (go (leb end (length names)))
  where
    go : (b : Bool) → cond b (take (end - start) (drop start (folded names))) []
        ≡ folded (cond b (take (end - start) (drop start names)) [])
    go true = rw (← map_drop lower_of start names, ← map_take lower_of (end - start) (drop start names))
    go false = refl

pub owners_folded : (names starts : List ℕ) → owners_of (folded names) starts ≡ map folded (owners_of names starts)
unfolding owners_of
owners_folded names [] = refl
owners_folded names (s ∷ starts) =
    ap (λ (o : List ℕ). o ∷ owners_of (folded names) starts)
    (part_folded names s (get_or starts 0 (length (folded names)))
    ∙ ap (λ (k : ℕ). folded (part names s (get_or starts 0 k))) (folded_length names))
    ∙ ap (λ (os : List (List ℕ)). folded (part names s (get_or starts 0 (length names))) ∷ os) (owners_folded names starts)

-- ---- one look

module _ (query owner : List ℕ) (vq : reading_of query ≡ Ok tt) where
  look_folded : look_at (folded query) (folded owner) ≡ look_at query owner
  look_folded = go (reading_of owner) refl
    where
      go : (r : Reading) → reading_of owner ≡ r → look_at (folded query) (folded owner) ≡ look_at query owner
      go (Ok _) e = rw (reading_folded owner, e, labels_folded query vq, labels_folded owner e)
      go (Err f) e = rw (reading_folded owner, e)

-- ---- the halving

pub halve_alike : (look again : ℕ → Look) → ((i : ℕ) → look i ≡ again i) → (n low high : ℕ) (f : Found)
    → halve look n low high f ≡ halve again n low high f
unfolding halve
halve_alike look again e zero low high f = refl
halve_alike look again e (suc n) low high f =
    rw (
      e (middle low high),
      halve_alike look again e n (middle low high + 1) high (Owner (middle low high) (looks f + 1)),
      halve_alike look again e n low (middle low high) (looked_again f),
    )

module _ (owners octets : ℕ) (names starts query : List ℕ) where
  looks_folded : reading_of query ≡ Ok tt → (i : ℕ)
      → look_in (owners_of (folded names) starts) (folded query) i ≡ look_in (owners_of names starts) query i
  looks_folded e i =
      rw (owners_folded names starts, get_or-map folded (owners_of names starts) i [])
      (look_folded query (get_or (owners_of names starts) i []) e)

  pub find_any_case : find_within owners octets (folded names) starts (folded query) ≡ find_within owners octets names starts query
  find_any_case = rw (reading_folded query, folded_length names) (go (reading_of query) refl)
    where
      -- the lookup, past the reading of the query
      found : List ℕ → List ℕ → Result Found
      found ns q = refuse_at (is_too_large owners octets names starts) 0 (halving (look_in (owners_of ns starts) q) (length starts))

      go : (r : Reading) → reading_of query ≡ r
          → refuse_broken r 4 (found (folded names) (folded query)) ≡ refuse_broken r 4 (found names query)
      go (Err f) e = refl
      go (Ok _) e =
          ap (refuse_at (is_too_large owners octets names starts) 0)
          (halve_alike (look_in (owners_of (folded names) starts) (folded query)) (look_in (owners_of names starts) query) (looks_folded e)
          (length starts) 0 (length starts) (NoOwner 0))

-- ---- the check

module _ (apex : List ℕ) (va : reading_of apex ≡ Ok tt) (limit : ℕ) where
  following_folded : (before : List ℕ) (os : List (List ℕ)) → following (folded apex) limit before os ≡ following apex limit before os
  unfolding following
  following_folded before [] = refl
  following_folded before (o ∷ os) = rw (under_folded apex va o, following_folded o os)

  unbroken_folded : (os : List (List ℕ)) → unbroken (folded apex) limit os ≡ unbroken apex limit os
  unbroken_folded [] = refl
  unbroken_folded (o ∷ os) = rw (folded_idempotent apex, following_folded o os)

pub check_any_case : (owners octets : ℕ) (apex : List ℕ) (limit : ℕ) (names starts : List ℕ)
    → check_within owners octets (folded apex) limit names starts ≡ check_within owners octets apex limit names starts
check_any_case owners octets apex limit names starts = rw (reading_folded apex, folded_length apex) (go (reading_of apex) refl)
  where
    go : (r : Reading) → reading_of apex ≡ r
        → refuse_if (ltb limit 1 || ltb 255 limit) 1 (refuse_broken r 2 (refuse_if (ltb limit (length apex + 2)) 3
        (check_laid_out owners octets (folded apex) limit names starts)))
        ≡ refuse_if (ltb limit 1 || ltb 255 limit) 1 (refuse_broken r 2 (refuse_if (ltb limit (length apex + 2)) 3
        (check_laid_out owners octets apex limit names starts)))
    go (Err f) e = refl
    go (Ok _) e = rw (unbroken_folded apex e limit (owners_of names starts))
