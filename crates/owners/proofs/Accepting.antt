-- What is accepted: the check answers exactly where 1, 2 and 3 let the zone pass, the sizes hold, the list begins at the front, and its
-- owners are the apex and members of the zone that rise (`check_accepted`, `accepted_check`).
use mathlib.Core.Path.{◌≡◌, refl, sym, ap, ◌∙◌}
use mathlib.Core.List.{List, [], ◌∷◌}
use mathlib.Core.Bool.{Bool, true, false, cond, not, ◌||◌, true≢false}
use Prim.Native.Nat.{ℕ, suc, ◌+◌, ◌≤◌}
use native.Mathlib.Omega.{arith}
use borrow.Author.Tests.{ltb-false, le-ltb, not-false}
use lib.Dec.{ltb}
use lib.ListN.{length}
use Rattle.facts.proofs.Booleans.{neither_true}
use Rattle.name.specs.Wire.{Reading}
use Rattle.std.specs.Prelude.{Ok, Err}
use Rattle.name.specs.Wire.{reading_of}
use Rattle.name.specs.Answer.{answer}
use Rattle.space.specs.Fold.{folded}
use Rattle.space.specs.Same.{same_octets}
use Rattle.space.proofs.SameBlocks.{same_octets_equal, same_octets_refl}
use Rattle.owners.specs.Layout.{owners_of}
use Rattle.owners.specs.Sizes.{is_too_large}
use Rattle.owners.specs.Members.{following, unbroken, starts_at_front}
use Rattle.owners.specs.Lists.{Rises}
use Rattle.owners.specs.Answers.{check_within}
use Rattle.owners.proofs.Following.{Tested, following_rises, rises_following, following_most}
use Rattle.owners.proofs.Layouts.{owners_length}

-- the apex and members of the zone behind it
pub record Listed (apex : List ℕ) (limit : ℕ) (owners : List (List ℕ)) : Type 0 where
  pub others : List (List ℕ)
  pub first : owners ≡ folded apex ∷ others
  pub rises : Rises (Tested apex limit) (folded apex) others

pub unbroken_listed : (apex : List ℕ) (limit : ℕ) (os : List (List ℕ)) → 1 ≤ length os → length os ≤ unbroken apex limit os
    → Listed apex limit os
unbroken_listed apex limit [] h k = absurd (omega arith)
unbroken_listed apex limit (o ∷ os) h k = go (same_octets o (folded apex)) refl k
  where
    go : (b : Bool) → same_octets o (folded apex) ≡ b → length (o ∷ os) ≤ cond b (suc (following apex limit o os)) 0
        → Listed apex limit (o ∷ os)
    go true e f =
        let s : o ≡ folded apex = same_octets_equal o (folded apex) e in
        record {
          others = os;
          first = ap (λ (x : List ℕ). x ∷ os) s;
          rises = rw s at (following_rises apex limit o os (omega (arith, following_most apex limit o os)));
        }
    go false e f = absurd (omega arith)

pub listed_unbroken : {apex : List ℕ} {limit : ℕ} {os : List (List ℕ)} → Listed apex limit os → unbroken apex limit os ≡ length os
listed_unbroken {apex} {limit} l =
    rw (l.first, same_octets_refl (folded apex)) (ap suc (rises_following apex limit l.rises))

-- what the check asks of a list
pub record Accepted (owners octets : ℕ) (apex : List ℕ) (limit : ℕ) (names starts : List ℕ) : Type 0 where
  pub some : 1 ≤ limit
  pub most : limit ≤ 255
  pub apex_whole : reading_of apex ≡ Ok tt
  pub apex_fits : length apex + 2 ≤ limit
  pub few : length starts ≤ owners
  pub small : length names ≤ octets
  pub front : starts_at_front starts ≡ true
  pub listed : Listed apex limit (owners_of names starts)

module _ (owners octets : ℕ) (apex : List ℕ) (limit : ℕ) (names starts : List ℕ) where
  abbrev counted : ℕ
  counted = unbroken apex limit (owners_of names starts)

  some_owner : (ss : List ℕ) → starts_at_front ss ≡ true → 1 ≤ length ss
  some_owner [] e = absurd (true≢false (sym e))
  some_owner (s ∷ ss) e = omega arith

  pub check_accepted : (n : ℕ) → check_within owners octets apex limit names starts ≡ answer n
      → Accepted owners octets apex limit names starts × (n ≡ length starts)
  check_accepted n e =
      go (ltb limit 1 || ltb 255 limit) (reading_of apex) (ltb limit (length apex + 2))
      (is_too_large owners octets names starts || not (starts_at_front starts)) (ltb counted (length (owners_of names starts)))
      refl refl refl refl refl e
    where
      go : (a : Bool) (f : Reading) (b d u : Bool) → ltb limit 1 || ltb 255 limit ≡ a → reading_of apex ≡ f
          → ltb limit (length apex + 2) ≡ b → is_too_large owners octets names starts || not (starts_at_front starts) ≡ d
          → ltb counted (length (owners_of names starts)) ≡ u
          → check_within owners octets apex limit names starts ≡ answer n
          → Accepted owners octets apex limit names starts × (n ≡ length starts)
      go true f b d u ea ef eb ed eu e = absurd (true≢false (let g = rw ea at e in cc))
      go false (Err x) b d u ea ef eb ed eu e = absurd (true≢false (let g = rw (ea, ef) at e in cc))
      go false (Ok _) true d u ea ef eb ed eu e = absurd (true≢false (let g = rw (ea, ef, eb) at e in cc))
      go false (Ok _) false true u ea ef eb ed eu e = absurd (true≢false (let g = rw (ea, ef, eb, ed) at e in cc))
      go false (Ok _) false false true ea ef eb ed eu e = absurd (true≢false (let g = rw (ea, ef, eb, ed, eu) at e in cc))
      go false (Ok _) false false false ea ef eb ed eu e =
          let g = rw (ea, ef, eb, ed, eu) at e in
          let l = neither_true (ltb limit 1) (ltb 255 limit) ea in
          let k = neither_true (is_too_large owners octets names starts) (not (starts_at_front starts)) ed in
          let j = neither_true (ltb owners (length starts)) (ltb octets (length names)) k.0 in
          let front = not-false (starts_at_front starts) k.1 in
          let c : length (owners_of names starts) ≡ n = cc in (
            record {
              some = ltb-false limit 1 l.0;
              most = ltb-false 255 limit l.1;
              apex_whole = ef;
              apex_fits = ltb-false limit (length apex + 2) eb;
              few = ltb-false owners (length starts) j.0;
              small = ltb-false octets (length names) j.1;
              front = front;
              listed = unbroken_listed apex limit (owners_of names starts)
                  (omega (arith, owners_length names starts, some_owner starts front))
                  (ltb-false counted (length (owners_of names starts)) eu);
            },
            sym c ∙ owners_length names starts,
          )

  pub accepted_check : Accepted owners octets apex limit names starts
      → check_within owners octets apex limit names starts ≡ answer (length starts)
  accepted_check a =
      rw (
        le-ltb limit 1 a.some,
        le-ltb 255 limit a.most,
        a.apex_whole,
        le-ltb limit (length apex + 2) a.apex_fits,
        le-ltb owners (length starts) a.few,
        le-ltb octets (length names) a.small,
        a.front,
        le-ltb counted (length (owners_of names starts)) (omega (arith, listed_unbroken a.listed)),
        owners_length names starts,
      )
