-- Which gaps there are: one where the wildcard is longer than the limit (`gaps_long`) or is the next closer name (`gaps_same`), otherwise
-- those of both (`gaps_both`); and 18 where the encloser is no proper ancestor of the query (`no_encloser_improper`) at or
-- under the apex (`no_encloser_short`).
use mathlib.Core.Path.{◌≡◌, refl, sym, ap, ◌∙◌}
use mathlib.Core.List.{List, [], ◌∷◌}
use mathlib.Core.Bool.{Bool, true, false, ◌&&◌, false≢true}
use Prim.Native.Nat.{ℕ, ◌+◌, ◌-◌, ◌≤◌, ◌<◌}
use native.Mathlib.Omega.{arith}
use borrow.Author.Tests.{lt-ltb, le-ltb, eqb-true, eq-eqb}
use lib.Dec.{eqb}
use lib.ListN.{length, drop, get_or}
use Rattle.facts.proofs.Booleans.{both_true, never_true}
use Rattle.space.specs.Fold.{lower_of, folded}
use Rattle.space.specs.Same.{same_octets}
use Rattle.space.proofs.SameBlocks.{same_octets_equal, same_octets_refl, alike}
use Rattle.name.specs.Labels.{labels_of}
use Rattle.name.specs.Answer.{Result, answer, refusal}
use Rattle.name.proofs.Folding.{Case, letter, other, lower_case, folded_length}
use Rattle.name.proofs.Labels.{octets_each, label_sizes}
use Rattle.checks.specs.Under.{is_under, more}
use Rattle.checks.specs.Private.Boundary.{Passes}
use Rattle.checks.proofs.Placing.{placed_passes}
use Rattle.checks.proofs.Tails.{under_place, octets_of_under}
use Rattle.encloser.specs.Wildcard.{wildcard_name}
use Rattle.encloser.proofs.Wildcards.{wildcard_octets, wildcard_length}
use Rattle.neighbour.specs.Nearest.{Question}
use Rattle.covering.specs.NextCloser.{is_proper, next_closer_of}
use Rattle.covering.specs.Denials.{Proper}
use Rattle.covering.proofs.Closers.{first_least, true_proper, proper_true, proper_closer}
use Rattle.gaps.specs.Denial.{is_same, one_gap, two_gaps, gaps_of, denial_of}
use Rattle.gaps.specs.Denies.{Denies}
use Rattle.denial.specs.Private.Held.{Deniable}
use Rattle.denial.specs.Private.Wild.{is_wild}
use Rattle.gaps.proofs.Asking.{encloser_under, closer_question, wildcard_question}

-- ---- the next closer name as the wildcard

-- an octet below the letters is folded from itself alone
from_itself : (x o : ℕ) → o ≡ lower_of x → o < 65 → x ≡ o
from_itself x o e h = go (lower_case x)
  where
    go : Case x → x ≡ o
    go (letter a b f) = absurd (omega arith)
    go (other n f) = sym (e ∙ f)

-- a name that ends in an encloser's octets, letter case aside, is the wildcard where it begins with the label `*` and has two octets more
module _ (encloser : List ℕ) where
  begins : (s : List ℕ) → folded (drop (length s - length encloser) s) ≡ folded encloser → is_wild s (length encloser + 2) ≡ true
      → is_same (1 ∷ 42 ∷ encloser) s ≡ true
  begins [] e w = absurd (omega (arith, eqb-true 0 (length encloser + 2) (both_true _ _ w).0))
  begins (x ∷ []) e w = absurd (omega (arith, eqb-true 1 (length encloser + 2) (both_true _ _ w).0))
  begins (x ∷ y ∷ t) e w =
      let first = both_true (eqb (length (x ∷ y ∷ t)) (length encloser + 2)) (eqb x 1 && eqb y 42) w in
      let label = both_true (eqb x 1) (eqb y 42) first.1 in
      let two : length (x ∷ y ∷ t) - length encloser ≡ 2 = omega (arith, eqb-true (length (x ∷ y ∷ t)) (length encloser + 2) first.0) in
      rw (eqb-true x 1 label.0, eqb-true y 42 label.1, rw two at e) (same_octets_refl (folded encloser))

  is : (s : List ℕ) → is_same (1 ∷ 42 ∷ encloser) s ≡ true → is_wild s (length encloser + 2) ≡ true
  is [] e = absurd (false≢true e)
  is (x ∷ []) e = absurd (false≢true (both_true (eqb 1 (lower_of x)) false e).1)
  is (x ∷ y ∷ t) e =
      let first = both_true (eqb 1 (lower_of x)) (eqb 42 (lower_of y) && same_octets (folded encloser) (folded t)) e in
      let others = both_true (eqb 42 (lower_of y)) (same_octets (folded encloser) (folded t)) first.1 in
      let count : length (x ∷ y ∷ t) ≡ length encloser + 2 =
      omega (arith, folded_length encloser, folded_length t, ap length (same_octets_equal (folded encloser) (folded t) others.1)) in
      rw (
        from_itself x 1 (eqb-true 1 (lower_of x) first.0) (omega arith),
        from_itself y 42 (eqb-true 42 (lower_of y) others.0) (omega arith),
        eq-eqb (length (x ∷ y ∷ t)) (length encloser + 2) count,
      )

module _ (apex : List ℕ) (limit : ℕ) (encloser closer : List ℕ) (k : Deniable apex limit encloser closer) where
  pub gaps_long : limit < length encloser + 2 → {before after : List ℕ} {words : Result ℕ}
      → Denies (answer (one_gap apex limit closer)) before words after
      → Denies (answer (gaps_of apex limit closer (wildcard_name encloser))) before words after
  gaps_long h d = rw (lt-ltb limit (length (wildcard_name encloser)) (omega (arith, wildcard_length encloser k.whole))) d

  module _ (room : length encloser + 2 ≤ limit) where
    short : length (wildcard_name encloser) ≤ limit
    short = omega (arith, wildcard_length encloser k.whole)

    -- the next closer name is the wildcard where it has as many octets, and begins with the wildcard's label
    wild_same : is_wild closer (length encloser + 2) ≡ is_same (wildcard_name encloser) closer
    wild_same =
        alike (is_wild closer (length encloser + 2)) (is_same (1 ∷ 42 ∷ encloser) closer) (begins encloser closer k.ends)
        (is encloser closer)
        ∙ ap (λ (s : List ℕ). is_same s closer) (sym (wildcard_octets encloser k.whole))

    pub gaps_same : {b : Bool} → b ≡ is_wild closer (length encloser + 2) → b ≡ true → {before after : List ℕ} {words : Result ℕ}
        → Denies (answer (one_gap apex limit closer)) before words after
        → Denies (answer (gaps_of apex limit closer (wildcard_name encloser))) before words after
    gaps_same e t d = rw (le-ltb limit (length (wildcard_name encloser)) short, sym wild_same ∙ sym e ∙ t) d

    pub gaps_both : {b : Bool} → b ≡ is_wild closer (length encloser + 2) → b ≡ false → {before after : List ℕ} {words : Result ℕ}
        → Denies (answer (two_gaps apex limit closer (wildcard_name encloser))) before words after
        → Denies (answer (gaps_of apex limit closer (wildcard_name encloser))) before words after
    gaps_both e t d = rw (le-ltb limit (length (wildcard_name encloser)) short, sym wild_same ∙ sym e ∙ t) d

-- ---- the encloser

neither : (a b : Bool) → (a ≡ true → b ≡ false) → a && b ≡ false
neither true b f = f refl
neither false b f = refl

module _ {apex : List ℕ} {limit : ℕ} {query : List ℕ} {cut : ℕ} (p : Passes apex limit query cut) (encloser : List ℕ) where
  refused : is_proper encloser query && is_under apex encloser ≡ false → denial_of apex limit encloser query ≡ refusal 18 []
  refused e = placed_passes p _ ∙ rw e

  pub no_encloser_short : length encloser < length apex → denial_of apex limit encloser query ≡ refusal 18 []
  no_encloser_short h =
      refused (neither (is_proper encloser query) (is_under apex encloser) (λ t.
      never_true (is_under apex encloser) (λ u.
      omega (arith, under_place apex encloser p.apex_whole (true_proper encloser query t).whole_encloser u))))

  pub no_encloser_improper : (Proper encloser query → ⊥) → denial_of apex limit encloser query ≡ refusal 18 []
  no_encloser_improper f =
      refused (ap (λ (b : Bool). b && is_under apex encloser)
      (never_true (is_proper encloser query) (λ t. f (true_proper encloser query t))))

  -- a next closer name has more octets than the encloser
  closer_longer : Proper encloser query → length encloser < length (next_closer_of encloser query)
  closer_longer q =
      let c = proper_closer encloser query q in
      let closer : List ℕ = next_closer_of encloser query in
      omega (
        arith,
        first_least (labels_of closer) (more encloser closer) (label_sizes closer c.whole) (omega (arith, c.one_more)) (omega arith),
        under_place encloser closer q.whole_encloser c.whole c.under_encloser,
      )

  -- and ends in the encloser's
  closer_ends : Proper encloser query → let closer = next_closer_of encloser query in
      folded (drop (length closer - length encloser) closer) ≡ folded encloser
  closer_ends q =
      let c = proper_closer encloser query q in
      let closer : List ℕ = next_closer_of encloser query in
      (octets_of_under encloser closer q.whole_encloser c.whole c.under_encloser (length closer - length encloser)
      (omega (arith, closer_longer q))).1

  -- ---- past 18

  module _ (octets : (i : ℕ) → get_or apex i 0 < 256) (of_query_lem : (i : ℕ) → get_or query i 0 < 256)
      (of_encloser : (i : ℕ) → get_or encloser i 0 < 256)
      (longer : length apex ≤ length encloser) (proper : Proper encloser query) where
    question : Question apex limit query
    question =
        record {
          some = p.some;
          most = p.most;
          apex_formed = record { octets = octets_each apex octets; whole = p.apex_whole };
          apex_fits = p.apex_fits;
          name_formed = record { octets = octets_each query of_query_lem; whole = p.boundary.whole };
          name_fits = p.name_fits;
          under = p.is_under_lem;
        }

    under : is_under apex encloser ≡ true
    under = encloser_under apex limit query question encloser proper longer

    pub deniable : (closer : List ℕ) → closer ≡ next_closer_of encloser query → Deniable apex limit encloser closer
    deniable closer is =
        rw is (record {
          whole = proper.whole_encloser;
          closer_missing =
              record {
                asked = closer_question apex limit query question encloser proper under;
                longer = omega (arith, longer, closer_longer proper);
              };
          shorter = closer_longer proper;
          ends = closer_ends proper;
          wildcard_missing = λ h.
              record {
                asked = wildcard_question apex limit query question encloser proper under (octets_each encloser of_encloser) h;
                longer = omega (arith, longer, wildcard_length encloser proper.whole_encloser);
              };
        })

    pub denied : (closer : List ℕ) → closer ≡ next_closer_of encloser query → {before after : List ℕ} {words : Result ℕ}
        → Denies (answer (gaps_of apex limit closer (wildcard_name encloser))) before words after
        → Denies (denial_of apex limit encloser query) before words after
    denied closer is d =
        let g : List (List ℕ) = gaps_of apex limit (next_closer_of encloser query) (wildcard_name encloser) in
        let e : denial_of apex limit encloser query ≡ answer g = placed_passes p _ ∙ rw (proper_true encloser query proper, under) in
        rw e (rw is at d)
