-- The gaps of a denial cover exactly what is at or under the next closer name or the wildcard (`denial_gaps`). Where the wildcard passes
-- the limit no name of the zone is under it, and where it is the next closer name both are the same. Otherwise the two are children of the
-- encloser, so that neither is under the other, and their gaps are joined or apart (proofs/TwoGaps).
use mathlib.Core.Path.{◌≡◌, refl, sym, ◌∙◌}
use mathlib.Core.List.Memᴰ
use mathlib.Core.List.{List, [], ◌∷◌, Memᴰ}
use mathlib.Core.Bool.{Bool, true, false, ◌||◌, cond, true≢false}
use mathlib.Core.Logic.{◌⊎◌, inl, inr}
use Prim.Native.Nat.{ℕ, ◌+◌, ◌≤◌}
use native.Mathlib.Omega.{arith}
use borrow.Author.Tests.{ltb-true, ltb-false}
use lib.Dec.{ltb}
use lib.ListN.{length}
use Rattle.facts.proofs.Booleans.{either_true, never_true}
use Rattle.space.specs.Octets.{Octets}
use Rattle.name.specs.Labels.{labels_of}
use Rattle.name.specs.Answer.{answer}
use Rattle.order.specs.Order.{folded_labels}
use Rattle.checks.specs.Under.{is_under, more}
use Rattle.encloser.specs.Wildcard.{wildcard_name}
use Rattle.encloser.proofs.Wildcards.{wildcard_names}
use Rattle.neighbour.specs.Nearest.{Question, InZone}
use Rattle.covering.specs.Between.{covers_of}
use Rattle.covering.specs.NextCloser.{next_closer_of}
use Rattle.covering.specs.Denials.{Proper, NextCloser}
use Rattle.covering.proofs.Closers.{proper_closer}
use Rattle.gaps.specs.Denial.{owner_of, next_of, is_same, one_gap, two_gaps, gaps_of, denial_of}
use Rattle.gaps.specs.DenialGaps.{covered_by, Neither, DenialGaps}
use Rattle.gaps.proofs.SameNames.{same_labels_lem, labels_same, same_count, under_same, wildcard_short, child_more}
use Rattle.gaps.proofs.Asking.{closer_question, wildcard_question}
use Rattle.gaps.proofs.Answered.{Answered, denial_answered}
use Rattle.gaps.proofs.OneGap.{owner_zone, next_zone, one_covers, owner_off, next_off}
use Rattle.gaps.proofs.TwoGaps.{owners_apart, apart_next, apart_owner, touching_covers, touching_owner, touching_next}

or_right : (a b : Bool) → b ≡ true → a || b ≡ true
or_right true b e = refl
or_right false b e = e

or_left : (a b : Bool) → a ≡ true → a || b ≡ true
or_left true b e = refl
or_left false b e = absurd (true≢false (sym e))

-- ---- what holds of each name of a list

module _ (P : List ℕ → Type 0) where
  of_none : (end : List ℕ) → Memᴰ end [] → P end
  of_none end m = absurd (Memᴰ.not-nil m)

  of_first : (a : List ℕ) (others : List (List ℕ)) → P a → ((end : List ℕ) → Memᴰ end others → P end) → (end : List ℕ)
      → Memᴰ end (a ∷ others) → P end
  of_first a others h rest end m = go (Memᴰ.cases_cons m)
    where
      go : (end ≡ a) ⊎ Memᴰ end others → P end
      go (inl e) = rw e h
      go (inr n) = rest end n

-- ---- the gaps

module _ (apex : List ℕ) (limit : ℕ) (encloser query : List ℕ) (q : Question apex limit query) (p : Proper encloser query)
    (h : is_under apex encloser ≡ true) where
  abbrev closer : List ℕ
  closer = next_closer_of encloser query

  abbrev wildcard : List ℕ
  wildcard = wildcard_name encloser

  abbrev End : List ℕ → Type 0
  End end = InZone apex limit end × Neither closer wildcard end

  is_closer : NextCloser encloser query closer
  is_closer = proper_closer encloser query p

  asked : Question apex limit closer
  asked = closer_question apex limit query q encloser p h

  closer_more : 1 ≤ more apex closer
  closer_more = child_more apex encloser closer h is_closer.one_more

  -- one gap alone
  alone : (owner next u : List ℕ) → covered_by (owner ∷ next ∷ []) u ≡ true → covers_of owner next u ≡ true
  alone owner next u t = go (either_true (covers_of owner next u) false t)
    where
      go : (covers_of owner next u ≡ true) ⊎ (false ≡ true) → covers_of owner next u ≡ true
      go (inl c) = c
      go (inr c) = absurd (true≢false (sym c))

  covered : (owner next u : List ℕ) → covers_of owner next u ≡ true → covered_by (owner ∷ next ∷ []) u ≡ true
  covered owner next u c = or_left (covers_of owner next u) false c

  -- ---- the gap of the next closer name, where all at or under the wildcard is at or under it

  module _ (within : (u : List ℕ) → InZone apex limit u → is_under wildcard u ≡ true → is_under closer u ≡ true) where
    neither : (end : List ℕ) → InZone apex limit end → is_under closer end ≡ false → End end
    neither end z f =
        (z, record { not_first = f; not_second = never_true (is_under wildcard end) (λ t. true≢false (sym (within end z t) ∙ f)) })

    one : DenialGaps apex limit encloser query (one_gap apex limit closer)
    one =
        let o : List ℕ = owner_of apex limit closer in
        let n : List ℕ = next_of apex limit closer in
        record {
          one_or_two = inl (record { owner = o; next = n; are = refl });
          covers = λ u z.
              let c = one_covers apex limit closer asked closer_more u z in
              (λ t. inl (c.0 (alone o n u t)), λ t. covered o n u (c.1 (either u z t)));
          ends =
              of_first End o (n ∷ [])
              (neither o (owner_zone apex limit closer asked) (owner_off apex limit closer asked closer_more))
              (of_first End n [] (neither n (next_zone apex limit closer asked) (next_off apex limit closer asked closer_more))
              (of_none End));
        }
      where
        either : (u : List ℕ) → InZone apex limit u → (is_under closer u ≡ true) ⊎ (is_under wildcard u ≡ true) → is_under closer u ≡ true
        either u z (inl t) = t
        either u z (inr t) = within u z t

  -- ---- the gaps of both

  module _ (r : Question apex limit wildcard) (differ : is_same wildcard closer ≡ false) where
    wildcard_count : length (labels_of wildcard) ≡ length (labels_of encloser) + 1
    wildcard_count = wildcard_names.one_more encloser p.whole_encloser

    wildcard_more : 1 ≤ more apex wildcard
    wildcard_more = child_more apex encloser wildcard h wildcard_count

    unlike : folded_labels wildcard ≡ folded_labels closer → ⊥
    unlike e = true≢false (sym (labels_same wildcard closer r.name_formed.whole is_closer.whole e) ∙ differ)

    off : is_under closer wildcard ≡ false
    off =
        never_true (is_under closer wildcard) (λ t.
        unlike (same_count closer wildcard (omega (arith, wildcard_count, is_closer.one_more)) t))

    back : is_under wildcard closer ≡ false
    back =
        never_true (is_under wildcard closer) (λ t.
        unlike (sym (same_count wildcard closer (omega (arith, wildcard_count, is_closer.one_more)) t)))

    -- the ends of the two gaps
    abbrev a : List ℕ
    a = owner_of apex limit closer

    abbrev b : List ℕ
    b = next_of apex limit closer

    abbrev c : List ℕ
    c = owner_of apex limit wildcard

    abbrev d : List ℕ
    d = next_of apex limit wildcard

    end_a : is_under wildcard a ≡ false → End a
    end_a f = (owner_zone apex limit closer asked, record { not_first = owner_off apex limit closer asked closer_more; not_second = f })

    end_b : is_under wildcard b ≡ false → End b
    end_b f = (next_zone apex limit closer asked, record { not_first = next_off apex limit closer asked closer_more; not_second = f })

    end_c : is_under closer c ≡ false → End c
    end_c f = (owner_zone apex limit wildcard r, record { not_first = f; not_second = owner_off apex limit wildcard r wildcard_more })

    end_d : is_under closer d ≡ false → End d
    end_d f = (next_zone apex limit wildcard r, record { not_first = f; not_second = next_off apex limit wildcard r wildcard_more })

    -- the first touches the second
    behind : is_same b wildcard ≡ true → DenialGaps apex limit encloser query (a ∷ d ∷ [])
    behind touch =
        record {
          one_or_two = inl (record { owner = a; next = d; are = refl });
          covers = λ u z.
              let k = touching_covers apex limit closer wildcard asked r closer_more wildcard_more off back touch u z in
              (λ t. k.0 (alone a d u t), λ t. covered a d u (k.1 t));
          ends =
              of_first End a (d ∷ [])
              (end_a (touching_owner apex limit closer wildcard asked r closer_more wildcard_more off back touch))
              (of_first End d [] (end_d (touching_next apex limit closer wildcard asked r closer_more wildcard_more off back touch))
              (of_none End));
        }

    -- the second touches the first
    before : is_same d closer ≡ true → DenialGaps apex limit encloser query (c ∷ b ∷ [])
    before touch =
        record {
          one_or_two = inl (record { owner = c; next = b; are = refl });
          covers = λ u z.
              let k = touching_covers apex limit wildcard closer r asked wildcard_more closer_more back off touch u z in
              (λ t. turned (k.0 (alone c b u t)), λ t. covered c b u (k.1 (turned t)));
          ends =
              of_first End c (b ∷ [])
              (end_c (touching_owner apex limit wildcard closer r asked wildcard_more closer_more back off touch))
              (of_first End b [] (end_b (touching_next apex limit wildcard closer r asked wildcard_more closer_more back off touch))
              (of_none End));
        }
      where
        turned : {X Y : Type 0} → X ⊎ Y → Y ⊎ X
        turned (inl x) = inr x
        turned (inr y) = inl y

    -- neither touches the other
    apart : is_same b wildcard ≡ false → is_same d closer ≡ false → DenialGaps apex limit encloser query (a ∷ b ∷ c ∷ d ∷ [])
    apart e f =
        record {
          one_or_two =
              inr (record {
                owner = a;
                next = b;
                other = c;
                last = d;
                are = refl;
                differ = owners_apart apex limit closer wildcard asked r closer_more wildcard_more off back;
              });
          covers = λ u z.
              let k = one_covers apex limit closer asked closer_more u z in
              let l = one_covers apex limit wildcard r wildcard_more u z in
              (λ t. one_of u k.0 l.0 (either_true (covers_of a b u) (covered_by (c ∷ d ∷ []) u) t), λ t. of_one u k.1 l.1 t);
          ends =
              of_first End a (b ∷ c ∷ d ∷ [])
              (end_a (apart_owner apex limit closer wildcard asked r closer_more wildcard_more off back f))
              (of_first End b (c ∷ d ∷ [])
              (end_b (apart_next apex limit closer wildcard asked r closer_more wildcard_more off back e))
              (of_first End c (d ∷ [])
              (end_c (apart_owner apex limit wildcard closer r asked wildcard_more closer_more back off e))
              (of_first End d [] (end_d (apart_next apex limit wildcard closer r asked wildcard_more closer_more back off f))
              (of_none End))));
        }
      where
        one_of : (u : List ℕ) → (covers_of a b u ≡ true → is_under closer u ≡ true) → (covers_of c d u ≡ true → is_under wildcard u ≡ true)
            → (covers_of a b u ≡ true) ⊎ (covered_by (c ∷ d ∷ []) u ≡ true) → (is_under closer u ≡ true) ⊎ (is_under wildcard u ≡ true)
        one_of u k l (inl t) = inl (k t)
        one_of u k l (inr t) = inr (l (alone c d u t))

        of_one : (u : List ℕ) → (is_under closer u ≡ true → covers_of a b u ≡ true) → (is_under wildcard u ≡ true → covers_of c d u ≡ true)
            → (is_under closer u ≡ true) ⊎ (is_under wildcard u ≡ true) → covered_by (a ∷ b ∷ c ∷ d ∷ []) u ≡ true
        of_one u k l (inl t) = or_left (covers_of a b u) (covered_by (c ∷ d ∷ []) u) (k t)
        of_one u k l (inr t) = or_right (covers_of a b u) (covered_by (c ∷ d ∷ []) u) (covered c d u (l t))

    both : DenialGaps apex limit encloser query (two_gaps apex limit closer wildcard)
    both = go (is_same b wildcard) refl (is_same d closer) refl
      where
        go : (s : Bool) → is_same b wildcard ≡ s → (t : Bool) → is_same d closer ≡ t
            → DenialGaps apex limit encloser query (cond s (a ∷ d ∷ []) (cond t (c ∷ b ∷ []) (a ∷ b ∷ c ∷ d ∷ [])))
        go true e t f = behind e
        go false e true f = before f
        go false e false f = apart e f

  all : Octets encloser → DenialGaps apex limit encloser query (gaps_of apex limit closer wildcard)
  all o = go (ltb limit (length wildcard)) refl (is_same wildcard closer) refl
    where
      wildcard_asked : ltb limit (length wildcard) ≡ false → Question apex limit wildcard
      wildcard_asked e = wildcard_question apex limit query q encloser p h o (ltb-false limit (length wildcard) e)

      go : (s : Bool) → ltb limit (length wildcard) ≡ s → (t : Bool) → is_same wildcard closer ≡ t
          → DenialGaps apex limit encloser query (cond (s || t) (one_gap apex limit closer) (two_gaps apex limit closer wildcard))
      go true e t f =
          one (λ u z i.
          absurd (omega (
            arith,
            ltb-true limit (length wildcard) e,
            wildcard_short encloser u p.whole_encloser z.formed.whole i,
            z.fits,
          )))
      go false e true f =
          one (λ u z i.
          under_same wildcard closer u (same_labels_lem wildcard closer (wildcard_asked e).name_formed.whole is_closer.whole f) i)
      go false e false f = both (wildcard_asked e) f

pub denial_gaps : (apex : List ℕ) (limit : ℕ) (encloser query : List ℕ) (names : List (List ℕ)) → Octets apex → Octets encloser
    → Octets query → denial_of apex limit encloser query ≡ answer names → DenialGaps apex limit encloser query names
denial_gaps apex limit encloser query names o p k e =
    let g : Answered apex limit encloser query names = denial_answered apex limit encloser query names o k e in
    rw g.are (all apex limit encloser query g.question g.proper g.under p)
