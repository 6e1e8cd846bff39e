-- The next closer name of a query that the checks let pass can be asked for (`closer_question`), and so can the wildcard
-- above an encloser where it is within the limit (`wildcard_question`). The encloser is at or under the apex exactly where it
-- is no shorter (`encloser_under`).
use mathlib.Core.Path.{◌≡◌, sym, ap, ◌∙◌}
use mathlib.Core.List.{List, [], ◌∷◌, ◌++◌, append_assoc}
use mathlib.Core.Bool.{true}
use Prim.Native.Nat.{ℕ, zero, suc, ◌-◌, ◌≤◌}
use native.Mathlib.Decide.{dec_le}
use native.Mathlib.Omega.{arith}
use lib.ListN.{length, take, drop, length-drop, take-append-drop}
use Rattle.space.specs.Octets.{Octets}
use Rattle.std.specs.Prelude.{Ok}
use Rattle.name.specs.Wire.{reading_of}
use Rattle.name.specs.WellFormed.{WellFormed}
use Rattle.order.specs.Order.{folded_labels}
use Rattle.checks.specs.Under.{is_under, above}
use Rattle.checks.proofs.UnderLabels.{under_labels, labels_under}
use Rattle.encloser.specs.Wildcard.{wildcard_name}
use Rattle.encloser.proofs.Ancestors.{ending, more_octets, octets_labels}
use Rattle.encloser.proofs.Wildcards.{wildcard_octets, wildcard_names}
use Rattle.neighbour.specs.Nearest.{Question}
use Rattle.covering.specs.NextCloser.{next_closer_of}
use Rattle.covering.specs.Denials.{Proper, NextCloser}
use Rattle.covering.proofs.Closers.{proper_closer}

pub under_transitive : (a b c : List ℕ) → is_under a b ≡ true → is_under b c ≡ true → is_under a c ≡ true
under_transitive a b c h g =
    labels_under a c (above b c ++ above a b)
    (under_labels b c g
    ∙ ap (λ (ls : List (List ℕ)). above b c ++ ls) (under_labels a b h)
    ∙ sym (append_assoc (above b c) (above a b) (folded_labels a)))

octets_drop : (n : ℕ) (s : List ℕ) → Octets s → Octets (drop n s)
octets_drop zero s o = o
octets_drop (suc n) [] o = tt
octets_drop (suc n) (x ∷ s) o = octets_drop n s o.1

octets_same : {s t : List ℕ} → s ≡ t → Octets s → Octets t
octets_same e o = rw (← e) o

module _ (apex : List ℕ) (limit : ℕ) (query : List ℕ) (q : Question apex limit query) where
  asked : (name : List ℕ) → WellFormed name → length name ≤ limit → is_under apex name ≡ true → Question apex limit name
  asked name formed fits under =
      record {
        some = q.some;
        most = q.most;
        apex_formed = q.apex_formed;
        apex_fits = q.apex_fits;
        name_formed = formed;
        name_fits = fits;
        under = under;
      }

  module _ (encloser : List ℕ) (p : Proper encloser query) where
    -- two ancestors of the query: the one with no fewer octets is at or under the other
    pub encloser_under : length apex ≤ length encloser → is_under apex encloser ≡ true
    encloser_under h = go (dec_le (length (folded_labels apex)) (length (folded_labels encloser)))
      where
        A : List (List ℕ)
        A = folded_labels apex

        E : List (List ℕ)
        E = folded_labels encloser

        of_apex : folded_labels query ≡ above apex query ++ A
        of_apex = under_labels apex query q.under

        of_encloser : folded_labels query ≡ above encloser query ++ E
        of_encloser = under_labels encloser query p.under

        go : Dec (length A ≤ length E) → is_under apex encloser ≡ true
        go (yes f) =
            labels_under apex encloser (take (length E - length A) E)
            (sym (take-append-drop (length E - length A) E)
            ∙ ap (λ (ls : List (List ℕ)). take (length E - length A) E ++ ls)
            (ending (folded_labels query) (above encloser query) E (above apex query) A of_encloser of_apex f))
        go (no f) =
            absurd (omega (
              arith,
              more_octets (folded_labels query) (above apex query) A (above encloser query) E of_apex of_encloser (omega (arith, f)),
              octets_labels apex q.apex_formed.whole,
              octets_labels encloser p.whole_encloser,
            ))

    module _ (u : is_under apex encloser ≡ true) where
      pub closer_question : Question apex limit (next_closer_of encloser query)
      closer_question =
          let k : NextCloser encloser query (next_closer_of encloser query) = proper_closer encloser query p in
          let n : ℕ = length (next_closer_of encloser query) in
          asked (next_closer_of encloser query)
          (record { octets = octets_same k.part (octets_drop (length query - n) query q.name_formed.octets); whole = k.whole })
          (omega (arith, ap length k.part, length-drop (length query - n) query, q.name_fits))
          (under_transitive apex encloser (next_closer_of encloser query) u k.under_encloser)

      pub wildcard_question : Octets encloser → length (wildcard_name encloser) ≤ limit → Question apex limit (wildcard_name encloser)
      wildcard_question o h =
          let w : reading_of encloser ≡ (Ok tt) = p.whole_encloser in
          let n = ap length (wildcard_octets encloser w) in
          asked (wildcard_name encloser)
          (record {
            octets = octets_same (sym (wildcard_octets encloser w)) (omega arith, (omega arith, o));
            whole = wildcard_names.is_name encloser w (omega (arith, n, q.most));
          })
          h
          (under_transitive apex encloser (wildcard_name encloser) u (wildcard_names.is_under_lem encloser w))
