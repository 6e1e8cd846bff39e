-- The wildcard above the closest encloser is the only one that would be expanded (`one_wildcard`), for the closest encloser is one name; it
-- is a name of the zone (`wildcard_zone`), or too long to be an owner (`wildcard_too_long`).
use mathlib.Core.Path.{◌≡◌, sym, ap, ◌∙◌}
use mathlib.Core.List.{List, [], ◌∷◌}
use mathlib.Core.Bool.{true, true≢false}
use Prim.Native.Nat.{ℕ, ◌+◌, ◌≤◌}
use native.Mathlib.Decide.{dec_le}
use native.Mathlib.Omega.{arith}
use lib.ListN.{length}
use Rattle.std.specs.Prelude.{Ok}
use Rattle.name.specs.Wire.{reading_of}
use Rattle.name.specs.Answer.{answer, refusal}
use Rattle.name.proofs.Answers.{answer_injective}
use Rattle.name.proofs.Whole.{whole_fits}
use Rattle.name.proofs.Folding.{folded_length}
use Rattle.space.specs.Fold.{lower_of, folded}
use Rattle.checks.specs.Under.{is_under}
use Rattle.encloser.specs.Wildcard.{wildcard_name, wildcard_of}
use Rattle.encloser.proofs.Wildcards.{wildcard_octets, wildcard_answer, wildcard_long, wildcard_names}
use Rattle.owners.proofs.FoldedNames.{reading_folded}
use Rattle.gaps.proofs.Asking.{under_transitive}
use Rattle.existing.specs.Existing.{Exists, IsClosest}
use Rattle.existing.specs.Expanded.{Expanded}
use Rattle.existing.proofs.Ancestors.{closest_only, exists_alike}

-- enclosers that differ in letter case alone have such wildcards
wildcard_alike : (first second : List ℕ) → reading_of first ≡ Ok tt → reading_of second ≡ Ok tt → folded first ≡ folded second
    → folded (wildcard_name first) ≡ folded (wildcard_name second)
wildcard_alike first second wf ws e =
    ap folded (wildcard_octets first wf)
    ∙ ap (λ (s : List ℕ). lower_of 1 ∷ lower_of 42 ∷ s) e
    ∙ sym (ap folded (wildcard_octets second ws))

pub one_wildcard : {apex : List ℕ} {names : List (List ℕ)} (query encloser wildcard : List ℕ)
    → IsClosest apex names query encloser
    → Expanded apex names query wildcard → folded wildcard ≡ folded (wildcard_name encloser)
one_wildcard query encloser wildcard c x =
    x.above
    ∙ wildcard_alike x.encloser encloser x.closest.exists.0 c.exists.0 (closest_only x.encloser encloser x.closest c)

-- and it exists where that one does
pub expanded_exists : (apex : List ℕ) (names : List (List ℕ)) (query encloser wildcard : List ℕ)
    → IsClosest apex names query encloser
    → Expanded apex names query wildcard → Exists apex names wildcard → Exists apex names (wildcard_name encloser)
expanded_exists apex names query encloser wildcard c x e =
    let s = one_wildcard query encloser wildcard c x in
    let w = c.exists.0 in
    exists_alike apex names wildcard (wildcard_name encloser)
    (sym (reading_folded (wildcard_name encloser)) ∙ ap reading_of (sym s) ∙ reading_folded wildcard ∙ e.0)
    (under_transitive apex encloser (wildcard_name encloser) c.exists.1 (wildcard_names.is_under_lem encloser w)) s e

module _ (encloser : List ℕ) (whole : reading_of encloser ≡ Ok tt) where
  -- one that is answered fits, and one that fits is answered
  answered_fits : (name : List ℕ) → wildcard_of encloser ≡ answer name → (length encloser ≤ 253) × (name ≡ wildcard_name encloser)
  answered_fits name e = go (dec_le (length encloser + 2) 255)
    where
      go : Dec (length encloser + 2 ≤ 255) → (length encloser ≤ 253) × (name ≡ wildcard_name encloser)
      go (yes h) =
          (omega arith, answer_injective (sym e ∙ wildcard_answer encloser whole h) ∙ sym (wildcard_octets encloser whole))
      go (no f) = let r = wildcard_long encloser whole (omega arith) in absurd (true≢false (cc))

  pub wildcard_zone : (apex : List ℕ) → is_under apex encloser ≡ true → (name : List ℕ) → wildcard_of encloser ≡ answer name
      → (reading_of name ≡ Ok tt) × (is_under apex name ≡ true)
  wildcard_zone apex u name e =
      let r = answered_fits name e in
      rw r.1 (
        wildcard_names.is_name encloser whole r.0,
        under_transitive apex encloser (wildcard_name encloser) u (wildcard_names.is_under_lem encloser whole),
      )

  pub wildcard_too_long : wildcard_of encloser ≡ refusal 5 [] → (owner : List ℕ) → reading_of owner ≡ Ok tt
      → folded owner ≡ folded (wildcard_name encloser) → ⊥
  wildcard_too_long e owner w f =
      let n : length owner ≡ length encloser + 2 =
      sym (folded_length owner) ∙ ap length f ∙ folded_length (wildcard_name encloser) ∙ ap length (wildcard_octets encloser whole)
      ∙ omega arith in
      let r = wildcard_answer encloser whole (omega (arith, whole_fits owner w)) in
      absurd (true≢false (cc))
