-- The wildcard name above an encloser (document 02, request Seven; RFC 4592 section 2.1.1).
use Rattle.std.specs.Prelude.{◌≡◌, List, [], ◌∷◌, true, ℕ, ◌+◌, ◌≤◌, ◌<◌, ltb, length, Ok, Err}
use Rattle.name.specs.declared.Fault.{Fault}
use Rattle.name.specs.Wire.{reading_of}
use Rattle.name.specs.Labels.{wire, labels_of}
use Rattle.name.specs.Answer.{Result, answer, refusal, refuse_if, refuse_broken, fault_values}
use Rattle.checks.specs.Under.{is_under}

-- the label `*` and then the encloser's labels, spelled as they are
abbrev pub wildcard_name : List ℕ → List ℕ
wildcard_name encloser = wire ((42 ∷ []) ∷ labels_of encloser)

-- 4, then 5, or the wildcard name
abbrev pub wildcard_of : List ℕ → Result (List ℕ)
wildcard_of encloser =
    refuse_broken (reading_of encloser) 4
    (refuse_if (ltb 255 (length (wildcard_name encloser))) 5
    (answer (wildcard_name encloser)))

-- the wildcard name of every encloser
pub record WildcardNames : Type 0 where
  -- where it fits: two octets before the encloser's own
  pub answered : (encloser : List ℕ) → reading_of encloser ≡ Ok tt → length encloser ≤ 253
      → wildcard_of encloser ≡ answer (1 ∷ 42 ∷ encloser)
  -- it is a name under the encloser, with one label more
  pub is_name : (encloser : List ℕ) → reading_of encloser ≡ Ok tt → length encloser ≤ 253 → reading_of (wildcard_name encloser) ≡ Ok tt
  pub is_under_lem : (encloser : List ℕ) → reading_of encloser ≡ Ok tt → is_under encloser (wildcard_name encloser) ≡ true
  pub one_more : (encloser : List ℕ) → reading_of encloser ≡ Ok tt
      → length (labels_of (wildcard_name encloser)) ≡ length (labels_of encloser) + 1
  -- otherwise 4 with the fault, and 5 where it does not fit
  pub broken : (encloser : List ℕ) (fault : Fault) → reading_of encloser ≡ Err fault
      → wildcard_of encloser ≡ refusal 4 (fault_values fault)
  pub too_long : (encloser : List ℕ) → reading_of encloser ≡ Ok tt → 253 < length encloser → wildcard_of encloser ≡ refusal 5 []
