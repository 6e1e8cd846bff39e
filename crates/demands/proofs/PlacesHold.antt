-- Request Eleven holds: what stands at the places is a law of crate name, and behind the places of a checked name its array is 0.
use mathlib.Core.Path.{◌≡◌, refl, ap, ◌∙◌}
use mathlib.Core.List.{List, []}
use Prim.Native.Nat.{ℕ, zero, suc, ◌+◌, ◌-◌, ◌≤◌}
use native.Mathlib.Omega.{arith}
use lib.ListN.{length, get_or, replicate}
use lib.Seq.{take-append_seam, get_or-append-add}
use Rattle.name.specs.Starts.{starts_from, starts_of}
use Rattle.name.specs.Check.{name_of}
use Rattle.name.proofs.LabelPlaces.{starts_length, starts_most, starts_octets, start_stands, start_label, starts_cut}
use Rattle.demands.specs.LabelPlaces.{LabelPlaces}
use Rattle.demands.proofs.Lines.{name_lines}

all_zero : (n i : ℕ) → ◌≡◌ {A = ℕ} (get_or (replicate n 0) i 0) 0
all_zero zero i = refl
all_zero (suc n) zero = refl
all_zero (suc n) (suc i) = all_zero n i

unused : (s : List ℕ) (i : ℕ) → (name_of s).labels ≤ i → get_or (name_of s).places i 0 ≡ 0
unused s i h =
    let p : List ℕ = starts_of s in
    let zeros : List ℕ = replicate (127 - length p) 0 in
    let e : i ≡ length p + (i - length p) = omega arith in
    ap (λ (k : ℕ). get_or (name_of s).places k 0) e ∙ get_or-append-add p zeros (i - length p) 0 ∙ all_zero (127 - length p) (i - length p)

pub label_places : LabelPlaces
unfolding starts_from
label_places =
    record {
      count = λ s w. starts_length s w.whole;
      at_most_127 = λ s w. starts_most s w.whole;
      octets = λ s w. starts_octets s w.whole;
      length_octet = λ s w i h. (start_label s w.whole i h []).octet;
      stands = λ s w i h. start_stands s w.whole i h;
      cut = λ s w. starts_cut s w.whole;
      checked_count = λ s w. starts_length s w.whole;
      checked_places = λ s w. take-append_seam (starts_of s) (replicate (127 - length (starts_of s)) 0);
      unused = λ s w i h. unused s i h;
      beside_refusal = (refl, refl);
      lines = λ name room. name_lines name room (starts_of name);
    }
