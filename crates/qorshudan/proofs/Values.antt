-- The values of what each exported function says, which the packed number has room for.
use mathlib.Core.Path.{◌≡◌}
use mathlib.Core.Logic.{◌⊎◌, inl, inr}
use mathlib.Core.List.{List, [], ◌∷◌}
use Prim.Native.Nat.{ℕ, ◌^◌, ◌≤◌, ◌<◌}
use native.Mathlib.Omega.{arith}
use lib.ListN.{length, get_or}
use mir.Syntax.{w8}
use mir.Val.{Fits}
use Rattle.space.specs.Octets.{Octets}
use Rattle.space.specs.Fold.{folded}
use Rattle.name.specs.Wire.{reading_of}
use Rattle.std.specs.Prelude.{Ok}
use Rattle.name.specs.Answer.{Result, answer, refusal, value, sized, fitted, Fills, refuse_broken}
use Rattle.name.specs.Check.{check_of}
use Rattle.name.specs.Fold.{fold_of}
use Rattle.name.specs.Starts.{starts_of, label_places_of}
use Rattle.name.proofs.Whole.{whole_fits}
use Rattle.name.proofs.Folding.{folded_length}
use Rattle.name.proofs.LabelPlaces.{starts_most}
use Rattle.name.proofs.Small.{broken_small, fitted_small, fitted_broken, sized_broken}
use Rattle.order.specs.Order.{folded_labels}
use Rattle.key.specs.Key.{key_of, write_key_of}
use Rattle.key.specs.ReadKey.{read_key_of}
use Rattle.key.proofs.KeyLength.{key_at_most_504}
use Rattle.key.proofs.ReadNames.{answered_or_refused, answer_small}
use Rattle.key.proofs.ReaderStops.{stop_small}
use Rattle.text.specs.WriteText.{text_of, write_text_of}
use Rattle.text.specs.ReadText.{read_text_of}
use Rattle.text.proofs.TextLength.{text_at_most_1004}
use Rattle.text.proofs.Texts.{answered_or_refused as answered-or-refused-text, answer_small as text-answer-small}
use Rattle.text.proofs.Texts.{stop_small as text-stop-small}
use Rattle.name.proofs.Labels.{octets_each}
use Rattle.alphabet.specs.declared.Alphabet.{Alphabet}
use Rattle.checks.specs.declared.Depth.{Depth}
use Rattle.plan.specs.declared.Way.{Way}
use Rattle.plan.specs.Private.Nearby.{neighbour_of}
use Rattle.neighbour.proofs.SmallAnswers.{nearest_small}
use Rattle.qorshudan.proofs.Packing.{value_fits}

pub check_small : (s : List ℕ) → value (sized (check_of s)) ≤ 255
check_small s =
    rw (sized_broken (reading_of s) 4 (answer s)) (broken_small s 4 255 (answer (length s)) (omega arith) (λ e. whole_fits s e))

-- ---- what is written from a name, past the line 4

module _ (s : List ℕ) (room most : ℕ) (x : List ℕ) where
  written_small : 255 ≤ most → (reading_of s ≡ Ok tt → length x ≤ most)
      → value (fitted room (refuse_broken (reading_of s) 4 (answer x))) ≤ most
  written_small h f =
      rw (fitted_broken (reading_of s) 4 room (answer x))
      (broken_small s 4 most (fitted room (answer x)) h (λ e. fitted_small x room most (f e)))

pub fold_small : (s : List ℕ) (room : ℕ) → value (fitted room (fold_of s)) ≤ 255
fold_small s room = written_small s room 255 (folded s) (omega arith) (λ e. rw (folded_length s) (whole_fits s e))

pub label_places_small : (s : List ℕ) (room : ℕ) → value (fitted room (label_places_of s)) ≤ 255
label_places_small s room = written_small s room 255 (starts_of s) (omega arith) (λ e. omega (arith, starts_most s e))

pub write_key_small : (s : List ℕ) (room : ℕ) → value (fitted room (write_key_of s)) ≤ 504
write_key_small s room = written_small s room 504 (key_of (folded_labels s)) (omega arith) (key_at_most_504 s)

pub write_text_small : (s : List ℕ) (room : ℕ) → value (fitted room (write_text_of s)) ≤ 1004
write_text_small s room = written_small s room 1004 (text_of (folded_labels s)) (omega arith) (text_at_most_1004 s)

-- ---- what is read: a name, or the place of its refusal

module _ {r : Result (List ℕ)} {n : ℕ} (room most : ℕ) where
  read_small : ((a : List ℕ) × (r ≡ answer a)) ⊎ ((p : ℕ) × (r ≡ refusal n (p ∷ []))) → ((a : List ℕ) → r ≡ answer a → length a ≤ 255)
      → ((p : ℕ) → r ≡ refusal n (p ∷ []) → p ≤ most) → 255 ≤ most → value (fitted room r) ≤ most
  read_small (inl h) f g few = rw h.1 (fitted_small h.0 room most (omega (arith, f h.0 h.1)))
  read_small (inr h) f g few = rw h.1 (g h.0 h.1)

pub read_key_small : (k : List ℕ) (room : ℕ) → value (fitted room (read_key_of k)) ≤ 504
read_key_small k room = read_small room 504 (answered_or_refused k) (answer_small k) (stop_small k) (omega arith)

pub read_text_small : (t : List ℕ) (room : ℕ) → value (fitted room (read_text_of t)) ≤ 1004
read_text_small t room = read_small room 1004 (answered-or-refused-text t) (text-answer-small t) (text-stop-small t) (omega arith)

-- ---- neighbours, for whose values the octets of both slices count

-- what a slice of octets holds
pub known_octets : (s : List ℕ) → ((i : ℕ) → Fits w8 (get_or s i 0)) → Octets s
known_octets s known = octets_each s (λ i. (known i).fits)

pub neighbour_fits : (way : Way) (alphabet : Alphabet) (depth : Depth) (apex : List ℕ) (limit : ℕ) (name : List ℕ)
    → ((i : ℕ) → Fits w8 (get_or apex i 0)) → ((i : ℕ) → Fits w8 (get_or name i 0)) → {before after : List ℕ} {words : Result ℕ}
    → Fills (neighbour_of way alphabet depth apex limit name) before words after → value words < 2 ^ 32
neighbour_fits way alphabet depth apex limit name ka kn {before} g =
    value_fits g (nearest_small apex limit name (known_octets apex ka) (known_octets name kn) way alphabet depth (length before))
    (omega arith)
