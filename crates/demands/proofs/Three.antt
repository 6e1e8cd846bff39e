-- Demand 3 holds: from the laws of folding, of the canonical order, of the comparison and of keys.
use mathlib.Core.Path.{◌≡◌, refl, sym, ap, ◌∙◌}
use mathlib.Core.List.{List, []}
use mathlib.Core.Logic.{◌⊎◌, inl, inr}
use Prim.Native.Nat.{ℕ, ◌≤◌}
use native.Mathlib.Omega.{arith}
use mathlib.Core.Bool.{Bool, true, false, cond, true≢false}
use lib.Dec.{leb}
use lib.ListN.{length}
use Rattle.name.specs.Wire.{Reading}
use Rattle.std.specs.Prelude.{Ok, Err}
use Rattle.name.specs.Wire.{reading_of}
use Rattle.name.specs.Labels.{wire}
use Rattle.space.specs.Fold.{folded}
use Rattle.name.specs.Fold.{fold_of}
use Rattle.name.specs.Answer.{Result, answer, refusal, fitted, refuse_broken}
use Rattle.name.proofs.Answers.{answer_injective}
use Rattle.name.proofs.Folding.{folded_idempotent, folded_whole, folded_is_wire}
use Rattle.order.specs.Order.{Before, SortsBefore, folded_labels}
use Rattle.order.specs.Compare.{number_of, compare_of}
use Rattle.order.proofs.Canonical.{before_total}
use Rattle.order.proofs.Comparison.{number_same, number_earlier, number_later, number_zero}
use Rattle.key.specs.Key.{key_of, write_key_of}
use Rattle.key.specs.ReadKey.{read_key_of}
use Rattle.key.proofs.Keys.{key_order, key_order_back, key_injective, key_of_folded, keys_equal, equal_keys}
use Rattle.key.proofs.KeyLength.{key_at_most_504, largest, largest_formed, largest_key}
use Rattle.key.proofs.ReadNames.{has_key_answered, answered_has_key, refused_no_key, no_key_refused}
use Rattle.key.proofs.ReaderStops.{read_stops}
use Rattle.name.specs.WellFormed.{WellFormed}
use Rattle.demands.specs.DemandThree.{Asked, Negative, Positive, OneKey, DemandThree}

-- ---- what two well formed names get

key_answer : (s : List ℕ) → reading_of s ≡ Ok tt → write_key_of s ≡ answer (key_of (folded_labels s))
key_answer s e = rw e

fold_answer : (s : List ℕ) → reading_of s ≡ Ok tt → fold_of s ≡ answer (folded s)
fold_answer s e = rw e

compare_answer : (s t : List ℕ) → reading_of s ≡ Ok tt → reading_of t ≡ Ok tt
    → compare_of s t ≡ answer (number_of (folded_labels s) (folded_labels t))
compare_answer s t e d = rw (e, d)

asked : (s t : List ℕ) → WellFormed s → WellFormed t → Asked s t
asked s t v w =
    record {
      first_key = key_of (folded_labels s);
      second_key = key_of (folded_labels t);
      first_folded = folded s;
      second_folded = folded t;
      number = number_of (folded_labels s) (folded_labels t);
      first_key_is = key_answer s v.whole;
      second_key_is = key_answer t w.whole;
      first_folded_is = fold_answer s v.whole;
      second_folded_is = fold_answer t w.whole;
      number_is = compare_answer s t v.whole w.whole;
    }

-- ---- how they agree

-- names whose folded octets are equal have equal folded labels, and the other way round
module _ (s t : List ℕ) (v : reading_of s ≡ Ok tt) (w : reading_of t ≡ Ok tt) where
  octets_labels : folded s ≡ folded t → folded_labels s ≡ folded_labels t
  octets_labels e = key_injective (folded_labels s) (folded_labels t) (equal_keys s t v w e)

  labels_octets : folded_labels s ≡ folded_labels t → folded s ≡ folded t
  labels_octets e = folded_is_wire s v ∙ ap wire e ∙ sym (folded_is_wire t w)

module _ (ls ms : List (List ℕ)) where
  negative_before : Negative (number_of ls ms) → Before ls ms
  negative_before h = go (before_total ls ms)
    where
      go : Before ls ms ⊎ ((ls ≡ ms) ⊎ Before ms ls) → Before ls ms
      go (inl b) = b
      go (inr (inl e)) = absurd (rw (ap (λ (x : List (List ℕ)). number_of x ms) e ∙ number_same ms) at h)
      go (inr (inr b)) = absurd (rw (number_later ls ms b) at h)

  before_negative : Before ls ms → Negative (number_of ls ms)
  before_negative b = rw (number_earlier ls ms b) tt

  positive_before : Positive (number_of ls ms) → Before ms ls
  positive_before h = go (before_total ls ms)
    where
      go : Before ls ms ⊎ ((ls ≡ ms) ⊎ Before ms ls) → Before ms ls
      go (inl b) = absurd (rw (number_earlier ls ms b) at h)
      go (inr (inl e)) = absurd ((rw (ap (λ (x : List (List ℕ)). number_of x ms) e ∙ number_same ms) at h) refl)
      go (inr (inr b)) = b

  before_positive : Before ms ls → Positive (number_of ls ms)
  before_positive b = rw (number_later ls ms b) (λ e. omega arith)

one_key : (s t : List ℕ) → WellFormed s → WellFormed t → (a : Asked s t) → OneKey s t a
one_key s t v w a =
    let ls : List (List ℕ) = folded_labels s in
    let ms : List (List ℕ) = folded_labels t in
    let k : a.first_key ≡ key_of ls = answer_injective (sym a.first_key_is ∙ key_answer s v.whole) in
    let m : a.second_key ≡ key_of ms = answer_injective (sym a.second_key_is ∙ key_answer t w.whole) in
    let f : a.first_folded ≡ folded s = answer_injective (sym a.first_folded_is ∙ fold_answer s v.whole) in
    let g : a.second_folded ≡ folded t = answer_injective (sym a.second_folded_is ∙ fold_answer t w.whole) in
    let z : a.number ≡ number_of ls ms = answer_injective (sym a.number_is ∙ compare_answer s t v.whole w.whole) in
    record {
      first_key_defined = k;
      second_key_defined = m;
      first_folded_defined = f;
      second_folded_defined = g;
      number_defined = z;
      equal_keys = λ e. f ∙ keys_equal s t v.whole w.whole (sym k ∙ e ∙ m) ∙ sym g;
      equal_names = λ e. k ∙ equal_keys s t v.whole w.whole (sym f ∙ e ∙ g) ∙ sym m;
      zero_names = λ e. f ∙ labels_octets s t v.whole w.whole (number_zero ls ms (sym z ∙ e)) ∙ sym g;
      names_zero = λ e.
          z ∙ ap (λ (x : List (List ℕ)). number_of x ms) (octets_labels s t v.whole w.whole (sym f ∙ e ∙ g)) ∙ number_same ms;
      key_first = λ h. key_order_back ls ms (rw (k, m) at h);
      name_first = λ h. rw (k, m) (key_order ls ms h);
      sign_first = λ h. negative_before ls ms (rw z at h);
      first_sign = λ h. rw z (before_negative ls ms h);
      sign_second = λ h. positive_before ls ms (rw z at h);
      second_sign = λ h. rw z (before_positive ls ms h);
      one_of_three = λ p q. third p q (before_total ls ms) f g;
    }
  where
    third : (a.first_folded ≡ a.second_folded → ⊥) → (SortsBefore s t → ⊥)
        → Before (folded_labels s) (folded_labels t) ⊎ ((folded_labels s ≡ folded_labels t) ⊎ Before (folded_labels t) (folded_labels s))
        → a.first_folded ≡ folded s → a.second_folded ≡ folded t → SortsBefore t s
    third p q (inl b) f g = absurd (q b)
    third p q (inr (inl e)) f g = absurd (p (f ∙ labels_octets s t v.whole w.whole e ∙ sym g))
    third p q (inr (inr b)) f g = b

-- ---- the key reader

no_room_refused : {vs : List ℕ} → ◌≡◌ {A = Result ℕ} (refusal 9 []) (refusal 10 vs) → ⊥
no_room_refused e = let n : ◌≡◌ {A = ℕ} 9 10 = cc in omega arith

answer_refused : {n : ℕ} {vs : List ℕ} → ◌≡◌ {A = Result ℕ} (answer n) (refusal 10 vs) → ⊥
answer_refused e = true≢false (cc)

-- 10 comes however small the space is, since an answer without room is 9
fitted_refused : (r : Result (List ℕ)) (room : ℕ) (vs : List ℕ) → fitted room r ≡ refusal 10 vs → r ≡ refusal 10 vs
fitted_refused (refusal n ws) room vs e =
    let p : n ≡ 10 = cc in
    let q : ws ≡ vs = cc in
    cc
fitted_refused (answer a) room vs e = go (leb (length a) room) e
  where
    go : (b : Bool) → cond b (answer (length a)) (refusal 9 []) ≡ refusal 10 vs → answer a ≡ refusal 10 vs
    go true p = absurd (answer_refused p)
    go false p = absurd (no_room_refused p)

folded_again : (s f : List ℕ) → WellFormed s → fold_of s ≡ answer f → fold_of f ≡ answer f
folded_again s f v e =
    let d : folded s ≡ f = answer_injective (sym (fold_answer s v.whole) ∙ e) in
    rw (← d) (fold_answer (folded s) (folded_whole s v.whole) ∙ ap answer (folded_idempotent s))

folded_key : (s f : List ℕ) → WellFormed s → fold_of s ≡ answer f → write_key_of f ≡ write_key_of s
folded_key s f v e =
    let d : folded s ≡ f = answer_injective (sym (fold_answer s v.whole) ∙ e) in
    rw (← d)
    (key_answer (folded s) (folded_whole s v.whole) ∙ ap answer (key_of_folded s v.whole) ∙ sym (key_answer s v.whole))

written_again : (k a : List ℕ) → read_key_of k ≡ answer a → WellFormed a × (write_key_of a ≡ answer k)
written_again k a e =
    let h = (answered_has_key k a e).key in
    (record { octets = h.octets; whole = h.whole }, key_answer a h.whole ∙ ap answer h.is)

key_most : (s k : List ℕ) → write_key_of s ≡ answer k → length k ≤ 504
key_most s k e = go (reading_of s) refl e
  where
    go : (r : Reading) → reading_of s ≡ r → refuse_broken r 4 (answer (key_of (folded_labels s))) ≡ answer k → length k ≤ 504
    go (Ok _) h i = rw (← answer_injective i) (key_at_most_504 s h)
    go (Err f) h i = absurd (true≢false (cc))

pub demand_three : DemandThree
demand_three =
    record {
      asked = asked;
      one_key = one_key;
      folded_again = folded_again;
      folded_key = folded_key;
      refused_no_key = λ k vs room e s h. refused_no_key k vs s (fitted_refused (read_key_of k) room vs e) h;
      no_key_refused = λ k none room. let r = no_key_refused k none in (r.0, ap (λ (x : Result (List ℕ)). fitted room x) r.1);
      place = read_stops;
      answered = has_key_answered;
      written_again = written_again;
      key_most = key_most;
      key_of_504 = (
        wire largest,
        key_of (folded_labels (wire largest)),
        largest_formed,
        key_answer (wire largest) largest_formed.whole,
        largest_key,
      );
    }
