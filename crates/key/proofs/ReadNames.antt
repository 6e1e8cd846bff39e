-- Reading keys of names: a name's key is answered with the folded name (`has_key_answered`), and what is answered is the one folded
-- name with that key (`answered_has_key`). Octets are refused exactly when no name has that key.
use mathlib.Core.Path.{◌≡◌, refl, sym, ap, ◌∙◌}
use mathlib.Core.Bool.{true≢false}
use mathlib.Core.List.{List, [], ◌∷◌, reverse, reverse-reverse}
use mathlib.Core.Logic.{◌⊎◌, inl, inr}
use Prim.Native.Nat.{ℕ, ◌≤◌}
use native.Mathlib.Omega.{arith}
use lib.ListN.{length}
use Rattle.name.specs.Labels.{wire}
use Rattle.space.specs.Fold.{folded}
use Rattle.name.specs.Answer.{answer, refusal}
use Rattle.name.proofs.Whole.{whole_fits}
use Rattle.name.proofs.Folding.{folded_is_wire}
use Rattle.order.specs.Order.{folded_labels}
use Rattle.order.specs.Sequence.{sequence, labels}
use Rattle.order.specs.Place.{at, full}
use Rattle.order.proofs.Sequences.{labels_symbols}
use Rattle.order.proofs.Canonical.{sequence_labels}
use Rattle.order.proofs.Members.{member_valid, valid_member}
use Rattle.key.specs.Key.{key_of, right_key}
use Rattle.key.specs.ReadKey.{Read, found, stops, reading, name_read, read_key_of}
use Rattle.key.specs.Begins.{HasKey}
use Rattle.key.proofs.Codes.{code, key_is_code}
use Rattle.key.proofs.Keys.{key_is_sequence_code}
use Rattle.key.proofs.FullNames.{FullName, name_member, member_name, folded_name, full_octets, full_whole, full_folded}
use Rattle.key.proofs.FullNames.{full_labels_back}
use Rattle.key.proofs.ReaderFinds.{Coded, read_valid, read_found}

pub read_full_key : (ls : List (List ℕ)) → FullName ls → reading (key_of ls) ≡ found (sequence ls)
read_full_key ls f =
    ap reading (key_is_sequence_code ls)
    ∙ read_valid (sequence ls) 254 (at 127) 0 (member_valid full 254 127 (reverse ls) (name_member 254 ls f f.name.fits))

pub has_key_answered : (name k : List ℕ) → HasKey name k → read_key_of k ≡ answer (folded name)
has_key_answered name k h =
    let ls : List (List ℕ) = folded_labels name in
    ap read_key_of (sym h.is)
    ∙ ap name_read (read_full_key ls (folded_name name h.octets h.whole))
    ∙ ap (λ (ms : List (List ℕ)). answer (wire ms)) (sequence_labels ls)
    ∙ ap answer (sym (folded_is_wire name h.whole))

-- what is answered is a folded name, with that key
pub record Answers (k a : List ℕ) : Type 0 where
  pub key : HasKey a k
  pub folds : folded a ≡ a

found_answers : (k s : List ℕ) → reading k ≡ found s → Answers k (wire (reverse (labels s)))
found_answers k s e =
    let c : Coded 254 (at 127) k s = read_found k s e in
    let m = valid_member full 254 127 s c.valid in
    let ls : List (List ℕ) = reverse m.0 in
    let back : reverse ls ≡ m.0 = reverse-reverse m.0 in
    let f : FullName ls = member_name 254 127 ls (omega arith) (rw back m.2) in
    let i : labels s ≡ m.0 = ap labels (sym m.1) ∙ labels_symbols m.0 in
    rw i (record {
      key = record {
        octets = full_octets ls f;
        whole = full_whole ls f;
        is = ap key_of (full_labels_back ls f) ∙ ap right_key back ∙ key_is_code m.0 ∙ ap code m.1 ∙ c.is;
      };
      folds = full_folded ls f;
    })

pub answered_has_key : (k a : List ℕ) → read_key_of k ≡ answer a → Answers k a
answered_has_key k a e = go (reading k) refl e
  where
    go : (r : Read) → reading k ≡ r → name_read r ≡ answer a → Answers k a
    go (found s) er i = let j : a ≡ wire (reverse (labels s)) = cc in rw j (found_answers k s er)
    go (stops p) er i = absurd (true≢false (cc))

pub refused_no_key : (k vs name : List ℕ) → read_key_of k ≡ refusal 10 vs → HasKey name k → ⊥
refused_no_key k vs name e h =
    let i : read_key_of k ≡ answer (folded name) = has_key_answered name k h in
    true≢false (cc)

-- a key is read as a name or refused with a place, and nothing else
abbrev pub AnsweredOrRefused : List ℕ → Type 0
AnsweredOrRefused k = ((a : List ℕ) × (read_key_of k ≡ answer a)) ⊎ ((p : ℕ) × (read_key_of k ≡ refusal 10 (p ∷ [])))

pub answered_or_refused : (k : List ℕ) → AnsweredOrRefused k
answered_or_refused k = go (reading k) refl
  where
    go : (r : Read) → reading k ≡ r → AnsweredOrRefused k
    go (found s) e = inl (wire (reverse (labels s)), ap name_read e)
    go (stops p) e = inr (p, ap name_read e)

pub no_key_refused : (k : List ℕ) → ((name : List ℕ) → HasKey name k → ⊥) → (p : ℕ) × (read_key_of k ≡ refusal 10 (p ∷ []))
no_key_refused k f = go (answered_or_refused k)
  where
    go : AnsweredOrRefused k → (p : ℕ) × (read_key_of k ≡ refusal 10 (p ∷ []))
    go (inl h) = absurd (f h.0 (answered_has_key k h.0 h.1).key)
    go (inr h) = h

pub answer_small : (k a : List ℕ) → read_key_of k ≡ answer a → length a ≤ 255
answer_small k a e = whole_fits a (answered_has_key k a e).key.whole
