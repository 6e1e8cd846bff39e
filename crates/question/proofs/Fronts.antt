-- What no question has: behind the fields before it, another tag than a field's, a size that its value cannot have, and another way; and a
-- beginning of a question that is shorter than it is cut off.
use mathlib.Core.Path.{◌≡◌, refl, sym, ap, ◌∙◌}
use mathlib.Core.List.{List, [], ◌∷◌, ◌++◌, append_assoc, append-nil}
use mathlib.Core.Bool.{Bool, true, false, cond, ◌&&◌}
use mathlib.Core.Logic.{◌⊎◌, inl, inr}
use Prim.Native.Nat.{ℕ, ◌+◌, ◌*◌, ◌≤◌, ◌<◌}
use native.Mathlib.Omega.{arith}
use borrow.Author.Tests.{lt-leb, eq-eqb, ne_eqb}
use lib.Dec.{leb}
use lib.ListN.{length, take, drop, get_or, length-append, length-drop, take-append-drop}
use Rattle.question.specs.Fields.{field, Read, found, wrong, cut, and_then, value_of, field_of}
use Rattle.question.specs.Way.{way_of}
use Rattle.question.specs.Question.{Question, Askable, four_fields, question_octets, most_value, with_way, read_way, read_name, read_limit}
use Rattle.question.specs.Question.{read_of}
use Rattle.question.specs.Fronts.{Front, before_apex, before_limit, before_name, before_way}
use Rattle.question.proofs.Readings.{wrong_not_found, found_same}
use Rattle.question.proofs.Fields.{field_read}
use Rattle.question.proofs.Ways.{above_unknown}
use Rattle.question.proofs.Questions.{fields_read, question_read, question_grows}

-- ---- behind the fields before it, a field is read

record ReadsOn (front : List ℕ) (tag least most : ℕ) : Type 0 where
  next : List ℕ → List ℕ → Read Question
  is : (s : List ℕ) → read_of (front ++ s) ≡ and_then (field_of tag least most s) next

front_reads : {front : List ℕ} {tag least most : ℕ} → Front front tag least most → ReadsOn front tag least most
unfolding read_of
front_reads before_apex = record { next = λ apex rest. read_limit apex rest; is = λ s. refl }
front_reads (before_limit apex a) =
    record { next = λ value rest. read_name apex (get_or value 0 0) rest; is = λ s. rw (field_read 1 0 600 apex s (omega arith) a) }
front_reads (before_name apex limit a) =
    let l = field 2 (limit ∷ []) in
    record {
      next = λ name rest. read_way apex limit name rest;
      is = λ s.
          rw (
            append_assoc apex l s,
            field_read 1 0 600 apex (l ++ s) (omega arith) a,
            field_read 2 1 1 (limit ∷ []) s (omega arith) (omega arith),
          );
    }
front_reads (before_way apex limit name a n) =
    let l = field 2 (limit ∷ []) in
    record {
      next = λ value rest. with_way apex limit name (way_of (get_or value 0 0)) rest;
      is = λ s.
          rw (
            append_assoc apex (l ++ field 3 name) s,
            field_read 1 0 600 apex ((l ++ field 3 name) ++ s) (omega arith) a,
            field_read 2 1 1 (limit ∷ []) (field 3 name ++ s) (omega arith) (omega arith),
            field_read 3 0 600 name s (omega arith) n,
          );
    }

-- ---- a wrong octet

field_tag : (tag least most t : ℕ) (s : List ℕ) → (t ≡ tag → ⊥) → field_of tag least most (t ∷ s) ≡ wrong
unfolding field_of
field_tag tag least most t s other = rw (ne_eqb t tag other)

field_size : (tag least most high low : ℕ) (s : List ℕ) → (256 * high + low < least) ⊎ (most < 256 * high + low)
    → field_of tag least most (tag ∷ high ∷ low ∷ s) ≡ wrong
unfolding field_of
field_size tag least most high low s (inl h) = rw (eq-eqb tag tag refl, lt-leb least (256 * high + low) h)
field_size tag least most high low s (inr h) =
    rw (eq-eqb tag tag refl, lt-leb (256 * high + low) most h) (go (leb least (256 * high + low)))
  where
    go : (b : Bool) → and_then (cond (b && false) (found (256 * high + low) s) wrong) value_of ≡ wrong
    go true = refl
    go false = refl

module _ {front : List ℕ} {tag least most : ℕ} (f : Front front tag least most) where
  pub tag_wrong : (t : ℕ) (s : List ℕ) → (t ≡ tag → ⊥) → read_of (front ++ t ∷ s) ≡ wrong
  tag_wrong t s other = let r = front_reads f in r.is (t ∷ s) ∙ rw (field_tag tag least most t s other)

  pub size_wrong : (high low : ℕ) (s : List ℕ) → (256 * high + low < least) ⊎ (most < 256 * high + low)
      → read_of (front ++ tag ∷ high ∷ low ∷ s) ≡ wrong
  size_wrong high low s out =
      let r = front_reads f in r.is (tag ∷ high ∷ low ∷ s) ∙ rw (field_size tag least most high low s out)

pub way_wrong : (apex : List ℕ) (limit : ℕ) (name : List ℕ) (octet : ℕ) (rest : List ℕ) → length apex ≤ most_value
    → length name ≤ most_value → 3 < octet → read_of (four_fields apex limit name octet ++ rest) ≡ wrong
way_wrong apex limit name octet rest a n h = fields_read apex limit name octet rest a n ∙ rw (above_unknown octet h)

-- ---- a beginning

pub beginning_cut : (q : Question) → Askable q → (n : ℕ) → n < length (question_octets q) → read_of (take n (question_octets q)) ≡ cut
beginning_cut q a n h = go (read_of (take n o)) refl
  where
    o : List ℕ
    o = question_octets q

    whole : read_of (take n o ++ drop n o) ≡ found q []
    whole = rw (take-append-drop n (question_octets q)) (rw (append-nil (question_octets q)) at (question_read q [] a))

    go : (r : Read Question) → read_of (take n o) ≡ r → read_of (take n o) ≡ cut
    go (found p rest) e =
        let s : rest ++ drop n o ≡ [] = (found_same (sym (question_grows.found_more (take n o) (drop n o) e) ∙ whole)).1 in
        absurd (omega (arith, ap length s, length-append rest (drop n o), length-drop n o))
    go wrong e = absurd (wrong_not_found (sym (question_grows.wrong_more (take n o) (drop n o) e) ∙ whole))
    go cut e = e
