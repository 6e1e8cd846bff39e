-- What is cut off is a beginning of a question: octets can follow that make it whole. So "wrong" is found at the first
-- octet that rules every question out, and no later.
use mathlib.Core.Path.{◌≡◌, refl, sym, ◌∙◌}
use mathlib.Core.List.{List, [], ◌∷◌, ◌++◌, append_assoc, append-nil}
use mathlib.Core.Bool.{Bool, true, false, cond}
use Prim.Native.Nat.{ℕ, zero, suc, ◌+◌, ◌-◌, ◌*◌, ◌/◌, ◌%◌, ◌≤◌}
use native.Mathlib.Omega.{arith}
use borrow.Author.Tests.{le-leb, ltb-false, eq-eqb, eqb-true}
use lib.Dec.{eqb, ltb}
use lib.ListN.{length, get_or, replicate, length-append, length-replicate}
use lib.Seq.{take-length, drop-length}
use Rattle.facts.proofs.Lists.{length_none}
use Rattle.question.specs.declared.Way.TheVariants.{AbsolutePredecessor}
use Rattle.question.specs.Fields.{field, Read, found, wrong, cut, and_then, size_of, value_of, field_of}
use Rattle.question.specs.Way.{way_of}
use Rattle.question.specs.Question.{Question, asking, read_way, read_name, read_limit, read_of}
use Rattle.question.proofs.Readings.{wrong_not_found, wrong_not_cut, Grows}
use Rattle.question.proofs.Fields.{field_read, size_grows, field_grows, size_found}
use Rattle.question.proofs.Questions.{question_grows}
use Rattle.question.proofs.CutOff.{then_cut, value_cut, size_cut, never_cut}

-- octets that make s whole
pub record Completion {A : Type 0} (f : List ℕ → Read A) (s : List ℕ) : Type 0 where
  pub more : List ℕ
  pub thing : A
  pub is : f (s ++ more) ≡ found thing []

then_completes : {A B : Type 0} (f : List ℕ → Read A) (g : A → List ℕ → Read B) → Grows f
    → ((s : List ℕ) → f s ≡ cut → Completion f s) → ((a : A) (s : List ℕ) → g a s ≡ cut → Completion (g a) s) → ((a : A) → g a [] ≡ cut)
    → (s : List ℕ) → and_then (f s) g ≡ cut → Completion (λ (t : List ℕ). and_then (f t) g) s
then_completes {A} {B} f g grows hf hg empty s e =
    then_cut (Completion (λ (t : List ℕ). and_then (f t) g) s) (f s) g e
    (λ c.
    let x = hf s c in
    let y = hg x.thing [] (empty x.thing) in
    record {
      more = x.more ++ y.more;
      thing = y.thing;
      is = rw (← append_assoc s x.more y.more, grows.found_more (s ++ x.more) y.more x.is) y.is;
    })
    (λ a rest h c.
    let y = hg a rest c in
    record { more = y.more; thing = y.thing; is = rw (grows.found_more s y.more h) y.is })

-- ---- a field, whose missing octets may all be 0

record FieldCompletion (tag least most : ℕ) (s : List ℕ) : Type 0 where
  pub whole : Completion (field_of tag least most) s
  pub first_zero : most ≡ 1 → get_or whole.thing 0 0 ≡ 0

abbrev zeros : ℕ → List ℕ
zeros n = replicate n 0

zeros_first : (n : ℕ) → ◌≡◌ {A = ℕ} (get_or (zeros n) 0 0) 0
zeros_first zero = refl
zeros_first (suc n) = refl

zeros_length : (n : ℕ) → length (zeros n) ≡ n
zeros_length n = length-replicate n 0

full : (v : List ℕ) (n : ℕ) → length v ≡ n → value_of n v ≡ found v []
full v n e = rw (← e, le-leb (length v) (length v) (omega arith), take-length v, drop-length v)

module _ (tag least most : ℕ) (some : least ≤ most) where
  tagged : (s : List ℕ) → field_of tag least most (tag ∷ s) ≡ and_then (size_of least most s) value_of
  unfolding field_of
  tagged s = rw (eq-eqb tag tag refl)

  -- the size is cut off
  size_completes : (s : List ℕ) → size_of least most s ≡ cut → FieldCompletion tag least most (tag ∷ s)
  size_completes [] e =
      let v = zeros least in
      let l : length v ≡ least = zeros_length least in
      record {
        whole = record {
          more = length v / 256 ∷ length v % 256 ∷ v;
          thing = v;
          is = rw (append-nil (field tag v)) at (field_read tag least most v [] (omega arith) (omega arith));
        };
        first_zero = λ e. zeros_first least;
      }
  size_completes (h ∷ []) e = go (ltb most (256 * h)) refl e
    where
      size : 256 * h ≤ most
          → size_of least most (h ∷ (least - 256 * h) ∷ zeros (256 * h + (least - 256 * h)))
          ≡ found (256 * h + (least - 256 * h)) (zeros (256 * h + (least - 256 * h)))
      size x = rw (le-leb least (256 * h + (least - 256 * h)) (omega arith), le-leb (256 * h + (least - 256 * h)) most (omega arith))

      go : (b : Bool) → ltb most (256 * h) ≡ b → ◌≡◌ {A = Read ℕ} (cond b wrong cut) cut → FieldCompletion tag least most (tag ∷ h ∷ [])
      go true t x = absurd (wrong_not_cut x)
      go false t x =
          let n = 256 * h + (least - 256 * h) in
          record {
            whole = record {
              more = (least - 256 * h) ∷ zeros n;
              thing = zeros n;
              is = rw (tagged (h ∷ (least - 256 * h) ∷ zeros n), size (ltb-false most (256 * h) t)) (full (zeros n) n (zeros_length n));
            };
            first_zero = λ e. zeros_first n;
          }
  size_completes (h ∷ l ∷ s) e = absurd (omega (arith, size_cut least most (h ∷ l ∷ s) e))

  -- no octet is there
  nothing_completes : FieldCompletion tag least most []
  nothing_completes =
      let c = size_completes [] refl in
      record {
        whole = record { more = tag ∷ c.whole.more; thing = c.whole.thing; is = c.whole.is };
        first_zero = c.first_zero;
      }

  -- the value is cut off
  value_completes : (s : List ℕ) (n : ℕ) (rest : List ℕ) → size_of least most s ≡ found n rest → value_of n rest ≡ cut
      → FieldCompletion tag least most (tag ∷ s)
  value_completes s n rest f e =
      let few = value_cut n rest e in
      let zs = zeros (n - length rest) in
      let size : length (rest ++ zs) ≡ n = omega (arith, length-append rest zs, zeros_length (n - length rest)) in
      record {
        whole = record {
          more = zs;
          thing = rest ++ zs;
          is = rw (tagged (s ++ zs), (size_grows least most).found_more s zs f) (full (rest ++ zs) n size);
        };
        first_zero = λ one.
            let none : rest ≡ [] = length_none rest (omega (arith, (size_found least most s f).few)) in
            rw none (zeros_first (n - 0));
      }

  field_completes : (s : List ℕ) → field_of tag least most s ≡ cut → FieldCompletion tag least most s
  unfolding field_of
  field_completes [] e = nothing_completes
  field_completes (o ∷ s) e = go (eqb o tag) refl e
    where
      inside : o ≡ tag → and_then (size_of least most s) value_of ≡ cut → FieldCompletion tag least most (o ∷ s)
      inside same c =
          rw same (then_cut (FieldCompletion tag least most (tag ∷ s)) (size_of least most s) value_of c (size_completes s)
          (value_completes s))

      go : (b : Bool) → eqb o tag ≡ b → cond b (and_then (size_of least most s) value_of) wrong ≡ cut
          → FieldCompletion tag least most (o ∷ s)
      go true t x = inside (eqb-true o tag t) x
      go false t x = absurd (wrong_not_cut x)

-- ---- a question

field_empty : (tag least most : ℕ) → field_of tag least most [] ≡ cut
unfolding field_of
field_empty tag least most = refl

way_completes : (apex : List ℕ) (limit : ℕ) (name s : List ℕ) → read_way apex limit name s ≡ cut → Completion (read_way apex limit name) s
way_completes apex limit name s e =
    then_cut (Completion (read_way apex limit name) s) (field_of 4 1 1 s) _ e
    (λ c.
    let x = field_completes 4 1 1 (omega arith) s c in
    record {
      more = x.whole.more;
      thing = asking apex limit name AbsolutePredecessor;
      is = rw (x.whole.is, x.first_zero refl);
    })
    (λ way rest h c. absurd (never_cut apex limit name (way_of (get_or way 0 0)) rest c))

name_completes : (apex : List ℕ) (limit : ℕ) (s : List ℕ) → read_name apex limit s ≡ cut → Completion (read_name apex limit) s
name_completes apex limit =
    then_completes (field_of 3 0 600) (read_way apex limit) (field_grows 3 0 600) (λ s e. (field_completes 3 0 600 (omega arith) s e).whole)
    (way_completes apex limit) (λ name. rw (field_empty 4 1 1))

limit_completes : (apex s : List ℕ) → read_limit apex s ≡ cut → Completion (read_limit apex) s
limit_completes apex =
    then_completes (field_of 2 1 1) (λ (limit rest : List ℕ). read_name apex (get_or limit 0 0) rest) (field_grows 2 1 1)
    (λ s e. (field_completes 2 1 1 (omega arith) s e).whole) (λ limit. name_completes apex (get_or limit 0 0))
    (λ limit. rw (field_empty 3 0 600))

pub cut_completes : (s : List ℕ) → read_of s ≡ cut → Completion read_of s
unfolding read_of
cut_completes =
    then_completes (field_of 1 0 600) read_limit (field_grows 1 0 600) (λ s e. (field_completes 1 0 600 (omega arith) s e).whole)
    limit_completes
    (λ apex. rw (field_empty 2 1 1))

-- and what is wrong cannot be completed
pub wrong_stays : (s t : List ℕ) (q : Question) (rest : List ℕ) → read_of s ≡ wrong → read_of (s ++ t) ≡ found q rest → ⊥
wrong_stays s t q rest e h = wrong_not_found (sym (question_grows.wrong_more s t e) ∙ h)
