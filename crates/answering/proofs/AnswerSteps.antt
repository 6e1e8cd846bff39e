-- Answering a question, by what the operation said that was lent the space from its eighth octet on, or from its end.
use mathlib.Core.Path.{◌≡◌, refl, ◌∙◌}
use mathlib.Core.List.{List, [], ◌∷◌, ◌++◌}
use mathlib.Core.Bool.{Bool, true, false}
use Prim.Native.Nat.{ℕ, ◌+◌, ◌-◌, ◌/◌, ◌%◌, ◌≤◌, min}
use native.Mathlib.Omega.{arith}
use borrow.Author.Tests.{eq-eqb, ne_eqb, eqb-true, eqb-false}
use lib.Dec.{eqb}
use borrow.Rule.Slice.PartMut.{put_mid, mid_of, put_same}
use lib.ListN.{length, length-take, length-drop}
use Rattle.facts.proofs.Lists.{length_none}
use Rattle.name.specs.declared.Refusal.{Refusal}
use Rattle.space.specs.Octets.{Octets, overlay}
use Rattle.name.specs.Answer.{Result, answer, refusal, refuse_if, refusal_number, numbered, Fills}
use Rattle.name.proofs.Answers.{fills_no_room, fills_answer}
use Rattle.question.specs.Fields.{field}
use Rattle.question.specs.Question.{Question}
use Rattle.answering.specs.Answering.{result_of, answer_octets, answered}
use Rattle.answering.specs.Private.Heads.{refusal_front, heads, Headed}
use Rattle.answering.proofs.Outcomes.{Wrote, fills_answered, fills_lacks, fills_refused}
use Rattle.space.specs.Private.Written.{Written}
use Rattle.space.proofs.Written.{written_before, written_front, overlay_written, written_lent}
use Rattle.answering.proofs.Results.{result_number, result_small}

pub answered_name : (q : Question) (a : List ℕ) → result_of q ≡ answer a → answered q ≡ answer_octets (answer a)
unfolding answered
answered_name q a e = rw e

pub answered_number : (q : Question) (n : ℕ) (vs : List ℕ) → result_of q ≡ refusal n vs → answered q ≡ field 16 (n ∷ [])
unfolding answered
answered_number q n vs e = rw e

-- ---- the front of a refusal

module _ (w : Refusal) where
  pub front_nine : refusal_number w ≡ 9 → refusal_front w ≡ refusal 9 []
  front_nine e = rw (eq-eqb (refusal_number w) 9 e)

  pub front_fills : {n : ℕ} {before after : List ℕ} {words : Result ℕ} → n ≡ refusal_number w → (n ≡ 9 → ⊥)
      → Fills (answer (field 16 (n ∷ []))) before words after → Fills (refusal_front w) before words after
  front_fills e other f = rw (ne_eqb (refusal_number w) 9 (λ nine. other (e ∙ nine))) (rw e at f)

-- ---- how many octets

-- the largest answer: 4 octets for the number, 3 and 255 for the name
pub answered_most : (q : Question) → Octets q.apex → Octets q.name → length (answered q) ≤ 262
unfolding answered
answered_most q oa on = go (result_of q) refl
  where
    go : (r : Result (List ℕ)) → result_of q ≡ r → length (answer_octets r) ≤ 262
    go (answer a) e = omega (arith, result_small q a oa on e)
    go (refusal n vs) e = omega arith

-- ---- the heads of a short name

heads_of : (a : List ℕ) → length a ≤ 255 → answer_octets (answer a) ≡ heads (length a) ++ a
heads_of a h =
    let high : length a / 256 ≡ 0 = omega arith in
    let low : length a % 256 ≡ length a = omega arith in
    rw (high, low)

module _ (q : Question) (xs : List ℕ) (from : ℕ) (e : from ≡ min 7 (length xs)) (ys : List ℕ) where
  -- the space with its part back
  abbrev pub returned : List ℕ
  returned = put_mid from (length xs - from) xs ys

  part_length : length (mid_of from (length xs - from) xs) ≡ length xs - from
  part_length = simp (length-take, length-drop) (omega arith)

  -- ---- what the operation wrote

  written : (a : List ℕ) (n : ℕ) (after : List ℕ) → result_of q ≡ answer a → n ≡ length a → length a ≤ length xs - from
      → ys ≡ overlay a (mid_of from (length xs - from) xs) → length a ≤ 255 → 7 ≤ length xs
      → after ≡ overlay (heads n) returned → Fills (answer (answered q)) xs (answer (7 + n)) after
  written a n after is en fits ey few room ea =
      let name = written_lent xs from a ey refl (omega arith) in
      let front : Written returned 0 0 (heads n) from from after = overlay_written ea (omega arith) (omega (arith, name.size)) in
      let all = written_before name front (omega arith) in
      rw (answered_name q a is, heads_of a few, ← en) (fills_answer refl (omega arith) (omega arith) (written_front all (omega arith)))

  module _ (n : ℕ) (f : Fills (result_of q) (mid_of from (length xs - from) xs) (answer n) ys) (oa : Octets q.apex)
      (on : Octets q.name) where
    pub name_small : n ≤ 255
    name_small = let t = fills_answered (result_of q) _ ys n f in omega (arith, t.count, result_small q t.octets oa on t.is)

    -- the heads are written before it, or have no room
    pub answer_headed : (words : Result ℕ) (after : List ℕ) → Headed n returned words after → Fills (answer (answered q)) xs words after
    answer_headed words after h =
        let t = fills_answered (result_of q) _ ys n f in
        go words t (written_lent xs from t.octets t.space refl (omega (arith, t.room, part_length))).size h
      where
        go : (words : Result ℕ) (t : Wrote (result_of q) (mid_of from (length xs - from) xs) n ys) → length returned ≡ length xs
            → Headed n returned words after → Fills (answer (answered q)) xs words after
        go (answer m) t size h =
            rw h.0 (written t.octets n after t.is t.count (omega (arith, t.room, part_length)) t.space
            (omega (arith, t.count, name_small)) (omega (arith, h.1)) h.2)
        go (refusal m vs) t size h =
            let none : t.octets ≡ [] = length_none t.octets (omega (arith, t.room, part_length, h.2)) in
            let same : returned ≡ xs = rw (t.space, none) (put_same from (length xs - from) xs) in
            rw (h.0, h.1, h.3, same)
            (fills_no_room refl (rw (answered_name q t.octets t.is) (omega (arith, h.2))))

  -- ---- what it refused

  module _ (w : Refusal) (f : Fills (result_of q) (mid_of from (length xs - from) xs) (numbered w) ys) where
    pub answer_refused : (words : Result ℕ) (after : List ℕ) → Fills (refusal_front w) returned words after
        → Fills (answer (answered q)) xs words after
    answer_refused words after p = go (eqb (refusal_number w) 9) refl p
      where
        go : (b : Bool) → eqb (refusal_number w) 9 ≡ b
            → Fills (refuse_if b 9 (answer (field 0x10 (refusal_number w ∷ [])))) returned words after
            → Fills (answer (answered q)) xs words after
        go true is p =
            let t =
            fills_lacks (result_of q) _ ys w (eqb-true (refusal_number w) 9 is) (λ vs r. omega (arith, rw r at (result_number q))) f in
            let same : returned ≡ xs = rw t.space (put_same from (length xs - from) xs) in
            let s = p.says in
            let k = p.space in
            rw (s, k, same) (fills_no_room refl (rw (answered_name q t.octets t.is) (omega (arith, t.no_room, part_length))))
        go false is p =
            let t = fills_refused (result_of q) _ ys w (eqb-false (refusal_number w) 9 is) f in
            let same : returned ≡ xs = rw t.space (put_same from (length xs - from) xs) in
            rw (answered_number q (refusal_number w) t.values t.is) (rw same at p)
