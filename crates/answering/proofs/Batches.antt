-- A batch is answered question by question: a question's answer comes first and the rest of the batch after it, 13 and the end close it.
-- Every input is questions, and after them the end or what is no question (`batch_parted`), and a batch of written questions is answered
-- with the answers of these questions (`batch_written`).
use mathlib.Core.Path.{◌≡◌, refl, sym, ap, ◌∙◌}
use mathlib.Core.List.{List, [], ◌∷◌, ◌++◌, append_assoc, append-nil}
use mathlib.Core.Logic.{inl, inr}
use Prim.Native.Nat.{ℕ, zero, suc, ◌≤◌, ◌<◌}
use native.Mathlib.Omega.{arith}
use lib.ListN.{length, length-drop}
use Rattle.space.specs.Octets.{Octets}
use Rattle.question.specs.Fields.{Read, found, wrong, cut}
use Rattle.question.specs.Question.{Question, question_octets, size, read_of}
use Rattle.answering.specs.Answering.{answered, thirteen}
use Rattle.answering.specs.Batch.{answers, batch_from, batch_of, all_octets, all_answers, AllAskable, NoQuestion, Parted}
use Rattle.question.proofs.Readings.{wrong_not_found, cut_not_found}
use Rattle.question.proofs.Questions.{question_read, question_holds, question_askable, octets_drop}

-- after a question fewer octets are left
pub rest_shorter : (s : List ℕ) (q : Question) (rest : List ℕ) → read_of s ≡ found q rest → length rest < length s
rest_shorter s q rest e =
    let h = question_holds s q rest e in
    omega (arith, h.within, ap length h.after, length-drop (size q) s)

same_answers : (r : Read Question) (f g : List ℕ → List ℕ) → ((q : Question) (rest : List ℕ) → r ≡ found q rest → f rest ≡ g rest)
    → answers r f ≡ answers r g
same_answers (found q rest) f g h = ap (λ (w : List ℕ). answered q ++ w) (h q rest refl)
same_answers wrong f g h = refl
same_answers cut f g h = refl

-- as many turns as octets are enough
enough : (j k : ℕ) (s : List ℕ) → length s ≤ j → length s ≤ k → batch_from j s ≡ batch_from k s
unfolding batch_from
enough zero zero s hj hk = refl
enough zero (suc k) [] hj hk = refl
enough zero (suc k) (o ∷ s) hj hk = absurd (omega arith)
enough (suc j) zero [] hj hk = refl
enough (suc j) zero (o ∷ s) hj hk = absurd (omega arith)
enough (suc j) (suc k) [] hj hk = refl
enough (suc j) (suc k) (o ∷ s) hj hk =
    same_answers (read_of (o ∷ s)) (λ rest. batch_from j rest) (λ rest. batch_from k rest) (λ q rest e.
    enough j k rest (omega (arith, rest_shorter (o ∷ s) q rest e)) (omega (arith, rest_shorter (o ∷ s) q rest e)))

-- ---- by what stands at the front

pub batch_end : batch_of [] ≡ []
unfolding batch_from
batch_end = refl

batch_turn : (o : ℕ) (s : List ℕ) → batch_of (o ∷ s) ≡ answers (read_of (o ∷ s)) (λ rest. batch_of rest)
unfolding batch_from
batch_turn o s =
    same_answers (read_of (o ∷ s)) (λ rest. batch_from (length s) rest) (λ rest. batch_of rest) (λ q rest e.
    enough (length s) (length rest) rest (omega (arith, rest_shorter (o ∷ s) q rest e)) (omega arith))

pub batch_found : (s : List ℕ) (q : Question) (rest : List ℕ) → read_of s ≡ found q rest → batch_of s ≡ answered q ++ batch_of rest
batch_found [] q rest e = absurd (omega (arith, rest_shorter [] q rest e))
batch_found (o ∷ s) q rest e = batch_turn o s ∙ rw e

pub batch_wrong : (s : List ℕ) → read_of s ≡ wrong → 1 ≤ length s → batch_of s ≡ thirteen
batch_wrong [] e h = absurd (omega arith)
batch_wrong (o ∷ s) e h = batch_turn o s ∙ rw e

pub batch_cut : (s : List ℕ) → read_of s ≡ cut → 1 ≤ length s → batch_of s ≡ thirteen
batch_cut [] e h = absurd (omega arith)
batch_cut (o ∷ s) e h = batch_turn o s ∙ rw e

-- ---- questions, and what is none

pub batch_after : (qs : List Question) (s : List ℕ) → AllAskable qs → batch_of (all_octets qs ++ s) ≡ all_answers qs ++ batch_of s
batch_after [] s a = refl
batch_after (q ∷ qs) s a =
    ap (λ (u : List ℕ). batch_of u) (append_assoc (question_octets q) (all_octets qs) s)
    ∙ batch_found (question_octets q ++ (all_octets qs ++ s)) q (all_octets qs ++ s) (question_read q (all_octets qs ++ s) a.0)
    ∙ ap (λ (w : List ℕ). answered q ++ w) (batch_after qs s a.1)
    ∙ sym (append_assoc (answered q) (all_answers qs) (batch_of s))

pub batch_written : (qs : List Question) → AllAskable qs → batch_of (all_octets qs) ≡ all_answers qs
batch_written qs a =
    ap (λ (u : List ℕ). batch_of u) (sym (append-nil (all_octets qs)))
    ∙ batch_after qs [] a
    ∙ rw batch_end (append-nil (all_answers qs))

pub no_question_thirteen : (s : List ℕ) → Octets s → NoQuestion s → batch_of s ≡ thirteen
no_question_thirteen s o n = go (read_of s) refl
  where
    go : (r : Read Question) → read_of s ≡ r → batch_of s ≡ thirteen
    go (found q rest) e = absurd (n.none q rest (question_askable s q rest o e) ((question_holds s q rest e).octets o))
    go wrong e = batch_wrong s e n.some
    go cut e = batch_cut s e n.some

-- what is not found is no question
not_found : (s : List ℕ) → 1 ≤ length s → ((q : Question) (rest : List ℕ) → read_of s ≡ found q rest → ⊥) → NoQuestion s
not_found s h f = record { some = h; none = λ q rest a e. f q rest (ap (λ (u : List ℕ). read_of u) e ∙ question_read q rest a) }

-- every input is questions, and after them the end or what is no question
pub batch_parted : (s : List ℕ) → Octets s → Parted s
batch_parted s o = go (length s) s (omega arith) o
  where
    nothing : Parted []
    nothing = record { questions = []; askable = tt; rest = []; is = refl; ends = inl refl }

    none_found : (s : List ℕ) → NoQuestion s → Parted s
    none_found s n = record { questions = []; askable = tt; rest = s; is = refl; ends = inr n }

    turn : (k : ℕ) (s : List ℕ) (r : Read Question) → length s ≤ suc k → 1 ≤ length s → Octets s → read_of s ≡ r
        → ((u : List ℕ) → length u ≤ k → Octets u → Parted u) → Parted s
    turn k s (found q rest) h l o e next =
        let t = question_holds s q rest e in
        let p = next rest (omega (arith, rest_shorter s q rest e)) (rw t.after (octets_drop (size q) s o)) in
        record {
          questions = q ∷ p.questions;
          askable = (question_askable s q rest o e, p.askable);
          rest = p.rest;
          is =
              t.octets o
              ∙ ap (λ (u : List ℕ). question_octets q ++ u) p.is
              ∙ sym (append_assoc (question_octets q) (all_octets p.questions) p.rest);
          ends = p.ends;
        }
    turn k s wrong h l o e next = none_found s (not_found s l (λ q rest f. wrong_not_found (sym e ∙ f)))
    turn k s cut h l o e next = none_found s (not_found s l (λ q rest f. cut_not_found (sym e ∙ f)))

    go : (k : ℕ) (s : List ℕ) → length s ≤ k → Octets s → Parted s
    go zero [] h o = nothing
    go zero (x ∷ s) h o = absurd (omega arith)
    go (suc k) [] h o = nothing
    go (suc k) (x ∷ s) h o = turn k (x ∷ s) (read_of (x ∷ s)) h (omega arith) o refl (λ u hu ou. go k u hu ou)
