-- What a call does, by what stands at the front of its input.
use mathlib.Core.Path.{◌≡◌, refl, ap, ◌∙◌}
use mathlib.Core.List.{List, [], ◌∷◌}
use mathlib.Core.Bool.{Bool, cond}
use Prim.Native.Nat.{ℕ, zero, suc, ◌-◌, ◌≤◌}
use native.Mathlib.Omega.{arith}
use lib.ListN.{length}
use Rattle.question.specs.Fields.{Read, found, wrong, cut}
use Rattle.question.specs.Question.{Question, read_of}
use Rattle.answering.specs.Answering.{answered}
use Rattle.answering.specs.Progress.{Run, stops, quiet, refuses, replies, turn, run_from, run_of}
use Rattle.answering.proofs.Batches.{rest_shorter}

same_turn : (last : Bool) (room : ℕ) (r : Read Question) (f g : ℕ → List ℕ → Run)
    → ((left : ℕ) (q : Question) (rest : List ℕ) → r ≡ found q rest → f left rest ≡ g left rest)
    → turn last room r f ≡ turn last room r g
same_turn last room (found q rest) f g h = ap (λ (n : Run). replies room q n) (h (room - length (answered q)) q rest refl)
same_turn last room wrong f g h = refl
same_turn last room cut f g h = refl

-- as many turns as octets are enough
enough : (last : Bool) (j k room : ℕ) (s : List ℕ) → length s ≤ j → length s ≤ k → run_from j last room s ≡ run_from k last room s
unfolding run_from
enough last zero zero room s hj hk = refl
enough last zero (suc k) room [] hj hk = refl
enough last zero (suc k) room (o ∷ s) hj hk = absurd (omega arith)
enough last (suc j) zero room [] hj hk = refl
enough last (suc j) zero room (o ∷ s) hj hk = absurd (omega arith)
enough last (suc j) (suc k) room [] hj hk = refl
enough last (suc j) (suc k) room (o ∷ s) hj hk =
    same_turn last room (read_of (o ∷ s)) (λ left rest. run_from j last left rest) (λ left rest. run_from k last left rest)
    (λ left q rest e.
    enough last j k left rest (omega (arith, rest_shorter (o ∷ s) q rest e)) (omega (arith, rest_shorter (o ∷ s) q rest e)))

module _ (last : Bool) (room : ℕ) where
  pub run_end : run_of last room [] ≡ quiet last
  unfolding run_from
  run_end = refl

  pub run_turn : (s : List ℕ) → 1 ≤ length s → run_of last room s ≡ turn last room (read_of s) (λ left rest. run_of last left rest)
  unfolding run_from
  run_turn [] h = absurd (omega arith)
  run_turn (o ∷ s) h =
      same_turn last room (read_of (o ∷ s)) (λ left rest. run_from (length s) last left rest) (λ left rest. run_of last left rest)
      (λ left q rest e.
      enough last (length s) (length rest) left rest (omega (arith, rest_shorter (o ∷ s) q rest e)) (omega arith))

  pub run_found : (s : List ℕ) (q : Question) (rest : List ℕ) → read_of s ≡ found q rest
      → run_of last room s ≡ replies room q (run_of last (room - length (answered q)) rest)
  run_found s q rest e = run_turn s (omega (arith, rest_shorter s q rest e)) ∙ rw e

  pub run_wrong : (s : List ℕ) → 1 ≤ length s → read_of s ≡ wrong → run_of last room s ≡ refuses room
  run_wrong s h e = run_turn s h ∙ rw e

  pub run_cut : (s : List ℕ) → 1 ≤ length s → read_of s ≡ cut → run_of last room s ≡ cond last (refuses room) stops
  run_cut s h e = run_turn s h ∙ rw e
