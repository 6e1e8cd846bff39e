-- Going on: the answers of one call, and after them the answers to what it left unread with whatever else comes, are the answers to the
-- whole.
use mathlib.Core.Path.{◌≡◌, refl, sym, ap, ◌∙◌}
use mathlib.Core.List.{List, [], ◌∷◌, ◌++◌, append_assoc, append-nil}
use mathlib.Core.Bool.{Bool, true, false, cond}
use Prim.Native.Nat.{ℕ, zero, suc, ◌+◌, ◌-◌, ◌≤◌}
use native.Mathlib.Omega.{arith}
use lib.ListN.{length, drop, length-append}
use lib.Seq.{drop-drop}
use lib.Dec.{leb}
use Rattle.question.specs.Fields.{Read, found, wrong, cut}
use Rattle.question.specs.Question.{Question, size, read_of}
use Rattle.answering.specs.Answering.{answered, thirteen}
use Rattle.answering.specs.Batch.{batch_of}
use Rattle.answering.specs.Progress.{Run, stops, refuses, replies, run_of}
use Rattle.question.proofs.Questions.{question_grows, question_holds}
use Rattle.answering.proofs.Batches.{rest_shorter, batch_end, batch_found, batch_wrong, batch_cut}
use Rattle.answering.proofs.Runs.{run_end, run_found, run_wrong, run_cut}

-- the octets t are still to come
abbrev pub GoesOn : List ℕ → List ℕ → Run → Type 0
GoesOn s t run = batch_of (s ++ t) ≡ run.octets ++ cond run.ended [] (batch_of (drop run.read s ++ t))

stops_goes_on : (s t : List ℕ) → GoesOn s t stops
stops_goes_on s t = refl

refuses_goes_on : (room : ℕ) (s t : List ℕ) → batch_of (s ++ t) ≡ thirteen → GoesOn s t (refuses room)
refuses_goes_on room s t e = go (leb 4 room)
  where
    go : (b : Bool) → GoesOn s t (cond b (record { read = 0; octets = thirteen; ended = true }) stops)
    go true = e
    go false = stops_goes_on s t

replies_goes_on : (room : ℕ) (q : Question) (s rest t : List ℕ) (next : Run) → read_of s ≡ found q rest → GoesOn rest t next
    → GoesOn s t (replies room q next)
replies_goes_on room q s rest t next e h = go (leb (length (answered q)) room)
  where
    left : drop (size q + next.read) s ≡ drop next.read rest
    left = sym (ap (drop next.read) (question_holds s q rest e).after ∙ drop-drop next.read (size q) s)

    go : (b : Bool)
        → GoesOn s t (cond b (record { read = size q + next.read; octets = answered q ++ next.octets; ended = next.ended }) stops)
    go true =
        batch_found (s ++ t) q (rest ++ t) (question_grows.found_more s t e)
        ∙ ap (λ (w : List ℕ). answered q ++ w) h
        ∙ rw (left, append_assoc (answered q) next.octets _)
    go false = stops_goes_on s t

-- in the last part of the input, nothing is still to come
pub run_goes_on : (last : Bool) (room : ℕ) (s t : List ℕ) → (last ≡ true → t ≡ []) → GoesOn s t (run_of last room s)
run_goes_on last room s t none = go (length s) room s (omega arith)
  where
    at_end_lem : (b : Bool) → (b ≡ true → t ≡ []) → batch_of t ≡ cond b [] (batch_of t)
    at_end_lem true h = ap (λ (u : List ℕ). batch_of u) (h refl) ∙ batch_end
    at_end_lem false h = refl

    longer : (s : List ℕ) → 1 ≤ length s → 1 ≤ length (s ++ t)
    longer s h = simp length-append (omega arith)

    at_cut : (b : Bool) → (b ≡ true → t ≡ []) → (room : ℕ) (s : List ℕ) → 1 ≤ length s → read_of s ≡ cut
        → GoesOn s t (cond b (refuses room) stops)
    at_cut true h room s l e = refuses_goes_on room s t (rw (h refl, append-nil s) (batch_cut s e l))
    at_cut false h room s l e = stops_goes_on s t

    turn_goes_on : (k room : ℕ) (s : List ℕ) (r : Read Question) → length s ≤ suc k → 1 ≤ length s → read_of s ≡ r
        → ((room : ℕ) (u : List ℕ) → length u ≤ k → GoesOn u t (run_of last room u)) → GoesOn s t (run_of last room s)
    turn_goes_on k room s (found q rest) h l e next =
        rw (run_found last room s q rest e)
        (replies_goes_on room q s rest t _ e (next (room - length (answered q)) rest (omega (arith, rest_shorter s q rest e))))
    turn_goes_on k room s wrong h l e next =
        rw (run_wrong last room s l e) (refuses_goes_on room s t (batch_wrong (s ++ t) (question_grows.wrong_more s t e) (longer s l)))
    turn_goes_on k room s cut h l e next = rw (run_cut last room s l e) (at_cut last none room s l e)

    go : (k room : ℕ) (s : List ℕ) → length s ≤ k → GoesOn s t (run_of last room s)
    go zero room [] h = rw (run_end last room) (at_end_lem last none)
    go zero room (o ∷ s) h = absurd (omega arith)
    go (suc k) room [] h = rw (run_end last room) (at_end_lem last none)
    go (suc k) room (o ∷ s) h = turn_goes_on k room (o ∷ s) (read_of (o ∷ s)) h (omega arith) refl (λ room u hu. go k room u hu)
