-- How far a call gets: within its input and its room; and with room for the largest answer it stops without having read anything only where
-- no whole question has come yet.
use mathlib.Core.Path.{◌≡◌, refl, sym, ap, ◌∙◌}
use mathlib.Core.List.{List, [], ◌∷◌, ◌++◌}
use mathlib.Core.Bool.{Bool, true, false, cond, true≢false}
use Prim.Native.Nat.{ℕ, zero, suc, ◌+◌, ◌-◌, ◌≤◌, ◌<◌}
use native.Mathlib.Omega.{arith}
use borrow.Author.Tests.{le-leb, leb-true}
use lib.Dec.{leb}
use lib.ListN.{length, take, drop, get_or, length-drop, length-append}
use Rattle.space.specs.Octets.{Octets}
use Rattle.name.proofs.Labels.{octets_each}
use Rattle.question.specs.Fields.{Read, found, wrong, cut}
use Rattle.question.specs.Question.{Question, size, read_of}
use Rattle.question.proofs.Questions.{question_holds, octets_drop, octets_take}
use Rattle.question.proofs.CutOff.{cut_short}
use Rattle.answering.specs.declared.Progress.{Progress}
use Rattle.answering.specs.Answering.{answered, thirteen}
use Rattle.answering.specs.Progress.{Run, stops, refuses, replies, run_of, Runs}
use Rattle.answering.proofs.AnswerSteps.{answered_most}
use Rattle.answering.proofs.Batches.{rest_shorter}
use Rattle.answering.proofs.Runs.{run_end, run_found, run_wrong, run_cut}

-- so many octets of the input are there, and so many of the space
pub record Fit (s : List ℕ) (room : ℕ) (run : Run) : Type 0 where
  pub read : run.read ≤ length s
  pub written : length run.octets ≤ room

stops_fit : (s : List ℕ) (room : ℕ) → Fit s room stops
stops_fit s room = record { read = omega arith; written = omega arith }

refuses_fit : (s : List ℕ) (room : ℕ) → Fit s room (refuses room)
refuses_fit s room = go (leb (length thirteen) room) refl
  where
    go : (b : Bool) → leb (length thirteen) room ≡ b → Fit s room (cond b (record { read = 0; octets = thirteen; ended = true }) stops)
    go true h = record { read = omega arith; written = leb-true (length thirteen) room h }
    go false h = stops_fit s room

replies_fit : (s : List ℕ) (room : ℕ) (q : Question) (rest : List ℕ) (next : Run) → read_of s ≡ found q rest
    → Fit rest (room - length (answered q)) next → Fit s room (replies room q next)
replies_fit s room q rest next e f = go (leb (length (answered q)) room) refl
  where
    go : (b : Bool) → leb (length (answered q)) room ≡ b
        → Fit s room (cond b (record { read = size q + next.read; octets = answered q ++ next.octets; ended = next.ended }) stops)
    go true h =
        let t = question_holds s q rest e in
        record {
          read = omega (arith, f.read, t.within, ap length t.after, length-drop (size q) s);
          written = omega (arith, f.written, leb-true (length (answered q)) room h, length-append (answered q) next.octets);
        }
    go false h = stops_fit s room

pub run_fits : (last : Bool) (room : ℕ) (s : List ℕ) → Fit s room (run_of last room s)
run_fits last room s = go (length s) room s (omega arith)
  where
    at_cut : (b : Bool) (room : ℕ) (s : List ℕ) → Fit s room (cond b (refuses room) stops)
    at_cut true room s = refuses_fit s room
    at_cut false room s = stops_fit s room

    turn_fits : (k room : ℕ) (s : List ℕ) (r : Read Question) → length s ≤ suc k → 1 ≤ length s → read_of s ≡ r
        → ((room : ℕ) (u : List ℕ) → length u ≤ k → Fit u room (run_of last room u)) → Fit s room (run_of last room s)
    turn_fits k room s (found q rest) h l e next =
        rw (run_found last room s q rest e)
        (replies_fit s room q rest _ e (next (room - length (answered q)) rest (omega (arith, rest_shorter s q rest e))))
    turn_fits k room s wrong h l e next = rw (run_wrong last room s l e) (refuses_fit s room)
    turn_fits k room s cut h l e next = rw (run_cut last room s l e) (at_cut last room s)

    go : (k room : ℕ) (s : List ℕ) → length s ≤ k → Fit s room (run_of last room s)
    go zero room [] h = rw (run_end last room) (record { read = omega arith; written = omega arith })
    go zero room (o ∷ s) h = absurd (omega arith)
    go (suc k) room [] h = rw (run_end last room) (record { read = omega arith; written = omega arith })
    go (suc k) room (o ∷ s) h = turn_fits k room (o ∷ s) (read_of (o ∷ s)) h (omega arith) refl (λ room u hu. go k room u hu)

-- ---- progress

-- the parts of a question in octets are octets
question_octets_lem : (s : List ℕ) (q : Question) (rest : List ℕ) → read_of s ≡ found q rest → Octets s → Octets q.apex × Octets q.name
question_octets_lem s q rest e o =
    let h = question_holds s q rest e in
    let a = length q.apex in (
      rw h.apex_is (octets_take a (drop 3 s) (octets_drop 3 s o)),
      rw h.name_is (octets_take (length q.name) (drop (a + 10) s) (octets_drop (a + 10) s o)),
    )

module _ (last : Bool) (room : ℕ) (enough : 262 ≤ room) where
  -- a whole question at the front is read and answered
  pub question_moves : (s : List ℕ) → Octets s → (q : Question) (rest : List ℕ) → read_of s ≡ found q rest
      → size q ≤ (run_of last room s).read
  question_moves s octets q rest e =
      let o = question_octets_lem s q rest e octets in
      let t = le-leb (length (answered q)) room (omega (arith, answered_most q o.0 o.1)) in
      rw (run_found last room s q rest e, t) (omega arith)

  -- what is no question ends the batch
  pub wrong_moves : (s : List ℕ) → 1 ≤ length s → read_of s ≡ wrong → (run_of last room s).ended ≡ true
  wrong_moves s l e = rw (run_wrong last room s l e, le-leb (length thirteen) room (omega arith))

  cut_moves : (b : Bool) → (cond b (refuses room) stops).ended ≡ false → b ≡ false
  cut_moves true e = absurd (true≢false (rw (le-leb (length thirteen) room (omega arith)) at e))
  cut_moves false e = refl

  -- a call that neither reads nor ends waits for the rest of a question
  pub nothing_moves : (s : List ℕ) → Octets s → (run_of last room s).ended ≡ false → (run_of last room s).read ≡ 0
      → (last ≡ false) × (length s < 1214)
  nothing_moves [] octets e r = (rw (run_end last room) at e, omega arith)
  nothing_moves (o ∷ s) octets e r = go (read_of (o ∷ s)) refl
    where
      go : (x : Read Question) → read_of (o ∷ s) ≡ x → (last ≡ false) × (length (o ∷ s) < 1214)
      go (found q rest) h = absurd (omega (arith, question_moves (o ∷ s) octets q rest h, r))
      go wrong h = absurd (true≢false (sym (wrong_moves (o ∷ s) (omega arith) h) ∙ e))
      go cut h = (cut_moves last (rw (run_cut last room (o ∷ s) (omega arith) h) at e), cut_short (o ∷ s) h)

-- ---- what a caller learns

pub octets_part : (n at : ℕ) (s : List ℕ) → ((i : ℕ) → get_or s i 0 < 256) → Octets (take n (drop at s))
octets_part n at s h = octets_take n (drop at s) (octets_drop at s (octets_each s h))

module _ (last : Bool) (s before after : List ℕ) (p : Progress) (r : Runs (run_of last (length before) s) before p after) where
  pub call_reads : p.read ≤ length s
  call_reads = omega (arith, r.read, (run_fits last (length before) s).read)

  pub call_writes : p.written ≤ length before
  call_writes = omega (arith, r.written, (run_fits last (length before) s).written)

  pub call_waits : Octets s → 262 ≤ length before → p.ended ≡ false → p.read ≡ 0 → length s < 1214
  call_waits octets enough e none =
      (nothing_moves last (length before) enough s octets (sym r.ended ∙ e) (sym r.read ∙ none)).1
