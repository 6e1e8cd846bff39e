-- Calls with room for the largest answer come to the end of a batch, however its input comes in pieces: each reads a question or ends it.
use mathlib.Core.Path.{◌≡◌, refl, sym}
use mathlib.Core.List.{List, [], ◌∷◌, ◌++◌, append_assoc, append-nil}
use mathlib.Core.Bool.{Bool, true, false, true≢false}
use Prim.Native.Nat.{ℕ, zero, suc, ◌≤◌, ◌<◌}
use native.Mathlib.Decide.{dec_le}
use native.Mathlib.Omega.{arith}
use lib.ListN.{length, drop, length-drop}
use Rattle.space.specs.Octets.{Octets}
use Rattle.question.proofs.Questions.{octets_drop}
use Rattle.answering.specs.Batch.{batch_of}
use Rattle.answering.specs.Progress.{run_of}
use Rattle.answering.specs.Pieces.{joined, InPieces, piece, last_step, last_end}
use Rattle.answering.proofs.Moving.{run_fits, nothing_moves}
use Rattle.answering.proofs.Piecewise.{pieces_joined}

-- the room of the largest answer
abbrev most : ℕ
most = 262

abbrev Finishes : List ℕ → List (List ℕ) → Type 0
Finishes s ps = (w : List ℕ) × InPieces s ps w

-- the last part of the input
last_finishes : (s : List ℕ) → Octets s → Finishes s []
last_finishes s o = go (length s) s (omega arith) o
  where
    -- a call that does not end reads something
    reads : (s : List ℕ) → Octets s → (run_of true most s).ended ≡ false → 1 ≤ (run_of true most s).read
    reads s o e = at (dec_le 1 (run_of true most s).read)
      where
        at : Dec (1 ≤ (run_of true most s).read) → 1 ≤ (run_of true most s).read
        at (yes h) = h
        at (no h) = absurd (true≢false (nothing_moves true most (omega arith) s o e (omega arith)).0)

    call : (k : ℕ) (s : List ℕ) → length s ≤ k → Octets s → (b : Bool) → (run_of true most s).ended ≡ b
        → ((u : List ℕ) → length u < k → Octets u → Finishes u []) → Finishes s []
    call k s h o true e next = ((run_of true most s).octets, last_end s most e)
    call k s h o false e next =
        let n = (run_of true most s).read in
        let f = next (drop n s) (omega (arith, reads s o e, (run_fits true most s).read, length-drop n s)) (octets_drop n s o) in
        ((run_of true most s).octets ++ f.0, last_step s f.0 most e f.1)

    go : (k : ℕ) (s : List ℕ) → length s ≤ k → Octets s → Finishes s []
    go zero s h o = call zero s h o (run_of true most s).ended refl (λ u hu ou. absurd (omega arith))
    go (suc k) s h o = call (suc k) s h o (run_of true most s).ended refl (λ u hu ou. go k u (omega arith) ou)

finishes : (s : List ℕ) (ps : List (List ℕ)) → Octets (s ++ joined ps) → Finishes s ps
finishes s [] o = last_finishes s (rw (append-nil s) at o)
finishes s (p ∷ ps) o =
    let f = finishes (s ++ p) ps (rw (append_assoc s p (joined ps)) o) in
    (f.0, piece s p ps f.0 f.1)

pub pieces_finish : (s : List ℕ) (ps : List (List ℕ)) → Octets (s ++ joined ps) → InPieces s ps (batch_of (s ++ joined ps))
pieces_finish s ps o = let f = finishes s ps o in rw (sym (pieces_joined f.1)) f.1
