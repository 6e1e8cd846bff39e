-- However the input comes in pieces, and however small the space is at each call, what is written is the batch's answers.
use mathlib.Core.Path.{◌≡◌, refl, sym, ap, ◌∙◌}
use mathlib.Core.List.{List, [], ◌++◌, append_assoc, append-nil}
use mathlib.Core.Bool.{true, false, true≢false}
use Prim.Native.Nat.{ℕ}
use lib.ListN.{drop}
use Rattle.answering.specs.Batch.{batch_of}
use Rattle.answering.specs.Progress.{Run, run_of}
use Rattle.answering.specs.Pieces.{joined, InPieces, piece, step, wrong_end, last_step, last_end}
use Rattle.answering.proofs.GoingOn.{GoesOn, run_goes_on}

module _ (s t : List ℕ) (run : Run) (h : GoesOn s t run) where
  ended : run.ended ≡ true → run.octets ≡ batch_of (s ++ t)
  ended e = sym (h ∙ rw e (append-nil run.octets))

  not_ended : (w : List ℕ) → run.ended ≡ false → w ≡ batch_of (drop run.read s ++ t) → run.octets ++ w ≡ batch_of (s ++ t)
  not_ended w e ew = sym (h ∙ rw (e, ← ew))

-- where more is to come, anything may
more_to_come : (t : List ℕ) → false ≡ true → t ≡ []
more_to_come t e = absurd (true≢false (cc))

pub pieces_joined : {s : List ℕ} {ps : List (List ℕ)} {w : List ℕ} → InPieces s ps w → w ≡ batch_of (s ++ joined ps)
pieces_joined (piece s p ps w r) = pieces_joined r ∙ ap (λ (u : List ℕ). batch_of u) (append_assoc s p (joined ps))
pieces_joined (step s ps w room e r) =
    not_ended s (joined ps) (run_of false room s) (run_goes_on false room s (joined ps) (more_to_come (joined ps))) w e (pieces_joined r)
pieces_joined (wrong_end s ps room e) =
    ended s (joined ps) (run_of false room s) (run_goes_on false room s (joined ps) (more_to_come (joined ps))) e
pieces_joined (last_step s w room e r) =
    not_ended s [] (run_of true room s) (run_goes_on true room s [] (λ h. refl)) w e (pieces_joined r)
pieces_joined (last_end s room e) = ended s [] (run_of true room s) (run_goes_on true room s [] (λ h. refl)) e
