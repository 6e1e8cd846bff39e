-- A call's loop: what holds when so many octets of the input are read and so many of the space are written.
use mathlib.Core.Path.{◌≡◌, refl, sym, ap, ◌∙◌}
use mathlib.Core.List.{List, [], ◌++◌, append_assoc}
use mathlib.Core.Bool.{Bool, true, false}
use Prim.Native.Nat.{ℕ, ◌+◌, ◌-◌, ◌≤◌, ◌<◌}
use native.Mathlib.Omega.{arith}
use native.Mathlib.Nat.{zero-add, sub-zero, add_assoc}
use borrow.Author.Tests.{le-leb}
use borrow.Rule.Slice.PartMut.{put_mid, mid_of}
use lib.ListN.{length, drop, length-take, length-drop, length-append}
use lib.Seq.{drop-drop}
use Rattle.space.specs.Octets.{overlay}
use Rattle.space.specs.Private.Written.{Written}
use Rattle.space.proofs.Written.{written_none, written_behind, written_front, written_lent}
use Rattle.question.specs.Fields.{found}
use Rattle.question.specs.Question.{Question, size, read_of}
use Rattle.answering.specs.Answering.{answered}
use Rattle.answering.specs.Progress.{Run, stops, run_of, Runs}
use Rattle.answering.specs.Private.Steps.{Answers, Ends}
use Rattle.question.proofs.Questions.{question_holds}
use Rattle.answering.proofs.Runs.{run_found}

-- what is done after n octets of the input are read and the octets w are written
abbrev pub following : ℕ → List ℕ → Run → Run
following n w run = record { read = n + run.read; octets = w ++ run.octets; ended = run.ended }

pub record Going (input : List ℕ) (last : Bool) (before : List ℕ) (output : List ℕ) (read written : ℕ) : Type 0 where
  pub octets : List ℕ
  pub space : Written before 0 0 octets written written output
  pub within : read ≤ length input
  pub run : run_of last (length before) input ≡ following read octets (run_of last (length before - written) (drop read input))

pub going_none : (input : List ℕ) (last : Bool) (before : List ℕ) → Going input last before before 0 0
going_none input last before =
    record {
      octets = [];
      space = written_none before (omega arith) (omega arith) (omega arith);
      within = omega arith;
      run = rw (sub-zero, zero-add);
    }

following_more : (n m : ℕ) (w v : List ℕ) (run : Run) → following n w (following m v run) ≡ following (n + m) (w ++ v) run
following_more n m w v run = rw (add_assoc n m run.read, append_assoc w v run.octets)

-- a question with room for its answer
following_question : (last : Bool) (room : ℕ) (s : List ℕ) (q : Question) (rest : List ℕ) → read_of s ≡ found q rest
    → length (answered q) ≤ room
    → run_of last room s ≡ following (size q) (answered q) (run_of last (room - length (answered q)) (drop (size q) s))
following_question last room s q rest e h =
    run_found last room s q rest e
    ∙ rw (le-leb (length (answered q)) room h)
    (ap (λ (r : List ℕ). following (size q) (answered q) (run_of last (room - length (answered q)) r)) (question_holds s q rest e).after)

-- the part of the output behind what is written, and the output with this part back
abbrev pub unwritten : List ℕ → ℕ → List ℕ
unwritten output written = mid_of written (length output - written) output

abbrev pub back : List ℕ → ℕ → List ℕ → List ℕ
back output written ys = put_mid written (length output - written) output ys

module _ {input : List ℕ} {last : Bool} {before output : List ℕ} {read written : ℕ} (g : Going input last before output read written) where
  part_room : length (unwritten output written) ≡ length before - written
  part_room = simp (length-take, length-drop) (omega arith)

  put : (s : List ℕ) {ys : List ℕ} {n : ℕ} → ys ≡ overlay s (unwritten output written) → n ≡ length s
      → n ≤ length (unwritten output written)
      → Written before 0 0 (g.octets ++ s) (written + n) (written + n) (back output written ys)
  put s e en h =
      written_behind g.space (written_lent output written s e (omega arith) (omega (arith, part_room))) (omega arith)

  -- a question is answered
  module _ {ys : List ℕ} {next n : ℕ} (a : Answers input read (unwritten output written) next n ys) where
    inside : size a.question ≤ length input - read
    inside = omega (arith, (question_holds (drop read input) a.question a.rest a.is).within, length-drop read input)

    pub going_less : length input - next < length input - read
    going_less = omega (arith, inside)

    pub next_fits : written + n ≤ length before
    next_fits = omega (arith, part_room)

    pub going_more : Going input last before (back output written ys) next (written + n)
    going_more =
        let q = a.question in
        let room : length (answered q) ≤ length before - written = omega (arith, part_room) in
        let en : length before - written - length (answered q) ≡ length before - (written + n) = omega arith in
        record {
          octets = g.octets ++ answered q;
          space = put (answered q) a.space a.count a.fits;
          within = omega (arith, inside);
          run =
              g.run
              ∙ ap (λ (r : Run). following read g.octets r)
              (following_question last (length before - written) (drop read input) q a.rest a.is room)
              ∙ following_more read (size q) g.octets (answered q) _
              ∙ rw (drop-drop (size q) read input, en, a.place);
        }

  -- the batch ends
  module _ {ys : List ℕ} {n : ℕ}
      (ends : Ends (run_of last (length (unwritten output written)) (drop read input)) (unwritten output written) n ys) where
    pub end_fits : written + n ≤ length before
    end_fits = omega (arith, part_room)

    pub going_ends : Runs (run_of last (length before) input) before (record { read = read; written = written + n; ended = true })
        (back output written ys)
    going_ends = go (run_of last (length before - written) (drop read input)) g.run (rw part_room at ends)
      where
        go : (r : Run) → run_of last (length before) input ≡ following read g.octets r → Ends r (unwritten output written) n ys
            → Runs (run_of last (length before) input) before (record { read = read; written = written + n; ended = true })
            (back output written ys)
        go r e h =
            rw e (record {
              read = omega (arith, h.read);
              written = omega (arith, h.count, length-append g.octets r.octets);
              ended = sym h.ended;
              space = written_front (put r.octets h.space h.count h.fits) (omega arith);
            })

  -- nothing more is done now
  pub going_stops : {ys : List ℕ}
      → (run_of last (length (unwritten output written)) (drop read input) ≡ stops) × (ys ≡ unwritten output written)
      → Runs (run_of last (length before) input) before (record { read = read; written = written; ended = false }) (back output written ys)
  going_stops h =
      rw (g.run ∙ ap (λ (r : Run). following read g.octets r) (rw part_room at h.0)) (record {
        read = omega arith;
        written = omega (arith, length-append g.octets []);
        ended = refl;
        space = written_front (put [] {n = 0} h.1 refl (omega arith)) (omega arith);
      })
