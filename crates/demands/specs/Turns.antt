-- Request Fourteen of document 02, every name gets its turn, over the operations' own definitions: every step is an answer, given room. It
-- is about the numbers of steps as numbers; nobody walks them.
use Rattle.std.specs.Prelude.{◌≡◌, List, ℕ, zero, suc, ◌+◌}
use Rattle.name.specs.Answer.{Result, answer}
use Rattle.alphabet.specs.declared.Alphabet.{Alphabet}
use Rattle.neighbour.specs.Neighbour.{successor_of, predecessor_of, successor_in, predecessor_in}
use Rattle.neighbour.specs.Modified.{modified_successor_in, modified_predecessor_in}
use Rattle.neighbour.specs.ShortSet.{InShortSetOf}
use Rattle.neighbour.specs.Nearest.{Question, InZone, InZoneOf}
use Rattle.demands.specs.Alphabets.{Deep}

-- an operation, taken so many times, answers from one name to another
abbrev pub Leads : (List ℕ → Result (List ℕ)) → ℕ → List ℕ → List ℕ → Type 0
Leads step zero s t = s ≡ t
Leads step (suc k) s t = (u : List ℕ) × (step s ≡ answer u) × Leads step k u t

pub record GoesRound (In : List ℕ → Type 0) (step : List ℕ → Result (List ℕ)) : Type 0 where
  -- from any member, taken often enough, it comes to any chosen member
  pub reaches : (s t : List ℕ) → In s → In t → (k : ℕ) × Leads step k s t
  -- and none comes twice before the start comes again: where the same name comes after j and after j + k steps, k steps lead from the start
  -- to the start
  pub returns : (j k : ℕ) (s u : List ℕ) → In s → Leads step j s u → Leads step (j + k) s u → Leads step k s s

-- ---- the request

pub record Turns : Type 0 where
  -- the absolute successor, and the predecessor the other way round
  pub successors : (apex : List ℕ) (limit : ℕ) (name : List ℕ) → Question apex limit name
      → GoesRound (InZone apex limit) (successor_of apex limit)
  pub predecessors : (apex : List ℕ) (limit : ℕ) (name : List ℕ) → Question apex limit name
      → GoesRound (InZone apex limit) (predecessor_of apex limit)
  -- for each alphabet
  pub successors_in : (alphabet : Alphabet) (apex : List ℕ) (limit : ℕ) (name : List ℕ) → Question apex limit name
      → GoesRound (InZoneOf alphabet apex limit) (successor_in alphabet apex limit)
  pub predecessors_in : (alphabet : Alphabet) (apex : List ℕ) (limit : ℕ) (name : List ℕ) → Question apex limit name
      → GoesRound (InZoneOf alphabet apex limit) (predecessor_in alphabet apex limit)
  -- for the short set at each depth that 7 lets pass
  pub modified_successors : (alphabet : Alphabet) (depth : ℕ) (apex : List ℕ) (limit : ℕ) (name : List ℕ) → Question apex limit name
      → Deep depth apex limit → GoesRound (InShortSetOf alphabet depth apex limit) (modified_successor_in alphabet depth apex limit)
  pub modified_predecessors : (alphabet : Alphabet) (depth : ℕ) (apex : List ℕ) (limit : ℕ) (name : List ℕ) → Question apex limit name
      → Deep depth apex limit → GoesRound (InShortSetOf alphabet depth apex limit) (modified_predecessor_in alphabet depth apex limit)
