-- What every neighbour is, over the way, the alphabet and the depth: the checks in rising number, and the answer by the steps. The public
-- definitions are its instances.
use Rattle.std.specs.Prelude.{◌≡◌, List, Bool, true, false, ℕ, ◌+◌, ◌-◌, ltb, length, Result as Outcome, Ok, Err}
use Rattle.name.specs.Answer.{Result, answer, refuse_if, numbered}
use Rattle.zone.specs.Steps.{successor_steps, predecessor_steps}
use Rattle.alphabet.specs.declared.Alphabet.{Alphabet}
use Rattle.alphabet.specs.Alphabets.{allowed}
use Rattle.checks.specs.declared.Depth.{Depth}
use Rattle.checks.specs.declared.Depth.TheVariants.{All, One, Two, Three, Other}
use Rattle.checks.specs.Private.Depths.{labels}
use Rattle.checks.specs.Checks.{checks}
use Rattle.checks.specs.Under.{above, under}
use Rattle.plan.specs.declared.Way.{Way}
use Rattle.plan.specs.declared.Way.TheVariants.{Before, After, Past}
use Rattle.name.specs.declared.Refusal.{Refusal}
use Rattle.plan.specs.declared.Plan.{Plan}
use Rattle.plan.specs.Spelled.{spelled_check}
use Rattle.plan.specs.Private.Planned.{planned, Feasible}

-- the steps of the successor at the depth that the labels themselves have, so that no label goes in front of them
abbrev pub past_steps : (ℕ → Bool) → ℕ → ℕ → List (List ℕ) → List (List ℕ)
past_steps allowed n d ls = successor_steps allowed n (length ls) ls

abbrev pub steps_of : Way → (ℕ → Bool) → ℕ → ℕ → List (List ℕ) → List (List ℕ)
steps_of Before = predecessor_steps
steps_of After = successor_steps
steps_of Past = past_steps

abbrev pub is_before : Way → Bool
is_before Before = true
is_before After = false
is_before Past = false

abbrev pub is_past : Way → Bool
is_past Before = false
is_past After = false
is_past Past = true

-- the steps of the two ways that go up the order
abbrev pub after_steps : Bool → (ℕ → Bool) → ℕ → ℕ → List (List ℕ) → List (List ℕ)
after_steps true = past_steps
after_steps false = successor_steps

-- the octets that full labels take, where the depth is limited; more than any limit where it is refused
abbrev pub full_labels : Depth → ℕ
full_labels All = 0
full_labels One = 64
full_labels Two = 128
full_labels Three = 192
full_labels Other = 256

-- the check 7, where the depth is limited
abbrev pub depth_check : {A : Type 0} → Depth → List ℕ → ℕ → Result A → Result A
depth_check All apex limit next = next
depth_check One apex limit next = refuse_if (ltb limit (length apex + 64)) 7 next
depth_check Two apex limit next = refuse_if (ltb limit (length apex + 128)) 7 next
depth_check Three apex limit next = refuse_if (ltb limit (length apex + 192)) 7 next
depth_check Other apex limit next = refuse_if (ltb limit (length apex + 256)) 7 next

abbrev pub neighbour_of : Way → Alphabet → Depth → List ℕ → ℕ → List ℕ → Result (List ℕ)
neighbour_of way alphabet depth apex limit name =
    checks apex limit name
    (depth_check depth apex limit
    (spelled_check alphabet apex name
    (answer (under apex (steps_of way (allowed alphabet) (limit - length apex) (labels depth) (above apex name))))))

-- what is drawn is the refusal, or a plan of the answer that can be written, where g is the greatest octet
abbrev pub Draws : Result (List ℕ) → ℕ → List ℕ → Outcome Plan Refusal → Type 0
Draws result g s (Err n) = result ≡ numbered n
Draws result g s (Ok p) = Feasible s p × (result ≡ answer (planned g s p))
