-- Names that are given as plans.
use Rattle.std.specs.Prelude.{List, ℕ, ◌≤◌}
use Rattle.plan.specs.declared.Plan.{Plan}
use Rattle.plan.specs.Private.Planned.{planned_size, Feasible}
use Rattle.plan.specs.Private.Asked.{changed_plan}

-- the wildcard above the encloser that a name has from the index `rest` on
abbrev pub wild_plan : ℕ → Plan
wild_plan rest = changed_plan 0 0 0 42 0 rest

-- a plan can be written, and has no more octets than a name
pub record Writable (s : List ℕ) (p : Plan) : Type 0 where
  pub feasible : Feasible s p
  pub few : planned_size s p ≤ 255
