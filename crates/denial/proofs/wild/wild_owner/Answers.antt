-- `wild_owner` meets its contract: what the padding leaves is for the greatest labels.
use mathlib.Core.Path.{ap, subst}
use Prim.Native.Nat.{ℕ, ◌-◌}
use Rattle.plan.specs.Private.Greatest.{Taken}
use Rattle.plan.specs.Private.Asked.{changed_plan}
use Rattle.denial.proofs.wild.wild_owner.Goals as goal

pub returns : goal.returns
returns c = let a = c.args in
    record {
      labels = subst (λ (n : ℕ). Taken 127 (a.left - n) c.front_len.result) c.padding-pad.ensures c.front_len.ensures;
      is = ap (λ (n : ℕ). changed_plan c.front_len.result 0 0 41 n a.rest) c.padding-pad.ensures;
    }
