-- The ends of the gap of a wildcard, made of a name that has the wildcard's encloser from an index on, and the wildcard itself.
use Rattle.std.specs.Prelude.{◌≡◌, List, Bool, cond, ◌&&◌, ℕ, ◌-◌, min, eqb, length, get_or}
use Rattle.plan.specs.declared.Plan.{Plan}
use Rattle.plan.specs.Private.Greatest.{Taken}
use Rattle.plan.specs.Private.Asked.{changed_plan}

-- the label `)` with the padding that fits, and the greatest labels in front
pub record WildOwner (rest left : ℕ) (p : Plan) : Type 0 where
  pub labels : Taken 127 (left - min 62 left) p.front
  pub is : p ≡ changed_plan p.front 0 0 41 (min 62 left) rest

-- the label `*` with an octet more, or `+` where there is no room for it
abbrev pub wild_next : ℕ → ℕ → Plan
wild_next rest left = cond (eqb left 0) (changed_plan 0 0 0 43 0 rest) (changed_plan 0 0 0 42 1 rest)

-- n octets, of which the first are those of the label `*`
abbrev pub is_wild : List ℕ → ℕ → Bool
is_wild s n = eqb (length s) n && (eqb (get_or s 0 0) 1 && eqb (get_or s 1 0) 42)
