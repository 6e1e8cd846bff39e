-- The check 7 over the depth: what the number of a depth asks for is what the depth that it stands for does (`depth_lines`), and a depth of
-- 0 or above 3 is refused, since no limit that 1 lets pass is so large.
use mathlib.Core.Path.{◌≡◌, refl, sym}
use mathlib.Core.List.{List, []}
use mathlib.Core.Bool.{Bool, true, false, ◌||◌, not}
use Prim.Native.Nat.{ℕ, zero, suc, ◌+◌, ◌-◌, ◌*◌, ◌≤◌}
use native.Mathlib.Omega.{arith}
use borrow.Author.Tests.{lt-ltb, le-ltb, ltb-false}
use lib.Dec.{ltb}
use lib.ListN.{length}
use Rattle.facts.proofs.Booleans.{neither_true}
use Rattle.name.specs.Wire.{reading_of}
use Rattle.name.specs.Answer.{Result, answer, refusal, refuse_if, refuse_broken}
use Rattle.zone.specs.Steps.{successor_steps, predecessor_steps}
use Rattle.alphabet.specs.declared.Alphabet.{Alphabet}
use Rattle.alphabet.specs.Alphabets.{allowed}
use Rattle.checks.specs.Private.Depths.{labels}
use Rattle.checks.specs.Under.{is_under, above, under}
use Rattle.checks.specs.Checks.{checks}
use Rattle.plan.specs.declared.Way.TheVariants.{Before, After}
use Rattle.plan.specs.Spelled.{spelled_check}
use Rattle.plan.specs.Private.Nearby.{depth_check, neighbour_of}
use Rattle.neighbour.specs.Modified.{no_depth, modified_successor_in, modified_predecessor_in}
use Rattle.neighbour.specs.Private.Depths.{depth_of}

-- a depth that 7 lets pass
pub depth_passed : (depth : ℕ) (apex : List ℕ) (limit : ℕ) → no_depth depth apex limit ≡ false
    → (1 ≤ depth) × (depth ≤ 3) × (length apex + 64 * depth ≤ limit)
depth_passed depth apex limit e =
    let p = neither_true (ltb depth 1 || ltb 3 depth) (ltb limit (length apex + 64 * depth)) e in
    let q = neither_true (ltb depth 1) (ltb 3 depth) p.0 in
    (ltb-false depth 1 q.0, ltb-false 3 depth q.1, ltb-false limit (length apex + 64 * depth) p.1)

pub depth_passes : (depth : ℕ) (apex : List ℕ) (limit : ℕ) → 1 ≤ depth → depth ≤ 3 → length apex + 64 * depth ≤ limit
    → no_depth depth apex limit ≡ false
depth_passes depth apex limit some few fits =
    rw (le-ltb depth 1 some, le-ltb 3 depth few, le-ltb limit (length apex + 64 * depth) fits)

module _ (apex : List ℕ) (limit : ℕ) (name : List ℕ) where
  -- what comes after 1
  abbrev after : Result (List ℕ) → Result (List ℕ)
  after next =
      refuse_broken (reading_of apex) 2
      (refuse_if (ltb limit (length apex + 2)) 3
      (refuse_broken (reading_of name) 4
      (refuse_if (ltb limit (length name)) 5
      (refuse_if (not (is_under apex name)) 6 next))))

  other_refused : (next : Result (List ℕ))
      → checks apex limit name (refusal 7 []) ≡ checks apex limit name (refuse_if (ltb limit (length apex + 256)) 7 next)
  other_refused next = go (ltb limit 1 || ltb 255 limit) refl
    where
      go : (b : Bool) → ltb limit 1 || ltb 255 limit ≡ b
          → refuse_if b 1 (after (refusal 7 [])) ≡ refuse_if b 1 (after (refuse_if (ltb limit (length apex + 256)) 7 next))
      go true e = refl
      go false e =
          let most = ltb-false 255 limit (neither_true (ltb limit 1) (ltb 255 limit) e).1 in
          rw (lt-ltb limit (length apex + 256) (omega (arith, most)))

  pub depth_lines : (depth : ℕ) (next : ℕ → Result (List ℕ))
      → checks apex limit name (refuse_if (no_depth depth apex limit) 7 (next depth))
      ≡ checks apex limit name (depth_check (depth_of depth) apex limit (next (labels (depth_of depth))))
  depth_lines zero next = other_refused (next 1)
  depth_lines (suc zero) next = refl
  depth_lines (suc (suc zero)) next = refl
  depth_lines (suc (suc (suc zero))) next = refl
  depth_lines (suc (suc (suc (suc n)))) next =
      let d = suc (suc (suc (suc n))) in
      rw (le-ltb d 1 (omega arith), lt-ltb 3 d (omega arith)) (other_refused (next 1))

  module _ (alphabet : Alphabet) (depth : ℕ) where
    -- what the steps answer at a depth, past 12
    abbrev answered : ((ℕ → Bool) → ℕ → ℕ → List (List ℕ) → List (List ℕ)) → ℕ → Result (List ℕ)
    answered steps d =
        spelled_check alphabet apex name (answer (under apex (steps (allowed alphabet) (limit - length apex) d (above apex name))))

    pub modified_successor_nearest : neighbour_of After alphabet (depth_of depth) apex limit name
        ≡ modified_successor_in alphabet depth apex limit name
    modified_successor_nearest = sym (depth_lines depth (answered successor_steps))

    pub modified_predecessor_nearest : neighbour_of Before alphabet (depth_of depth) apex limit name
        ≡ modified_predecessor_in alphabet depth apex limit name
    modified_predecessor_nearest = sym (depth_lines depth (answered predecessor_steps))
