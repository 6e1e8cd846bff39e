-- What a neighbour question says is small: an answer has 255 octets at most, and a place is 255 at most.
use mathlib.Core.Path.{◌≡◌, refl}
use mathlib.Core.List.{List}
use mathlib.Core.Bool.{Bool, true, false, not, ◌||◌}
use Prim.Native.Nat.{ℕ, ◌+◌, ◌-◌, ◌≤◌}
use native.Mathlib.Omega.{arith}
use borrow.Author.Tests.{ltb-false, not-false}
use lib.Dec.{ltb}
use lib.ListN.{length}
use Rattle.facts.proofs.Booleans.{neither_true}
use Rattle.space.specs.Octets.{Octets}
use Rattle.name.specs.Answer.{Result, answer, value, fitted, refuse_if}
use Rattle.name.proofs.Small.{broken_small, fitted_small}
use Rattle.alphabet.specs.declared.Alphabet.{Alphabet}
use Rattle.alphabet.specs.Alphabets.{allowed, all_spelled}
use Rattle.checks.specs.declared.Depth.{Depth}
use Rattle.checks.specs.declared.Depth.TheVariants.{All, One, Two, Three, Other}
use Rattle.checks.specs.Private.Depths.{labels}
use Rattle.checks.specs.Under.{is_under, above, under}
use Rattle.checks.specs.Checks.{checks}
use Rattle.checks.proofs.Mapped.{if_map, checks_map}
use Rattle.plan.specs.declared.Way.{Way}
use Rattle.plan.specs.declared.Way.TheVariants.{Before, After, Past}
use Rattle.plan.specs.Spelled.{spelled_check}
use Rattle.plan.specs.Private.Nearby.{steps_of, depth_check, neighbour_of}
use Rattle.neighbour.specs.Nearest.{Question, QuestionIn}
use Rattle.neighbour.proofs.NearestNames.{successor_labels, successor_next, predecessor_labels, predecessor_previous}

pub fitted_if : (b : Bool) (n room : ℕ) (next : Result (List ℕ)) → fitted room (refuse_if b n next) ≡ refuse_if b n (fitted room next)
fitted_if b n room next = if_map (fitted room) (λ k vs. refl) b n next

pub if_small : (b : Bool) (n m : ℕ) (next : Result ℕ) → (b ≡ false → value next ≤ m) → value (refuse_if b n next) ≤ m
if_small true n m next f = omega arith
if_small false n m next f = f refl

module _ (apex : List ℕ) (limit : ℕ) (name : List ℕ) where
  pub fitted_checks : (room : ℕ) (next : Result (List ℕ))
      → fitted room (checks apex limit name next) ≡ checks apex limit name (fitted room next)
  fitted_checks room next = checks_map (fitted room) (λ n vs. refl) apex limit name next

  fitted_depth : (depth : Depth) (room : ℕ) (next : Result (List ℕ))
      → fitted room (depth_check depth apex limit next) ≡ depth_check depth apex limit (fitted room next)
  fitted_depth All room next = refl
  fitted_depth One room next = fitted_if (ltb limit (length apex + 64)) 7 room next
  fitted_depth Two room next = fitted_if (ltb limit (length apex + 128)) 7 room next
  fitted_depth Three room next = fitted_if (ltb limit (length apex + 192)) 7 room next
  fitted_depth Other room next = fitted_if (ltb limit (length apex + 256)) 7 room next

  depth_small : (depth : Depth) (m : ℕ) (next : Result ℕ) → value next ≤ m → value (depth_check depth apex limit next) ≤ m
  depth_small All m next h = h
  depth_small One m next h = if_small (ltb limit (length apex + 64)) 7 m next (λ e. h)
  depth_small Two m next h = if_small (ltb limit (length apex + 128)) 7 m next (λ e. h)
  depth_small Three m next h = if_small (ltb limit (length apex + 192)) 7 m next (λ e. h)
  depth_small Other m next h = if_small (ltb limit (length apex + 256)) 7 m next (λ e. h)

  module _ (oa : Octets apex) (on : Octets name) where
    pub checks_small : (m : ℕ) (next : Result ℕ) → 255 ≤ m → (Question apex limit name → value next ≤ m)
        → value (checks apex limit name next) ≤ m
    checks_small m next h f =
        if_small (ltb limit 1 || ltb 255 limit) 1 m _ (λ e1.
        broken_small apex 2 m _ h (λ e2.
        if_small (ltb limit (length apex + 2)) 3 m _ (λ e3.
        broken_small name 4 m _ h (λ e4.
        if_small (ltb limit (length name)) 5 m _ (λ e5.
        if_small (not (is_under apex name)) 6 m _ (λ e6.
        f (record {
          some = ltb-false limit 1 (neither_true (ltb limit 1) (ltb 255 limit) e1).0;
          most = ltb-false 255 limit (neither_true (ltb limit 1) (ltb 255 limit) e1).1;
          apex_formed = record { octets = oa; whole = e2 };
          apex_fits = ltb-false limit (length apex + 2) e3;
          name_formed = record { octets = on; whole = e4 };
          name_fits = ltb-false limit (length name) e5;
          under = not-false (is_under apex name) e6;
        })))))))

    -- the labels that the steps give, under the apex
    steps_small : (way : Way) (alphabet : Alphabet) (depth : ℕ) → QuestionIn alphabet apex limit name
        → length (under apex (steps_of way (allowed alphabet) (limit - length apex) depth (above apex name))) ≤ 255
    unfolding predecessor_labels successor_labels
    steps_small Before alphabet depth q =
        omega (arith, (predecessor_previous alphabet apex limit name q depth).member.fits, q.question.most)
    steps_small After alphabet depth q = omega (arith, (successor_next alphabet apex limit name q depth).member.fits, q.question.most)
    steps_small Past alphabet depth q =
        omega (arith, (successor_next alphabet apex limit name q (length (above apex name))).member.fits, q.question.most)

    pub nearest_small : (way : Way) (alphabet : Alphabet) (depth : Depth) (room : ℕ)
        → value (fitted room (neighbour_of way alphabet depth apex limit name)) ≤ 255
    nearest_small way alphabet depth room =
        let a = under apex (steps_of way (allowed alphabet) (limit - length apex) (labels depth) (above apex name)) in
        let not_spelled = not (all_spelled alphabet (above apex name)) in
        rw (
          fitted_checks room (depth_check depth apex limit (spelled_check alphabet apex name (answer a))),
          fitted_depth depth room (spelled_check alphabet apex name (answer a)),
          fitted_if not_spelled 12 room (answer a),
        )
        (checks_small 255 _ (omega arith) (λ q.
        depth_small depth 255 _ (
        if_small not_spelled 12 255 _ (λ e12.
        fitted_small a room 255
        (steps_small way alphabet (labels depth)
        (record { question = q; spelled = not-false (all_spelled alphabet (above apex name)) e12 }))))))
