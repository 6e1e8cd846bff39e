-- The modified neighbours are the nearest names of the short set as a ring (`modified_successor_least`, `modified_predecessor_greatest`),
-- over the alphabet and the depth, and where 7 and 12 let a question pass both are answers.
use mathlib.Core.Path.{◌≡◌, refl, sym, ◌∙◌}
use mathlib.Core.List.{List}
use mathlib.Core.Bool.{Bool, true, false, true≢false}
use Prim.Native.Nat.{ℕ}
use Rattle.name.specs.Answer.{Result, answer, refuse_if}
use Rattle.alphabet.specs.declared.Alphabet.{Alphabet}
use Rattle.checks.specs.Under.{under}
use Rattle.checks.specs.Checks.{checks}
use Rattle.plan.specs.Spelled.{spelled_check}
use Rattle.neighbour.specs.Modified.{no_depth, modified_successor_in, modified_predecessor_in}
use Rattle.neighbour.specs.Nearest.{QuestionIn, LeastAfter, GreatestBefore}
use Rattle.neighbour.specs.ShortSet.{InShortSetOf}
use Rattle.neighbour.proofs.NearestNames.{Within, successor_labels, successor_least, predecessor_labels, predecessor_greatest}
use Rattle.neighbour.proofs.Questions.{question_passes, least_same, greatest_same}

-- a line that lets an answer pass
line_answer : {A : Type 0} (b : Bool) (n : ℕ) (x a : A) → refuse_if b n (answer x) ≡ answer a → (b ≡ false) × (x ≡ a)
line_answer true n x a e = absurd (true≢false (cc))
line_answer false n x a e = (refl, (cc))

module _ (alphabet : Alphabet) (depth : ℕ) (apex : List ℕ) (limit : ℕ) where
  short_set : (u : List ℕ) → Within alphabet apex limit depth u → InShortSetOf alphabet depth apex limit u
  short_set u w = record { zone = w.zone; few = w.few }

  short_set_within : (u : List ℕ) → InShortSetOf alphabet depth apex limit u → Within alphabet apex limit depth u
  short_set_within u w = record { zone = w.zone; few = w.few }

  module _ (name : List ℕ) (q : QuestionIn alphabet apex limit name) where
    -- ---- where 7 lets the question pass

    abbrev lines : {A : Type 0} → Result A → Result A
    lines next = checks apex limit name (refuse_if (no_depth depth apex limit) 7 (spelled_check alphabet apex name next))

    module _ (deep : no_depth depth apex limit ≡ false) where
      pub modified_passes : {A : Type 0} (next : Result A) → lines next ≡ next
      modified_passes next =
          question_passes apex limit name (refuse_if (no_depth depth apex limit) 7 (spelled_check alphabet apex name next)) q.question
          ∙ rw (deep, q.spelled)

      pub modified_successor_answered : modified_successor_in alphabet depth apex limit name
          ≡ answer (under apex (successor_labels alphabet apex limit name q depth))
      unfolding successor_labels
      modified_successor_answered = modified_passes (answer (under apex (successor_labels alphabet apex limit name q depth)))

      pub modified_predecessor_answered : modified_predecessor_in alphabet depth apex limit name
          ≡ answer (under apex (predecessor_labels alphabet apex limit name q depth))
      unfolding predecessor_labels
      modified_predecessor_answered = modified_passes (answer (under apex (predecessor_labels alphabet apex limit name q depth)))

    -- ---- what is answered

    pub modified_answer : (x a : List ℕ) → lines (answer x) ≡ answer a → (no_depth depth apex limit ≡ false) × (x ≡ a)
    modified_answer x a e =
        let next = spelled_check alphabet apex name (answer x) in
        let passed : next ≡ answer x = rw q.spelled in
        line_answer (no_depth depth apex limit) 7 x a
        (rw (← passed) (sym (question_passes apex limit name (refuse_if (no_depth depth apex limit) 7 next) q.question) ∙ e))

    module _ (a : List ℕ) where
      pub modified_successor_least : modified_successor_in alphabet depth apex limit name ≡ answer a
          → LeastAfter (InShortSetOf alphabet depth apex limit) apex name a
      unfolding successor_labels
      modified_successor_least e =
          rw (← (modified_answer (under apex (successor_labels alphabet apex limit name q depth)) a e).1)
          (least_same (Within alphabet apex limit depth) (InShortSetOf alphabet depth apex limit) short_set short_set_within
          (successor_least alphabet apex limit name q depth))

      pub modified_predecessor_greatest : modified_predecessor_in alphabet depth apex limit name ≡ answer a
          → GreatestBefore (InShortSetOf alphabet depth apex limit) name a
      unfolding predecessor_labels
      modified_predecessor_greatest e =
          rw (← (modified_answer (under apex (predecessor_labels alphabet apex limit name q depth)) a e).1)
          (greatest_same (Within alphabet apex limit depth) (InShortSetOf alphabet depth apex limit) short_set short_set_within
          (predecessor_greatest alphabet apex limit name q depth))
