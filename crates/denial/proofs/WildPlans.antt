-- The ends of a wildcard's gap are what its plans make of the next closer name (`wild_owner_is`, `wild_next_is`): that name ends in the
-- encloser's octets too, and the ends keep nothing of the wildcard's own label. So the four names are those of the two gaps (`two_denied`).
use mathlib.Core.Path.{◌≡◌, refl, sym, ap, subst, ◌∙◌}
use mathlib.Core.List.{List, ◌∷◌}
use mathlib.Core.Bool.{Bool, true, false, cond, true≢false}
use mathlib.Core.Option.{some}
use mathlib.Core.Logic.{inr}
use Prim.Native.Nat.{ℕ, suc, ◌+◌, ◌-◌, ◌≤◌, ◌<◌, min}
use native.Mathlib.Omega.{arith}
use borrow.Author.Tests.{eqb-true, eq-eqb}
use lib.Dec.{eqb}
use lib.ListN.{length, drop}
use Rattle.space.specs.Fold.{folded}
use Rattle.space.specs.Same.{same_octets}
use Rattle.name.specs.Answer.{Result, answer}
use Rattle.name.proofs.Folding.{folded_length, folded_idempotent}
use Rattle.zone.specs.Alphabet.{scan, from, below}
use Rattle.zone.specs.Steps.{greatest}
use Rattle.zone.proofs.FullAlphabet.{least_full, greatest_full}
use Rattle.alphabet.specs.declared.Alphabet.TheVariants.{Full}
use Rattle.alphabet.specs.Alphabets.{allowed}
use Rattle.plan.specs.declared.Plan.{Plan}
use Rattle.plan.specs.Private.Greatest.{Taken}
use Rattle.plan.specs.Private.Planned.{changed, planned, Feasible}
use Rattle.plan.specs.Private.Asked.{changed_plan}
use Rattle.plan.proofs.FrontLabels.{greatest_none}
use Rattle.plan.proofs.PredecessorPlans.{plan_lowered}
use Rattle.climbing.specs.Private.Raised.{LastOther}
use Rattle.climbing.proofs.Planning.{plan_extend, plan_raise}
use Rattle.climbing.proofs.SuccessorPlans.{front_tries, climbed_past}
use Rattle.encloser.specs.Wildcard.{wildcard_name}
use Rattle.encloser.proofs.Wildcards.{wildcard_octets, wildcard_length}
use Rattle.neighbour.specs.Nearest.{Question}
use Rattle.gaps.specs.Denial.{owner_of, next_of, is_same, joined_gaps, two_gaps}
use Rattle.gaps.specs.Denies.{Denies}
use Rattle.gapnames.specs.Private.Named.{wild_plan, Writable}
use Rattle.denial.specs.Private.Held.{Deniable}
use Rattle.denial.specs.Private.Wild.{WildOwner, wild_next}
use Rattle.denial.proofs.GapPlans.{asks, owner_few, next_few, OwnerPlan, NextPlan, owner_is, next_is, writable}

module _ (apex : List ℕ) (limit : ℕ) (encloser closer : List ℕ) (k : Deniable apex limit encloser closer)
    (room : length encloser + 2 ≤ limit) where
  abbrev wild : List ℕ
  wild = wildcard_name encloser

  abbrev rest : ℕ
  rest = length closer - length encloser

  abbrev left : ℕ
  left = limit - (length encloser + 2)

  question : Question apex limit wild
  question = (k.wildcard_missing (omega (arith, wildcard_length encloser k.whole))).asked

  some_label : 1 ≤ length wild - length apex
  some_label = omega (arith, (k.wildcard_missing (omega (arith, wildcard_length encloser k.whole))).longer)

  -- what the wildcard ends in, folded, the next closer name ends in
  same_rest : folded (drop rest closer) ≡ folded (drop 2 wild)
  same_rest = k.ends ∙ ap (λ (s : List ℕ). folded (drop 2 s)) (sym (wildcard_octets encloser k.whole))

  -- a label that keeps nothing is the same before both
  unkept : (g front o pad : ℕ) → planned g closer (changed_plan front 0 0 o pad rest) ≡ planned g wild (changed_plan front 1 0 o pad 2)
  unfolding planned changed
  unkept g front o pad = let more : pad + 1 ≡ suc pad = omega arith in rw (more, same_rest)

  feasible : (front o pad : ℕ) → Feasible wild (changed_plan front 1 0 o pad 2) → Feasible closer (changed_plan front 0 0 o pad rest)
  feasible front o pad f =
      record {
        front_few = f.front_few;
        front_labels = f.front_labels;
        label_few = f.label_few;
        kept_none = f.kept_none;
        kept_within = omega arith;
        rest_within = omega arith;
      }

  -- with nothing in front of it, it can be written wherever it is not too long
  unfronted_feasible : (o pad : ℕ) → pad ≤ 62 → Feasible closer (changed_plan 0 0 0 o pad rest)
  unfronted_feasible o pad h =
      record {
        front_few = omega arith;
        front_labels = λ f. omega (arith, f);
        label_few = omega (arith, h);
        kept_none = λ f. refl;
        kept_within = omega arith;
        rest_within = omega arith;
      }

  -- ---- the owner

  before_asterisk : below (allowed Full) 42 ≡ some 41
  unfolding below
  before_asterisk = refl

  wild_lowered : (front : ℕ) → Taken 127 (limit - length wild - min 62 (limit - length wild)) front
      → OwnerPlan apex limit wild question (changed_plan front 1 0 41 (min 62 (limit - length wild)) 2)
  wild_lowered front t =
      plan_lowered (allowed Full) (asks apex limit wild question).begins 127 (inr (omega arith, omega arith)) some_label 41 front
      before_asterisk t

  module _ {p : Plan} (o : WildOwner rest left p) where
    free : limit - length wild ≡ left
    free = omega (arith, wildcard_length encloser k.whole)

    lowered : OwnerPlan apex limit wild question (changed_plan p.front 1 0 41 (min 62 left) 2)
    lowered = rw free at (wild_lowered p.front (rw free o.labels))

    pub wild_owner_is : planned (greatest (allowed Full)) closer p ≡ owner_of apex limit wild
    wild_owner_is =
        ap (planned (greatest (allowed Full)) closer) o.is
        ∙ unkept (greatest (allowed Full)) p.front 41 (min 62 left)
        ∙ owner_is apex limit wild question lowered

    pub wild_owner_writable : Writable closer p
    wild_owner_writable =
        writable (greatest (allowed Full))
        (subst (Feasible closer) (sym o.is) (feasible p.front 41 (min 62 left) lowered.feasible)) wild_owner_is
        (owner_few apex limit wild question)

  -- ---- the next name

  extended : length wild < limit → NextPlan apex limit wild question (changed_plan 0 1 1 0 0 2)
  extended h =
      climbed_past (allowed Full) wild (length wild - length apex) limit
      (rw least_full at (plan_extend (front_tries (asks apex limit wild question)) some_label (omega arith) (omega (arith, h))))

  after_asterisk : from (allowed Full) 43 ≡ some 43
  unfolding from scan
  after_asterisk = refl

  last : LastOther (greatest (allowed Full)) wild 1 1 1
  last = record { trailing = record { within = omega arith; is = refl }; other = λ h e. omega (arith, greatest_full) }

  raised : limit ≤ length wild → NextPlan apex limit wild question (changed_plan 0 1 0 43 0 2)
  raised h =
      climbed_past (allowed Full) wild (length wild - length apex) limit
      (rw after_asterisk at
      (plan_raise (front_tries (asks apex limit wild question)) some_label (inr (omega (arith, h))) 1 last (omega arith)))

  -- the octet 0 that the label gets is its padding, and where it has none the octet that pads makes no difference
  padded : planned 0 closer (changed_plan 0 0 0 42 1 rest) ≡ planned (greatest (allowed Full)) wild (changed_plan 0 1 1 0 0 2)
  unfolding planned changed
  padded = rw (greatest_none 0, greatest_none (greatest (allowed Full)), same_rest)

  unpadded : (g : ℕ) → planned 0 wild (changed_plan 0 1 0 43 0 2) ≡ planned g wild (changed_plan 0 1 0 43 0 2)
  unfolding planned changed
  unpadded g = rw (greatest_none 0, greatest_none g)

  next : (b : Bool) → eqb left 0 ≡ b → let p = cond b (changed_plan 0 0 0 43 0 rest) (changed_plan 0 0 0 42 1 rest) in
      Feasible closer p × (planned 0 closer p ≡ next_of apex limit wild)
  next true e =
      let r = raised (omega (arith, wildcard_length encloser k.whole, eqb-true left 0 e)) in
      (feasible 0 43 0 r.feasible, unkept 0 0 43 0 ∙ unpadded (greatest (allowed Full)) ∙ next_is apex limit wild question r)
  next false e =
      let x = extended (omega (arith, wildcard_length encloser k.whole, some_left)) in
      (unfronted_feasible 42 1 (omega arith), padded ∙ next_is apex limit wild question x)
    where
      some_left : left ≡ 0 → ⊥
      some_left f = true≢false (sym (eq-eqb left 0 f) ∙ e)

  module _ {p : Plan} (n : p ≡ wild_next rest left) where
    pub wild_next_is : planned 0 closer p ≡ next_of apex limit wild
    wild_next_is = ap (planned 0 closer) n ∙ (next (eqb left 0) refl).1

    pub wild_next_writable : Writable closer p
    wild_next_writable =
        writable 0 (subst (Feasible closer) (sym n) (next (eqb left 0) refl).0) wild_next_is (next_few apex limit wild question)

  -- ---- the wildcard itself

  itself : (g : ℕ) → planned g closer (wild_plan rest) ≡ 1 ∷ 42 ∷ folded encloser
  unfolding planned changed
  itself g = rw (greatest_none g, k.ends)

  pub wildcard_writable : Writable closer (wild_plan rest)
  wildcard_writable =
      writable 0 (unfronted_feasible 42 0 (omega arith)) (itself 0) (omega (arith, folded_length encloser, room, question.most))

  same_wildcard : (g : ℕ) (s : List ℕ) → is_same s (planned g closer (wild_plan rest)) ≡ is_same s wild
  same_wildcard g s =
      ap (is_same s) (itself g)
      ∙ ap (λ (e : List ℕ). same_octets (folded s) (1 ∷ 42 ∷ e)) (folded_idempotent encloser)
      ∙ ap (is_same s) (sym (wildcard_octets encloser k.whole))

  -- ---- the two gaps

  pub two_denied : (q : Question apex limit closer) {a b c d : Plan} → OwnerPlan apex limit closer q a → NextPlan apex limit closer q b
      → WildOwner rest left c → d ≡ wild_next rest left → {g : ℕ} → g ≡ greatest (allowed Full)
      → {before after : List ℕ} {words : Result ℕ}
      → Denies
      (answer (joined_gaps closer (planned g closer a) (planned g closer b) (planned g closer (wild_plan rest)) (planned g closer c)
      (planned 0 closer d))) before words after
      → Denies (answer (two_gaps apex limit closer wild)) before words after
  two_denied q h i j n e m =
      rw (
        e,
        owner_is apex limit closer q h,
        next_is apex limit closer q i,
        wild_owner_is j,
        wild_next_is n,
        same_wildcard (greatest (allowed Full)) (next_of apex limit closer),
      )
      at m
