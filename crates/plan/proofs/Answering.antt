-- Every operation's answer is what its plan stands for (`nearest_answer`), and where a limited depth has no room it is refused
-- (`nearest_narrow`), as it is where a label is not spelled in the alphabet (`nearest_not_spelled`).
use mathlib.Core.Path.{◌≡◌, refl, sym, ap, ◌∙◌}
use mathlib.Core.List.{List, [], ◌∷◌, ◌++◌}
use mathlib.Core.Bool.{Bool, true, false, not}
use Prim.Native.Nat.{ℕ, zero, suc, ◌+◌, ◌-◌, ◌≤◌, ◌<◌}
use native.Mathlib.Omega.{arith}
use borrow.Author.Tests.{lt-ltb, le-ltb}
use lib.ListN.{length, take, get_or}
use Rattle.std.specs.Prelude.{Ok}
use Rattle.name.specs.declared.Refusal.TheVariants.{NoFullLabel, NotInAlphabet}
use Rattle.name.specs.Wire.{reading_of}
use Rattle.name.specs.Answer.{Result, answer, numbered, refuse_if}
use Rattle.name.specs.Labels.{labels_of}
use Rattle.name.proofs.Labels.{octets_each, whole_name}
use Rattle.order.specs.Order.{folded_labels}
use Rattle.order.specs.Place.{full}
use Rattle.zone.proofs.FullAlphabet.{folded_spelled}
use Rattle.order.proofs.Members.{Octet}
use Rattle.zone.specs.Zone.{Spelled, AllSpelled}
use Rattle.zone.specs.Steps.{greatest}
use Rattle.alphabet.specs.declared.Alphabet.{Alphabet}
use Rattle.alphabet.specs.declared.Alphabet.TheVariants.{Full}
use Rattle.alphabet.specs.Alphabets.{allowed, all_spelled}
use Rattle.alphabet.proofs.Spelling.{all_spelled_labels, spelled_folded}
use Rattle.checks.specs.declared.Depth.{Depth}
use Rattle.checks.specs.declared.Depth.TheVariants.{All, One, Two, Three, Other}
use Rattle.checks.specs.Private.Depths.{labels}
use Rattle.checks.specs.Private.Boundary.{upper}
use Rattle.checks.specs.Under.{more, above, under}
use Rattle.checks.specs.Private.LastAbove.{Places}
use Rattle.checks.proofs.Placing.{placed_upper, placed_passes, placed_under}
use Rattle.plan.specs.declared.Way.{Way}
use Rattle.plan.specs.declared.Plan.{Plan}
use Rattle.plan.specs.Spelled.{spelled_check}
use Rattle.plan.specs.Private.Planned.{planned}
use Rattle.plan.specs.Private.Asked.{InAlphabet, Asks, stepped, Plans}
use Rattle.plan.specs.Private.Nearby.{steps_of, full_labels, depth_check, neighbour_of}

spelled_take : (allowed : ℕ → Bool) (n : ℕ) (ls : List (List ℕ)) → AllSpelled allowed ls → AllSpelled allowed (take n ls)
spelled_take allowed zero ls v = tt
spelled_take allowed (suc n) [] v = tt
spelled_take allowed (suc n) (l ∷ ls) v = (v.0, spelled_take allowed n ls v.1)

spelled_octet : (allowed : ℕ → Bool) (l m : List ℕ) (o : ℕ) → Spelled allowed (l ++ o ∷ m) → Octet allowed o
spelled_octet allowed [] m o v = (v.0, v.1)
spelled_octet allowed (x ∷ l) m o v = spelled_octet allowed l m o v.2

spelled_label : (allowed : ℕ → Bool) (us ms : List (List ℕ)) (k : List ℕ) → AllSpelled allowed (us ++ k ∷ ms) → Spelled allowed k
spelled_label allowed [] ms k v = v.0
spelled_label allowed (u ∷ us) ms k v = spelled_label allowed us ms k v.1

-- what the check 12 lets pass
spelled_in : (alphabet : Alphabet) (apex name : List ℕ) → ((i : ℕ) → get_or name i 0 < 256) → reading_of name ≡ Ok tt
    → all_spelled alphabet (above apex name) ≡ true → InAlphabet (allowed alphabet) (above apex name)
spelled_in alphabet apex name small whole is us ms l m o e =
    let octets = (whole_name name (octets_each name small) whole).octets in
    let spelled = spelled_take full (more apex name) (folded_labels name) (folded_spelled (labels_of name) octets) in
    let in-alphabet = all_spelled_labels alphabet (above apex name) (spelled_folded Full (above apex name) spelled).0 is in
    spelled_octet (allowed alphabet) l m o (spelled_label (allowed alphabet) us ms (l ++ o ∷ m) (rw e in-alphabet))

-- ---- the check 7

pub full_labels_few : (depth : Depth) → full_labels depth ≤ 256
full_labels_few All = omega arith
full_labels_few One = omega arith
full_labels_few Two = omega arith
full_labels_few Three = omega arith
full_labels_few Other = omega arith

narrow : (depth : Depth) (apex : List ℕ) (limit : ℕ) (next : Result (List ℕ)) → length apex ≤ limit
    → limit < length apex + full_labels depth
    → depth_check depth apex limit next ≡ numbered NoFullLabel
narrow All apex limit next fits h = absurd (omega arith)
narrow One apex limit next fits h = rw (lt-ltb limit (length apex + 64) h)
narrow Two apex limit next fits h = rw (lt-ltb limit (length apex + 128) h)
narrow Three apex limit next fits h = rw (lt-ltb limit (length apex + 192) h)
narrow Other apex limit next fits h = rw (lt-ltb limit (length apex + 256) h)

wide : (depth : Depth) (apex : List ℕ) (limit : ℕ) (next : Result (List ℕ)) → length apex + full_labels depth ≤ limit
    → depth_check depth apex limit next ≡ next
wide All apex limit next h = refl
wide One apex limit next h = rw (le-ltb limit (length apex + 64) h)
wide Two apex limit next h = rw (le-ltb limit (length apex + 128) h)
wide Three apex limit next h = rw (le-ltb limit (length apex + 192) h)
wide Other apex limit next h = rw (le-ltb limit (length apex + 256) h)

module _ (depth : Depth) {apex : List ℕ} {limit : ℕ} {name : List ℕ} {at : ℕ} (found : Places apex limit (labels depth) name at) where
  module _ (inside : at < 255) (alphabet : Alphabet) where
    pub nearest_asks : ((i : ℕ) → get_or name i 0 < 256) → true ≡ all_spelled alphabet (upper name (length name - length apex))
        → Asks (allowed alphabet) (labels depth) name (length name - length apex) at limit
    nearest_asks small spelled =
        let p = found.passes inside in
        record {
          begins = record { boundary = p.boundary; fits = p.name_fits; most = p.most; last = found.last inside };
          spelled = rw (placed_upper p) (spelled_in alphabet apex name small p.boundary.whole (rw (placed_upper p) at (sym spelled)));
        }

    module _ (way : Way) where
      abbrev next : Result (List ℕ)
      next = answer (under apex (steps_of way (allowed alphabet) (limit - length apex) (labels depth) (above apex name)))

      abbrev spelling : Result (List ℕ)
      spelling = spelled_check alphabet apex name next

      pub nearest_narrow : limit < length apex + full_labels depth → neighbour_of way alphabet depth apex limit name ≡ numbered NoFullLabel
      nearest_narrow h =
          let p = found.passes inside in
          placed_passes p (depth_check depth apex limit spelling) ∙ narrow depth apex limit spelling (omega (arith, p.apex_fits)) h

      module _ (h : length apex + full_labels depth ≤ limit) where
        pub nearest_not_spelled : false ≡ all_spelled alphabet (upper name (length name - length apex))
            → neighbour_of way alphabet depth apex limit name ≡ numbered NotInAlphabet
        nearest_not_spelled e =
            let p = found.passes inside in
            placed_passes p (depth_check depth apex limit spelling) ∙ wide depth apex limit spelling h
            ∙ ap (λ (b : Bool). refuse_if (not b) 12 next) (sym (rw (placed_upper p) at e))

        pub nearest_answer : true ≡ all_spelled alphabet (upper name (length name - length apex)) → {plan : Plan}
            → Plans (greatest (allowed alphabet)) name
            (stepped (steps_of way (allowed alphabet)) name (length name - length apex) limit (labels depth)) plan
            → neighbour_of way alphabet depth apex limit name ≡ answer (planned (greatest (allowed alphabet)) name plan)
        nearest_answer e w =
            let p = found.passes inside in
            placed_passes p (depth_check depth apex limit spelling) ∙ wide depth apex limit spelling h
            ∙ ap (λ (b : Bool). refuse_if (not b) 12 next) (sym (rw (placed_upper p) at e))
            ∙ ap answer (placed_under p (λ (n : ℕ) (ls : List (List ℕ)). steps_of way (allowed alphabet) n (labels depth) ls) ∙ sym w.is)
