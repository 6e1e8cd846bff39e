-- The full alphabet spells every folded label, so that the check 12 lets every name pass: in it the answers are those of document 01.
use mathlib.Core.Path.{◌≡◌, ap}
use mathlib.Core.List.{List}
use mathlib.Core.Bool.{true}
use Prim.Native.Nat.{ℕ}
use lib.ListN.{take}
use Rattle.facts.proofs.Lists.{map_take}
use Rattle.space.specs.Fold.{folded}
use Rattle.name.specs.Answer.{Result}
use Rattle.name.specs.Labels.{labels_of}
use Rattle.checks.specs.Under.{more, above}
use Rattle.checks.specs.Checks.{checks, modified_checks}
use Rattle.alphabet.specs.declared.Alphabet.TheVariants.{Full}
use Rattle.alphabet.specs.Alphabets.{all_spelled}
use Rattle.alphabet.proofs.Spelling.{full_all_spelled}
use Rattle.plan.specs.Spelled.{spelled_check}
use Rattle.neighbour.specs.Neighbour.{successor_of, predecessor_of, successor_in, predecessor_in}
use Rattle.neighbour.specs.Modified.{modified_successor_of, modified_predecessor_of, modified_successor_in, modified_predecessor_in}
use Rattle.neighbour.specs.Nearest.{Question, QuestionIn, InZone, InZoneOf}

module _ (apex name : List ℕ) where
  pub full_above : all_spelled Full (above apex name) ≡ true
  full_above = rw (← map_take folded (more apex name) (labels_of name)) (full_all_spelled (take (more apex name) (labels_of name)))

  full_passes : (next : Result (List ℕ)) → spelled_check Full apex name next ≡ next
  full_passes next = rw full_above

module _ (apex : List ℕ) (limit : ℕ) (name : List ℕ) where
  pub full_question : Question apex limit name → QuestionIn Full apex limit name
  full_question q = record { question = q; spelled = full_above apex name }

  pub full_zone : InZone apex limit name → InZoneOf Full apex limit name
  full_zone z = record { zone = z; spelled = full_above apex name }

  pub full_successor : successor_in Full apex limit name ≡ successor_of apex limit name
  full_successor = ap (checks apex limit name) (full_passes apex name _)

  pub full_predecessor : predecessor_in Full apex limit name ≡ predecessor_of apex limit name
  full_predecessor = ap (checks apex limit name) (full_passes apex name _)

  -- at depth 1
  pub full_modified_successor : modified_successor_in Full 1 apex limit name ≡ modified_successor_of apex limit name
  full_modified_successor = ap (modified_checks apex limit name) (full_passes apex name _)

  pub full_modified_predecessor : modified_predecessor_in Full 1 apex limit name ≡ modified_predecessor_of apex limit name
  full_modified_predecessor = ap (modified_checks apex limit name) (full_passes apex name _)
