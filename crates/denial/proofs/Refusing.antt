-- What the checks refuse is refused, whatever is asked for past them (`query_refused`): a refusal is the same of names and of octets.
use mathlib.Core.Path.{◌≡◌, refl, sym, ap, ◌∙◌}
use mathlib.Core.List.{List, [], ◌∷◌}
use mathlib.Core.Bool.{true≢false}
use Prim.Native.Nat.{ℕ}
use Rattle.name.specs.declared.Refusal.{Refusal}
use Rattle.name.specs.Answer.{Result, answer, refusal, numbered}
use Rattle.checks.specs.Checks.{checks}
use Rattle.checks.specs.Private.LastAbove.{refusal_of}
use Rattle.checks.proofs.Mapped.{checks_map}
use Rattle.checks.proofs.CheckLines.{checks_passed, checks_refused}

-- a result about names, of one about octets
abbrev names : Result (List ℕ) → Result (List (List ℕ))
names (answer a) = answer (a ∷ [])
names (refusal n vs) = refusal n vs

module _ (apex : List ℕ) (limit : ℕ) (query : List ℕ) where
  pub query_refused : ((next : Result (List ℕ)) → checks apex limit query next ≡ refusal_of apex limit query)
      → (next : Result (List (List ℕ))) (w : Refusal)
      → refusal_of {A = List ℕ} apex limit query ≡ numbered w → checks apex limit query next ≡ numbered w
  query_refused refuses next w e =
      checks_refused apex limit query
      (λ a. never (checks_passed apex limit query a (answer [])) (refuses (answer []))
      (checks_passed apex limit query a (refusal 6 [])))
      next
      ∙ sym (checks_map names (λ n vs. refl) apex limit query (refusal 6 [])) ∙ ap names e
    where
      never : {x y : Result (List ℕ)} → x ≡ answer [] → x ≡ y → y ≡ refusal 6 [] → ⊥
      never f g k = let h = sym f ∙ g ∙ k in true≢false (cc)
