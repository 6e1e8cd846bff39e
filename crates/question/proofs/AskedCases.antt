-- What a reading of the input says, by what the code found.
use mathlib.Core.Path.{◌≡◌, refl, sym, ◌∙◌}
use mathlib.Core.List.{List}
use mathlib.Core.Bool.{Bool, true, false, cond}
use Prim.Native.Nat.{ℕ, ◌+◌, ◌≤◌, ◌<◌}
use native.Mathlib.Omega.{arith}
use borrow.Author.Tests.{ltb-true, ltb-false}
use lib.ListN.{length, take, drop, length-drop}
use lib.Seq.{drop-drop}
use lib.Dec.{ltb}
use Rattle.question.specs.declared.Parts.{Parts}
use Rattle.std.specs.Prelude.{Result, Ok, Err}
use Rattle.question.specs.declared.NotAsked.{NotAsked}
use Rattle.question.specs.declared.NotAsked.TheVariants.{Wrong, Cut, End}
use Rattle.question.specs.Fields.{Read, found, wrong, cut}
use Rattle.question.specs.Question.{Question, read_of}
use Rattle.question.specs.Private.Asked.{parts_at, placed, Within, question_in, asked_at}
use Rattle.question.proofs.Questions.{question_holds}

module _ (s : List ℕ) (at : ℕ) where
  -- a whole question stands there
  pub record IsWhole (p : Parts) : Type 0 where
    pub question : Question
    pub rest : List ℕ
    pub is : read_of (drop at s) ≡ found question rest
    pub parts : p ≡ parts_at at question

  -- what each case says
  abbrev pub AskedIs : Result Parts NotAsked → Type 0
  AskedIs (Ok p) = IsWhole p
  AskedIs (Err Wrong) = (at < length s) × (read_of (drop at s) ≡ wrong)
  AskedIs (Err Cut) = (at < length s) × (read_of (drop at s) ≡ cut)
  AskedIs (Err End) = length s ≤ at

  pub asked_is : (a : Result Parts NotAsked) → a ≡ asked_at s at → AskedIs a
  unfolding asked_at
  asked_is a e = rw e (go (ltb at (length s)) (read_of (drop at s)) refl refl)
    where
      go : (b : Bool) (r : Read Question) → ltb at (length s) ≡ b → read_of (drop at s) ≡ r → AskedIs (cond b (placed at r) (Err End))
      go true (found q rest) t h = record { question = q; rest = rest; is = h; parts = refl }
      go true wrong t h = (ltb-true at (length s) t, h)
      go true cut t h = (ltb-true at (length s) t, h)
      go false r t h = ltb-false at (length s) t

  module _ (q : Question) (rest : List ℕ) (e : read_of (drop at s) ≡ found q rest) where
    -- its parts lie in the input, and are those of the question
    pub parts_within : Within s (parts_at at q)
    parts_within =
        let h = question_holds (drop at s) q rest e in
        record {
          apex = omega (arith, h.within, length-drop at s);
          name = omega (arith, h.within, length-drop at s);
        }

    pub parts_question : question_in s (parts_at at q) ≡ q
    parts_question =
        let h = question_holds (drop at s) q rest e in
        let i : at + (length q.apex + 10) ≡ at + length q.apex + 10 = omega arith in
        let ea : take (length q.apex) (drop (at + 3) s) ≡ q.apex = sym (h.apex_is ∙ rw (drop-drop 3 at s)) in
        let en : take (length q.name) (drop (at + length q.apex + 10) s) ≡ q.name =
        sym (h.name_is ∙ rw (drop-drop (length q.apex + 10) at s, i)) in
        rw (ea, en)
