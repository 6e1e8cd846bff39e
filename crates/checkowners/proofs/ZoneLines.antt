-- The apex as a name of its own zone: the checks let it pass exactly where 1, 2 and 3 do. And members, by the checks of a name.
use mathlib.Core.Path.{◌≡◌, refl, sym, ap, ◌∙◌}
use mathlib.Core.List.{List, [], ◌∷◌}
use mathlib.Core.Logic.{◌⊎◌, inl, inr}
use mathlib.Core.Bool.{Bool, true, false, cond, ◌&&◌, ◌||◌, true≢false}
use Prim.Native.Nat.{ℕ, ◌+◌, ◌≤◌, ◌<◌}
use native.Mathlib.Omega.{arith}
use borrow.Author.Tests.{lt-ltb, le-ltb, ltb-false, le-leb, eq-eqb, ne_eqb}
use lib.Dec.{ltb}
use lib.ListN.{length, take, drop, get_or}
use lib.Seq.{take_all}
use Rattle.facts.proofs.Booleans.{neither_true, never_true}
use Rattle.name.specs.declared.Refusal.{Refusal}
use Rattle.name.specs.Wire.{Reading}
use Rattle.std.specs.Prelude.{Ok, Err}
use Rattle.name.specs.Wire.{reading_of}
use Rattle.name.specs.Answer.{answer, refusal, numbered, sized}
use Rattle.name.proofs.Folding.{folded_length, folded_idempotent}
use Rattle.space.specs.Fold.{folded}
use Rattle.space.specs.Same.{same_octets}
use Rattle.space.proofs.SameBlocks.{same_octets_equal, same_octets_refl}
use Rattle.checks.specs.Private.LastAbove.{Places, refusal_of}
use Rattle.checks.proofs.CheckLines.{Admitted, checks_passed}
use Rattle.checks.proofs.UnderLabels.{labels_under}
use Rattle.encloser.specs.Gap.{is_before}
use Rattle.encloser.proofs.Gaps.{true_whole}
use Rattle.owners.specs.declared.Look.{Look}
use Rattle.owners.specs.declared.Look.TheVariants.{NotAfter, After, Broken as BrokenLook}
use Rattle.owners.specs.Private.Looks.{look_from}
use Rattle.owners.specs.Layout.{owners_of}
use Rattle.owners.specs.Sizes.{is_too_large}
use Rattle.owners.specs.Members.{is_member, follows, unbroken, starts_at_front}
use Rattle.owners.specs.Answers.{check_laid_out, check_within}
use Rattle.owners.proofs.Layouts.{owners_length}
use Rattle.owners.proofs.Following.{Tested, member_tested, unbroken_most}
use Rattle.checkowners.specs.Private.Zones.{Zone}

-- ---- what the checks find of a name

module _ {apex : List ℕ} {limit depth : ℕ} {name : List ℕ} {r : ℕ} (p : Places apex limit depth name r) where
  not_admitted : 255 ≤ r → Admitted apex limit name → ⊥
  not_admitted h a =
      let n : answer [] ≡ refusal 6 [] =
      sym (checks_passed apex limit name a (answer [])) ∙ p.refuses h (answer [])
      ∙ checks_passed apex limit name a (refusal 6 []) in
      true≢false (cc)

  module _ (zone : Zone apex limit) where
    pub member_refused : 255 ≤ r → false ≡ is_member apex limit name
    member_refused h = sym (never_true (is_member apex limit name) (λ t. admitted (member_tested apex limit name t)))
      where
        admitted : Tested apex limit name → ⊥
        admitted m =
            not_admitted h (record {
              some = zone.some;
              most = zone.most;
              apex_whole = zone.whole;
              apex_fits = zone.fits;
              name_whole = m.whole;
              name_fits = m.fits;
              is_under_lem = m.under;
            })

  pub member_placed : r < 255 → (b : Bool) → b ≡ same_octets (folded name) name → b ≡ is_member apex limit name
  member_placed h b e =
      let q = p.passes h in
      rw (true_whole (reading_of name) q.boundary.whole, le-leb (length name) limit q.name_fits, q.is_under_lem, ← e) (alone b)
    where
      alone : (b : Bool) → b ≡ true && b && true && true
      alone true = refl
      alone false = refl

-- ---- the apex

module _ {apex : List ℕ} {limit depth r : ℕ} (p : Places apex limit depth apex r) where
  pub zone_passes : r < 255 → Zone apex limit
  zone_passes h = let q = p.passes h in record { some = q.some; most = q.most; whole = q.apex_whole; fits = q.apex_fits }

  pub zone_refused : (owners octets : ℕ) (names starts : List ℕ) (w : Refusal) → 255 ≤ r
      → refusal_of {A = List ℕ} apex limit apex ≡ numbered w → numbered w ≡ check_within owners octets apex limit names starts
  zone_refused owners octets names starts w h e =
      go (ltb limit 1 || ltb 255 limit) (reading_of apex) (ltb limit (length apex + 2)) refl refl refl
    where
      go : (a : Bool) (f : Reading) (b : Bool) → ltb limit 1 || ltb 255 limit ≡ a → reading_of apex ≡ f
          → ltb limit (length apex + 2) ≡ b
          → numbered w ≡ check_within owners octets apex limit names starts
      go true f b ea ef eb = rw ea (sym (ap sized (rw ea at e)))
      go false (Err x) b ea ef eb = rw (ea, ef) (sym (ap sized (rw (ea, ef) at e)))
      go false (Ok _) true ea ef eb = rw (ea, ef, eb) (sym (ap sized (rw (ea, ef, eb) at e)))
      go false (Ok _) false ea ef eb =
          let l = neither_true (ltb limit 1) (ltb 255 limit) ea in
          absurd (not_admitted p h (record {
            some = ltb-false limit 1 l.0;
            most = ltb-false 255 limit l.1;
            apex_whole = ef;
            apex_fits = ltb-false limit (length apex + 2) eb;
            name_whole = ef;
            name_fits = omega (arith, ltb-false limit (length apex + 2) eb);
            is_under_lem = labels_under apex apex [] refl;
          }))

pub zone_checked : {apex : List ℕ} {limit : ℕ} → Zone apex limit → (owners octets : ℕ) (names starts : List ℕ)
    → check_laid_out owners octets apex limit names starts ≡ check_within owners octets apex limit names starts
zone_checked {apex} {limit} z owners octets names starts =
    rw (le-ltb limit 1 z.some, le-ltb 255 limit z.most, z.whole, le-ltb limit (length apex + 2) z.fits)

-- ---- an owner behind another

abbrev pub is_after : Look → Bool
is_after NotAfter = false
is_after After = true
is_after BrokenLook = false

module _ (apex : List ℕ) (limit : ℕ) (before owner : List ℕ) where
  pub next_no_member : false ≡ is_member apex limit owner → false ≡ follows apex limit before owner
  next_no_member e = rw (← e)

  pub next_seen : reading_of before ≡ Ok tt → true ≡ is_member apex limit owner → (seen : Look) → seen ≡ look_from before owner
      → (b : Bool) → is_after seen ≡ b → b ≡ follows apex limit before owner
  next_seen w m seen e b h =
      rw (← m) (sym h ∙ ap is_after e ∙ rw (w, (member_tested apex limit owner (sym m)).whole) (go (is_before before owner)))
    where
      go : (t : Bool) → is_after (cond t After NotAfter) ≡ t
      go true = refl
      go false = refl

pub follows_same : (apex : List ℕ) (limit : ℕ) {before again owner name : List ℕ} → before ≡ again → owner ≡ name
    → follows apex limit before owner ≡ follows apex limit again name
follows_same apex limit e f = rw (e, f)

-- ---- the list

front_true : (starts : List ℕ) → 1 ≤ length starts → get_or starts 0 0 ≡ 0 → starts_at_front starts ≡ true
front_true [] h e = absurd (omega arith)
front_true (s ∷ starts) h e = eq-eqb s 0 e

front_false : (starts : List ℕ) → (length starts ≡ 0) ⊎ (get_or starts 0 0 ≡ 0 → ⊥) → starts_at_front starts ≡ false
front_false [] h = refl
front_false (s ∷ starts) (inl e) = absurd (omega arith)
front_false (s ∷ starts) (inr f) = ne_eqb s 0 f

module _ (owners octets : ℕ) (apex : List ℕ) (limit : ℕ) (names starts : List ℕ) where
  pub laid_large : true ≡ is_too_large owners octets names starts
      → refusal 16 (0 ∷ []) ≡ check_laid_out owners octets apex limit names starts
  laid_large e = rw (← e)

  module _ (small : false ≡ is_too_large owners octets names starts) where
    pub laid_behind : (length starts ≡ 0) ⊎ (get_or starts 0 0 ≡ 0 → ⊥)
        → refusal 16 (0 ∷ []) ≡ check_laid_out owners octets apex limit names starts
    laid_behind h = rw (← small, front_false starts h)

    module _ (some : 1 ≤ length starts) (front : get_or starts 0 0 ≡ 0) (n : ℕ) (e : n ≡ unbroken apex limit (owners_of names starts)) where
      pub laid_breaks : n < length starts → refusal 16 (n ∷ []) ≡ check_laid_out owners octets apex limit names starts
      laid_breaks h =
          let k : n < length (owners_of names starts) = omega (arith, owners_length names starts) in
          rw (← small, front_true starts some front, ← e, lt-ltb n (length (owners_of names starts)) k)

      pub laid_accepted : length starts ≤ n → answer n ≡ check_laid_out owners octets apex limit names starts
      laid_accepted h =
          let m : n ≤ length (owners_of names starts) = rw e (unbroken_most apex limit (owners_of names starts)) in
          let k : length (owners_of names starts) ≤ n = omega (arith, owners_length names starts) in
          rw (← small, front_true starts some front, ← e, le-ltb n (length (owners_of names starts)) k)
          (ap answer (omega (arith, owners_length names starts)))

-- ---- the first owner

module _ (apex owner : List ℕ) where
  pub apex_other_length : (length owner ≡ length apex → ⊥) → false ≡ same_octets owner (folded apex)
  apex_other_length f =
      sym (never_true (same_octets owner (folded apex))
      (λ t. f (ap length (same_octets_equal owner (folded apex) t) ∙ folded_length apex)))

  pub apex_unfolded : false ≡ same_octets (folded owner) owner → false ≡ same_octets owner (folded apex)
  apex_unfolded e =
      sym (never_true (same_octets owner (folded apex)) (λ t.
      let s : owner ≡ folded apex = same_octets_equal owner (folded apex) t in
      let g : folded owner ≡ owner = ap folded s ∙ folded_idempotent apex ∙ sym s in
      true≢false (sym (ap (λ (x : List ℕ). same_octets x owner) g ∙ same_octets_refl owner) ∙ sym e)))

  pub apex_folded : length owner ≡ length apex → true ≡ same_octets (folded owner) owner
      → (b : Bool) → b ≡ same_octets (folded (take (length apex) (drop 0 owner))) (folded apex) → b ≡ same_octets owner (folded apex)
  apex_folded h e b f =
      let g : folded owner ≡ owner = same_octets_equal (folded owner) owner (sym e) in
      f ∙ ap (λ (x : List ℕ). same_octets (folded x) (folded apex)) (take_all (length apex) owner (omega arith))
      ∙ ap (λ (x : List ℕ). same_octets x (folded apex)) g
