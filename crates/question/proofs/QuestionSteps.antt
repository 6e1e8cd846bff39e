-- Reading a question at a place of the input, field by field: a field that is there leads to what is left to read after it, and one that
-- is not decides.
use mathlib.Core.Path.{◌≡◌, refl, sym, ap, ◌∙◌}
use mathlib.Core.List.{List}
use mathlib.Core.Bool.{true≢false}
use Prim.Native.Nat.{ℕ, ◌+◌, ◌≤◌, ◌<◌}
use native.Mathlib.Omega.{arith}
use borrow.Author.Tests.{le-ltb, lt-ltb}
use lib.ListN.{length, take, drop, get_or, length-drop}
use lib.Seq.{drop-drop, length-take-le}
use Rattle.facts.proofs.Parts.{part_at}
use Rattle.question.specs.declared.Way.{Way}
use Rattle.std.specs.Prelude.{Some, None, Ok, Err}
use Rattle.question.specs.declared.NotAsked.{NotAsked}
use Rattle.question.specs.declared.NotAsked.TheVariants.{Wrong, Cut, End}
use Rattle.question.specs.Fields.{Read, found, wrong, cut, and_then, field_of}
use Rattle.question.specs.Way.{way_of}
use Rattle.question.specs.Question.{Question, with_way, read_limit, read_of}
use Rattle.question.specs.Private.Asked.{field_length, field_at, placed, after_apex, after_limit, after_name, asked_at}
use Rattle.question.proofs.Fields.{field_stands}

-- ---- a field is there, or not

-- a field of n octets stands at the place `at`
pub record There (s : List ℕ) (at tag least most n : ℕ) : Type 0 where
  pub is : field_of tag least most (drop at s) ≡ found (take n (drop (at + 3) s)) (drop (at + 3 + n) s)
  pub within : at + 3 + n ≤ length s
  pub some : least ≤ n
  pub few : n ≤ most

pub field_there : {s : List ℕ} {at tag least most n : ℕ} → Ok n ≡ field_at s at tag least most → There s at tag least most n
unfolding field_at
field_there {s} {at} {tag} {least} {most} {n} e = go (field_of tag least most (drop at s)) refl e
  where
    go : (r : Read (List ℕ)) → field_of tag least most (drop at s) ≡ r → Ok n ≡ field_length r → There s at tag least most n
    go (found v rest) h x =
        let st = field_stands tag least most (drop at s) h in
        let en : length v ≡ n = cc in
        let ev : v ≡ take n (drop (at + 3) s) = st.is ∙ rw (en, drop-drop 3 at s) in
        let e3 : at + (3 + n) ≡ at + 3 + n = omega arith in
        let er : rest ≡ drop (at + 3 + n) s = st.after ∙ rw (en, drop-drop (3 + n) at s, e3) in
        record {
          is = h ∙ rw (← ev, ← er);
          within = omega (arith, st.within, length-drop at s);
          some = omega (arith, st.some);
          few = omega (arith, st.few);
        }
    go wrong h x = absurd (true≢false (cc))
    go cut h x = absurd (true≢false (cc))

module _ (s : List ℕ) (at i tag least most : ℕ) (next : List ℕ → List ℕ → Read Question) where
  pub stops : (w : NotAsked) → Err w ≡ field_at s i tag least most
      → Err w ≡ placed at (and_then (field_of tag least most (drop i s)) next)
  unfolding field_at
  stops w e = go (field_of tag least most (drop i s)) e
    where
      go : (r : Read (List ℕ)) → Err w ≡ field_length r → Err w ≡ placed at (and_then r next)
      go (found v rest) x = absurd (true≢false (cc))
      go wrong x = let k : w ≡ Wrong = cc in ap Err k
      go cut x = let k : w ≡ Cut = cc in ap Err k

-- a field of one octet
octet_there : (s : List ℕ) (at tag n j : ℕ) → There s at tag 1 1 n → at + 3 ≡ j → get_or (take n (drop (at + 3) s)) 0 0 ≡ get_or s j 0
octet_there s at tag n j t e =
    part_at s (at + 3) n 0 0 (omega (arith, t.some)) ∙ ap (λ (i : ℕ). get_or s i 0) (omega arith)

-- ---- what is left to read

module _ (s : List ℕ) (at : ℕ) where
  pub at_end_lem : length s ≤ at → Err End ≡ asked_at s at
  unfolding asked_at
  at_end_lem h = rw (le-ltb at (length s) h)

  started : at < length s → asked_at s at ≡ placed at (and_then (field_of 1 0 600 (drop at s)) (λ apex rest. read_limit apex rest))
  unfolding asked_at read_of
  started h = rw (lt-ltb at (length s) h)

  pub no_apex : at < length s → (w : NotAsked) → Err w ≡ field_at s at 1 0 600 → Err w ≡ asked_at s at
  no_apex h w e = stops s at at 1 0 600 _ w e ∙ sym (started h)

  pub apex_read : at < length s → (a : ℕ) → There s at 1 0 600 a → after_apex s at a ≡ asked_at s at
  apex_read h a t = sym (started h ∙ rw t.is)

  pub limit_read : (a n : ℕ) → There s (at + 3 + a) 2 1 1 n → after_limit s at a (get_or s (at + 6 + a) 0) ≡ after_apex s at a
  limit_read a n t =
      let e : at + 3 + a + 3 + n ≡ at + 7 + a = omega (arith, t.some, t.few) in
      sym (rw (t.is, e, octet_there s (at + 3 + a) 2 n (at + 6 + a) t (omega arith)))

  pub name_read_lem : (a limit n : ℕ) → There s (at + 7 + a) 3 0 600 n → after_name s at a limit n ≡ after_limit s at a limit
  name_read_lem a limit n t =
      let e : at + 7 + a + 3 ≡ at + 10 + a = omega arith in
      sym (rw (t.is, e))

  module _ (a limit n w : ℕ) (t : There s (at + 10 + a + n) 4 1 1 w) where
    way_read : after_name s at a limit n
        ≡ placed at (with_way (take a (drop (at + 3) s)) limit (take n (drop (at + 10 + a) s))
        (way_of (get_or s (at + 10 + a + n + 3) 0)) (drop (at + 10 + a + n + 4) s))
    way_read =
        let e : at + 10 + a + n + 3 + w ≡ at + 10 + a + n + 4 = omega (arith, t.some, t.few) in
        rw (t.is, e, octet_there s (at + 10 + a + n) 4 w (at + 10 + a + n + 3) t refl)

    pub no_way : None ≡ way_of (get_or s (at + 10 + a + n + 3) 0) → Err Wrong ≡ after_name s at a limit n
    no_way h = sym (way_read ∙ rw (← h))

    pub whole : {way : Way} → Some way ≡ way_of (get_or s (at + 10 + a + n + 3) 0)
        → Ok (record {
          apex = record { start = at + 3; len = a };
          limit = limit;
          name = record { start = at + 10 + a; len = n };
          way = way;
          next = at + 10 + a + n + 4;
        })
        ≡ after_name s at a limit n
    whole {way} h =
        let la : length (take a (drop (at + 3) s)) ≡ a =
        length-take-le a (drop (at + 3) s) (omega (arith, t.within, length-drop (at + 3) s)) in
        let ln : length (take n (drop (at + 10 + a) s)) ≡ n =
        length-take-le n (drop (at + 10 + a) s) (omega (arith, t.within, length-drop (at + 10 + a) s)) in
        let es : at + a + 10 ≡ at + 10 + a = omega arith in
        let en : at + (a + n + 14) ≡ at + 10 + a + n + 4 = omega arith in
        sym (way_read ∙ rw (← h, la, ln, es, en))
