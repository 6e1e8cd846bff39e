-- `parse` meets its contract: at each place what was read is what the reader has done (`Reading`).
use borrow.Author.Tests.{ltb-true}
use mathlib.Core.Path.{◌≡◌, sym, ◌∙◌}
use native.Mathlib.Omega.{arith}
use Prim.Native.Nat.{◌+◌}
use lib.Dec.{ltb}
use Rattle.std.proofs.lemmas.Result.{err_from_is_err_and}
use Rattle.facts.proofs.Booleans.{both_true}
use lib.ListN.{length-set}
use Rattle.fromtext.specs.Private.Parse.{EscapeEnds}
use Rattle.text.specs.ReadText.{fits_in}
use mathlib.Core.Bool.{true}
use Rattle.fromtext.proofs.Parsing.{room_index, nothing_stops, root_stops, root_whole, reading_start, reading_cut}
use Rattle.fromtext.proofs.Parsing.{reading_whole, reading_two_dots, reading_dot, reading_full, reading_none, reading_plain}
use Rattle.fromtext.proofs.Parsing.{reading_marked, reading_no_escape, reading_escape}
use Rattle.fromtext.proofs.parse.Goals as goal

pub returns-then-text-eq0 : goal.returns-then-text-eq0
returns-then-text-eq0 c = search nothing_stops

pub returns-then-text-gt1 : goal.returns-then-text-gt1
returns-then-text-gt1 c = search root_stops

pub returns-then-text-eq46 : goal.returns-then-text-eq46
returns-then-text-eq46 c = (
  root_whole c.args.text.now c.args.octets.now c.if-text-eq46.true (omega arith) (omega arith) (omega (arith, c.requires)),
  omega arith,
  length-set c.args.octets.now 0 0 ∙ c.requires,
)

pub read_words-read-requires : goal.read_words-read-requires
read_words-read-requires c = reading_start _ _ (omega arith) (search) (search)

pub loop-p-init : goal.loop-p-init
loop-p-init c = (c.read_words-read.ensures, c.label_room-most.ensures)

pub returns-then-size-eq0 : goal.returns-then-size-eq0
returns-then-size-eq0 c = search reading_two_dots

pub loop-p-preserved-then-c-eq46 : goal.loop-p-preserved-then-c-eq46
loop-p-preserved-then-c-eq46 c =
    (reading_dot c.loop-p.invariant.0 c.loop-p-test.true (search) (omega arith), c.label_room-most-then-c-eq46.ensures)

pub bounds-octets-start-then-is_plain-size : goal.bounds-octets-start-then-is_plain-size
bounds-octets-start-then-is_plain-size c =
    let both = both_true c.is_plain.result (ltb c.loop-p.size c.loop-p.most) c.if-is_plain-size.true in
    omega (arith, ltb-true c.loop-p.size c.loop-p.most both.1)

pub loop-p-preserved-then-is_plain-size : goal.loop-p-preserved-then-is_plain-size
loop-p-preserved-then-is_plain-size c = let both = both_true _ _ c.if-is_plain-size.true in
    let k = c.loop-p.invariant in (
      reading_marked k.0 c.loop-p-test.true (sym c.is_plain.ensures ∙ both.0) k.1 (ltb-true _ _ both.1),
      k.1,
    )

pub returns-then-not-has_room : goal.returns-then-not-has_room
returns-then-not-has_room c = let f = sym c.has_room.ensures ∙ c.if-not-has_room.true in
    search reading_full

pub returns-in_err-o : goal.returns-in_err-o
returns-in_err-o c = let room : fits_in c.loop-p.start c.loop-p.size ≡ true = sym c.has_room.ensures ∙ c.if-not-has_room.false in
    let p = err_from_is_err_and c.from_residual.result c.from_residual.ensures.1 in
    rw (p.1, p.2) (reading_no_escape c.loop-p.invariant.0 (search) (search) room (search) c.in_err-o.ensures)

pub bounds-octets-at : goal.bounds-octets-at
bounds-octets-at c = room_index _ _ (sym c.has_room.ensures ∙ c.if-not-has_room.false)

pub loop-p-preserved-then-c-eq92 : goal.loop-p-preserved-then-c-eq92
loop-p-preserved-then-c-eq92 c =
    let room : fits_in c.loop-p.start c.loop-p.size ≡ true = sym c.has_room.ensures ∙ c.if-not-has_room.false in
    let ends : EscapeEnds c.args.text.now (c.loop-p.p + 1) c.in_ok-o.o c.in_ok-o.next = c.in_ok-o.ensures in
    (search (reading_escape, room, ends), c.loop-p.invariant.1)

pub returns-then-not-is_printable : goal.returns-then-not-is_printable
returns-then-not-is_printable c = let f = sym c.has_room.ensures ∙ c.if-not-has_room.false in
    let n = sym c.is_printable.ensures ∙ c.if-not-is_printable.true in
    search reading_none

pub bounds-octets-at-else-c-eq92 : goal.bounds-octets-at-else-c-eq92
bounds-octets-at-else-c-eq92 c = room_index _ _ (sym c.has_room.ensures ∙ c.if-not-has_room.false)

pub loop-p-preserved : goal.loop-p-preserved
loop-p-preserved c = let f = sym c.has_room.ensures ∙ c.if-not-has_room.false in
    let n = sym c.is_printable.ensures ∙ c.if-not-is_printable.false in
    (search reading_plain, c.loop-p.invariant.1)

pub returns-then-size-gt0 : goal.returns-then-size-gt0
returns-then-size-gt0 c = reading_cut c.loop-p.invariant.0 c.loop-p-test.false (omega arith)

pub returns : goal.returns
returns c = let l = c.loop-p in (
  reading_whole l.invariant.0 c.loop-p-test.false (omega arith),
  omega (arith, l.invariant.0.fits),
  length-set l.octets l.start 0 ∙ l.invariant.0.array,
)
