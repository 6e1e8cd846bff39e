-- `number` meets its contract: each digit goes on from the last, or the reader stops at it.
use native.Mathlib.Omega.{arith}
use Prim.Native.Nat.{◌+◌}
use Rattle.fromtext.proofs.Escapes.{Goes, goes, first_stops, second_off, third_off, number_ends}
use Rattle.fromtext.proofs.number.Goals as goal

pub returns-then-hundreds-gt255 : goal.returns-then-hundreds-gt255
returns-then-hundreds-gt255 c = first_stops _ _ c.requires.0 c.requires.1 c.with_digit-hundreds.ensures c.if-hundreds-gt255.true

pub with_digit-tens-requires : goal.with_digit-tens-requires
with_digit-tens-requires c =
    let first : Goes c.args.text.now c.args.p 2 0 c.with_digit-hundreds.result =
    goes _ _ 2 0 _ c.with_digit-hundreds.ensures c.if-hundreds-gt255.false in
    omega (arith, first.small)

pub returns-then-tens-gt255 : goal.returns-then-tens-gt255
returns-then-tens-gt255 c =
    let first : Goes c.args.text.now c.args.p 2 0 c.with_digit-hundreds.result =
    goes _ _ 2 0 _ c.with_digit-hundreds.ensures c.if-hundreds-gt255.false in
    second_off _ _ first c.with_digit-tens.ensures c.if-tens-gt255.true

pub with_digit-octet-requires : goal.with_digit-octet-requires
with_digit-octet-requires c =
    let second : Goes c.args.text.now (c.args.p + 1) 25 c.with_digit-hundreds.result c.with_digit-tens.result =
    goes _ _ 25 _ _ c.with_digit-tens.ensures c.if-tens-gt255.false in
    second.small

pub returns-then-octet-gt255 : goal.returns-then-octet-gt255
returns-then-octet-gt255 c =
    let first : Goes c.args.text.now c.args.p 2 0 c.with_digit-hundreds.result =
    goes _ _ 2 0 _ c.with_digit-hundreds.ensures c.if-hundreds-gt255.false in
    let second : Goes c.args.text.now (c.args.p + 1) 25 c.with_digit-hundreds.result c.with_digit-tens.result =
    goes _ _ 25 _ _ c.with_digit-tens.ensures c.if-tens-gt255.false in
    third_off _ _ first second c.with_digit-octet.ensures (omega arith)

pub returns : goal.returns
returns c =
    let first : Goes c.args.text.now c.args.p 2 0 c.with_digit-hundreds.result =
    goes _ _ 2 0 _ c.with_digit-hundreds.ensures c.if-hundreds-gt255.false in
    let second : Goes c.args.text.now (c.args.p + 1) 25 c.with_digit-hundreds.result c.with_digit-tens.result =
    goes _ _ 25 _ _ c.with_digit-tens.ensures c.if-tens-gt255.false in
    number_ends _ _ first second (goes _ _ 255 _ _ c.with_digit-octet.ensures (omega arith))
