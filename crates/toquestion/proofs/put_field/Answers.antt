-- `put_field` meets its contract: three octets set and a value copied behind them are the field over the space.
use native.Mathlib.Omega.{arith}
use lib.ListN.{length-set}
use Rattle.question.proofs.Writings.{field_written}
use Rattle.toquestion.proofs.put_field.Goals as goal

pub bounds-d-at-2 : goal.bounds-d-at-2
bounds-d-at-2 c = simp length-set (omega arith)

pub bounds-d-at-3 : goal.bounds-d-at-3
bounds-d-at-3 c = simp length-set (omega arith)

pub returns : goal.returns
returns c = field_written c.args.d.now c.args.at c.args.tag c.args.value.now c.requires.0 c.put.ensures
