-- `wildcard` meets its contract: a name that is too long is refused, and otherwise two octets and the encloser behind them have room.
use mathlib.Core.Path.{sym, ◌∙◌}
use native.Mathlib.Omega.{arith}
use Rattle.space.proofs.Written.{written_front}
use Rattle.name.proofs.Answers.{found_ok, fills_refusal, fills_no_room, fills_answer}
use Rattle.encloser.proofs.Wildcards.{wildcard_long, wildcard_answer}
use Rattle.wildcard.proofs.Asterisk.{wildcard_written}
use Rattle.wildcard.proofs.wildcard.Goals as goal

pub returns-then-encloser-gt-MAX_LEN : goal.returns-then-encloser-gt-MAX_LEN
returns-then-encloser-gt-MAX_LEN c =
    fills_refusal
    (wildcard_long _ (sym c.read.ensures ∙ found_ok c.read.result c.in_ok-map_err.ensures.cases) c.if-encloser-gt-MAX_LEN.true)

pub returns-then-space-encloser : goal.returns-then-space-encloser
returns-then-space-encloser c =
    fills_no_room
    (wildcard_answer _ (sym c.read.ensures ∙ found_ok c.read.result c.in_ok-map_err.ensures.cases) c.if-encloser-gt-MAX_LEN.false)
    (omega arith)

pub returns : goal.returns
returns c = let a = c.args in
    fills_answer
    (wildcard_answer a.encloser.now
    (sym c.read.ensures ∙ found_ok c.read.result c.in_ok-map_err.ensures.cases) c.if-encloser-gt-MAX_LEN.false)
    (omega arith) (omega arith)
    (written_front (wildcard_written a.space.now a.encloser.now _ (omega arith) c.put_blocks.ensures) (omega arith))
