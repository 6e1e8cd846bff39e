-- `write_fields` meets its contract: what a question can hold is written where it has room.
use Rattle.question.specs.Question.{asking}
use Rattle.question.proofs.Writings.{writes_no_room, writes_octets}
use Rattle.toquestion.proofs.write_fields.Goals as goal

pub returns-then-space-n : goal.returns-then-space-n
returns-then-space-n c = writes_no_room (let a = c.args in
    asking a.apex.now a.limit a.name.now a.way) _ c.if-space-n.true

pub returns : goal.returns
returns c = writes_octets (let a = c.args in
    asking a.apex.now a.limit a.name.now a.way) _ _ c.if-space-n.false c.put_fields.ensures
