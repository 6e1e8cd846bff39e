-- `put_fields` meets its contract: four fields written one behind the other are the question's octets.
use Rattle.question.specs.Question.{asking}
use Rattle.question.proofs.Writings.{fields_written}
use Rattle.toquestion.proofs.put_fields.Goals as goal

pub returns : goal.returns
returns c = let a = c.args in
    fields_written (asking a.apex.now a.limit a.name.now a.way) a.space.now
    c.put_field-a.ensures c.put_field-b.ensures c.put_field-c.ensures
    (rw c.octet_of.ensures at c.put_field.ensures)
