-- `put_listed` meets its contract: the table that it passes on has the characters of every octet.
use Rattle.totext.proofs.CharacterTable.{table_entry}
use Rattle.totext.proofs.escaped.put_listed.Goals as goal

pub put_escaped-requires-clause-lists : goal.put_escaped-requires-clause-lists
put_escaped-requires-clause-lists c = table_entry
