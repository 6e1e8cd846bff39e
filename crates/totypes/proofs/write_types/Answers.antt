-- A list that does not rise is refused at its index, and 9 where the bitmap has no room; otherwise its types rise, and they are written.
use Rattle.std.proofs.Common.{rules}
use Rattle.types.proofs.Answered.{rising_set}
use Rattle.totypes.proofs.write_types.Goals as goal

pub put_windows-requires : goal.put_windows-requires
put_windows-requires c = search (rules, rising_set)
