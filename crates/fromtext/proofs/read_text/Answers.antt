-- `read_text` meets its contract: 14 or 9 before anything is written, or the name, which has room.
use mathlib.Core.Path.{sym}
use native.Mathlib.Omega.{arith}
use lib.ListN.{drop}
use Rattle.fromtext.specs.Private.Parse.{Parses}
use Rattle.std.specs.Prelude.{Ok}
use Rattle.fromtext.proofs.TextAnswers.{reads_stops, reads_no_room, reads_answer}
use Rattle.fromtext.proofs.read_text.Goals as goal

pub returns-then-space-n : goal.returns-then-space-n
returns-then-space-n c =
    let parsed : Parses (drop c.args.at c.args.text.now) c.parse_from.new.octets (Ok c.in-Ok.n) =
    rw c.in-Ok.is at c.parse_from.ensures in
    let e = parsed in search reads_no_room

pub slice_bounds-put_name-end : goal.slice_bounds-put_name-end
slice_bounds-put_name-end c =
    let parsed : Parses (drop c.args.at c.args.text.now) c.parse_from.new.octets (Ok c.in-Ok.n) =
    rw c.in-Ok.is at c.parse_from.ensures in
    sym parsed.2

pub put_name-requires : goal.put_name-requires
put_name-requires c =
    let parsed : Parses (drop c.args.at c.args.text.now) c.parse_from.new.octets (Ok c.in-Ok.n) =
    rw c.in-Ok.is at c.parse_from.ensures in
    omega (arith, parsed)

pub returns-in-Err : goal.returns-in-Err
returns-in-Err c =
    let e = rw c.in-Err.is at c.parse_from.ensures in
    search reads_stops

pub returns-else-space-n : goal.returns-else-space-n
returns-else-space-n c =
    let parsed : Parses (drop c.args.at c.args.text.now) c.parse_from.new.octets (Ok c.in-Ok.n) =
    rw c.in-Ok.is at c.parse_from.ensures in
    let e = parsed in search reads_answer
