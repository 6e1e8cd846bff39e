-- What the functions that write a window promise each other. A window is written from its last type on, which is the last of those that are
-- not written yet.
use Rattle.std.specs.Prelude.{◌≡◌, List, ℕ, ◌+◌, ◌-◌, ◌*◌, ◌/◌, ◌≤◌, ◌<◌, length, take, drop, get_or, replicate}
use Rattle.space.specs.Private.Written.{Written}
use Rattle.types.specs.Sets.{RisesIn}
use Rattle.types.specs.Window.{octet_count, octets_of}

-- the last of the first i types
abbrev pub last_type : List ℕ → ℕ → ℕ
last_type types i = get_or types (i - 1) 0

-- the types before the index `end` are to be marked where they are of the window w, whose octets are 0 from the index `start` on
pub record Marking (types : List ℕ) (end w : ℕ) (space : List ℕ) (start : ℕ) : Type 0 where
  pub some : 0 < end
  pub within : end ≤ length types
  pub number : w ≡ last_type types end / 256
  pub rise : RisesIn 0 (last_type types end + 1) (take end types)
  pub zeros :
      let n = octet_count (last_type types end) in
      Written space start start (replicate n 0) (start + n) (start + n) space

-- the types of the window w are those from the index r on
pub record Marks (types : List ℕ) (end w : ℕ) (before : List ℕ) (start r : ℕ) (after : List ℕ) : Type 0 where
  pub less : r < end
  pub lower : RisesIn 0 (256 * w) (take r types)
  pub here : RisesIn (256 * w) (last_type types end + 1) (drop r (take end types))
  pub written :
      let n = octet_count (last_type types end) in
      Written before start start (octets_of n (256 * w) (drop r (take end types))) (start + n) (start + n) after
