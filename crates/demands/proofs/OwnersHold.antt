-- Requests Six and Thirteen hold, for any sizes where the most owners are fewer than 2 to the number of looks: the laws of crate owners say
-- each part.
use Prim.Native.Nat.{ℕ, ◌^◌, ◌<◌}
use native.Mathlib.Omega.{arith}
use Rattle.owners.proofs.Accepting.{check_accepted}
use Rattle.owners.proofs.Sequences.{accepted_laid_out, accepted_list, list_accepted, list_unique}
use Rattle.owners.proofs.Breaking.{first_breaks}
use Rattle.owners.proofs.Counts.{find_looks, find_within_lem}
use Rattle.owners.proofs.Enclosing.{find_encloses}
use Rattle.owners.proofs.LetterCases.{find_any_case, check_any_case}
use Rattle.demands.specs.Owners.{ListsOf, Owners}

pub lists_hold : (owners octets most : ℕ) → owners < 2 ^ most → ListsOf owners octets most
lists_hold owners octets most h =
    record {
      is_list = λ apex limit names starts n o e. accepted_list (check_accepted owners octets apex limit names starts n e).0 o;
      is_laid_out = λ apex limit names starts n e. let a = check_accepted owners octets apex limit names starts n e in
          (accepted_laid_out a.0, a.1, a.0.few, a.0.small);
      accepted = λ apex limit os some most whole fits l few small. list_accepted l owners octets some most whole fits few small;
      only_list = λ apex limit os ps l m f g. list_unique l m f g;
      first_breaks = λ apex limit names starts i o h e. first_breaks owners octets apex limit names starts i o h e;
      few_looks = λ names starts query f e. find_looks most owners octets names starts query h f e;
      no_more_looks = λ names starts query. find_within_lem most owners octets names starts query h;
      encloses = λ apex limit names starts n e query vq uq.
          find_encloses owners octets (check_accepted owners octets apex limit names starts n e).0 query vq uq;
      any_case = find_any_case owners octets;
      any_apex_case = check_any_case owners octets;
    }

pub owners_hold : Owners
owners_hold = lists_hold _ _ _ (omega arith)
