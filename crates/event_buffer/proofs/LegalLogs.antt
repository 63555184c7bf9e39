-- One entry more in a log, and the entries of a log that is legal by itself.
use Rattle.std.specs.Prelude.{◌≡◌, ℕ, ◌≤◌, ◌&&◌, ◌==◌, nat_lt, nat_le, true, List, [], ◌∷◌, ◌++◌, slice_get, Some}
use Rattle.std.proofs.Common.{ap, ◌∙◌, arith}
use Rattle.std.proofs.lemmas.List.{map-append}
use Rattle.std.proofs.lemmas.Bool.{and_parts, eqb-true, leb-true}
use Rattle.polis_base.specs.Lists.{last_of}
use Rattle.transition_table.specs.declared.network.Network.{Network}
use Rattle.journals.specs.declared.entry.Entry.{Entry}
use Rattle.journals.specs.declared.entry.Entry.TheVariants.{Dep, Rea}
use Rattle.journals.specs.declared.stamped.Stamped.{Stamped}
use Rattle.journals.specs.Alone.{is_own, LegalAlone}
use Rattle.journals.specs.Journals.{FitsNetwork, reads}
use Rattle.journals.specs.Logs.{clock, stamps, max_stamp, rises}
use Rattle.journals.specs.Moved.{machine_of}
use Rattle.journals.proofs.MomentsAfter.{last_of_push}
use Rattle.journals.proofs.StampSteps.{item_fits}
use Rattle.polis_base.proofs.ListTests.{all_get}

pub clock_more : (log : List Stamped) (x : Stamped) → clock (log ++ x ∷ []) ≡ x.stamp
clock_more log x =
    ap (last_of 0) (map-append (λ (s : Stamped). s.stamp) log (x ∷ []))
    ∙ last_of_push 0 (stamps log) x.stamp

-- no stamp is above the greatest
small_from :
    (low : ℕ) (log : List Stamped)
    → low ≤ max_stamp → rises low log ≡ true → last_of low (stamps log) ≤ max_stamp
small_from low [] small h = small
small_from low (x ∷ log) small h =
    let parts = and_parts (nat_lt low x.stamp && nat_le x.stamp max_stamp) (rises x.stamp log) h in
    let both = and_parts (nat_lt low x.stamp) (nat_le x.stamp max_stamp) parts.0 in
    small_from x.stamp log (leb-true x.stamp max_stamp both.1) parts.1

pub clock_small :
    (net : Network) (m : ℕ) (log : List Stamped)
    → LegalAlone net m log → clock log ≤ max_stamp
clock_small net m log h = small_from 0 log (omega arith) h.rising

-- its machine
pub own_machine :
    (net : Network) (m : ℕ) (entry : Entry)
    → is_own net m entry ≡ true → machine_of entry ≡ m
own_machine net m (Dep s to event code) h =
    eqb-true to m (and_parts (to == m) (reads net m event) h).0
own_machine net m (Rea k s o) h = eqb-true k m h

-- each entry fits the network and is its machine's own
pub item_of_legal :
    (net : Network) (m : ℕ) (log : List Stamped) (k : ℕ) (x : Stamped)
    → LegalAlone net m log
    → slice_get log k ≡ Some x
    → FitsNetwork net x.entry × (is_own net m x.entry ≡ true)
item_of_legal net m log k x h at = (
  item_fits net log k x h.fitting at,
  all_get (λ (s : Stamped). is_own net m s.entry) log k x h.own at,
)
