-- One text is of one network.
use Rattle.std.proofs.Common.{◌≡◌, List, ℕ, sym, subst}
use Rattle.polis_base.specs.Host.{Files, bytes_at}
use Rattle.transition_table.specs.declared.network.Network.{Network}
use Rattle.net_reader.specs.Sentences.{HasNet}
use Rattle.net_reader.specs.declared.raw.RawNet.{RawNet}
use Rattle.net_reader.proofs.Sentences.{net_outcome}
use Rattle.net_rules.specs.Networks.{IsNetworkOf}
use Rattle.net_rules.specs.NetOf.{NetOf}
use Rattle.net_rules.proofs.OneNetwork.{one_network}
use Rattle.input_files.specs.Inputs.{HoldsNet}

pub one_raw : (text : List ℕ) (raw other : RawNet) → HasNet text raw → HasNet text other
    → raw ≡ other
one_raw text raw other has has_too =
    let first = net_outcome text raw has in
    let second = net_outcome text other has_too in
    cc

pub one_net_of : (text : List ℕ) (a b : Network) → NetOf text a → NetOf text b → a ≡ b
one_net_of text a b (raw, has, is) (other, has_too, is_too) =
    one_network raw a b is.1
    (subst (λ (r : RawNet). IsNetworkOf r b) (sym (one_raw text raw other has has_too)) is_too.1)

-- whatever the files and the names
pub one_held_net : (before now : Files) (name other : List ℕ) (a b : Network)
    → bytes_at before name ≡ bytes_at now other → HoldsNet before name a → HoldsNet now other b
    → a ≡ b
one_held_net before now name other a b same one two =
    let first = one.holds.held in
    let second = two.holds.held in
    let texts : one.text ≡ two.text = cc in
    one_net_of one.text a b one.accepted.0
    (subst (λ (t : List ℕ). NetOf t b) (sym texts) two.accepted.0)
