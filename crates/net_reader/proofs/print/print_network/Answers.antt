use Rattle.std.proofs.Common.{rules, ◌≡◌, true, List, ℕ, sym, subst}
use Rattle.std.specs.List.{list_all}
use Rattle.net_reader.specs.Formed.{word_formed, num_formed, domain_formed, event_formed, machine_formed}
use Rattle.net_reader.specs.Layout.{network_text}
use Rattle.net_reader.specs.Places.{Declares}
use Rattle.net_reader.proofs.PrintedNetworks.{declares, formed_from}
use Rattle.net_reader.proofs.print.print_network.Goals as goal

pub returns-clause-back : goal.returns-clause-back
returns-clause-back c =
    let net = c.args.net.now in
    let name : word_formed c.args.net.now.name ≡ true = search rules in
    let version : num_formed c.args.net.now.version ≡ true = search rules in
    let domains : list_all domain_formed c.args.net.now.domains ≡ true = search rules in
    let events : list_all event_formed c.args.net.now.events ≡ true = search rules in
    let machines : list_all machine_formed c.args.net.now.machines ≡ true = search rules in
    let text : c.print_all-3.new.out ≡ network_text c.args.net.now = search rules in
    subst (λ (t : List ℕ). Declares t net) (sym text)
    (declares net c.requires.0 (formed_from net name version domains events machines)
    c.requires.1)
