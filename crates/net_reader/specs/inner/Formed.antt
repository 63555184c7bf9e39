-- What is declared with names that are names, and numbers of 32 bits.
use Rattle.std.specs.Prelude.{Bool, ◌&&◌}
use Rattle.std.specs.List.{list_all}
use Rattle.net_reader.specs.declared.raw.RawNet.{RawNet}
use Rattle.net_reader.specs.Formed.{word_formed, num_formed, domain_formed, event_formed, machine_formed}

abbrev pub net_formed : RawNet → Bool
net_formed n =
    word_formed n.name
    && (num_formed n.version && (list_all domain_formed n.domains
    && (list_all event_formed n.events && list_all machine_formed n.machines)))
