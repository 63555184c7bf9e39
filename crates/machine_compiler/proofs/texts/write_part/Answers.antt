use Rattle.std.proofs.Common.{◌≡◌, ◌++◌}
use Rattle.std.proofs.lemmas.Option.{slice_get_within}
use Rattle.task_code.specs.Listings.{part_text}
use Rattle.machine_compiler.specs.Parts.{part_of_compiled}
use Rattle.machine_compiler.proofs.Pairwise.{of_machine}
use Rattle.machine_compiler.proofs.texts.write_part.Goals as goal

pub push_part-requires : goal.push_part-requires
push_part-requires c =
    slice_get_within c.args.net.now.machines c.args.k c.args.machine.now c.requires

pub returns-clause-listing : goal.returns-clause-listing
returns-clause-listing c =
    let net = c.args.net.now in
    of_machine net c.args.k c.args.machine.now (λ machine. c.push_part.new.listing
    ≡ c.args.listing.now ++ part_text net machine (part_of_compiled c.args.part.now)) c.requires
    c.in_ok-push_part.ensures
