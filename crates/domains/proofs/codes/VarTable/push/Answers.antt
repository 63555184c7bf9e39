use Rattle.domains.proofs.Sizes.{are_sizes_push}
use Rattle.domains.proofs.codes.VarTable.push.Goals as goal

pub invariant_of-self-2 : goal.invariant_of-self-2
invariant_of-self-2 c =
    rw c.in_ok-push.ensures.ok
    (are_sizes_push c.self.inside.sizes c.args.size c.self.invariant c.requires.some c.requires.few)
