use Rattle.domains.proofs.Ranks.{fits_zeros, rank_zeros}
use Rattle.domains.proofs.codes.first_codes.Goals as goal

pub returns-clause-fits : goal.returns-clause-fits
returns-clause-fits c =
    rw (c.in_ok-codes.ensures, c.len.ensures.len) (fits_zeros c.args.vars.now c.len.ensures.sizes)

pub returns-clause-first : goal.returns-clause-first
returns-clause-first c = rw c.in_ok-codes.ensures (rank_zeros c.args.vars.now c.len.result)
