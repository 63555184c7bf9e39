use Rattle.std.proofs.Common.{eqb, sym, ap, ◌∙◌, arith}
use Rattle.std.proofs.lemmas.Option.{slice_get-get_or}
use Rattle.domains.proofs.Ranks.{ranks_below}
use Rattle.domains.specs.Tables.{rank}
use Rattle.table_use.specs.inner.Looking.{class_of}
use Rattle.table_use.proofs.lookup.stays_at.Goals as goal

pub returns : goal.returns
returns c =
    let lookup = c.args.lookup.now in
    let vars = lookup.machine.now.vars in
    let numbers = lookup.results.now.numbers in
    let long = lookup.are_keys.long in
    λ s t fit other_fits class number.
    let low = ranks_below vars s fit in
    let other_low = ranks_below vars t other_fits in
    let same = c.class_at.ensures
    ∙ ap (class_of lookup.results.now lookup.keys.now) (sym number) in
    (λ j. eqb (class j) (same j))
    ∙ lookup.are_keys.same s t _ _ fit other_fits
    (slice_get-get_or numbers (rank vars s) 0 (omega arith))
    (slice_get-get_or numbers (rank vars t) 0 (omega arith))
