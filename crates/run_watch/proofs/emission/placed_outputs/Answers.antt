use Rattle.std.proofs.Common.{List, flat_map, drop, ap, arith}
use Rattle.std.specs.List.{enumerate_from}
use Rattle.std.proofs.lemmas.List.{drop_all}
use Rattle.journals.specs.declared.entry.Entry.{Entry}
use Rattle.journals.proofs.EntriesAt.{fits_at}
use Rattle.run_watch.specs.Emissions.{placed_in, placed_outputs}
use Rattle.run_watch.proofs.Placed.{nothing_more, one_entry_more}
use Rattle.run_watch.proofs.emission.placed_outputs.Goals as goal

pub push_placed-requires : goal.push_placed-requires
push_placed-requires c =
    fits_at c.args.net.now c.args.j.now c.loop-place.place c.get-entry.result.now c.requires
    c.get-entry.ensures

pub loop-place-preserved : goal.loop-place-preserved
loop-place-preserved c =
    one_entry_more c.args.net.now c.args.j.now c.loop-place.place c.get-entry.result.now
    c.loop-place.placed c.push_placed.new.into (placed_outputs c.args.net.now c.args.j.now)
    c.get-entry.ensures c.in_ok-push_placed.ensures c.loop-place.invariant

pub returns : goal.returns
returns c =
    let net = c.args.net.now in
    let end = c.loop-place.place in
    let count = c.len-place-end.ensures in
    let off = c.loop-place-test.false in
    nothing_more c.loop-place.placed (placed_outputs net c.args.j.now)
    (flat_map (placed_in net) (enumerate_from end (drop end c.args.j.now)))
    (ap (λ (l : List Entry). flat_map (placed_in net) (enumerate_from end l))
    (drop_all end c.args.j.now (omega arith)))
    c.loop-place.invariant
