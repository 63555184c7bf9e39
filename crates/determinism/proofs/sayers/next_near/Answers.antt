use Rattle.std.proofs.Common.{◌+◌, ◌%◌, arith, inl, inr}
use Rattle.std.proofs.lemmas.Bool.{cases_lt}
use Rattle.determinism.proofs.AreSayers.{far_rows}
use Rattle.determinism.proofs.sayers.next_near.Goals as goal

-- so many more rows of the block are far
pub loop-row-preserved : goal.loop-row-preserved
loop-row-preserved c =
    let row = c.loop-row.row in
    record {
      from = let before = c.loop-row.invariant.from in omega arith;
      apart = λ k of_row low below at.
          elim (cases_lt k row) [
            | inl before ↦ c.loop-row.invariant.apart k of_row low before at
            | inr past ↦ far_rows c.args.marks.now c.args.sayers.now c.args.denied row
                c.run_from-apart.result k of_row c.requires.sayers
                (λ i less. c.far_in-far.ensures (row % 64 + i)
                (c.run_from-apart.ensures.there i less)) past below at
          ];
    }
