use Rattle.std.proofs.Common.{subst, sym}
use Rattle.journals.specs.Journals.{IsTrace}
use Rattle.machine_compiler.specs.Parts.{parts_of}
use Rattle.transition_table.specs.declared.network.Network.{Network}
use Rattle.commands.proofs.IsMade.{product_is}
use Rattle.commands.proofs.demo.product_of.Goals as goal

pub run_alone-requires : goal.run_alone-requires
run_alone-requires c =
    subst (λ (n : Network). IsTrace n c.args.inputs.now.trace)
    (sym c.in_ok-tasks.ensures.of_network.meaning) c.requires.trace

pub returns : goal.returns
returns c =
    let net = c.args.inputs.now.net in
    let ran = c.in_ok-ran.ran in
    let is_ran = rw c.in_ok-tasks.ensures.of_network.meaning at c.in_ok-ran.ensures in
    record {
      net = net;
      trace = c.args.inputs.now.trace;
      ran = ran;
      parts = parts_of c.in_ok-compiled.compiled;
      drawn = c.requires.drawn;
      right = c.in_ok-compiled.ensures;
      is_ran = is_ran;
      complete = c.requires.whole ran is_ran;
      made = product_is c.showing.result c.in_ok-shown.shown _ c.showing.ensures
          (rw c.in_ok-tasks.ensures.tasks at c.in_ok-shown.ensures);
    }
