use Rattle.std.proofs.Common.{◌++◌, ◌∷◌, [], slice_set, refl, subst, sym}
use Rattle.journals.specs.declared.entry.Entry.{Entry}
use Rattle.machine_compiler.specs.inner.Tallies.{AreTallies}
use Rattle.machine_compiler.proofs.AreTallies.{here, reacts_within, set_written, tallied_dep, tallied_rea}
use Rattle.machine_compiler.proofs.tallies.tally_entry.Goals as goal

pub code-requires : goal.code-requires
code-requires c =
    reacts_within c.args.r.now.net.now c.args.entry.now c.in-Rea.machine c.in-Rea.snapshot
    c.in-Rea.outcome c.requires.fits c.in-Rea.is

pub react-requires-clause-fits : goal.react-requires-clause-fits
react-requires-clause-fits c =
    let r = c.args.r.now in
    let h = here r.net.now r.codes c.args.tallies.now.items c.args.entry.now c.in-Rea.machine
    c.in-Rea.snapshot c.in-Rea.outcome c.code.result.now c.index_mut.result.now c.requires.fits
    c.in-Rea.is c.code.ensures.is c.index_mut.ensures.value c.requires.tallied in
    record {
      machine = h.machine;
      code = c.code.ensures.fits h.machine h.there;
      snapshot = h.snapshot;
      widths = h.widths;
    }

pub react-requires-clause-few_tries : goal.react-requires-clause-few_tries
react-requires-clause-few_tries c =
    let r = c.args.r.now in
    let h = here r.net.now r.codes c.args.tallies.now.items c.args.entry.now c.in-Rea.machine
    c.in-Rea.snapshot c.in-Rea.outcome c.code.result.now c.index_mut.result.now c.requires.fits
    c.in-Rea.is c.code.ensures.is c.index_mut.ensures.value c.requires.tallied in
    (c.requires.few c.in-Rea.machine c.index_mut.result.now h.at_tally).0

pub react-requires-clause-few_steps : goal.react-requires-clause-few_steps
react-requires-clause-few_steps c =
    let r = c.args.r.now in
    let h = here r.net.now r.codes c.args.tallies.now.items c.args.entry.now c.in-Rea.machine
    c.in-Rea.snapshot c.in-Rea.outcome c.code.result.now c.index_mut.result.now c.requires.fits
    c.in-Rea.is c.code.ensures.is c.index_mut.ensures.value c.requires.tallied in
    (c.requires.few c.in-Rea.machine c.index_mut.result.now h.at_tally).1

pub returns-in-Dep : goal.returns-in-Dep
returns-in-Dep c = λ seen tallied.
    let r = c.args.r.now in
    let ts = c.args.tallies.now.items in
    subst (λ (e : Entry). AreTallies r.net.now r.codes (seen ++ e ∷ []) ts) (sym c.in-Dep.is)
    (tallied_dep r.net.now r.codes seen ts c.in-Dep.from c.in-Dep.to c.in-Dep.event c.in-Dep.code
    tallied)

pub returns-in-Rea : goal.returns-in-Rea
returns-in-Rea c = λ seen tallied.
    let r = c.args.r.now in
    let old = c.args.tallies.now.items in
    let k = c.in-Rea.machine in
    let code = c.code.result.now in
    let before = c.index_mut.result.now in
    let after = c.react.new.to in
    let new = slice_set old k after in
    let h = here r.net.now r.codes old c.args.entry.now k c.in-Rea.snapshot c.in-Rea.outcome code
    before c.requires.fits c.in-Rea.is c.code.ensures.is c.index_mut.ensures.value
    c.requires.tallied in
    subst (λ (e : Entry). AreTallies r.net.now r.codes (seen ++ e ∷ []) new) (sym c.in-Rea.is)
    (tallied_rea r.net.now r.codes seen old new k c.in-Rea.snapshot c.in-Rea.outcome code before
    after c.code.ensures.is h.at_tally (set_written old new k after h.low refl)
    c.react.ensures.widths c.react.ensures.tries c.react.ensures.steps c.react.ensures.few tallied)
