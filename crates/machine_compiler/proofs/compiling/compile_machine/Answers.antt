use Rattle.machine_compiler.proofs.compiling.compile_machine.Goals as goal

pub returns : goal.returns
returns c =
    let m = c.args.m.now in
    let g = c.in_ok-graph.graph in
    let code = c.in_ok-code.code in
    let of_machine = c.in_ok-graph.ensures.of_machine in
    let kept = c.keep_graph.ensures in
    let lowered = c.in_ok-code.ensures.lowered in
    record {
      sifted = c.in_ok-sifted.ensures.sifted;
      is_graph = kept.graph;
      few = kept.few;
      bytes = kept.bytes;
      of_machine = of_machine;
      no_defaults = c.in_ok-graph.ensures.defaults;
      lowered = lowered;
      is_code = c.len.ensures.code;
      code_fits = c.laws.ensures.lowered_fits m g code lowered of_machine.fits_machine;
      computes = c.laws.ensures.lowered_computes m g code kept.graph of_machine.numbered lowered
          of_machine.evaluates;
      once_code = c.in_ok-code.ensures.once of_machine.once;
      steps = λ s fit. c.laws.ensures.few_steps m g code s kept.graph of_machine.numbered
          of_machine.once of_machine.fits_machine lowered;
    }
