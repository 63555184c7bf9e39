use Rattle.commands.proofs.watch.watch_by_file.Goals as goal

pub returns-in-Ok-product_of-clause-made : goal.returns-in-Ok-product_of-clause-made
returns-in-Ok-product_of-clause-made g c = record {
  monitor = c.in-Ok.monitor;
  held = c.in-Ok.ensures.held;
  is = c.in-Ok-product_of.ensures;
}
