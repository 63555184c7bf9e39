use Rattle.commands.proofs.DemoMeaning.{demo_made}
use Rattle.commands.proofs.demo.make_demo.Goals as goal

pub returns-in-Ok-clause-made : goal.returns-in-Ok-clause-made
returns-in-Ok-clause-made c = λ told.
    demo_made told c.args.asked.now c.in-Ok.product c.in-Ok.ensures
