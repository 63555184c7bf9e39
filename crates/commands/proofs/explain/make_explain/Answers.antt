use Rattle.std.proofs.Common.{subst, sym}
use Rattle.polis_words.specs.declared.requests.explain.Explain.{Explain}
use Rattle.commands.specs.Explain.{explain_meaning}
use Rattle.commands.specs.Made.{IsMade}
use Rattle.commands.proofs.explain.make_explain.Goals as goal

pub returns-in-Journal-clause-made : goal.returns-in-Journal-clause-made
returns-in-Journal-clause-made g c =
    subst (λ (e : Explain). IsMade (explain_meaning e) (g.H.Host.files c.args.host.now)
    c.make_replay.result) (sym c.in-Journal.is) c.make_replay.ensures.made
