use Rattle.std.proofs.Common.{subst, sym}
use Rattle.polis_words.specs.declared.requests.Request.{Request}
use Rattle.polis_cli.specs.Commands.{meaning}
use Rattle.commands.specs.Made.{IsMade}
use Rattle.polis_cli.proofs.top.make.Goals as goal

pub returns-in-OnNet-clause-made : goal.returns-in-OnNet-clause-made
returns-in-OnNet-clause-made g c =
    subst (λ (r : Request). IsMade (meaning r) (g.H.Host.files c.args.host.now)
    c.make_on_net.result) (sym c.in-OnNet.is) c.make_on_net.ensures.made

pub returns-in-FromNet-clause-made : goal.returns-in-FromNet-clause-made
returns-in-FromNet-clause-made g c =
    subst (λ (r : Request). IsMade (meaning r) (g.H.Host.files c.args.host.now)
    c.make_from_net.result) (sym c.in-FromNet.is) c.make_from_net.ensures.made

pub returns-in-Replay-clause-made : goal.returns-in-Replay-clause-made
returns-in-Replay-clause-made g c =
    subst (λ (r : Request). IsMade (meaning r) (g.H.Host.files c.args.host.now)
    c.make_replay.result) (sym c.in-Replay.is) c.make_replay.ensures.made

pub returns-in-OnJournal-clause-made : goal.returns-in-OnJournal-clause-made
returns-in-OnJournal-clause-made g c =
    subst (λ (r : Request). IsMade (meaning r) (g.H.Host.files c.args.host.now)
    c.make_on_journal.result) (sym c.in-OnJournal.is) c.make_on_journal.ensures.made

pub returns-in-FromJournal-clause-made : goal.returns-in-FromJournal-clause-made
returns-in-FromJournal-clause-made g c =
    subst (λ (r : Request). IsMade (meaning r) (g.H.Host.files c.args.host.now)
    c.make_from_journal.result) (sym c.in-FromJournal.is) c.make_from_journal.ensures.made

pub returns-in-Demo-clause-made : goal.returns-in-Demo-clause-made
returns-in-Demo-clause-made g c =
    subst (λ (r : Request). IsMade (meaning r) (g.H.Host.files c.args.host.now) c.make_demo.result)
    (sym c.in-Demo.is) (c.make_demo.ensures.made (g.H.Host.files c.args.host.now))

pub returns-in-Equiv-clause-made : goal.returns-in-Equiv-clause-made
returns-in-Equiv-clause-made g c =
    subst (λ (r : Request). IsMade (meaning r) (g.H.Host.files c.args.host.now)
    c.make_equiv.result) (sym c.in-Equiv.is) c.make_equiv.ensures.made

pub returns-in-Shuffle-clause-made : goal.returns-in-Shuffle-clause-made
returns-in-Shuffle-clause-made g c =
    subst (λ (r : Request). IsMade (meaning r) (g.H.Host.files c.args.host.now)
    c.make_shuffle.result) (sym c.in-Shuffle.is) c.make_shuffle.ensures.made

pub returns-in-Watch-clause-made : goal.returns-in-Watch-clause-made
returns-in-Watch-clause-made g c =
    subst (λ (r : Request). IsMade (meaning r) (g.H.Host.files c.args.host.now)
    c.make_watch.result) (sym c.in-Watch.is) c.make_watch.ensures.made

pub returns-in-Survey-clause-made : goal.returns-in-Survey-clause-made
returns-in-Survey-clause-made g c =
    subst (λ (r : Request). IsMade (meaning r) (g.H.Host.files c.args.host.now)
    c.make_survey.result) (sym c.in-Survey.is) c.make_survey.ensures.made

pub returns-in-Chart-clause-made : goal.returns-in-Chart-clause-made
returns-in-Chart-clause-made g c =
    subst (λ (r : Request). IsMade (meaning r) (g.H.Host.files c.args.host.now)
    c.make_chart.result) (sym c.in-Chart.is) c.make_chart.ensures.made
