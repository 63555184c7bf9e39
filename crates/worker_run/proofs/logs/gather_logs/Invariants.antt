use Rattle.worker_run.proofs.logs.gather_logs.Given as goal

-- the network of all locked values is the reactor's
abbrev pub ghosts-gather_named : goal.ghosts-gather_named
ghosts-gather_named g a = record { net = g.R.Reactor.meaning a.r.now }
