use Rattle.std.proofs.Common.{refl, sym, ap, ◌∙◌}
use Rattle.std.proofs.lemmas.Bool.{false≢true}
use Rattle.transition_table.specs.declared.decl.Party.{Party}
use Rattle.transition_table.specs.declared.decl.Party.TheVariants.{Env}
use Rattle.journals.specs.Journals.{same_party}
use Rattle.journals.proofs.DeliveredBeginsSent.{party_from_same}
use Rattle.run_watch.proofs.monitor.is_told.Goals as goal

pub returns-then-is_env : goal.returns-then-is_env
returns-then-is_env c = (
  λ told env. c.has_output.ensures.0 told,
  λ has. c.has_output.ensures.1
      (has
      (party_from_same c.args.event.now.sender Env
      (sym c.is_env.ensures ∙ c.if-is_env.true))),
)

pub returns : goal.returns
returns c = (
  λ yes env. absurd
      (false≢true
      (sym c.if-is_env.false ∙ c.is_env.ensures ∙ ap (λ (p : Party). same_party p Env) env)),
  λ has. refl,
)
