use Rattle.std.proofs.Common.{◌≡◌, ◌==◌, ℕ, zero, suc, false, arith, Bool, not, Option, Some, None, is_some, refl, ap, sym, ◌∙◌, length}
use Rattle.std.specs.Prelude.{option_map}
use Rattle.std.proofs.lemmas.Bool.{false≢true, ne_eqb}
use Rattle.polis_base.specs.Lists.{head_of}
use Rattle.net_core.specs.declared.answer.NextEnv.{NextEnv}
use Rattle.journals.specs.declared.entry.Owed.{Owed}
use Rattle.journals.specs.Journals.{is_woken}
use Rattle.net_core.proofs.Complete.{complete_says}
use Rattle.net_core.proofs.Wakings.{word_is_zero, zero_wakes_none}
use Rattle.net_core.proofs.config.tables.Tables.is_complete.Goals as goal

some_of : {X Y : Type 0} (f : X → Y) (o : Option X) → is_some o ≡ is_some (option_map f o)
some_of f None = refl
some_of f (Some x) = refl

zero_of : (w : ℕ) → not (w == 0) ≡ false → w ≡ 0
zero_of zero h = refl
zero_of (suc w) h =
    absurd (false≢true (sym h ∙ ap not (ne_eqb (suc w) 0 (λ e. absurd (omega arith)))))

pub returns : goal.returns
returns c = λ journal current.
    let net = c.args.net.now in
    let tables = c.args.self.now in
    let owed = c.first.ensures ∙ ap head_of current.owed_are in
    let env = c.next_env.ensures journal current in
    rw (c.none_of.ensures, c.is_empty.ensures)
    (complete_says net c.args.trace.now journal c.is_some-owes.result c.is_some-env.result
    (not (tables.woken == 0)) c.sending_laws.ensures.complete current.legal
    (c.is_some-owes.ensures ∙ ap (λ (o : Option Owed). is_some o) owed)
    (c.is_some-env.ensures ∙ some_of (λ (next : NextEnv). (next.owed, not next.ready))
    c.next_env.result ∙ ap (λ (o : Option (Owed × Bool)). is_some o) env)
    (λ off. zero_wakes_none tables.woken (length net.machines) (is_woken journal)
    current.woken_are (zero_of tables.woken off))
    (λ none. ap (λ w. not (w == 0))
    (word_is_zero tables.woken (length net.machines) (is_woken journal) current.woken_are
    current.no_others none)))
