-- Why what is drawn from a seed is accepted, and its run complete.
use Rattle.std.proofs.Common.{◌≡◌, ℕ, List, Ok, Err, sym, subst}
use Rattle.std.specs.Prelude.{Result}
use Rattle.polis_base.specs.declared.limits.TheConstants.{ENTRIES_MAX}
use Rattle.transition_table.specs.declared.network.Network.{Network}
use Rattle.journals.specs.declared.entry.TraceItem.{TraceItem}
use Rattle.journals.specs.Legality.{Complete}
use Rattle.journals.specs.Schedules.{IsSchedule}
use Rattle.trace_text.specs.declared.fault.TraceFault.{TraceFault}
use Rattle.trace_text.specs.declared.fault.TraceFault.TheVariants.{Line as FaultyLine}
use Rattle.trace_text.specs.declared.fault.TraceKind.{TraceKind}
use Rattle.trace_text.specs.Traces.{trace_of}
use Rattle.net_rules.specs.NetOf.{NetOf}
use Rattle.net_gen.specs.Whole.{AreWhole}
use Rattle.polis_words.specs.declared.cause.Cause.{Cause}
use Rattle.commands.specs.declared.run_result.RunResult.{RunResult}
use Rattle.input_files.specs.Accepted.{Accepted}
use Rattle.commands.specs.inner.Demo.{RunsWhole}
use Rattle.input_files.specs.Inputs.{IsNetFault}
use Rattle.input_files.proofs.InputsFail.{text_refused}
use Rattle.input_files.proofs.IsNetFault.{fault_refuses}
use Rattle.commands.proofs.IsRan.{alone_is_scheduled}

-- a text that is accepted has no fault
pub accepted_fault : (text : List ℕ) (net : Network) (cause : Cause) → Accepted text net
    → IsNetFault text cause → ⊥
accepted_fault text net cause a fault =
    text_refused text net cause (fault_refuses text cause fault) fault a

pub whole_fault : (text trace : List ℕ) (cause : Cause) → AreWhole text trace
    → IsNetFault text cause → ⊥
whole_fault text trace cause whole fault =
    accepted_fault text whole.net cause (whole.declared, whole.deterministic) fault

-- the network of the texts is the one that was read
one_net : (text trace : List ℕ) (net : Network) (whole : AreWhole text trace)
    → ((other : Network) → NetOf text other → other ≡ net) → whole.net ≡ net
one_net text trace net whole one = one whole.net whole.declared

reads : (text trace : List ℕ) (net : Network) (whole : AreWhole text trace)
    → ((other : Network) → NetOf text other → other ≡ net) → trace_of net trace ≡ Ok whole.trace
reads text trace net whole one =
    subst (λ (n : Network). trace_of n trace ≡ Ok whole.trace) (one_net text trace net whole one)
    whole.read

read_faulty : (r : Result (List TraceItem) TraceFault) (items : List TraceItem) (line : ℕ)
    (kind : TraceKind) → r ≡ Ok items → r ≡ Err (FaultyLine line kind) → ⊥
read_faulty r items line kind read fault = cc

-- no line of the trace text is at fault
pub whole_reads : (text trace : List ℕ) (net : Network) (line : ℕ) (kind : TraceKind)
    → AreWhole text trace → ((other : Network) → NetOf text other → other ≡ net)
    → trace_of net trace ≡ Err (FaultyLine line kind) → ⊥
whole_reads text trace net line kind whole one fault =
    read_faulty (trace_of net trace) whole.trace line kind (reads text trace net whole one) fault

pub one_trace : (r : Result (List TraceItem) TraceFault) (a b : List TraceItem) → r ≡ Ok a → r ≡ Ok b
    → a ≡ b
one_trace r a b p q = cc

-- what one worker runs is complete
pub whole_runs : (text trace : List ℕ) (net : Network) (items : List TraceItem)
    → AreWhole text trace → ((other : Network) → NetOf text other → other ≡ net)
    → trace_of net trace ≡ Ok items → RunsWhole net items
whole_runs text trace net items whole one read = λ ran r.
    let same = one_trace (trace_of net trace) whole.trace items (reads text trace net whole one)
    read in
    r.is.ends.1 (ends (one_net text trace net whole one) same ran
    (alone_is_scheduled ENTRIES_MAX net items ran r))
  where
    ends : whole.net ≡ net → whole.trace ≡ items → (ran : RunResult)
        → IsSchedule net items ENTRIES_MAX ran.journal → Complete net items ran.journal
    ends of same ran scheduled =
        subst (λ (n : Network). Complete n items ran.journal) of
        (subst (λ (t : List TraceItem). Complete whole.net t ran.journal) same
        (whole.complete ran.journal
        (subst (λ (n : Network). IsSchedule n whole.trace ENTRIES_MAX ran.journal) (sym of)
        (subst (λ (t : List TraceItem). IsSchedule net t ENTRIES_MAX ran.journal) (sym same)
        scheduled))))
