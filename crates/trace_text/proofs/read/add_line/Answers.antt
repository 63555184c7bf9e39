use Rattle.std.proofs.Common.{◌≡◌, ◌<◌, ◌≤◌, ◌+◌, ℕ, true, List, [], ◌∷◌, ◌++◌, Option, Some, Result, Ok, Err, length, refl, sym, ◌∙◌, ap, arith}
use Rattle.std.specs.List.{list_all}
use Rattle.std.proofs.lemmas.Bool.{lt-ltb, le-ltb, and_from}
use Rattle.std.proofs.lemmas.List.{length-append}
use Rattle.polis_base.proofs.Lists.{all_append}
use Rattle.polis_base.specs.declared.limits.TheConstants.{TRACE_ITEMS_MAX}
use Rattle.transition_table.specs.declared.network.Network.{Network}
use Rattle.journals.specs.Journals.{IsTrace, is_trace_item}
use Rattle.journals.specs.declared.entry.TraceItem.{TraceItem}
use Rattle.trace_text.specs.Traces.{added}
use Rattle.trace_text.specs.declared.fault.TraceFault.{TraceFault}
use Rattle.trace_text.specs.declared.fault.TraceFault.TheVariants.{Line, NoMemory}
use Rattle.trace_text.specs.declared.fault.TraceKind.{TraceKind}
use Rattle.trace_text.specs.declared.fault.TraceKind.TheVariants.{Many}
use Rattle.trace_text.proofs.read.add_line.Goals as goal

same_fault : {A : Type 0} (x y : TraceFault) → ◌≡◌ {A = Result A TraceFault} (Err x) (Err y)
    → x ≡ y
same_fault x y e = cc

ok_is_no_fault : {A : Type 0} {C : Type 0} (a : A) (x : TraceFault)
    → ◌≡◌ {A = Result A TraceFault} (Ok a) (Err x) → C
ok_is_no_fault a x e = absurd cc

adds : (items after : List TraceItem) (line : ℕ) (item : TraceItem)
    (r : Result (Option TraceItem) TraceKind)
    → Ok (Some item) ≡ r → length items < TRACE_ITEMS_MAX → after ≡ items ++ item ∷ []
    → added items line r ≡ Ok after
adds items after line item r p few is =
    let below = lt-ltb (length items) TRACE_ITEMS_MAX few in rw (sym p, below, is) refl

is_full : (items : List TraceItem) (line : ℕ) (item : TraceItem)
    (r : Result (Option TraceItem) TraceKind)
    → Ok (Some item) ≡ r → TRACE_ITEMS_MAX ≤ length items
    → added items line r ≡ Err (Line line Many)
is_full items line item r p many =
    let full = le-ltb (length items) TRACE_ITEMS_MAX many in rw (sym p, full) refl

one_more : (items after : List TraceItem) (item : TraceItem) → after ≡ items ++ item ∷ []
    → length items < TRACE_ITEMS_MAX → length after ≤ TRACE_ITEMS_MAX
one_more items after item is few =
    let long : length after ≡ length items + 1 =
    ap length is ∙ length-append items (item ∷ []) in
    omega arith

still_fits : (net : Network) (items after : List TraceItem) (item : TraceItem)
    → after ≡ items ++ item ∷ [] → IsTrace net items → is_trace_item net item ≡ true
    → IsTrace net after
still_fits net items after item is fit good =
    ap (list_all (is_trace_item net)) is
    ∙ all_append (is_trace_item net) items (item ∷ []) fit (and_from _ _ good refl)

pub returns-in-Err-clause-fault : goal.returns-in-Err-clause-fault
returns-in-Err-clause-fault c = λ fault e other.
    ap (added c.args.trace.now c.args.line) (sym c.in-Err.ensures.item)
    ∙ ap Err (same_fault (Line c.args.line c.in-Err.kind) fault e)

pub returns-in-Ok-None-clause-ok : goal.returns-in-Ok-None-clause-ok
returns-in-Ok-None-clause-ok c =
    ap (added c.args.trace.now c.args.line)
    (sym (rw c.in-Ok-None.field-0-is at c.in-Ok-None.ensures.item))

pub returns-in-Ok-None-clause-fault : goal.returns-in-Ok-None-clause-fault
returns-in-Ok-None-clause-fault c = λ fault e other. ok_is_no_fault _ _ e

pub returns-in-Ok-None-clause-few : goal.returns-in-Ok-None-clause-few
returns-in-Ok-None-clause-few c = c.requires.few

pub returns-in-Ok-None-clause-fits : goal.returns-in-Ok-None-clause-fits
returns-in-Ok-None-clause-fits c = c.requires.fits

pub returns-in-Err-push-clause-fault : goal.returns-in-Err-push-clause-fault
returns-in-Err-push-clause-fault c = λ fault e other.
    absurd (other (sym (same_fault NoMemory fault e)))

pub returns-in-Ok-clause-fault : goal.returns-in-Ok-clause-fault
returns-in-Ok-clause-fault c = λ fault e other. ok_is_no_fault _ _ e

pub returns-in-Ok-clause-ok : goal.returns-in-Ok-clause-ok
returns-in-Ok-clause-ok c =
    adds c.args.trace.now c.push.new.self c.args.line c.in-Ok-Some.item _
    (rw c.in-Ok-Some.field-0-is at c.in-Ok-Some.ensures.item) (omega arith) c.in-Ok.ensures.ok

pub returns-in-Ok-clause-few : goal.returns-in-Ok-clause-few
returns-in-Ok-clause-few c =
    one_more c.args.trace.now c.push.new.self c.in-Ok-Some.item c.in-Ok.ensures.ok (omega arith)

pub returns-in-Ok-clause-fits : goal.returns-in-Ok-clause-fits
returns-in-Ok-clause-fits c =
    still_fits c.args.sent.now.net.now c.args.trace.now c.push.new.self c.in-Ok-Some.item
    c.in-Ok.ensures.ok c.requires.fits (rw c.in-Ok-Some.field-0-is at c.in-Ok-Some.ensures.fits)

pub returns-else-len-lt-TRACE_ITEMS_MAX-clause-fault : goal.returns-else-len-lt-TRACE_ITEMS_MAX-clause-fault
returns-else-len-lt-TRACE_ITEMS_MAX-clause-fault c = λ fault e other.
    is_full c.args.trace.now c.args.line c.in-Ok-Some.item _
    (rw c.in-Ok-Some.field-0-is at c.in-Ok-Some.ensures.item) (omega arith)
    ∙ ap Err (same_fault (Line c.args.line Many) fault e)
