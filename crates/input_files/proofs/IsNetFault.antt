-- Why a network text isn't accepted.
use Rattle.std.proofs.Common.{◌≡◌, inr, ℕ, true, List, Option, Some, slice_get, IsTrue, refl, ap, subst, sym}
use Rattle.polis_base.specs.declared.limits.TheConstants.{TEXT_MAX}
use Rattle.polis_base.specs.Host.{Files, WhereTold}
use Rattle.net_reader.specs.Sentences.{HasNet, HasOnly}
use Rattle.net_reader.specs.declared.raw.RawNet.{RawNet}
use Rattle.transition_table.specs.declared.machine.Machine.{Machine}
use Rattle.transition_table.specs.declared.network.Network.{Network}
use Rattle.rule_judge.specs.Judged.{Breaks}
use Rattle.net_rules.specs.NetOf.{NetOf}
use Rattle.net_rules.specs.Resolved.{IsFaultOf}
use Rattle.net_rules.specs.declared.resolving.ResolveFault.{ResolveFault}
use Rattle.net_rules.specs.declared.resolving.ResolveFault.TheVariants as resolving
use Rattle.polis_words.specs.declared.cause.Cause.{Cause}
use Rattle.polis_words.specs.declared.cause.Cause.TheVariants.{Lex, Syntax, Rule, Conflict}
use Rattle.polis_words.specs.declared.status.Status.TheVariants.{Refused}
use Rattle.polis_words.specs.Lines.{cause_status}
use Rattle.input_files.specs.declared.accept.FileFault.{FileFault}
use Rattle.input_files.specs.declared.accept.FileFault.TheVariants as faults
use Rattle.input_files.specs.Accepted.{AreBefore, IsFirstConflict}
use Rattle.input_files.specs.Inputs.{HoldsText, IsNetFault, NetFails}
use Rattle.input_files.specs.Failures.{is_failure}
use Rattle.input_files.specs.inner.Accepted.{IsMachineFault, IsConflictFault}
use Rattle.input_files.specs.Faults.{IfCause, refusal_of}
use Rattle.polis_base.proofs.WhereTold.{told_from}

-- a fault for another reason
pub fault_from : (fault : FileFault) (P Q : Cause → Type 0) → ((cause : Cause) → P cause → Q cause)
    → IfCause fault P → IfCause fault Q
fault_from (faults.Cause cause) P Q f h = f cause h
fault_from faults.NoMemory P Q f h = tt

-- declarations that break a rule
pub rule_fault : (text : List ℕ) (raw : RawNet) (fault : ResolveFault) → HasOnly text raw
    → IsFaultOf raw fault → IfCause (refusal_of fault) (IsNetFault text)
rule_fault text raw (resolving.Rule rule place) declares breaks = (
  raw,
  declares.has,
  λ other has. subst (λ (net : RawNet). Breaks net rule place) (sym (declares.only other has))
      breaks,
)
rule_fault text raw resolving.NoMemory declares breaks = tt

-- the first machine with a conflict
pub first_fault : (raw : RawNet) (net : Network) (place : ℕ) (machine : Machine) (cause : Cause)
    → slice_get net.machines place ≡ Some machine → AreBefore net place
    → IsMachineFault raw net place machine cause → IsConflictFault raw net cause
first_fault raw net place machine (Conflict rows) there before h = (
  h.1,
  record {
    machine = machine;
    there = rw h.0 there;
    before = rw h.0 before;
    conflict = h.2;
  },
)
first_fault raw net place machine other there before h = absurd h

-- a conflict of the one network of a text
pub conflict_fault : (text : List ℕ) (raw : RawNet) (net : Network) (cause : Cause)
    → HasNet text raw → NetOf text net → ((other : Network) → NetOf text other → other ≡ net)
    → IsConflictFault raw net cause → IsNetFault text cause
conflict_fault text raw net (Conflict rows) reads has one fault = (
  raw,
  reads,
  fault.0,
  net,
  has,
  λ other is. subst (λ (n : Network). IsFirstConflict n rows) (sym (one other is)) fault.1,
)
conflict_fault text raw net other reads has one fault = absurd fault

-- a text with a fault is refused
pub fault_refuses : (text : List ℕ) (cause : Cause) → IsNetFault text cause
    → cause_status cause ≡ Refused
fault_refuses text (Lex kind place) fault = refl
fault_refuses text (Syntax place) fault = refl
fault_refuses text (Rule rule place) fault = refl
fault_refuses text (Conflict rows) fault = refl
fault_refuses text other fault = absurd fault

-- a network text is held under the name, and has a fault
pub net_faulty : (o : Option Files) (name text : List ℕ) (cause : Cause)
    → WhereTold o (λ files. HoldsText files TEXT_MAX name text) → IsNetFault text cause
    → cause_status cause ≡ Refused
    → (name ≡ name) × WhereTold o (λ files. NetFails files name cause)
    × IsTrue (is_failure true (cause_status cause))
net_faulty o name text cause held fault refused = (
  refl,
  told_from o (λ files. HoldsText files TEXT_MAX name text) _
      (λ files h. inr (text, h, fault)) held,
  ap (is_failure true) refused,
)
