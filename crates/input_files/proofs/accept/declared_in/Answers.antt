use Rattle.std.proofs.Common.{subst, sym}
use Rattle.net_reader.specs.declared.raw.RawNet.{RawNet}
use Rattle.net_rules.specs.NetOf.{IsNetOf}
use Rattle.input_files.specs.Faults.{IfCause}
use Rattle.input_files.specs.Inputs.{IsNetFault}
use Rattle.input_files.specs.declared.accept.FileFault.{FileFault}
use Rattle.input_files.proofs.IsNetFault.{rule_fault}
use Rattle.input_files.proofs.accept.declared_in.Goals as goal

pub returns-in-Ok-resolve-clause-one : goal.returns-in-Ok-resolve-clause-one
returns-in-Ok-resolve-clause-one c = λ other is.
    c.in-Ok-resolve.ensures.only other
    (subst (λ (raw : RawNet). IsNetOf raw other) (c.in-Ok.ensures.ok.only is.0 is.1) is.2)

pub returns-in-Err-resolve-clause-failed : goal.returns-in-Err-resolve-clause-failed
returns-in-Err-resolve-clause-failed c =
    subst (λ (fault : FileFault). IfCause fault (IsNetFault c.args.text.now))
    (sym c.refusal_of.ensures)
    (rule_fault c.args.text.now c.in-Ok.raw c.in-Err-resolve.fault c.in-Ok.ensures.ok
    c.in-Err-resolve.ensures.fault)
