-- What a fault says of declarations.
use Rattle.std.specs.Prelude.{⊤}
use Rattle.net_reader.specs.declared.raw.RawNet.{RawNet}
use Rattle.net_rules.specs.declared.resolving.ResolveFault.{ResolveFault}
use Rattle.net_rules.specs.declared.resolving.ResolveFault.TheVariants as faults
use Rattle.rule_judge.specs.Judged.{Breaks}

-- the rule is the first that is broken, and the place its least
abbrev pub IsFaultOf : RawNet → ResolveFault → Type 0
IsFaultOf net (faults.Rule rule place) = Breaks net rule place
IsFaultOf net faults.NoMemory = ⊤
