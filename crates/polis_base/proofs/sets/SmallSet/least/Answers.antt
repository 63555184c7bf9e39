use Rattle.std.proofs.Common.{◌<◌, ◌^◌, ◌∙◌, ap, arith, rules, sym}
use Rattle.std.specs.Int.{bit_at}
use Rattle.std.proofs.lemmas.Nat.Bits.{bit_at-trailing_zeros}
use Rattle.std.specs.Int.{trailing_zeros, w64}
use Rattle.polis_base.specs.Lists.{head_of}
use Rattle.polis_base.specs.Sets.{members}
use Rattle.polis_base.proofs.SmallSets.{lowest_first}
use Rattle.polis_base.proofs.sets.SmallSet.least.Goals as goal

pub returns-clause-first : goal.returns-clause-first
returns-clause-first c =
    let fits : c.self.inside.bits < 2 ^ 64 = search rules in
    let some = c.requires in
    let is = c.self.view_is in
    ap (λ n. head_of (members n)) (sym c.self.view_is)
    ∙ lowest_first c.self.inside.bits (omega arith) fits

pub returns-clause-member : goal.returns-clause-member
returns-clause-member c =
    let fits : c.self.inside.bits < 2 ^ 64 = search rules in
    let some = c.requires in
    let is = c.self.view_is in
    let least = bit_at-trailing_zeros w64 c.self.inside.bits (omega arith) fits in
    ap (λ n. bit_at n (trailing_zeros w64 c.self.inside.bits)) (sym c.self.view_is) ∙ least.1

pub returns-clause-none_before : goal.returns-clause-none_before
returns-clause-none_before c j below =
    let fits : c.self.inside.bits < 2 ^ 64 = search rules in
    let some = c.requires in
    let is = c.self.view_is in
    let least = bit_at-trailing_zeros w64 c.self.inside.bits (omega arith) fits in
    ap (λ n. bit_at n j) (sym c.self.view_is) ∙ least.2 j below
