use Rattle.std.proofs.Common.{◌≡◌, ◌<◌, ◌&&◌, ℕ, true, List, length, slice_index, arith, ap, subst, ◌∙◌}
use Rattle.std.specs.List.{list_all}
use Rattle.std.proofs.lemmas.Bool.{and_parts, false≢true}
use Rattle.transition_table.specs.declared.machine.Machine.{Machine}
use Rattle.transition_table.specs.declared.row.Act.{Act}
use Rattle.transition_table.specs.declared.row.Row.{Row}
use Rattle.transition_table.specs.MachineFacts.{has_present, is_row, names_codes, names_result}
use Rattle.transition_table.specs.Transitions.{code_given}
use Rattle.determinism.specs.declared.pair.Pair.{Pair}
use Rattle.determinism.specs.inner.Pairs.{Agree, HangsOn}
use Rattle.determinism.proofs.LeastCodes.{only_before, only_one}
use Rattle.determinism.proofs.difference.least_difference.Goals as goal

-- the actions of a row name results
acts_named : (m : Machine) (row : Row) (acts : List Act) → acts ≡ row.acts
    → is_row m.inputs m.vars m.results row ≡ true
    → list_all (names_result m.inputs m.vars m.results) acts ≡ true
acts_named m row acts is h =
    let a = list_all (names_codes m.vars) row.conds in
    let b = list_all (names_result m.inputs m.vars m.results) row.acts in
    let d = list_all (λ act. has_present row.conds act.source) row.acts in
    ap (list_all (names_result m.inputs m.vars m.results)) is
    ∙ (and_parts a b (and_parts (a && b) d h).0).1

-- what the actions give the result depends on one variable
abbrev GivesBy : Machine → ℕ → List Act → ℕ → Type 0
GivesBy m y acts u = (codes others : List ℕ) → slice_index codes u ≡ slice_index others u
    → code_given m codes acts y ≡ code_given m others acts y

hangs : (pair : Pair) (y u v i j : ℕ) (first second : List Act) → first ≡ pair.first.now.acts
    → second ≡ pair.second.now.acts → GivesBy pair.machine.now y first i
    → GivesBy pair.machine.now y second j → v < length pair.sets.now
    → ((codes others : List ℕ) → slice_index codes u ≡ slice_index others u
    → slice_index codes v ≡ slice_index others v
    → (slice_index codes i ≡ slice_index others i) × (slice_index codes j ≡ slice_index others j))
    → HangsOn pair y u v
hangs pair y u v i j first second first_is second_is by_first by_second there both =
    let m = pair.machine.now in
    record {
      there = there;
      of_first = λ codes others at_u at_v.
          subst (λ (acts : List Act). code_given m codes acts y ≡ code_given m others acts y)
          first_is (by_first codes others (both codes others at_u at_v).0);
      of_second = λ codes others at_u at_v.
          subst (λ (acts : List Act). code_given m codes acts y ≡ code_given m others acts y)
          second_is (by_second codes others (both codes others at_u at_v).1);
    }

pub returns-then-same_source-clause-long : goal.returns-then-same_source-clause-long
returns-then-same_source-clause-long c = c.requires.long

pub returns-then-same_source-clause-some : goal.returns-then-same_source-clause-some
returns-then-same_source-clause-some c = λ h. absurd (false≢true h)

pub returns-then-same_source-clause-none : goal.returns-then-same_source-clause-none
returns-then-same_source-clause-none c = λ h t there differ.
    differ (c.same_source.ensures c.if-same_source.true c.args.pair.now.machine.now t)

pub write_least-requires-clause-some : goal.write_least-requires-clause-some
write_least-requires-clause-some c = c.args.pair.now.some

pub write_least-requires-clause-long : goal.write_least-requires-clause-long
write_least-requires-clause-long c = c.requires.long

pub differ-requires : goal.differ-requires
differ-requires c = record {
  snapshot = (c.args.pair.now.area.inside _ c.write_least.ensures.inside).snapshot;
}

pub returns-then-len-eq0-clause-long : goal.returns-then-len-eq0-clause-long
returns-then-len-eq0-clause-long c = c.write_least.ensures.inside.long

pub returns-then-len-eq0-clause-some : goal.returns-then-len-eq0-clause-some
returns-then-len-eq0-clause-some c = λ h.
    let none : length c.args.pair.now.sets.now ≡ 0 = let a = c.if-len-eq0.true in
    let b = c.len.ensures in omega arith in
    let inside = c.write_least.ensures.inside in
    record {
      inside = inside;
      differ = c.differ.ensures.differ h;
      least = λ t there differ.
          only_before c.args.pair.now.sets.now c.write_least.new.codes t none inside there;
    }

pub returns-then-len-eq0-clause-none : goal.returns-then-len-eq0-clause-none
returns-then-len-eq0-clause-none c = λ h t there differ.
    let none : length c.args.pair.now.sets.now ≡ 0 = let a = c.if-len-eq0.true in
    let b = c.len.ensures in omega arith in
    differ (subst (Agree c.args.pair.now c.args.y)
    (only_one c.args.pair.now.sets.now c.write_least.new.codes t none
    c.write_least.ensures.inside there) (c.differ.ensures.same h))

pub read_by-u-requires-clause-actions : goal.read_by-u-requires-clause-actions
read_by-u-requires-clause-actions c =
    acts_named c.args.pair.now.machine.now c.args.pair.now.first.now c.as_slice.result.now
    c.as_slice.ensures c.args.pair.now.first_row

pub read_by-v-requires-clause-actions : goal.read_by-v-requires-clause-actions
read_by-v-requires-clause-actions c =
    acts_named c.args.pair.now.machine.now c.args.pair.now.second.now c.as_slice-2.result.now
    c.as_slice-2.ensures c.args.pair.now.second_row

pub first_pair-requires-clause-reads : goal.first_pair-requires-clause-reads
first_pair-requires-clause-reads c =
    let pair = c.args.pair.now in
    hangs pair c.args.y c.read_by-u.result c.read_by-v.result c.read_by-u.result
    c.read_by-v.result c.as_slice.result.now c.as_slice-2.result.now c.as_slice.ensures
    c.as_slice-2.ensures c.read_by-u.ensures.only c.read_by-v.ensures.only
    (let a = c.read_by-v.ensures.there in let b = pair.area.long in omega arith)
    (λ codes others at_u at_v. (at_u, at_v))

pub first_pair-requires-clause-inside : goal.first_pair-requires-clause-inside
first_pair-requires-clause-inside c = c.write_least.ensures

pub returns-then-u-v-clause-long : goal.returns-then-u-v-clause-long
returns-then-u-v-clause-long c = c.first_pair.ensures.inside.long

pub returns-then-u-v-clause-some : goal.returns-then-u-v-clause-some
returns-then-u-v-clause-some c = c.first_pair.ensures.some

pub returns-then-u-v-clause-none : goal.returns-then-u-v-clause-none
returns-then-u-v-clause-none c = c.first_pair.ensures.none

pub first_pair-requires-then-v-u-clause-reads : goal.first_pair-requires-then-v-u-clause-reads
first_pair-requires-then-v-u-clause-reads c =
    let pair = c.args.pair.now in
    hangs pair c.args.y c.read_by-v.result c.read_by-u.result c.read_by-u.result
    c.read_by-v.result c.as_slice.result.now c.as_slice-2.result.now c.as_slice.ensures
    c.as_slice-2.ensures c.read_by-u.ensures.only c.read_by-v.ensures.only
    (let a = c.read_by-u.ensures.there in let b = pair.area.long in omega arith)
    (λ codes others at_v at_u. (at_u, at_v))

pub first_pair-requires-then-v-u-clause-inside : goal.first_pair-requires-then-v-u-clause-inside
first_pair-requires-then-v-u-clause-inside c = c.write_least.ensures

pub returns-then-v-u-clause-long : goal.returns-then-v-u-clause-long
returns-then-v-u-clause-long c = c.first_pair-then-v-u.ensures.inside.long

pub returns-then-v-u-clause-some : goal.returns-then-v-u-clause-some
returns-then-v-u-clause-some c = c.first_pair-then-v-u.ensures.some

pub returns-then-v-u-clause-none : goal.returns-then-v-u-clause-none
returns-then-v-u-clause-none c = c.first_pair-then-v-u.ensures.none

pub first_single-requires-clause-reads : goal.first_single-requires-clause-reads
first_single-requires-clause-reads c =
    let pair = c.args.pair.now in
    let u = c.read_by-u.result in
    let v = c.read_by-v.result in
    let same : v ≡ u = let a = c.if-u-v.false in let b = c.if-v-u.false in omega arith in
    hangs pair c.args.y v v u v c.as_slice.result.now c.as_slice-2.result.now c.as_slice.ensures
    c.as_slice-2.ensures c.read_by-u.ensures.only c.read_by-v.ensures.only
    (let a = c.read_by-v.ensures.there in let b = pair.area.long in omega arith)
    (λ codes others at other. (
      subst (λ (k : ℕ). slice_index codes k ≡ slice_index others k) same at,
      at,
    ))

pub first_single-requires-clause-inside : goal.first_single-requires-clause-inside
first_single-requires-clause-inside c = c.write_least.ensures

pub returns-clause-long : goal.returns-clause-long
returns-clause-long c = c.first_single.ensures.inside.long

pub returns-clause-some : goal.returns-clause-some
returns-clause-some c = c.first_single.ensures.some

pub returns-clause-none : goal.returns-clause-none
returns-clause-none c = c.first_single.ensures.none
