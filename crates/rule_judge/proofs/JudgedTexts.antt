-- The rules that texts break, computed.
use Rattle.std.proofs.Common.{◌≡◌, List, [], ◌∷◌, map, drop, Option, Some, None, is_some, unwrap_or, Result, Ok, Err, refl, ap, sym, true≢false}
use Rattle.polis_base.specs.Lists.{head_of}
use Rattle.polis_base.specs.Tokens.{tokens_of}
use Rattle.net_reader.specs.Reading.{only, word_at, num_at, value_at, many, after_comma, listed, names_at, range_at, shape_at, domain_at, from_env_at, to_env_at, env_at, typed_at, typed_part_at, event_at, state_at, absent_at, is_at, one_of_at, after_name_at, named_at, cond_at, plain_at, input_at, add_at, add_or_plain_at, after_value_at, sum_at, input_or_plain_at, input_or_sum_at, given_source_at, source_at, given_at, given_part_at, emit_at, set_at, act_at, nothing_at, acts_at, row_at, output_at, outputs_at, body_at, machine_at, net_at, end_at, whole_at}
use Rattle.net_reader.specs.inner.Outcomes.{outcome}
use Rattle.net_reader.specs.declared.raw.RawNet.{RawNet}
use Rattle.net_reader.specs.declared.network.NetFault.{NetFault}
use Rattle.net_reader.proofs.Sentences.{has_net}
use Rattle.rule_judge.specs.declared.verdict.Broken.{Broken}
use Rattle.rule_judge.specs.Judged.{broken}
use Rattle.rule_judge.specs.Samples.{Sample, IsJudged, AreJudged, samples}
use Rattle.polis_base.proofs.Places.{some_is}

-- the rule, where the text declares a network
abbrev found : Result RawNet NetFault → Option (Option Broken)
found (Ok net) = Some (broken net)
found (Err fault) = None

judged : (sample : Sample) → found (outcome sample.0) ≡ Some sample.1 → IsJudged sample
judged sample h = by (outcome sample.0) refl h
  where
    by : (r : Result RawNet NetFault) → outcome sample.0 ≡ r → found r ≡ Some sample.1
        → IsJudged sample
    by (Ok net) e k = (
      net,
      has_net sample.0 (tokens_of sample.0) net refl e,
      some_is (broken net) sample.1 k,
    )
    by (Err fault) e k = absurd (true≢false (sym (ap is_some k)))

all_judged : (list : List Sample)
    → map (λ (s : Sample). found (outcome s.0)) list ≡ map (λ (s : Sample). Some s.1) list
    → AreJudged list
all_judged [] h = tt
all_judged (sample ∷ list) h = (
  judged sample (ap (λ l. unwrap_or (head_of l) None) h),
  all_judged list (ap (drop 1) h),
)

pub worked : AreJudged samples
unfolding only word_at num_at value_at many after_comma listed names_at range_at shape_at domain_at
    from_env_at to_env_at env_at typed_at typed_part_at event_at state_at absent_at is_at one_of_at
    after_name_at named_at cond_at plain_at input_at add_at add_or_plain_at after_value_at sum_at
    input_or_plain_at input_or_sum_at given_source_at source_at given_at given_part_at emit_at
    set_at act_at nothing_at acts_at row_at output_at outputs_at body_at machine_at net_at end_at
    whole_at
worked = all_judged samples refl
