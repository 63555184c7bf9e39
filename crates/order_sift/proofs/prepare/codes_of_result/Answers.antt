use Rattle.std.proofs.Common.{◌≡◌, ◌∙◌, ◌+◌, ◌<◌, ◌++◌, ◌∷◌, [], ℕ, List, length, slice_index, arith, sym, ap, subst, length-append}
use Rattle.std.proofs.lemmas.Option.{get_or_from_slice_get}
use Rattle.domains.specs.Tables.{product}
use Rattle.transition_table.specs.Computed.{result_code}
use Rattle.order_sift.specs.inner.Classes.{snapshot_at}
use Rattle.order_sift.proofs.TableOutcomes.{pushed, code_low, codes_long, numbers_long, number_low, outcome_read}
use Rattle.order_sift.proofs.prepare.codes_of_result.Goals as goal

pub get-outcome-requires : goal.get-outcome-requires
get-outcome-requires c =
    let m = c.args.m.now in
    let t = c.args.table.now in
    let i = c.loop-i.i in
    let below = c.laws_below.ensures in
    let n = numbers_long m below t c.requires.table in
    let li : i < product m.vars = let a = c.loop-i-test.true in let b = c.len-i-end.ensures in
    omega arith in
    let is = get_or_from_slice_get t.numbers i c.get-number.result.now 0 c.get-number.ensures in
    let low = number_low m below t c.requires.table i li in
    omega arith

pub get-code-requires : goal.get-code-requires
get-code-requires c =
    let m = c.args.m.now in
    let t = c.args.table.now in
    let i = c.loop-i.i in
    let below = c.laws_below.ensures in
    let n = numbers_long m below t c.requires.table in
    let li : i < product m.vars = let a = c.loop-i-test.true in let b = c.len-i-end.ensures in
    omega arith in
    let is = outcome_read m below t c.requires.table i c.get-number.result.now
    c.get-outcome.result.now li c.get-number.ensures c.get-outcome.ensures in
    let long : length c.get-outcome.result.now ≡ length m.results =
    ap (λ (xs : List ℕ). length xs) is ∙ codes_long m below i li in
    let low = c.requires.result in
    omega arith

pub loop-i-preserved : goal.loop-i-preserved
loop-i-preserved c =
    let m = c.args.m.now in
    let t = c.args.table.now in
    let y = c.args.y in
    let i = c.loop-i.i in
    let old = c.loop-i.codes in
    let inv = c.loop-i.invariant in
    let below = c.laws_below.ensures in
    let n = numbers_long m below t c.requires.table in
    let li : i < product m.vars = let a = c.loop-i-test.true in let b = c.len-i-end.ensures in
    omega arith in
    let outcome = outcome_read m below t c.requires.table i c.get-number.result.now
    c.get-outcome.result.now li c.get-number.ensures c.get-outcome.ensures in
    let code : c.from.result ≡ result_code m y (snapshot_at m i) =
    c.from.ensures ∙ sym
    (get_or_from_slice_get c.get-outcome.result.now y c.get-code.result.now 0
    c.get-code.ensures) ∙ ap (λ (xs : List ℕ). slice_index xs y) outcome in
    let low = code_low m below y i c.len.ensures.sizes c.requires.result li in
    let ok = c.in_ok-push.ensures.ok in
    let long = inv.long in
    let more = length-append old (c.from.result ∷ []) in
    let at : result_code m y (snapshot_at m i) ≡ result_code m y (snapshot_at m (length old)) =
    ap (λ (k : ℕ). result_code m y (snapshot_at m k)) (sym long) in
    record {
      long = ap (λ (xs : List ℕ). length xs) ok
          ∙ (let e : length (old ++ c.from.result ∷ []) ≡ i + 1 = omega arith in e);
      below = subst (λ (xs : List ℕ). (k : ℕ) → k < length xs → slice_index xs k < 33) (sym ok)
          (λ k lk. pushed 0 (λ (k x : ℕ). x < 33) old c.from.result inv.below
          (let e : c.from.result < 33 = omega arith in e) k (omega arith));
      each = subst (λ (xs : List ℕ). (k : ℕ) → k < i + 1
          → slice_index xs k ≡ result_code m y (snapshot_at m k)) (sym ok)
          (λ k lk. pushed 0 (λ (k x : ℕ). x ≡ result_code m y (snapshot_at m k)) old c.from.result
          (λ k lk. inv.each k (omega arith)) (code ∙ at) k (omega arith));
    }
