use Rattle.std.proofs.Common.{◌≡◌, ℕ, List, [], ◌∷◌, ◌++◌, true, length, map, replicate, refl, sym, ap, ◌∙◌, arith}
use Rattle.polis_base.specs.Lists.{upto}
use Rattle.table_use.specs.inner.Walking.{differs, input_in, is_none}
use Rattle.table_use.specs.declared.finding.Found.{Found}
use Rattle.table_use.specs.declared.finding.InputLint.{InputLint}
use Rattle.table_use.proofs.Covered.{filled}
use Rattle.table_use.proofs.walk.nothing_walked.Goals as goal
use Rattle.polis_base.proofs.UptoPlaces.{map_upto}

pub loop-preserved : goal.loop-preserved
loop-preserved c =
    let m = c.args.machine.now in
    let k = c.loop.counter in
    let new : Found → InputLint = λ found. record { ignored = true; unused = found } in
    c.in_ok-push.ensures.items
    ∙ ap (λ (l : List InputLint). l ++ new c.none_found.result ∷ []) c.loop.invariant
    ∙ ap (λ (x : Found). map (input_in m []) (upto k) ++ new x ∷ []) c.none_found.ensures
    ∙ sym (map_upto (input_in m []) k)

pub returns : goal.returns
returns c =
    let m = c.args.machine.now in
    let end = c.len-end.ensures in
    let off = c.loop-test.false in
    let all : c.loop.counter ≡ length m.inputs = omega arith in
    record {
      fire = refl;
      jam = c.none_found-2.ensures;
      inputs = c.loop.invariant ∙ ap (λ (n : ℕ). map (input_in m []) (upto n)) all;
      states = c.in_ok-filled.ensures
          ∙ ap (λ (n : ℕ). replicate n true) c.len.ensures
          ∙ filled (λ x. is_none m (differs m x) []) (length m.states) true (λ x. refl);
    }
