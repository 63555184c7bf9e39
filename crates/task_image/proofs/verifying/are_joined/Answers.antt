use Rattle.std.proofs.Common.{◌≡◌, Bool, true, false, List, ℕ, length, take, drop, ap, sym, ◌∙◌}
use Rattle.std.specs.Prelude.{◌&&◌}
use Rattle.domains.specs.Names.{is_same}
use Rattle.task_image.proofs.IsWalk.{joined_same}
use Rattle.task_image.proofs.verifying.are_joined.Goals as goal

pub returns-then-eq : goal.returns-then-eq
returns-then-eq c =
    let first = c.args.first.now in
    let second = c.args.second.now in
    let codes = c.args.codes.now in
    let j = joined_same first second codes c.if-codes-first.false in
    let front : is_same first (take (length first) codes) ≡ true =
    sym (ap (λ (w : List ℕ). is_same first w) c.split_at.ensures.front) ∙ sym c.eq.ensures
    ∙ c.if-eq.true in
    c.eq-then-eq.ensures ∙ ap (λ (w : List ℕ). is_same second w) c.split_at.ensures.back
    ∙ sym (ap (λ (t : Bool). t && is_same second (drop (length first) codes)) front) ∙ sym j

pub returns : goal.returns
returns c =
    let first = c.args.first.now in
    let second = c.args.second.now in
    let codes = c.args.codes.now in
    let j = joined_same first second codes c.if-codes-first.false in
    let front : is_same first (take (length first) codes) ≡ false =
    sym (ap (λ (w : List ℕ). is_same first w) c.split_at.ensures.front) ∙ sym c.eq.ensures
    ∙ c.if-eq.false in
    sym (j ∙ ap (λ (t : Bool). t && is_same second (drop (length first) codes)) front)
