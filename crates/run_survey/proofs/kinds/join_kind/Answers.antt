use Rattle.std.proofs.Common.{◌≡◌, ℕ, List, [], ◌∷◌, ◌++◌, Option, Some, None, position, slice_set, refl, sym, ap, ◌∙◌, arith}
use Rattle.run_survey.specs.declared.told.Kind.{Kind}
use Rattle.run_survey.specs.Kinds.{most_kinds}
use Rattle.run_survey.specs.inner.Merging.{has_outputs, more}
use Rattle.run_survey.proofs.ToldApart.{told_found, told_new, told_other}
use Rattle.run_survey.proofs.kinds.join_kind.Goals.{After-place_of}
use Rattle.run_survey.proofs.kinds.join_kind.Goals as goal

-- where the kind is
here : (c : After-place_of) (k : Option ℕ) → c.place_of.result ≡ k
    → position (has_outputs c.args.next.now.outputs) c.args.kinds.now.items ≡ k
here c k is =
    ap (λ (l : List ℕ). position (has_outputs l) c.args.kinds.now.items)
    (sym c.as_slice.ensures)
    ∙ ap (position (has_outputs c.as_slice.result.now)) (sym c.deref.ensures.value)
    ∙ sym c.place_of.ensures ∙ is

pub returns-in-Some-clause-told : goal.returns-in-Some-clause-told
returns-in-Some-clause-told c = λ all told.
    let next = c.args.next.now in
    let k = c.in-Some.k in
    let place = here (goal.at.returns-in-Some-clause-told c).After-place_of (Some k) c.in-Some.is in
    told_found most_kinds all c.args.kinds.now.items c.args.others.now next c.index_mut.result.now k
    (slice_set c.args.kinds.now.items k (more c.index_mut.result.now next.count)) told place
    c.index_mut.ensures.value refl

pub returns-in_ok-push-in-None-clause-told : goal.returns-in_ok-push-in-None-clause-told
returns-in_ok-push-in-None-clause-told c = λ all told.
    told_new most_kinds all c.args.kinds.now.items c.args.others.now c.args.next.now
    c.push.new.self.items told
    (here (goal.at.returns-in_ok-push-in-None-clause-told c).After-place_of None c.in-None.is)
    (let len = c.len.ensures in let test = c.if-len-lt-KINDS.true in omega arith)
    (c.in_ok-push-in-None.ensures.items
    ∙ ap (λ (k : Kind). c.args.kinds.now.items ++ k ∷ []) c.in_ok-copy_of-in-None.ensures)

pub returns-else-len-lt-KINDS-clause-told : goal.returns-else-len-lt-KINDS-clause-told
returns-else-len-lt-KINDS-clause-told c = λ all told.
    told_other most_kinds all c.args.kinds.now.items c.args.others.now c.args.next.now
    (Some c.others_with.result) told
    (here (goal.at.returns-else-len-lt-KINDS-clause-told c).After-place_of None c.in-None.is)
    (let len = c.len.ensures in let test = c.if-len-lt-KINDS.false in omega arith)
    c.others_with.ensures
