use Rattle.std.proofs.Common.{◌≡◌, ◌∙◌, Bool, true, ap, sym}
use Rattle.std.specs.List.{list_all}
use Rattle.std.proofs.lemmas.Option.{slice_get-get_or}
use Rattle.std.specs.Prelude.{Some, get_or}
use Rattle.outcome_table.proofs.tail.tails_of.Goals as goal
use Rattle.polis_base.proofs.ListTests.{all_get}

pub returns : goal.returns
returns c =
    let fixed = c.args.fixed.now in
    let all : list_all (λ (b : Bool). b) fixed ≡ true =
    sym (c.are_all.ensures ∙ ap (list_all (λ (b : Bool). b)) c.as_slice.ensures)
    ∙ c.if-not-are_all.false in
    record {
      sets = λ low. c.in_ok-sets.ensures;
      plain = λ low r inside.
          let get = slice_get-get_or fixed r true inside in
          get ∙ ap (λ (b : Bool). Some b)
          (all_get (λ (b : Bool). b) fixed r (get_or fixed r true) all get);
    }
