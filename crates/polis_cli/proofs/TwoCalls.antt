-- What two calls write is what is so of their products.
use Rattle.std.proofs.Common.{ℕ, List, subst}
use Rattle.polis_words.specs.declared.requests.Request.{Request}
use Rattle.polis_words.proofs.OneRequest.{one_request}
use Rattle.polis_base.proofs.WhereTold.{changes_some}
use Rattle.polis_cli.specs.Calls.{EndedCall}
use Rattle.polis_cli.specs.Commands.{meaning}
use Rattle.polis_cli.specs.OneProduct.{OfTexts, ProductsOfTexts}
use Rattle.polis_cli.specs.Top.{MadeAndWritten}

-- what a call that ended made and wrote
pub written : (request : Request) (call : EndedCall request)
    → MadeAndWritten call.status call.words call.before call.now call.old.shown call.new.shown
written request call = changes_some call.old.files call.new.files call.before call.now
    (λ was is. MadeAndWritten call.status call.words was is call.old.shown call.new.shown)
    call.told.0 call.told.1 (call.answers.ended call.ends).made

-- it is made of what was asked for
pub asked_made : (request : Request) (call : EndedCall request)
    → (meaning request).makes call.before (written request call).product
asked_made request call =
    let wrote = written request call in
    subst (λ (r : Request). (meaning r).makes call.before wrote.product)
    (one_request call.words wrote.request request wrote.asked call.asks) wrote.made

-- so what holds of all products of a form holds of all calls of it
pub of_texts : {W X : Type 0} (asks : W → Request) (names : W → List (List ℕ)) (says : W → X)
    (stem : W → List ℕ) → ProductsOfTexts asks names says stem → OfTexts asks names says stem
of_texts asks names says stem one = record {
  products = one;
  calls = λ x y a b texts same.
      let p = written (asks x) a in
      let q = written (asks y) b in
      let both = one x y a.before b.before p.product q.product texts same
      (asked_made (asks x) a) (asked_made (asks y) b) in
      (both.0, (p, both.1), (q, both.2));
}
