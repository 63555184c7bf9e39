use Rattle.journals.proofs.ValueWords.{domain_in}
use Rattle.trace_text.proofs.Items.{item_fits}
use Rattle.trace_text.proofs.item.item_of_event.Goals as goal

pub code_of_word-requires : goal.code_of_word-requires
code_of_word-requires c =
    domain_in c.args.sent.now.net.now c.in-Some.e c.get.result.now c.get.ensures

pub returns-in-Some-code_of_word-clause-fits : goal.returns-in-Some-code_of_word-clause-fits
returns-in-Some-code_of_word-clause-fits c =
    let found = c.in-Some-code_of_word in
    item_fits c.args.sent.now.net.now c.args.name.now c.in-Some.e found.code c.get.result.now
    c.in-Some.ensures.below c.get.ensures c.in-Some.ensures.sent found.ensures.some
    found.ensures.few
