use Rattle.std.proofs.Common.{◌≡◌, ℕ, List, [], ◌∷◌, ◌++◌, length, get_or, set, ap, sym, subst, ◌∙◌, arith}
use Rattle.std.proofs.lemmas.List.{get_or_default}
use Rattle.net_core.specs.declared.config.emissions.Emission.{Emission}
use Rattle.net_core.specs.Emissions.{nth, no_emission, waiting, IsMore}
use Rattle.net_core.proofs.IsQueue.{linked_more}
use Rattle.net_core.proofs.config.emissions.link.Goals as goal

pub returns-clause-more : goal.returns-clause-more
returns-clause-more c =
    let records = c.args.records.now.items in
    let last = c.args.last.now.items in
    let r = c.args.r in
    let n = c.len-n.result in
    let p = c.index-before.result.now in
    let e = c.index-earlier.result.now in
    let size : n ≡ length records = omega arith in
    let long = c.requires.chain.long in
    let small = c.requires.loose.0 in
    let before : p ≡ get_or last r.from 0 =
    c.index-before.ensures ∙ get_or_default last r.from p 0 (omega arith) in
    let own = c.requires.chain.own r.from small in
    let inside = own.0 in
    let earlier : e ≡ nth records p = c.index-earlier.ensures
    ∙ get_or_default records p e no_emission (omega arith) in
    let q : Emission =
    record { from = e.from; event = e.event; code = e.code; left = e.left; next = n } in
    let made : q ≡ record (nth records (get_or last r.from 0)) { next = length records } =
    ap (λ (k : ℕ). let with_next : Emission = record
    { from = e.from; event = e.event; code = e.code; left = e.left; next = k } in
    with_next) size
    ∙ ap (λ (x : Emission). let with_next : Emission = record x { next = length records } in
    with_next) (earlier ∙ ap (λ k. nth records k) before) in
    let more = linked_more records last q r c.requires.chain small c.requires.loose.2
    c.requires.few c.requires.loose.1 made in
    subst (λ (l : List Emission). IsMore records last l (set last r.from n) (waiting r))
    (sym c.in-Ok.ensures.items)
    (subst (λ (k : ℕ). IsMore records last (set records p q ++ r ∷ []) (set last r.from k)
    (waiting r)) (sym size)
    (subst (λ (k : ℕ). IsMore records last (set records k q ++ r ∷ [])
    (set last r.from (length records)) (waiting r)) (sym before) more))
