use Rattle.std.proofs.Common.{◌↔◌, ◌++◌, ◌∷◌, [], List, sym, subst}
use Rattle.journals.specs.declared.entry.Pick.{Pick}
use Rattle.journals.specs.Legality.{Legal}
use Rattle.run_shuffle.specs.Moves.{IsOneOf}
use Rattle.run_shuffle.proofs.NextMoves.{all_gathered}
use Rattle.run_shuffle.proofs.moves.all_moves.Goals as goal

pub returns-clause-moves : goal.returns-clause-moves
returns-clause-moves c =
    let now = c.args.config.now in
    all_gathered now.net now.trace now.journal c.in_ok-moves.moves c.push_from_machines.new.moves
    c.push_reactions.new.moves c.in_ok-moves.ensures c.in_ok-push_from_machines.ensures
    c.in_ok-push_reactions.ensures

pub returns-clause-may_come : goal.returns-clause-may_come
returns-clause-may_come c entry fits =
    let now = c.args.config.now in
    subst
    (λ (l : List Pick). Legal now.net now.trace (now.journal ++ entry ∷ [])
    ↔ IsOneOf now.net now.journal l entry)
    (sym
    (all_gathered now.net now.trace now.journal c.in_ok-moves.moves
    c.push_from_machines.new.moves c.push_reactions.new.moves c.in_ok-moves.ensures
    c.in_ok-push_from_machines.ensures c.in_ok-push_reactions.ensures))
    (c.laws.ensures.all_moves now.net now.trace now.journal entry c.journal-journal.ensures.legal
    fits)
