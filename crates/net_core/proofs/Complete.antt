-- Where nothing is owed and no machine is woken, the journal is complete.
use Rattle.std.specs.Prelude.{◌≡◌, ◌↔◌, ℕ, ◌<◌, Bool, false, not, ◌||◌, List, length, Option, Some, None, is_some, IsTrue}
use Rattle.std.proofs.Common.{refl, sym, ap, ◌∙◌}
use Rattle.std.proofs.lemmas.Bool.{or_parts, or_from, not-true, not_from_false}
use Rattle.polis_base.specs.Lists.{head_of}
use Rattle.transition_table.specs.declared.network.Network.{Network}
use Rattle.journals.specs.declared.entry.Entry.{Entry}
use Rattle.journals.specs.declared.entry.Owed.{Owed}
use Rattle.journals.specs.declared.entry.TraceItem.{TraceItem}
use Rattle.journals.specs.Journals.{is_woken}
use Rattle.journals.specs.Legality.{Legal, Complete}
use Rattle.journals.specs.Laws.{CompleteOwesNothing}
use Rattle.journals.specs.Schedules.{owed_by_machines, owed_by_env}

no_item : {X : Type 0} (o : Option X) → is_some o ≡ false → o ≡ None
no_item None h = refl
no_item (Some x) h = cc

pub complete_says : (net : Network) (trace : List TraceItem) (journal : List Entry) (a b c : Bool)
    → CompleteOwesNothing → Legal net trace journal
    → a ≡ is_some (head_of (owed_by_machines net journal))
    → b ≡ is_some (head_of (owed_by_env net trace journal))
    → (c ≡ false → (m : ℕ) → m < length net.machines → is_woken journal m ≡ false)
    → (((m : ℕ) → m < length net.machines → is_woken journal m ≡ false) → c ≡ false)
    → IsTrue (not (a || b || c)) ↔ Complete net trace journal
complete_says net trace journal a b c law legal owes env none all =
    let both = law net trace journal legal in (
      (λ h.
          let outer = or_parts (a || b) c (not-true (a || b || c) h) in
          let inner = or_parts a b outer.0 in
          both.1 (
            no_item (head_of (owed_by_machines net journal)) (sym owes ∙ inner.0),
            no_item (head_of (owed_by_env net trace journal)) (sym env ∙ inner.1),
            none outer.1,
          )),
      (λ complete.
          let nothing = both.0 complete in
          not_from_false (a || b || c)
          (or_from (a || b) c
          (or_from a b (owes ∙ ap (λ (o : Option Owed). is_some o) nothing.0)
          (env ∙ ap (λ (o : Option (Owed × Bool)). is_some o) nothing.1))
          (all nothing.2))),
    )
