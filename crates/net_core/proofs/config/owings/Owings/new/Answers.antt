use Rattle.std.proofs.Common.{ℕ, ◌/◌, [], ◌∷◌, ◌++◌, ap, ◌∙◌, arith}
use Rattle.net_core.specs.declared.config.emissions.Emission.{Emission}
use Rattle.net_core.specs.Emissions.{no_place}
use Rattle.net_core.proofs.FirstQueue.{first_queue, sentinel, table_more}
use Rattle.net_core.proofs.config.owings.Owings.new.Goals as goal

pub loop-from-init : goal.loop-from-init
loop-from-init c = record {
  records_are = c.new-records.ensures.items;
  last_are = c.new-last.ensures.items;
}

pub loop-from-preserved : goal.loop-from-preserved
loop-from-preserved c = record {
  records_are = table_more sentinel c.loop-from.from c.loop-from.records.items
      c.push.new.self.items c.loop-from.invariant.records_are
      (c.in_ok-push.ensures.items ∙ ap (λ (left : ℕ). let one : Emission = record {
        from = c.loop-from.from;
        event = 0;
        code = 0;
        left = left;
        next = no_place;
      } in
      c.loop-from.records.items ++ one ∷ []) c.empty.ensures);
  last_are = table_more (λ s. s) c.loop-from.from c.loop-from.last.items
      c.push-in-loop-from.new.self.items c.loop-from.invariant.last_are
      c.in_ok-push-2.ensures.items;
}

pub loop-key-init : goal.loop-key-init
loop-key-init c = c.new-cursors.ensures.items

pub loop-key-preserved : goal.loop-key-preserved
loop-key-preserved c =
    table_more (λ k. k / 64) c.loop-key.key c.loop-key.cursors.items
    c.push-in-loop-key.new.self.items c.loop-key.invariant c.in_ok-push-3.ensures.items

pub invariant_of-result : goal.invariant_of-result
invariant_of-result c =
    first_queue c.loop-from.records.items c.loop-key.cursors.items c.loop-from.last.items
    c.loop-from.from c.loop-key.key (omega arith) (omega arith)
    c.loop-from.invariant.records_are c.loop-from.invariant.last_are c.loop-key.invariant
