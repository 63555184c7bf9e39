use Rattle.std.proofs.Common.{◌++◌}
use Rattle.std.specs.Iterator.Adapters.{zip_first, zip_second}
use Rattle.std.specs.Slice.Iter.{iter_rest}
use Rattle.journal_text.specs.inner.Texts.{output_lines}
use Rattle.journals.specs.Journals.{emitted}
use Rattle.journal_text.proofs.WrittenItems.{OutputsLeft}
use Rattle.journal_text.proofs.print.push_outputs.Given as goal

-- the lines so far are written
abbrev pub invariant-loop-event : goal.invariant-loop-event
invariant-loop-event l =
    OutputsLeft l.net (l.fn.into ++ output_lines l.net (emitted l.fn.events l.fn.codes)) l.into
    (iter_rest (zip_first l.event-iterator)) (iter_rest (zip_second l.event-iterator))
