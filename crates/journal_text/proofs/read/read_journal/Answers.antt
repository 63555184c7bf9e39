use Rattle.journal_text.proofs.GivesOrRefuses.{is_printed, was_read, was_refused}
use Rattle.journal_text.proofs.read.read_journal.Goals as goal

pub returns-clause-printed : goal.returns-clause-printed
returns-clause-printed c =
    is_printed c.laws.ensures.read_is_printed c.laws.ensures.stamped_read_is_printed c.args.net.now
    c.args.text.now c.read_text-read.result c.read_text-read.ensures.ok

pub returns-clause-reads : goal.returns-clause-reads
returns-clause-reads c =
    was_read c.laws.ensures.reads_back c.laws.ensures.stamped_reads_back c.args.net.now
    c.keep_names.ensures c.args.text.now c.read_text-read.result c.read_text-read.ensures.ok
    c.read_text-read.ensures.fault

pub returns-clause-prefix : goal.returns-clause-prefix
returns-clause-prefix c =
    was_refused c.laws.ensures.prefix_faults c.laws.ensures.stamped_prefix_faults c.args.net.now
    c.keep_names.ensures c.args.text.now c.read_text-read.result c.read_text-read.ensures.ok
    c.read_text-read.ensures.fault
