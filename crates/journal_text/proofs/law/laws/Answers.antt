use Rattle.journal_text.proofs.ReadsBack.{plain_reads_back, stamped_reads_back, one_journal, one_stamped_journal, one_version, plain_prefix_faults, stamped_prefix_faults}
use Rattle.journal_text.proofs.ReadIsPrinted.{read_is_printed, stamped_read_is_printed}
use Rattle.journal_text.proofs.law.laws.Goals as goal

pub returns : goal.returns
returns c = record {
  reads_back = plain_reads_back c.laws.ensures.words;
  stamped_reads_back = stamped_reads_back c.laws.ensures.words;
  read_is_printed = read_is_printed;
  stamped_read_is_printed = stamped_read_is_printed;
  one_journal = one_journal c.laws.ensures.words;
  one_stamped_journal = one_stamped_journal c.laws.ensures.words;
  one_version = one_version c.laws.ensures.words;
  prefix_faults = plain_prefix_faults c.laws.ensures.words;
  stamped_prefix_faults = stamped_prefix_faults c.laws.ensures.words;
}
