use Rattle.event_accounts.proofs.AllLossesCounted.{all_losses}
use Rattle.event_accounts.proofs.Balances.{accounts_balance, legal_balances, legal_reads}
use Rattle.event_accounts.proofs.law.laws.Goals as goal

pub returns : goal.returns
returns c = record {
  balance = accounts_balance;
  moments = legal_reads;
  legal = legal_balances;
  losses = all_losses;
}
