use Rattle.commit_flush.proofs.BankFacts.{read_sees}
use Rattle.commit_flush.proofs.law.reads_go_through_banks.Goals as goal

pub returns : goal.returns
returns c = read_sees
