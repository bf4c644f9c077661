use Rattle.commit_flush.proofs.KeptFacts.{alone_kept, write_kept, fetch_kept, drop_kept, retire_kept}
use Rattle.commit_flush.proofs.law.frames_stay_kept.Goals as goal

pub returns-clause-alone : goal.returns-clause-alone
returns-clause-alone c = alone_kept

pub returns-clause-write : goal.returns-clause-write
returns-clause-write c = write_kept

pub returns-clause-fetch : goal.returns-clause-fetch
returns-clause-fetch c = fetch_kept

pub returns-clause-flush : goal.returns-clause-flush
returns-clause-flush c = drop_kept

pub returns-clause-commit : goal.returns-clause-commit
returns-clause-commit c = retire_kept
