use Rattle.commit_flush_spec.proofs.Fills.{slot_fills, read_fills}
use Rattle.commit_flush_spec.proofs.law.tokens_fill_their_places.Goals as goal

pub returns-clause-slots : goal.returns-clause-slots
returns-clause-slots c = slot_fills

pub returns-clause-reads : goal.returns-clause-reads
returns-clause-reads c = read_fills
