use Rattle.trips_words.proofs.asking.request_by.Goals as goal

pub returns : goal.returns
returns c = c.request_found.ensures _ c.in_ok-found.ensures
