use Rattle.trips_explain_answers.proofs.further.+put_further.Given as goal

abbrev pub decreases-put_further : goal.decreases-put_further
decreases-put_further l = l.left
