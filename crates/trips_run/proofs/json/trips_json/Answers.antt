use Rattle.trips_run.proofs.Objects.{object_written}
use Rattle.trips_run.proofs.json.trips_json.Goals as goal

pub returns-clause-answered : goal.returns-clause-answered
returns-clause-answered g c = object_written _ _ _ _ _ _ c.has_output.result _ c.in-Ok.answer.status
    c.in-Ok.answer.report.items _ c.has_output.ensures c.in-Ok.ensures.answer c.write_json.ensures.answered
