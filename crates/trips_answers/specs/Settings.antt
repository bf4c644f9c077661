-- How the work of a request is done, and the request of the code.
use Rattle.std.specs.Prelude.{ℕ}
use Rattle.trips_report.specs.declared.show.Show.{Show}
use Rattle.trips_answers.specs.declared.forms.Settings.{Settings}
use Rattle.trips_answers.specs.Request.{Request}

-- how a request's work is done within so many blocks or steps, where this is shown
abbrev pub settings_with : Request → ℕ → Show → Settings
settings_with q most show = record {
  placing = q.placing;
  unroll = q.unroll;
  seed = q.seed;
  conditions = q.conditions;
  most = most;
  show = show;
}

-- how the work of a request is done
abbrev pub settings_of : Request → Settings
settings_of q = settings_with q q.most q.show
