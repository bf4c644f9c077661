-- Beside what is believed of Settings.antt: how the work of a request is done, and the request of the code.
use Rattle.trips_requests.specs.declared.commands.Asked.{Asked}
use Rattle.trips_requests.specs.inside.Requests as line
use Rattle.trips_answers.specs.Request.{planned, Request}

-- a request of the code
abbrev pub request_seen : Asked → Request
request_seen request = planned (line.request_seen request)
