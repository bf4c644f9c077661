use Rattle.std.proofs.Common.{◌∙◌, ap₂}
use Rattle.trips_requests.specs.Words.{file_name}
use Rattle.trips_requests.specs.Requests.{request_with}
use Rattle.trips_requests.specs.Options.{options_of}
use Rattle.trips_words.proofs.CommandLemmas.{no_flag_file, found_said}
use Rattle.trips_words.proofs.asking.request_of.Goals as goal

pub returns : goal.returns
returns c said f =
    let k = c.args.command in
    let m = c.args.matches.now in
    c.request_with.ensures ∙ ap₂ (request_with k)
    (c.get_str.ensures ∙ found_said (options_of k) said m file_name f (no_flag_file k))
    (c.options_found.ensures said f)
