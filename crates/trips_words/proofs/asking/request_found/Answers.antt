use Rattle.std.proofs.Common.{subst, Option, option_map}
use Rattle.clap.specs.declared.parser.matches.ArgMatches.{ArgMatches}
use Rattle.trips_requests.specs.inside.Requests.{request_seen}
use Rattle.trips_requests.specs.Options.{options_of}
use Rattle.trips_words.specs.inside.Read.{Tells}
use Rattle.trips_words.proofs.CommandLemmas.{told_some, told_none}
use Rattle.trips_words.proofs.asking.request_found.Goals as goal

pub returns-in-None : goal.returns-in-None
returns-in-None c said t = told_none c.args.command said
    (subst (λ (f : Option ArgMatches). Tells (options_of c.args.command) said f) c.in-None.is t)

pub returns-in-Some : goal.returns-in-Some
returns-in-Some c said t = told_some c.args.command said c.in-Some.matches
    (option_map request_seen c.request_of.result)
    (subst (λ (f : Option ArgMatches). Tells (options_of c.args.command) said f) c.in-Some.is t)
    c.request_of.ensures
