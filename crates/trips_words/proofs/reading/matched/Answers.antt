use Rattle.std.proofs.Common.{◌∙◌, sym, ap, subst, map, List}
use Rattle.std.specs.Prelude.{string_bytes}
use Rattle.clap.specs.Simple.{App, HasMatchesOf}
use Rattle.clap.specs.Faults.{fault_of, is_simple_and_free}
use Rattle.clap.specs.Kinds.{HasKind}
use Rattle.trips_words.specs.inside.Read.{raw_app}
use Rattle.trips_requests.specs.Words.{Text}
use Rattle.trips_words.proofs.Matches.{last, parse_told, finds, tells_some, tells_none, texts_behind}
use Rattle.trips_words.proofs.reading.matched.Goals as goal

pub returns-in-Ok : goal.returns-in-Ok
returns-in-Ok c name options places r e =
    let words : List Text = map (λ word. string_bytes word) c.args.words.now in
    let simple = ap is_simple_and_free e ∙ r.simple in
    tells_some options places _ (fault_of (raw_app name options places) words) (last options places words)
    c.in-Ok.matches
    (parse_told name options places r words (texts_behind c.args.words.now))
    (ap (λ (a : App). fault_of a words) (sym e) ∙ c.in-Ok.ensures.kinds simple)
    (λ said q. finds name options places r words c.in-Ok.matches
    (subst (λ (a : App). HasMatchesOf a words c.in-Ok.matches) e c.in-Ok.ensures.matches) said q)

pub returns-in_ok-is_refusal-in-Err : goal.returns-in_ok-is_refusal-in-Err
returns-in_ok-is_refusal-in-Err c name options places r e =
    let words : List Text = map (λ word. string_bytes word) c.args.words.now in
    let simple = ap is_simple_and_free e ∙ r.simple in
    tells_none options places _ (fault_of (raw_app name options places) words) (last options places words)
    c.in-Err.error
    (parse_told name options places r words (texts_behind c.args.words.now))
    (subst (λ (a : App). HasKind (fault_of a words) c.in-Err.error) e (c.in-Err.ensures.kinds simple))
    c.in_ok-is_refusal-in-Err.ensures
