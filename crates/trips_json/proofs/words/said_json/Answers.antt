use Rattle.std.proofs.Common.{◌∙◌, ap, map, rules, string_bytes}
use Rattle.std.specs.Prelude.{not}
use Rattle.std.proofs.lemmas.Fn.{filter_same}
use Rattle.trips_json.specs.Words.{is_asking}
use Rattle.trips_json.proofs.Turns.{words_left}
use Rattle.trips_json.proofs.words.said_json.Goals as goal

pub returns-clause-rest : goal.returns-clause-rest
returns-clause-rest c =
    ap (λ words. map (λ word. string_bytes word) words)
    (filter_same _ (λ word. not (is_asking (string_bytes word))) _ (λ x b f' k. search rules) _ _
    c.retain.ensures.filtered)
    ∙ words_left (λ word. string_bytes word) (λ word. not (is_asking word)) c.args.words.items
