use Rattle.std.proofs.Common.{◌≡◌, drop, map, string_bytes}
use Rattle.trips_json.specs.Words.{is_json}
use Rattle.trips_json.proofs.words.is_json.Given as goal

-- no word so far asks for it
abbrev pub invariant-loop-word : goal.invariant-loop-word
invariant-loop-word l = is_json (map (λ word. string_bytes word) l.words)
    ≡ is_json (map (λ word. string_bytes word) (drop l.word-index l.words))
