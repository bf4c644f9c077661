use Rattle.std.proofs.Common.{◌≡◌, ℕ, Option, List, None, Some, true, false, length, set, ap, sym, ◌∙◌, arith}
use Rattle.std.proofs.Math.ListN.{length-set}
use Rattle.c_meaning.proofs.InPlace.{length-values, values_set, values_unset}
use Rattle.c_meaning.proofs.few.Few.put.Goals as goal

pub returns-in-None-clause-after : goal.returns-in-None-clause-after
returns-in-None-clause-after c =
    values_unset c.self.inside.is_set c.self.inside.words c.args.at
    ∙ (ap (λ (xs : List (Option ℕ)). set xs c.args.at None) c.self.view_is
    ∙ ap (λ (v : Option ℕ). set c.args.self.now c.args.at v) (sym c.in-None.is))

pub returns-in-None-clause-size : goal.returns-in-None-clause-size
returns-in-None-clause-size c =
    let e : length (set c.self.inside.is_set c.args.at false) ≡ length c.self.inside.is_set
    = length-set c.self.inside.is_set c.args.at false in
    length-values (set c.self.inside.is_set c.args.at false) c.self.inside.words
    (omega (arith, e, c.self.invariant.0, c.self.invariant.1)) ∙ c.self.invariant.0

pub returns-in-Some-clause-after : goal.returns-in-Some-clause-after
returns-in-Some-clause-after c =
    values_set c.self.inside.is_set c.self.inside.words c.args.at c.in-Some.word
    ∙ (ap (λ (xs : List (Option ℕ)). set xs c.args.at (Some c.in-Some.word)) c.self.view_is
    ∙ ap (λ (v : Option ℕ). set c.args.self.now c.args.at v) (sym c.in-Some.is))

pub returns-in-Some-clause-size : goal.returns-in-Some-clause-size
returns-in-Some-clause-size c =
    let e : length (set c.self.inside.is_set c.args.at true) ≡ length c.self.inside.is_set
    = length-set c.self.inside.is_set c.args.at true in
    let f : length (set c.self.inside.words c.args.at c.in-Some.word) ≡ length c.self.inside.words
    = length-set c.self.inside.words c.args.at c.in-Some.word in
    length-values (set c.self.inside.is_set c.args.at true) (set c.self.inside.words c.args.at c.in-Some.word)
    (omega (arith, e, f, c.self.invariant.0, c.self.invariant.1)) ∙ (f ∙ c.self.invariant.0)
