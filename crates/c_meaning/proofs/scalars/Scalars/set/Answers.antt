use Rattle.std.proofs.Common.{◌≡◌, ◌++◌, ◌+◌, ℕ, Option, List, length, take, set, ap, sym, ◌∙◌, arith, rules}
use Rattle.c_meaning.proofs.InPlace.{count_in, is_past, is_there, no_case, set_in, set_later}
use Rattle.c_meaning.proofs.scalars.Scalars.set.Goals as goal

pub returns-then-at-count-clause-after : goal.returns-then-at-count-clause-after
returns-then-at-count-clause-after c =
    ap (λ (xs : List (Option ℕ)). take c.self.inside.count xs ++ c.self.inside.more.items) c.put.ensures.after
    ∙ (set_in c.self.inside.few c.self.inside.more.items c.self.inside.count c.args.at c.args.value
    (omega arith) (omega (arith, c.self.invariant.0, c.self.invariant.1))
    ∙ ap (λ (xs : List (Option ℕ)). set xs c.args.at c.args.value) c.self.view_is)

pub returns-then-place-len-clause-there : goal.returns-then-place-len-clause-there
returns-then-place-len-clause-there c =
    let e : length c.args.self.now ≡ c.self.inside.count + length c.self.inside.more.items
    = ap length (sym c.self.view_is)
    ∙ count_in c.self.inside.few c.self.inside.more.items c.self.inside.count
    (omega (arith, c.self.invariant.0, c.self.invariant.1)) in
    (λ _. is_there c.args.self.now c.args.at (omega (arith, e)), λ _. search rules)

pub returns-then-place-len-clause-after : goal.returns-then-place-len-clause-after
returns-then-place-len-clause-after c =
    set_later c.self.inside.few c.self.inside.more.items c.self.inside.count c.args.at c.args.value
    (omega arith) (omega (arith, c.self.invariant.0, c.self.invariant.1))
    ∙ ap (λ (xs : List (Option ℕ)). set xs c.args.at c.args.value) c.self.view_is

pub returns-else-place-len-clause-there : goal.returns-else-place-len-clause-there
returns-else-place-len-clause-there c =
    let e : length c.args.self.now ≡ c.self.inside.count + length c.self.inside.more.items
    = ap length (sym c.self.view_is)
    ∙ count_in c.self.inside.few c.self.inside.more.items c.self.inside.count
    (omega (arith, c.self.invariant.0, c.self.invariant.1)) in
    (λ h. no_case c.args.self.now c.args.at h, λ h. is_past c.args.self.now c.args.at (omega (arith, e)) h)
