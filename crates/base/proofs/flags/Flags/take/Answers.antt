use Rattle.std.proofs.Common.{◌≡◌, false, length, set, ap, sym, ◌∙◌, arith}
use Rattle.std.proofs.lemmas.List.{set_past}
use Rattle.base.proofs.FlagFacts.{take_flag, length_flags}
use Rattle.base.proofs.flags.Flags.take.Goals as goal

pub returns-then-q-clause-value : goal.returns-then-q-clause-value
returns-then-q-clause-value g c =
    take_flag g.row.N c.self.inside.words c.args.q (omega arith)
    (omega (arith, c.self.invariant.0, c.self.invariant.1))
    ∙ ap (λ z. set z c.args.q false) c.self.view_is

pub returns-then-q-clause-size : goal.returns-then-q-clause-size
returns-then-q-clause-size g c = ap length (sym c.self.view_is) ∙ length_flags g.row.N c.self.inside.words

pub returns-else-q-clause-value : goal.returns-else-q-clause-value
returns-else-q-clause-value g c =
    let size : length c.args.self.now ≡ g.row.N = ap length (sym c.self.view_is)
    ∙ length_flags g.row.N c.self.inside.words in
    sym (set_past c.args.self.now c.args.q false (omega (arith, size)))

pub returns-else-q-clause-size : goal.returns-else-q-clause-size
returns-else-q-clause-size g c = ap length (sym c.self.view_is) ∙ length_flags g.row.N c.self.inside.words
