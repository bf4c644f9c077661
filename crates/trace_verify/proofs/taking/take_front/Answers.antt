use Rattle.std.proofs.Common.{◌≡◌, ℕ, ◌+◌, ◌<◌, ◌++◌, ◌∷◌, [], List, length, ap, sym, subst, ◌∙◌, arith, inl, inr}
use Rattle.std.proofs.lemmas.Bool.{cases_lt}
use Rattle.std.proofs.lemmas.List.{length-append}
use Rattle.trace_verify.specs.declared.parts.Stage.{Stage}
use Rattle.trace_verify.specs.inside.Verifying.{StandsAt}
use Rattle.trace_verify.proofs.Holding.{held_same}
use Rattle.trace_verify.proofs.taking.take_front.Goals as goal

pub returns-in-More-clause-held : goal.returns-in-More-clause-held
returns-in-More-clause-held c = held_same c.args.parts.now c.keep.new.parts
    (c.args.parts.now.at + 1) c.keep.ensures.parts
    c.requires.held (subst (λ (t : Stage). StandsAt c.keep.new.parts t) (sym c.requires.stage) fewer)
  where
    old : length c.args.parts.now.seen.items < 12
    old = subst (λ (t : Stage). StandsAt c.args.parts.now t) c.requires.stage c.requires.held.stands

    longer : length c.keep.new.parts.seen.items ≡ length c.args.parts.now.seen.items + 1
    longer = ap (λ (xs : List ℕ). length xs) c.keep.ensures.seen
        ∙ length-append c.args.parts.now.seen.items (c.args.byte ∷ [])

    fewer : length c.keep.new.parts.seen.items < 12
    fewer = elim (cases_lt (length c.keep.new.parts.seen.items) 12) [
      | inl lt ↦ lt
      | inr ge ↦
          let full : length c.keep.new.parts.seen.items ≡ 12 = omega (arith, old, longer, ge) in
          absurd (c.judge_front.ensures.more c.in-More.is (ap (λ (xs : List ℕ). length xs) c.as_slice.ensures.value
          ∙ full))
    ]
