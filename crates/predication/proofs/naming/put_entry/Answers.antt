use Rattle.std.proofs.Common.{List, sym, ap, ◌∙◌}
use Rattle.predication.specs.declared.work.Named.{Named}
use Rattle.predication.specs.inside.Emits.{env_of, place_from}
use Rattle.predication.proofs.NameLemmas.{placed_within, placed_env, unplaced_env}
use Rattle.predication.proofs.naming.put_entry.Goals as goal

pub set-requires : goal.set-requires
set-requires c =
    placed_within c.args.register c.in-Some.at c.args.entries.now
    (ap (λ (x : List Named). place_from 0 c.args.register x) (sym c.as_slice.ensures.value)
    ∙ sym c.place_of.ensures ∙ c.in-Some.is)

pub returns-in-Some : goal.returns-in-Some
returns-in-Some c =
    ap (λ (x : List Named). env_of x) c.set.ensures.value
    ∙ placed_env c.args.register c.in-Some.at c.args.entries.now c.args.entry
    (ap (λ (x : List Named). place_from 0 c.args.register x) (sym c.as_slice.ensures.value)
    ∙ sym c.place_of.ensures ∙ c.in-Some.is)

pub returns-in_ok-push-in-None : goal.returns-in_ok-push-in-None
returns-in_ok-push-in-None c =
    ap (λ (x : List Named). env_of x) c.in_ok-push-in-None.ensures.ok
    ∙ unplaced_env c.args.register c.args.entries.now c.args.entry
    (ap (λ (x : List Named). place_from 0 c.args.register x) (sym c.as_slice.ensures.value)
    ∙ sym c.place_of.ensures ∙ c.in-None.is)
