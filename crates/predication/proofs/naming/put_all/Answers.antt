use Rattle.std.proofs.Common.{List, sym, ap, ◌∙◌}
use Rattle.predication.specs.declared.work.Named.{Named}
use Rattle.predication.specs.inside.Environments.{Env}
use Rattle.predication.specs.inside.Emits.{env_of, puts}
use Rattle.predication.proofs.NameLemmas.{puts_last}
use Rattle.predication.proofs.naming.put_all.Goals as goal

pub loop-last-preserved : goal.loop-last-preserved
loop-last-preserved c =
    let env = env_of c.loop-last.entries in
    ap (λ (x : Env). puts c.pop.new.self x) c.in_ok-put_entry.ensures
    ∙ sym (puts_last c.pop.new.self c.in-Some.last env)
    ∙ ap (λ (x : List Named). puts x env) (sym c.in-Some.ensures.value) ∙ c.loop-last.invariant
