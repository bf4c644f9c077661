use Rattle.std.proofs.Common.{sym, ap, ◌∙◌, arith}
use Rattle.commit_flush_spec.specs.Older.{committed}
use Rattle.frame_state.specs.inside.Held.{running}
use Rattle.commit_flush.specs.inside.Steps.{is_next}
use Rattle.commit_flush.proofs.StepFacts.{firing_below, read_below, store_below, load_below}
use Rattle.commit_flush.proofs.allowed.is_next.Goals as goal

pub overflow_cast-number : goal.overflow_cast-number
overflow_cast-number c =
    let l = firing_below c.args.step c.args.number c.in-Firing.is c.requires in omega (arith, l)

pub overflow_cast-number-in-Read : goal.overflow_cast-number-in-Read
overflow_cast-number-in-Read c =
    let l = read_below c.args.step c.args.number c.in-Read.is c.requires in omega (arith, l)

pub overflow_cast-number-in-Store : goal.overflow_cast-number-in-Store
overflow_cast-number-in-Store c =
    let l = store_below c.args.step c.args.number c.in-Store.is c.requires in omega (arith, l)

pub overflow_cast-number-in-Load : goal.overflow_cast-number-in-Load
overflow_cast-number-in-Load c =
    let l = load_below c.args.step c.args.number c.in-Load.is c.requires in omega (arith, l)

pub returns-in-Token : goal.returns-in-Token
returns-in-Token c = λ s.
    c.is_token.ensures s
    ∙ ap (λ t. is_next t (committed s) (running c.args.block.now c.args.held.now) c.args.number) (sym c.in-Token.is)

pub returns-in-Firing : goal.returns-in-Firing
returns-in-Firing c = λ s.
    c.is_ready.ensures s
    ∙ ap (λ t. is_next t (committed s) (running c.args.block.now c.args.held.now) c.args.number) (sym c.in-Firing.is)

pub returns-in-Read : goal.returns-in-Read
returns-in-Read c = λ s.
    c.is_unread.ensures s
    ∙ ap (λ t. is_next t (committed s) (running c.args.block.now c.args.held.now) c.args.number) (sym c.in-Read.is)

pub returns-in-Store : goal.returns-in-Store
returns-in-Store c = λ s.
    c.is_store.ensures s
    ∙ ap (λ t. is_next t (committed s) (running c.args.block.now c.args.held.now) c.args.number) (sym c.in-Store.is)

pub returns-in-Load : goal.returns-in-Load
returns-in-Load c = λ s.
    c.is_load.ensures s
    ∙ ap (λ t. is_next t (committed s) (running c.args.block.now c.args.held.now) c.args.number) (sym c.in-Load.is)
