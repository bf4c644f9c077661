use Rattle.std.proofs.Common.{◌≡◌, true, false, refl, sym, subst}
use Rattle.grid_tallies.specs.declared.statistic.Statistic.TheVariants as statistic
use Rattle.grid_tallies.specs.inside.Adding.{Adds, TokensHeard}
use Rattle.grid_tallies.proofs.Answering.{tokens_heard}
use Rattle.grid_tallies.proofs.data_tiles.count_entering.Goals as goal

pub returns-then-not-store : goal.returns-then-not-store
returns-then-not-store g c =
    let off : c.args.store ≡ false = cc in
    tokens_heard c.args.store c.args.frame c.args.slot (g.V.Windows.held c.args.window.now).frames c.args.told.now
    c.add.new.self off
    (subst (λ n. Adds statistic.Parcels n c.args.told.now c.add.new.self) c.tokens_at-entered.ensures c.add.ensures)

pub returns-else-not-store : goal.returns-else-not-store
returns-else-not-store g c =
    let on : c.args.store ≡ true = cc in
    subst (λ s. TokensHeard s c.args.frame c.args.slot (g.V.Windows.held c.args.window.now).frames c.args.told.now
    c.args.told.now) (sym on) refl
