use Rattle.std.proofs.Common.{refl}
use Rattle.c_meaning.proofs.Unwinds.{expr_placed, gave_placed, stmt_placed}
use Rattle.c_meaning.proofs.store.Store.place.Goals as goal

pub returns-in_ok-push-in-AtExpr : goal.returns-in_ok-push-in-AtExpr
returns-in_ok-push-in-AtExpr c =
    λ r h. expr_placed c.args.program.now c.args.token c.args.self.now.stop c.in-AtExpr.field-0 c.args.self.now
    record c.args.self.now { pending = c.push.new.self } r c.in-AtExpr.is refl
    c.in_ok-push-in-AtExpr.ensures.items h

pub returns-in_ok-push-in-AtStmt : goal.returns-in_ok-push-in-AtStmt
returns-in_ok-push-in-AtStmt c =
    λ r h. stmt_placed c.args.program.now c.args.token c.args.self.now.stop c.in-AtStmt.field-0 c.args.self.now
    record c.args.self.now { pending = c.push-in-AtStmt.new.self } r c.in-AtStmt.is refl
    c.in_ok-push-in-AtStmt.ensures.items h

pub returns-in_ok-push-in-Gave : goal.returns-in_ok-push-in-Gave
returns-in_ok-push-in-Gave c =
    λ r h. gave_placed c.args.program.now c.args.token c.args.self.now.stop c.args.self.now
    record c.args.self.now { pending = c.push-in-Gave.new.self } r c.in-Gave.is refl
    c.in_ok-push-in-Gave.ensures.items h
