use Rattle.std.proofs.Common.{refl}
use Rattle.c_meaning.specs.declared.frame.Waiting.TheVariants as waiting
use Rattle.c_meaning.proofs.Unwinds.{expr_more, gave_more, stmt_more}
use Rattle.c_meaning.proofs.store.Store.through_call.Goals as goal

pub returns-in_ok-push-in-AtExpr : goal.returns-in_ok-push-in-AtExpr
returns-in_ok-push-in-AtExpr c =
    λ r h. expr_more c.args.program.now c.args.self.now.stop c.in-AtExpr.field-0 c.args.self.now
    record c.args.self.now { pending = c.push.new.self } (waiting.Call c.args.token) r c.in-AtExpr.is refl
    c.in_ok-push-in-AtExpr.ensures.items h

pub returns-in_ok-push-in-AtStmt : goal.returns-in_ok-push-in-AtStmt
returns-in_ok-push-in-AtStmt c =
    λ r h. stmt_more c.args.program.now c.args.self.now.stop c.in-AtStmt.field-0 c.args.self.now
    record c.args.self.now { pending = c.push-in-AtStmt.new.self } (waiting.Call c.args.token) r c.in-AtStmt.is refl
    c.in_ok-push-in-AtStmt.ensures.items h

pub returns-in_ok-push-in-Gave : goal.returns-in_ok-push-in-Gave
returns-in_ok-push-in-Gave c =
    λ r h. gave_more c.args.program.now c.args.self.now.stop c.args.self.now
    record c.args.self.now { pending = c.push-in-Gave.new.self } (waiting.Call c.args.token) r c.in-Gave.is refl
    c.in_ok-push-in-Gave.ensures.items h
