use Rattle.std.proofs.Common.{refl, sym, ap, ◌∙◌}
use Rattle.hyper_trim.specs.inside.Forward.{is_mov, reads}
use Rattle.hyper_trim.specs.inside.Entries.{copies_of}
use Rattle.hyper_trim.proofs.Lists.{behind_kept, behind_more}
use Rattle.hyper_trim.proofs.forwarding.behind_set.Goals as goal

pub returns-in_ok-push : goal.returns-in_ok-push
returns-in_ok-push c =
    ap copies_of c.in_ok-push.ensures.ok
    ∙ behind_more c.forget.new.entries (is_mov c.args.op) (reads c.args.to c.args.s) c.args.to c.args.s
    (copies_of c.args.entries.now) refl (sym c.remembers.ensures ∙ c.if-remembers.true) c.in_ok-forget.ensures

pub returns-else-remembers : goal.returns-else-remembers
returns-else-remembers c =
    c.in_ok-forget.ensures
    ∙ sym (behind_kept (is_mov c.args.op) (reads c.args.to c.args.s) c.args.to c.args.s
    (copies_of c.args.entries.now) refl (sym c.remembers.ensures ∙ c.if-remembers.false))
