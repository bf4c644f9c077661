use Rattle.std.proofs.Common.{sym, ap, Some, ◌∙◌}
use Rattle.commit_flush_spec.specs.Older.{committed}
use Rattle.frame_state.specs.inside.Held.{taken_of}
use Rattle.commit_flush.proofs.BankFacts.{age_below}
use Rattle.commit_flush.proofs.LoadTold.{seen_word_is}
use Rattle.commit_flush.proofs.window.Window.loaded.Goals as goal

pub bytes-requires-clause-age : goal.bytes-requires-clause-age
bytes-requires-clause-age c = age_below c.args.frame c.args.self.now.window.frames c.args.age c.requires

pub returns-in-From : goal.returns-in-From
returns-in-From c =
    let w = c.args.self.now.window in
    seen_word_is (committed w.state) c.args.frame c.args.number c.args.age c.bytes.result c.in-From.address
    c.in-From.size w.frames c.requires
    (sym (ap (λ t. Some (taken_of t)) c.in-From.is) ∙ c.in-Some.ensures) c.bytes.ensures
