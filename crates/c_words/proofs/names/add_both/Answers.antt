use Rattle.c_words.proofs.NameFacts.{agree_added}
use Rattle.c_words.proofs.names.add_both.Goals as goal

pub returns-in-Ok-clause-agree : goal.returns-in-Ok-clause-agree
returns-in-Ok-clause-agree c =
    agree_added c.args.set.now c.insert.new.self c.args.words.now.items c.reserve.new.self.items
    c.push_reserved.new.self.items c.args.word c.args.again c.requires.before c.requires.same
    c.in-Ok.ensures.updates.0 c.reserve.ensures.items c.push_reserved.ensures.items
